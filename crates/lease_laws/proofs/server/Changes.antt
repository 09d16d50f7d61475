-- A Break stands before the Changed that needed it.
use Rattle.lease_laws.proofs.Words.{◌&&◌, ◌++◌, ◌==◌, ◌∙◌, ◌∷◌, ◌≡◌, ◌⊎◌, Among, AreGuarded, AreOf, BecomesBy, Bool}
use Rattle.std.proofs.Common.{arith}
use Rattle.lease_laws.proofs.Words.{CachesAlone, Call, ComesBehindBreaks, Decides-eqb, EachOut, FileRequest, GoOn, HasGivenUp}
use Rattle.lease_laws.proofs.Words.{IsCaching, IsGivenUp, IsGuarded, IsOfCall, IsRaised, IsSound, Key, Lease, LeaseOf, List}
use Rattle.lease_laws.proofs.Words.{MayEnd, None, Open, Option, Out, Outcome, Patch, Progress, Reply, Request, Server, SmallStep}
use Rattle.lease_laws.proofs.Words.{Some, State, Status, StaysOrRises, WaitsWell, ℕ, ⊎_elim, ⊤, [], acknowledged, ap}
use Rattle.lease_laws.proofs.Words.{append-nil, append_assoc, break_notice, call_begun, called, concluded}
use Rattle.lease_laws.proofs.Words.{connected_open, false, granted_form_of, has_lease, held_left, inl, inr, is_breaking}
use Rattle.lease_laws.proofs.Words.{is_left_open, is_some, key_of, nothing_cached, refl}
use Rattle.lease_laws.proofs.Words.{MayServe, refusal_of, refused, step_taken, steps_taken, subst, sym}
use Rattle.lease_laws.proofs.server.Keys.{put_key-cases}
use Rattle.lease_laws.proofs.server.Lists.{clash, and_parts, among_behind, find_has}
use Rattle.lease_laws.proofs.server.OutCalls.{request_held-outs, held_left-outs}
use Rattle.lease_laws.proofs.server.OutLists.{go_on-same, go_on-weaker}
use Rattle.lease_laws.proofs.server.OutSteps.{opens_dropped-outs}
use Rattle.lease_laws.proofs.server.StepCalls.{called-steps, call_begun-silent, call_begun-up}
use Rattle.lease_laws.proofs.server.StepKeeps.{step-sound}
use Rattle.lease_laws.proofs.server.StepLeases.{step-leases, held_left-serves}
use Rattle.lease_laws.proofs.server.StepOuts.{IsOfRequest, IsSentTo, concluded-out, acknowledged-out, step-tells}
use Rattle.lease_laws.proofs.server.cases.Judgements.{any_judgement}
use Rattle.lease_laws.proofs.server.cases.Ends.{ends_changed}

-- ---- lists

append_same : {X : Type 0} (xs ys zs : List X) → xs ++ ys ≡ xs ++ zs → ys ≡ zs
append_same [] ys zs e = e
append_same (x ∷ xs) ys zs e = append_same xs ys zs (tails e)
  where
    tails : x ∷ (xs ++ ys) ≡ x ∷ (xs ++ zs) → xs ++ ys ≡ xs ++ zs
    tails e = cc

-- an element of two lists is of the first or of the second
pub record InFirst {X : Type 0} (xs before : List X) (x : X) : Type 0 where
  pub left : List X
  pub is : xs ≡ before ++ x ∷ left

pub record InSecond {X : Type 0} (xs ys before behind : List X) (x : X) : Type 0 where
  pub left : List X
  pub is : before ≡ xs ++ left
  pub rest : ys ≡ left ++ x ∷ behind

split : {X : Type 0} (xs ys before behind : List X) (x : X) → xs ++ ys ≡ before ++ x ∷ behind
    → InFirst xs before x ⊎ InSecond xs ys before behind x
split [] ys before behind x e = inr (record { left = before; is = refl; rest = e })
split (y ∷ xs) ys [] behind x e = inl (record { left = xs; is = ap (λ z. z ∷ xs) (heads e) })
  where
    heads : y ∷ (xs ++ ys) ≡ x ∷ behind → y ≡ x
    heads e = cc
split (y ∷ xs) ys (z ∷ before) behind x e = ⊎_elim
    (λ f. inl (record { left = f.left; is = ap (λ l. y ∷ l) f.is ∙ ap (λ w. w ∷ (before ++ x ∷ f.left)) (heads e) }))
    (λ s. inr (record { left = s.left; is = ap (λ w. w ∷ before) (sym (heads e)) ∙ ap (λ l. y ∷ l) s.is; rest = s.rest }))
    (split xs ys before behind x (tails e))
  where
    heads : y ∷ (xs ++ ys) ≡ z ∷ (before ++ x ∷ behind) → y ≡ z
    heads e = cc

    tails : y ∷ (xs ++ ys) ≡ z ∷ (before ++ x ∷ behind) → xs ++ ys ≡ before ++ x ∷ behind
    tails e = cc

each_at : (Holds : Out → Type 0) (before behind : List Out) (x : Out) → EachOut Holds (before ++ x ∷ behind) → Holds x
each_at Holds [] behind x each = each.0
each_at Holds (y ∷ before) behind x each = each_at Holds before behind x each.1

-- what goes on by outs of a kind has none of another among the new ones
go_at : (Holds : Out → Type 0) (a c more before behind : List Out) (x : Out) → GoOn Holds a c → c ≡ a ++ more
    → more ≡ before ++ x ∷ behind → Holds x
go_at Holds a c more before behind x g e at = each_at Holds before behind x
    (subst (EachOut Holds) (append_same a g.more more (sym g.are_more ∙ e) ∙ at) g.each)

none_in : {X : Type 0} (before behind : List X) (x : X) → [] ≡ before ++ x ∷ behind → ⊥
none_in [] behind x e = cc
none_in (y ∷ before) behind x e = cc

-- ---- the step that changes a file

-- the open by which a client may change a file
pub record ChangesBy (server : Server) (file client : ℕ) : Type 0 where
  pub one : Open
  pub is_there : Among one server.opens
  pub is_by : one.client ≡ client
  pub is_on : one.file ≡ file
  pub alone : CachesAlone server one

-- a write that is done gives out its change first
pub record IsFirst (server : Server) (file client : ℕ) (before : List Out) : Type 0 where
  pub first : before ≡ []
  pub open_so : ChangesBy server file client

written_first : (client file_id number : ℕ) (patch : Patch) (server : Server) (one : Open)
    → connected_open server client file_id ≡ Some one → CachesAlone server one
    → (before behind : List Out) (file by n : ℕ) (p : Patch)
    → Out.Changed one.file client number patch ∷ Out.Sent client (Reply.WriteDone file_id number) ∷ []
    ≡ before ++ Out.Changed file by n p ∷ behind → IsFirst server file by before
written_first client file_id number patch server one found alone [] behind file by n p e =
    let there = find_has _ one server.opens found in record {
      first = refl;
      open_so = record {
        one = one;
        is_there = there.0;
        is_by = (Decides-eqb one.client client).0 (and_parts (one.file_id == file_id) (one.client == client)
            (and_parts (one.file_id == file_id && one.client == client) one.connected there.1).0).1 ∙ writers e;
        is_on = files e;
        alone = alone;
      };
    }
  where
    writers : Out.Changed one.file client number patch ∷ Out.Sent client (Reply.WriteDone file_id number) ∷ []
        ≡ Out.Changed file by n p ∷ behind → client ≡ by
    writers e = cc

    files : Out.Changed one.file client number patch ∷ Out.Sent client (Reply.WriteDone file_id number) ∷ []
        ≡ Out.Changed file by n p ∷ behind → one.file ≡ file
    files e = cc
written_first client file_id number patch server one found alone (x ∷ before) behind file by n p e =
    absurd (never before (tails e))
  where
    tails : Out.Changed one.file client number patch ∷ Out.Sent client (Reply.WriteDone file_id number) ∷ []
        ≡ x ∷ (before ++ Out.Changed file by n p ∷ behind)
        → Out.Sent client (Reply.WriteDone file_id number) ∷ [] ≡ before ++ Out.Changed file by n p ∷ behind
    tails e = cc

    never : (before : List Out) → Out.Sent client (Reply.WriteDone file_id number) ∷ []
        ≡ before ++ Out.Changed file by n p ∷ behind → ⊥
    never [] e = cc
    never (y ∷ []) e = cc
    never (y ∷ (z ∷ left)) e = cc

-- a refusal changes nothing
refused_first : (client : ℕ) (request : FileRequest) (status : Status) (progress : Progress)
    (more before behind : List Out) (file by n : ℕ) (p : Patch)
    → (refused client request status progress).outs ≡ progress.outs ++ more
    → more ≡ before ++ Out.Changed file by n p ∷ behind → ⊥
refused_first client request status progress more before behind file by n p e at =
    go_at (IsSentTo client) progress.outs (refused client request status progress).outs more before behind
    (Out.Changed file by n p)
    (record { more = Out.Sent client (refusal_of request status) ∷ []; are_more = refl; each = (refl, tt) }) e at

-- a write that is served
served_first : (client file_id number : ℕ) (patch : Patch) (progress : Progress)
    → MayServe progress.server client (FileRequest.Write file_id number patch) → (more before behind : List Out)
    (file by n : ℕ) (p : Patch)
    → (concluded client (FileRequest.Write file_id number patch) progress Outcome.Ready).outs ≡ progress.outs ++ more
    → more ≡ before ++ Out.Changed file by n p ∷ behind → IsFirst progress.server file by before
served_first client file_id number patch progress may more before behind file by n p e at =
    written_first client file_id number patch progress.server may.one may.found may.allowed.alone before behind file by n p
    (append_same progress.outs _ more
    (sym (ap (λ q. q.outs) (ends_changed client file_id number patch may.one progress may.found)) ∙ e) ∙ at)

-- the end of a request
concluded_first : (client : ℕ) (request : FileRequest) (progress : Progress) (outcome : Outcome)
    → MayEnd progress.server client request outcome → (more before behind : List Out) (file by n : ℕ) (p : Patch)
    → (concluded client request progress outcome).outs ≡ progress.outs ++ more
    → more ≡ before ++ Out.Changed file by n p ∷ behind → IsFirst progress.server file by before
concluded_first client request progress (Outcome.Refused status) may more before behind file by n p e at =
    absurd (refused_first client request status progress more before behind file by n p e at)
concluded_first client request progress Outcome.Waits may more before behind file by n p e at = absurd may
concluded_first client request progress Outcome.Ready may more before behind file by n p e at =
    let write = go_at (IsOfRequest client request) progress.outs _ more before behind (Out.Changed file by n p)
    (concluded-out client request progress Outcome.Ready) e at in
    subst (λ r. MayServe progress.server client r → (concluded client r progress Outcome.Ready).outs ≡ progress.outs ++ more
    → IsFirst progress.server file by before) (sym write.1)
    (λ m x. served_first client write.0 n p progress m more before behind file by n p x at) may.1 e

-- any step
step_first : (step : SmallStep) (progress : Progress) → IsGuarded step progress.server
    → (more before behind : List Out) (file by n : ℕ) (p : Patch)
    → (step_taken step progress).outs ≡ progress.outs ++ more → more ≡ before ++ Out.Changed file by n p ∷ behind
    → IsFirst progress.server file by before
step_first (SmallStep.Answer client request outcome) progress may more before behind file by n p e at =
    concluded_first client request progress outcome may more before behind file by n p e at
step_first (SmallStep.AnswerHeld on earlier one later outcome) progress may more before behind file by n p e at =
    by_outcome outcome may.1 (e ∙ ap (λ l. l ++ more) (sym (held_left-outs on (earlier ++ later) progress)))
  where
    same : IsFirst (held_left on (earlier ++ later) progress).server file by before → IsFirst progress.server file by before
    same f = grind arith

    by_outcome : (o : Outcome) → MayEnd progress.server one.client one.request o
        → (concluded one.client one.request (held_left on (earlier ++ later) progress) o).outs
        ≡ (held_left on (earlier ++ later) progress).outs ++ more → IsFirst progress.server file by before
    by_outcome (Outcome.Refused status) m x = absurd (refused_first one.client one.request status
        (held_left on (earlier ++ later) progress) more before behind file by n p x at)
    by_outcome Outcome.Waits m x = absurd m
    by_outcome Outcome.Ready m x = same (concluded_first one.client one.request
        (held_left on (earlier ++ later) progress) Outcome.Ready
        (m.0, held_left-serves one.client one.request on (earlier ++ later) progress m.1) more before behind file by n p x at)
step_first (SmallStep.Acknowledge client given) progress may more before behind file by n p e at =
    absurd (go_at (IsSentTo client) progress.outs (acknowledged client given progress).outs more before behind
    (Out.Changed file by n p) (acknowledged-out client given progress) e at)
step_first (SmallStep.Hold on one) progress may more before behind file by n p e at =
    absurd (go_at (λ out. ⊥) progress.outs progress.outs more before behind (Out.Changed file by n p)
    (go_on-same (λ out. ⊥) progress.outs) (sym (request_held-outs on one progress) ∙ e) at)
step_first (SmallStep.Drop key) progress may more before behind file by n p e at =
    absurd (go_at (λ out. ⊥) progress.outs progress.outs more before behind (Out.Changed file by n p)
    (go_on-same (λ out. ⊥) progress.outs) (sym (opens_dropped-outs (is_left_open key) progress) ∙ e) at)
step_first (SmallStep.Lower key lowered) progress may more before behind file by n p e at =
    absurd (go_at (IsSentTo key.client) progress.outs _ more before behind (Out.Changed file by n p)
    (record { more = _; are_more = step-tells (SmallStep.Lower key lowered) progress; each = (refl, tt) }) e at)
step_first (SmallStep.Begin key lowered) progress may more before behind file by n p e at =
    absurd (go_at (IsSentTo key.client) progress.outs _ more before behind (Out.Changed file by n p)
    (record { more = _; are_more = step-tells (SmallStep.Begin key lowered) progress; each = (refl, tt) }) e at)

-- ---- where a change stands

any_go : (Holds : Out → Type 0) (a c : List Out) → GoOn Holds a c → GoOn (λ out. ⊤) a c
any_go Holds a c g = go_on-weaker Holds (λ out. ⊤) (λ out h. tt) a c g

step_more : (step : SmallStep) (progress : Progress) → GoOn (λ out. ⊤) progress.outs (step_taken step progress).outs
step_more (SmallStep.Lower key lowered) progress =
    record { more = _; are_more = step-tells (SmallStep.Lower key lowered) progress; each = (tt, tt) }
step_more (SmallStep.Begin key lowered) progress =
    record { more = _; are_more = step-tells (SmallStep.Begin key lowered) progress; each = (tt, tt) }
step_more step progress = any_go _ _ _ (step-tells step progress)

pub record GoesOn (earlier later : List Out) : Type 0 where
  pub more : List Out
  pub are_more : later ≡ earlier ++ more

steps_more : (steps : List SmallStep) (progress : Progress) → GoesOn progress.outs (steps_taken steps progress).outs
steps_more [] progress = record { more = []; are_more = sym (append-nil progress.outs) }
steps_more (step ∷ steps) progress =
    let one = step_more step progress in
    let rest = steps_more steps (step_taken step progress) in record {
      more = one.more ++ rest.more;
      are_more = rest.are_more ∙ ap (λ l. l ++ rest.more) one.are_more ∙ append_assoc progress.outs one.more rest.more;
    }

-- the steps before a change among what they give out
pub record IsReached (steps : List SmallStep) (progress : Progress) (before : List Out) (file by : ℕ) : Type 0 where
  pub first : List SmallStep
  pub rest : List SmallStep
  pub are_both : steps ≡ first ++ rest
  pub lead : (steps_taken first progress).outs ≡ progress.outs ++ before
  pub open_so : ChangesBy (steps_taken first progress).server file by

reached : (steps : List SmallStep) (progress : Progress) → AreGuarded steps progress → (before behind : List Out)
    (file by n : ℕ) (p : Patch)
    → (steps_taken steps progress).outs ≡ progress.outs ++ (before ++ Out.Changed file by n p ∷ behind)
    → IsReached steps progress before file by
reached [] progress guarded before behind file by n p e = absurd (none_in before behind (Out.Changed file by n p)
    (append_same progress.outs [] (before ++ Out.Changed file by n p ∷ behind) (append-nil progress.outs ∙ e)))
reached (step ∷ steps) progress guarded before behind file by n p e =
    let next = step_taken step progress in
    let one = step_more step progress in
    let rest = steps_more steps next in
    let both : one.more ++ rest.more ≡ before ++ Out.Changed file by n p ∷ behind =
    append_same progress.outs (one.more ++ rest.more) (before ++ Out.Changed file by n p ∷ behind)
    (sym (append_assoc progress.outs one.more rest.more) ∙ sym (ap (λ l. l ++ rest.more) one.are_more) ∙ sym rest.are_more ∙ e) in
    ⊎_elim
    (λ f. let s = step_first step progress guarded.0 one.more before f.left file by n p one.are_more f.is in record {
      first = [];
      rest = step ∷ steps;
      are_both = refl;
      lead = sym (append-nil progress.outs) ∙ ap (λ l. progress.outs ++ l) (sym s.first);
      open_so = s.open_so;
    })
    (λ s. let r = reached steps next guarded.1 s.left behind file by n p (rest.are_more ∙ ap (λ l. next.outs ++ l) s.rest) in
    record {
      first = step ∷ r.first;
      rest = r.rest;
      are_both = ap (λ l. step ∷ l) r.are_both;
      lead = r.lead ∙ ap (λ l. l ++ s.left) one.are_more ∙ append_assoc progress.outs one.more s.left
          ∙ ap (λ l. progress.outs ++ l) (sym s.is);
      open_so = r.open_so;
    }) (split one.more rest.more before behind (Out.Changed file by n p) both)

-- ---- what is given up on the way

abbrev made : Bool → Bool → Bool → State
made r w h = record { read = r; write = w; handle = h }

nothing_or_not : (s : State) → (s ≡ nothing_cached) ⊎ (s ≡ nothing_cached → ⊥)
nothing_or_not s = grind arith

-- an acknowledgment leaves the lease of a key, or gives it the state that it tells
pub record IsAckOf (client : ℕ) (given : Option LeaseOf) (key : Key) (after : Lease) : Type 0 where
  pub told : LeaseOf
  pub is : given ≡ Some told
  pub own : key ≡ key_of client told.key
  pub left : after ≡ record { state = granted_form_of told.state; broken_to = None }

acked_leaves : (client : ℕ) (given : Option LeaseOf) (progress : Progress) (key : Key)
    → ((acknowledged client given progress).server.leases key ≡ progress.server.leases key)
    ⊎ IsAckOf client given key ((acknowledged client given progress).server.leases key)
acked_leaves client given progress key = any_judgement client progress
    (λ given after. (after.server.leases key ≡ progress.server.leases key) ⊎ IsAckOf client given key (after.server.leases key))
    (record {
      failed = λ given why. inl refl;
      ended = λ told lowered there breaks within.
          put_key-cases (λ l. (l ≡ progress.server.leases key) ⊎ IsAckOf client (Some told) key l) progress.server.leases
          (key_of client told.key) (record { state = granted_form_of told.state; broken_to = None }) key
          (λ same. inr (record { told = told; is = refl; own = same; left = refl })) (λ other. inl refl);
    }) given

-- where the key had still to give something up after the first step
goes_on : (call : Call) (key : Key) (step : SmallStep) (steps : List SmallStep) (progress : Progress)
    → HasGivenUp call key steps (step_taken step progress) → HasGivenUp call key (step ∷ steps) progress
goes_on call key step steps progress h = let one = step_more step progress in ⊎_elim
    (λ b. inl (record {
      since = one.more ++ b.since;
      are_more = b.are_more ∙ ap (λ l. l ++ b.since) one.are_more ∙ append_assoc progress.outs one.more b.since;
      told = record {
        current = b.told.current;
        is_told = among_behind (Out.Sent key.client (break_notice key b.told.current nothing_cached)) one.more b.since
            b.told.is_told;
      };
    }))
    (λ x. ⊎_elim (λ w. inr (inl (record {
      first = step ∷ w.first;
      rest = w.rest;
      are_both = ap (λ l. step ∷ l) w.are_both;
      is_gone = w.is_gone;
    }))) (λ a. inr (inr a)) x) h

-- a step that told the Break to nothing
told_now : (call : Call) (key other : Key) (lowered current : State) (step : SmallStep) (steps : List SmallStep)
    (progress : Progress) → key ≡ other → lowered ≡ nothing_cached
    → (step_taken step progress).outs ≡ progress.outs ++ Out.Sent other.client (break_notice other current lowered) ∷ []
    → HasGivenUp call key (step ∷ steps) progress
told_now call key other lowered current step steps progress same none outs =
    let rest = steps_more steps (step_taken step progress) in
    let one : Out = Out.Sent other.client (break_notice other current lowered) in inl (record {
      since = one ∷ rest.more;
      are_more = rest.are_more ∙ ap (λ l. l ++ rest.more) outs ∙ append_assoc progress.outs (one ∷ []) rest.more;
      told = record {
        current = current;
        is_told = inl (ap (λ k. Out.Sent k.client (break_notice k current nothing_cached)) same
            ∙ ap (λ s. Out.Sent other.client (break_notice other current s)) (sym none));
      };
    })

-- the lease as it was
same_on : (call : Call) (key : Key) (step : SmallStep) (steps : List SmallStep) (progress : Progress)
    → IsCaching (progress.server.leases key)
    → (IsCaching ((step_taken step progress).server.leases key) → HasGivenUp call key (step ∷ steps) progress)
    → (step_taken step progress).server.leases key ≡ progress.server.leases key → HasGivenUp call key (step ∷ steps) progress
same_on call key step steps progress caches later e = later (subst IsCaching (sym e) caches)

gone_on : (call : Call) (key : Key) (step : SmallStep) (steps : List SmallStep) (progress : Progress)
    → has_lease (step_taken step progress).server key ≡ false → HasGivenUp call key (step ∷ steps) progress
gone_on call key step steps progress e = inr (inl (record { first = step ∷ []; rest = steps; are_both = refl; is_gone = e }))

no_break : (lease : Lease) (lowered : State) → lease.broken_to ≡ Some lowered → is_breaking lease ≡ false → ⊥
no_break lease lowered e settled = clash (is_breaking lease) (ap is_some e) settled

-- a lease that caches something does so when it has risen
raised_caches : (before after : Lease) → IsRaised before after → IsCaching before → IsCaching after
raised_caches before after r caches given = grind arith

answer_on : (call : Call) (key : Key) (step : SmallStep) (steps : List SmallStep) (progress : Progress)
    → IsCaching (progress.server.leases key)
    → (IsCaching ((step_taken step progress).server.leases key) → HasGivenUp call key (step ∷ steps) progress)
    → StaysOrRises progress.server (step_taken step progress).server key → HasGivenUp call key (step ∷ steps) progress
answer_on call key step steps progress caches later b = ⊎_elim (same_on call key step steps progress caches later)
    (λ x. ⊎_elim (gone_on call key step steps progress)
    (λ r. later (raised_caches (progress.server.leases key) ((step_taken step progress).server.leases key) r caches)) x) b

-- a settled lease that holds something caches it
settled_caches : (lease : Lease) (state : State) → lease ≡ record { state = state; broken_to = None }
    → (state ≡ nothing_cached → ⊥) → IsCaching lease
settled_caches lease state e some given = grind arith

-- one that is breaking to something does
breaking_caches : (lease : Lease) (state lowered : State) → lease ≡ record { state = state; broken_to = Some lowered }
    → (state ≡ nothing_cached → ⊥) → (lowered ≡ nothing_cached → ⊥) → IsCaching lease
breaking_caches lease state lowered e some left given = grind arith

by_step : (call : Call) (key : Key) (step : SmallStep) (steps : List SmallStep) (progress : Progress) → IsOfCall call step
    → IsCaching (progress.server.leases key)
    → (IsCaching ((step_taken step progress).server.leases key) → HasGivenUp call key (step ∷ steps) progress)
    → BecomesBy step progress.server (step_taken step progress).server key → HasGivenUp call key (step ∷ steps) progress
by_step call key (SmallStep.Acknowledge client given) steps progress of caches later b =
    ⊎_elim (same_on call key (SmallStep.Acknowledge client given) steps progress caches later)
    (λ a. ⊎_elim
    (λ none. inr (inr (record {
      given = a.told;
      is_call = of ∙ ap (λ g. Call.Receive client (Request.Acknowledge g)) a.is
          ∙ ap (λ (k : Key). Call.Receive k.client (Request.Acknowledge (Some a.told))) (sym a.own);
      is_of_key = ap (λ (k : Key). k.bytes) (sym a.own);
      is_of_nothing = none;
    })))
    (λ some. later (settled_caches _ (granted_form_of a.told.state) a.left some)) (nothing_or_not (granted_form_of a.told.state)))
    (acked_leaves client given progress key)
by_step call key (SmallStep.Hold file one) steps progress of caches later b =
    same_on call key (SmallStep.Hold file one) steps progress caches later b
by_step call key (SmallStep.Drop other) steps progress of caches later b = ⊎_elim
    (same_on call key (SmallStep.Drop other) steps progress caches later)
    (gone_on call key (SmallStep.Drop other) steps progress) b
by_step call key (SmallStep.Lower other lowered) steps progress of caches later b = ⊎_elim
    (same_on call key (SmallStep.Lower other lowered) steps progress caches later)
    (λ x. ⊎_elim
    (λ none. told_now call key other lowered (progress.server.leases other).state (SmallStep.Lower other lowered) steps
    progress x.0 none (step-tells (SmallStep.Lower other lowered) progress))
    (λ some. later (settled_caches _ lowered x.1 some)) (nothing_or_not lowered)) b
by_step call key (SmallStep.Begin other lowered) steps progress of caches later b = ⊎_elim
    (same_on call key (SmallStep.Begin other lowered) steps progress caches later)
    (λ x. ⊎_elim
    (λ none. told_now call key other lowered (progress.server.leases other).state (SmallStep.Begin other lowered) steps
    progress x.0 none (step-tells (SmallStep.Begin other lowered) progress))
    (λ some. later (breaking_caches _ (progress.server.leases key).state lowered x.1 (λ none. caches (inl none)) some))
    (nothing_or_not lowered)) b
by_step call key step steps progress of caches later b = answer_on call key step steps progress caches later b

gave_up : (call : Call) (key : Key) (steps : List SmallStep) (progress : Progress) → IsSound progress.server
    → AreGuarded steps progress → AreOf call steps → IsCaching (progress.server.leases key)
    → IsGivenUp ((steps_taken steps progress).server.leases key) → HasGivenUp call key steps progress
gave_up call key [] progress s guarded of caches given = absurd (caches given)
gave_up call key (step ∷ steps) progress s guarded of caches given = by_step call key step steps progress of.0 caches
    (λ c. goes_on call key step steps progress
    (gave_up call key steps (step_taken step progress) (step-sound step progress s guarded.0) guarded.1 of.1 c given))
    (step-leases step progress s guarded.0 key)

-- ---- parts of a call

taken_append : (first rest : List SmallStep) (progress : Progress)
    → steps_taken (first ++ rest) progress ≡ steps_taken rest (steps_taken first progress)
taken_append [] rest progress = refl
taken_append (step ∷ first) rest progress = taken_append first rest (step_taken step progress)

guarded_first : (first rest : List SmallStep) (progress : Progress) → AreGuarded (first ++ rest) progress
    → AreGuarded first progress
guarded_first [] rest progress g = tt
guarded_first (step ∷ first) rest progress g = (g.0, guarded_first first rest (step_taken step progress) g.1)

guarded_rest : (first rest : List SmallStep) (progress : Progress) → AreGuarded (first ++ rest) progress
    → AreGuarded rest (steps_taken first progress)
guarded_rest [] rest progress g = g
guarded_rest (step ∷ first) rest progress g = guarded_rest first rest (step_taken step progress) g.1

of_first : (call : Call) (first rest : List SmallStep) → AreOf call (first ++ rest) → AreOf call first
of_first call [] rest o = tt
of_first call (step ∷ first) rest o = (o.0, of_first call first rest o.1)

of_rest : (call : Call) (first rest : List SmallStep) → AreOf call (first ++ rest) → AreOf call rest
of_rest call [] rest o = o
of_rest call (step ∷ first) rest o = of_rest call first rest o.1

sound_along : (steps : List SmallStep) (progress : Progress) → IsSound progress.server → AreGuarded steps progress
    → IsSound (steps_taken steps progress).server
sound_along [] progress s g = s
sound_along (step ∷ steps) progress s g = sound_along steps (step_taken step progress) (step-sound step progress s g.0) g.1

-- ---- calls

pub breaks-come-first : (server : Server) (call : Call) → IsSound server → WaitsWell server → (before behind : List Out)
    (file client number : ℕ) (patch : Patch) → (called server call).outs ≡ before ++ Out.Changed file client number patch ∷ behind
    → ComesBehindBreaks server call file client before
breaks-come-first server call s w before behind file client number patch e =
    let start = call_begun server call in
    let go = called-steps server call s w in
    let begun = call_begun-up server call s w in
    let r = reached go.steps start go.are_guarded before behind file client number patch
    (sym (ap (λ (p : Progress). p.outs) go.lead) ∙ e
    ∙ ap (λ l. l ++ (before ++ Out.Changed file client number patch ∷ behind)) (sym (call_begun-silent server call))) in
    let guarded = subst (λ l. AreGuarded l start) r.are_both go.are_guarded in
    let of = subst (AreOf call) r.are_both go.are_of in
    let first_guarded = guarded_first r.first r.rest start guarded in
    let first_of = of_first call r.first r.rest of in record {
      steps = r.first;
      rest = r.rest;
      are_guarded = guarded;
      are_of = of;
      are_whole = go.lead ∙ ap (λ l. steps_taken l start) r.are_both;
      lead = r.lead ∙ ap (λ l. l ++ before) (call_begun-silent server call);
      one = r.open_so.one;
      is_there = r.open_so.is_there;
      is_by = r.open_so.is_by;
      is_on = r.open_so.is_on;
      alone = r.open_so.alone;
      broken = λ first second is key other there on apart has caches.
          let parts = subst (λ l. AreGuarded l start) is first_guarded in
          gave_up call key second (steps_taken first start)
          (sound_along first start begun.sound (guarded_first first second start parts))
          (guarded_rest first second start parts) (of_rest call first second (subst (AreOf call) is first_of)) caches
          (subst (λ (p : Progress). IsGivenUp (p.server.leases key))
          (ap (λ l. steps_taken l start) is ∙ taken_append first second start)
          (r.open_so.alone key other there (on ∙ sym r.open_so.is_on) apart has));
    }
