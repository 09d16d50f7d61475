-- Tries and their ends go by guarded small steps.
use Rattle.lease_laws.proofs.Words.{◌&&◌, ◌++◌, ◌+◌, ◌∙◌, ◌∷◌, ◌≡◌, Among, AreGuarded, AreInKeyOrder, AreInTurn, AreOf}
use Rattle.lease_laws.proofs.Words.{Bool, Call, EndsFor, FileRequest, Finding, GoesBySteps}
use Rattle.lease_laws.proofs.Words.{IsGuarded, IsInTurn, IsLowered, IsOfCall, IsSound, Key, Lease}
use Rattle.lease_laws.proofs.Words.{List, MayCreate, MayEnd, MayLower, MayRefuse, MayServe, None, Open}
use Rattle.lease_laws.proofs.Words.{Outcome, Progress, Server, SmallStep, Some, State, Status, Want, ℕ, ⊤}
use Rattle.lease_laws.proofs.Words.{[], ap, ap₂, arith, awaits}
use Rattle.lease_laws.proofs.Words.{conflicts_on, connected_open, false, finding}
use Rattle.lease_laws.proofs.Words.{has_key, has_lease, inl, inr}
use Rattle.lease_laws.proofs.Words.{is_left_open, is_ready, key_before, key_eq}
use Rattle.lease_laws.proofs.Words.{lease_broken}
use Rattle.lease_laws.proofs.Words.{not, opens_dropped, own_count, own_key, refl, step_taken}
use Rattle.lease_laws.proofs.Words.{steps_taken, subst, sym, tried, tried_for, true, want_met, wants_met}
use Rattle.lease_laws.proofs.Words.{is_other_on, lease_of_open, put_key, true≢false, without, without_handle}
use Rattle.lease_laws.proofs.Words.{holds_any, key_of_open, nothing_cached, without_write}
use Rattle.lease_laws.proofs.server.Breaks.{left_present, wants_met-sound}
use Rattle.lease_laws.proofs.server.EnoughTries.{tries_end}
use Rattle.lease_laws.proofs.server.Keys.{put_key-cases, key_eq-same, key_eq-refl}
use Rattle.lease_laws.proofs.server.Lists.{clash, not_true, any_has, has_any, among_filter}
use Rattle.lease_laws.proofs.server.OutAnswers.{all_wants-given}
use Rattle.lease_laws.proofs.server.Ready.{enters_free}
use Rattle.lease_laws.proofs.server.Steps.{left_here}
use Rattle.lease_laws.proofs.server.Wanted.{wants_where-exact, key_before-self}
use Rattle.lease_laws.proofs.server.Wants.{needs-fit, others_wants-fit}
use Rattle.lease_laws.proofs.Words.{Extent, Option, begun, others_broken, others_wants}
use Rattle.lease_laws.proofs.server.cases.Findings.{NamesOpen, any_finding, any_needs}
use Rattle.lease_laws.proofs.server.cases.Tries.{IsWhole, any_break, any_rounds, any_wants}

-- ---- lists of steps

-- no step
pub steps_none : (call : Call) (progress : Progress) → GoesBySteps call 0 progress progress
steps_none call progress = grind arith

-- one step
pub step_one : (call : Call) (step : SmallStep) (progress : Progress) → IsGuarded step progress.server
    → IsInTurn step progress.server → IsOfCall call step
    → GoesBySteps call (own_count (step ∷ [])) progress (step_taken step progress)
step_one call step progress guard turn of = record {
  steps = step ∷ [];
  are_guarded = (guard, tt);
  are_in_turn = (turn, tt);
  are_of = (of, tt);
  are_own = refl;
  lead = refl;
}

-- steps, and then others
taken_append : (first later : List SmallStep) (progress : Progress)
    → steps_taken (first ++ later) progress ≡ steps_taken later (steps_taken first progress)
taken_append [] later progress = refl
taken_append (step ∷ first) later progress = taken_append first later (step_taken step progress)

-- they are guarded together
guarded_append : (first later : List SmallStep) (progress : Progress) → AreGuarded first progress
    → AreGuarded later (steps_taken first progress) → AreGuarded (first ++ later) progress
guarded_append [] later progress g h = h
guarded_append (step ∷ first) later progress g h = (g.0, guarded_append first later (step_taken step progress) g.1 h)

-- have their turns
in_turn_append : (first later : List SmallStep) (progress : Progress) → AreInTurn first progress
    → AreInTurn later (steps_taken first progress) → AreInTurn (first ++ later) progress
in_turn_append [] later progress g h = h
in_turn_append (step ∷ first) later progress g h = (g.0, in_turn_append first later (step_taken step progress) g.1 h)

-- are counted together
own_append : (first later : List SmallStep) → own_count (first ++ later) ≡ own_count first + own_count later
own_append [] later = omega arith
own_append (SmallStep.Answer client request outcome ∷ first) later = let e = own_append first later in omega (arith, e)
own_append (SmallStep.Hold file one ∷ first) later = let e = own_append first later in omega (arith, e)
own_append (SmallStep.Acknowledge client given ∷ first) later = let e = own_append first later in omega (arith, e)
own_append (step ∷ first) later = own_append first later

-- and of one call
of_append : (call : Call) (first later : List SmallStep) → AreOf call first → AreOf call later → AreOf call (first ++ later)
of_append call [] later o p = p
of_append call (step ∷ first) later o p = (o.0, of_append call first later o.1 p)

-- two calls under way, one after the other
pub steps_then : (call : Call) (m n : ℕ) (a b c : Progress) → GoesBySteps call m a b → GoesBySteps call n b c
    → GoesBySteps call (m + n) a c
steps_then call m n a b c h k = record {
  steps = h.steps ++ k.steps;
  are_guarded = guarded_append h.steps k.steps a h.are_guarded (subst (λ p. AreGuarded k.steps p) h.lead k.are_guarded);
  are_in_turn = in_turn_append h.steps k.steps a h.are_in_turn (subst (λ p. AreInTurn k.steps p) h.lead k.are_in_turn);
  are_of = of_append call h.steps k.steps h.are_of k.are_of;
  are_own = own_append h.steps k.steps ∙ ap₂ (λ x y. x + y) h.are_own k.are_own;
  lead = k.lead ∙ ap (λ p. steps_taken k.steps p) h.lead ∙ sym (taken_append h.steps k.steps a);
}

-- ---- wants are met by steps

-- where the want's key still has a lease, that can be so lowered
abbrev Lowers : Server → Want → Type 0
Lowers server want = has_lease server want.key ≡ true → IsLowered (server.leases want.key).state want.lowered

-- dropped opens leave that so
dropped-lowers : (test : Open → Bool) (progress : Progress) (want : Want) → Lowers progress.server want
    → Lowers (opens_dropped test progress).server want
dropped-lowers test progress want lowers there =
    let x = any_has (has_key want.key) (without test progress.server.opens) there in
    let was = among_filter (λ one. not (test one)) x.0 progress.server.opens x.1 in
    subst (λ (l : Lease). IsLowered l.state want.lowered)
    (sym (left_here progress.server.leases (without test progress.server.opens) want.key x.0 x.1 x.2))
    (lowers (has_any (has_key want.key) x.0 progress.server.opens was.0 x.2))

-- so does the break of another key
broken-lowers : (key : Key) (lowered : State) (progress : Progress) (want : Want) → key_eq want.key key ≡ false
    → Lowers progress.server want → Lowers (lease_broken key lowered progress).server want
broken-lowers key lowered progress want other lowers =
    let Stays : Lease → Type 0 = λ l. has_lease progress.server want.key ≡ true → IsLowered l.state want.lowered in
    let elsewhere : (lease : Lease) → Stays (put_key progress.server.leases key lease want.key) =
    λ lease. put_key-cases Stays progress.server.leases key lease want.key
    (λ same. clash (key_eq want.key key) (key_is want.key key same) other) (λ e. lowers) in
    any_break key lowered progress (λ after. Lowers after.server want) (record {
      stays = λ not. lowers;
      begins = λ whole needs. elsewhere (record { state = (progress.server.leases key).state; broken_to = Some lowered });
      lowers = λ whole light. elsewhere (record { state = lowered; broken_to = None });
    })
  where
    key_is : (one other : Key) → one ≡ other → key_eq one other ≡ true
    key_is one other same = subst (λ x. key_eq one x ≡ true) same (key_eq-refl one)

-- one want
want_met-steps : (call : Call) (want : Want) (progress : Progress) → Lowers progress.server want
    → GoesBySteps call 0 progress (want_met want progress)
want_met-steps call want progress lowers =
    let dropped = opens_dropped (is_left_open want.key) progress in
    let may : IsWhole dropped.server want.key → MayLower dropped.server want.key want.lowered = λ whole. record {
      is_there = whole.there;
      are_connected = left_present want.key progress;
      is_settled = whole.settled;
      is_lowered = dropped-lowers (is_left_open want.key) progress want lowers whole.there;
    } in
    steps_then call 0 0 progress dropped (lease_broken want.key want.lowered dropped)
    (step_one call (SmallStep.Drop want.key) progress tt tt tt)
    (any_break want.key want.lowered dropped (GoesBySteps call 0 dropped) (record {
      stays = λ not. steps_none call dropped;
      begins = λ whole needs. step_one call (SmallStep.Begin want.key want.lowered) dropped (may whole, needs) tt tt;
      lowers = λ whole light. step_one call (SmallStep.Lower want.key want.lowered) dropped (may whole, light) tt tt;
    }))

-- it leaves the others to be met
want_met-lowers : (first other : Want) (progress : Progress) → key_eq other.key first.key ≡ false
    → Lowers progress.server other → Lowers (want_met first progress).server other
want_met-lowers first other progress apart lowers = broken-lowers first.key first.lowered
    (opens_dropped (is_left_open first.key) progress) other apart (dropped-lowers (is_left_open first.key) progress other lowers)

-- a key that stands before another isn't that one
before_apart : (one other : Key) → key_before one other ≡ true → key_eq other one ≡ false
before_apart one other before = not_true (key_eq other one) (λ same. clash (key_before one one)
    (ap (λ x. key_before one x) (sym (key_eq-same other one same)) ∙ before) (key_before-self one))

-- wants that stand in order
wants_met-steps : (call : Call) (wants : List Want) (progress : Progress) → AreInKeyOrder wants
    → ((want : Want) → Among want wants → Lowers progress.server want) → GoesBySteps call 0 progress (wants_met wants progress)
wants_met-steps call wants progress = any_wants
    (λ wants progress after. AreInKeyOrder wants → ((want : Want) → Among want wants → Lowers progress.server want)
    → GoesBySteps call 0 progress after) (λ progress order lowers. steps_none call progress)
    (λ want wants progress after rest order lowers.
    steps_then call 0 0 progress (want_met want progress) after
    (want_met-steps call want progress (lowers want (inl refl))) (rest order.1
    (λ other a. want_met-lowers want other progress (before_apart want.key other.key (order.0 other a)) (lowers other (inr a)))))
    wants progress

-- ---- what a look finds stands in order

needs-ordered : (server : Server) (client : ℕ) (request : FileRequest) (wants : List Want)
    → finding server client request ≡ Finding.Needs wants → AreInKeyOrder wants
needs-ordered server client = any_needs server client (λ request. AreInKeyOrder) (record {
  conflicts = λ file access share ask at clash some. let own = own_key client ask.lease in (wants_where-exact server
      (λ one. conflicts_on file access share one && is_other_on own file one && (lease_of_open server one).state.handle)
      without_handle).in_order;
  enters = λ file access share ask at calm. let own = own_key client ask.lease in (wants_where-exact server
      (λ one. is_other_on own file one && (lease_of_open server one).state.write) without_write).in_order;
  awaited = λ file access share ask file_id there again some. tt;
  reads = λ file_id one own may. tt;
  writes = λ file_id number patch one own may fits. (wants_where-exact server
      (λ other. is_other_on (key_of_open one) one.file other && holds_any (lease_of_open server other).state)
      (λ state. nothing_cached)).in_order;
  closes = λ file_id one own. tt;
})

-- what other keys are to give up stands in order
others-ordered : (server : Server) (own : Option Key) (file : ℕ) (extent : Extent)
    → AreInKeyOrder (others_wants server own file extent)
others-ordered server own file Extent.Handles = (wants_where-exact server
    (λ one. is_other_on own file one && (lease_of_open server one).state.handle) without_handle).in_order
others-ordered server own file Extent.All = (wants_where-exact server
    (λ one. is_other_on own file one && holds_any (lease_of_open server one).state) (λ state. nothing_cached)).in_order

-- and is broken by steps
pub others_broken-steps : (call : Call) (server : Server) (own : Option Key) (file : ℕ) (extent : Extent) → IsSound server
    → GoesBySteps call 0 (begun server) (others_broken server own file extent)
others_broken-steps call server own file extent s = wants_met-steps call (others_wants server own file extent) (begun server)
    (others-ordered server own file extent) (λ want a there. (others_wants-fit server own file extent s want a).can_lower)

-- ---- tries

-- a round
round-steps : (call : Call) (client : ℕ) (request : FileRequest) (progress : Progress) (wants : List Want)
    → IsSound progress.server → finding progress.server client request ≡ Finding.Needs wants
    → GoesBySteps call 0 progress (wants_met wants progress)
round-steps call client request progress wants s found = wants_met-steps call wants progress
    (needs-ordered progress.server client request wants found)
    (λ want a there. (needs-fit progress.server client request wants s found want a).can_lower)

-- so many rounds
tried_for-steps : (call : Call) (rounds client : ℕ) (request : FileRequest) (progress : Progress) → IsSound progress.server
    → GoesBySteps call 0 progress (tried_for rounds client request progress).progress
tried_for-steps call rounds client request = any_rounds client request
    (λ rounds progress tried. IsSound progress.server → GoesBySteps call 0 progress tried.progress) (record {
      out = λ progress s. steps_none call progress;
      fails = λ rounds progress status is s. steps_none call progress;
      ready = λ rounds progress wants found ready s. steps_none call progress;
      waits = λ rounds progress wants needs wait s. round-steps call client request progress wants s needs.found;
      again = λ rounds progress wants tried needs goes rest s.
          steps_then call 0 0 progress (wants_met wants progress) tried.progress
          (round-steps call client request progress wants s needs.found)
          (rest (wants_met-sound wants progress s (needs-fit progress.server client request wants s needs.found)));
    }) rounds

-- a try
pub tried-steps : (call : Call) (client : ℕ) (request : FileRequest) (progress : Progress) → IsSound progress.server
    → GoesBySteps call 0 progress (tried client request progress).progress
tried-steps call client request progress s = tried_for-steps call 3 client request progress s

-- ---- the end of a try is guarded

-- a request by an open is refused as gone only where it is
abbrev RefusedBy : Server → ℕ → FileRequest → Finding → Type 0
RefusedBy server client request (Finding.Fails status) = MayRefuse server client request status
RefusedBy server client request (Finding.Needs wants) = ⊤

refused_gone : (server : Server) (client : ℕ) (request : FileRequest) (file_id : ℕ) → NamesOpen request file_id
    → connected_open server client file_id ≡ None → MayRefuse server client request Status.FileClosed
refused_gone server client (FileRequest.Create file access share contexts) file_id names none = tt
refused_gone server client (FileRequest.Read named) file_id names none = λ e. rw (names) none
refused_gone server client (FileRequest.Write named number patch) file_id names none = λ e. rw (names) none
refused_gone server client (FileRequest.Close named) file_id names none = rw (names) none

finding-refuses : (server : Server) (client : ℕ) (request : FileRequest) (status : Status)
    → finding server client request ≡ Finding.Fails status → MayRefuse server client request status
finding-refuses server client request status is = subst (RefusedBy server client request) is
    (any_finding server client (RefusedBy server client) (record {
      malformed = λ file access share. tt;
      nowhere = λ file access share ask away. tt;
      elsewhere = λ file access share ask there anew away. tt;
      violates = λ file access share ask at clash none. tt;
      conflicts = λ file access share ask at clash some. tt;
      enters = λ file access share ask at calm. tt;
      awaited = λ file access share ask file_id there again some. tt;
      forgotten = λ file access share ask file_id there again none. tt;
      gone = refused_gone server client;
      unread = λ file_id one own not never. absurd (cc);
      reads = λ file_id one own may. tt;
      unwritten = λ file_id number patch one own not never. absurd (cc);
      too_long = λ file_id number patch one own may long never. absurd (cc);
      writes = λ file_id number patch one own may fits. tt;
      closes = λ file_id one own. tt;
    }) request)

-- a request that is ready may be served
finding-serves : (server : Server) (client : ℕ) (request : FileRequest) (wants : List Want)
    → finding server client request ≡ Finding.Needs wants → is_ready request server.leases wants ≡ true
    → MayServe server client request
finding-serves server client = any_needs server client
    (λ request wants. is_ready request server.leases wants ≡ true → MayServe server client request) (record {
      conflicts = λ file access share ask at clash some ready. absurd (true≢false (sym ready ∙ some));
      enters = λ file access share ask at calm ready. (
        at.there,
        subst (MayCreate server client file access share ask.lease) (sym at.anew)
            (enters_free server client file access share ask at calm ready),
      );
      awaited = λ file access share ask file_id there again some ready.
          let x = any_has (awaits client file (own_key client ask.lease) file_id) server.opens some in (
            there,
            subst (MayCreate server client file access share ask.lease) (sym again)
                (record { one = x.0; is_there = x.1; waits = x.2 }),
          );
      reads = λ file_id one own may ready. record { one = one; found = own.found; allowed = may };
      writes = λ file_id number patch one own may fits ready. record {
        one = one;
        found = own.found;
        allowed = record { may = may; fits = fits; alone = all_wants-given server one ready };
      };
      closes = λ file_id one own ready. record { one = one; found = own.found; allowed = tt };
    })

-- what ends a try guards its end
reason_guards : (client : ℕ) (request : FileRequest) (progress : Progress) (outcome : Outcome)
    → (outcome ≡ Outcome.Waits → ⊥) → progress.server.present client ≡ true
    → EndsFor client request progress outcome → MayEnd progress.server client request outcome
reason_guards client request progress (Outcome.Refused status) never up ends =
    (up, finding-refuses progress.server client request status ends)
reason_guards client request progress Outcome.Waits never up ends = never refl
reason_guards client request progress Outcome.Ready never up ends =
    (up, finding-serves progress.server client request ends.0 ends.1 ends.2)

-- the end of a try that doesn't wait is guarded
pub tried-guarded : (client : ℕ) (request : FileRequest) (progress : Progress)
    → ((tried client request progress).outcome ≡ Outcome.Waits → ⊥)
    → (tried client request progress).progress.server.present client ≡ true
    → MayEnd (tried client request progress).progress.server client request (tried client request progress).outcome
tried-guarded client request progress never up = reason_guards client request
    (tried client request progress).progress (tried client request progress).outcome never up (tries_end client request progress)
