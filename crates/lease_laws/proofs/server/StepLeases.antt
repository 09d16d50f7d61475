-- What guarded small steps make of leases.
use Rattle.lease_laws.proofs.Words.{◌++◌, ◌==◌, ◌∙◌, ◌∷◌, ◌≡◌, ◌⊎◌, Access, Among, AreGuarded, BecomesBy, Bool}
use Rattle.lease_laws.proofs.Words.{FileRequest, Held, IsBreakTold, IsEnded, IsFree, IsGuarded, IsRaised, IsSound}
use Rattle.lease_laws.proofs.Words.{Key, Lease, LeaseOf, List, MayCreate, MayServe, None, Open, Option, Out, Outcome, Progress}
use Rattle.lease_laws.proofs.Words.{Server, Share, SmallStep, Some, State, StaysOrRises, ℕ, ⊎_elim, [], acknowledged, ap}
use Rattle.lease_laws.proofs.Words.{append-nil, append_assoc, arith, break_ended, break_notice, concluded}
use Rattle.lease_laws.proofs.Words.{false, granted_form_of, granted_with, has_key, has_lease, held_left, inl, inr}
use Rattle.lease_laws.proofs.Words.{is_breaking, is_left_open, is_other_on, is_some, is_state_within, key_of, lease_after}
use Rattle.lease_laws.proofs.Words.{lease_granted, list_any, nothing_cached, offered, opens_dropped}
use Rattle.lease_laws.proofs.Words.{own_key, refl, step_taken, steps_taken, subst, sym, true}
use Rattle.lease_laws.proofs.Words.{without_write}
use Rattle.lease_laws.proofs.server.Keys.{put_key-cases}
use Rattle.lease_laws.proofs.server.Lists.{if_cases, clash, not_true, any_has, among_before}
use Rattle.lease_laws.proofs.server.Lists.{among_behind}
use Rattle.lease_laws.proofs.server.StepKeeps.{step-sound, end_serves}
use Rattle.lease_laws.proofs.server.Progress.{held_left-sound}
use Rattle.lease_laws.proofs.server.StepOuts.{step-tells}
use Rattle.lease_laws.proofs.server.cases.Grants.{any_grant}
use Rattle.lease_laws.proofs.server.cases.Ends.{HasEnds, any_end}
use Rattle.lease_laws.proofs.server.cases.Judgements.{any_judgement}

-- ---- dropped opens

-- a lease stays, or is gone with its last open
dropped-lease : (test : Open → Bool) (progress : Progress) (key : Key)
    → ((opens_dropped test progress).server.leases key ≡ progress.server.leases key)
    ⊎ (has_lease (opens_dropped test progress).server key ≡ false)
dropped-lease test progress key = grind arith

-- ---- a grant

-- a part of a state without W is a part of it without W
part_without : (old whole : State) → old.write ≡ false → is_state_within old whole ≡ true
    → is_state_within old (without_write whole) ≡ true
part_without old whole w part = grind arith

-- an open of another key, on the file
other_there : (key : Key) (file : ℕ) (one : Open) → is_other_on (Some key) file one ≡ true
    → (one.file ≡ file) × (has_key key one ≡ false)
other_there key file one other = grind arith

-- a key that holds W has an open
written_there : (server : Server) (key : Key) → IsSound server → (server.leases key).state.write ≡ true
    → has_lease server key ≡ true
written_there server key s w = grind arith

-- a key that may be granted and holds W is alone on the file
written_alone : (server : Server) (key : Key) (file : ℕ) (access : Access) (share : Share)
    → IsSound server → IsFree server.opens server.leases (Some key) file access share → (server.leases key).state.write ≡ true
    → list_any (is_other_on (Some key) file) server.opens ≡ true → ⊥
written_alone server key file access share s free w others =
    let x = any_has (is_other_on (Some key) file) server.opens others in
    let mine = any_has (has_key key) server.opens (written_there server key s w) in
    let there = other_there key file x.0 x.2 in
    clash (has_key key x.0)
    (s.one_writer key mine.0 x.0 w mine.1 mine.2 x.1 (there.0 ∙ sym (free.at_home mine.0 mine.1 mine.2))) there.1

-- where a key may be granted, what it holds is a part of what it is offered
offered_more : (server : Server) (key : Key) (file : ℕ) (access : Access) (share : Share) (want : State)
    → IsSound server → IsFree server.opens server.leases (Some key) file access share
    → is_state_within (server.leases key).state (granted_form_of want) ≡ true
    → is_state_within (server.leases key).state (offered server key file want) ≡ true
offered_more server key file access share want s free part =
    let old : State = (server.leases key).state in
    if_cases (λ x. is_state_within old x ≡ true) (server.expired key) nothing_cached _
    (λ out. ap (λ l. is_state_within l.state nothing_cached) (s.timed_out key out))
    (λ timely. if_cases (λ x. is_state_within old x ≡ true) (list_any (is_other_on (Some key) file) server.opens)
    (without_write (granted_form_of want)) (granted_form_of want)
    (λ others. part_without old (granted_form_of want)
    (not_true old.write (λ w. written_alone server key file access share s free w others)) part)
    (λ alone. part))

-- a grant leaves the lease of its key, or raises it
granted_rises : (server : Server) (key : Key) (file : ℕ) (access : Access) (share : Share) (want : State)
    → IsSound server → IsFree server.opens server.leases (Some key) file access share
    → (lease_granted server key file want ≡ server.leases key) ⊎ IsRaised (server.leases key) (lease_granted server key file want)
granted_rises server key file access share want s free =
    any_grant server key file want (λ l. (l ≡ server.leases key) ⊎ IsRaised (server.leases key) l) (record {
      breaks = λ b. inl refl;
      rises = λ settled part. inr (record {
        was_settled = settled;
        is_settled = refl;
        is_more = offered_more server key file access share want s free part;
      });
      stays = λ settled. inl refl;
    })

-- the lease of any key, once a create has made its open
granted_with-lease : (client file : ℕ) (access : Access) (share : Share) (asked : Option LeaseOf) (durable : Bool)
    (progress : Progress) (key : Key) → IsSound progress.server
    → IsFree progress.server.opens progress.server.leases (own_key client asked) file access share → StaysOrRises progress.server
    (granted_with client file access share asked durable (lease_after progress.server client file asked) progress).server key
granted_with-lease client file access share None durable progress key s free = inl refl
granted_with-lease client file access share (Some asked) durable progress key s free =
    let own : Key = key_of client asked.key in
    let new : Lease = lease_granted progress.server own file asked.state in
    ⊎_elim (λ same. inl same) (λ raised. inr (inr raised))
    (put_key-cases (λ l. (l ≡ progress.server.leases key) ⊎ IsRaised (progress.server.leases key) l)
    progress.server.leases own new key
    (λ same. subst (λ k. (new ≡ progress.server.leases k) ⊎ IsRaised (progress.server.leases k) new) (sym same)
    (granted_rises progress.server own file access share asked.state s free))
    (λ e. inl refl))

-- ---- the end of a request

-- any request that may end so
ends_lease : (client : ℕ) (progress : Progress) (key : Key) → IsSound progress.server
    → HasEnds client progress (λ request outcome after. (outcome ≡ Outcome.Ready
    → MayServe progress.server client request) → StaysOrRises progress.server after.server key)
ends_lease client progress key s = record {
  refused = λ request status may. inl refl;
  left = λ request outcome why may. inl refl;
  full = λ file access share ask none out may. inl refl;
  granted = λ file access share ask none room may. granted_with-lease client file access share ask.lease ask.durable progress
      key s (subst (MayCreate progress.server client file access share ask.lease) none (may refl).1);
  again = λ file access share ask file_id some may. inl refl;
  read = λ file_id one own may. inl refl;
  changed = λ file_id number patch one own may. inl refl;
  closed = λ file_id one own may. ⊎_elim (λ same. inl same) (λ gone. inr (inl gone))
      (dropped-lease (λ other. other.file_id == file_id) progress key);
}

concluded-lease : (client : ℕ) (request : FileRequest) (progress : Progress) (outcome : Outcome) (key : Key)
    → IsSound progress.server → (outcome ≡ Outcome.Ready → MayServe progress.server client request)
    → StaysOrRises progress.server (concluded client request progress outcome).server key
concluded-lease client request progress outcome key s =
    any_end client progress _ (ends_lease client progress key s) request outcome

-- ---- acknowledgments

-- the granted form of a part is a part
form_part : (state lowered : State) → is_state_within state lowered ≡ true
    → is_state_within (granted_form_of state) lowered ≡ true
form_part state lowered part = grind arith

-- a break that is ended
ended-lease : (key : Key) (state lowered : State) (progress : Progress) (other : Key)
    → (progress.server.leases key).broken_to ≡ Some lowered → is_state_within state lowered ≡ true
    → ((break_ended key state progress).server.leases other ≡ progress.server.leases other)
    ⊎ IsEnded (progress.server.leases other) ((break_ended key state progress).server.leases other)
ended-lease key state lowered progress other broken part =
    let new : Lease = record { state = granted_form_of state; broken_to = None } in
    put_key-cases (λ l. (l ≡ progress.server.leases other) ⊎ IsEnded (progress.server.leases other) l)
    progress.server.leases key new other
    (λ same. inr (record {
      lowered = lowered;
      was_breaking = ap (λ k. (progress.server.leases k).broken_to) same ∙ broken;
      is_settled = refl;
      is_part = form_part state lowered part;
    }))
    (λ e. inl refl)

-- any acknowledgment
acknowledged-lease : (client : ℕ) (given : Option LeaseOf) (progress : Progress) (other : Key)
    → ((acknowledged client given progress).server.leases other ≡ progress.server.leases other)
    ⊎ IsEnded (progress.server.leases other) ((acknowledged client given progress).server.leases other)
acknowledged-lease client given progress other = any_judgement client progress
    (λ given after. (after.server.leases other ≡ progress.server.leases other)
    ⊎ IsEnded (progress.server.leases other) (after.server.leases other)) (record {
      failed = λ given why. inl refl;
      ended = λ g lowered there breaks within. ended-lease (key_of client g.key) g.state lowered progress other breaks within;
    }) given

-- ---- each step

-- what is held has nothing to do with what may be served
pub held_left-serves : (client : ℕ) (request : FileRequest) (file : ℕ) (left : List Held) (progress : Progress)
    → MayServe progress.server client request → MayServe (held_left file left progress).server client request
held_left-serves client request file left progress may = grind arith

-- what each step makes of the lease of any key
pub step-leases : (step : SmallStep) (progress : Progress) → IsSound progress.server → IsGuarded step progress.server
    → (key : Key) → BecomesBy step progress.server (step_taken step progress).server key
step-leases (SmallStep.Answer client request outcome) progress s may key =
    concluded-lease client request progress outcome key s (end_serves progress.server client request outcome may)
step-leases (SmallStep.AnswerHeld file before one behind outcome) progress s may key =
    let left = held_left file (before ++ behind) progress in
    concluded-lease one.client one.request left outcome key (held_left-sound file (before ++ behind) progress s)
    (λ ready. held_left-serves one.client one.request file (before ++ behind) progress
    (end_serves progress.server one.client one.request outcome may.1 ready))
step-leases (SmallStep.Acknowledge client given) progress s up key = acknowledged-lease client given progress key
step-leases (SmallStep.Hold file one) progress s may key = refl
step-leases (SmallStep.Drop other) progress s may key = dropped-lease (is_left_open other) progress key
step-leases (SmallStep.Lower other lowered) progress s may key = put_key-cases (λ l. (l ≡ progress.server.leases key)
    ⊎ ((key ≡ other) × (l ≡ record { state = lowered; broken_to = None })))
    progress.server.leases other (record { state = lowered; broken_to = None }) key
    (λ same. inr (same, refl)) (λ e. inl refl)
step-leases (SmallStep.Begin other lowered) progress s may key = put_key-cases (λ l. (l ≡ progress.server.leases key)
    ⊎ ((key ≡ other) × (l ≡ record { state = (progress.server.leases key).state; broken_to = Some lowered })))
    progress.server.leases other (record { state = (progress.server.leases other).state; broken_to = Some lowered }) key
    (λ same. inr (same, ap (λ k. begun (progress.server.leases k).state) (sym same))) (λ e. inl refl)
  where
    begun : State → Lease
    begun state = record { state = state; broken_to = Some lowered }

-- ---- what is breaking was told

-- told among fewer outs
told_more : (key : Key) (lowered : State) (before after : List Out) (more : List Out) → after ≡ before ++ more
    → IsBreakTold key lowered before → IsBreakTold key lowered after
told_more key lowered before after more e told = record {
  current = told.current;
  is_told = subst (λ outs. Among (Out.Sent key.client (break_notice key told.current lowered)) outs) (sym e)
      (among_before _ before more told.is_told);
}

-- what is breaking stayed so, where its lease stayed
still_breaking : (before after : Lease) (lowered : State) → after ≡ before → after.broken_to ≡ Some lowered
    → before.broken_to ≡ Some lowered
still_breaking before after lowered same e = ap (λ l. l.broken_to) (sym same) ∙ e

-- a lease that isn't breaking isn't breaking to anything
not_settled : {X : Type 0} (lease : Lease) (lowered : State) → is_breaking lease ≡ false → lease.broken_to ≡ Some lowered → X
not_settled lease lowered settled e = clash (is_breaking lease) (ap (λ b. is_some b) e) settled

-- a key without an open isn't breaking
not_gone : {X : Type 0} (server : Server) (key : Key) (lowered : State) → IsSound server
    → has_lease server key ≡ false → (server.leases key).broken_to ≡ Some lowered → X
not_gone server key lowered s gone e = not_settled (server.leases key) lowered (ap (λ l. is_breaking l) (s.no_open key gone)) e

-- where a lease stays, is gone or rises, nothing new is breaking
rises_breaking : (before after : Server) (key : Key) (lowered : State) → IsSound after
    → StaysOrRises before after key → (after.leases key).broken_to ≡ Some lowered → (before.leases key).broken_to ≡ Some lowered
rises_breaking before after key lowered s what e = grind arith

-- one break that has begun
begun_told : (key : Key) (lowered : State) (progress : Progress) (to : State) (new : Lease)
    → new ≡ record { state = (progress.server.leases key).state; broken_to = Some to } → new.broken_to ≡ Some lowered
    → IsBreakTold key lowered (progress.outs ++ Out.Sent key.client (break_notice key (progress.server.leases key).state to) ∷ [])
begun_told key lowered progress to new is e =
    let same : to ≡ lowered = some_state to lowered (sym (ap (λ l. l.broken_to) is) ∙ e) in
    record {
      current = (progress.server.leases key).state;
      is_told = among_behind _ progress.outs _
          (inl (ap (λ s. Out.Sent key.client (break_notice key (progress.server.leases key).state s)) (sym same)));
    }
  where
    some_state : (a b : State) → Some a ≡ Some b → a ≡ b
    some_state a b e = cc

-- what a step leaves breaking was breaking so, or was told by it
step-told : (step : SmallStep) (progress : Progress) → IsSound progress.server
    → IsGuarded step progress.server → (key : Key) (lowered : State)
    → ((step_taken step progress).server.leases key).broken_to ≡ Some lowered
    → ((progress.server.leases key).broken_to ≡ Some lowered) ⊎ IsBreakTold key lowered (step_taken step progress).outs
step-told (SmallStep.Answer client request outcome) progress s g key lowered e =
    let step = SmallStep.Answer client request outcome in
    inl (rises_breaking progress.server (step_taken step progress).server key lowered (step-sound step progress s g)
    (step-leases step progress s g key) e)
step-told (SmallStep.AnswerHeld file before one behind outcome) progress s g key lowered e =
    let step = SmallStep.AnswerHeld file before one behind outcome in
    inl (rises_breaking progress.server (step_taken step progress).server key lowered (step-sound step progress s g)
    (step-leases step progress s g key) e)
step-told (SmallStep.Acknowledge client given) progress s g key lowered e =
    let step = SmallStep.Acknowledge client given in
    inl (⊎_elim (λ same. still_breaking _ _ lowered same e)
    (λ ended. not_settled ((step_taken step progress).server.leases key) lowered ended.is_settled e)
    (step-leases step progress s g key))
step-told (SmallStep.Hold file one) progress s g key lowered e =
    inl (still_breaking _ _ lowered (step-leases (SmallStep.Hold file one) progress s g key) e)
step-told (SmallStep.Drop other) progress s g key lowered e =
    let step = SmallStep.Drop other in
    inl (⊎_elim (λ same. still_breaking _ _ lowered same e)
    (λ gone. not_gone (step_taken step progress).server key lowered (step-sound step progress s g) gone e)
    (step-leases step progress s g key))
step-told (SmallStep.Lower other to) progress s g key lowered e =
    let step = SmallStep.Lower other to in
    inl (⊎_elim (λ same. still_breaking _ _ lowered same e)
    (λ new. not_settled ((step_taken step progress).server.leases key) lowered (ap (λ l. is_breaking l) new.1) e)
    (step-leases step progress s g key))
step-told (SmallStep.Begin other to) progress s g key lowered e =
    let step = SmallStep.Begin other to in
    ⊎_elim (λ same. inl (still_breaking _ _ lowered same e))
    (λ new. inr (subst (λ outs. IsBreakTold key lowered outs) (sym (step-tells step progress))
    (subst (λ k. IsBreakTold key lowered (progress.outs
    ++ Out.Sent k.client (break_notice k (progress.server.leases k).state to) ∷ [])) new.0
    (begun_told key lowered progress to ((step_taken step progress).server.leases key) new.1 e))))
    (step-leases step progress s g key)

-- a step's outs go on from those before it
step_more : (step : SmallStep) (progress : Progress)
    → (more : List Out) × ((step_taken step progress).outs ≡ progress.outs ++ more)
step_more (SmallStep.Lower key lowered) progress = (_, step-tells (SmallStep.Lower key lowered) progress)
step_more (SmallStep.Begin key lowered) progress = (_, step-tells (SmallStep.Begin key lowered) progress)
step_more step progress = let t = step-tells step progress in (t.more, t.are_more)

-- so do those of steps
steps_more : (steps : List SmallStep) (progress : Progress)
    → (more : List Out) × ((steps_taken steps progress).outs ≡ progress.outs ++ more)
steps_more [] progress = ([], sym (append-nil progress.outs))
steps_more (step ∷ steps) progress =
    let one = step_more step progress in
    let rest = steps_more steps (step_taken step progress) in
    (one.0 ++ rest.0, rest.1 ∙ ap (λ outs. outs ++ rest.0) one.1 ∙ append_assoc progress.outs one.0 rest.0)

-- Wherever steps have come, what is breaking was breaking so, or was told.
pub steps-told : (steps : List SmallStep) (progress : Progress) → IsSound progress.server
    → AreGuarded steps progress → (key : Key) (lowered : State)
    → ((steps_taken steps progress).server.leases key).broken_to ≡ Some lowered
    → ((progress.server.leases key).broken_to ≡ Some lowered) ⊎ IsBreakTold key lowered (steps_taken steps progress).outs
steps-told [] progress s g key lowered e = inl e
steps-told (step ∷ steps) progress s g key lowered e =
    let next = step_taken step progress in
    let more = steps_more steps next in
    ⊎_elim
    (λ was. ⊎_elim (λ old. inl old)
    (λ told. inr (told_more key lowered next.outs (steps_taken steps next).outs more.0 more.1 told))
    (step-told step progress s g.0 key lowered was))
    (λ told. inr told) (steps-told steps next (step-sound step progress s g.0) g.1 key lowered e)
