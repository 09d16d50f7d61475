-- What a try makes of a call under way: the wanted leases are broken, in rounds, until it ends. Whatever holds of each way
-- that a break, the meeting of wants, or a round can go holds of every try.
use Rattle.lease_laws.proofs.Words.{◌&&◌, ◌∷◌, ◌≡◌, FileRequest, Finding, Key, List, Outcome, Progress, Server, State, Tried}
use Rattle.lease_laws.proofs.Words.{Want, ℕ, [], after_finding, ap, break_begun, ended, false, finding}
use Rattle.lease_laws.proofs.Words.{has_lease, is_breaking, is_left_open, is_ready, lease_broken, lease_lowered, must_wait}
use Rattle.lease_laws.proofs.Words.{needs_acknowledgment, not, opens_dropped, refl, subst, suc, sym, tried_for, true}
use Rattle.lease_laws.proofs.Words.{Status, if◌then◌else◌, want_met, wants_met, zero, ◌∙◌}
use Rattle.lease_laws.proofs.server.Lists.{and_parts, either, if_cases, not_parts}

-- ---- a lease is broken

-- it is there, and not breaking
pub record IsWhole (server : Server) (key : Key) : Type 0 where
  pub there : has_lease server key ≡ true
  pub settled : is_breaking (server.leases key) ≡ false

pub record HasBreaks (key : Key) (lowered : State) (progress : Progress) (P : Progress → Type 0) : Type 0 where
  pub stays : (has_lease progress.server key && not (is_breaking (progress.server.leases key))) ≡ false → P progress
  pub begins : IsWhole progress.server key → needs_acknowledgment (progress.server.leases key).state ≡ true
      → P (break_begun key lowered progress)
  pub lowers : IsWhole progress.server key → needs_acknowledgment (progress.server.leases key).state ≡ false
      → P (lease_lowered key lowered progress)

-- a lease that isn't whole is left alone
pub isnt_broken : (key : Key) (lowered : State) (progress : Progress)
    → (has_lease progress.server key && not (is_breaking (progress.server.leases key))) ≡ false
    → lease_broken key lowered progress ≡ progress
unfolding lease_broken
isnt_broken key lowered progress not = rw (not) refl

pub breaks_whole : (key : Key) (lowered : State) (progress : Progress) → IsWhole progress.server key
    → lease_broken key lowered progress ≡ (if needs_acknowledgment (progress.server.leases key).state
    then break_begun key lowered progress else lease_lowered key lowered progress)
unfolding lease_broken
breaks_whole key lowered progress whole = rw (whole.there, whole.settled) refl

pub any_break : (key : Key) (lowered : State) (progress : Progress) (P : Progress → Type 0)
    → HasBreaks key lowered progress P → P (lease_broken key lowered progress)
any_break key lowered progress P h =
    let there = has_lease progress.server key in
    let breaking = is_breaking (progress.server.leases key) in
    either (there && not breaking)
    (λ both. let parts = and_parts there (not breaking) both in
    let whole : IsWhole progress.server key = record { there = parts.0; settled = not_parts breaking parts.1 } in
    subst P (sym (breaks_whole key lowered progress whole))
    (if_cases P (needs_acknowledgment (progress.server.leases key).state) _ _ (h.begins whole) (h.lowers whole)))
    (λ not. subst P (sym (isnt_broken key lowered progress not)) (h.stays not))

-- ---- wants are met

pub nothing_met : (progress : Progress) → wants_met [] progress ≡ progress
unfolding wants_met
nothing_met progress = refl

pub met_in_order : (want : Want) (wants : List Want) (progress : Progress)
    → wants_met (want ∷ wants) progress ≡ wants_met wants (want_met want progress)
unfolding wants_met
met_in_order want wants progress = refl

-- what holds where nothing is wanted, and of one want and then the others, holds of all wants
pub any_wants : (P : List Want → Progress → Progress → Type 0) → ((progress : Progress) → P [] progress progress)
    → ((want : Want) (wants : List Want) (progress after : Progress) → P wants (want_met want progress) after
    → P (want ∷ wants) progress after)
    → (wants : List Want) (progress : Progress) → P wants progress (wants_met wants progress)
unfolding wants_met
any_wants P none more [] progress = none progress
any_wants P none more (want ∷ wants) progress =
    more want wants progress (wants_met wants (want_met want progress)) (any_wants P none more wants (want_met want progress))

-- ---- rounds

pub no_round : (client : ℕ) (request : FileRequest) (progress : Progress)
    → tried_for 0 client request progress ≡ ended progress Outcome.Waits
unfolding tried_for
no_round client request progress = refl

pub one_round : (rounds client : ℕ) (request : FileRequest) (progress : Progress) → tried_for (suc rounds) client request progress
    ≡ after_finding (tried_for rounds client request) request progress (finding progress.server client request)
unfolding tried_for
one_round rounds client request progress = refl

pub record NeedsBreaks (client : ℕ) (request : FileRequest) (progress : Progress) (wants : List Want) : Type 0 where
  pub found : finding progress.server client request ≡ Finding.Needs wants
  pub unready : is_ready request progress.server.leases wants ≡ false

pub round_fails : (rounds client : ℕ) (request : FileRequest) (progress : Progress) (status : Status)
    → finding progress.server client request ≡ Finding.Fails status
    → tried_for (suc rounds) client request progress ≡ ended progress (Outcome.Refused status)
round_fails rounds client request progress status is = one_round rounds client request progress
    ∙ ap (after_finding (tried_for rounds client request) request progress) is

pub round_ends : (rounds client : ℕ) (request : FileRequest) (progress : Progress) (wants : List Want)
    → finding progress.server client request ≡ Finding.Needs wants → is_ready request progress.server.leases wants ≡ true
    → tried_for (suc rounds) client request progress ≡ ended progress Outcome.Ready
round_ends rounds client request progress wants is ready = one_round rounds client request progress ∙ rw (is, ready) refl

pub round_waits : (rounds client : ℕ) (request : FileRequest) (progress : Progress) (wants : List Want)
    → NeedsBreaks client request progress wants → must_wait request (wants_met wants progress) wants ≡ true
    → tried_for (suc rounds) client request progress ≡ ended (wants_met wants progress) Outcome.Waits
round_waits rounds client request progress wants needs wait =
    one_round rounds client request progress ∙ rw (needs.found, needs.unready, wait) refl

pub round_goes_on : (rounds client : ℕ) (request : FileRequest) (progress : Progress) (wants : List Want)
    → NeedsBreaks client request progress wants → must_wait request (wants_met wants progress) wants ≡ false
    → tried_for (suc rounds) client request progress ≡ tried_for rounds client request (wants_met wants progress)
round_goes_on rounds client request progress wants needs goes =
    one_round rounds client request progress ∙ rw (needs.found, needs.unready, goes) refl

-- of so many rounds, of the call before them, and of what they come to
pub record HasRounds (client : ℕ) (request : FileRequest) (P : ℕ → Progress → Tried → Type 0) : Type 0 where
  pub out : (progress : Progress) → P 0 progress (ended progress Outcome.Waits)
  pub fails : (rounds : ℕ) (progress : Progress) (status : Status)
      → finding progress.server client request ≡ Finding.Fails status
      → P (suc rounds) progress (ended progress (Outcome.Refused status))
  pub ready : (rounds : ℕ) (progress : Progress) (wants : List Want)
      → finding progress.server client request ≡ Finding.Needs wants
      → is_ready request progress.server.leases wants ≡ true → P (suc rounds) progress (ended progress Outcome.Ready)
  pub waits : (rounds : ℕ) (progress : Progress) (wants : List Want) → NeedsBreaks client request progress wants
      → must_wait request (wants_met wants progress) wants ≡ true
      → P (suc rounds) progress (ended (wants_met wants progress) Outcome.Waits)
  pub again : (rounds : ℕ) (progress : Progress) (wants : List Want) (tried : Tried)
      → NeedsBreaks client request progress wants → must_wait request (wants_met wants progress) wants ≡ false
      → P rounds (wants_met wants progress) tried → P (suc rounds) progress tried

any_round : (client : ℕ) (request : FileRequest) (P : ℕ → Progress → Tried → Type 0) → HasRounds client request P
    → (rounds : ℕ) (progress : Progress)
    → ((next : Progress) → P rounds next (tried_for rounds client request next))
    → (found : Finding) → finding progress.server client request ≡ found
    → P (suc rounds) progress (tried_for (suc rounds) client request progress)
any_round client request P h rounds progress more (Finding.Fails status) is =
    subst (P (suc rounds) progress) (sym (round_fails rounds client request progress status is))
    (h.fails rounds progress status is)
any_round client request P h rounds progress more (Finding.Needs wants) is =
    let met = wants_met wants progress in
    either (is_ready request progress.server.leases wants)
    (λ ready. subst (P (suc rounds) progress) (sym (round_ends rounds client request progress wants is ready))
    (h.ready rounds progress wants is ready))
    (λ unready. let needs : NeedsBreaks client request progress wants = record { found = is; unready = unready } in
    either (must_wait request met wants)
    (λ wait. subst (P (suc rounds) progress) (sym (round_waits rounds client request progress wants needs wait))
    (h.waits rounds progress wants needs wait))
    (λ goes. subst (P (suc rounds) progress) (sym (round_goes_on rounds client request progress wants needs goes))
    (h.again rounds progress wants (tried_for rounds client request met) needs goes (more met))))

pub any_rounds : (client : ℕ) (request : FileRequest) (P : ℕ → Progress → Tried → Type 0) → HasRounds client request P
    → (rounds : ℕ) (progress : Progress) → P rounds progress (tried_for rounds client request progress)
any_rounds client request P h zero progress =
    subst (P 0 progress) (sym (no_round client request progress)) (h.out progress)
any_rounds client request P h (suc rounds) progress = any_round client request P h rounds progress
    (any_rounds client request P h rounds) (finding progress.server client request) refl

-- ---- what each break keeps

-- of the call before, and after
pub record HasTries (R : Progress → Progress → Type 0) : Type 0 where
  pub same : (progress : Progress) → R progress progress
  pub behind : (before next after : Progress) → R before next → R next after → R before after
  pub drop : (key : Key) (progress : Progress) → R progress (opens_dropped (is_left_open key) progress)
  pub lower : (key : Key) (lowered : State) (progress : Progress) → is_breaking (progress.server.leases key) ≡ false
      → R progress (lease_lowered key lowered progress)
  pub begin : (key : Key) (lowered : State) (progress : Progress) → is_breaking (progress.server.leases key) ≡ false
      → R progress (break_begun key lowered progress)

pub any_meeting : (R : Progress → Progress → Type 0) → HasTries R → (wants : List Want) (progress : Progress)
    → R progress (wants_met wants progress)
any_meeting R h = any_wants (λ wants. R) h.same (λ want wants progress after rest.
    let dropped = opens_dropped (is_left_open want.key) progress in
    h.behind progress (want_met want progress) after
    (h.behind progress dropped (want_met want progress) (h.drop want.key progress)
    (any_break want.key want.lowered dropped (R dropped) (record {
      stays = λ not. h.same dropped;
      begins = λ whole needs. h.begin want.key want.lowered dropped whole.settled;
      lowers = λ whole light. h.lower want.key want.lowered dropped whole.settled;
    }))) rest)

pub any_try : (R : Progress → Progress → Type 0) → HasTries R → (rounds client : ℕ) (request : FileRequest)
    (progress : Progress) → R progress (tried_for rounds client request progress).progress
any_try R h rounds client request = any_rounds client request (λ rounds progress tried. R progress tried.progress) (record {
  out = h.same;
  fails = λ rounds progress status is. h.same progress;
  ready = λ rounds progress wants is ready. h.same progress;
  waits = λ rounds progress wants needs wait. any_meeting R h wants progress;
  again = λ rounds progress wants tried needs goes rest.
      h.behind progress (wants_met wants progress) tried.progress (any_meeting R h wants progress) rest;
}) rounds
