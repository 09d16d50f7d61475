-- A try ends by itself within three rounds.
use Rattle.lease_laws.proofs.Words.{◌&&◌, ◌==◌, ◌∙◌, ◌≡◌, ◌≤◌, Access, Among, Bool, CreateAsk, EndsFor, FileRequest, Finding, Key}
use Rattle.lease_laws.proofs.Words.{Lease, List, None, Open, Option, Outcome, Patch, Progress, Server, Share, Some}
use Rattle.lease_laws.proofs.Words.{State, Status, ThreeRoundsAreEnough, TriesEnd, Want, ℕ, []}
use Rattle.lease_laws.proofs.Words.{all_wants, ap, arith, breaks_to_some, conflicts_on}
use Rattle.lease_laws.proofs.Words.{connected_open, ended, false, finding, handle_wants, holds_any}
use Rattle.lease_laws.proofs.Words.{is_breaking, is_empty, is_leased_elsewhere, is_other_on, is_ready}
use Rattle.lease_laws.proofs.Words.{is_within_limit, key_of_open, list_any, may_write, must_wait, nat_le}
use Rattle.lease_laws.proofs.Words.{nothing_cached, own_key, refl, subst, suc, sym, tried_for}
use Rattle.lease_laws.proofs.Words.{true, wants_met, without_handle, without_write, write_wants, zero}
use Rattle.lease_laws.proofs.server.EnoughRounds.{IsAfterBreaks, IsRoundDone, NoneIs, IsRoundBroken, AllBreakToNone, is_wanted}
use Rattle.lease_laws.proofs.server.EnoughRounds.{nothing_wanted, round_done, round_broken}
use Rattle.lease_laws.proofs.server.Lists.{either, clash, not_true, any_has, has_any}
use Rattle.lease_laws.proofs.server.cases.Findings.{IsAtHome, any_finding, finds_all, finds_handles, finds_violation}
use Rattle.lease_laws.proofs.server.cases.Findings.{finds_writes}
use Rattle.lease_laws.proofs.server.cases.Tries.{any_rounds, round_ends, round_fails, round_goes_on, round_waits}

-- ---- so many rounds are enough for a try

-- after a look, the try ends or the rest of it does
abbrev pub EndsAfter : (Progress → Type 0) → FileRequest → Progress → Finding → Type 0
EndsAfter next request progress (Finding.Fails status) = Unit {0}
EndsAfter next request progress (Finding.Needs wants) = is_ready request progress.server.leases wants ≡ false
    → must_wait request (wants_met wants progress) wants ≡ false → next (wants_met wants progress)

-- the try ends in so many rounds
unfoldable pub Ends : ℕ → ℕ → FileRequest → Progress → Type 0
Ends zero client request progress = ⊥
Ends (suc rounds) client request progress =
    EndsAfter (Ends rounds client request) request progress (finding progress.server client request)

-- what holds of each larger number holds of this
one_more : (rounds more : ℕ) → suc rounds ≤ more → (P : ℕ → Type 0) → ((n : ℕ) → rounds ≤ n → P (suc n)) → P more
one_more rounds zero le P each = let never : ⊥ = omega (arith, le) in absurd never
one_more rounds (suc n) le P each = each n (omega (arith, le))

-- where so many rounds are enough, more do the same
more_same : (rounds more client : ℕ) (request : FileRequest) (progress : Progress) → Ends rounds client request progress
    → rounds ≤ more → tried_for more client request progress ≡ tried_for rounds client request progress
unfolding Ends
more_same rounds more client request progress ends le = any_rounds client request
    (λ rounds progress done. Ends rounds client request progress → (more : ℕ) → rounds ≤ more
    → tried_for more client request progress ≡ done) (record {
      out = λ progress ends more le. absurd ends;
      fails = λ rounds progress status is ends more le. one_more rounds more le
          (λ m. tried_for m client request progress ≡ ended progress (Outcome.Refused status))
          (λ n h. round_fails n client request progress status is);
      ready = λ rounds progress wants is ready ends more le. one_more rounds more le
          (λ m. tried_for m client request progress ≡ ended progress Outcome.Ready)
          (λ n h. round_ends n client request progress wants is ready);
      waits = λ rounds progress wants needs wait ends more le. one_more rounds more le
          (λ m. tried_for m client request progress ≡ ended (wants_met wants progress) Outcome.Waits)
          (λ n h. round_waits n client request progress wants needs wait);
      again = λ rounds progress wants done needs goes rest ends more le. one_more rounds more le
          (λ m. tried_for m client request progress ≡ done) (λ n h. round_goes_on n client request progress wants needs goes
          ∙ rest ((subst (EndsAfter (Ends rounds client request) request progress) needs.found ends) needs.unready goes) n h);
    }) rounds progress ends more le

-- and the try ends for a reason
with_reason : (rounds client : ℕ) (request : FileRequest) (progress : Progress) → Ends rounds client request progress
    → EndsFor client request (tried_for rounds client request progress).progress
    (tried_for rounds client request progress).outcome
unfolding Ends
with_reason rounds client request = any_rounds client request
    (λ rounds progress done. Ends rounds client request progress → EndsFor client request done.progress done.outcome) (record {
      out = λ progress ends. absurd ends;
      fails = λ rounds progress status is ends. is;
      ready = λ rounds progress wants is ready ends. (wants, is, ready);
      waits = λ rounds progress wants needs wait ends. (progress, wants, needs.found, refl, wait);
      again = λ rounds progress wants done needs goes rest ends.
          rest ((subst (EndsAfter (Ends rounds client request) request progress) needs.found ends) needs.unready goes);
    }) rounds

-- ---- one round more

-- a look refuses the request
ends_refused : (rounds client : ℕ) (request : FileRequest) (progress : Progress) (status : Status)
    → finding progress.server client request ≡ Finding.Fails status → Ends (suc rounds) client request progress
unfolding Ends
ends_refused rounds client request progress status e = grind arith

-- a look wants leases broken, and then the rest of the try ends
ends_wants : (rounds client : ℕ) (request : FileRequest) (progress : Progress) (wants : List Want)
    → finding progress.server client request ≡ Finding.Needs wants
    → (must_wait request (wants_met wants progress) wants ≡ false → Ends rounds client request (wants_met wants progress))
    → Ends (suc rounds) client request progress
unfolding Ends
ends_wants rounds client request progress wants e next = grind arith

-- where nothing is wanted each request is ready
nothing_ready : (request : FileRequest) (leases : Key → Lease) → is_ready request leases [] ≡ true
nothing_ready request leases = grind arith

-- a look wants nothing
ends_ready : (rounds client : ℕ) (request : FileRequest) (progress : Progress)
    → finding progress.server client request ≡ Finding.Needs [] → Ends (suc rounds) client request progress
unfolding Ends
ends_ready rounds client request progress e =
    subst (λ (f : Finding). EndsAfter (Ends rounds client request) request progress f) (sym e)
    (λ r w. clash (is_ready request progress.server.leases []) (nothing_ready request progress.server.leases) r)

-- a look finds the request ready
ends_found : (rounds client : ℕ) (request : FileRequest) (progress : Progress) (wants : List Want)
    → finding progress.server client request ≡ Finding.Needs wants
    → is_ready request progress.server.leases wants ≡ true → Ends (suc rounds) client request progress
unfolding Ends
ends_found rounds client request progress wants e ready = grind arith

-- ---- a create

-- the request of a create
abbrev create : ℕ → Access → Share → CreateAsk → FileRequest
create file access share ask = FileRequest.Create file access share (Some ask)

-- a create that goes on waits for no lease that is breaking
create_goes_on : (file : ℕ) (access : Access) (share : Share) (ask : CreateAsk) (wants : List Want) (progress : Progress)
    → must_wait (create file access share ask) progress wants ≡ false → NoneIs (λ lease. is_breaking lease) progress.server wants
create_goes_on file access share ask wants progress e = e

-- of fewer opens none passes either
fewer_none : (test : Open → Bool) (before after : Server) → ((one : Open) → Among one after.opens → Among one before.opens)
    → list_any test before.opens ≡ false → list_any test after.opens ≡ false
fewer_none test before after was none = not_true (list_any test after.opens) (λ some.
    let found = any_has test after.opens some in
    clash (list_any test before.opens) (has_any test found.0 before.opens (was found.0 found.1) found.2) none)

-- breaks give a key no lease on another file
home_after : (own : Option Key) (file : ℕ) (before after : Server)
    → ((one : Open) → Among one after.opens → Among one before.opens)
    → is_leased_elsewhere before own file ≡ false → is_leased_elsewhere after own file ≡ false
home_after None file before after was home = refl
home_after (Some key) file before after was home = fewer_none _ before after was home

-- breaks change nothing of this
at_after : (holds : State → Bool) (client file : ℕ) (ask : CreateAsk) (before after : Server)
    → IsAfterBreaks holds before after → IsAtHome before client file ask → IsAtHome after client file ask
at_after holds client file ask before after later at = record {
  there = ap (λ (files : ℕ). nat_le 1 file && nat_le file files) later.same_files ∙ at.there;
  anew = at.anew;
  home = home_after (own_key client ask.lease) file before after later.no_new_open at.home;
}

-- which leases a create without conflicts, and one with, wants lowered
abbrev writes : State → Bool
writes state = state.write

-- the state holds H
abbrev handles : State → Bool
handles state = state.handle

-- an open of another key that conflicts
abbrev in_conflict : Option Key → ℕ → Access → Share → Open → Bool
in_conflict own file access share one = conflicts_on file access share one && is_other_on own file one

-- where no conflict is left and nobody else caches writes, the create is ready
last_round : (rounds client file : ℕ) (access : Access) (share : Share) (ask : CreateAsk) (progress : Progress)
    → IsAtHome progress.server client file ask → list_any (conflicts_on file access share) progress.server.opens ≡ false
    → ((one : Open) → Among one progress.server.opens
    → is_wanted writes (is_other_on (own_key client ask.lease) file) progress.server one ≡ false)
    → Ends (suc rounds) client (create file access share ask) progress
last_round rounds client file access share ask progress at calm none =
    ends_ready rounds client (create file access share ask) progress
    (finds_writes progress.server client file access share ask at calm ∙ ap (λ (w : List Want). Finding.Needs w)
    (nothing_wanted writes (is_other_on (own_key client ask.lease) file) without_write progress.server none))

-- where no conflict is left, two rounds are enough
write_round : (rounds client file : ℕ) (access : Access) (share : Share) (ask : CreateAsk) (progress : Progress)
    → IsAtHome progress.server client file ask → list_any (conflicts_on file access share) progress.server.opens ≡ false
    → Ends (suc (suc rounds)) client (create file access share ask) progress
write_round rounds client file access share ask progress at calm =
    let own : Option Key = own_key client ask.lease in
    let next : Progress = wants_met (write_wants progress.server own file) progress in
    ends_wants (suc rounds) client (create file access share ask) progress (write_wants progress.server own file)
    (finds_writes progress.server client file access share ask at calm)
    (λ ready.
    let done : IsRoundDone writes (is_other_on own file) progress.server next.server =
    round_done writes (is_other_on own file) without_write progress refl (λ s. refl)
    (create_goes_on file access share ask (write_wants progress.server own file) next ready) in
    last_round rounds client file access share ask next
    (at_after writes client file ask progress.server next.server done.goes_on at)
    (fewer_none (conflicts_on file access share) progress.server next.server done.goes_on.no_new_open calm) done.none_left)

-- after handles were given up, two rounds are enough
handles_gone : (client file : ℕ) (access : Access) (share : Share) (ask : CreateAsk) (progress : Progress)
    → IsAtHome progress.server client file ask → ((one : Open) → Among one progress.server.opens
    → is_wanted handles (in_conflict (own_key client ask.lease) file access share) progress.server one ≡ false)
    → Ends 2 client (create file access share ask) progress
handles_gone client file access share ask progress at none =
    either (list_any (conflicts_on file access share) progress.server.opens)
    (λ clash. ends_refused 1 client (create file access share ask) progress Status.SharingViolation
    (finds_violation progress.server client file access share ask at clash (ap (λ (w : List Want). is_empty w)
    (nothing_wanted handles (in_conflict (own_key client ask.lease) file access share) without_handle progress.server none))))
    (λ calm. write_round 0 client file access share ask progress at calm)

-- where a conflict can be resolved, three rounds are enough
handle_round : (client file : ℕ) (access : Access) (share : Share) (ask : CreateAsk) (progress : Progress)
    → IsAtHome progress.server client file ask → list_any (conflicts_on file access share) progress.server.opens ≡ true
    → is_empty (handle_wants progress.server (own_key client ask.lease) file access share) ≡ false
    → Ends 3 client (create file access share ask) progress
handle_round client file access share ask progress at clash some =
    let own : Option Key = own_key client ask.lease in
    let next : Progress = wants_met (handle_wants progress.server own file access share) progress in
    ends_wants 2 client (create file access share ask) progress (handle_wants progress.server own file access share)
    (finds_handles progress.server client file access share ask at clash some)
    (λ ready.
    let done : IsRoundDone handles (in_conflict own file access share) progress.server next.server =
    round_done handles (in_conflict own file access share) without_handle progress refl (λ s. refl)
    (create_goes_on file access share ask (handle_wants progress.server own file access share) next ready) in
    handles_gone client file access share ask next
    (at_after handles client file ask progress.server next.server done.goes_on at) done.none_left)

-- ---- a write

-- a write that goes on waits for no lease that is breaking to something
write_goes_on : (file_id number : ℕ) (patch : Patch) (wants : List Want) (progress : Progress)
    → must_wait (FileRequest.Write file_id number patch) progress wants ≡ false
    → NoneIs (λ lease. breaks_to_some lease) progress.server wants
write_goes_on file_id number patch wants progress e = e

-- a write is ready where all that it wants is breaking to nothing
write_is_ready : (file_id number : ℕ) (patch : Patch) (server : Server) (wants : List Want)
    → AllBreakToNone server wants → is_ready (FileRequest.Write file_id number patch) server.leases wants ≡ true
write_is_ready file_id number patch server wants e = e

-- a write that others cache against is ready after one round
all_round : (client file_id number : ℕ) (patch : Patch) (progress : Progress) (one : Open)
    → connected_open progress.server client file_id ≡ Some one → may_write one.access ≡ true → is_within_limit patch ≡ true
    → Ends 3 client (FileRequest.Write file_id number patch) progress
all_round client file_id number patch progress one e may fits =
    let others : Open → Bool = is_other_on (key_of_open one) one.file in
    let wants : List Want = all_wants progress.server (key_of_open one) one.file in
    let next : Progress = wants_met wants progress in
    ends_wants 2 client (FileRequest.Write file_id number patch) progress wants
    (finds_all progress.server client file_id number patch one e may fits)
    (λ ready.
    let done : IsRoundBroken holds_any others (λ state. nothing_cached) progress.server next.server =
    round_broken holds_any others (λ state. nothing_cached) progress refl (λ s. refl)
    (write_goes_on file_id number patch wants next ready) in
    ends_found 1 client (FileRequest.Write file_id number patch) next (all_wants next.server (key_of_open one) one.file)
    (finds_all next.server client file_id number patch one
    (done.goes_on.connected_left (λ x. x.file_id == file_id && x.client == client) ∙ e) may fits)
    (write_is_ready file_id number patch next.server (all_wants next.server (key_of_open one) one.file) done.to_none))

-- ---- every try ends in three rounds

pub tries_settle : (client : ℕ) (request : FileRequest) (progress : Progress) → Ends 3 client request progress
tries_settle client request progress =
    let refuses : (request : FileRequest) (status : Status) → finding progress.server client request ≡ Finding.Fails status
    → Ends 3 client request progress = λ request status is. ends_refused 2 client request progress status is in
    any_finding progress.server client
    (λ request found. finding progress.server client request ≡ found → Ends 3 client request progress) (record {
      malformed = λ file access share. refuses _ _;
      nowhere = λ file access share ask away. refuses _ _;
      elsewhere = λ file access share ask there anew away. refuses _ _;
      violates = λ file access share ask at clash none. refuses _ _;
      conflicts = λ file access share ask at clash some is. handle_round client file access share ask progress at clash some;
      enters = λ file access share ask at calm is. write_round 1 client file access share ask progress at calm;
      awaited = λ file access share ask file_id there again some is. ends_ready 2 client _ progress is;
      forgotten = λ file access share ask file_id there again none. refuses _ _;
      gone = λ request file_id names none. refuses _ _;
      unread = λ file_id one own not. refuses _ _;
      reads = λ file_id one own may is. ends_ready 2 client _ progress is;
      unwritten = λ file_id number patch one own not. refuses _ _;
      too_long = λ file_id number patch one own may long. refuses _ _;
      writes = λ file_id number patch one own may fits is. all_round client file_id number patch progress one own.found may fits;
      closes = λ file_id one own is. ends_ready 2 client _ progress is;
    }) request refl

-- so it ends for a reason
pub tries_end : TriesEnd
tries_end client request progress = with_reason 3 client request progress (tries_settle client request progress)

-- and more rounds do the same
pub three_are_enough : ThreeRoundsAreEnough
three_are_enough rounds client request progress le =
    more_same 3 rounds client request progress (tries_settle client request progress) le
