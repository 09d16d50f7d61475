-- The verdict on a record: safe, or where it first goes wrong.
use Rattle.std.specs.Prelude.{ℕ, ◌+◌, Bool, false, Option, Some, None, List, [], ◌∷◌, if◌then◌else◌, ◌==◌, ◌&&◌, not, bytes_eq}
use Rattle.std.specs.List.{list_any}
use Rattle.lease_model.specs.client.Commands.{Settlement}
use Rattle.lease_state.specs.Content.{patches}
use Rattle.lease_model.specs.records.Facts.{Fact}
use Rattle.lease_model.specs.values.LeaseStates.{holds_any}
use Rattle.lease_model.specs.records.Past.{is_good, believed, last_sending, content_at, unanswered, has_strayed, is_touched}
use Rattle.lease_model.specs.records.Past.{is_accepted}
use Rattle.lease_model.specs.records.Safe.{is_well_formed}

-- Places count facts from 1. Rules: 1 one write cache, 2 fresh cached reads, 3 no late buffered
-- write, 4 no false done.
pub data Verdict : Type 0 where
  Safe : Verdict
  Unsafe : (place : ℕ) (rule : ℕ) → Verdict
  Malformed : (place : ℕ) → Verdict

-- a client with a file of which it noted a belief
pub record Believer : Type 0 where
  pub client : ℕ
  pub file : ℕ

unfoldable pub believers : List Fact → List Believer
believers [] = []
believers (Fact.Believes client file state ∷ past) =
    record { client = client; file = file } ∷ believers past
believers (_ ∷ past) = believers past

abbrev pub caches : List Fact → Believer → Bool
caches past one = is_good one.client past && holds_any (believed one.client one.file past)

abbrev pub caches_writes : List Fact → Believer → Bool
caches_writes past one = is_good one.client past && (believed one.client one.file past).write

abbrev pub is_rival : List Fact → Believer → Believer → Bool
is_rival past one other = other.file == one.file && not (other.client == one.client) && caches past other

-- two good clients cache one file, one of them writes
unfoldable pub has_two_caches : List Fact → Bool
has_two_caches past =
    list_any (λ one. caches_writes past one && list_any (is_rival past one) (believers past)) (believers past)

abbrev pub is_fresh : ℕ → ℕ → List ℕ → List Fact → Option (List Fact) → Bool
is_fresh client file bytes past None = false
is_fresh client file bytes past (Some place) =
    bytes_eq bytes (patches (content_at file past place) (unanswered client file past))

unfoldable pub is_stale_read : Fact → List Fact → Bool
is_stale_read (Fact.CachedRead client file bytes) past =
    is_good client past && not (is_fresh client file bytes past (last_sending client past))
is_stale_read _ past = false

unfoldable pub is_late_write : Fact → List Fact → Bool
is_late_write (Fact.Changed file client number patch) past =
    not (has_strayed client past) && is_touched client file number past
is_late_write _ past = false

unfoldable pub is_false_done : Fact → List Fact → Bool
is_false_done (Fact.Settled client number Settlement.Done) past =
    not (has_strayed client past) && not (is_accepted client number past)
is_false_done _ past = false

-- The verdict on one fact: at one place Malformed goes first, then the lowest rule.
unfoldable pub flaw_at : ℕ → Fact → List Fact → Verdict
flaw_at place fact past =
    if not (is_well_formed fact past) then Verdict.Malformed place
    else (if has_two_caches (fact ∷ past) then Verdict.Unsafe place 1
    else (if is_stale_read fact past then Verdict.Unsafe place 2
    else (if is_late_write fact past then Verdict.Unsafe place 3
    else (if is_false_done fact past then Verdict.Unsafe place 4
    else Verdict.Safe))))

abbrev pub or_else : Verdict → Verdict → Verdict
or_else Verdict.Safe later = later
or_else flaw later = flaw

unfoldable pub verdict_from : ℕ → List Fact → List Fact → Verdict
verdict_from place past [] = Verdict.Safe
verdict_from place past (fact ∷ facts) =
    or_else (flaw_at place fact past) (verdict_from (place + 1) (fact ∷ past) facts)

-- the first bad place of a record is told
abbrev pub verdict : List Fact → Verdict
verdict facts = verdict_from 1 [] facts
