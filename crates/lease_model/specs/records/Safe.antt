-- When a record is safe: what is promised of every run, said of the facts alone.
use Rattle.std.specs.Prelude.{◌≡◌, ◌≢◌, ⊤, ℕ, Bool, true, false, Some, List, [], ◌∷◌, length, reverse, nat_lt, ◌&&◌, not}
use Rattle.lease_state.specs.State.{nothing_cached}
use Rattle.lease_model.specs.client.Commands.{Settlement}
use Rattle.lease_state.specs.Content.{patches}
use Rattle.lease_model.specs.values.Patches.{is_within_limit}
use Rattle.lease_model.specs.records.Facts.{Fact}
use Rattle.lease_model.specs.records.Past.{is_started, has_joined, sendings, takings, has_number, is_good, believed, last_sending}
use Rattle.lease_model.specs.records.Past.{content_at, unanswered, has_strayed, is_touched, is_accepted}

-- P of each fact with the past before it; the list is newest first
abbrev pub EachFact : (Fact → List Fact → Type 0) → List Fact → Type 0
EachFact P [] = ⊤
EachFact P (fact ∷ past) = P fact past × EachFact P past

-- P of each beginning of the record, the empty one and the whole among them
abbrev pub EachBeginning : (List Fact → Type 0) → List Fact → Type 0
EachBeginning P [] = P []
EachBeginning P (fact ∷ past) = P (fact ∷ past) × EachBeginning P past

-- Well formed: a file is started once and before any other fact names it; a message that is taken
-- was sent before; a patch ends within the limit; a client uses the number of a write once.
unfoldable pub is_well_formed : Fact → List Fact → Bool
is_well_formed (Fact.Start file bytes) past = not (is_started file past)
is_well_formed (Fact.Expired client file) past = is_started file past
is_well_formed (Fact.Took client) past =
    has_joined client past && nat_lt (takings client past) (length (sendings client past))
is_well_formed (Fact.Opened file client) past = is_started file past
is_well_formed (Fact.Changed file client number patch) past =
    is_started file past && is_within_limit patch
is_well_formed (Fact.Wrote client file number patch buffered) past =
    is_started file past && is_within_limit patch && not (has_number client number past)
is_well_formed (Fact.Believes client file state) past = is_started file past
is_well_formed (Fact.CachedRead client file bytes) past = is_started file past
is_well_formed _ past = true

abbrev pub WellFormed : Fact → List Fact → Type 0
WellFormed fact past = is_well_formed fact past ≡ true

-- One write cache: where a good client believes that it may cache writes of a file, no other good
-- client believes that it may cache anything of it.
abbrev pub OneWriteCache : List Fact → Type 0
OneWriteCache past = (file client other : ℕ) → other ≢ client
    → is_good client past ≡ true → (believed client file past).write ≡ true
    → is_good other past ≡ true → believed other file past ≡ nothing_cached

-- Fresh cached reads: a good client's cached read gives the file as it stood when the message that
-- the client took last was sent, with the client's unanswered writes.
abbrev pub FreshRead : Fact → List Fact → Type 0
FreshRead (Fact.CachedRead client file bytes) past = is_good client past ≡ true
    → (place : List Fact) × (last_sending client past ≡ Some place)
    × (bytes ≡ patches (content_at file past place) (unanswered client file past))
FreshRead _ past = ⊤

-- No late buffered write: where a buffered write is accepted, no other client opened or changed the
-- file since it was buffered. Said of every client that hasn't strayed, good or not.
abbrev pub NoLateWrite : Fact → List Fact → Type 0
NoLateWrite (Fact.Changed file client number patch) past =
    has_strayed client past ≡ false → is_touched client file number past ≡ false
NoLateWrite _ past = ⊤

-- No false done: a write that is settled as done was accepted, on its file and with its patch. Said
-- of every client that hasn't strayed, good or not.
abbrev pub NoFalseDone : Fact → List Fact → Type 0
NoFalseDone (Fact.Settled client number Settlement.Done) past =
    has_strayed client past ≡ false → is_accepted client number past ≡ true
NoFalseDone _ past = ⊤

-- A record is safe. It stands in its order here, the oldest fact first.
pub record Safe (facts : List Fact) : Type 0 where
  pub well_formed : EachFact WellFormed (reverse facts)
  pub one_write_cache : EachBeginning OneWriteCache (reverse facts)
  pub fresh_reads : EachFact FreshRead (reverse facts)
  pub no_late_write : EachFact NoLateWrite (reverse facts)
  pub no_false_done : EachFact NoFalseDone (reverse facts)
