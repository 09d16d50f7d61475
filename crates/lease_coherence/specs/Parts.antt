-- The parts of the theorem that every run is safe.
use Rattle.std.specs.Prelude.{◌≡◌, ℕ, true, false, List, reverse}
use Rattle.lease_state.specs.declared.rules.Rules.{Rules}
use Rattle.lease_model.specs.records.Facts.{Fact}
use Rattle.lease_model.specs.records.Past.{has_strayed}
use Rattle.lease_model.specs.records.Safe.{EachFact, EachBeginning, WellFormed, OneWriteCache, FreshRead, NoLateWrite}
use Rattle.lease_model.specs.records.Safe.{NoFalseDone, Safe}
use Rattle.lease_model.specs.world.Allowed.{is_allowed_setup}
use Rattle.lease_model.specs.world.Events.{Event, after, recorded_under}
use Rattle.lease_model.specs.world.World.{World, Setup, first_world_under}
use Rattle.lease_coherence.specs.Creates.{IsCountedAt}
use Rattle.lease_coherence.specs.Names.{IsNamedAt}
use Rattle.lease_coherence.specs.Standing.{IsUpStanding}

-- what holds of each fact of every run, with the facts before it
abbrev pub InRuns : (Fact → List Fact → Type 0) → Type 0
InRuns P = (rules : Rules) (setup : Setup) (events : List Event) → is_allowed_setup setup ≡ true
    → EachFact P (reverse (recorded_under rules setup events))

-- Every record of a run is well formed.
abbrev pub RunsAreWellFormed : Type 0
RunsAreWellFormed = InRuns WellFormed

-- No write of a run is settled as done that wasn't accepted.
abbrev pub NothingIsFalselyDone : Type 0
NothingIsFalselyDone = InRuns NoFalseDone

-- At every place of every record: where a client may cache writes of a file, no other caches it.
abbrev pub RunsHaveOneWriteCache : Type 0
RunsHaveOneWriteCache = (rules : Rules) (setup : Setup) (events : List Event)
    → EachBeginning OneWriteCache (reverse (recorded_under rules setup events))

-- Every cached read of a run is fresh.
abbrev pub CachedReadsAreFresh : Type 0
CachedReadsAreFresh = InRuns FreshRead

-- No buffered write of a run is accepted after another client opened or changed its file.
abbrev pub NoWriteIsLate : Type 0
NoWriteIsLate = InRuns NoLateWrite

-- ---- the theorem

-- For every allowed setup and every list of events, the record of the run is safe.
abbrev pub EveryRunIsSafe : Type 0
EveryRunIsSafe = (rules : Rules) (setup : Setup) (events : List Event) → is_allowed_setup setup ≡ true
    → Safe (recorded_under rules setup events)

-- ---- what every run has, of each client that hasn't strayed

abbrev pub OfRuns : (World → ℕ → Type 0) → Type 0
OfRuns A = (rules : Rules) (setup : Setup) (events : List Event) (client : ℕ)
    → has_strayed client (after (first_world_under rules setup) events).past ≡ false
    → A (after (first_world_under rules setup) events) client

-- All that it names was told of before.
abbrev pub NamesOfRuns : Type 0
NamesOfRuns = OfRuns IsNamedAt

-- While its link is up, a create of a file is under way exactly where the file's entry has asked for one.
abbrev pub CreatesOfRuns : Type 0
CreatesOfRuns = OfRuns IsCountedAt

-- While its link is up, the open of each live entry and of each grant on its way stands.
abbrev pub OpensOfRuns : Type 0
OpensOfRuns = OfRuns IsUpStanding
