-- The places of the facts that make a record bad.
use Rattle.std.specs.Prelude.{ℕ, ◌++◌, List, [], ◌∷◌, Option, Some, None}
use Rattle.lease_reasons.specs.declared.reason.Expected.{Expected}
use Rattle.lease_reasons.specs.declared.reason.Reason.{Reason}
use Rattle.lease_reasons.specs.declared.reason.Reason.TheVariants as reason
use Rattle.lease_facts.specs.declared.verdict.Verdict.{Verdict}
use Rattle.record_words.specs.words.Explained.{bad_place}

abbrev pub place_if : Option ℕ → List ℕ
place_if None = []
place_if (Some place) = place ∷ []

abbrev pub expected_places : Expected → List ℕ
expected_places expected =
    expected.taken ∷ (expected.sent ∷ (place_if expected.started ++ (place_if expected.changed ++ expected.unanswered.items)))

-- those of the facts that a reason names
abbrev pub reason_places : Reason → List ℕ
reason_places (reason.NotStarted file) = []
reason_places (reason.StartedAgain file before) = before ∷ []
reason_places (reason.PastLimit end) = []
reason_places (reason.NumberUsed client number before) = before ∷ []
reason_places (reason.NotJoined client) = []
reason_places (reason.NothingToTake client joined sent) = joined ∷ []
reason_places (reason.TwoCaches file writer other) = writer.place ∷ (other.place ∷ [])
reason_places (reason.NoMessage client file) = []
reason_places (reason.StaleRead client file expected) = expected_places expected
reason_places (reason.LateWrite client file number wrote touched) = wrote ∷ (touched ∷ [])
reason_places (reason.FalseDone client number wrote changed) = place_if wrote ++ place_if changed

abbrev pub places_behind : Option Reason → List ℕ
places_behind None = []
places_behind (Some told) = reason_places told

-- that of the bad fact, and those after it
abbrev pub bad_places : Verdict → Option Reason → List ℕ
bad_places verdict told = place_if (bad_place verdict) ++ places_behind told
