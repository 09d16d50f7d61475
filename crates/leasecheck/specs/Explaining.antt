-- The verdict on a record that is read as a whole, and why it is that.
use Rattle.std.specs.Prelude.{◌≡◌, ℕ, List, map}
use Rattle.lease_model.specs.records.Verdict as model
use Rattle.lease_facts.specs.Facts.{fact_of}
use Rattle.lease_facts.specs.Verdicts.{verdict_of}
use Rattle.lease_facts.specs.declared.verdict.Verdict.{Verdict}
use Rattle.record_words.specs.words.Explained.{IsExplained}
use Rattle.record_words.specs.words.Placed.{IsPlaced}
use Rattle.record_words.specs.declared.words.placed.Placed.{Placed}

-- The text is a record with this verdict, and that is what is said of the verdict by the facts and their lines.
pub record ExplainsVerdict (text : List ℕ) (told : Verdict) (explanation : List ℕ) : Type 0 where
  pub placed : Placed
  pub read : IsPlaced text placed
  pub verdict : verdict_of told ≡ model.verdict (map fact_of placed.facts.items)
  pub explained : IsExplained placed told explanation
