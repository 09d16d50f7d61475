-- Verdicts of the code as the definitions see them.
use Rattle.std.specs.Prelude.{◌≡◌, ◌↔◌, ℕ, List}
use Rattle.lease_model.specs.records.Facts.{Fact}
use Rattle.lease_model.specs.records.Safe.{Safe}
use Rattle.lease_model.specs.records.Verdict as model
use Rattle.lease_laws.specs.records.Verdicts.{Says}
use Rattle.lease_facts.specs.declared.verdict.Rule as rule
use Rattle.lease_facts.specs.declared.verdict.Verdict as verdict

abbrev pub rule_number : rule.Rule → ℕ
rule_number rule.TheVariants.OneWriteCache = 1
rule_number rule.TheVariants.FreshCachedReads = 2
rule_number rule.TheVariants.NoLateWrite = 3
rule_number rule.TheVariants.NoFalseDone = 4

abbrev pub verdict_of : verdict.Verdict → model.Verdict
verdict_of verdict.TheVariants.Safe = model.Verdict.Safe
verdict_of (verdict.TheVariants.Unsafe place rule) = model.Verdict.Unsafe place (rule_number rule)
verdict_of (verdict.TheVariants.Malformed place) = model.Verdict.Malformed place

-- This is the verdict on the record of these facts.
pub record IsVerdictOn (facts : List Fact) (told : verdict.Verdict) : Type 0 where
  -- It is the verdict of the definitions,
  pub computed : verdict_of told ≡ model.verdict facts
  -- Safe exactly where the record is safe,
  pub safe : (told ≡ verdict.TheVariants.Safe) ↔ Safe facts
  -- and else it tells the first bad place, and there Malformed before the lowest rule that is broken.
  pub first_bad : Says facts (verdict_of told)
