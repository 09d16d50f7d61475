-- What the verdict of the definitions says is what the code's verdict says.
use Rattle.lease_laws.proofs.Words.{◌∙◌, ◌≡◌, Fact, List, Safe, Says, ap, arith, subst, sym}
use Rattle.std.specs.Prelude.{◌↔◌}
use Rattle.lease_model.specs.records.Verdict as model
use Rattle.lease_laws.proofs.records.VerdictLemmas.{verdict-safe, safe-verdict, verdict-says}
use Rattle.lease_facts.specs.Verdicts.{verdict_of, IsVerdictOn}
use Rattle.lease_facts.specs.declared.verdict.Verdict.{Verdict}

told_safe : (told : Verdict) → verdict_of told ≡ model.Verdict.Safe → told ≡ Verdict.Safe
told_safe told e = grind arith

pub safe_told : (facts : List Fact) (told : Verdict) → verdict_of told ≡ model.verdict facts → (told ≡ Verdict.Safe) ↔ Safe facts
safe_told facts told e = (
  λ safe. verdict-safe facts (sym e ∙ ap verdict_of safe),
  λ safe. told_safe told (e ∙ safe-verdict facts safe),
)

pub bad_told : (facts : List Fact) (told : Verdict) → verdict_of told ≡ model.verdict facts → Says facts (verdict_of told)
bad_told facts told e = subst (λ (v : model.Verdict). Says facts v) (sym e) (verdict-says facts)

pub told_on : (facts : List Fact) (told : Verdict) → verdict_of told ≡ model.verdict facts → IsVerdictOn facts told
told_on facts told e = record { computed = e; safe = safe_told facts told e; first_bad = bad_told facts told e }
