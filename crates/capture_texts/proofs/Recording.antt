-- Facts among lines, one line after the other.
use Rattle.std.proofs.Common.{◌≡◌, List, [], ◌∷◌, ◌++◌, refl, ap}
use Rattle.lease_facts.specs.Facts.{fact_of}
use Rattle.lease_facts.specs.declared.fact.Fact.{Fact}
use Rattle.lease_model.specs.records.Facts as model
use Rattle.capture_texts.specs.records.Records.{facts_in}
use Rattle.capture_texts.specs.declared.records.record.RecordLine.{RecordLine}
use Rattle.capture_texts.specs.declared.records.record.RecordLine.TheVariants as line

pub fact-push : (lines : List RecordLine) (fact : Fact)
    → facts_in (lines ++ line.Fact fact ∷ []) ≡ facts_in lines ++ fact_of fact ∷ []
fact-push [] fact = refl
fact-push (line.Fact one ∷ lines) fact = ap (λ (facts : List model.Fact). fact_of one ∷ facts) (fact-push lines fact)
fact-push (line.Remark text ∷ lines) fact = fact-push lines fact

pub remark-push : (lines : List RecordLine) (one : RecordLine) → facts_in (one ∷ []) ≡ []
    → facts_in (lines ++ one ∷ []) ≡ facts_in lines
remark-push [] one none = none
remark-push (line.Fact fact ∷ lines) one none =
    ap (λ (facts : List model.Fact). fact_of fact ∷ facts) (remark-push lines one none)
remark-push (line.Remark text ∷ lines) one none = remark-push lines one none
