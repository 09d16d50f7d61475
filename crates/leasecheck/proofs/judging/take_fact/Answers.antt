use Rattle.lease_laws.proofs.Words.{◌++◌, ◌∙◌, ◌∷◌, ◌≡◌, [], None, Some, map, subst, sym}
use Rattle.std.proofs.Common.{MatchResult}
use Rattle.lease_facts.specs.Facts.{fact_of}
use Rattle.lease_facts.specs.declared.fact.Fact.{Fact}
use Rattle.lease_texts.specs.Records.{fact_in}
use Rattle.lease_texts.specs.declared.fault.LineFault.{LineFault}
use Rattle.lease_texts.specs.declared.fault.LineFault.TheVariants.{Refused}
use Rattle.leasecheck.proofs.JudgedLines.{line_passed, line_told, line_refused, judged_more}
use Rattle.leasecheck.proofs.judging.take_fact.Goals as goal

pub returns-then-is_passed_over : goal.returns-then-is_passed_over
returns-then-is_passed_over c = λ facts judged.
    (facts, line_passed facts c.args.line.now (sym c.is_passed_over.ensures ∙ c.if-is_passed_over.true), judged)

pub returns-in-Ok-add : goal.returns-in-Ok-add
returns-in-Ok-add c = λ facts judged.
    let told = subst (λ read. MatchResult read (λ (told : Fact). fact_in c.args.line.now ≡ Some told)
    (λ (fault : LineFault). fault ≡ Refused → fact_in c.args.line.now ≡ None)) c.in-Ok.is c.read_fact-read.ensures in (
      facts ++ c.in-Ok.fact ∷ [],
      line_told facts c.args.line.now c.in-Ok.fact (sym c.is_passed_over.ensures ∙ c.if-is_passed_over.false) told,
      judged_more _ facts c.in-Ok.fact (c.in-Ok-add.ensures.judged (map fact_of facts) judged),
    )

pub returns : goal.returns
returns c = λ facts judged refused.
    let none = subst (λ read. MatchResult read (λ (told : Fact). fact_in c.args.line.now ≡ Some told)
    (λ (fault : LineFault). fault ≡ Refused → fact_in c.args.line.now ≡ None)) c.in-Err.is c.read_fact-read.ensures in
    line_refused facts c.args.line.now (sym c.is_passed_over.ensures ∙ c.if-is_passed_over.false) (none refused)
