use Rattle.{lease_laws.proofs.Words.take, text_laws.specs.Runs.IsTyped, lease_texts.specs.Tables.Each}
use Rattle.text_laws.proofs.typing.facts_are_typed.Given as goal

abbrev pub invariant-loop-fact : goal.invariant-loop-fact
invariant-loop-fact l = Each IsTyped (take l.fact-index l.facts)
