use Rattle.std.proofs.Common.{subst, refl, List}
use Rattle.std.proofs.lemmas.Option.{slice_get_read}
use Rattle.capture_judge.specs.Searching.{Includes}
use Rattle.capture_judge.specs.declared.values.Change.{Change}
use Rattle.capture_judge.proofs.placings.Places.{each-all}
use Rattle.capture_judge.proofs.placings.Positions.{HasAll, has-more}
use Rattle.capture_judge.proofs.bounds.last_positions.Goals as goal

pub loop-chain-preserved : goal.loop-chain-preserved
loop-chain-preserved c = has-more c.loop-chain.positions.items c.push_lasts.new.positions.items c.args.chains.now
    c.loop-chain.chain-index c.chain-item.result (slice_get_read _ _ _ _ refl c.loop-chain-test.true c.chain-item.is)
    (subst (λ (cs : List Change). Includes c.loop-chain.positions.items c.push_lasts.new.positions.items cs)
    c.as_slice.ensures.value c.in_ok-push_lasts.ensures)
    c.loop-chain.invariant

pub returns-clause-all : goal.returns-clause-all
returns-clause-all c = λ n chain i change last at is has.
    c.sort_once.ensures.keeps last (each-all (HasAll c.loop-chain.positions.items) c.args.chains.now c.loop-chain.chain-index
    c.loop-chain-test.false c.loop-chain.invariant n chain at i change last is has)
