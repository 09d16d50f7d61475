use Rattle.lease_laws.proofs.Words.{◌+◌, ◌-◌, ◌≡◌, List, ℕ, map, vec_len}
use Rattle.lease_world.specs.declared.judging.covers.Cover.{Cover}
use Rattle.lease_world.specs.judge.Covers.{stack_in, layers_under, AreTops}
use Rattle.lease_world.proofs.judging.covers.reach.Given as goal

abbrev pub invariant-loop-tops : goal.invariant-loop-tops
invariant-loop-tops l = ((covers : List Cover) (n : ℕ) → stack_in (map (layers_under covers) l.tops.items) n
    ≡ stack_in (map (layers_under covers) l.fn.tops.items) n)
    × ((covers : List Cover) → AreTops covers l.fn.tops.items → AreTops covers l.tops.items)

abbrev pub decreases-loop-tops : goal.decreases-loop-tops
decreases-loop-tops l = l.position + 1 - vec_len l.tops
