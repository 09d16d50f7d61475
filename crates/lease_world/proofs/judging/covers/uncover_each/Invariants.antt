use Rattle.lease_laws.proofs.Words.{◌<◌, ◌≡◌, ◌≤◌, ℕ, map, vec_len}
use Rattle.lease_world.specs.judge.Covers.{stack_in, layers_under, AreTops, IsUncovered}
use Rattle.lease_world.specs.judge.Seen.{is_open}
use Rattle.lease_world.proofs.judging.covers.uncover_each.Given as goal

-- the positions up to this one are uncovered, and the others are as they were
abbrev pub invariant-loop-position : goal.invariant-loop-position
invariant-loop-position l =
    ((n : ℕ) → n < l.position → IsUncovered (is_open l.settled) (stack_in (map (layers_under l.covers) l.fn.tops.items) n)
    (stack_in (map (layers_under l.covers) l.tops.items) n))
    × ((n : ℕ) → l.position ≤ n → stack_in (map (layers_under l.covers) l.tops.items) n
    ≡ stack_in (map (layers_under l.covers) l.fn.tops.items) n) × AreTops l.covers l.tops.items
    × (vec_len l.tops ≡ vec_len l.fn.tops)
