use Rattle.lease_laws.proofs.Words.{◌&&◌, ◌++◌, ◌+◌, ◌-◌, ◌∷◌, ◌≡◌, ℕ, [], if◌then◌else◌, nat_le, nat_lt, slice_index}
use Rattle.lease_world.specs.judge.Covers.{stack_in}
use Rattle.lease_world.proofs.judging.covers.Covers.lay.Given as goal

-- so many bytes cover their positions
abbrev pub invariant-loop-place : goal.invariant-loop-place
invariant-loop-place l = (n : ℕ) → stack_in l.self n ≡ (if nat_le l.patch.offset n && nat_lt n (l.patch.offset + l.place)
    then record { number = l.number; byte = slice_index l.patch.bytes (n - l.patch.offset) } ∷ [] else []) ++ stack_in l.fn.self n
