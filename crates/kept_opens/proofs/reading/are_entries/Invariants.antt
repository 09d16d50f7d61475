use Rattle.std.proofs.Common.{◌≡◌, ◌+◌, ◌*◌, length}
use Rattle.kept_opens.specs.Kept.{HoldsEntries, HoldsNoEntries}
use Rattle.kept_opens.proofs.reading.are_entries.Given as goal

-- what is left is some opens' or none's as all is
abbrev pub invariant-loop-index : goal.invariant-loop-index
invariant-loop-index l =
    (length l.rest + 48 * l._index ≡ 48 * l.fn.count) × (HoldsEntries l.rest → HoldsEntries l.fn.bytes)
    × (HoldsNoEntries l.rest → HoldsNoEntries l.fn.bytes)
