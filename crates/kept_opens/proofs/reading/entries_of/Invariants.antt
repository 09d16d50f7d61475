use Rattle.std.proofs.Common.{◌≡◌, ◌+◌, ◌*◌, ◌++◌, length}
use Rattle.kept_opens.specs.Kept.{entries_bytes, AllBorne, AllNamed, HoldsEntries}
use Rattle.kept_opens.proofs.reading.entries_of.Given as goal

-- what was read and what is left are the whole
abbrev pub invariant-loop-index : goal.invariant-loop-index
invariant-loop-index l =
    (length l.rest + 48 * l._index ≡ 48 * l.fn.count) × HoldsEntries l.rest
    × (entries_bytes l.opens.items ++ l.rest ≡ l.fn.bytes) × AllBorne l.opens.items × AllNamed l.opens.items
