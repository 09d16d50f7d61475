use Rattle.std.proofs.Common.{◌≡◌, length, take}
use Rattle.kept_opens.specs.Kept.{AllBorne}
use Rattle.kept_opens.proofs.KeptLemmas.{text_so_far}
use Rattle.kept_opens.proofs.writing.write.Given as goal

-- the opens so far are written
abbrev pub invariant-loop-one : goal.invariant-loop-one
invariant-loop-one l =
    (l.bytes.items ≡ text_so_far l.fn.last.0 (length l.fn.kept) (take l.one-index l.fn.kept))
    × AllBorne (take l.one-index l.fn.kept)
