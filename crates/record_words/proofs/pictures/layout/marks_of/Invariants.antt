use Rattle.std.proofs.Common.{◌≡◌, ◌++◌, ◌+◌, map, drop}
use Rattle.record_words.specs.pictures.Captions.{captions, seen_mark}
use Rattle.record_words.proofs.pictures.layout.marks_of.Given as goal

-- what is left gives the whole
abbrev pub invariant-loop-index : goal.invariant-loop-index
invariant-loop-index l =
    map seen_mark l.marks.items ++ captions l.bad (l.index + 1) (drop l.index l.sheet.facts.now)
    ≡ captions l.bad 1 l.sheet.facts.now
