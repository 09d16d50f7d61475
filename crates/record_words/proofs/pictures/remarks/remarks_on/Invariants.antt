use Rattle.std.proofs.Common.{◌≡◌, ◌++◌, map, drop}
use Rattle.std.specs.List.{filter}
use Rattle.record_words.specs.pictures.Remarks.{is_said, said_of, words_of}
use Rattle.record_words.proofs.pictures.remarks.remarks_on.Given as goal

-- what is left gives the whole
abbrev pub invariant-loop-index : goal.invariant-loop-index
invariant-loop-index l =
    map words_of l.said.items ++ filter is_said (drop l.index l.words-items) ≡ said_of l.fn.facts l.remarks
