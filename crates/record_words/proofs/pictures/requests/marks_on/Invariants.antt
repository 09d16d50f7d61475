use Rattle.std.proofs.Common.{◌≡◌, ◌++◌, ◌+◌, drop, length, map}
use Rattle.record_words.specs.pictures.Requests.{asked_from, seen_request}
use Rattle.record_words.proofs.pictures.requests.marks_on.Given as goal

-- what is left gives the whole
abbrev pub invariant-loop-passage : goal.invariant-loop-passage
invariant-loop-passage l =
    map seen_request l.marks.items ++ asked_from (length l.marks.items + 1) (drop l.passage-index l.passages)
    ≡ asked_from 1 l.passages
