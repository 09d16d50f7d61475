use Rattle.std.proofs.Common.{◌≡◌, ◌+◌, ◌≤◌, drop, length}
use Rattle.record_words.specs.pictures.Requests.{asked_from}
use Rattle.record_words.proofs.pictures.requests.count_sent.Given as goal

-- what is left gives the whole
abbrev pub invariant-loop-passage : goal.invariant-loop-passage
invariant-loop-passage l =
    (l.count + length (asked_from (l.count + 1) (drop l.passage-index l.passages)) ≡ length (asked_from 1 l.passages))
    × (l.count ≤ l.passage-index)
