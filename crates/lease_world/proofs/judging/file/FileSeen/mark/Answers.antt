use Rattle.lease_laws.proofs.Words.{◌≡◌, List, ℕ, [], rules, subst, unwrap_or}
use Rattle.std.specs.Prelude.{All}
use Rattle.lease_world.specs.judge.Marks.{Mark, IsMark}
use Rattle.lease_world.specs.judge.Seen.{Change}
use Rattle.lease_world.proofs.records.Marks.{mark_first}
use Rattle.lease_world.proofs.judging.file.FileSeen.mark.Goals as goal
use Rattle.lease_world.proofs.judging.file.FileSeen.mark.Goals.{in-Some+in_ok-last-in-Some, in-None+in_ok-first-in-None}

pub invariant_of-self : goal.invariant_of-self
invariant_of-self c =
    let first : List ℕ = unwrap_or c.match-last.self-inside.start [] in
    let changes : List Change = c.match-last.self-inside.changes.items in
    let last : IsMark first changes c.match-last.last = elim c.match-last.branch [
      | in-Some+in_ok-last-in-Some w ↦ search rules
      | in-None+in_ok-first-in-None w ↦ subst (λ (m : Mark). IsMark first changes m) (search rules) (mark_first first changes)
    ] in
    let same : c.deref-2.result.now ≡ changes = c.deref-2.ensures.value in
    subst (λ (cs : List Change). All (IsMark first cs) c.leave_marks.new.marks.items) same
    (c.leave_marks.ensures first (rw same last) (rw same (search rules)))
