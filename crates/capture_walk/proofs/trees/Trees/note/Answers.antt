use Rattle.std.proofs.Common.{refl, sym, ◌∙◌}
use Rattle.capture_walk.proofs.Connected.{knows_given}
use Rattle.capture_walk.proofs.trees.Trees.note.Goals as goal

pub returns : goal.returns
returns c past knows =
    knows_given c.args.seen.now past c.args.self.now _ c.in-Some.given _ (sym c.in-Some.ensures)
    (c.in_ok-path.ensures ∙ c.asked.ensures) c.in_ok-insert.ensures.updates refl knows
