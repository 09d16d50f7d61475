use Rattle.std.proofs.Common.{refl, sym}
use Rattle.capture_walk.proofs.Connected.{knows_asked}
use Rattle.capture_walk.proofs.trees.Trees.note_asked.Goals as goal

pub returns : goal.returns
returns c past knows ungiven =
    knows_asked c.args.seen.now past c.args.self.now _ c.in-Some.asked (sym c.in-Some.ensures) ungiven
    (rw (c.new-path.ensures, c.in_ok-from_slice.ensures.items) at c.in_ok-insert.ensures.updates) refl knows
