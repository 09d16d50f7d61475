use Rattle.std.proofs.Common.{sym}
use Rattle.capture_walk.proofs.Negotiated.{knows_one_more}
use Rattle.capture_walk.proofs.clients.Clients.note.Goals as goal

pub returns : goal.returns
returns c past knows =
    knows_one_more c.args.seen.now c.in-Some.guid past c.unwrap_or-client.result c.args.self.now _
    (sym c.in-Some.ensures) (rw c.number.ensures at c.unwrap_or-client.ensures)
    c.in_ok-insert.ensures.updates c.in_ok-insert-2.ensures.updates c.in_ok-insert-3.ensures.updates knows
