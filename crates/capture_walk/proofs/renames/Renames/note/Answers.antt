use Rattle.std.proofs.Common.{sym}
use Rattle.capture_walk.proofs.Renamed.{knows_one_more}
use Rattle.capture_walk.proofs.renames.Renames.note.Goals as goal

pub returns-in_ok-insert : goal.returns-in_ok-insert
returns-in_ok-insert c past knows =
    knows_one_more c.args.seen.now c.in-Some.id past c.args.self.now (record { asked = c.insert.new.self })
    (sym c.in-Some.ensures) c.in_ok-insert.ensures.updates knows
