use Rattle.std.proofs.Common.{sym}
use Rattle.capture_walk.specs.Events.{without_epoch}
use Rattle.capture_walk.proofs.Leases.{edited_at}
use Rattle.capture_walk.proofs.latest.end.Goals as goal

pub returns : goal.returns
returns c = edited_at without_epoch c.args.said.now c.insert.new.self c.args.lease c.in-Some.before.now
    c.without_epoch-ended.result (sym c.in-Some.ensures.value) c.in_ok-insert.ensures.updates c.without_epoch-ended.ensures
