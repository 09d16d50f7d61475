use Rattle.std.proofs.Common.{rules, ◌≡◌}
use Rattle.lease_wire.specs.Notification.{notice_of}
use Rattle.lease_c.specs.Flag.{flag_of}
use Rattle.lease_c.proofs.Held.{notice_is_held}
use Rattle.lease_c.proofs.messages.LeaseNotification.holding.Goals as goal

pub returns-clause-value : goal.returns-clause-value
returns-clause-value c =
    let flag : c.from.result ≡ flag_of c.args.message.now.ack_required = search rules in
    rw (c.to_wire.ensures, c.to_wire-2.ensures, flag) (notice_is_held (notice_of c.args.message.now))
