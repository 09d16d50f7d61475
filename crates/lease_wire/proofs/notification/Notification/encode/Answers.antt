use Rattle.std.proofs.Common.{refl, sym, subst, ℕ, List, ◌≡◌, if◌then◌else◌, rules, length}
use Rattle.lease_wire.specs.Notification.{IsNotification, notice_of}
use Rattle.lease_wire.proofs.Messages.{notification_layout}
use Rattle.lease_wire.proofs.notification.Notification.encode.Goals as goal

pub returns-clause-text : goal.returns-clause-text
returns-clause-text c =
    let flag : c.from.result ≡ (if c.args.self.now.ack_required then 1 else 0) = search rules in
    rw (
      c.copy_from_slice.ensures.after,
      c.write_u32-3.ensures,
      c.write_u32-2.ensures,
      c.write_u32.ensures,
      c.write_u16.ensures,
      c.to_wire-2.ensures,
      c.to_wire.ensures,
      flag,
    ) refl

pub returns-clause-layout : goal.returns-clause-layout
returns-clause-layout c =
    let long : length c.args.self.now.key.0
    ≡ 16 = rw (
      c.copy_from_slice.ensures.after,
      c.write_u32-3.ensures,
      c.write_u32-2.ensures,
      c.write_u32.ensures,
      c.write_u16.ensures,
    ) at c.copy_from_slice.ensures.len in
    subst (λ (bytes : List ℕ). IsNotification bytes (notice_of c.args.self.now)) (sym (returns-clause-text c))
    (notification_layout (notice_of c.args.self.now) long)
