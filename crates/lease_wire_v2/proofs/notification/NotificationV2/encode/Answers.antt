use Rattle.std.proofs.Common.{ℕ, List, refl, sym, subst}
use Rattle.lease_wire_v2.specs.EpochNotice.{IsEpochNotice, epoch_notice_of}
use Rattle.lease_wire_v2.proofs.NoticeLaws.{notice_layout, key_length}
use Rattle.lease_wire_v2.proofs.notification.NotificationV2.encode.Goals as goal

pub returns-clause-text : goal.returns-clause-text
returns-clause-text c = rw (c.with_epoch.ensures.text, c.encode.ensures.text) refl

pub returns-clause-layout : goal.returns-clause-layout
returns-clause-layout c =
    subst (λ (bytes : List ℕ). IsEpochNotice bytes (epoch_notice_of c.args.self.now)) (sym (returns-clause-text c))
    (notice_layout (epoch_notice_of c.args.self.now) (record {
      key = key_length _ _ c.encode.ensures.layout;
      new_epoch = c.with_epoch.ensures.fits;
    }))
