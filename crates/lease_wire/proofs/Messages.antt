-- What is written of a break message is read back, and has 0 in all that is free.
use Rattle.std.proofs.Common.{◌≡◌, ◌++◌, length, take, drop, refl, sym}
use Rattle.lease_wire.specs.Notification.{Notice, IsNotification, HasFreeFieldsZero, notification_bytes, NotificationReadsBack}
use Rattle.lease_wire.specs.Notification.{NotificationFreeFields}
use Rattle.lease_wire.specs.Acknowledgment.{KeyAndState, IsAcknowledgment, AcknowledgmentFreeFieldsZero, acknowledgment_bytes}
use Rattle.lease_wire.specs.Acknowledgment.{AcknowledgmentReadsBack, AcknowledgmentFreeFields}
use Rattle.lease_wire.proofs.Cells.{sixteen_cells}
use Rattle.lease_wire.proofs.Fields.{state_of_bits-written, written_state_small, flag-written, written_flag_small}

pub notification_layout : (v : Notice) → length v.key ≡ 16 → IsNotification (notification_bytes v) v
notification_layout v =
    sixteen_cells (λ key. IsNotification (notification_bytes (record v { key = key })) (record v { key = key }))
    (λ a b c d e f g h i j k l m n o p. record {
      size = refl;
      structure_size = refl;
      flags = sym (flag-written v.ack_required);
      lease_key = refl;
      current_lease_state = sym (state_of_bits-written v.current);
      new_lease_state = sym (state_of_bits-written v.new);
    }) v.key

pub notification_reads_back : NotificationReadsBack
notification_reads_back v rest =
    sixteen_cells (λ key. IsNotification (take 44 (notification_bytes (record v { key = key }) ++ rest)) (record v { key = key })
    × (drop 44 (notification_bytes (record v { key = key }) ++ rest) ≡ rest))
    (λ a b c d e f g h i j k l m n o p. (
      record {
        size = refl;
        structure_size = refl;
        flags = sym (flag-written v.ack_required);
        lease_key = refl;
        current_lease_state = sym (state_of_bits-written v.current);
        new_lease_state = sym (state_of_bits-written v.new);
      },
      refl,
    )) v.key

pub notification_free_fields : NotificationFreeFields
notification_free_fields v = sixteen_cells (λ key. HasFreeFieldsZero (notification_bytes (record v { key = key })))
    (λ a b c d e f g h i j k l m n o p. record {
      new_epoch = refl;
      flags = written_flag_small v.ack_required;
      current_lease_state = written_state_small v.current;
      new_lease_state = written_state_small v.new;
      break_reason = refl;
      access_mask_hint = refl;
      share_mask_hint = refl;
    }) v.key

pub acknowledgment_layout : (v : KeyAndState) → length v.key ≡ 16 → IsAcknowledgment (acknowledgment_bytes v) v
acknowledgment_layout v =
    sixteen_cells (λ key. IsAcknowledgment (acknowledgment_bytes (record v { key = key })) (record v { key = key }))
    (λ a b c d e f g h i j k l m n o p. record {
      size = refl;
      structure_size = refl;
      lease_key = refl;
      lease_state = sym (state_of_bits-written v.state);
    }) v.key

pub acknowledgment_reads_back : AcknowledgmentReadsBack
acknowledgment_reads_back v rest =
    sixteen_cells (λ key. IsAcknowledgment (take 36 (acknowledgment_bytes (record v { key = key }) ++ rest))
    (record v { key = key }) × (drop 36 (acknowledgment_bytes (record v { key = key }) ++ rest) ≡ rest))
    (λ a b c d e f g h i j k l m n o p. (
      record {
        size = refl;
        structure_size = refl;
        lease_key = refl;
        lease_state = sym (state_of_bits-written v.state);
      },
      refl,
    )) v.key

pub acknowledgment_free_fields : AcknowledgmentFreeFields
acknowledgment_free_fields v = sixteen_cells (λ key. AcknowledgmentFreeFieldsZero (acknowledgment_bytes (record v { key = key })))
    (λ a b c d e f g h i j k l m n o p. record {
      reserved = refl;
      flags = refl;
      lease_state = written_state_small v.state;
      lease_duration = refl;
    }) v.key
