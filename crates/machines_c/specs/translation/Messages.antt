-- What a client sends, and what its machine is given, as C sees it.
use Rattle.std.specs.Prelude.{◌≡◌, ◌≢◌, ℕ, Bool, true, List, [], Option, Some, None, Result, Ok, Err, if◌then◌else◌}
use Rattle.std.specs.Prelude.{take}
use Rattle.client_versions.specs.Layer.{Layer}
use Rattle.client_versions.specs.Rows.{answer_given, answer_takes_memory, answered, answered_in_order, asked}
use Rattle.client_versions.specs.Rows.{notice_given, notice_takes_memory, noticed, noticed_in_order}
use Rattle.lease_wire.specs.Canonical as first_text
use Rattle.lease_wire.specs.Gathering as first_reading
use Rattle.lease_wire.specs.Names as first
use Rattle.lease_wire.specs.Notification.{Notice, notification_bytes}
use Rattle.lease_wire.specs.WireFaults.{message_fault}
use Rattle.lease_wire.specs.declared.create.Direction.TheVariants.{Reply, Request}
use Rattle.lease_wire.specs.declared.fault.WireFault.{WireFault}
use Rattle.lease_wire_v2.specs.Canonical.{canonical_text}
use Rattle.lease_wire_v2.specs.EpochNotice.{EpochNotice, IsEpochNotice}
use Rattle.lease_wire_v2.specs.Gathering.{value_of}
use Rattle.lease_wire_v2.specs.Names.{CreateView}
use Rattle.lease_wire_v2.specs.Views.{plain_of}
use Rattle.lease_wire_v2.specs.declared.fault.CreateFault.{CreateFault}
use Rattle.machines_c.specs.versions.Messages.{message_fields}
use Rattle.machines_c.specs.declared.versions.messages.MessageFields.{MessageFields}

-- ---- a create is asked for

-- the contexts are those of version 1; the message has those that are sent
abbrev pub HasAskedFor : Option (List ℕ) → List ℕ → Result first.CreateView WireFault → MessageFields → MessageFields → ℕ → Layer
    → Type 0
HasAskedFor parent guid (Ok ask) old new result layer =
    (result ≡ 0) × (new ≡ message_fields (canonical_text Request (asked parent guid ask layer)))
HasAskedFor parent guid (Err fault) old new result layer = (result ≡ 5) × (new ≡ old)

abbrev pub HasAsked : Option (List ℕ) → List ℕ → List ℕ → MessageFields → MessageFields → ℕ → Layer → Type 0
HasAsked parent guid text old new result layer =
    HasAskedFor parent guid (first_reading.value_of Request text) old new result layer

-- ---- a create is answered

abbrev pub answered_as : Bool → ℕ → List ℕ → CreateView → Layer → Layer
answered_as in_order file_id guid answer layer =
    if in_order then answered_in_order file_id guid answer layer else answered file_id guid answer layer

abbrev pub answer_given_as : Bool → CreateView → Layer → first.CreateView
answer_given_as in_order answer layer = if in_order then plain_of answer else answer_given answer layer

-- The answer is taken, and the message has its contexts in version 1; or there was no memory, and nothing has changed.
pub record IsAnswered (in_order : Bool) (file_id : ℕ) (guid : List ℕ) (answer : CreateView) (old new : MessageFields)
    (result : ℕ) (before after : Layer) : Type 0 where
  pub done : result ≡ 0 → (after ≡ answered_as in_order file_id guid answer before)
      × (new ≡ message_fields (first_text.canonical_text Reply (answer_given_as in_order answer before)))
  pub no_memory : result ≢ 0 → (result ≡ 1) × (answer_takes_memory answer before ≡ true) × (after ≡ before) × (new ≡ old)

abbrev pub HasAnsweredBy : Bool → ℕ → List ℕ → Result CreateView CreateFault → MessageFields → MessageFields → ℕ → Layer → Layer
    → Type 0
HasAnsweredBy in_order file_id guid (Ok answer) old new result before after =
    IsAnswered in_order file_id guid answer old new result before after
HasAnsweredBy in_order file_id guid (Err fault) old new result before after =
    (result ≡ 5) × (after ≡ before) × (new ≡ old)

abbrev pub HasAnswered : Bool → ℕ → List ℕ → List ℕ → MessageFields → MessageFields → ℕ → Layer → Layer → Type 0
HasAnswered in_order file_id guid text old new result before after =
    HasAnsweredBy in_order file_id guid (value_of Reply text) old new result before after

-- ---- a break is noticed

abbrev pub noticed_as : Bool → EpochNotice → Layer → Layer
noticed_as in_order notice layer = if in_order then noticed_in_order notice layer else noticed notice layer

abbrev pub notice_given_as : Bool → EpochNotice → Layer → Option Notice
notice_given_as in_order notice layer = if in_order then Some notice.notice else notice_given notice layer

abbrev pub notice_text : Option Notice → List ℕ
notice_text None = []
notice_text (Some notice) = notification_bytes notice

-- The notice is taken, and the message has it in version 1, or no bytes where it is dropped; or there was no memory, and nothing
-- has changed.
pub record IsNoticed (in_order : Bool) (notice : EpochNotice) (old new : MessageFields) (result : ℕ) (before after : Layer)
    : Type 0 where
  pub done : result ≡ 0 → (after ≡ noticed_as in_order notice before)
      × (new ≡ message_fields (notice_text (notice_given_as in_order notice before)))
  pub no_memory : result ≢ 0 → (result ≡ 1) × (notice_takes_memory notice (before.leases notice.notice.key) ≡ true)
      × (after ≡ before) × (new ≡ old)

abbrev pub HasNoticedOr : Bool → List ℕ → Option WireFault → MessageFields → MessageFields → ℕ → Layer → Layer → Type 0
HasNoticedOr in_order text None old new result before after =
    (notice : EpochNotice) × IsEpochNotice text notice × IsNoticed in_order notice old new result before after
HasNoticedOr in_order text (Some fault) old new result before after = (result ≡ 5) × (after ≡ before) × (new ≡ old)

abbrev pub HasNoticed : Bool → List ℕ → MessageFields → MessageFields → ℕ → Layer → Layer → Type 0
HasNoticed in_order text old new result before after =
    HasNoticedOr in_order (take 44 text) (message_fault 44 text) old new result before after
