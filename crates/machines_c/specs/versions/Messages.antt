-- What a host sends for a decision, as C sees it.
use Rattle.std.specs.Prelude.{◌≡◌, ◌≢◌, ◌++◌, ℕ, true, List, [], drop, length, replicate}
use Rattle.lease_model.specs.messages.Replies.{BreakNotice, CreateAnswer}
use Rattle.lease_versions.specs.Layer.{Layer}
use Rattle.lease_versions.specs.Rows.{Carried, carried, followed, takes_memory}
use Rattle.lease_versions.specs.Sent.{answer_sent, notice_sent}
use Rattle.lease_wire.specs.declared.create.Direction.TheVariants.{Reply}
use Rattle.lease_wire_v2.specs.Canonical.{canonical_text}
use Rattle.lease_wire_v2.specs.EpochNotice.{epoch_notice_bytes}
use Rattle.manager_model.specs.Decisions.{Decision}
use Rattle.machines_c.specs.declared.versions.messages.MessageFields.{MessageFields}

abbrev pub answer_text : Carried → CreateAnswer → ℕ → List ℕ
answer_text carried answer timeout = canonical_text Reply (answer_sent carried answer timeout)

abbrev pub notice_text : Carried → BreakNotice → List ℕ
notice_text carried notice = epoch_notice_bytes (notice_sent carried notice)

-- what is sent for a decision that carries this
abbrev pub message_of : Decision → Carried → ℕ → List ℕ
message_of (Decision.Opened client tag file_id answer) carried timeout = answer_text carried answer timeout
message_of (Decision.Breaks client notice) carried timeout = notice_text carried notice
message_of other carried timeout = []

-- the bytes, with zeros after them
abbrev pub message_fields : List ℕ → MessageFields
message_fields text = record { bytes = text ++ drop (length text) (replicate 204 0); length = length text }

-- The decision is followed, and its message written; or there was no memory, and nothing has changed.
pub record HasFollowed (one : Decision) (timeout : ℕ) (old new : MessageFields) (result : ℕ) (before after : Layer) : Type 0 where
  pub done : result ≡ 0 → (after ≡ followed one before) × (new ≡ message_fields (message_of one (carried one before) timeout))
  pub no_memory : result ≢ 0 → (result ≡ 1) × (takes_memory one ≡ true) × (after ≡ before) × (new ≡ old)
