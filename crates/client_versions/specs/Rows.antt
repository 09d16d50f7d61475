-- What each message asks with, what it changes, and what of it the client's machine is given, in version 1.
use Rattle.std.specs.Prelude.{ℕ, ◌==◌, Bool, true, false, not, Option, Some, None, List, if◌then◌else◌, ◌&&◌, ◌||◌, is_some}
use Rattle.std.specs.Option.{option_map}
use Rattle.lease_state.specs.State.{State}
use Rattle.lease_model.specs.values.Tables.{put}
use Rattle.lease_wire.specs.Names as first
use Rattle.lease_wire.specs.Notification.{Notice}
use Rattle.lease_wire_v2.specs.EpochNotice.{EpochNotice}
use Rattle.lease_wire_v2.specs.Views.{plain_of}
use Rattle.lease_wire_v2.specs.Names.{CreateView, DurableView, LeaseView, ReconnectView, SecondView}
use Rattle.client_versions.specs.Epochs.{epoch_known, is_taken, known_after, known_in_break}
use Rattle.client_versions.specs.Layer.{Known, Layer, put_known}

-- ---- a create is asked for

abbrev pub asked_lease : Option (List ℕ) → (List ℕ → Option Known) → first.LeaseView → LeaseView
asked_lease parent leases lease = record {
  key = lease.key;
  state = lease.state;
  breaking = lease.breaking;
  second = Some (record { parent = parent; epoch = epoch_known (leases lease.key) });
}

-- Timeout 0 leaves it to the server (MS-SMB2 2.2.13.2.11)
abbrev pub durable_under : List ℕ → DurableView
durable_under guid = DurableView.Asked (record { timeout = 0; persistent = false; create_guid = guid })

-- DHnQ beside DHnC is passed over by a server (3.3.5.9.7), and DH2Q beside DH2C refused (3.3.5.9.12): neither is asked.
abbrev pub asked_durable : List ℕ → first.CreateView → Option DurableView
asked_durable guid ask = if ask.durable && not (is_some ask.reconnect) then Some (durable_under guid) else None

-- an open without a CreateGuid is a durable one of version 1
abbrev pub again_under : ℕ → Option (List ℕ) → ReconnectView
again_under file_id None = ReconnectView.FirstId file_id
again_under file_id (Some guid) = ReconnectView.SecondId
    (record { persistent_id = file_id; volatile_id = file_id; create_guid = guid; persistent = false })

abbrev pub asked_again : (ℕ → Option (List ℕ)) → ℕ → ReconnectView
asked_again guids file_id = again_under file_id (guids file_id)

abbrev pub asked : Option (List ℕ) → List ℕ → first.CreateView → Layer → CreateView
asked parent guid ask layer = record {
  lease = option_map (asked_lease parent layer.leases) ask.lease;
  durable = asked_durable guid ask;
  reconnect = option_map (asked_again layer.guids) ask.reconnect;
}

-- ---- a create is answered

-- what its lease context tells
abbrev pub told_by : LeaseView → SecondView → Known
told_by lease second = record { epoch = second.epoch; state = lease.state }

abbrev pub known_by : LeaseView → SecondView → Option Known → Known
known_by lease second found =
    if lease.breaking then known_in_break found (told_by lease second) else known_after found (told_by lease second)

abbrev pub leases_granted : LeaseView → Option SecondView → (List ℕ → Option Known) → List ℕ → Option Known
leases_granted lease None leases = leases
leases_granted lease (Some second) leases = put_known leases lease.key (Some (known_by lease second (leases lease.key)))

abbrev pub leases_answered : Option LeaseView → (List ℕ → Option Known) → List ℕ → Option Known
leases_answered None leases = leases
leases_answered (Some lease) leases = leases_granted lease lease.second leases

-- DH2Q is granted (2.2.14.2.12)
abbrev pub is_second : Option DurableView → Bool
is_second None = false
is_second (Some DurableView.First) = false
is_second (Some (DurableView.Asked asked)) = false
is_second (Some (DurableView.Granted grant)) = true

abbrev pub guids_answered : ℕ → List ℕ → Option DurableView → (ℕ → Option (List ℕ)) → ℕ → Option (List ℕ)
guids_answered file_id guid durable guids = if is_second durable then put guids file_id (Some guid) else guids

abbrev pub answered : ℕ → List ℕ → CreateView → Layer → Layer
answered file_id guid answer layer = record {
  leases = leases_answered answer.lease layer.leases;
  guids = guids_answered file_id guid answer.durable layer.guids;
}

-- the state that the machine is given: that of the newest epoch; while a break is in progress it takes none
abbrev pub state_given : LeaseView → Option SecondView → Option Known → State
state_given lease None found = lease.state
state_given lease (Some second) found =
    if lease.breaking then lease.state else (known_after found (told_by lease second)).state

abbrev pub lease_given : (List ℕ → Option Known) → LeaseView → first.LeaseView
lease_given leases lease = record {
  key = lease.key;
  state = state_given lease lease.second (leases lease.key);
  breaking = lease.breaking;
}

-- all else is as it was sent
abbrev pub answer_given : CreateView → Layer → first.CreateView
answer_given answer layer = record (plain_of answer) { lease = option_map (lease_given layer.leases) answer.lease }

-- ---- the notice of a break

abbrev pub noted : EpochNotice → Known
noted notice = record { epoch = notice.new_epoch; state = notice.notice.new }

-- of a key that nothing is known of: NewEpoch 0 is that of a lease of version 1, of which nothing is kept (2.2.23.2)
abbrev pub leases_noticed : EpochNotice → Option Known → (List ℕ → Option Known) → List ℕ → Option Known
leases_noticed notice None leases =
    if notice.new_epoch == 0 then leases else put_known leases notice.notice.key (Some (noted notice))
leases_noticed notice (Some known) leases =
    if is_taken known (noted notice) then put_known leases notice.notice.key (Some (noted notice)) else leases

abbrev pub noticed : EpochNotice → Layer → Layer
noticed notice layer =
    record layer { leases = leases_noticed notice (layer.leases notice.notice.key) layer.leases }

-- what isn't taken is dropped, and so isn't acknowledged
abbrev pub is_given : EpochNotice → Option Known → Bool
is_given notice None = true
is_given notice (Some known) = is_taken known (noted notice)

abbrev pub notice_given : EpochNotice → Layer → Option Notice
notice_given notice layer = if is_given notice (layer.leases notice.notice.key) then Some notice.notice else None

-- ---- over one connection, where messages come as they were sent

-- what a message tells is known from then on, whatever was known before
abbrev pub leases_told : LeaseView → Option SecondView → (List ℕ → Option Known) → List ℕ → Option Known
leases_told lease None leases = leases
leases_told lease (Some second) leases = put_known leases lease.key (Some (told_by lease second))

abbrev pub leases_answered_in_order : Option LeaseView → (List ℕ → Option Known) → List ℕ → Option Known
leases_answered_in_order None leases = leases
leases_answered_in_order (Some lease) leases = leases_told lease lease.second leases

abbrev pub answered_in_order : ℕ → List ℕ → CreateView → Layer → Layer
answered_in_order file_id guid answer layer = record {
  leases = leases_answered_in_order answer.lease layer.leases;
  guids = guids_answered file_id guid answer.durable layer.guids;
}

-- NewEpoch 0 is that of a lease of version 1 where nothing is known of the key, as it is in any order
abbrev pub leases_noticed_in_order : EpochNotice → Option Known → (List ℕ → Option Known) → List ℕ → Option Known
leases_noticed_in_order notice None leases =
    if notice.new_epoch == 0 then leases else put_known leases notice.notice.key (Some (noted notice))
leases_noticed_in_order notice (Some known) leases = put_known leases notice.notice.key (Some (noted notice))

abbrev pub noticed_in_order : EpochNotice → Layer → Layer
noticed_in_order notice layer =
    record layer { leases = leases_noticed_in_order notice (layer.leases notice.notice.key) layer.leases }

-- ---- an open is closed

abbrev pub closed : ℕ → Layer → Layer
closed file_id layer = record layer { guids = put layer.guids file_id None }

-- ---- what came too early is taken back

abbrev pub set_back : ℕ → Option (List ℕ) → (ℕ → Option (List ℕ)) → ℕ → Option (List ℕ)
set_back file_id None guids = put guids file_id None
set_back file_id (Some guid) guids = put guids file_id (option_map (λ was. guid) (guids file_id))

-- ---- where memory may run out

-- a lease of version 2 of which nothing is known
abbrev pub is_unknown : LeaseView → Option SecondView → (List ℕ → Option Known) → Bool
is_unknown lease None leases = false
is_unknown lease (Some second) leases = not (is_some (leases lease.key))

abbrev pub is_news : Option LeaseView → (List ℕ → Option Known) → Bool
is_news None leases = false
is_news (Some lease) leases = is_unknown lease lease.second leases

abbrev pub answer_takes_memory : CreateView → Layer → Bool
answer_takes_memory answer layer = is_second answer.durable || is_news answer.lease layer.leases

abbrev pub notice_takes_memory : EpochNotice → Option Known → Bool
notice_takes_memory notice None = not (notice.new_epoch == 0)
notice_takes_memory notice (Some known) = false
