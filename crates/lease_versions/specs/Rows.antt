-- What each decision of a manager changes, and what an answer or a notice carries: a table by decision.
use Rattle.std.specs.Prelude.{ℕ, ◌+◌, ◌-◌, ◌%◌, Bool, true, false, not, Option, Some, None, List, [], ◌∷◌, ◌&&◌, ◌||◌}
use Rattle.std.specs.Prelude.{if◌then◌else◌, is_some, nat_le}
use Rattle.std.specs.Option.{option_map}
use Rattle.lease_state.specs.State.{State}
use Rattle.lease_model.specs.messages.Replies.{BreakNotice, CreateAnswer, LeaseGiven}
use Rattle.lease_model.specs.server.Naming.{key_of}
use Rattle.lease_model.specs.values.Keys.{Key}
use Rattle.lease_model.specs.values.LeaseStates.{same_state}
use Rattle.lease_model.specs.values.Tables.{put, put_key}
use Rattle.lease_wire_v2.specs.Names.{SecondView}
use Rattle.manager_model.specs.Decisions.{Decision}
use Rattle.lease_versions.specs.Layer.{Asked, AskedCreate, Layer, Lease, Open, put_asked}

-- ---- a lease

-- an epoch has 16 bits
abbrev pub next_epoch : ℕ → ℕ
next_epoch epoch = (epoch + 1) % 65536

abbrev pub raised : SecondView → SecondView
raised second = record { parent = second.parent; epoch = next_epoch second.epoch }

abbrev pub risen : Lease → Lease
risen lease = record lease { second = option_map raised lease.second }

-- of a key that has none: its epoch lies one above the one that the client asked with
abbrev pub new_lease : Option SecondView → LeaseGiven → Lease
new_lease asked given =
    record { second = option_map raised asked; state = given.state; breaking = given.in_progress; opens = 1 }

-- whether the client of the lease doesn't know this state, apart from a break under way
abbrev pub is_news : State → Lease → Bool
is_news state lease = not lease.breaking && not (same_state state lease.state)

abbrev pub granted : State → Lease → Lease
granted state lease = if is_news state lease then record (risen lease) { state = state } else lease

abbrev pub with_open : Bool → Lease → Lease
with_open known lease = if known then lease else record lease { opens = lease.opens + 1 }

-- the lease that a create is answered with
abbrev pub lease_given : Option SecondView → LeaseGiven → Bool → Option Lease → Lease
lease_given asked given known None = new_lease asked given
lease_given asked given known (Some lease) = with_open known (granted given.state lease)

-- a break that is to be acknowledged leaves the state until then
abbrev pub broken : BreakNotice → Lease → Lease
broken notice lease = record (risen lease) {
  state = if notice.ack_required then lease.state else notice.lowered;
  breaking = lease.breaking || notice.ack_required;
}

abbrev pub acknowledged : State → Lease → Lease
acknowledged state lease = record lease { state = state; breaking = false }

-- an open leaves, the last one with its lease
abbrev pub without_open : Lease → Option Lease
without_open lease = if nat_le lease.opens 1 then None else Some (record lease { opens = lease.opens - 1 })

-- ---- requests

abbrev pub plain_create : AskedCreate
plain_create = record { second = None; guid = None; reconnects = false }

abbrev pub create_in : Option Asked → AskedCreate
create_in None = plain_create
create_in (Some (Asked.Create ask)) = ask
create_in (Some (Asked.Close file_id)) = plain_create

abbrev pub forgotten : ℕ → ℕ → Layer → Layer
forgotten client tag layer = record layer { asked = put_asked layer.asked client tag None }

-- ---- opens

-- one that is there stays as it is, so that a reconnect leaves its guid
abbrev pub noted : ℕ → Open → (ℕ → Option Open) → ℕ → Option Open
noted file_id one opens = if is_some (opens file_id) then opens else put opens file_id (Some one)

abbrev pub key_given : LeaseGiven → List ℕ
key_given given = given.key

abbrev pub guid_kept : CreateAnswer → AskedCreate → Option (List ℕ)
guid_kept answer create = if answer.durable || create.reconnects then create.guid else None

abbrev pub open_made : ℕ → AskedCreate → CreateAnswer → Open
open_made client create answer = record {
  client = client;
  key = option_map key_given answer.lease;
  guid = guid_kept answer create;
}

abbrev pub leases_given : ℕ → Option LeaseGiven → Option SecondView → Bool → (Key → Option Lease) → Key → Option Lease
leases_given client None asked known leases = leases
leases_given client (Some given) asked known leases = put_key leases (key_of client given.key)
    (Some (lease_given asked given known (leases (key_of client given.key))))

-- a create is answered
abbrev pub opened : ℕ → ℕ → ℕ → CreateAnswer → AskedCreate → Layer → Layer
opened client tag file_id answer create layer = record {
  asked = put_asked layer.asked client tag None;
  leases = leases_given client answer.lease create.second (is_some (layer.opens file_id)) layer.leases;
  opens = noted file_id (open_made client create answer) layer.opens;
}

abbrev pub one_open_less : Option Lease → Option Lease
one_open_less None = None
one_open_less (Some lease) = without_open lease

abbrev pub left_by_key : ℕ → Option (List ℕ) → (Key → Option Lease) → Key → Option Lease
left_by_key client None leases = leases
left_by_key client (Some bytes) leases =
    put_key leases (key_of client bytes) (one_open_less (leases (key_of client bytes)))

abbrev pub left_by : Option Open → (Key → Option Lease) → Key → Option Lease
left_by None leases = leases
left_by (Some one) leases = left_by_key one.client one.key leases

-- an open is no more
abbrev pub ended : ℕ → Layer → Layer
ended file_id layer = record layer {
  leases = left_by (layer.opens file_id) layer.leases;
  opens = put layer.opens file_id None;
}

-- what a close that was asked so ends
abbrev pub closed_by : Option Asked → Layer → Layer
closed_by None layer = layer
closed_by (Some (Asked.Create ask)) layer = layer
closed_by (Some (Asked.Close file_id)) layer = ended file_id layer

abbrev pub with_lease : Key → (Lease → Lease) → Layer → Layer
with_lease key change layer = record layer { leases = put_key layer.leases key (option_map change (layer.leases key)) }

-- ---- the table

abbrev pub followed : Decision → Layer → Layer
followed (Decision.Opened client tag file_id answer) layer =
    opened client tag file_id answer (create_in (layer.asked client tag)) layer
followed (Decision.GoesOn client tag) layer = layer
followed (Decision.Closed client tag) layer = forgotten client tag (closed_by (layer.asked client tag) layer)
followed (Decision.Refused client tag status) layer = forgotten client tag layer
followed (Decision.Waits client tag) layer = layer
followed (Decision.Withdrawn client tag) layer = forgotten client tag layer
followed (Decision.Breaks client notice) layer = with_lease (key_of client notice.key) (broken notice) layer
followed (Decision.Acknowledged client given) layer = with_lease (key_of client given.key) (acknowledged given.state) layer
followed (Decision.NotAcknowledged client status) layer = layer
followed (Decision.Ended file_id) layer = ended file_id layer
followed (Decision.LeftBehind file_id) layer = layer

-- An answer to a create: what version 2 adds to its RqLs context, and whether it has DH2Q. A notice: its NewEpoch.
pub data Carried : Type 0 where
  Nothing : Carried
  Answer : (second : Option SecondView) (durable : Bool) → Carried
  Notice : (epoch : ℕ) → Carried

abbrev pub epoch_in : Option SecondView → ℕ
epoch_in None = 0
epoch_in (Some second) = second.epoch

abbrev pub epoch_of : Option Lease → ℕ
epoch_of None = 0
epoch_of (Some lease) = epoch_in lease.second

abbrev pub second_given : ℕ → Option LeaseGiven → Option SecondView → Bool → (Key → Option Lease) → Option SecondView
second_given client None asked known leases = None
second_given client (Some given) asked known leases =
    (lease_given asked given known (leases (key_of client given.key))).second

-- DH2Q is answered where it was asked for and granted
abbrev pub is_durable_second : CreateAnswer → AskedCreate → Bool
is_durable_second answer create = answer.durable && (is_some create.guid && not create.reconnects)

abbrev pub answer_carried : ℕ → ℕ → CreateAnswer → AskedCreate → Layer → Carried
answer_carried client file_id answer create layer = Carried.Answer
    (second_given client answer.lease create.second (is_some (layer.opens file_id)) layer.leases)
    (is_durable_second answer create)

abbrev pub carried : Decision → Layer → Carried
carried (Decision.Opened client tag file_id answer) layer =
    answer_carried client file_id answer (create_in (layer.asked client tag)) layer
carried (Decision.Breaks client notice) layer =
    Carried.Notice (epoch_of (option_map (broken notice) (layer.leases (key_of client notice.key))))
carried other layer = Carried.Nothing

-- only where a create is answered may memory run out
abbrev pub takes_memory : Decision → Bool
takes_memory (Decision.Opened client tag file_id answer) = true
takes_memory other = false

abbrev pub followed_all : List Decision → Layer → Layer
followed_all [] layer = layer
followed_all (decision ∷ decisions) layer = followed_all decisions (followed decision layer)
