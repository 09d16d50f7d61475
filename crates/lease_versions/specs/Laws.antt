-- What holds of epochs, versions and parents over any decisions.
use Rattle.std.specs.Prelude.{◌≡◌, ◌≢◌, ◌<◌, ◌+◌, ◌%◌, ℕ, Bool, true, false, Option, Some, None, List, [], ◌∷◌, if◌then◌else◌}
use Rattle.std.specs.Prelude.{◌&&◌, bytes_eq, is_some}
use Rattle.std.specs.Option.{option_map}
use Rattle.lease_state.specs.State.{State}
use Rattle.lease_state.specs.declared.status.Status.{Status}
use Rattle.lease_model.specs.messages.Replies.{BreakNotice, CreateAnswer, LeaseGiven}
use Rattle.lease_model.specs.server.Naming.{key_of}
use Rattle.lease_model.specs.values.Keys.{Key, key_eq}
use Rattle.lease_wire_v2.specs.Names.{SecondView}
use Rattle.manager_model.specs.Decisions.{Decision}
use Rattle.lease_versions.specs.Layer.{Layer, Lease}
use Rattle.lease_versions.specs.Refusals.{reconnect_refusal}
use Rattle.lease_versions.specs.Rows.{Carried, carried, create_in, epoch_of, followed, followed_all, is_news, raised}

-- ---- a lease while it lives

abbrev pub is_alive : Key → Layer → Bool
is_alive key layer = is_some (layer.leases key)

-- the lease of the key lives before, between and after the decisions
abbrev pub Lives : Key → List Decision → Layer → Type 0
Lives key [] layer = is_alive key layer ≡ true
Lives key (decision ∷ decisions) layer = (is_alive key layer ≡ true) × Lives key decisions (followed decision layer)

abbrev pub second_in : Option Lease → Option SecondView
second_in None = None
second_in (Some lease) = lease.second

-- what version 2 adds to the lease of the key
abbrev pub second_at : Key → Layer → Option SecondView
second_at key layer = second_in (layer.leases key)

abbrev pub parent_in : SecondView → Option (List ℕ)
parent_in second = second.parent

-- ---- where an epoch rises

abbrev pub is_news_to : State → Option Lease → Bool
is_news_to state None = false
is_news_to state (Some lease) = is_news state lease

abbrev pub raises_given : Key → ℕ → Option LeaseGiven → Option Lease → Bool
raises_given key client None lease = false
raises_given key client (Some given) lease = key_eq key (key_of client given.key) && is_news_to given.state lease

-- a break of the lease, and an answer to a create whose state its client doesn't know
abbrev pub raises : Key → Decision → Layer → Bool
raises key (Decision.Opened client tag file_id answer) layer =
    raises_given key client answer.lease (layer.leases key)
raises key (Decision.Breaks client notice) layer = key_eq key (key_of client notice.key)
raises key other layer = false

abbrev pub rises : Key → List Decision → Layer → ℕ
rises key [] layer = 0
rises key (decision ∷ decisions) layer =
    (if raises key decision layer then 1 else 0) + rises key decisions (followed decision layer)

-- an answer to a create under a key
abbrev pub opened_under : ℕ → ℕ → ℕ → LeaseGiven → Bool → Decision
opened_under client tag file_id given durable =
    Decision.Opened client tag file_id (record { lease = Some given; durable = durable })

abbrev pub second_carried : Carried → Option SecondView
second_carried Carried.Nothing = None
second_carried (Carried.Answer second durable) = second
second_carried (Carried.Notice epoch) = None

-- ---- an open while it is there

abbrev pub is_there : ℕ → Layer → Bool
is_there file_id layer = is_some (layer.opens file_id)

-- the open of the FileId is there before, between and after the decisions
abbrev pub StaysOpen : ℕ → List Decision → Layer → Type 0
StaysOpen file_id [] layer = is_there file_id layer ≡ true
StaysOpen file_id (decision ∷ decisions) layer =
    (is_there file_id layer ≡ true) × StaysOpen file_id decisions (followed decision layer)

-- what a DH2C under this guid is refused as then
abbrev pub refused_after : List ℕ → ℕ → List Decision → Layer → Option Status
refused_after guid file_id decisions layer = reconnect_refusal guid ((followed_all decisions layer).opens file_id)

-- ---- the laws

-- The epoch of a lease rises exactly there, by one; it stays with every other decision.
abbrev pub EpochRisesThere : Type 0
EpochRisesThere = (key : Key) (decision : Decision) (layer : Layer)
    → is_alive key layer ≡ true → is_alive key (followed decision layer) ≡ true
    → second_at key (followed decision layer)
    ≡ (if raises key decision layer then option_map raised (second_at key layer) else second_at key layer)

-- So it counts the rises, in 16 bits.
abbrev pub EpochCountsRises : Type 0
EpochCountsRises = (key : Key) (decisions : List Decision) (layer : Layer) (parent : Option (List ℕ)) (epoch : ℕ)
    → Lives key decisions layer → epoch < 65536
    → second_at key layer ≡ Some (record { parent = parent; epoch = epoch })
    → second_at key (followed_all decisions layer)
    ≡ Some (record { parent = parent; epoch = (epoch + rises key decisions layer) % 65536 })

-- Two notices of one life of a lease of version 2, with fewer than 65,536 rises from one to the other, carry different epochs.
abbrev pub NoticesDiffer : Type 0
NoticesDiffer = (client : ℕ) (one other : BreakNotice) (between : List Decision) (layer : Layer)
    → one.key ≡ other.key → is_some (second_at (key_of client one.key) layer) ≡ true
    → Lives (key_of client one.key) between (followed (Decision.Breaks client one) layer)
    → rises (key_of client one.key) between (followed (Decision.Breaks client one) layer) + 1 < 65536
    → carried (Decision.Breaks client one) layer
    ≢ carried (Decision.Breaks client other) (followed_all between (followed (Decision.Breaks client one) layer))

-- A lease keeps its version and its parent.
abbrev pub VersionAndParentStay : Type 0
VersionAndParentStay = (key : Key) (decisions : List Decision) (layer : Layer) → Lives key decisions layer
    → option_map parent_in (second_at key (followed_all decisions layer)) ≡ option_map parent_in (second_at key layer)

-- The notice of a lease of version 1 carries 0.
abbrev pub FirstVersionCarriesZero : Type 0
FirstVersionCarriesZero = (client : ℕ) (notice : BreakNotice) (layer : Layer)
    → second_at (key_of client notice.key) layer ≡ None
    → carried (Decision.Breaks client notice) layer ≡ Carried.Notice 0

-- A new lease has the epoch after the one that its client asked with, and the parent that was asked.
abbrev pub LifeBeginsAbove : Type 0
LifeBeginsAbove = (client tag file_id : ℕ) (given : LeaseGiven) (durable : Bool) (layer : Layer)
    → layer.leases (key_of client given.key) ≡ None
    → second_at (key_of client given.key) (followed (opened_under client tag file_id given durable) layer)
    ≡ option_map raised (create_in (layer.asked client tag)).second

-- An answer carries what version 2 adds to the lease after it, and a notice its epoch.
abbrev pub AnswerCarriesTheLease : Type 0
AnswerCarriesTheLease = (client tag file_id : ℕ) (given : LeaseGiven) (durable : Bool) (layer : Layer)
    → second_carried (carried (opened_under client tag file_id given durable) layer)
    ≡ second_at (key_of client given.key) (followed (opened_under client tag file_id given durable) layer)

abbrev pub NoticeCarriesTheEpoch : Type 0
NoticeCarriesTheEpoch = (client : ℕ) (notice : BreakNotice) (layer : Layer)
    → carried (Decision.Breaks client notice) layer
    ≡ Carried.Notice (epoch_of ((followed (Decision.Breaks client notice) layer).leases (key_of client notice.key)))

-- An open keeps its client, its key and its CreateGuid.
abbrev pub OpensStay : Type 0
OpensStay = (file_id : ℕ) (decisions : List Decision) (layer : Layer) → StaysOpen file_id decisions layer
    → (followed_all decisions layer).opens file_id ≡ layer.opens file_id

-- So a DH2C under the CreateGuid of its create isn't refused while the open is there, and under any other it is.
abbrev pub ReconnectsNeedTheGuid : Type 0
ReconnectsNeedTheGuid = (client tag file_id : ℕ) (answer : CreateAnswer) (guid other : List ℕ) (decisions : List Decision)
    (layer : Layer) → is_there file_id layer ≡ false → answer.durable ≡ true
    → (create_in (layer.asked client tag)).guid ≡ Some guid
    → StaysOpen file_id decisions (followed (Decision.Opened client tag file_id answer) layer)
    → refused_after other file_id decisions (followed (Decision.Opened client tag file_id answer) layer)
    ≡ (if bytes_eq guid other then None else Some Status.ObjectNameNotFound)
