-- What holds of what a client knows and of what its machine is given, over any messages.
use Rattle.std.specs.Prelude.{⊤, ◌≡◌, ◌<◌, ◌≤◌, ◌+◌, ◌⊎◌, ◌==◌, ◌&&◌, ℕ, Bool, true, false, not, Option, Some, None}
use Rattle.std.specs.Prelude.{List, [], ◌∷◌, map, if◌then◌else◌, is_some, bytes_eq}
use Rattle.std.specs.List.Sorted.{IsPermutation}
use Rattle.lease_wire.specs.Names as first
use Rattle.lease_wire.specs.Notification.{Notice}
use Rattle.lease_wire_v2.specs.EpochNotice.{EpochNotice}
use Rattle.lease_wire_v2.specs.Names.{CreateView, LeaseView, ReconnectView, SecondView, go_together}
use Rattle.lease_wire_v2.specs.Views.{plain_of}
use Rattle.client_versions.specs.Epochs.{ahead, epoch_known, goes_down, is_newer}
use Rattle.client_versions.specs.Layer.{Known, Layer}
use Rattle.client_versions.specs.Rows.{answer_given, answered, asked, asked_again, closed, is_second, noted, notice_given}
use Rattle.client_versions.specs.Rows.{noticed, told_by}

-- ---- messages

-- A create that was asked for under a CreateGuid is answered with a FileId, the notice of a break comes, or an open is closed.
pub data Event : Type 0 where
  Answered : (file_id : ℕ) (guid : List ℕ) (answer : CreateView) → Event
  Noticed : (notice : EpochNotice) → Event
  Closed : (file_id : ℕ) → Event

abbrev pub happened : Event → Layer → Layer
happened (Answered file_id guid answer) layer = answered file_id guid answer layer
happened (Noticed notice) layer = noticed notice layer
happened (Closed file_id) layer = closed file_id layer

abbrev pub happened_all : List Event → Layer → Layer
happened_all [] layer = layer
happened_all (event ∷ events) layer = happened_all events (happened event layer)

-- what the machine is given
pub data Given : Type 0 where
  Nothing : Given
  Answer : (answer : first.CreateView) → Given
  Notification : (notice : Notice) → Given

abbrev pub notification : Option Notice → Given
notification None = Nothing
notification (Some notice) = Notification notice

abbrev pub given : Event → Layer → Given
given (Answered file_id guid answer) layer = Answer (answer_given answer layer)
given (Noticed notice) layer = notification (notice_given notice layer)
given (Closed file_id) layer = Nothing

abbrev pub given_all : List Event → Layer → List Given
given_all [] layer = []
given_all (event ∷ events) layer = given event layer ∷ given_all events (happened event layer)

-- what was sent, without what version 2 adds
abbrev pub sent : Event → Given
sent (Answered file_id guid answer) = Answer (plain_of answer)
sent (Noticed notice) = Notification notice.notice
sent (Closed file_id) = Nothing

-- ---- what a message tells of the lease of a key

pub data Message : Type 0 where
  -- an answer to a create
  Grant : Known → Message
  -- an answer while a break is in progress
  InBreak : Known → Message
  -- the notice of a break
  Break : Known → Message

abbrev pub grant : Bool → Known → Message
grant breaking told = if breaking then InBreak told else Grant told

abbrev pub message_of : LeaseView → Option SecondView → Option Message
message_of lease None = None
message_of lease (Some second) = Some (grant lease.breaking (told_by lease second))

abbrev pub message_in : List ℕ → Option LeaseView → Option Message
message_in key None = None
message_in key (Some lease) = if bytes_eq lease.key key then message_of lease lease.second else None

abbrev pub message_at : List ℕ → Event → Option Message
message_at key (Answered file_id guid answer) = message_in key answer.lease
message_at key (Noticed notice) = if bytes_eq notice.notice.key key then Some (Break (noted notice)) else None
message_at key (Closed file_id) = None

-- ---- messages in order

-- the epoch is newer than the known one, or what is known is told again
abbrev pub IsInOrder : Option Known → Known → Type 0
IsInOrder None told = ⊤
IsInOrder (Some known) told = (is_newer known.epoch told.epoch ≡ true) ⊎ (told ≡ known)

-- the epoch is newer than the known one, or it is the known one and the state goes down
abbrev pub IsBreakInOrder : Option Known → Known → Type 0
IsBreakInOrder None told = ⊤
IsBreakInOrder (Some known) told = (is_newer known.epoch told.epoch ≡ true)
    ⊎ ((told.epoch ≡ known.epoch) × (goes_down known.state told.state ≡ true))

-- an answer while a break is in progress, and one of version 1, come in any order
abbrev pub IsLeaseInOrder : Option Known → LeaseView → Option SecondView → Type 0
IsLeaseInOrder found lease None = ⊤
IsLeaseInOrder found lease (Some second) = lease.breaking ≡ false → IsInOrder found (told_by lease second)

abbrev pub IsAnswerInOrder : (List ℕ → Option Known) → Option LeaseView → Type 0
IsAnswerInOrder leases None = ⊤
IsAnswerInOrder leases (Some lease) = IsLeaseInOrder (leases lease.key) lease lease.second

abbrev pub ComesInOrder : Event → Layer → Type 0
ComesInOrder (Answered file_id guid answer) layer = IsAnswerInOrder layer.leases answer.lease
ComesInOrder (Noticed notice) layer = IsBreakInOrder (layer.leases notice.notice.key) (noted notice)
ComesInOrder (Closed file_id) layer = ⊤

abbrev pub ComeInOrder : List Event → Layer → Type 0
ComeInOrder [] layer = ⊤
ComeInOrder (event ∷ events) layer = ComesInOrder event layer × ComeInOrder events (happened event layer)

-- ---- messages in any order

-- The epoch lies ahead of that of the start, by 32,767 at most, and behind the newest one, or this is the newest.
pub record IsWithin (start : ℕ) (newest told : Known) : Type 0 where
  pub number : told.epoch < 65536
  pub after : 0 < ahead start told.epoch
  pub window : ahead start told.epoch < 32768
  pub behind : (ahead start told.epoch < ahead start newest.epoch) ⊎ (told ≡ newest)

abbrev pub IsMessageWithin : ℕ → Known → Option Message → Type 0
IsMessageWithin start newest None = ⊤
IsMessageWithin start newest (Some (Grant told)) = IsWithin start newest told
IsMessageWithin start newest (Some (InBreak told)) = IsWithin start newest told
IsMessageWithin start newest (Some (Break told)) = IsWithin start newest told

abbrev pub AreWithin : List ℕ → ℕ → Known → List Event → Type 0
AreWithin key start newest [] = ⊤
AreWithin key start newest (event ∷ events) =
    IsMessageWithin start newest (message_at key event) × AreWithin key start newest events

-- a message tells this
abbrev pub TellsThis : Known → Option Message → Type 0
TellsThis newest None = ⊥
TellsThis newest (Some (Grant told)) = told ≡ newest
TellsThis newest (Some (InBreak told)) = told ≡ newest
TellsThis newest (Some (Break told)) = told ≡ newest

abbrev pub OneTells : List ℕ → Known → List Event → Type 0
OneTells key newest [] = ⊥
OneTells key newest (event ∷ events) = TellsThis newest (message_at key event) ⊎ OneTells key newest events

-- ---- epochs in any order

abbrev pub epoch_told : Message → ℕ
epoch_told (Grant told) = told.epoch
epoch_told (InBreak told) = told.epoch
epoch_told (Break told) = told.epoch

-- the epoch lies ahead of that of the start, and not ahead of the newest one
pub record IsUpTo (start newest epoch : ℕ) : Type 0 where
  pub number : epoch < 65536
  pub after : 0 < ahead start epoch
  pub most : ahead start epoch ≤ ahead start newest

abbrev pub IsMessageUpTo : ℕ → ℕ → Option Message → Type 0
IsMessageUpTo start newest None = ⊤
IsMessageUpTo start newest (Some message) = IsUpTo start newest (epoch_told message)

abbrev pub AreUpTo : List ℕ → ℕ → ℕ → List Event → Type 0
AreUpTo key start newest [] = ⊤
AreUpTo key start newest (event ∷ events) =
    IsMessageUpTo start newest (message_at key event) × AreUpTo key start newest events

abbrev pub HasEpoch : ℕ → Option Message → Type 0
HasEpoch newest None = ⊥
HasEpoch newest (Some message) = epoch_told message ≡ newest

abbrev pub OneHasEpoch : List ℕ → ℕ → List Event → Type 0
OneHasEpoch key newest [] = ⊥
OneHasEpoch key newest (event ∷ events) = HasEpoch newest (message_at key event) ⊎ OneHasEpoch key newest events

-- ---- epochs

abbrev pub IsNotOlder : ℕ → ℕ → Type 0
IsNotOlder before now = (now ≡ before) ⊎ (is_newer before now ≡ true)

-- how far the known epoch of a key climbs
abbrev pub climbed : List ℕ → List Event → Layer → ℕ
climbed key [] layer = 0
climbed key (event ∷ events) layer =
    ahead (epoch_known (layer.leases key)) (epoch_known ((happened event layer).leases key))
    + climbed key events (happened event layer)

-- an epoch has 16 bits
abbrev pub IsNumbered : Option Message → Type 0
IsNumbered None = ⊤
IsNumbered (Some (Grant told)) = told.epoch < 65536
IsNumbered (Some (InBreak told)) = told.epoch < 65536
IsNumbered (Some (Break told)) = told.epoch < 65536

abbrev pub AreNumbered : List ℕ → List Event → Type 0
AreNumbered key [] = ⊤
AreNumbered key (event ∷ events) = IsNumbered (message_at key event) × AreNumbered key events

abbrev pub epoch_in : Option SecondView → ℕ
epoch_in None = 0
epoch_in (Some second) = second.epoch

abbrev pub epoch_asked : Option LeaseView → ℕ
epoch_asked None = 0
epoch_asked (Some lease) = epoch_in lease.second

-- ---- guids

-- the open stays, and no other create is answered with its FileId
abbrev pub is_left : ℕ → Event → Bool
is_left file_id (Answered other guid answer) = not (file_id == other && is_second answer.durable)
is_left file_id (Noticed notice) = true
is_left file_id (Closed other) = not (file_id == other)

abbrev pub are_left : ℕ → List Event → Bool
are_left file_id [] = true
are_left file_id (event ∷ events) = is_left file_id event && are_left file_id events

-- ---- the laws

-- Of messages that come in order, as on one connection from a server whose epochs rise, the machine is given all, as they were
-- sent.
abbrev pub InOrderAllIsGiven : Type 0
InOrderAllIsGiven = (events : List Event) (layer : Layer) → ComeInOrder events layer
    → given_all events layer ≡ map sent events

-- Of messages in any order the newest one's epoch and state are known in the end. Those of other keys, and those that tell no
-- epoch, may stand between them.
abbrev pub NewestIsKnown : Type 0
NewestIsKnown = (key : List ℕ) (events : List Event) (layer : Layer) (newest : Known)
    → epoch_known (layer.leases key) < 65536
    → AreWithin key (epoch_known (layer.leases key)) newest events → OneTells key newest events
    → (happened_all events layer).leases key ≡ Some newest

-- So their order doesn't matter.
abbrev pub OrderDoesNotMatter : Type 0
OrderDoesNotMatter = (key : List ℕ) (events others : List Event) (layer : Layer) (newest : Known)
    → IsPermutation events others → epoch_known (layer.leases key) < 65536
    → AreWithin key (epoch_known (layer.leases key)) newest events → OneTells key newest events
    → (happened_all others layer).leases key ≡ (happened_all events layer).leases key

-- The answer while a break is in progress and the notice of that break have one epoch, and two states. Whatever states the
-- messages tell: of all of them in any order the newest epoch is known in the end.
abbrev pub NewestEpochIsKnown : Type 0
NewestEpochIsKnown = (key : List ℕ) (events : List Event) (layer : Layer) (newest : ℕ)
    → epoch_known (layer.leases key) < 65536 → ahead (epoch_known (layer.leases key)) newest < 32768
    → AreUpTo key (epoch_known (layer.leases key)) newest events → OneHasEpoch key newest events
    → epoch_known ((happened_all events layer).leases key) ≡ newest

-- The known epoch never goes back.
abbrev pub EpochStaysOrRises : Type 0
EpochStaysOrRises = (key : List ℕ) (event : Event) (layer : Layer) (known : Known) → layer.leases key ≡ Some known
    → (now : Known) × ((happened event layer).leases key ≡ Some now) × IsNotOlder known.epoch now.epoch

-- So a create asks with an epoch that isn't older than any that was known, while the epochs climb by less than 32,768.
abbrev pub AsksWithNewest : Type 0
AsksWithNewest = (key : List ℕ) (events : List Event) (layer : Layer) (parent : Option (List ℕ)) (guid : List ℕ)
    (ask : first.CreateView) (lease : first.LeaseView)
    → epoch_known (layer.leases key) < 65536 → AreNumbered key events → climbed key events layer < 32768
    → ask.lease ≡ Some lease → lease.key ≡ key
    → IsNotOlder (epoch_known (layer.leases key)) (epoch_asked (asked parent guid ask (happened_all events layer)).lease)

-- A notice that is dropped changes nothing.
abbrev pub DroppedChangesNothing : Type 0
DroppedChangesNothing = (notice : EpochNotice) (layer : Layer) → notice_given notice layer ≡ None
    → noticed notice layer ≡ layer

-- Version 2 adds to a create, and changes nothing of what the machine asks for; its durable contexts go together.
abbrev pub AsksTheSame : Type 0
AsksTheSame = (parent : Option (List ℕ)) (guid : List ℕ) (ask : first.CreateView) (layer : Layer)
    → (ask.durable && is_some ask.reconnect) ≡ false → plain_of (asked parent guid ask layer) ≡ ask

abbrev pub AsksTogether : Type 0
AsksTogether = (parent : Option (List ℕ)) (guid : List ℕ) (ask : first.CreateView) (layer : Layer)
    → go_together (asked parent guid ask layer).durable (asked parent guid ask layer).reconnect ≡ true

-- A reconnect has the CreateGuid of the create of its open.
abbrev pub ConnectsUnderItsGuid : Type 0
ConnectsUnderItsGuid = (file_id : ℕ) (guid : List ℕ) (answer : CreateView) (events : List Event) (layer : Layer)
    → is_second answer.durable ≡ true → are_left file_id events ≡ true
    → asked_again (happened_all events (answered file_id guid answer layer)).guids file_id
    ≡ ReconnectView.SecondId
    (record { persistent_id = file_id; volatile_id = file_id; create_guid = guid; persistent = false })
