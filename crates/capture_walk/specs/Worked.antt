-- Worked examples: what the server is seen to hold for leases on a file. Client 1 is granted writes by the response at 4 to its
-- request at 1.
use Rattle.std.specs.Prelude.{◌≡◌, ◌+◌, ◌++◌, ℕ, Bool, true, false, List, ◌∷◌, [], Option, Some, None, replicate}
use Rattle.capture_judge.specs.Worked.{certain, doubtful}
use Rattle.capture_judge.specs.declared.values.Level.{Level}
use Rattle.capture_judge.specs.declared.values.Level.TheVariants.{Nothing, Something, Writes}
use Rattle.capture_judge.specs.declared.values.Change.{Change}
use Rattle.lease_state.specs.declared.state.LeaseState.{LeaseState}
use Rattle.capture_walk.specs.Tables.{tables_on}
use Rattle.capture_walk.specs.declared.event.NotJudged.TheVariants.{Missing}
use Rattle.capture_walk.specs.declared.event.Lease.{Lease}
use Rattle.capture_walk.specs.declared.event.Event.{Event}
use Rattle.capture_walk.specs.declared.event.Event.TheVariants as event

abbrev pub file : ℕ
file = 7

-- that of a client, under a key of its own
abbrev pub lease_of : ℕ → Lease
lease_of client = record { client = client; key = record { 0 = replicate 16 client }; file = file }

-- a state of that level
abbrev pub state_at : Level → LeaseState
state_at Nothing = record { 0 = 0 }
state_at Something = record { 0 = 3 }
state_at Writes = record { 0 = 7 }

-- A response grants it, by a message's number and its position, to a request of a position.
abbrev pub granted : ℕ → Level → ℕ → ℕ → ℕ → Event
granted client level number asked position = event.Granted (record {
  lease = lease_of client;
  state = state_at level;
  level = level;
  sent = record { connection = client; number = number; position = position };
  asked = asked;
  epoch = None;
})

-- The server says whether it did what a request asks.
abbrev pub answered : ℕ → ℕ → Bool → ℕ → List Event
answered client id done position =
    event.Answered (record { connection = client; id = id; done = done; position = position }) ∷ []

-- A request by the open that a message made, which the server did.
abbrev pub used : ℕ → ℕ → ℕ → ℕ → List Event
used client opened id position =
    event.Asked (record { lease = Some (lease_of client); opened = opened; connection = client; id = id; position = position })
    ∷ answered client id true (position + 1)

abbrev pub broken : Level → Bool → Event
broken level acknowledged = event.Broken (record {
  lease = lease_of 1;
  state = state_at level;
  level = level;
  sent = record { connection = 1; number = 6; position = 8 };
  acknowledged = acknowledged;
  epoch = None;
})

abbrev pub ended : Option ℕ → Event
ended closing =
    event.Ended (record { lease = lease_of 1; first = 6; last = 7; connection = 1; closing = closing })

abbrev pub acknowledged : Event
acknowledged =
    event.Acknowledged (record { lease = lease_of 1; level = Something; connection = 1; id = 5; last = 9 })

-- what the server holds for client 1 alone
abbrev pub Holds : List Event → List Change → Type 0
Holds events changes = tables_on file events ≡ (1, changes) ∷ []

-- Client 2 is granted something by the response at 8, and client 1 still writes at 9 as the server wants it: the server held
-- both.
abbrev pub GrantedBeside : Type 0
GrantedBeside = tables_on file (granted 1 Writes 2 1 4 ∷ granted 2 Something 4 7 8 ∷ used 1 2 4 9 ++ used 2 4 3 11)
    ≡ (1, certain Writes 1 4 ∷ doubtful Nothing 9 ∷ []) ∷ (2, certain Something 7 8 ∷ doubtful Nothing 11 ∷ []) ∷ []

-- The acknowledgment of a break that was sent at 8 is sent at 9, and accepted at 10.
abbrev pub LoweredByAcknowledgment : Type 0
LoweredByAcknowledgment =
    Holds (granted 1 Writes 2 1 4 ∷ used 1 2 4 5 ++ broken Something true ∷ acknowledged ∷ answered 1 5 true 10)
    (certain Writes 1 4 ∷ doubtful Nothing 5 ∷ certain Something 9 10 ∷ doubtful Nothing 9 ∷ [])

-- The server refuses that acknowledgment. So from the last request that showed the lease the timer may have ended it.
abbrev pub EndedByTimer : Type 0
EndedByTimer = Holds (granted 1 Writes 2 1 4 ∷ used 1 2 4 5 ++ broken Something true ∷ acknowledged ∷ answered 1 5 false 10)
    (certain Writes 1 4 ∷ doubtful Nothing 5 ∷ [])

-- A break that isn't to be acknowledged has taken the lease when it is sent.
abbrev pub TakenByBreak : Type 0
TakenByBreak = Holds (granted 1 Something 2 1 4 ∷ broken Nothing false ∷ [])
    (certain Something 1 4 ∷ doubtful Nothing 1 ∷ certain Nothing 0 8 ∷ doubtful Nothing 0 ∷ [])

-- The last open is closed by a CLOSE that is sent at 7, and done at 8.
abbrev pub GivenUpByClose : Type 0
GivenUpByClose = Holds (granted 1 Writes 2 1 4 ∷ ended (Some 5) ∷ answered 1 5 true 8)
    (certain Writes 1 4 ∷ doubtful Nothing 1 ∷ certain Nothing 7 8 ∷ [])

-- The connection is lost at 6 at the earliest: a durable open may be kept.
abbrev pub LostWithConnection : Type 0
LostWithConnection = Holds (granted 1 Writes 2 1 4 ∷ ended None ∷ [])
    (certain Writes 1 4 ∷ doubtful Nothing 1 ∷ doubtful Nothing 6 ∷ [])

-- Something of client 1 is missing from 6 on.
abbrev pub UnsureBehindGap : Type 0
UnsureBehindGap =
    Holds (granted 1 Writes 2 1 4 ∷ used 1 2 4 7 ++ event.Lost (record { client = 1; since = 6; reason = Missing }) ∷ [])
    (certain Writes 1 4 ∷ doubtful Nothing 1 ∷ doubtful Nothing 6 ∷ [])
