-- What a client that never strayed and the server know of each other in every run, beyond that the run is safe (profile).
use Rattle.std.specs.Prelude.{◌≡◌, ◌≢◌, ◌⊎◌, ℕ, ◌≤◌, Bool, true, false, not, Some, None, List, [], ◌∷◌, ◌++◌, ◌==◌, ◌&&◌, ◌||◌}
use Rattle.lease_state.specs.State.{State, nothing_cached, is_state_within}
use Rattle.lease_state.specs.declared.patch.Patch.{Patch}
use Rattle.lease_state.specs.declared.rules.Rules.{Rules}
use Rattle.lease_model.specs.client.Calls.{ClientCall, client_called}
use Rattle.lease_model.specs.client.State.{Client, LiveEntry, Parted, Phase, belief, lease_key}
use Rattle.lease_model.specs.client.Taken.{taken}
use Rattle.lease_model.specs.messages.Replies.{Reply, BreakNotice, CreateAnswer, LeaseGiven}
use Rattle.lease_model.specs.messages.Requests.{FileRequest, Request}
use Rattle.lease_model.specs.records.Facts.{Fact}
use Rattle.lease_model.specs.records.Past.{has_buffered, has_strayed, is_good}
use Rattle.lease_model.specs.server.Findings.{connected_open}
use Rattle.lease_model.specs.server.State.{Open, Held, Lease, is_breaking, has_key}
use Rattle.lease_model.specs.world.Allowed.{is_allowed_setup}
use Rattle.lease_model.specs.world.Events.{Event, after, machine_key}
use Rattle.lease_model.specs.world.World.{World, Setup, first_world_under}
use Rattle.lease_laws.specs.client.Laws.{unsent_in}
use Rattle.lease_laws.specs.server.Laws.{Among}
use Rattle.lease_laws.specs.world.Links.{is_up}
use Rattle.lease_coherence.specs.Creates.{held_by}

-- ---- of whom it is said

-- of a client while its link is up, and of each file whose break timer didn't run out since it connected
abbrev pub Timely : (World → ℕ → ℕ → Type 0) → World → ℕ → Type 0
Timely A world client = is_up (world.links client) ≡ true → (file : ℕ)
    → world.server.expired (machine_key world client file) ≡ false → A world client file

pub record IsTimely (world : World) (client : ℕ) : Type 0 where
  pub honest : has_strayed client world.past ≡ false
  pub up : is_up (world.links client) ≡ true
  pub timers : (file : ℕ) → world.server.expired (machine_key world client file) ≡ false

-- A good client is one, with all its files.
abbrev pub GoodClientsAreTimely : Type 0
GoodClientsAreTimely = (rules : Rules) (setup : Setup) (events : List Event) (client : ℕ)
    → is_good client (after (first_world_under rules setup) events).past ≡ true
    → IsTimely (after (first_world_under rules setup) events) client

-- ---- one client and one file

abbrev pub lease_of_client : World → ℕ → ℕ → Lease
lease_of_client world client file = world.server.leases (machine_key world client file)

abbrev pub key_of_file : World → ℕ → ℕ → List ℕ
key_of_file world client file = lease_key (world.clients client).guid file

abbrev pub IsLive : World → ℕ → ℕ → LiveEntry → Type 0
IsLive world client file live = ((world.clients client).entries file).phase ≡ Phase.Live live

abbrev pub acknowledgment_of : List ℕ → State → Request
acknowledgment_of key state = Request.Acknowledge (Some (record { key = key; state = state }))

-- all that a client asks about a file, and what it asks of others behind: what is held first, then what is on its way
abbrev pub as_requests : List Held → List Request
as_requests [] = []
as_requests (one ∷ held) = Request.OnFile one.request ∷ as_requests held

abbrev pub asked_of : World → ℕ → ℕ → List Request
asked_of world client file = as_requests (held_by client (world.server.held file)) ++ world.requests client

-- a client that has taken these replies, in order, and did nothing else
abbrev pub taken_all : Client → List Reply → Client
taken_all client [] = client
taken_all client (reply ∷ queue) = taken_all (taken client reply).client queue

-- ---- breaks and acknowledgments

-- Its break is on its way: it tells the state that the lease is broken to and asks for an acknowledgment, and once the
-- client has taken what comes before it, a live entry meets it.
pub record IsTold (world : World) (client file : ℕ) : Type 0 where
  pub before : List Reply
  pub notice : BreakNotice
  pub behind : List Reply
  pub sent : world.replies client ≡ before ++ Reply.Break (Some notice) ∷ behind
  pub key : notice.key ≡ key_of_file world client file
  pub asks : notice.ack_required ≡ true
  pub tells : (lease_of_client world client file).broken_to ≡ Some notice.lowered
  pub live : LiveEntry
  pub meets : ((taken_all (world.clients client) before).entries file).phase ≡ Phase.Live live

-- an acknowledgment of it is on its way
pub record IsAnswered (world : World) (client file : ℕ) : Type 0 where
  pub state : State
  pub sent : Among (acknowledgment_of (key_of_file world client file) state) (world.requests client)

-- a Close of one of its opens is on its way, or held
pub record IsGivenUp (world : World) (client file : ℕ) : Type 0 where
  pub one : Open
  pub there : Among one world.server.opens
  pub under : has_key (machine_key world client file) one ≡ true
  pub asked : Among (Request.OnFile (FileRequest.Close one.file_id)) (asked_of world client file)

-- While a lease is breaking, its break is on its way and a live entry will meet it, or the acknowledgment or a Close is.
abbrev pub BreakingIsAnswered : World → ℕ → ℕ → Type 0
BreakingIsAnswered world client file = is_breaking (lease_of_client world client file) ≡ true
    → IsTold world client file ⊎ (IsAnswered world client file ⊎ IsGivenUp world client file)

-- the state that a lease is broken to, of which an acknowledgment tells a part
pub record IsDue (world : World) (client file : ℕ) (state : State) : Type 0 where
  pub lowered : State
  pub breaking : (lease_of_client world client file).broken_to ≡ Some lowered
  pub within : is_state_within state lowered ≡ true

-- An acknowledgment is on its way only while its lease is breaking, and tells no more than the lease is broken to.
abbrev pub AcknowledgmentsAreDue : World → ℕ → ℕ → Type 0
AcknowledgmentsAreDue world client file = (state : State)
    → Among (acknowledgment_of (key_of_file world client file) state) (world.requests client)
    → IsDue world client file state

-- ---- buffered writes go first

-- no buffered write of the file stands among the requests, whether or not its open is there
abbrev pub NoneBuffered : World → ℕ → ℕ → List Request → Type 0
NoneBuffered world client file requests = (file_id number : ℕ) (patch : Patch)
    → Among (Request.OnFile (FileRequest.Write file_id number patch)) requests
    → has_buffered client file number world.past ≡ false

pub record HasFlushed (world : World) (client file : ℕ) (behind : List Request) : Type 0 where
  pub sent : NoneBuffered world client file behind
  pub unsent : unsent_in ((world.clients client).entries file).phase ≡ []

-- Behind an acknowledgment that gives writes up no buffered write of its file stands, and none is unsent or kept.
abbrev pub FlushedBeforeAcknowledgments : World → ℕ → ℕ → Type 0
FlushedBeforeAcknowledgments world client file = (state : State) (before behind : List Request)
    → world.requests client ≡ before ++ acknowledgment_of (key_of_file world client file) state ∷ behind
    → state.write ≡ false → HasFlushed world client file behind

pub record HasClosed (world : World) (client file file_id : ℕ) (behind : List Request) : Type 0 where
  pub sent : (number : ℕ) (patch : Patch) → Among (Request.OnFile (FileRequest.Write file_id number patch)) behind → ⊥
  pub unsent : (live : LiveEntry) → IsLive world client file live → live.file_id ≢ file_id

-- Behind a Close no write of its open stands, and no live entry is under it that could send one.
abbrev pub FlushedBeforeCloses : World → ℕ → ℕ → Type 0
FlushedBeforeCloses world client file = (file_id : ℕ) (before behind : List Request)
    → asked_of world client file ≡ before ++ Request.OnFile (FileRequest.Close file_id) ∷ behind
    → HasClosed world client file file_id behind

-- ---- beliefs

-- the break of a lease of reads alone, which asks for no acknowledgment
abbrev pub reads_alone : State
reads_alone = record { read = true; write = false; handle = false }

abbrev pub lone_break : List ℕ → Reply
lone_break key = Reply.Break (Some (record {
  ack_required = false;
  key = key;
  current = reads_alone;
  lowered = nothing_cached;
}))

-- What a live entry believes the lease holds, or a break of reads alone is on its way.
abbrev pub BeliefsAreHeld : World → ℕ → ℕ → Type 0
BeliefsAreHeld world client file = (live : LiveEntry) → IsLive world client file live
    → (is_state_within live.belief (lease_of_client world client file).state ≡ true)
    ⊎ Among (lone_break (key_of_file world client file)) (world.replies client)

-- ---- cached bytes

-- Where the client would still hold a base after taking its whole queue, that base is the server's content.
abbrev pub BasesAreCurrent : World → ℕ → ℕ → Type 0
BasesAreCurrent world client file = (live : LiveEntry)
    → ((taken_all (world.clients client) (world.replies client)).entries file).phase ≡ Phase.Live live
    → (bytes : List ℕ) → live.base ≡ Some bytes → bytes ≡ world.server.contents file

-- ---- held requests

-- Where the lease of a client's file holds writes, nothing that the client asks of the file is held: no second create of it,
-- and so nothing after one.
abbrev pub WritersAreNotHeld : World → ℕ → Type 0
WritersAreNotHeld world client = (file : ℕ) → (lease_of_client world client file).state.write ≡ true
    → held_by client (world.server.held file) ≡ []

-- Nor is anything where a live entry of it believes that it may cache writes.
abbrev pub BelieversAreNotHeld : World → ℕ → ℕ → Type 0
BelieversAreNotHeld world client file = (live : LiveEntry) → IsLive world client file live → live.belief.write ≡ true
    → held_by client (world.server.held file) ≡ []

-- And no write of the client that is held was buffered.
abbrev pub HeldWritesAreThrough : World → ℕ → ℕ → Type 0
HeldWritesAreThrough world client file =
    NoneBuffered world client file (as_requests (held_by client (world.server.held file)))

-- at every point of a run of an allowed setup
abbrev pub OfAllowedRuns : (World → ℕ → Type 0) → Type 0
OfAllowedRuns A = (rules : Rules) (setup : Setup) (events : List Event) (client : ℕ) → is_allowed_setup setup ≡ true
    → has_strayed client (after (first_world_under rules setup) events).past ≡ false
    → A (after (first_world_under rules setup) events) client

-- ---- over any link

-- An open that is gone never comes back: no later write under its FileId finds one, so none is accepted.
abbrev pub ClosedOpensStayClosed : Type 0
ClosedOpensStayClosed = (rules : Rules) (setup : Setup) (events more : List Event) (client file_id : ℕ)
    → file_id ≤ (after (first_world_under rules setup) events).server.last_id
    → ((one : Open) → Among one (after (first_world_under rules setup) events).server.opens → one.file_id ≢ file_id)
    → connected_open (after (after (first_world_under rules setup) events) more).server client file_id ≡ None

-- another client opened or changed the file since the client's connection was lost last
unfoldable pub touched_since_lost : ℕ → ℕ → List Fact → Bool
touched_since_lost client file [] = false
touched_since_lost client file (Fact.Dropped other ∷ past) =
    not (other == client) && touched_since_lost client file past
touched_since_lost client file (Fact.Opened other opener ∷ past) =
    (other == file && not (opener == client)) || touched_since_lost client file past
touched_since_lost client file (Fact.Changed other writer number patch ∷ past) =
    (other == file && not (writer == client)) || touched_since_lost client file past
touched_since_lost client file (_ ∷ past) = touched_since_lost client file past

-- Where an entry that is offline or reconnecting has an open left whose lease holds writes, no other client opened or
-- changed the file since the connection was lost.
abbrev pub KeptIsUntouched : World → ℕ → Type 0
KeptIsUntouched world client = (file : ℕ) (parted : Parted)
    → (((world.clients client).entries file).phase ≡ Phase.Offline parted)
    ⊎ (((world.clients client).entries file).phase ≡ Phase.Reconnecting parted)
    → (one : Open) → Among one world.server.opens → one.client ≡ client → one.file_id ≡ parted.file_id
    → (lease_of_client world client file).state.write ≡ true → touched_since_lost client file world.past ≡ false

-- ---- of every client machine, whatever comes to it

-- a reply that grants a state for the file's key, while no break is in progress
pub record IsGranted (client : Client) (call : ClientCall) (file : ℕ) : Type 0 where
  pub file_id : ℕ
  pub answer : CreateAnswer
  pub given : LeaseGiven
  pub taken : call ≡ ClientCall.Taken (Reply.Created file file_id (Some answer))
  pub gives : answer.lease ≡ Some given
  pub settled : given.in_progress ≡ false

-- A belief rises by such a reply alone.
abbrev pub BeliefsRiseByGrants : Type 0
BeliefsRiseByGrants = (client : Client) (call : ClientCall) (file : ℕ)
    → (is_state_within (belief (client_called client call).client file) (belief client file) ≡ true)
    ⊎ IsGranted client call file
