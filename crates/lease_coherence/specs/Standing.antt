-- Opens that stand: for what is asked under a FileId, and what is believed of its open, there is an open (profile).
use Rattle.std.specs.Prelude.{◌≡◌, ◌≢◌, ◌⊎◌, ⊤, ℕ, true, Option, Some, None}
use Rattle.lease_model.specs.client.State.{Client, Phase}
use Rattle.lease_model.specs.messages.Replies.{Reply}
use Rattle.lease_model.specs.messages.Requests.{FileRequest, Request}
use Rattle.lease_model.specs.server.State.{Open, Held}
use Rattle.lease_model.specs.world.Events.{machine_key}
use Rattle.lease_model.specs.world.World.{World}
use Rattle.lease_laws.specs.server.Laws.{Among}
use Rattle.lease_laws.specs.world.Links.{is_up}
use Rattle.lease_coherence.specs.Names.{Each}

-- ---- all that a client asks: what is on its way, and what is held

pub record AllAsked (P : Request → Type 0) (world : World) (client : ℕ) : Type 0 where
  pub queued : Each P (world.requests client)
  pub held : (file : ℕ) (one : Held) → Among one (world.server.held file) → one.client ≡ client
      → P (Request.OnFile one.request)

-- ---- what stands

-- the open of a FileId is the client's, on the file and connected, unless the timer of the file's key ran out
pub record IsOpenFor (world : World) (client file file_id : ℕ) : Type 0 where
  pub one : Open
  pub there : Among one world.server.opens
  pub id : one.file_id ≡ file_id
  pub by : one.client ≡ client
  pub on_file : one.file ≡ file
  pub up : one.connected ≡ true

abbrev pub Stands : World → ℕ → ℕ → ℕ → Type 0
Stands world client file file_id =
    (world.server.expired (machine_key world client file) ≡ true) ⊎ IsOpenFor world client file file_id

abbrev pub IsNoClose : ℕ → Request → Type 0
IsNoClose file_id (Request.OnFile (FileRequest.Close other)) = other ≢ file_id
IsNoClose file_id request = ⊤

abbrev pub NotClosed : World → ℕ → ℕ → Type 0
NotClosed world client file_id = AllAsked (IsNoClose file_id) world client

-- a create reconnects exactly where its entry does, by the entry's FileId
abbrev pub again_of : Phase → Option ℕ
again_of (Phase.Reconnecting parted) = Some parted.file_id
again_of phase = None

abbrev pub AskFits : Client → Request → Type 0
AskFits client (Request.OnFile (FileRequest.Create file access share (Some ask))) =
    ask.reconnect ≡ again_of (client.entries file).phase
AskFits client request = ⊤

-- a grant on its way to a live entry is of another open, and one to a reconnecting entry is of its own
abbrev pub FitsPhase : Phase → ℕ → Type 0
FitsPhase (Phase.Live live) file_id = file_id ≢ live.file_id
FitsPhase (Phase.Reconnecting parted) file_id = file_id ≡ parted.file_id
FitsPhase phase file_id = ⊤

pub record IsGivenWell (world : World) (client file file_id : ℕ) : Type 0 where
  pub stands : Stands world client file file_id
  pub not_closed : NotClosed world client file_id
  pub fits : FitsPhase ((world.clients client).entries file).phase file_id

abbrev pub GivenWell : World → ℕ → Reply → Type 0
GivenWell world client (Reply.Created file file_id contexts) = IsGivenWell world client file file_id
GivenWell world client reply = ⊤

abbrev pub PhaseStands : World → ℕ → ℕ → Phase → Type 0
PhaseStands world client file (Phase.Live live) =
    Stands world client file live.file_id × NotClosed world client live.file_id
PhaseStands world client file (Phase.Reconnecting parted) = NotClosed world client parted.file_id
PhaseStands world client file phase = ⊤

pub record IsStandingAt (world : World) (client : ℕ) : Type 0 where
  pub phases : (file : ℕ) → PhaseStands world client file ((world.clients client).entries file).phase
  pub given : Each (GivenWell world client) (world.replies client)
  pub asked : AllAsked (AskFits (world.clients client)) world client

abbrev pub IsUpStanding : World → ℕ → Type 0
IsUpStanding world client = is_up (world.links client) ≡ true → IsStandingAt world client
