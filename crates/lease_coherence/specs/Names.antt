-- What a client that hasn't strayed names, in its requests, its opens and its entries, compared with the opens and writes of
-- the record (profile).
use Rattle.std.specs.Prelude.{◌≡◌, ⊤, ℕ, true, false, Option, Some, None, List, [], ◌∷◌}
use Rattle.lease_state.specs.declared.patch.Patch.{Patch}
use Rattle.lease_model.specs.client.State.{Entry, Pending, Phase, lease_key}
use Rattle.lease_model.specs.messages.Replies.{Reply}
use Rattle.lease_model.specs.messages.Requests.{FileRequest, Request, CreateAsk, LeaseOf}
use Rattle.lease_model.specs.records.Facts.{Fact}
use Rattle.lease_model.specs.records.Past.{has_strayed, has_written, is_accepted}
use Rattle.lease_model.specs.server.State.{Open, Held, Lane}
use Rattle.lease_model.specs.world.World.{World}
use Rattle.lease_laws.specs.server.Laws.{Among}
use Rattle.lease_laws.specs.world.FileIds.{was_opened}

-- an open that the record tells of, on some file
pub record WasOpenedOn (client : ℕ) (file_id : ℕ) (past : List Fact) : Type 0 where
  pub file : ℕ
  pub opened : was_opened file_id file client past ≡ true

-- and a write of it
pub record WasWrittenOn (client : ℕ) (file_id number : ℕ) (patch : Patch) (past : List Fact) : Type 0 where
  pub file : ℕ
  pub opened : was_opened file_id file client past ≡ true
  pub written : has_written client file number patch past ≡ true

-- a create under the file's key, and where it reconnects, of an open of the file
pub record IsOwnCreate (client : ℕ) (guid : List ℕ) (past : List Fact) (file : ℕ) (ask : CreateAsk) : Type 0 where
  pub lease : LeaseOf
  pub asks : ask.lease ≡ Some lease
  pub key : lease.key ≡ lease_key guid file
  pub again : (file_id : ℕ) → ask.reconnect ≡ Some file_id → was_opened file_id file client past ≡ true

pub record IsOwnAck (guid : List ℕ) (given : Option LeaseOf) : Type 0 where
  pub file : ℕ
  pub lease : LeaseOf
  pub gives : given ≡ Some lease
  pub key : lease.key ≡ lease_key guid file

abbrev pub IsNamedOnFile : ℕ → List ℕ → List Fact → FileRequest → Type 0
IsNamedOnFile client guid past (FileRequest.Create file access share None) = ⊥
IsNamedOnFile client guid past (FileRequest.Create file access share (Some ask)) = IsOwnCreate client guid past file ask
IsNamedOnFile client guid past (FileRequest.Read file_id) = WasOpenedOn client file_id past
IsNamedOnFile client guid past (FileRequest.Write file_id number patch) =
    WasWrittenOn client file_id number patch past
IsNamedOnFile client guid past (FileRequest.Close file_id) = WasOpenedOn client file_id past

-- a request that is held on a file, with its lane, which is the file's key
pub record IsNamedHeld (client : ℕ) (guid : List ℕ) (past : List Fact) (file : ℕ) (one : Held) : Type 0 where
  pub named : IsNamedOnFile client guid past one.request
  pub lane : one.lane ≡ Lane.Leased (lease_key guid file)

abbrev pub IsNamedRequest : ℕ → List ℕ → List Fact → Request → Type 0
IsNamedRequest client guid past (Request.OnFile request) = IsNamedOnFile client guid past request
IsNamedRequest client guid past (Request.Acknowledge given) = IsOwnAck guid given

abbrev pub IsNamedReply : ℕ → List Fact → Reply → Type 0
IsNamedReply client past (Reply.Created file file_id None) = ⊥
IsNamedReply client past (Reply.Created file file_id (Some answer)) = was_opened file_id file client past ≡ true
IsNamedReply client past (Reply.WriteDone file_id number) = is_accepted client number past ≡ true
IsNamedReply client past reply = ⊤

abbrev pub Each : {X : Type 0} → (X → Type 0) → List X → Type 0
Each P [] = ⊤
Each P (x ∷ xs) = P x × Each P xs

abbrev pub WasWritten : ℕ → ℕ → List Fact → Pending → Type 0
WasWritten client file past write = has_written client file write.number write.patch past ≡ true

abbrev pub IsNamedPhase : ℕ → ℕ → List Fact → Phase → Type 0
IsNamedPhase client file past (Phase.Live live) =
    (was_opened live.file_id file client past ≡ true) × Each (WasWritten client file past) live.unsent
IsNamedPhase client file past (Phase.Offline parted) =
    (was_opened parted.file_id file client past ≡ true) × Each (WasWritten client file past) parted.writes
IsNamedPhase client file past (Phase.Reconnecting parted) =
    (was_opened parted.file_id file client past ≡ true) × Each (WasWritten client file past) parted.writes
IsNamedPhase client file past phase = ⊤

pub record IsNamedEntry (client : ℕ) (file : ℕ) (past : List Fact) (entry : Entry) : Type 0 where
  pub sent : Each (WasWritten client file past) entry.sent
  pub phase : IsNamedPhase client file past entry.phase

abbrev pub IsOwnOpen : List ℕ → Open → Type 0
IsOwnOpen guid one = one.lease_key ≡ Some (lease_key guid one.file)

pub record IsNamedAt (world : World) (client : ℕ) : Type 0 where
  pub requests : Each (IsNamedRequest client (world.clients client).guid world.past) (world.requests client)
  pub held : (file : ℕ) (one : Held) → Among one (world.server.held file) → one.client ≡ client
      → IsNamedHeld client (world.clients client).guid world.past file one
  pub opens : (one : Open) → Among one world.server.opens → one.client ≡ client
      → IsOwnOpen (world.clients client).guid one
  pub replies : Each (IsNamedReply client world.past) (world.replies client)
  pub entries : (file : ℕ) → IsNamedEntry client file world.past ((world.clients client).entries file)

-- All that a client names that hasn't strayed was told of before.
abbrev pub IsNamed : World → Type 0
IsNamed world = (client : ℕ) → has_strayed client world.past ≡ false → IsNamedAt world client
