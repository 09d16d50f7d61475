-- The laws of waiting: who is connected, where requests are held, and that each waits for a break.
use Rattle.std.specs.Prelude.{◌≡◌, ℕ, ◌≤◌, true, false, Some, None, List, [], ◌∷◌, ◌++◌}
use Rattle.lease_model.specs.messages.Requests.{FileRequest}
use Rattle.lease_laws.specs.server.Laws.{Among, HasToWait, IsSound}
use Rattle.lease_model.specs.server.State.{Server, Open, Held, has_file, has_key, is_breaking}
use Rattle.lease_model.specs.server.Findings.{connected_open}
use Rattle.lease_model.specs.server.Naming.{own_key}
use Rattle.lease_model.specs.server.Lanes.{is_behind}
use Rattle.lease_model.specs.values.Keys.{Key}

-- a FileId that was given, and whose open, if it is there yet, is on the file
pub record IsOpenOn (server : Server) (file : ℕ) (file_id : ℕ) : Type 0 where
  pub was_given : file_id ≤ server.last_id
  pub is_on_file : (one : Open) → Among one server.opens → one.file_id ≡ file_id → one.file ≡ file

-- the request is about the file
abbrev pub IsAbout : Server → ℕ → FileRequest → Type 0
IsAbout server file (FileRequest.Create other access share contexts) = other ≡ file
IsAbout server file (FileRequest.Read file_id) = IsOpenOn server file file_id
IsAbout server file (FileRequest.Write file_id number patch) = IsOpenOn server file file_id
IsAbout server file (FileRequest.Close file_id) = IsOpenOn server file file_id

-- Where opens and held requests are.
--   opens_up: the client of a connected open is connected
--   open_files: opens are on files of the server
--   held_up: the client of a held request is connected
--   held_files: requests are held on files of the server
--   held_about: a request is held on the file that it is about
pub record IsOrderly (server : Server) : Type 0 where
  pub opens_up : (one : Open) → Among one server.opens → one.connected ≡ true
      → server.present one.client ≡ true
  pub open_files : (one : Open) → Among one server.opens → has_file server one.file ≡ true
  pub held_up : (file : ℕ) (one : Held) → Among one (server.held file) → server.present one.client ≡ true
  pub held_files : (file : ℕ) (one : Held) → Among one (server.held file) → has_file server file ≡ true
  pub held_about : (file : ℕ) (one : Held) → Among one (server.held file) → IsAbout server file one.request

-- On the file, a held request that waits behind none has to wait.
abbrev pub AllWait : Server → ℕ → Type 0
AllWait server file = (before : List Held) (one : Held) (behind : List Held)
    → server.held file ≡ before ++ one ∷ behind → is_behind server.rules one before ≡ false
    → HasToWait server one.client one.request

-- an open of the client that has the key
pub record IsOpenUnder (server : Server) (client : ℕ) (file_id : ℕ) (key : Key) : Type 0 where
  pub one : Open
  pub is_open : connected_open server client file_id ≡ Some one
  pub has_the_key : has_key key one ≡ true

-- The laws of waiting.
pub record WaitsWell (server : Server) : Type 0 where
  pub is_orderly : IsOrderly server
  pub all_wait : (file : ℕ) → AllWait server file

-- A request of the client stands under the key: its create names it, or the open that it names has it.
abbrev pub IsUnder : Server → ℕ → FileRequest → Key → Type 0
IsUnder server client (FileRequest.Create file access share None) key = ⊥
IsUnder server client (FileRequest.Create file access share (Some ask)) key = own_key client ask.lease ≡ Some key
IsUnder server client (FileRequest.Read file_id) key = IsOpenUnder server client file_id key
IsUnder server client (FileRequest.Write file_id number patch) key = IsOpenUnder server client file_id key
IsUnder server client (FileRequest.Close file_id) key = IsOpenUnder server client file_id key

-- Where a key that holds W has an open, no held request that waits behind none stands under it there. (One
-- behind another may.)
abbrev pub WritersDontWait : Type 0
WritersDontWait = (server : Server) (key : Key) (one : Open) (before : List Held) (held : Held) (behind : List Held)
    → IsSound server → WaitsWell server → (server.leases key).state.write ≡ true
    → Among one server.opens → has_key key one ≡ true
    → server.held one.file ≡ before ++ held ∷ behind → is_behind server.rules held before ≡ false
    → IsUnder server held.client held.request key → ⊥

-- On a file of which no lease is breaking nothing waits.
abbrev pub NothingWaitsIdly : Type 0
NothingWaitsIdly = (server : Server) (file : ℕ) → WaitsWell server
    → ((key : Key) (one : Open) → Among one server.opens → one.file ≡ file → has_key key one ≡ true
    → is_breaking (server.leases key) ≡ false)
    → server.held file ≡ []
