-- What is true of every client machine, whatever commands and messages come to it, in any order.
use Rattle.std.specs.Prelude.{◌≡◌, ◌≢◌, ℕ, Bool, true, false, None, List, [], ◌∷◌, ◌++◌, ◌&&◌, ◌==◌, if◌then◌else◌, nat_lt}
use Rattle.std.specs.Prelude.{nat_le, ◌≤◌, ◌<◌}
use Rattle.std.specs.List.{list_all, list_any}
use Rattle.lease_model.specs.client.Commanded.{is_asking, commanded}
use Rattle.lease_model.specs.client.Calls.{ClientCall, client_called}
use Rattle.lease_model.specs.client.Commands.{Command, Answer, Refusal, Note}
use Rattle.lease_model.specs.client.Taken.{is_numbered}
use Rattle.lease_model.specs.client.State.{Client, Entry, LiveEntry, Pending, Phase, new_client, knows_file, belief}
use Rattle.lease_model.specs.client.Step.{refused_step}
use Rattle.lease_state.specs.State.{State}

-- each of the writes was answered before it was sent
abbrev pub are_buffered : List Pending → Bool
are_buffered writes = list_all (λ write. write.buffered) writes

-- A live entry has a base only where its belief holds R, and unsent writes only where it holds W; these
-- are buffered ones. It asks for more only with a handle.
pub record IsSoundLive (live : LiveEntry) : Type 0 where
  pub base_under_reads : live.belief.read ≡ false → live.base ≡ None
  pub unsent_under_writes : live.belief.write ≡ false → live.unsent ≡ []
  pub unsent_buffered : are_buffered live.unsent ≡ true
  pub asking_with_handles : is_asking live ≡ true → 1 ≤ live.handles

-- An entry is opening, live or reconnecting only while the client is connected, and offline only
-- while it isn't. What it keeps over a lost connection are buffered writes, and apart from them it has
-- no sent ones. While the client isn't connected, no sent write is unanswered.
abbrev pub IsSoundPhase : Bool → List Pending → Phase → Type 0
IsSoundPhase connected sent Phase.Closed = connected ≡ false → sent ≡ []
IsSoundPhase connected sent (Phase.Opening access share) = connected ≡ true
IsSoundPhase connected sent (Phase.Live live) = (connected ≡ true) × IsSoundLive live
IsSoundPhase connected sent (Phase.Offline parted) =
    (connected ≡ false) × (sent ≡ []) × (are_buffered parted.writes ≡ true)
IsSoundPhase connected sent (Phase.Reconnecting parted) =
    (connected ≡ true) × (sent ≡ []) × (are_buffered parted.writes ≡ true)

abbrev pub IsSoundEntry : Bool → Entry → Type 0
IsSoundEntry connected entry = IsSoundPhase connected entry.sent entry.phase

-- the buffered writes of an entry that aren't sent: a live one's, and those kept while it isn't live
abbrev pub unsent_in : Phase → List Pending
unsent_in Phase.Closed = []
unsent_in (Phase.Opening access share) = []
unsent_in (Phase.Live live) = live.unsent
unsent_in (Phase.Offline parted) = parted.writes
unsent_in (Phase.Reconnecting parted) = parted.writes

-- the unanswered writes of an entry, the sent ones first
abbrev pub unanswered_in : Entry → List Pending
unanswered_in entry = entry.sent ++ unsent_in entry.phase

-- the numbers of the writes rise, from above `low` to `last` at most
abbrev pub are_rising : ℕ → ℕ → List Pending → Bool
are_rising low last [] = true
are_rising low last (write ∷ writes) =
    nat_lt low write.number && nat_le write.number last && are_rising write.number last writes

-- a write of this number is among the writes
abbrev pub has_number : ℕ → List Pending → Bool
has_number number writes = list_any (is_numbered number) writes

-- The unanswered writes of each file stand in the order of their numbers, from 1 to the last number
-- given, and no two of a client have one number.
pub record HaveOwnNumbers (last : ℕ) (writes : ℕ → List Pending) : Type 0 where
  pub rising : (file : ℕ) → are_rising 0 last (writes file) ≡ true
  pub apart : (file other number : ℕ) → file ≢ other → has_number number (writes file) ≡ true
      → has_number number (writes other) ≡ false

-- The laws of a client. Entries of files that it doesn't know are closed.
pub record IsSoundClient (client : Client) : Type 0 where
  pub entries : (file : ℕ) → IsSoundEntry client.is_online (client.entries file)
  pub in_files : (file : ℕ) → knows_file client file ≡ false → (client.entries file).phase ≡ Phase.Closed
  pub numbers : HaveOwnNumbers client.last_number (λ file. unanswered_in (client.entries file))

-- The laws hold of a new client,
abbrev pub FirstClientIsSound : Type 0
FirstClientIsSound = (guid : List ℕ) (files : ℕ) → IsSoundClient (new_client guid files)

-- and every command, message, notice and connect keeps them.
abbrev pub ClientsStaySound : Type 0
ClientsStaySound = (client : Client) (call : ClientCall) → IsSoundClient client
    → IsSoundClient (client_called client call).client

-- What notes say of the numbers of writes, from the last number given before them to the last after:
-- a write that is settled was given before, and one that is given has a new number.
abbrev pub TellNumbers : ℕ → List Note → ℕ → Type 0
TellNumbers last [] new = last ≡ new
TellNumbers last (Note.Settled number outcome ∷ notes) new = (number ≤ last) × TellNumbers last notes new
TellNumbers last (Note.Wrote file number patch buffered ∷ notes) new =
    (last < number) × TellNumbers number notes new
TellNumbers last (Note.Believes file state ∷ notes) new = TellNumbers last notes new
TellNumbers last (Note.CachedRead file bytes ∷ notes) new = TellNumbers last notes new

-- So it is with the notes of every call.
abbrev pub NotesTellNumbers : Type 0
NotesTellNumbers = (client : Client) (call : ClientCall) → IsSoundClient client
    → TellNumbers client.last_number (client_called client call).notes
    (client_called client call).client.last_number

-- What a client believes of a file's lease after these notes, from what it believed before.
abbrev pub believed_after : ℕ → State → List Note → State
believed_after file old [] = old
believed_after file old (Note.Believes of_file state ∷ notes) =
    believed_after file (if of_file == file then state else old) notes
believed_after file old (Note.Settled number outcome ∷ notes) = believed_after file old notes
believed_after file old (Note.Wrote of_file number patch buffered ∷ notes) = believed_after file old notes
believed_after file old (Note.CachedRead of_file bytes ∷ notes) = believed_after file old notes

-- The notes of every call tell what the client believes after it.
abbrev pub NotesTellBeliefs : Type 0
NotesTellBeliefs = (client : Client) (call : ClientCall) → IsSoundClient client → (file : ℕ)
    → believed_after file (belief client file) (client_called client call).notes
    ≡ belief (client_called client call).client file

-- A refused command changes nothing, sends nothing and notes nothing.
abbrev pub RefusedCommandsDoNothing : Type 0
RefusedCommandsDoNothing = (client : Client) (command : Command) (refusal : Refusal)
    → (commanded client command).answer ≡ Answer.Refused refusal
    → commanded client command ≡ refused_step client refusal
