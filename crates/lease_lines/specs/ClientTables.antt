-- Client machines that are given lines.
use Rattle.std.specs.Prelude.{◌≡◌, ℕ, zero, suc, Bool, true, false, ◌++◌, List, [], ◌∷◌, length, nat_lt, bytes_eq, if◌then◌else◌}
use Rattle.std.specs.Prelude.{Option, Some, None, slice_get, slice_set}
use Rattle.lease_model.specs.client.{Calls.client_called, State.Client, State.new_client, Step.Step}
use Rattle.lease_texts.specs.{Complaints.Complaint, Complaints.complaint, Reading.is_passed_over}
use Rattle.lease_lines.specs.ClientLines.{client_line_in, client_place, client_table, other_of, call_of}
use Rattle.lease_lines.specs.Refused.{fault_line, lack_line, place_line}
use Rattle.lease_lines.specs.declared.{client_lines.Asked.Asked, refusals.Answer.Answer, client_lines.ClientLine.ClientLine}
use Rattle.{std.specs.List.list_any, std.specs.String.string_bytes, lease_lines.specs.ClientAnswers.step_text}

-- what a line comes to: the machines after it, and what is answered
pub record Told (A : Type 0) : Type 0 where
  pub state : A
  pub text : List ℕ

-- the number of files of each client, once it was told, and the clients with their ClientGuids, numbered from 1
pub record Clients : Type 0 where
  pub files : Option ℕ
  pub guids : List (List ℕ)
  pub clients : List Client

abbrev pub no_clients : Clients
no_clients = record { files = None; guids = []; clients = [] }

abbrev pub quietly : {A : Type 0} → A → Option (Told A)
quietly state = Some (record { state = state; text = [] })

-- how many files there are is told once, before the first client
abbrev pub with_files : Clients → ℕ → Option ℕ → Option (Told Clients)
with_files clients count None = quietly (record clients { files = Some count })
with_files clients count (Some told) = None

abbrev pub with_new : Clients → List ℕ → ℕ → Clients
with_new clients guid files =
    record clients { guids = clients.guids ++ guid ∷ []; clients = clients.clients ++ new_client guid files ∷ [] }

-- at most 255 clients, no two of them with one GUID
abbrev pub with_client : Clients → List ℕ → Option ℕ → Option (Told Clients)
with_client clients guid None = None
with_client clients guid (Some files) =
    if list_any (λ one. bytes_eq one guid) clients.guids then None
    else if nat_lt (length clients.clients) 255
    then quietly (with_new clients guid files)
    else None

-- the client of a number; the first is 1
abbrev pub client_at : List Client → ℕ → Option Client
client_at clients zero = None
client_at clients (suc place) = slice_get clients place

abbrev pub with_client_at : List Client → ℕ → Client → List Client
with_client_at clients zero client = clients
with_client_at clients (suc place) client = slice_set clients place client

-- a client's call, where there is that client
abbrev pub stepped : Clients → ℕ → Option ℕ → Step → Told Clients
stepped clients number other step = record {
  state = record clients { clients = with_client_at clients.clients number step.client };
  text = step_text number other step;
}

abbrev pub called : Clients → ℕ → Option ℕ → (Client → Step) → Option Client → Option (Told Clients)
called clients number other call None = None
called clients number other call (Some client) = Some (stepped clients number other (call client))

abbrev pub on_client : Clients → ℕ → Option ℕ → (Client → Step) → Option (Told Clients)
on_client clients number other call = called clients number other call (client_at clients.clients number)

unfoldable pub line_told : Clients → ClientLine → Option (Told Clients)
line_told clients (ClientLine.Files count) = with_files clients count clients.files
line_told clients (ClientLine.Client guid) = with_client clients guid clients.files
line_told clients (ClientLine.Asks client asked) =
    on_client clients client.0 (other_of asked) (λ c. client_called c (call_of asked))

-- what a line is answered: the machines after it, the text, and why it is refused where it is
pub record Answered (A : Type 0) : Type 0 where
  pub state : A
  pub text : List ℕ
  pub reason : List ℕ

abbrev pub unanswered : {A : Type 0} → A → Answered A
unanswered state = record { state = state; text = []; reason = [] }

-- a line that is refused changes nothing
abbrev pub or_fault : {A : Type 0} → A → ℕ → List ℕ → Option (Told A) → Answered A
or_fault state number why None = record { state = state; text = fault_line number; reason = why }
or_fault state number why (Some told) = record { state = told.state; text = told.text; reason = [] }

-- the same of a line of which a reader gives what it tells, and a table what it lacks
abbrev pub answered_as : {A L : Type 0} → (A → L → Option (Told A)) → (L → List ℕ) → A → ℕ → Option L → Option Complaint
    → Answered A
answered_as line_told place state number (Some told) lack =
    or_fault state number (place_line number (place told)) (line_told state told)
answered_as line_told place state number None lack = or_fault state number (lack_line number lack) None

-- the code's machines and answer are those after the line
abbrev pub IsAnswered : {A : Type 0} → Answered A → A → Answer → Type 0
IsAnswered told state answer =
    (state ≡ told.state) × (string_bytes answer.text ≡ told.text) × (string_bytes answer.reason ≡ told.reason)

-- The line was taken, and answered so; or it is refused, and nothing is changed or added.
abbrev pub Takes : {A : Type 0} → Option (Told A) → Bool → A → A → List ℕ → List ℕ → Type 0
Takes None false before after old new = (after ≡ before) × (new ≡ old)
Takes (Some told) true before after old new = (after ≡ told.state) × (new ≡ old ++ told.text)
Takes told taken before after old new = ⊥

-- Something was asked of a client, and its answer was added to a text.
abbrev pub HasStepped : ℕ → Asked → Client → Client → List ℕ → List ℕ → Type 0
HasStepped number asked before after old new = (after ≡ (client_called before (call_of asked)).client)
    × (new ≡ old ++ step_text number (other_of asked) (client_called before (call_of asked)))

-- the same of the client of a number, which is there
abbrev pub HasAsked : ℕ → Asked → List Client → List Client → List ℕ → List ℕ → Type 0
HasAsked number asked before after old new =
    (client : Client) → client_at before number ≡ Some client
    → (after ≡ with_client_at before number (client_called client (call_of asked)).client)
    × (new ≡ old ++ step_text number (other_of asked) (client_called client (call_of asked)))

-- a line of this number comes
unfoldable pub client_answered : Clients → ℕ → List ℕ → Answered Clients
client_answered clients number text = if is_passed_over text then unanswered clients
    else answered_as line_told client_place clients number (client_line_in text) (complaint client_table text)
