-- What a command or a message makes of a client has one of a few forms; so whatever these forms have,
-- every such step has.
use Rattle.lease_laws.proofs.Words.{◌≡◌, Answer, Client, Command, Entry, List, Pending, Refusal, Reply, Request, Step, Turn, ℕ}
use Rattle.lease_laws.proofs.Words.{refl}
use Rattle.std.proofs.Common.{arith}
use Rattle.lease_laws.proofs.Words.{cached_read, commanded, quiet_step, refused_step, taken}
use Rattle.lease_laws.proofs.Words.{turned, wrote_step}
use Rattle.lease_laws.proofs.client.cases.Commands.{HasCommands, any_command}
use Rattle.lease_laws.proofs.client.cases.Replies.{HasTakes, any_reply}
use Rattle.lease_laws.proofs.client.cases.Turns.{by_turn}

-- a command is refused, nothing happens, an entry has a turn, a write takes a number, a read is cached
pub record HasForms (client : Client) (P : Step → Type 0) : Type 0 where
  pub refused : (refusal : Refusal) → P (refused_step client refusal)
  pub quiet : P (quiet_step client)
  pub turned : (file : ℕ) (turn : Turn) → P (turned client file turn)
  pub wrote : (file : ℕ) (entry : Entry) (answer : Answer) (requests : List Request) (write : Pending)
      → P (wrote_step client file entry answer requests write)
  pub cached : (file : ℕ) (bytes : List ℕ) → P (cached_read client file bytes)

commands_formed : (client : Client) (P : Step → Type 0) → HasForms client P → HasCommands client P
commands_formed client P h = record {
  refused = h.refused;
  opening = λ file terms is on. h.turned file _;
  added = λ file live is. h.turned file _;
  asked = λ file live terms is idle some. h.turned file _;
  anew = λ file live terms is idle none. h.turned file _;
  fewer = λ file live is more. h.turned file _;
  parked = λ file live is idle done stays. h.turned file _;
  closed = λ file live is idle done goes. h.turned file _;
  cached = λ file live base is reads has. h.cached file _;
  read = λ file live is idle. h.turned file _;
  buffered = λ file live patch is fits caches. h.wrote file _ _ _ _;
  written = λ file live patch is fits sends. h.wrote file _ _ _ _;
  flushed = λ file live is. h.turned file _;
}

takes_formed : (client : Client) (P : Step → Type 0) → HasForms client P → HasTakes client (λ reply step. P step)
takes_formed client P h = grind arith

pub commanded-formed : (client : Client) (P : Step → Type 0) → HasForms client P → (command : Command)
    → P (commanded client command)
commanded-formed client P h = any_command client P (commands_formed client P h)

pub taken-formed : (client : Client) (P : Step → Type 0) → HasForms client P → (reply : Reply) → P (taken client reply)
taken-formed client P h = any_reply client (λ reply step. P step) (takes_formed client P h)

-- ---- what a step leaves alone

-- a client stays the same one: its ClientGuid, its files, and whether it is online
pub record StaysItself (client : Client) (step : Step) : Type 0 where
  pub guid : step.client.guid ≡ client.guid
  pub files : step.client.files ≡ client.files
  pub online : step.client.is_online ≡ client.is_online

turn_stays : (client : Client) (file : ℕ) (turn : Turn) → StaysItself client (turned client file turn)
turn_stays client file turn =
    by_turn (StaysItself client) client file turn (record { guid = refl; files = refl; online = refl })

forms_stay : (client : Client) → HasForms client (StaysItself client)
forms_stay client = record {
  refused = λ refusal. record { guid = refl; files = refl; online = refl };
  quiet = record { guid = refl; files = refl; online = refl };
  turned = turn_stays client;
  wrote = λ file entry answer requests write. record { guid = refl; files = refl; online = refl };
  cached = λ file bytes. record { guid = refl; files = refl; online = refl };
}

pub commanded-stays : (client : Client) (command : Command) → StaysItself client (commanded client command)
commanded-stays client command = commanded-formed client (StaysItself client) (forms_stay client) command

pub taken-stays : (client : Client) (reply : Reply) → StaysItself client (taken client reply)
taken-stays client reply = taken-formed client (StaysItself client) (forms_stay client) reply
