-- Entries of files that a client doesn't know stay closed.
use Rattle.lease_laws.proofs.Words.{◌≡◌, ◌≢◌, Client, ClientCall, Entry, List, Phase, Step, Turn, ℕ, ap}
use Rattle.std.proofs.Common.{arith}
use Rattle.lease_laws.proofs.Words.{client_called, connect_turn, false, is_key_of}
use Rattle.lease_laws.proofs.Words.{knows_file, new_client, notice_turn, put, refl, true, turned}
use Rattle.lease_laws.proofs.client.Beliefs.{by_place}
use Rattle.lease_laws.proofs.client.cases.Commands.{HasCommands, any_command}
use Rattle.lease_laws.proofs.client.cases.Files.{found_known}
use Rattle.lease_laws.proofs.client.cases.Replies.{HasTakes, any_reply}
use Rattle.lease_laws.proofs.server.Lists.{clash}
use Rattle.lease_laws.proofs.client.cases.Turns.{by_turn}

abbrev pub InFiles : Client → Type 0
InFiles client = (file : ℕ) → knows_file client file ≡ false → (client.entries file).phase ≡ Phase.Closed

-- a step keeps that
abbrev Keeps : Step → Type 0
Keeps step = InFiles step.client

-- a new entry of a file that is known
put_in : (client : Client) (file : ℕ) (entry : Entry) → InFiles client → knows_file client file ≡ true
    → (n : ℕ) → knows_file client n ≡ false → (put client.entries file entry n).phase ≡ Phase.Closed
put_in client file entry closed known = by_place (λ n e. knows_file client n ≡ false → e.phase ≡ Phase.Closed)
    client.entries file entry (λ unknown. clash (knows_file client file) known unknown) (λ n apart. closed n)

turned_in : (client : Client) (file : ℕ) (turn : Turn) → InFiles client → knows_file client file ≡ true
    → Keeps (turned client file turn)
turned_in client file turn closed known = by_turn Keeps client file turn (put_in client file turn.entry closed known)

commands_in : (client : Client) → InFiles client → HasCommands client Keeps
commands_in client c = record {
  refused = λ refusal. c;
  opening = λ file terms is on. turned_in client file _ c is.known;
  added = λ file live is. turned_in client file _ c is.known;
  asked = λ file live terms is idle some. turned_in client file _ c is.known;
  anew = λ file live terms is idle none. turned_in client file _ c is.known;
  fewer = λ file live is more. turned_in client file _ c is.known;
  parked = λ file live is idle done stays. turned_in client file _ c is.known;
  closed = λ file live is idle done goes. turned_in client file _ c is.known;
  cached = λ file live base is reads has. c;
  read = λ file live is idle. turned_in client file _ c is.known;
  buffered = λ file live patch is fits caches. put_in client file _ c is.known;
  written = λ file live patch is fits sends. put_in client file _ c is.known;
  flushed = λ file live is. turned_in client file _ c is.known;
}

-- an entry that isn't closed is of a file that is known
pub phase_known : (client : Client) (file : ℕ) (phase : Phase) → InFiles client
    → (client.entries file).phase ≡ phase → phase ≢ Phase.Closed → knows_file client file ≡ true
phase_known client file phase c e never = grind arith

takes_in : (client : Client) → InFiles client → HasTakes client (λ reply step. Keeps step)
takes_in client c = record {
  passed = λ reply why. c;
  parked_closes = λ file notice live at is parked. turned_in client file _ c
      (found_known client (is_key_of client notice.key) file at);
  lowered = λ file notice live at is stays. turned_in client file _ c (found_known client (is_key_of client notice.key) file at);
  opened = λ file file_id answer access share is. turned_in client file _ c
      (phase_known client file (Phase.Opening access share) c is (λ e. cc));
  reconnected = λ file file_id answer parted is. turned_in client file _ c
      (phase_known client file (Phase.Reconnecting parted) c is (λ e. cc));
  promoted = λ file file_id answer live asked is asks. turned_in client file _ c
      (phase_known client file (Phase.Live live) c is (λ e. cc));
  not_opened = λ file status access share is. turned_in client file _ c
      (phase_known client file (Phase.Opening access share) c is (λ e. cc));
  not_reconnected = λ file status parted is. turned_in client file _ c
      (phase_known client file (Phase.Reconnecting parted) c is (λ e. cc));
  not_promoted = λ file status live asked is asks. turned_in client file _ c
      (phase_known client file (Phase.Live live) c is (λ e. cc));
  read = λ file file_id bytes live is id some. turned_in client file _ c
      (phase_known client file (Phase.Live live) c is (λ e. cc));
  read_closed = λ file file_id status live is id gone. turned_in client file _ c
      (phase_known client file (Phase.Live live) c is (λ e. cc));
  not_read = λ file file_id status live is id some. turned_in client file _ c
      (phase_known client file (Phase.Live live) c is (λ e. cc));
  written = λ file file_id number at known. turned_in client file _ c known;
  write_closed = λ file file_id number status live at known is id gone. turned_in client file _ c known;
  not_written = λ file file_id number status at known. turned_in client file _ c known;
}

-- ---- the law

pub first_in_files : (guid : List ℕ) (files : ℕ) → InFiles (new_client guid files)
unfolding new_client
first_in_files guid files file unknown = refl

pub called_in_files : (client : Client) (call : ClientCall) → InFiles client → InFiles (client_called client call).client
called_in_files client (ClientCall.Commanded command) c = any_command client Keeps (commands_in client c) command
called_in_files client (ClientCall.Taken reply) c = any_reply client _ (takes_in client c) reply
called_in_files client ClientCall.Noticed c = λ file unknown.
    ap (λ p. (notice_turn (client.entries file).sent p).entry.phase) (c file unknown)
called_in_files client ClientCall.Connected c = λ file unknown.
    ap (λ p. (connect_turn client file (client.entries file).sent p).entry.phase) (c file unknown)
