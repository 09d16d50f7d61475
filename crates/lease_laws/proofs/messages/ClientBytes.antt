-- Every request of a client machine has bytes.
use Rattle.lease_laws.proofs.Words.{◌++◌, ◌∙◌, ◌∷◌, ◌≡◌, Asked, Bool, BreakNotice, CallHasFileId, Client, ClientCall}
use Rattle.lease_laws.proofs.Words.{EachRequest, Entry, FileRequest, HasFileId, HasRequestBytes, IsWriting, List, OpenTerms}
use Rattle.lease_laws.proofs.Words.{Option, Pending, Phase, Request, State, Step, Turn, ℕ, [], acknowledgment, all_turned}
use Rattle.lease_laws.proofs.Words.{ap, arith, bytes_eq-Decides, client_called}
use Rattle.lease_laws.proofs.Words.{connect_turn, create_request, false, flat_map, flushed}
use Rattle.lease_laws.proofs.Words.{is_key_of, joint_terms, lease_key, length, meet, notice_turn}
use Rattle.lease_laws.proofs.Words.{numbers_to, phase_with, put}
use Rattle.lease_laws.proofs.Words.{subst, sym, true, turned, without_open}
use Rattle.lease_laws.proofs.Words.{write_requests}
use Rattle.lease_laws.proofs.client.Words.{if_either, put_each}
use Rattle.lease_laws.proofs.client.cases.Commands.{HasCommands, any_command}
use Rattle.lease_laws.proofs.client.cases.Files.{found_so}
use Rattle.lease_laws.proofs.client.cases.Links.{HasNotices, any_notice}
use Rattle.lease_laws.proofs.client.cases.Replies.{HasTakes, any_reply}
use Rattle.lease_laws.proofs.client.cases.Turns.{by_turn}

-- ---- lists of requests

each_joined : (xs ys : List Request) → EachRequest HasRequestBytes xs → EachRequest HasRequestBytes ys
    → EachRequest HasRequestBytes (xs ++ ys)
each_joined [] ys h k = k
each_joined (x ∷ xs) ys h k = (h.0, each_joined xs ys h.1 k)

writes_have : (file_id : ℕ) (writes : List Pending) → EachRequest HasRequestBytes (write_requests file_id writes)
writes_have file_id [] = tt
writes_have file_id (write ∷ writes) = (tt, writes_have file_id writes)

-- ---- keys

-- the key of a file has 16 bytes
key_long : (guid : List ℕ) (file : ℕ) → length guid ≡ 16 → length (lease_key guid file) ≡ 16
unfolding lease_key
key_long guid file e = grind arith

-- ---- steps

record Writes (client : Client) (step : Step) : Type 0 where
  requests : EachRequest HasRequestBytes step.requests
  writing : IsWriting step.client

-- a new entry whose FileId fits
put_writes : (client : Client) (file : ℕ) (entry : Entry) → IsWriting client → HasFileId entry.phase
    → (n : ℕ) → HasFileId (put client.entries file entry n).phase
put_writes client file entry w fits = put_each (λ e. HasFileId e.phase) client.entries file entry fits w.file_ids

-- a turn whose requests have bytes, and whose entry's FileId fits
turned_writes : (client : Client) (file : ℕ) (turn : Turn) → IsWriting client
    → EachRequest HasRequestBytes turn.requests → HasFileId turn.entry.phase → Writes client (turned client file turn)
turned_writes client file turn w each fits = by_turn (Writes client) client file turn (record {
  requests = each;
  writing = record { guid = w.guid; file_ids = put_writes client file turn.entry w fits };
})

-- a create of the client has bytes
create_has : (client : Client) (file : ℕ) (terms : OpenTerms) → IsWriting client
    → HasRequestBytes (create_request client file terms)
create_has client file terms w = record { key = key_long client.guid file w.guid; file_id = tt }

-- so have unsent writes, and a Close
close_has : (file_id : ℕ) (writes : List Pending)
    → EachRequest HasRequestBytes (write_requests file_id writes ++ Request.OnFile (FileRequest.Close file_id) ∷ [])
close_has file_id writes = each_joined (write_requests file_id writes) (Request.OnFile (FileRequest.Close file_id) ∷ [])
    (writes_have file_id writes) (tt, tt)

-- the FileId of an entry fits
fits_as : (client : Client) → IsWriting client → (file : ℕ) (phase : Phase) → (client.entries file).phase ≡ phase
    → HasFileId phase
fits_as client w file phase is = subst HasFileId is (w.file_ids file)

-- ---- commands

commands_write : (client : Client) → IsWriting client → HasCommands client (Writes client)
commands_write client w = record {
  refused = λ refusal. record { requests = tt; writing = w };
  opening = λ file terms is on. turned_writes client file _ w (create_has client file terms w, tt) tt;
  added = λ file live is. turned_writes client file _ w tt (fits_as client w file (Phase.Live live) is.is_so);
  asked = λ file live terms is idle some. turned_writes client file _ w
      (create_has client file (joint_terms live terms) w, tt) (fits_as client w file (Phase.Live live) is.is_so);
  anew = λ file live terms is idle none. turned_writes client file _ w
      (each_joined (write_requests live.file_id live.unsent) _ (writes_have live.file_id live.unsent)
      (tt, (create_has client file terms w, tt))) tt;
  fewer = λ file live is more. turned_writes client file _ w tt (fits_as client w file (Phase.Live live) is.is_so);
  parked = λ file live is idle done stays. turned_writes client file _ w tt (fits_as client w file (Phase.Live live) is.is_so);
  closed = λ file live is idle done goes. turned_writes client file _ w (close_has live.file_id live.unsent) tt;
  cached = λ file live base is reads has. record { requests = tt; writing = w };
  read = λ file live is idle. turned_writes client file _ w (tt, tt) (fits_as client w file (Phase.Live live) is.is_so);
  buffered = λ file live patch is fits caches. record {
    requests = tt;
    writing = record {
      guid = w.guid;
      file_ids = put_writes client file _ w (fits_as client w file (Phase.Live live) is.is_so);
    };
  };
  written = λ file live patch is fits sends. record {
    requests = (tt, tt);
    writing = record {
      guid = w.guid;
      file_ids = put_writes client file _ w (fits_as client w file (Phase.Live live) is.is_so);
    };
  };
  flushed = λ file live is. turned_writes client file _ w (writes_have live.file_id live.unsent)
      (fits_as client w file (Phase.Live live) is.is_so);
}

-- ---- messages

-- a break is answered under the key that it names
acknowledgment_has : (notice : BreakNotice) (state : State) → length notice.key ≡ 16
    → EachRequest HasRequestBytes (acknowledgment notice state)
acknowledgment_has notice state long = if_either (EachRequest HasRequestBytes) notice.ack_required _ [] (long, tt) tt

gone_fits : (asking : Option Asked) (sent : List Pending) → HasFileId (without_open asking sent).phase
gone_fits asking sent = grind arith

-- a write that is done leaves the FileId
done_fits : (write : Option Pending) (phase : Phase) → HasFileId phase → HasFileId (phase_with write phase)
done_fits write phase fits = grind arith

takes_write : (client : Client) → IsWriting client
    → HasTakes client (λ reply step. CallHasFileId (ClientCall.Taken reply) → Writes client step)
takes_write client w = record {
  passed = λ reply why new. record { requests = tt; writing = w };
  parked_closes = λ file notice live at is parked new. turned_writes client file _ w (close_has live.file_id live.unsent) tt;
  lowered = λ file notice live at is stays new. let belief = meet live.belief notice.lowered in
      turned_writes client file _ w
      (each_joined (write_requests live.file_id (flushed live.belief belief live.unsent)) (acknowledgment notice belief)
      (writes_have live.file_id (flushed live.belief belief live.unsent))
      (acknowledgment_has notice belief (own_key file notice (found_so client (is_key_of client notice.key) file at))))
      (fits_as client w file (Phase.Live live) is);
  opened = λ file file_id answer access share is new. turned_writes client file _ w tt new;
  reconnected = λ file file_id answer parted is new. turned_writes client file _ w tt
      (fits_as client w file (Phase.Reconnecting parted) is);
  promoted = λ file file_id answer live asked is asks new. turned_writes client file _ w (tt, tt) new;
  not_opened = λ file status access share is new. turned_writes client file _ w tt tt;
  not_reconnected = λ file status parted is new. turned_writes client file _ w tt tt;
  not_promoted = λ file status live asked is asks new. turned_writes client file _ w tt
      (fits_as client w file (Phase.Live live) is);
  read = λ file file_id bytes live is id some new. turned_writes client file _ w tt (fits_as client w file (Phase.Live live) is);
  read_closed = λ file file_id status live is id gone new. turned_writes client file _ w tt (gone_fits live.asking _);
  not_read = λ file file_id status live is id some new. turned_writes client file _ w tt
      (fits_as client w file (Phase.Live live) is);
  written = λ file file_id number at known new. turned_writes client file _ w tt
      (done_fits _ (client.entries file).phase (w.file_ids file));
  write_closed = λ file file_id number status live at known is id gone new. turned_writes client file _ w tt
      (gone_fits live.asking _);
  not_written = λ file file_id number status at known new. turned_writes client file _ w tt (w.file_ids file);
}
  where
    own_key : (file : ℕ) (notice : BreakNotice) → is_key_of client notice.key file ≡ true → length notice.key ≡ 16
    own_key file notice own = ap (λ k. length k) (sym ((bytes_eq-Decides (lease_key client.guid file) notice.key).0 own))
        ∙ key_long client.guid file w.guid

-- ---- connections

each_file : (requests : ℕ → List Request) (files : List ℕ)
    → ((file : ℕ) → EachRequest HasRequestBytes (requests file)) → EachRequest HasRequestBytes (flat_map requests files)
each_file requests [] each = tt
each_file requests (file ∷ files) each = each_joined (requests file) (flat_map requests files) (each file)
    (each_file requests files each)

all_writes : (client : Client) (online : Bool) (turn : ℕ → Entry → Turn) → IsWriting client
    → ((file : ℕ) → EachRequest HasRequestBytes (turn file (client.entries file)).requests)
    → ((file : ℕ) → HasFileId (turn file (client.entries file)).entry.phase) → Writes client (all_turned client online turn)
all_writes client online turn w each fits = record {
  requests = each_file (λ file. (turn file (client.entries file)).requests) (numbers_to client.files) each;
  writing = record { guid = w.guid; file_ids = fits };
}

notices_have : (sent : List Pending) → HasNotices sent (λ phase turn. HasFileId phase
    → EachRequest HasRequestBytes turn.requests × HasFileId turn.entry.phase)
notices_have sent = grind arith

connect_has : (client : Client) (file : ℕ) (sent : List Pending) (phase : Phase) → IsWriting client → HasFileId phase
    → EachRequest HasRequestBytes (connect_turn client file sent phase).requests
connect_has client file sent (Phase.Offline parted) w fits =
    (record { key = key_long client.guid file w.guid; file_id = fits }, tt)
connect_has client file sent phase w fits = tt

connect_fits : (client : Client) (file : ℕ) (sent : List Pending) (phase : Phase) → HasFileId phase
    → HasFileId (connect_turn client file sent phase).entry.phase
connect_fits client file sent phase fits = grind arith

-- ---- any call

called_writes : (client : Client) (call : ClientCall) → IsWriting client → CallHasFileId call
    → Writes client (client_called client call)
called_writes client (ClientCall.Commanded command) w fits = any_command client (Writes client) (commands_write client w) command
called_writes client (ClientCall.Taken reply) w fits = any_reply client _ (takes_write client w) reply fits
called_writes client ClientCall.Noticed w fits =
    let each : (file : ℕ) → _ = λ file. any_notice (client.entries file).sent _ (notices_have (client.entries file).sent)
    (client.entries file).phase (w.file_ids file) in
    all_writes client false (λ file entry. notice_turn entry.sent entry.phase) w (λ file. (each file).0)
    (λ file. (each file).1)
called_writes client ClientCall.Connected w fits = all_writes client true
    (λ file entry. connect_turn client file entry.sent entry.phase) w
    (λ file. connect_has client file (client.entries file).sent (client.entries file).phase w (w.file_ids file))
    (λ file. connect_fits client file (client.entries file).sent (client.entries file).phase (w.file_ids file))

pub requests_have_bytes : (client : Client) (call : ClientCall) → IsWriting client → CallHasFileId call
    → EachRequest HasRequestBytes (client_called client call).requests × IsWriting (client_called client call).client
requests_have_bytes client call w fits =
    let done = called_writes client call w fits in (done.requests, done.writing)
