-- Reads and writes are sent under the open of a live entry.
use Rattle.lease_laws.proofs.Words.{◌++◌, ◌∷◌, ◌≡◌, Client, FileRequest, List, LiveEntry, Pending, Phase, Request, Step, Turn}
use Rattle.lease_laws.proofs.Words.{ℕ, [], ⊤, acknowledgment, flushed, meet, refl, turned, write_requests}
use Rattle.lease_laws.proofs.client.cases.Commands.{HasCommands}
use Rattle.lease_laws.proofs.client.cases.Replies.{HasTakes}
use Rattle.lease_laws.proofs.client.cases.Turns.{by_turn}
use Rattle.lease_laws.proofs.server.Lists.{if_cases}
use Rattle.lease_coherence.specs.Names.{Each}
use Rattle.lease_coherence.proofs.order.Sends.{IsUnderLive}

abbrev pub UsesLive : Client → Request → Type 0
UsesLive client (Request.OnFile (FileRequest.Read file_id)) = IsUnderLive client file_id
UsesLive client (Request.OnFile (FileRequest.Write file_id number patch)) = IsUnderLive client file_id
UsesLive client request = ⊤

abbrev pub StepUses : Client → Step → Type 0
StepUses client step = Each (UsesLive client) step.requests

uses_writes : (client : Client) (file : ℕ) (live : LiveEntry) → (client.entries file).phase ≡ Phase.Live live
    → (writes : List Pending) (more : List Request) → Each (UsesLive client) more
    → Each (UsesLive client) (write_requests live.file_id writes ++ more)
uses_writes client file live is [] more each = each
uses_writes client file live is (write ∷ writes) more each =
    (record { file = file; live = live; is = is; id = refl }, uses_writes client file live is writes more each)

flushed_uses : (client : Client) (file : ℕ) (live : LiveEntry) → (client.entries file).phase ≡ Phase.Live live
    → (writes : List Pending) → Each (UsesLive client) (write_requests live.file_id writes)
flushed_uses client file live is [] = tt
flushed_uses client file live is (write ∷ writes) =
    (record { file = file; live = live; is = is; id = refl }, flushed_uses client file live is writes)

use_turn : (client : Client) (file : ℕ) (turn : Turn) → Each (UsesLive client) turn.requests
    → StepUses client (turned client file turn)
use_turn client file turn = by_turn (StepUses client) client file turn

pub commands_use : (client : Client) → HasCommands client (StepUses client)
commands_use client = record {
  refused = λ refusal. tt;
  opening = λ file terms is on. use_turn client file _ (tt, tt);
  added = λ file live is. use_turn client file _ tt;
  asked = λ file live terms is idle some. use_turn client file _ (tt, tt);
  anew = λ file live terms is idle none. use_turn client file _
      (uses_writes client file live is.is_so live.unsent _ (tt, (tt, tt)));
  fewer = λ file live is more. use_turn client file _ tt;
  parked = λ file live is idle done stays. use_turn client file _ tt;
  closed = λ file live is idle done goes. use_turn client file _ (uses_writes client file live is.is_so live.unsent _ (tt, tt));
  cached = λ file live base is reads has. tt;
  read = λ file live is idle. use_turn client file _ (record { file = file; live = live; is = is.is_so; id = refl }, tt);
  buffered = λ file live patch is fits caches. tt;
  written = λ file live patch is fits now. (record { file = file; live = live; is = is.is_so; id = refl }, tt);
  flushed = λ file live is. use_turn client file _ (flushed_uses client file live is.is_so live.unsent);
}

pub takes_use : (client : Client) → HasTakes client (λ reply step. StepUses client step)
takes_use client = record {
  passed = λ reply why. tt;
  parked_closes = λ file notice live at is parked. use_turn client file _
      (uses_writes client file live is live.unsent _ (tt, tt));
  lowered = λ file notice live at is stays. use_turn client file _ (let new = meet live.belief notice.lowered in
      uses_writes client file live is (flushed live.belief new live.unsent) (acknowledgment notice new)
      (if_cases (Each (UsesLive client)) notice.ack_required _ [] (λ asks. (tt, tt)) (λ plain. tt)));
  opened = λ file file_id answer access share is. use_turn client file _ tt;
  reconnected = λ file file_id answer parted is. use_turn client file _ tt;
  promoted = λ file file_id answer live asked is asks. use_turn client file _ (tt, tt);
  not_opened = λ file status access share is. use_turn client file _ tt;
  not_reconnected = λ file status parted is. use_turn client file _ tt;
  not_promoted = λ file status live asked is asks. use_turn client file _ tt;
  read = λ file file_id bytes live is id some. use_turn client file _ tt;
  read_closed = λ file file_id status live is id gone. use_turn client file _ tt;
  not_read = λ file file_id status live is id some. use_turn client file _ tt;
  written = λ file file_id number at known. use_turn client file _ tt;
  write_closed = λ file file_id number status live at known is id gone. use_turn client file _ tt;
  not_written = λ file file_id number status at known. use_turn client file _ tt;
}
