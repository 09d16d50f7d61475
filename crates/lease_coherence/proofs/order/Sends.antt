-- What clients send stands in order, and stays so in other worlds.
use Rattle.lease_laws.proofs.Words.{◌++◌, ◌∷◌, ◌≡◌, Among, Client, FileRequest, Held, List, LiveEntry, Pending, Phase, Request}
use Rattle.lease_laws.proofs.Words.{Step, Turn, World, ℕ, [], ⊎_elim, ⊤, acknowledgment, ap, flushed, meet, refl, subst, sym}
use Rattle.lease_laws.proofs.Words.{turned, write_requests}
use Rattle.lease_laws.proofs.client.cases.Commands.{HasCommands}
use Rattle.lease_laws.proofs.client.cases.Replies.{HasTakes}
use Rattle.lease_laws.proofs.client.cases.Turns.{by_turn}
use Rattle.lease_laws.proofs.server.Lists.{if_cases}
use Rattle.lease_coherence.specs.Agreement.{as_requests}
use Rattle.lease_coherence.specs.Creates.{held_by}
use Rattle.lease_coherence.specs.Names.{Each}
use Rattle.lease_coherence.specs.Standing.{Stands}
use Rattle.lease_coherence.proofs.moves.Deeds.{IsSource, with_held}
use Rattle.lease_coherence.proofs.moves.Moves.{popped}
use Rattle.lease_coherence.proofs.moves.Shift.{append_none}
use Rattle.lease_coherence.proofs.names.NamedInRecord.{each_weaker}
use Rattle.lease_coherence.proofs.order.OrderedRequests.{AreOrdered, IsInOrder, WriteStands, off_ordered}
use Rattle.lease_coherence.proofs.records.Later.{IsLater, later_same}
use Rattle.lease_coherence.proofs.standing.Servers.{stands_by}
use Rattle.lease_coherence.proofs.standing.StandingOpens.{asked_off, asked_weaker}

-- ---- what clients send

-- a write under the FileId of a live entry
pub record IsUnderLive (client : Client) (file_id : ℕ) : Type 0 where
  pub file : ℕ
  pub live : LiveEntry
  pub is : (client.entries file).phase ≡ Phase.Live live
  pub id : live.file_id ≡ file_id

abbrev pub UnderLive : Client → Request → Type 0
UnderLive client (Request.OnFile (FileRequest.Write file_id number patch)) = IsUnderLive client file_id
UnderLive client request = ⊤

pub record SendsInOrder (client : Client) (step : Step) : Type 0 where
  pub ordered : AreOrdered step.requests
  pub under : Each (UnderLive client) step.requests

pub writes_ordered : (file_id : ℕ) (writes : List Pending) (more : List Request) → AreOrdered more
    → AreOrdered (write_requests file_id writes ++ more)
writes_ordered file_id [] more o = o
writes_ordered file_id (write ∷ writes) more o = (tt, writes_ordered file_id writes more o)

pub writes_under : (client : Client) (file : ℕ) (live : LiveEntry) → (client.entries file).phase ≡ Phase.Live live
    → (writes : List Pending) (more : List Request) → Each (UnderLive client) more
    → Each (UnderLive client) (write_requests live.file_id writes ++ more)
writes_under client file live is [] more each = each
writes_under client file live is (write ∷ writes) more each =
    (record { file = file; live = live; is = is; id = refl }, writes_under client file live is writes more each)

-- what is sent, whatever else a step does
pub sends : (client : Client) (step : Step) (requests : List Request) → step.requests ≡ requests → AreOrdered requests
    → Each (UnderLive client) requests → SendsInOrder client step
sends client step requests e o u =
    record { ordered = subst AreOrdered (sym e) o; under = subst (Each (UnderLive client)) (sym e) u }

turn_sends : (client : Client) (file : ℕ) (turn : Turn) → AreOrdered turn.requests → Each (UnderLive client) turn.requests
    → SendsInOrder client (turned client file turn)
turn_sends client file turn o u = by_turn (SendsInOrder client) client file turn (record { ordered = o; under = u })

pub commands_send : (client : Client) → HasCommands client (SendsInOrder client)
commands_send client = record {
  refused = λ refusal. record { ordered = tt; under = tt };
  opening = λ file terms is on. turn_sends client file _ (tt, tt) (tt, tt);
  added = λ file live is. turn_sends client file _ tt tt;
  asked = λ file live terms is idle some. turn_sends client file _ (tt, tt) (tt, tt);
  anew = λ file live terms is idle none. turn_sends client file _
      (writes_ordered live.file_id live.unsent _ ((tt, tt), (tt, tt)))
      (writes_under client file live is.is_so live.unsent _ (tt, (tt, tt)));
  fewer = λ file live is more. turn_sends client file _ tt tt;
  parked = λ file live is idle done stays. turn_sends client file _ tt tt;
  closed = λ file live is idle done goes. turn_sends client file _
      (writes_ordered live.file_id live.unsent _ (tt, tt))
      (writes_under client file live is.is_so live.unsent _ (tt, tt));
  cached = λ file live base is reads has. record { ordered = tt; under = tt };
  read = λ file live is idle. turn_sends client file _ (tt, tt) (tt, tt);
  buffered = λ file live patch is fits caches. record { ordered = tt; under = tt };
  written = λ file live patch is fits now. record {
    ordered = (tt, tt);
    under = (record { file = file; live = live; is = is.is_so; id = refl }, tt);
  };
  flushed = λ file live is. turn_sends client file _
      (subst AreOrdered (append_none (write_requests live.file_id live.unsent)) (writes_ordered live.file_id live.unsent [] tt))
      (subst (Each (UnderLive client)) (append_none (write_requests live.file_id live.unsent))
      (writes_under client file live is.is_so live.unsent [] tt));
}

pub takes_send : (client : Client) → HasTakes client (λ reply step. SendsInOrder client step)
takes_send client = record {
  passed = λ reply why. record { ordered = tt; under = tt };
  parked_closes = λ file notice live at is parked. turn_sends client file _
      (writes_ordered live.file_id live.unsent _ (tt, tt))
      (writes_under client file live is live.unsent _ (tt, tt));
  lowered = λ file notice live at is stays. let new = meet live.belief notice.lowered in turn_sends client file _
      (writes_ordered live.file_id (flushed live.belief new live.unsent) (acknowledgment notice new)
      (if_cases AreOrdered notice.ack_required _ [] (λ asks. (tt, tt)) (λ plain. tt)))
      (writes_under client file live is (flushed live.belief new live.unsent) (acknowledgment notice new)
      (if_cases (Each (UnderLive client)) notice.ack_required _ [] (λ asks. (tt, tt)) (λ plain. tt)));
  opened = λ file file_id answer access share is. turn_sends client file _ tt tt;
  reconnected = λ file file_id answer parted is. turn_sends client file _ tt tt;
  promoted = λ file file_id answer live asked is asks. turn_sends client file _ (tt, tt) (tt, tt);
  not_opened = λ file status access share is. turn_sends client file _ tt tt;
  not_reconnected = λ file status parted is. turn_sends client file _ tt tt;
  not_promoted = λ file status live asked is asks. turn_sends client file _ tt tt;
  read = λ file file_id bytes live is id some. turn_sends client file _ tt tt;
  read_closed = λ file file_id status live is id gone. turn_sends client file _ tt tt;
  not_read = λ file file_id status live is id some. turn_sends client file _ tt tt;
  written = λ file file_id number at known. turn_sends client file _ tt tt;
  write_closed = λ file file_id number status live at known is id gone. turn_sends client file _ tt tt;
  not_written = λ file file_id number status at known. turn_sends client file _ tt tt;
}

-- ---- in another world

pub stands_later : (world new : World) (c : ℕ) → IsLater world.past new.past
    → ((file id : ℕ) → Stands world c file id → Stands new c file id) → (request : Request)
    → WriteStands world c request → WriteStands new c request
stands_later world new c later stays (Request.OnFile (FileRequest.Write file_id number patch)) s = record {
  file = s.file;
  opened = later.opened file_id s.file c s.opened;
  stands = stays s.file file_id s.stands;
}
stands_later world new c later stays (Request.OnFile (FileRequest.Create file access share contexts)) s = tt
stands_later world new c later stays (Request.Acknowledge given) s = tt
stands_later world new c later stays (Request.OnFile request) s = tt

-- with the same requests
pub same_order : (world new : World) (c : ℕ) → new.requests c ≡ world.requests c → new.server.held ≡ world.server.held
    → IsLater world.past new.past → ((file id : ℕ) → Stands world c file id → Stands new c file id)
    → IsInOrder world c → IsInOrder new c
same_order world new c requests held later stays o = record {
  ordered = λ file. subst (λ q. AreOrdered (as_requests (held_by c (new.server.held file)) ++ q)) (sym requests)
      (subst (λ (h : ℕ → List Held). AreOrdered (as_requests (held_by c (h file)) ++ world.requests c)) (sym held)
      (o.ordered file));
  stands = record {
    queued = subst (Each (WriteStands new c)) (sym requests)
        (each_weaker (WriteStands world c) (WriteStands new c) (world.requests c) (stands_later world new c later stays)
        o.stands.queued);
    held = λ file one a own. stands_later world new c later stays (Request.OnFile one.request)
        (o.stands.held file one (subst (λ (h : ℕ → List Held). Among one (h file)) held a) own);
  };
}

-- the part from which a request was taken off
pub off_past : (world off : World) (c : ℕ) (request : FileRequest) → IsSource world off c request → off.past ≡ world.past
off_past world off c request source = ⊎_elim (λ a. ap (λ (o : World). o.past) a.is_off)
    (λ h. ap (λ (o : World). o.past) h.is_off) source.from

pub off_stands : (world off : World) (c : ℕ) (request : FileRequest) → IsSource world off c request → (file id : ℕ)
    → Stands world c file id → Stands off c file id
off_stands world off c request source file id s = ⊎_elim
    (λ a. subst (λ o. Stands o c file id) (sym a.is_off)
    (stands_by world (popped world c) c file id refl refl (λ one own up same x. x) s))
    (λ h. subst (λ o. Stands o c file id) (sym h.is_off)
    (stands_by world (with_held world h.file (h.before ++ h.behind)) c file id refl refl (λ one own up same x. x) s)) source.from

pub off_order : (world off : World) (c : ℕ) (request : FileRequest) → IsSource world off c request → IsInOrder world c
    → IsInOrder off c
off_order world off c request source o = record {
  ordered = λ file. off_ordered world off c file request source (o.ordered file);
  stands = asked_weaker (WriteStands world c) (WriteStands off c) off c
      (stands_later world off c (subst (IsLater world.past) (sym (off_past world off c request source))
      (later_same world.past)) (off_stands world off c request source))
      (asked_off (WriteStands world c) world off c request source o.stands).0;
}
