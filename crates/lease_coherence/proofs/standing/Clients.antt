-- A client closes only what it gives up with the same step, and asks as its entries say.
use Rattle.lease_laws.proofs.Words.{◌++◌, ◌+◌, ◌∙◌, ◌∷◌, ◌≡◌, ◌≢◌, ◌⊎◌, Asked, BreakNotice, Entry, FileRequest, List, LiveEntry}
use Rattle.lease_laws.proofs.Words.{None, Option, Pending, Phase, Reply, Request, Some, State, Step, Turn, World, ℕ, [], ⊤}
use Rattle.lease_laws.proofs.Words.{acknowledgment, ap, belief_lowered, create_request, first_belief, flushed, if◌then◌else◌}
use Rattle.lease_laws.proofs.Words.{inl, inr, is_some, joint_terms, lease_key, opened_turn, phase_with, promoted_belief}
use Rattle.lease_laws.proofs.Words.{promoted_turn, put, reconnected_turn, refl, subst, sym, true, turned, unflushed}
use Rattle.lease_laws.proofs.Words.{without_open, write_requests}
use Rattle.lease_laws.proofs.client.cases.Commands.{HasCommands, sent_of}
use Rattle.lease_laws.proofs.client.cases.Replies.{HasTakes}
use Rattle.lease_laws.proofs.client.cases.Turns.{by_turn}
use Rattle.lease_laws.proofs.server.Lists.{if_cases}
use Rattle.lease_coherence.specs.Creates.{has_asked}
use Rattle.lease_coherence.specs.Names.{Each}
use Rattle.lease_coherence.specs.Standing.{AllAsked, FitsPhase, GivenWell, IsNoClose, NotClosed, PhaseStands, Stands, again_of}
use Rattle.lease_coherence.proofs.names.NamedInRecord.{each_append, each_weaker}

-- an entry isn't under this FileId
abbrev pub IsNotUnder : ℕ → Phase → Type 0
IsNotUnder file_id (Phase.Live live) = live.file_id ≢ file_id
IsNotUnder file_id (Phase.Reconnecting parted) = parted.file_id ≢ file_id
IsNotUnder file_id phase = ⊤

-- grants of the file that are left on their way fit
abbrev pub FitsGiven : ℕ → Phase → Reply → Type 0
FitsGiven file phase (Reply.Created other file_id contexts) = other ≡ file → FitsPhase phase file_id
FitsGiven file phase reply = ⊤

-- none of them is of this FileId
abbrev pub IsNotGiven : ℕ → ℕ → Reply → Type 0
IsNotGiven file file_id (Reply.Created other given contexts) = other ≡ file → given ≢ file_id
IsNotGiven file file_id reply = ⊤

-- no create of the file is asked
abbrev pub IsNoCreate : ℕ → Request → Type 0
IsNoCreate file (Request.OnFile (FileRequest.Create other access share contexts)) = other ≢ file
IsNoCreate file request = ⊤

-- a create among the requests of a turn is of its file, and reconnects as its entry then does
abbrev pub TurnAsks : ℕ → Phase → Request → Type 0
TurnAsks file phase (Request.OnFile (FileRequest.Create other access share (Some ask))) =
    (other ≡ file) × (ask.reconnect ≡ again_of phase)
TurnAsks file phase request = ⊤

-- what is closed with a turn: nothing, or the open that the entry had
pub record ClosesOld (file : ℕ) (old : Phase) (new : Phase) (queue : List Reply) (requests : List Request) : Type 0 where
  pub live : LiveEntry
  pub was : old ≡ Phase.Live live
  pub only : (file_id : ℕ) → live.file_id ≢ file_id → Each (IsNoClose file_id) requests
  pub left : IsNotUnder live.file_id new
  pub not_given : Each (IsNotGiven file live.file_id) queue

-- one entry's part of a step, with these replies left on their way
pub record TurnStands (world : World) (client : ℕ) (file : ℕ) (old : Phase) (queue : List Reply) (new : Phase)
    (requests : List Request) : Type 0 where
  pub phase : PhaseStands world client file new
  pub given : Each (FitsGiven file new) queue
  pub again : (again_of new ≡ again_of old) ⊎ AllAsked (IsNoCreate file) world client
  pub asks : Each (TurnAsks file new) requests
  pub closes : ((file_id : ℕ) → Each (IsNoClose file_id) requests) ⊎ ClosesOld file old new queue requests

-- a step that leaves all entries, or that changes one
pub data StepStands (world : World) (client : ℕ) (queue : List Reply) (step : Step) : Type 0 where
  Idle : step.client ≡ world.clients client → step.requests ≡ [] → StepStands world client queue step
  Turns : (file : ℕ) (entry : Entry) → step.client.entries ≡ put (world.clients client).entries file entry
      → step.client.guid ≡ (world.clients client).guid
      → TurnStands world client file ((world.clients client).entries file).phase queue entry.phase step.requests
      → StepStands world client queue step

-- ---- requests

pub writes_close : (file_id id : ℕ) (writes : List Pending) → Each (IsNoClose id) (write_requests file_id writes)
writes_close file_id id [] = tt
writes_close file_id id (write ∷ writes) = (tt, writes_close file_id id writes)

writes_ask : (file : ℕ) (phase : Phase) (file_id : ℕ) (writes : List Pending)
    → Each (TurnAsks file phase) (write_requests file_id writes)
writes_ask file phase file_id [] = tt
writes_ask file phase file_id (write ∷ writes) = (tt, writes_ask file phase file_id writes)

-- what is known before the step, of one entry
pub record EntryStands (world : World) (client : ℕ) (file : ℕ) (phase : Phase) (queue : List Reply) : Type 0 where
  pub stands : PhaseStands world client file phase
  pub given : Each (FitsGiven file phase) queue

-- the same FileId, and no create
same_turn : (world : World) (c file : ℕ) (queue : List Reply) (live : LiveEntry) (new : LiveEntry)
    (requests : List Request) → new.file_id ≡ live.file_id → EntryStands world c file (Phase.Live live) queue
    → Each (TurnAsks file (Phase.Live new)) requests → ((id : ℕ) → Each (IsNoClose id) requests)
    → TurnStands world c file (Phase.Live live) queue (Phase.Live new) requests
same_turn world c file queue live new requests same s asks closes = record {
  phase = subst (λ id. Stands world c file id × NotClosed world c id) (sym same) s.stands;
  given = each_weaker (FitsGiven file (Phase.Live live)) (FitsGiven file (Phase.Live new)) queue
      (λ reply f. fits reply f) s.given;
  again = inl refl;
  asks = asks;
  closes = inl closes;
}
  where
    fits : (reply : Reply) → FitsGiven file (Phase.Live live) reply → FitsGiven file (Phase.Live new) reply
    fits (Reply.Created other id contexts) f = λ e g. f e (g ∙ same)
    fits reply f = tt

-- replies fit an entry that has no FileId
pub free_given : (file : ℕ) (phase : Phase) → ((id : ℕ) → FitsPhase phase id) → (queue : List Reply)
    → Each (FitsGiven file phase) queue
free_given file phase free [] = tt
free_given file phase free (Reply.Created other id contexts ∷ queue) = (λ e. free id, free_given file phase free queue)
free_given file phase free (reply ∷ queue) = (tt, free_given file phase free queue)

-- grants that fit a live entry are of other opens
others_given : (file : ℕ) (live : LiveEntry) (queue : List Reply) → Each (FitsGiven file (Phase.Live live)) queue
    → Each (IsNotGiven file live.file_id) queue
others_given file live queue each = each_weaker (FitsGiven file (Phase.Live live)) (IsNotGiven file live.file_id) queue
    not_given each
  where
    not_given : (reply : Reply) → FitsGiven file (Phase.Live live) reply → IsNotGiven file live.file_id reply
    not_given (Reply.Created other id contexts) f = f
    not_given reply f = tt

-- an entry that gives its open up
leave_turn : (world : World) (c file : ℕ) (queue : List Reply) (live : LiveEntry) (new : Phase) (more : List Request)
    → EntryStands world c file (Phase.Live live) queue → again_of new ≡ None → ((id : ℕ) → FitsPhase new id)
    → ((id : ℕ) → IsNotUnder id new) → PhaseStands world c file new → Each (TurnAsks file new) more
    → ((id : ℕ) → Each (IsNoClose id) more) → TurnStands world c file (Phase.Live live) queue new
    (write_requests live.file_id live.unsent ++ Request.OnFile (FileRequest.Close live.file_id) ∷ more)
leave_turn world c file queue live new more s plain free away stands asks closes = record {
  phase = stands;
  given = free_given file new free queue;
  again = inl plain;
  asks = each_append (TurnAsks file new) (write_requests live.file_id live.unsent) _
      (writes_ask file new live.file_id live.unsent) (tt, asks);
  closes = inr (record {
    live = live;
    was = refl;
    only = λ id ne. each_append (IsNoClose id) (write_requests live.file_id live.unsent) _
        (writes_close live.file_id id live.unsent) (ne, closes id);
    left = away live.file_id;
    not_given = others_given file live queue s.given;
  });
}

-- ---- commands

abbrev pub AllEntries : World → ℕ → List Reply → Type 0
AllEntries world client queue = (file : ℕ) → EntryStands world client file ((world.clients client).entries file).phase queue

-- a turn of one entry
turn_stands : (world : World) (c : ℕ) (queue : List Reply) (file : ℕ) (turn : Turn)
    → TurnStands world c file ((world.clients c).entries file).phase queue turn.entry.phase turn.requests
    → StepStands world c queue (turned (world.clients c) file turn)
turn_stands world c queue file turn stands = by_turn (StepStands world c queue) (world.clients c) file turn
    (StepStands.Turns file turn.entry refl refl stands)

pub commands_stand : (world : World) (c : ℕ) (queue : List Reply) → AllEntries world c queue
    → HasCommands (world.clients c) (StepStands world c queue)
commands_stand world c queue all = record {
  refused = λ refusal. StepStands.Idle refl refl;
  opening = λ file terms is on. turn_stands world c queue file _ (from file Phase.Closed is.is_so (record {
    phase = tt;
    given = free_given file (Phase.Opening terms.access terms.share) (λ id. tt) queue;
    again = inl refl;
    asks = ((refl, refl), tt);
    closes = inl (λ id. (tt, tt));
  }));
  added = λ file live is. turn_stands world c queue file _ (from file (Phase.Live live) is.is_so
      (same_turn world c file queue live _ [] refl (known file live is.is_so) tt (λ id. tt)));
  asked = λ file live terms is idle some. turn_stands world c queue file _ (from file (Phase.Live live) is.is_so
      (same_turn world c file queue live _ (create_request (world.clients c) file (joint_terms live terms) ∷ []) refl
      (known file live is.is_so) ((refl, refl), tt) (λ id. (tt, tt))));
  anew = λ file live terms is idle none. turn_stands world c queue file _ (from file (Phase.Live live) is.is_so
      (leave_turn world c file queue live (Phase.Opening terms.access terms.share)
      (create_request (world.clients c) file terms ∷ []) (known file live is.is_so) refl
      (λ id. tt) (λ id. tt) tt ((refl, refl), tt) (λ id. (tt, tt))));
  fewer = λ file live is more. turn_stands world c queue file _ (from file (Phase.Live live) is.is_so
      (same_turn world c file queue live _ [] refl (known file live is.is_so) tt (λ id. tt)));
  parked = λ file live is idle done stays. turn_stands world c queue file _ (from file (Phase.Live live) is.is_so
      (same_turn world c file queue live _ [] refl (known file live is.is_so) tt (λ id. tt)));
  closed = λ file live is idle done goes. turn_stands world c queue file _ (from file (Phase.Live live) is.is_so
      (leave_turn world c file queue live Phase.Closed [] (known file live is.is_so) refl (λ id. tt) (λ id. tt) tt tt
      (λ id. tt)));
  cached = λ file live base is reads has. StepStands.Idle refl refl;
  read = λ file live is idle. turn_stands world c queue file _ (from file (Phase.Live live) is.is_so
      (same_turn world c file queue live _ (Request.OnFile (FileRequest.Read live.file_id) ∷ []) refl
      (known file live is.is_so) (tt, tt) (λ id. (tt, tt))));
  buffered = λ file live patch is fits caches. StepStands.Turns file _ refl refl (from file (Phase.Live live) is.is_so
      (same_turn world c file queue live _ [] refl (known file live is.is_so) tt (λ id. tt)));
  written = λ file live patch is fits sends. StepStands.Turns file _ refl refl (from file (Phase.Live live) is.is_so
      (same_turn world c file queue live live
      (Request.OnFile (FileRequest.Write live.file_id ((world.clients c).last_number + 1) patch) ∷ []) refl
      (known file live is.is_so) (tt, tt) (λ id. (tt, tt))));
  flushed = λ file live is. turn_stands world c queue file _ (from file (Phase.Live live) is.is_so
      (same_turn world c file queue live _ (write_requests live.file_id live.unsent) refl (known file live is.is_so)
      (writes_ask file (Phase.Live (record live { unsent = [] })) live.file_id live.unsent)
      (λ id. writes_close live.file_id id live.unsent)));
}
  where
    from : (file : ℕ) (old : Phase) {new : Phase} {requests : List Request}
        → ((world.clients c).entries file).phase ≡ old → TurnStands world c file old queue new requests
        → TurnStands world c file ((world.clients c).entries file).phase queue new requests
    from file old {new} {requests} is t = subst (λ p. TurnStands world c file p queue new requests) (sym is) t

    known : (file : ℕ) (live : LiveEntry) → ((world.clients c).entries file).phase ≡ Phase.Live live
        → EntryStands world c file (Phase.Live live) queue
    known file live is = subst (λ p. EntryStands world c file p queue) is (all file)

-- ---- replies

-- no answer of a create of the file is left on its way
abbrev pub IsNoAnswer : ℕ → Reply → Type 0
IsNoAnswer file (Reply.Created other file_id contexts) = other ≢ file
IsNoAnswer file reply = ⊤

-- what is known where an answer to a create is taken
pub record IsLastCreate (world : World) (client : ℕ) (file : ℕ) (queue : List Reply) : Type 0 where
  pub asked : AllAsked (IsNoCreate file) world client
  pub answers : Each (IsNoAnswer file) queue

unanswered : (file : ℕ) (phase : Phase) (queue : List Reply) → Each (IsNoAnswer file) queue → Each (FitsGiven file phase) queue
unanswered file phase queue each = each_weaker (IsNoAnswer file) (FitsGiven file phase) queue never each
  where
    never : (reply : Reply) → IsNoAnswer file reply → FitsGiven file phase reply
    never (Reply.Created other id contexts) n = λ e. absurd (n e)
    never reply n = tt

-- where a create is answered, no other is under way
abbrev pub AnswersLast : World → ℕ → List Reply → Reply → Type 0
AnswersLast world client queue (Reply.Created file file_id contexts) =
    has_asked ((world.clients client).entries file).phase ≡ true → IsLastCreate world client file queue
AnswersLast world client queue (Reply.CreateFailed file status) =
    has_asked ((world.clients client).entries file).phase ≡ true → IsLastCreate world client file queue
AnswersLast world client queue reply = ⊤

abbrev pub TakeStands : World → ℕ → List Reply → Reply → Step → Type 0
TakeStands world client queue reply step =
    GivenWell world client reply → AnswersLast world client queue reply → StepStands world client queue step

ack_asks : (file : ℕ) (phase : Phase) (notice : BreakNotice) (state : State)
    → Each (TurnAsks file phase) (acknowledgment notice state)
ack_asks file phase notice state = if_cases (Each (TurnAsks file phase)) notice.ack_required _ [] (λ e. (tt, tt)) (λ e. tt)

ack_closes : (id : ℕ) (notice : BreakNotice) (state : State) → Each (IsNoClose id) (acknowledgment notice state)
ack_closes id notice state = if_cases (Each (IsNoClose id)) notice.ack_required _ [] (λ e. (tt, tt)) (λ e. tt)

lowered_stands : (world : World) (c : ℕ) (queue : List Reply) (file : ℕ) (live : LiveEntry) (sent : List Pending)
    (notice : BreakNotice) (new : State) → EntryStands world c file (Phase.Live live) queue
    → TurnStands world c file (Phase.Live live) queue (belief_lowered live sent notice new).entry.phase
    (belief_lowered live sent notice new).requests
lowered_stands world c queue file live sent notice new s =
    let next : LiveEntry = record live {
      belief = new;
      base = if new.read then live.base else None;
      unsent = unflushed live.belief new live.unsent;
    } in
    same_turn world c file queue live next
    (write_requests live.file_id (flushed live.belief new live.unsent) ++ acknowledgment notice new) refl s
    (each_append (TurnAsks file (Phase.Live next)) (write_requests live.file_id (flushed live.belief new live.unsent))
    (acknowledgment notice new) (writes_ask file (Phase.Live next) live.file_id (flushed live.belief new live.unsent))
    (ack_asks file (Phase.Live next) notice new))
    (λ id. each_append (IsNoClose id) (write_requests live.file_id (flushed live.belief new live.unsent))
    (acknowledgment notice new) (writes_close live.file_id id (flushed live.belief new live.unsent)) (ack_closes id notice new))

-- an entry whose open is gone
gone_turn : (world : World) (c : ℕ) (queue : List Reply) (file : ℕ) (live : LiveEntry) (sent : List Pending)
    (asking : Option Asked) → TurnStands world c file (Phase.Live live) queue (without_open asking sent).phase []
gone_turn world c queue file live sent None = record {
  phase = tt;
  given = free_given file Phase.Closed (λ id. tt) queue;
  again = inl refl;
  asks = tt;
  closes = inl (λ id. tt);
}
gone_turn world c queue file live sent (Some asked) = record {
  phase = tt;
  given = free_given file (Phase.Opening asked.access asked.share) (λ id. tt) queue;
  again = inl refl;
  asks = tt;
  closes = inl (λ id. tt);
}

-- an entry that stays what it is, and sends nothing
still_turn : (world : World) (c : ℕ) (queue : List Reply) (file : ℕ) (phase : Phase)
    → EntryStands world c file phase queue → TurnStands world c file phase queue phase []
still_turn world c queue file phase s =
    record { phase = s.stands; given = s.given; again = inl refl; asks = tt; closes = inl (λ id. tt) }

with_turn : (world : World) (c : ℕ) (queue : List Reply) (file : ℕ) (write : Option Pending) (phase : Phase)
    → EntryStands world c file phase queue → TurnStands world c file phase queue (phase_with write phase) []
with_turn world c queue file write (Phase.Live live) s = same_turn world c file queue live _ [] refl s tt (λ id. tt)
with_turn world c queue file write phase s = still_turn world c queue file phase s

pub takes_stand : (world : World) (c : ℕ) (queue : List Reply) → AllEntries world c queue
    → HasTakes (world.clients c) (TakeStands world c queue)
takes_stand world c queue all = record {
  passed = λ reply why given last. StepStands.Idle refl refl;
  parked_closes = λ file notice live at is parked given last. turn_stands world c queue file _
      (from file (Phase.Live live) is (leave_turn world c file queue live Phase.Closed [] (known file live is) refl
      (λ id. tt) (λ id. tt) tt tt (λ id. tt)));
  lowered = λ file notice live at is stays given last. turn_stands world c queue file _ (from file (Phase.Live live) is
      (lowered_stands world c queue file live (sent_of (world.clients c) file) notice _ (known file live is)));
  opened = λ file file_id answer access share is given last. turn_stands world c queue file _
      (from file (Phase.Opening access share) is (record {
        phase = (given.stands, given.not_closed);
        given = unanswered file (opened_turn file_id access share (sent_of (world.clients c) file) answer
            (first_belief (world.clients c) file answer)).entry.phase queue (last (ap has_asked is)).answers;
        again = inl refl;
        asks = tt;
        closes = inl (λ id. tt);
      }));
  reconnected = λ file file_id answer parted is given last.
      let same : file_id ≡ parted.file_id = subst (λ p. FitsPhase p file_id) is given.fits in
      turn_stands world c queue file _ (from file (Phase.Reconnecting parted) is (record {
        phase = (subst (Stands world c file) same given.stands, subst (NotClosed world c) same given.not_closed);
        given = unanswered file (reconnected_turn parted (sent_of (world.clients c) file)
            (first_belief (world.clients c) file answer)).entry.phase queue (last (ap has_asked is)).answers;
        again = inr (last (ap has_asked is)).asked;
        asks = tt;
        closes = inl (λ id. tt);
      }));
  promoted = λ file file_id answer live asked is asks given last.
      let other : file_id ≢ live.file_id = subst (λ p. FitsPhase p file_id) is given.fits in
      turn_stands world c queue file _ (from file (Phase.Live live) is (record {
        phase = (given.stands, given.not_closed);
        given = unanswered file (promoted_turn live (sent_of (world.clients c) file) asked file_id answer.durable
            (promoted_belief (lease_key (world.clients c).guid file) live.belief answer.lease)).entry.phase queue
            (last (ap has_asked is ∙ ap is_some asks)).answers;
        again = inl refl;
        asks = (tt, tt);
        closes = inr (record {
          live = live;
          was = refl;
          only = λ id ne. (ne, tt);
          left = other;
          not_given = others_given file live queue (known file live is).given;
        });
      }));
  not_opened = λ file status access share is given last. turn_stands world c queue file _
      (from file (Phase.Opening access share) is (record {
        phase = tt;
        given = free_given file Phase.Closed (λ id. tt) queue;
        again = inl refl;
        asks = tt;
        closes = inl (λ id. tt);
      }));
  not_reconnected = λ file status parted is given last. turn_stands world c queue file _
      (from file (Phase.Reconnecting parted) is (record {
        phase = tt;
        given = free_given file Phase.Closed (λ id. tt) queue;
        again = inr (last (ap has_asked is)).asked;
        asks = tt;
        closes = inl (λ id. tt);
      }));
  not_promoted = λ file status live asked is asks given last. turn_stands world c queue file _
      (from file (Phase.Live live) is (same_turn world c file queue live _ [] refl (known file live is) tt (λ id. tt)));
  read = λ file file_id bytes live is id some given last. turn_stands world c queue file _
      (from file (Phase.Live live) is (same_turn world c file queue live _ [] refl (known file live is) tt (λ i. tt)));
  read_closed = λ file file_id status live is id gone given last. turn_stands world c queue file _
      (from file (Phase.Live live) is (gone_turn world c queue file live _ live.asking));
  not_read = λ file file_id status live is id some given last. turn_stands world c queue file _
      (from file (Phase.Live live) is (same_turn world c file queue live _ [] refl (known file live is) tt (λ i. tt)));
  written = λ file file_id number at known given last. turn_stands world c queue file _
      (with_turn world c queue file _ ((world.clients c).entries file).phase (all file));
  write_closed = λ file file_id number status live at known is id gone given last. turn_stands world c queue file _
      (from file (Phase.Live live) is (gone_turn world c queue file live _ live.asking));
  not_written = λ file file_id number status at known given last. turn_stands world c queue file _
      (still_turn world c queue file ((world.clients c).entries file).phase (all file));
}
  where
    from : (file : ℕ) (old : Phase) {new : Phase} {requests : List Request}
        → ((world.clients c).entries file).phase ≡ old → TurnStands world c file old queue new requests
        → TurnStands world c file ((world.clients c).entries file).phase queue new requests
    from file old {new} {requests} is t = subst (λ p. TurnStands world c file p queue new requests) (sym is) t

    known : (file : ℕ) (live : LiveEntry) → ((world.clients c).entries file).phase ≡ Phase.Live live
        → EntryStands world c file (Phase.Live live) queue
    known file live is = subst (λ p. EntryStands world c file p queue) is (all file)
