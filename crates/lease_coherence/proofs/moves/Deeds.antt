-- What a step of the server does in a world: each of its forms, with what is known of it. Whatever holds after each
-- form holds after every step.
use Rattle.lease_laws.proofs.Words.{◌&&◌, ◌++◌, ◌+◌, ◌==◌, ◌∙◌, ◌∷◌, ◌≡◌, ◌⊎◌, Access, Bool, CreateAsk, Fact, FileRequest}
use Rattle.lease_laws.proofs.Words.{HasOpen, Held, IsAwaitedAt, IsFree, IsInTurn, Key, Lease, LeaseOf, List, MayChange}
use Rattle.lease_laws.proofs.Words.{MayCreate, MayEnd, MayHold, MayLower, MayRefuse, None, Ok, Open, Option, Outcome, Patch}
use Rattle.lease_laws.proofs.Words.{Reply, Request, Server, Share, SmallStep, Some, State, Status, World, ℕ, [], acknowledged}
use Rattle.lease_laws.proofs.Words.{all_delivered, begun, break_notice, concluded, connected_again, connected_open, false}
use Rattle.lease_laws.proofs.Words.{file_asked, granted_form_of, has_file, has_lease, held_of, inl, inr, is_behind}
use Rattle.lease_laws.proofs.Words.{is_left_open, is_state_within, key_of, lease_after, lease_given, lease_put, map, may_read}
use Rattle.lease_laws.proofs.Words.{needs_acknowledgment, new_open, own_key, put, refl, refusal_of, served, standing_lease}
use Rattle.lease_laws.proofs.Words.{subst, sym, true, with_lease, with_opens, without}
use Rattle.lease_laws.proofs.Words.{Lane, as_held}
use Rattle.lease_state.specs.Content.{patch as patched}
use Rattle.lease_laws.proofs.server.StepLeases.{held_left-serves}
use Rattle.lease_laws.proofs.server.cases.Ends.{IsLeft, any_end}
use Rattle.lease_laws.proofs.server.cases.Judgements.{IsRefusedAck, ack_fault, any_judgement}
use Rattle.lease_coherence.proofs.moves.Moves.{IsNext, IsOldest, moved, popped}

-- ---- where a request that is answered comes from

abbrev pub with_held : World → ℕ → List Held → World
with_held world file left =
    record world { server = record world.server { held = put world.server.held file left } }

-- it is the oldest of its client, and waits behind none that is held on its file
pub record HasArrived (world : World) (off : World) (client : ℕ) (request : FileRequest) : Type 0 where
  pub oldest : IsOldest world client (Request.OnFile request)
  pub is_off : off ≡ popped world client
  pub in_turn : (file : ℕ) → file_asked world.server client request ≡ Ok file
      → is_behind world.server.rules (as_held world.server client request) (world.server.held file) ≡ false

-- or is held on a file, and waits behind none
pub record WasHeld (world : World) (off : World) (client : ℕ) (request : FileRequest) : Type 0 where
  pub file : ℕ
  pub before : List Held
  pub behind : List Held
  pub lane : Lane
  pub held : world.server.held file ≡ before ++ held_of client request lane ∷ behind
  pub is_off : off ≡ with_held world file (before ++ behind)
  pub in_turn : is_behind world.server.rules (held_of client request lane) before ≡ false

-- `off` is the world in which it is taken off
pub record IsSource (world : World) (off : World) (client : ℕ) (request : FileRequest) : Type 0 where
  pub up : world.server.present client ≡ true
  pub from : HasArrived world off client request ⊎ WasHeld world off client request

-- ---- what is done

-- a reply is sent
abbrev pub told_to : World → ℕ → Reply → World
told_to world client reply = record world {
  replies = put world.replies client (world.replies client ++ reply ∷ []);
  past = Fact.Sent client ∷ world.past;
}

-- what a create is answered
abbrev pub granted_reply : Server → ℕ → CreateAsk → Lease → Reply
granted_reply server file ask lease = Reply.Created file (server.last_id + 1) (Some (record {
  lease = lease_given ask.lease lease;
  durable = ask.durable && lease.state.handle;
}))

abbrev pub reconnected_reply : Server → ℕ → ℕ → CreateAsk → ℕ → Reply
reconnected_reply server client file ask file_id = Reply.Created file file_id (Some (record {
  lease = lease_given ask.lease (standing_lease server client ask.lease);
  durable = false;
}))

-- what an acknowledgment is answered
abbrev pub done_reply : LeaseOf → Reply
done_reply given = Reply.AckDone (Some (record { key = given.key; state = granted_form_of given.state }))

-- a new open is made
abbrev pub granted_in : World → ℕ → ℕ → Access → Share → CreateAsk → Lease → World
granted_in world client file access share ask lease = record world {
  server = record (lease_put world.server client ask.lease lease) {
    opens = world.server.opens ++ new_open world.server client file access share ask.lease ask.durable lease ∷ [];
    last_id = world.server.last_id + 1;
  };
  replies = put world.replies client (world.replies client ++ Reply.Created file (world.server.last_id + 1) (Some (record {
    lease = lease_given ask.lease lease;
    durable = ask.durable && lease.state.handle;
  })) ∷ []);
  past = Fact.Sent client ∷ Fact.Opened file client ∷ world.past;
}

-- a durable open is connected again
abbrev pub reconnected_in : World → ℕ → ℕ → CreateAsk → ℕ → World
reconnected_in world client file ask file_id = told_to
    (record world { server = record world.server { opens = map (connected_again file_id) world.server.opens } })
    client (Reply.Created file file_id (Some (record {
      lease = lease_given ask.lease (standing_lease world.server client ask.lease);
      durable = false;
    })))

-- a file is changed
abbrev pub changed_in : World → ℕ → ℕ → ℕ → ℕ → Patch → World
changed_in world client file file_id number patch = record world {
  server = record world.server {
    contents = put world.server.contents file (patched (world.server.contents file) patch);
  };
  replies = put world.replies client (world.replies client ++ Reply.WriteDone file_id number ∷ []);
  past = Fact.Sent client ∷ Fact.Changed file client number patch ∷ world.past;
}

-- opens are closed
abbrev pub without_opens : World → (Open → Bool) → World
without_opens world test =
    record world { server = with_opens world.server (without test world.server.opens) }

-- a lease is put, and its client is told
abbrev pub leased_in : World → Key → Lease → Reply → World
leased_in world key lease reply = told_to (record world { server = with_lease world.server key lease }) key.client reply

-- a request is held
abbrev pub held_in : World → ℕ → Held → World
held_in world file one = with_held world file (world.server.held file ++ one ∷ [])

-- ---- forms

pub record HasDeeds (world : World) (P : World → Type 0) : Type 0 where
  pub refused : (off : World) (client : ℕ) (request : FileRequest) (status : Status)
      → IsSource world off client request → MayRefuse off.server client request status
      → P (told_to off client (refusal_of request status))
  pub full : (off : World) (client file : ℕ) (access : Access) (share : Share) (ask : CreateAsk)
      → IsSource world off client (FileRequest.Create file access share (Some ask))
      → P (told_to off client (Reply.CreateFailed file Status.InsufficientResources))
  pub granted : (off : World) (client file : ℕ) (access : Access) (share : Share) (ask : CreateAsk)
      → IsSource world off client (FileRequest.Create file access share (Some ask)) → ask.reconnect ≡ None
      → has_file off.server file ≡ true → IsFree off.server.opens off.server.leases (own_key client ask.lease) file access share
      → P (granted_in off client file access share ask (lease_after off.server client file ask.lease))
  pub reconnected : (off : World) (client file : ℕ) (access : Access) (share : Share) (ask : CreateAsk) (file_id : ℕ)
      → IsSource world off client (FileRequest.Create file access share (Some ask)) → ask.reconnect ≡ Some file_id
      → has_file off.server file ≡ true → IsAwaitedAt off.server client file (own_key client ask.lease) file_id
      → P (reconnected_in off client file ask file_id)
  pub read : (off : World) (client file_id : ℕ) (one : Open) → IsSource world off client (FileRequest.Read file_id)
      → connected_open off.server client file_id ≡ Some one → may_read one.access ≡ true
      → P (told_to off client (Reply.ReadDone file_id (off.server.contents one.file)))
  pub changed : (off : World) (client file_id number : ℕ) (patch : Patch) (one : Open)
      → IsSource world off client (FileRequest.Write file_id number patch)
      → connected_open off.server client file_id ≡ Some one → MayChange off.server patch one
      → P (changed_in off client one.file file_id number patch)
  pub closed : (off : World) (client file_id : ℕ) (one : Open) → IsSource world off client (FileRequest.Close file_id)
      → connected_open off.server client file_id ≡ Some one
      → P (told_to (without_opens off (λ other. other.file_id == file_id)) client (Reply.Closed file_id))
  pub ack_failed : (client : ℕ) (given : Option LeaseOf) (status : Status)
      → IsOldest world client (Request.Acknowledge given) → world.server.present client ≡ true
      → IsRefusedAck world.server client given → P (told_to (popped world client) client (Reply.AckFailed status))
  pub ack_done : (client : ℕ) (given : LeaseOf) (lowered : State)
      → IsOldest world client (Request.Acknowledge (Some given)) → world.server.present client ≡ true
      → has_lease world.server (key_of client given.key) ≡ true
      → (world.server.leases (key_of client given.key)).broken_to ≡ Some lowered → is_state_within given.state lowered ≡ true
      → P (leased_in (popped world client) (key_of client given.key)
      (record { state = granted_form_of given.state; broken_to = None })
      (Reply.AckDone (Some (record { key = given.key; state = granted_form_of given.state }))))
  pub hold : (file : ℕ) (one : Held) → IsOldest world one.client (Request.OnFile one.request)
      → MayHold world.server file one → IsInTurn (SmallStep.Hold file one) world.server
      → P (held_in (popped world one.client) file one)
  pub drop : (key : Key) → P (without_opens world (is_left_open key))
  pub lower : (key : Key) (lowered : State) → MayLower world.server key lowered
      → needs_acknowledgment (world.server.leases key).state ≡ false
      → P (leased_in world key (record { state = lowered; broken_to = None })
      (break_notice key (world.server.leases key).state lowered))
  pub begin : (key : Key) (lowered : State) → MayLower world.server key lowered
      → needs_acknowledgment (world.server.leases key).state ≡ true
      → P (leased_in world key (record { state = (world.server.leases key).state; broken_to = Some lowered })
      (break_notice key (world.server.leases key).state lowered))

-- ---- every step has one of them

-- a request that is refused or served isn't left
never_left : (server : Server) (client : ℕ) (request : FileRequest) (outcome : Outcome) → IsLeft server client request outcome
    → MayEnd server client request outcome → ⊥
never_left server client request (Outcome.Refused status) why may = why
never_left server client request Outcome.Waits why may = may
never_left server client (FileRequest.Create file access share None) Outcome.Ready why may = may.1
never_left server client (FileRequest.Create file access share (Some ask)) Outcome.Ready why may = cc
never_left server client (FileRequest.Read file_id) Outcome.Ready why may = no_open _ _ why may.1.found
  where
    no_open : (found : Option Open) (one : Open) → found ≡ None → found ≡ Some one → ⊥
    no_open found one none some = cc
never_left server client (FileRequest.Write file_id number patch) Outcome.Ready why may = no_open _ _ why may.1.found
  where
    no_open : (found : Option Open) (one : Open) → found ≡ None → found ≡ Some one → ⊥
    no_open found one none some = cc
never_left server client (FileRequest.Close file_id) Outcome.Ready why may = no_open _ _ why may.1.found
  where
    no_open : (found : Option Open) (one : Open) → found ≡ None → found ≡ Some one → ⊥
    no_open found one none some = cc

-- what is known of the open that was found is known of the one that is named
of_found : (server : Server) (client file_id : ℕ) (may : Open → Type 0) (one : Open) → HasOpen server client file_id may
    → connected_open server client file_id ≡ Some one → may one
of_found server client file_id may one has found = subst may (same has.one one (sym has.found ∙ found)) has.allowed
  where
    same : (x y : Open) → Some x ≡ Some y → x ≡ y
    same x y e = cc

request_deed : (world off : World) (P : World → Type 0) → HasDeeds world P → (client : ℕ) (request : FileRequest)
    (outcome : Outcome) → IsSource world off client request → MayEnd off.server client request outcome
    → P (served off (concluded client request (begun off.server) outcome))
unfolding all_delivered
request_deed world off P h client request outcome = any_end client (begun off.server)
    (λ request outcome after. IsSource world off client request → MayEnd off.server client request outcome → P (served off after))
    (record {
      refused = λ request status source may. h.refused off client request status source may.1;
      left = λ request outcome why source may. absurd (never_left off.server client request outcome why may);
      full = λ file access share ask none out source may. h.full off client file access share ask source;
      granted = λ file access share ask none room source may. let served = may.1 in
          h.granted off client file access share ask source none served.0
          (subst (MayCreate off.server client file access share ask.lease) none served.1);
      again = λ file access share ask file_id some source may. let served = may.1 in
          h.reconnected off client file access share ask file_id source some served.0
          (subst (MayCreate off.server client file access share ask.lease) some served.1);
      read = λ file_id one own source may. h.read off client file_id one source own.found
          (of_found off.server client file_id (λ o. may_read o.access ≡ true) one may.1 own.found);
      changed = λ file_id number patch one own source may. h.changed off client file_id number patch one source own.found
          (of_found off.server client file_id (MayChange off.server patch) one may.1 own.found);
      closed = λ file_id one own source may. h.closed off client file_id one source own.found;
    }) request outcome

-- an acknowledgment is judged
acknowledged_deed : (world : World) (P : World → Type 0) → HasDeeds world P → (client : ℕ) (given : Option LeaseOf)
    → IsOldest world client (Request.Acknowledge given) → world.server.present client ≡ true
    → P (served (popped world client) (acknowledged client given (begun world.server)))
unfolding all_delivered
acknowledged_deed world P h client given oldest up = any_judgement client (begun world.server)
    (λ given after. IsOldest world client (Request.Acknowledge given) → P (served (popped world client) after)) (record {
      failed = λ given why oldest. h.ack_failed client given (ack_fault world.server client given) oldest up why;
      ended = λ given lowered there breaks within oldest. h.ack_done client given lowered oldest up there breaks within;
    }) given oldest

-- any step
pub step_deed : (world : World) (P : World → Type 0) → HasDeeds world P → (step : SmallStep) → IsNext world step
    → P (moved world step)
unfolding all_delivered
step_deed world P h (SmallStep.Answer client request outcome) next =
    request_deed world (popped world client) P h client request outcome (record {
      up = up_of outcome next.guarded;
      from = inl (record { oldest = next.due; is_off = refl; in_turn = next.in_turn });
    }) next.guarded
  where
    up_of : (o : Outcome) → MayEnd world.server client request o → world.server.present client ≡ true
    up_of Outcome.Waits may = absurd may
    up_of outcome may = may.0
step_deed world P h (SmallStep.AnswerHeld file before one behind outcome) next =
    request_deed world (with_held world file (before ++ behind)) P h one.client one.request outcome (record {
      up = up_of outcome next.guarded.1;
      from = inr (record {
        file = file;
        before = before;
        behind = behind;
        lane = one.lane;
        held = next.guarded.0;
        is_off = refl;
        in_turn = next.in_turn;
      });
    }) (same_end outcome one.request next.guarded.1)
  where
    up_of : (o : Outcome) → MayEnd world.server one.client one.request o → world.server.present one.client ≡ true
    up_of Outcome.Waits may = absurd may
    up_of outcome may = may.0

    same_refuse : (r : FileRequest) (status : Status) → MayRefuse world.server one.client r status
        → MayRefuse (with_held world file (before ++ behind)).server one.client r status
    same_refuse (FileRequest.Create f access share contexts) status may = tt
    same_refuse request status may = may

    same_end : (o : Outcome) (r : FileRequest) → MayEnd world.server one.client r o
        → MayEnd (with_held world file (before ++ behind)).server one.client r o
    same_end (Outcome.Refused status) r may = (may.0, same_refuse r status may.1)
    same_end Outcome.Waits r may = absurd may
    same_end Outcome.Ready r may = (may.0, held_left-serves one.client r file (before ++ behind) (begun world.server) may.1)
step_deed world P h (SmallStep.Acknowledge client given) next = acknowledged_deed world P h client given next.due next.guarded
step_deed world P h (SmallStep.Hold file one) next = h.hold file one next.due next.guarded next.in_turn
step_deed world P h (SmallStep.Drop key) next = h.drop key
step_deed world P h (SmallStep.Lower key lowered) next = h.lower key lowered next.guarded.0 next.guarded.1
step_deed world P h (SmallStep.Begin key lowered) next = h.begin key lowered next.guarded.0 next.guarded.1
