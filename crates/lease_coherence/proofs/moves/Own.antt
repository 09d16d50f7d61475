-- What is said of one client has to be shown for its own moves alone.
use Rattle.lease_laws.proofs.Words.{◌++◌, ◌==◌, ◌∙◌, ◌∷◌, ◌≡◌, ◌≢◌, Access, Among, Bool, Command, CreateAsk, Fact, FileRequest}
use Rattle.lease_laws.proofs.Words.{Held, IsAwaitedAt, IsFree, IsInTurn, Key, Lease, LeaseOf, Link, List, MayChange, MayHold}
use Rattle.lease_laws.proofs.Words.{MayLower, MayRefuse, None, Open, Option, Patch, Reply, Request, Server, Share, SmallStep}
use Rattle.lease_laws.proofs.Words.{Some, State, Status, Step, World, ℕ, [], ⊤, ap, arith, begun, break_notice, breaking}
use Rattle.lease_laws.proofs.Words.{commanded, connected_again, connected_open, connection_made, disconnected, eqb-true, false}
use Rattle.lease_laws.proofs.Words.{granted_form_of, happened, has_file, has_key, has_lease, has_strayed, is_left_behind}
use Rattle.lease_laws.proofs.Words.{is_left_open, is_lost, is_state_within, is_up, key_of, lease_after, machine_key, map}
use Rattle.lease_laws.proofs.Words.{may_read, needs_acknowledgment, not, noticed, own_key, put, refl, refusal_of, step_taken}
use Rattle.lease_laws.proofs.Words.{stepped_in, subst, sym, taken, true, true≢false, was_opened, without}
use Rattle.lease_laws.proofs.client.Thin.{put_other, put_same}
use Rattle.lease_laws.proofs.server.Keys.{put_key-cases}
use Rattle.lease_laws.proofs.server.Lists.{and_parts, clash, if_cases, not_parts, not_true}
use Rattle.lease_laws.proofs.server.cases.Ends.{found_open}
use Rattle.lease_laws.proofs.server.cases.Judgements.{IsRefusedAck}
use Rattle.lease_laws.proofs.world.Links.{by_client, stepped_links}
use Rattle.lease_laws.proofs.world.Runs.{stepped_clients, stepped_server}
use Rattle.lease_laws.proofs.world.cases.Events.{IsTold}
use Rattle.lease_coherence.specs.Creates.{held_by}
use Rattle.lease_coherence.proofs.moves.Deeds.{HasDeeds, IsSource, changed_in, granted_in, held_in, leased_in, reconnected_in}
use Rattle.lease_coherence.proofs.moves.Deeds.{step_deed, told_to, without_opens}
use Rattle.lease_coherence.proofs.moves.Events.{Ground, IsMoved, MayMove, Move, come_back, connected, cut_off, moved_by}
use Rattle.lease_coherence.proofs.moves.Events.{noticed_by, reply_gone, reply_taken, strayed, timed_out}
use Rattle.lease_coherence.proofs.moves.Foreign.{IsUnmoved, apart, change_no_reader, change_no_writer, false_not, filter_last}
use Rattle.lease_coherence.proofs.moves.Foreign.{filter_twice, free_no_writer, key_client, off_ground, off_sound}
use Rattle.lease_coherence.proofs.moves.Foreign.{unmoved_content, unmoved_granted, unmoved_held, unmoved_leased, unmoved_mapped}
use Rattle.lease_coherence.proofs.moves.Foreign.{unmoved_off, unmoved_popped, unmoved_same, unmoved_then, unmoved_told}
use Rattle.lease_coherence.proofs.moves.Foreign.{unmoved_without}
use Rattle.lease_coherence.proofs.moves.Frames.{from_source, stepped_past, stepped_replies, stepped_requests}
use Rattle.lease_coherence.proofs.moves.Ground.{moved_past}
use Rattle.lease_coherence.proofs.moves.Moves.{IsOldest, popped}
use Rattle.lease_coherence.proofs.moves.Spared.{IsSpared, Spares, spared_fact, spared_noted}
use Rattle.lease_coherence.proofs.names.NamedInRecord.{opened_by}
use Rattle.lease_coherence.proofs.names.Names.{awaits_parts, off_counted}
use Rattle.lease_coherence.proofs.records.Later.{IsLater, later_fact, later_noted, later_then, later_told}

-- of each client that hasn't strayed
abbrev pub OfGood : (World → ℕ → Type 0) → World → Type 0
OfGood A world = (client : ℕ) → has_strayed client world.past ≡ false → A world client

-- while its link is up
abbrev pub IsUp : World → ℕ → Type 0
IsUp world client = is_up (world.links client) ≡ true

abbrev pub Always : World → ℕ → Type 0
Always world client = ⊤

-- what a client's own moves are shown from, in a world of which all of V is known
pub record IsKnownOf (V : World → Type 0) (W : World → ℕ → Type 0) (world : World) (c : ℕ) : Type 0 where
  pub all : V world
  pub good : has_strayed c world.past ≡ false
  pub when : W world c

-- answers that leave the server as it is, but that the request is off
pub data IsToldOf (off : World) (c : ℕ) : FileRequest → Reply → Type 0 where
  Refused : (request : FileRequest) (status : Status) → MayRefuse off.server c request status
      → IsToldOf off c request (refusal_of request status)
  Full : (file : ℕ) (access : Access) (share : Share) (ask : CreateAsk)
      → IsToldOf off c (FileRequest.Create file access share (Some ask)) (Reply.CreateFailed file Status.InsufficientResources)
  Read : (file_id : ℕ) (one : Open) → connected_open off.server c file_id ≡ Some one → may_read one.access ≡ true
      → IsToldOf off c (FileRequest.Read file_id) (Reply.ReadDone file_id (off.server.contents one.file))

-- replies that give no lease and break none
abbrev pub is_bare : Reply → Type 0
is_bare (Reply.Created file file_id contexts) = ⊥
is_bare (Reply.Break notice) = ⊥
is_bare reply = ⊤

refusal_bare : (request : FileRequest) (status : Status) → is_bare (refusal_of request status)
refusal_bare (FileRequest.Create file access share contexts) status = tt
refusal_bare request status = tt

pub told_bare : (off : World) (c : ℕ) (request : FileRequest) (reply : Reply) → IsToldOf off c request reply → is_bare reply
told_bare off c request reply (IsToldOf.Refused asked status may) = refusal_bare asked status
told_bare off c request reply (IsToldOf.Full file access share ask) = tt
told_bare off c request reply (IsToldOf.Read file_id one found may) = tt

-- moves that leave the client's link as it is, where A is said while W holds
pub record IsOwnMoved (V : World → Type 0) (W : World → ℕ → Type 0) (A : World → ℕ → Type 0) : Type 0 where
  pub unmoved : (world new : World) (c : ℕ) → IsKnownOf V W world c → IsUnmoved world new c → A world c → A new c
  pub told : (world off : World) (c : ℕ) (request : FileRequest) (reply : Reply) → IsKnownOf V W world c
      → IsSource world off c request → IsToldOf off c request reply → A world c → A (told_to off c reply) c
  pub granted : (world off : World) (c file : ℕ) (access : Access) (share : Share) (ask : CreateAsk) → IsKnownOf V W world c
      → IsSource world off c (FileRequest.Create file access share (Some ask)) → ask.reconnect ≡ None
      → has_file off.server file ≡ true
      → IsFree off.server.opens off.server.leases (own_key c ask.lease) file access share → A world c
      → A (granted_in off c file access share ask (lease_after off.server c file ask.lease)) c
  pub reconnected : (world off : World) (c file : ℕ) (access : Access) (share : Share) (ask : CreateAsk)
      (file_id : ℕ) → IsKnownOf V W world c
      → IsSource world off c (FileRequest.Create file access share (Some ask)) → ask.reconnect ≡ Some file_id
      → has_file off.server file ≡ true → IsAwaitedAt off.server c file (own_key c ask.lease) file_id → A world c
      → A (reconnected_in off c file ask file_id) c
  pub changed : (world off : World) (c file_id number : ℕ) (patch : Patch) (one : Open) → IsKnownOf V W world c
      → IsSource world off c (FileRequest.Write file_id number patch)
      → connected_open off.server c file_id ≡ Some one → MayChange off.server patch one → A world c
      → A (changed_in off c one.file file_id number patch) c
  pub closed : (world off : World) (c file_id : ℕ) (one : Open) → IsKnownOf V W world c
      → IsSource world off c (FileRequest.Close file_id) → connected_open off.server c file_id ≡ Some one → A world c
      → A (told_to (without_opens off (λ other. other.file_id == file_id)) c (Reply.Closed file_id)) c
  pub ack_failed : (world : World) (c : ℕ) (given : Option LeaseOf) (status : Status) → IsKnownOf V W world c
      → IsOldest world c (Request.Acknowledge given)
      → IsRefusedAck world.server c given → A world c → A (told_to (popped world c) c (Reply.AckFailed status)) c
  pub ack_done : (world : World) (c : ℕ) (given : LeaseOf) (lowered : State) → IsKnownOf V W world c
      → IsOldest world c (Request.Acknowledge (Some given))
      → has_lease world.server (key_of c given.key) ≡ true → (world.server.leases (key_of c given.key)).broken_to ≡ Some lowered
      → is_state_within given.state lowered ≡ true → A world c → A (leased_in (popped world c) (key_of c given.key)
      (record { state = granted_form_of given.state; broken_to = None })
      (Reply.AckDone (Some (record { key = given.key; state = granted_form_of given.state })))) c
  pub hold : (world : World) (file : ℕ) (one : Held) → IsKnownOf V W world one.client
      → IsOldest world one.client (Request.OnFile one.request) → MayHold world.server file one
      → IsInTurn (SmallStep.Hold file one) world.server → A world one.client
      → A (held_in (popped world one.client) file one) one.client
  pub dropped : (world : World) (c : ℕ) (test : Open → Bool) → IsKnownOf V W world c
      → ((one : Open) → test one ≡ true → one.connected ≡ false) → A world c → A (without_opens world test) c
  pub lower : (world : World) (key : Key) (lowered : State) → IsKnownOf V W world key.client
      → MayLower world.server key lowered → needs_acknowledgment (world.server.leases key).state ≡ false → A world key.client
      → A (leased_in world key (record { state = lowered; broken_to = None })
      (break_notice key (world.server.leases key).state lowered)) key.client
  pub begin : (world : World) (key : Key) (lowered : State) → IsKnownOf V W world key.client
      → MayLower world.server key lowered → needs_acknowledgment (world.server.leases key).state ≡ true → A world key.client
      → A (leased_in world key (record { state = (world.server.leases key).state; broken_to = Some lowered })
      (break_notice key (world.server.leases key).state lowered)) key.client
  pub timer : (world : World) (c file : ℕ) → IsKnownOf V W world c
      → has_file world.server file ≡ true → breaking world.server (machine_key world c file) ≡ true → A world c
      → A (timed_out world c file) c
  pub command : (world : World) (c : ℕ) (command : Command) → IsKnownOf V W world c
      → A world c → A (stepped_in world c (commanded (world.clients c) command)) c
  pub take : (world : World) (c : ℕ) (reply : Reply) (queue : List Reply) → IsKnownOf V W world c → world.replies c
      ≡ reply ∷ queue → A world c → A (reply_taken world c reply queue) c

-- moves of the client's link
pub record IsLinkMoved (V : World → Type 0) (A : World → ℕ → Type 0) : Type 0 where
  pub cut : (world : World) (c : ℕ) → V world → has_strayed c world.past ≡ false → world.links c ≡ Link.Up
      → A world c → A (cut_off world c) c
  pub connect : (world : World) (c : ℕ) → V world → has_strayed c world.past ≡ false → world.links c ≡ Link.Down
      → A world c → A (connected world c) c
  pub notice : (world : World) (c : ℕ) → V world → has_strayed c world.past ≡ false → world.links c ≡ Link.Cut
      → A world c → A (noticed_by world c) c

-- ---- steps of the server

-- A is said while W holds
abbrev When : (World → ℕ → Type 0) → (World → ℕ → Type 0) → World → ℕ → Type 0
When W A world client = W world client → A world client

-- W is about the client's link
abbrev IsOfLink : (World → ℕ → Type 0) → Type 0
IsOfLink W = (world new : World) (c : ℕ) → new.links c ≡ world.links c → W new c → W world c

abbrev ForAll : (World → ℕ → Type 0) → World → World → Type 0
ForAll A world new = (c : ℕ) → has_strayed c world.past ≡ false → A new c

-- for the client itself, and for any other
for_any : (V : World → Type 0) (W A : World → ℕ → Type 0) → IsOfLink W → IsOwnMoved V W A → (world new : World) (client : ℕ)
    → V world → OfGood (When W A) world → (has_strayed client world.past ≡ false → When W A new client)
    → ((c : ℕ) → client ≢ c → IsUnmoved world new c) → ForAll (When W A) world new
for_any V W A back k world new client v a own other c good = by_client
    (λ d. has_strayed d world.past ≡ false → When W A new d) client c own
    (λ ne apart g w. let u = other c (λ e. ne (sym e)) in
    let was = back world new c u.link w in k.unmoved world new c (record { all = v; good = g; when = was }) u (a c g was)) good

-- where the client's link is as it was
for_all : (V : World → Type 0) (W A : World → ℕ → Type 0) → IsOfLink W → IsOwnMoved V W A → (world new : World) (client : ℕ)
    → V world → OfGood (When W A) world → new.links client ≡ world.links client
    → (IsKnownOf V W world client → A world client → A new client)
    → ((c : ℕ) → client ≢ c → IsUnmoved world new c) → ForAll (When W A) world new
for_all V W A back k world new client v a link own other = for_any V W A back k world new client v a
    (λ g w. let was = back world new client link w in own (record { all = v; good = g; when = was }) (a client g was)) other

-- the opens of others, where one of a client is connected again, or closed
others_apart : (world off : World) (client : ℕ) (request : FileRequest) → IsSource world off client request → Ground world
    → (file_id : ℕ) (mine : Open) → Among mine off.server.opens → mine.file_id ≡ file_id → mine.client ≡ client
    → (c : ℕ) → client ≢ c → (one : Open) → one.client ≡ c → Among one off.server.opens → (one.file_id == file_id) ≡ false
others_apart world off client request source g file_id mine there id by c ne one own a =
    let counted = off_counted world off client request source g in
    apart one.file_id file_id (λ same. ne (sym by ∙ opened_by file_id mine.file mine.client one.file one.client off.past
    (subst (λ i. was_opened i mine.file mine.client off.past ≡ true) id (counted.opens mine there))
    (subst (λ i. was_opened i one.file one.client off.past ≡ true) same (counted.opens one a)) ∙ own))

again_same : (file_id : ℕ) (one : Open) → (one.file_id == file_id) ≡ false → connected_again file_id one ≡ one
again_same file_id one e = if_cases (λ o. o ≡ one) (one.file_id == file_id) (record one { connected = true }) one
    (λ same. clash (one.file_id == file_id) same e) (λ other. refl)

again_client : (file_id : ℕ) (one : Open) → (connected_again file_id one).client ≡ one.client
again_client file_id one = if_cases (λ o. o.client ≡ one.client) (one.file_id == file_id)
    (record one { connected = true }) one (λ same. refl) (λ other. refl)

no_key : (key : Key) (c : ℕ) → key.client ≢ c → (one : Open) → one.client ≡ c → has_key key one ≡ false
no_key key c ne one own = not_true (has_key key one) (λ has. ne (key_client key one has ∙ own))

left_off : (key : Key) (one : Open) → is_left_open key one ≡ true → one.connected ≡ false
left_off key one e = not_parts one.connected (and_parts (has_key key one) (not one.connected) e).1

-- a request that is taken off leaves its client's link
links_of : (world off : World) (client : ℕ) (request : FileRequest) → IsSource world off client request → off.links ≡ world.links
links_of world off client request source = from_source world off client request (λ o. o.links ≡ world.links) source refl
    (λ at left. refl)

pub link_of : (world off : World) (client : ℕ) (request : FileRequest) → IsSource world off client request
    → IsUp off client → IsUp world client
link_of world off client request source up =
    ap (λ (l : ℕ → Link). is_up (l client)) (sym (links_of world off client request source)) ∙ up

deeds_all : (V : World → Type 0) (W A : World → ℕ → Type 0) → ((world : World) → V world → Ground world) → IsOfLink W
    → IsOwnMoved V W A → (world : World) → V world → OfGood (When W A) world → HasDeeds world (ForAll (When W A) world)
deeds_all V W A ground back k world v a = record {
  refused = λ off client request status source may. told off client _ _ source (IsToldOf.Refused request status may);
  full = λ off client file access share ask source. told off client _ _ source (IsToldOf.Full file access share ask);
  read = λ off client file_id one source found may. told off client _ _ source (IsToldOf.Read file_id one found may);
  granted = λ off client file access share ask source none on free. behind off client _ source _ refl
      (λ known x. k.granted world off client file access share ask known source none on free x)
      (λ c ne. unmoved_granted off client file access share ask _ c ne
      (free_no_writer off.server.opens off.server.leases client ask.lease file access share c ne free));
  reconnected = λ off client file access share ask file_id source again on waits. behind off client _ source _ refl
      (λ known x. k.reconnected world off client file access share ask file_id known source again on waits x)
      (λ c ne.
      unmoved_then off (record off { server = record off.server { opens = map (connected_again file_id) off.server.opens } }) _ c
      (let parts = awaits_parts client file (own_key client ask.lease) file_id waits.one waits.waits in
      unmoved_mapped off (connected_again file_id) c
      (λ one own x. again_same file_id one (others_apart world off client _ source (ground world v) file_id waits.one
      waits.is_there parts.id parts.by c ne one own x)) (again_client file_id)) (unmoved_told _ client _ c ne));
  changed = λ off client file_id number patch one source found may. behind off client _ source _ refl
      (λ known x. k.changed world off client file_id number patch one known source found may x)
      (λ c ne. let own = found_open off.server client file_id one found in
      let apart : one.client ≢ c = λ e. ne (sym own.by ∙ e) in
      let sound = off_sound world off client _ source (ground world v).fine.sound in
      unmoved_content off client one.file file_id number patch c ne (change_no_writer off.server one c apart sound own.there)
      (change_no_reader off.server one c apart sound may.alone));
  closed = λ off client file_id one source found. behind off client _ source _ refl
      (λ known x. k.closed world off client file_id one known source found x)
      (λ c ne. let own = found_open off.server client file_id one found in
      unmoved_then off (without_opens off (λ other. other.file_id == file_id)) _ c
      (unmoved_without off (λ other. other.file_id == file_id) c (off_ground world off client _ source (ground world v))
      (λ other mine x. others_apart world off client _ source (ground world v) file_id one own.there own.id own.by
      c ne other mine x)) (unmoved_told _ client _ c ne));
  ack_failed = λ client given status oldest up why. alone _ client refl
      (λ known x. k.ack_failed world client given status known oldest why x)
      (λ c ne. unmoved_then world (popped world client) _ c (unmoved_popped world client c ne)
      (unmoved_told (popped world client) client _ c ne));
  ack_done = λ client given lowered oldest up there breaks within. alone _ client refl
      (λ known x. k.ack_done world client given lowered known oldest there breaks within x)
      (λ c ne. unmoved_then world (popped world client) _ c (unmoved_popped world client c ne)
      (unmoved_leased (popped world client) (key_of client given.key) _ _ c ne));
  hold = λ file one oldest may turn. alone _ one.client refl (λ known x. k.hold world file one known oldest may turn x)
      (λ c ne. unmoved_then world (popped world one.client) _ c (unmoved_popped world one.client c ne)
      (unmoved_held (popped world one.client) file (world.server.held file ++ one ∷ []) c
      (filter_last (λ h. h.client == c) (world.server.held file) one (apart one.client c ne))));
  drop = λ key c good w. let was = back world _ c refl w in k.dropped world c (is_left_open key)
      (record { all = v; good = good; when = was }) (left_off key) (a c good was);
  lower = λ key lowered may light. alone _ key.client refl (λ known x. k.lower world key lowered known may light x)
      (λ c ne. unmoved_leased world key _ _ c ne);
  begin = λ key lowered may heavy. alone _ key.client refl (λ known x. k.begin world key lowered known may heavy x)
      (λ c ne. unmoved_leased world key _ _ c ne);
}
  where
    alone : (new : World) (client : ℕ) → new.links ≡ world.links → (IsKnownOf V W world client → A world client → A new client)
        → ((c : ℕ) → client ≢ c → IsUnmoved world new c) → ForAll (When W A) world new
    alone new client links own other = for_all V W A back k world new client v a (ap (λ (l : ℕ → Link). l client) links) own other

    -- behind the request that is taken off
    behind : (off : World) (client : ℕ) (request : FileRequest) → IsSource world off client request → (new : World)
        → new.links ≡ off.links → (IsKnownOf V W world client → A world client → A new client)
        → ((c : ℕ) → client ≢ c → IsUnmoved off new c) → ForAll (When W A) world new
    behind off client request source new links own other = alone new client
        (links ∙ links_of world off client request source) own
        (λ c ne. unmoved_then world off new c (unmoved_off world off client request c source ne) (other c ne))

    told : (off : World) (client : ℕ) (request : FileRequest) (reply : Reply) → IsSource world off client request
        → IsToldOf off client request reply → ForAll (When W A) world (told_to off client reply)
    told off client request reply source is = behind off client request source (told_to off client reply) refl
        (λ known x. k.told world off client request reply known source is x) (λ c ne. unmoved_told off client reply c ne)

-- ---- other moves of others

unmoved_cut : (world : World) (client c : ℕ) → Ground world → client ≢ c → IsUnmoved world (cut_off world client) c
unmoved_cut world client c g ne =
    let lost = unmoved_without world (is_lost world.server client) c g.fine.sound.no_open
    (λ one own a. not_true (is_lost world.server client one) (λ e. ne (sym (eqb-true one.client client
    (and_parts _ _ (and_parts _ _ e).0).0) ∙ own))) in
    let opens = without (is_lost world.server client) world.server.opens in
    let off = unmoved_mapped (without_opens world (is_lost world.server client)) (disconnected client) c
    (λ one own a. chosen_other one (apart one.client client (λ e. ne (sym e ∙ own)))) client_same in record {
      later = later_fact world.past (Fact.Dropped client);
      spared = spared_fact c world.server.opens world.server.leases (Fact.Dropped client) world.past tt;
      machine = refl;
      link = put_other world.links client Link.Cut c (λ e. ne (sym e));
      requests = put_other world.requests client [] c (λ e. ne (sym e));
      replies = put_other world.replies client [] c (λ e. ne (sym e));
      held = λ file. filter_twice (λ h. h.client == c) (λ h. not (h.client == client)) (world.server.held file)
          (λ h mine. false_not (h.client == client) (apart h.client client (λ e. ne (sym e ∙ eqb-true h.client c mine))));
      kept = λ one own a. off.kept one own (lost.kept one own a);
      from = λ one own a. lost.from one own (off.from one own a);
      leases = lost.leases;
      expired = lost.expired;
    }
  where
    chosen_other : (one : Open) → (one.client == client) ≡ false → disconnected client one ≡ one
    chosen_other one e = if_cases (λ o. o ≡ one) (one.client == client) (record one { connected = false }) one
        (λ same. clash (one.client == client) same e) (λ other. refl)

    client_same : (one : Open) → (disconnected client one).client ≡ one.client
    client_same one = if_cases (λ o. o.client ≡ one.client) (one.client == client)
        (record one { connected = false }) one (λ same. refl) (λ other. refl)

unmoved_timer : (world : World) (client file c : ℕ) → Ground world → client ≢ c → IsUnmoved world (timed_out world client file) c
unmoved_timer world client file c g ne =
    let key = machine_key world client file in
    let gone = unmoved_without world (has_key key) c g.fine.sound.no_open
    (λ one own a. no_key key c ne one own) in record {
      later = later_fact world.past (Fact.Expired client file);
      spared = spared_fact c world.server.opens world.server.leases (Fact.Expired client file) world.past tt;
      machine = refl;
      link = refl;
      requests = refl;
      replies = refl;
      held = gone.held;
      kept = gone.kept;
      from = gone.from;
      leases = gone.leases;
      expired = λ other own. put_key-cases (λ b. b ≡ world.server.expired other) world.server.expired key true other
          (λ same. absurd (ne (sym (ap (λ (x : Key). x.client) same) ∙ own))) (λ there. refl);
    }

unmoved_back : (world : World) (client c : ℕ) → client ≢ c → IsUnmoved world (come_back world client) c
unmoved_back world client c ne = let s = unmoved_same world c in record {
  later = later_fact world.past (Fact.Joined client);
  spared = spared_fact c world.server.opens world.server.leases (Fact.Joined client) world.past ne;
  machine = refl;
  link = put_other world.links client Link.Up c (λ e. ne (sym e));
  requests = refl;
  replies = refl;
  held = s.held;
  kept = s.kept;
  from = s.from;
  leases = s.leases;
  expired = λ key own. if_cases (λ b. b ≡ world.server.expired key) (key.client == client) false
      (world.server.expired key) (λ same. absurd (ne (sym (eqb-true key.client client same) ∙ own))) (λ other. refl);
}

unmoved_stepped : (world : World) (client : ℕ) (step : Step) (c : ℕ) → client ≢ c
    → IsUnmoved world (stepped_in world client step) c
unmoved_stepped world client step c ne =
    let s = unmoved_same world c in
    let server = stepped_server world client step in
    let away : c ≢ client = λ e. ne (sym e) in record {
      later = subst (IsLater world.past) (sym (stepped_past world client step)) (later_noted client world.past step.notes);
      spared = subst (IsSpared c world.server.opens world.server.leases world.past) (sym (stepped_past world client step))
          (spared_noted c world.server.opens world.server.leases client world.past step.notes ne);
      machine = ap (λ (t : ℕ → _). t c) (stepped_clients world client step) ∙ put_other world.clients client step.client c away;
      link = ap (λ (l : ℕ → Link). l c) (stepped_links world client step);
      requests = ap (λ (q : ℕ → List Request). q c) (stepped_requests world client step)
          ∙ put_other world.requests client _ c away;
      replies = ap (λ (r : ℕ → List Reply). r c) (stepped_replies world client step);
      held = λ file. ap (λ (x : Server). held_by c (x.held file)) server;
      kept = λ one own a. subst (λ (x : Server). Among one x.opens) (sym server) a;
      from = λ one own a. subst (λ (x : Server). Among one x.opens) server a;
      leases = λ key own. ap (λ (x : Server). x.leases key) server;
      expired = λ key own. ap (λ (x : Server). x.expired key) server;
    }

unmoved_gone : (world : World) (client : ℕ) (queue : List Reply) (c : ℕ) → client ≢ c
    → IsUnmoved world (reply_gone world client queue) c
unmoved_gone world client queue c ne = let s = unmoved_same world c in record {
  later = later_fact world.past (Fact.Took client);
  spared = spared_fact c world.server.opens world.server.leases (Fact.Took client) world.past ne;
  machine = refl;
  link = refl;
  requests = refl;
  replies = put_other world.replies client queue c (λ e. ne (sym e));
  held = s.held;
  kept = s.kept;
  from = s.from;
  leases = s.leases;
  expired = s.expired;
}

unmoved_link : (world : World) (client : ℕ) (link : Link) (c : ℕ) → client ≢ c
    → IsUnmoved world (record world { links = put world.links client link }) c
unmoved_link world client link c ne = let s = unmoved_same world c in record {
  later = s.later;
  spared = s.spared;
  machine = refl;
  link = put_other world.links client link c (λ e. ne (sym e));
  requests = refl;
  replies = refl;
  held = s.held;
  kept = s.kept;
  from = s.from;
  leases = s.leases;
  expired = s.expired;
}

unmoved_strayed : (world : World) (client : ℕ) (request : Request) (c : ℕ) → client ≢ c
    → IsUnmoved world (strayed world client request) c
unmoved_strayed world client request c ne = let s = unmoved_same world c in record {
  later = s.later;
  spared = s.spared;
  machine = refl;
  link = refl;
  requests = put_other world.requests client _ c (λ e. ne (sym e));
  replies = refl;
  held = s.held;
  kept = s.kept;
  from = s.from;
  leases = s.leases;
  expired = s.expired;
}

-- a fact that stands alone spares everyone
told_spares : (client : ℕ) (fact : Fact) (c : ℕ) (opens : List Open) (leases : Key → Lease) → IsTold client fact
    → Spares c opens leases fact
told_spares client fact c opens leases is = grind arith

unmoved_fact : (world : World) (client : ℕ) (fact : Fact) (c : ℕ) → IsTold client fact → IsUnmoved world (happened world fact) c
unmoved_fact world client fact c is = let s = unmoved_same world c in record {
  later = later_fact world.past fact;
  spared = spared_fact c world.server.opens world.server.leases fact world.past
      (told_spares client fact c world.server.opens world.server.leases is);
  machine = refl;
  link = refl;
  requests = refl;
  replies = refl;
  held = s.held;
  kept = s.kept;
  from = s.from;
  leases = s.leases;
  expired = s.expired;
}

-- ---- all moves

stepped_later : (world : World) (client : ℕ) (step : Step) → IsLater world.past (stepped_in world client step).past
stepped_later world client step = subst (IsLater world.past) (sym (stepped_past world client step))
    (later_noted client world.past step.notes)

then_later : (a b c : List Fact) → IsLater a b → IsLater b c → IsLater a c
then_later a b c h k = later_then a b c h k

-- a step of a client changes no link
link_after : (world : World) (client : ℕ) (step : Step) → (stepped_in world client step).links client ≡ world.links client
link_after world client step = ap (λ (l : ℕ → Link). l client) (stepped_links world client step)

pub was_up : (world : World) (client : ℕ) (step : Step) → IsUp (stepped_in world client step) client → IsUp world client
was_up world client step up = ap is_up (sym (link_after world client step)) ∙ up

all_moves : (V : World → Type 0) (W A : World → ℕ → Type 0) → ((world : World) → V world → Ground world) → IsOfLink W
    → IsOwnMoved V W A → IsLinkMoved V (When W A) → IsMoved V (OfGood (When W A))
all_moves V W A ground back k l world move may v a = by_move move may
  where
    -- a move of one client, by what it does to that client and to the others
    moved : (new : World) (client : ℕ) → IsLater world.past new.past
        → (has_strayed client world.past ≡ false → When W A world client → When W A new client)
        → ((c : ℕ) → client ≢ c → IsUnmoved world new c) → OfGood (When W A) new
    moved new client later own other c good =
        for_any V W A back k world new client v a (λ g. own g (a client g)) other c (later.strayed c good)

    -- that leaves its link as it is
    own_moved : (new : World) (client : ℕ) → IsLater world.past new.past → new.links client ≡ world.links client
        → (IsKnownOf V W world client → A world client → A new client)
        → ((c : ℕ) → client ≢ c → IsUnmoved world new c) → OfGood (When W A) new
    own_moved new client later link own other c good =
        for_all V W A back k world new client v a link own other c (later.strayed c good)

    by_move : (m : Move) → MayMove world m → OfGood (When W A) (moved_by world m)
    by_move (Move.Told client fact) is = λ c good w.
        let was = (later_fact world.past fact).strayed c good in
        let on = back world (happened world fact) c refl w in k.unmoved world (happened world fact) c
        (record { all = v; good = was; when = on }) (unmoved_fact world client fact c is) (a c was on)
    by_move (Move.Step step) next = λ c good.
        step_deed world (ForAll (When W A) world) (deeds_all V W A ground back k world v a) step next c
        ((later_told world.past (step_taken step (begun world.server)).outs).strayed c
        (subst (λ past. has_strayed c past ≡ false) (moved_past world step) good))
    by_move (Move.Cut client) up = moved (cut_off world client) client (later_fact world.past (Fact.Dropped client))
        (λ g x. l.cut world client v g up x) (λ c ne. unmoved_cut world client c (ground world v) ne)
    by_move (Move.Expire client file) (on, breaks) = own_moved (timed_out world client file) client
        (later_fact world.past (Fact.Expired client file)) refl (λ known x. k.timer world client file known on breaks x)
        (λ c ne. unmoved_timer world client file c (ground world v) ne)
    by_move (Move.Scavenge file_id) may = λ c good w. let was = back world _ c refl w in
        k.dropped world c (is_left_behind file_id) (record { all = v; good = good; when = was })
        (λ one e. not_parts one.connected (and_parts (one.file_id == file_id) (not one.connected) e).1) (a c good was)
    by_move (Move.Connect client) down = moved (connected world client) client
        (then_later world.past (come_back world client).past (connected world client).past
        (later_fact world.past (Fact.Joined client))
        (stepped_later (come_back world client) client (connection_made (world.clients client))))
        (λ g x. l.connect world client v g down x)
        (λ c ne. unmoved_then world (come_back world client) _ c (unmoved_back world client c ne)
        (unmoved_stepped (come_back world client) client (connection_made (world.clients client)) c ne))
    by_move (Move.Commanded client command) may = let step = commanded (world.clients client) command in
        own_moved (stepped_in world client step) client (stepped_later world client step) (link_after world client step)
        (λ known x. k.command world client command known x) (λ c ne. unmoved_stepped world client step c ne)
    by_move (Move.Take client reply queue) first =
        let gone = reply_gone world client queue in
        let step = taken (world.clients client) reply in own_moved (reply_taken world client reply queue) client
        (then_later world.past gone.past (reply_taken world client reply queue).past (later_fact world.past (Fact.Took client))
        (stepped_later gone client step)) (link_after gone client step)
        (λ known x. k.take world client reply queue known first x)
        (λ c ne. unmoved_then world gone _ c (unmoved_gone world client queue c ne) (unmoved_stepped gone client step c ne))
    by_move (Move.Notice client) cut =
        let off = record world { links = put world.links client Link.Down } in
        let step = noticed (world.clients client) in moved (noticed_by world client) client (stepped_later off client step)
        (λ g x. l.notice world client v g cut x)
        (λ c ne. unmoved_then world off _ c (unmoved_link world client Link.Down c ne) (unmoved_stepped off client step c ne))
    -- nothing is said of the client that strayed
    by_move (Move.Stray client request) (up, has) = λ c good w.
        let u = unmoved_strayed world client request c (λ e. clash (has_strayed c world.past)
        (ap (λ d. has_strayed d world.past) (sym e) ∙ has) good) in
        let was = back world (strayed world client request) c u.link w in k.unmoved world (strayed world client request) c
        (record { all = v; good = good; when = was }) u (a c good was)

-- what is said over any link
pub own_moves : (V : World → Type 0) (A : World → ℕ → Type 0) → ((world : World) → V world → Ground world)
    → IsOwnMoved V Always A → IsLinkMoved V A → IsMoved V (OfGood A)
own_moves V A ground k l world move may v a c good = all_moves V Always A ground (λ was new d link w. w) k (record {
  cut = λ was d known fine up x w. l.cut was d known fine up (x tt);
  connect = λ was d known fine down x w. l.connect was d known fine down (x tt);
  notice = λ was d known fine cut x w. l.notice was d known fine cut (x tt);
}) world move may v (λ d fine w. a d fine) c good tt

pub never_cut : (world : World) (c : ℕ) → IsUp (cut_off world c) c → ⊥
never_cut world c on = true≢false (sym on ∙ ap is_up (put_same world.links c Link.Cut))

pub never_noticed : (world : World) (c : ℕ) → IsUp (noticed_by world c) c → ⊥
never_noticed world c on = true≢false (sym on
    ∙ ap is_up (link_after (record world { links = put world.links c Link.Down }) c (noticed (world.clients c)))
    ∙ ap is_up (put_same world.links c Link.Down))

-- what is said while the client's link is up
pub up_moves : (V : World → Type 0) (A : World → ℕ → Type 0) → ((world : World) → V world → Ground world)
    → IsOwnMoved V IsUp A
    → ((world : World) (c : ℕ) → Ground world → world.links c ≡ Link.Down → A (connected world c) c)
    → IsMoved V (OfGood (λ world c. IsUp world c → A world c))
up_moves V A ground k connects = all_moves V IsUp A ground (λ world new c link up. ap is_up (sym link) ∙ up) k (record {
  cut = λ world c v good up a on. absurd (never_cut world c on);
  connect = λ world c v good down a up. connects world c (ground world v) down;
  notice = λ world c v good cut a on. absurd (never_noticed world c on);
})
