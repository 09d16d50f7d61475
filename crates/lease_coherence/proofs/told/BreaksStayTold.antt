-- Every move leaves each break told, of each client that hasn't strayed, while its link is up.
use Rattle.lease_laws.proofs.Words.{◌++◌, ◌+◌, ◌∙◌, ◌∷◌, ◌≡◌, Among, Client, FileRequest, IsSound, Link, List, LiveEntry, Open}
use Rattle.lease_laws.proofs.Words.{Phase, Reply, Request, Server, Some, Status, Step, World, ℕ, ⊎_elim, ap, arith, commanded}
use Rattle.lease_laws.proofs.Words.{connection_made, false, has_file, has_key, has_strayed, inl, inr, is_breaking, is_up}
use Rattle.lease_laws.proofs.Words.{key_of, lease_key, machine_key, refl, stepped_in, subst, sym, taken, true}
use Rattle.lease_laws.proofs.client.Forms.{commanded-stays, taken-stays}
use Rattle.lease_laws.proofs.client.Thin.{put_same}
use Rattle.lease_laws.proofs.client.cases.Commands.{any_command}
use Rattle.lease_laws.proofs.client.cases.Replies.{any_reply, is_live}
use Rattle.lease_laws.proofs.server.Lists.{clash}
use Rattle.lease_laws.proofs.world.Runs.{stepped_server}
use Rattle.lease_coherence.specs.Agreement.{as_requests, asked_of}
use Rattle.lease_coherence.specs.Creates.{answers, asked_by, creates, has_asked, held_by, one_if, under_way}
use Rattle.lease_coherence.specs.Names.{Each, IsNamedAt, IsNamedReply, IsOwnOpen}
use Rattle.lease_coherence.specs.Standing.{IsStandingAt, PhaseStands}
use Rattle.lease_coherence.proofs.beliefs.OneLease.{acks, acks_append}
use Rattle.lease_coherence.proofs.beliefs.Trust.{file_key}
use Rattle.lease_coherence.proofs.beliefs.TrustStays.{own_create}
use Rattle.lease_coherence.proofs.covered.CoveredOpens.{ClosedBefore, NotFailed, closed_more, never_granted}
use Rattle.lease_coherence.proofs.covered.Moves.{FailsGone, HasCovered}
use Rattle.lease_coherence.proofs.covered.OpensStayCovered.{counted_of, not_failed, quiet_of}
use Rattle.lease_coherence.proofs.layers.Layers.{HasLayers}
use Rattle.lease_coherence.proofs.moves.Deeds.{IsSource, told_to}
use Rattle.lease_coherence.proofs.moves.Events.{Ground, come_back, connected, reply_gone, reply_taken}
use Rattle.lease_coherence.proofs.moves.Foreign.{IsUnmoved, key_client, off_sound}
use Rattle.lease_coherence.proofs.moves.Frames.{from_source, stepped_replies}
use Rattle.lease_coherence.proofs.moves.Own.{IsOwnMoved, IsToldOf, IsUp}
use Rattle.lease_coherence.proofs.order.OrderedRequests.{append_three}
use Rattle.lease_coherence.proofs.standing.Standing.{IsStepped, step_of}
use Rattle.lease_coherence.proofs.told.BreaksMet.{HasMet, IsClosing, met_more}
use Rattle.lease_coherence.proofs.told.Clients.{StepTold, TakeTold, commands_told, takes_told, whole_of}
use Rattle.lease_coherence.proofs.told.Moves.{ClosedIn, HasTold, ToldBy, breaking_open, breaking_up, kept_told, off_server}
use Rattle.lease_coherence.proofs.told.Moves.{open_place, told_map}
use Rattle.lease_coherence.proofs.told.Servers.{begin_told, changed_told, closed_told, done_told, dropped_told, failed_told}
use Rattle.lease_coherence.proofs.told.Servers.{granted_told, held_told, lower_told, reconnected_told, refused_told}
use Rattle.lease_coherence.proofs.told.Servers.{replied_told, timer_told}

-- ---- what others do

unmoved_told : (world new : World) (c : ℕ) → IsUnmoved world new c → HasTold world c → HasTold new c
unmoved_told world new c u t = kept_told world new c u.machine (λ file fresh breaks.
    let phase = ((world.clients c).entries file).phase in
    told_map (file_key world c file) file phase phase (world.requests c) (new.requests c) (world.replies c) (new.replies c)
    (ClosedIn world (machine_key world c file) c file) (ClosedIn new (machine_key world c file) c file)
    (λ some none. some (ap (acks (file_key world c file)) (sym u.requests) ∙ none))
    (λ m. inr (inl (subst (HasMet (file_key world c file) file (is_live phase)) (sym u.replies) m)))
    (λ closed x there has. let by = client_of file x has in
    subst (λ q. ClosedBefore file x.file_id (as_requests (held_by c (new.server.held file)) ++ q)) (sym u.requests)
    (subst (λ l. ClosedBefore file x.file_id (as_requests l ++ world.requests c)) (sym (u.held file))
    (closed x (u.from x by there) has))) (t file (sym (u.expired (machine_key world c file) refl) ∙ fresh)
    (ap is_breaking (sym (u.leases (machine_key world c file) refl)) ∙ breaks)))
  where
    client_of : (file : ℕ) (x : Open) → has_key (machine_key world c file) x ≡ true → x.client ≡ c
    client_of file x has = sym (key_client (machine_key world c file) x has)

-- ---- a client connects: no lease of it is breaking

pub connect_told : (world : World) (c : ℕ) → Ground world → world.links c ≡ Link.Down → HasTold (connected world c) c
connect_told world c g down file fresh breaks =
    let new = connected world c in
    let key = machine_key new c file in
    let same : new.server ≡ _ = stepped_server (come_back world c) c (connection_made (world.clients c)) in
    let y = breaking_open world.server key g.fine.sound (ap (λ (s : Server). is_breaking (s.leases key)) (sym same) ∙ breaks) in
    clash (world.server.present c) (subst (λ d. world.server.present d ≡ true) (sym (key_client key y.0 y.2))
    (g.fine.orderly.opens_up y.0 y.1 (breaking_up world.server key y.0 g.fine.sound y.1 y.2
    (ap (λ (s : Server). is_breaking (s.leases key)) (sym same) ∙ breaks)))) ((g.tied c).present ∙ ap is_up down)

-- ---- steps of the client

step_told : (world before : World) (c : ℕ) (step : Step) → is_up (before.links c) ≡ true
    → step.client.guid ≡ (before.clients c).guid → before.server ≡ world.server → before.clients ≡ world.clients
    → before.requests ≡ world.requests → ((file : ℕ) → world.server.expired (machine_key world c file) ≡ false
    → is_breaking (world.server.leases (machine_key world c file)) ≡ true
    → ToldBy (file_key world c file) file (step.client.entries file).phase (world.requests c ++ step.requests) (before.replies c)
    ((x : Open) → Among x world.server.opens → has_key (machine_key world c file) x ≡ true
    → ClosedBefore file x.file_id (asked_of world c file ++ step.requests))) → HasTold (stepped_in before c step) c
step_told world before c step up guid server clients requests told file fresh breaks =
    subst (λ (m : Client). ToldBy (lease_key m.guid file) file (m.entries file).phase (new.requests c) (new.replies c)
    (ClosedIn new (key_of c (lease_key m.guid file)) c file)) (sym so.clients)
    (subst (λ g. ToldBy (lease_key g file) file (step.client.entries file).phase (new.requests c) (new.replies c)
    (ClosedIn new (key_of c (lease_key g file)) c file)) (sym same_guid)
    (subst (λ q. ToldBy (file_key world c file) file (step.client.entries file).phase q (new.replies c)
    (ClosedIn new (machine_key world c file) c file)) (sym queued)
    (subst (λ (r : ℕ → List Reply). ToldBy (file_key world c file) file (step.client.entries file).phase
    (world.requests c ++ step.requests) (r c) (ClosedIn new (machine_key world c file) c file))
    (sym (stepped_replies before c step))
    (told_map (file_key world c file) file (step.client.entries file).phase (step.client.entries file).phase
    (world.requests c ++ step.requests) (world.requests c ++ step.requests) (before.replies c) (before.replies c) _
    (ClosedIn new (machine_key world c file) c file) (λ a. a) (λ m. inr (inl m))
    (λ closed x there has. subst (ClosedBefore file x.file_id) asked
    (closed x (subst (λ (s : Server). Among x s.opens) (so.server ∙ server) there) has))
    (told file (key_same (λ k. world.server.expired k ≡ false) was_fresh) (key_same
    (λ k. is_breaking (world.server.leases k) ≡ true) was_breaking))))))
  where
    new : World
    new = stepped_in before c step

    so : IsStepped before (stepped_in before c step) c step.client step.requests
    so = step_of before c step up guid

    same_guid : step.client.guid ≡ (world.clients c).guid
    same_guid = guid ∙ ap (λ (m : ℕ → Client). (m c).guid) clients

    -- the key in the new world is that in the old one
    key_same : (P : _ → Type 0) → P (machine_key (stepped_in before c step) c file) → P (machine_key world c file)
    key_same P p = subst (λ g. P (key_of c (lease_key g file))) same_guid
        (subst (λ (m : Client). P (key_of c (lease_key m.guid file))) (step_of before c step up guid).clients p)

    was_fresh : world.server.expired (machine_key (stepped_in before c step) c file) ≡ false
    was_fresh = ap (λ (s : Server). s.expired (machine_key (stepped_in before c step) c file))
        (sym ((step_of before c step up guid).server ∙ server)) ∙ fresh

    was_breaking : is_breaking (world.server.leases (machine_key (stepped_in before c step) c file)) ≡ true
    was_breaking = ap (λ (s : Server). is_breaking (s.leases (machine_key (stepped_in before c step) c file)))
        (sym ((step_of before c step up guid).server ∙ server)) ∙ breaks

    queued : (stepped_in before c step).requests c ≡ world.requests c ++ step.requests
    queued = (step_of before c step up guid).queued ∙ ap (λ (q : ℕ → List Request). q c ++ step.requests) requests

    asked : asked_of world c file ++ step.requests ≡ asked_of (stepped_in before c step) c file
    asked = append_three (as_requests (held_by c (world.server.held file))) (world.requests c) step.requests
        ∙ ap (λ q. as_requests (held_by c (world.server.held file)) ++ q) (sym queued)
        ∙ ap (λ (s : Server). as_requests (held_by c (s.held file)) ++ (stepped_in before c step).requests c)
        (sym ((step_of before c step up guid).server ∙ server))

-- where the entry closes its open, each open of its key is being closed
closing_told : (world : World) (c file : ℕ) (step : Step) → IsSound world.server
    → ((x : Open) → Among x world.server.opens → x.client ≡ c → IsOwnOpen (world.clients c).guid x)
    → under_way world c file ≡ asked_by (world.clients c) file → HasCovered world c
    → world.server.expired (machine_key world c file) ≡ false
    → is_breaking (world.server.leases (machine_key world c file)) ≡ true → IsClosing (world.clients c) step file
    → (x : Open) → Among x world.server.opens → has_key (machine_key world c file) x ≡ true
    → ClosedBefore file x.file_id (asked_of world c file ++ step.requests)
closing_told world c file step sound own counted h fresh breaks k x there has =
    let place = open_place world c file x (own x there) has in
    let up = breaking_up world.server (machine_key world c file) x sound there has breaks in
    let cover = h.covers x there place.0 up
    (subst (λ f. world.server.expired (machine_key world c f) ≡ false) (sym place.1) fresh) in
    let idle : has_asked ((world.clients c).entries file).phase ≡ false = ap has_asked k.was ∙ k.idle in
    subst (λ f. ClosedBefore f x.file_id (asked_of world c f ++ step.requests)) place.1 (⊎_elim
    (λ u. subst (λ f. ClosedBefore f x.file_id (asked_of world c f ++ step.requests)) (sym place.1)
    (subst (λ i. ClosedBefore file i (asked_of world c file ++ step.requests))
    (ap (λ (l : LiveEntry). l.file_id) (one_live k.live u.live
    (sym k.was ∙ ap (λ f. ((world.clients c).entries f).phase) (sym place.1) ∙ u.is)) ∙ u.id)
    (k.closes (asked_of world c file) (quiet_of world c file counted idle))))
    (λ y. ⊎_elim (λ z. closed_more x.file x.file_id (asked_of world c x.file) step.requests z)
    (λ granted. absurd (never_granted x.file x.file_id (world.replies c)
    (subst (λ f. answers f (world.replies c) ≡ 0) (sym place.1)
    (omega (arith, counted_of world c file counted ∙ ap one_if idle))) granted)) y) cover)
  where
    one_live : (a b : LiveEntry) → Phase.Live a ≡ Phase.Live b → a ≡ b
    one_live a b e = cc

more_acks : (key : List ℕ) (queue more : List Request) → (acks key queue ≡ 0 → ⊥) → acks key (queue ++ more) ≡ 0 → ⊥
more_acks key queue more some e = some (omega (arith, sym (acks_append key queue more) ∙ e))

new_acks : (key : List ℕ) (queue more : List Request) → (acks key more ≡ 0 → ⊥) → acks key (queue ++ more) ≡ 0 → ⊥
new_acks key queue more some e = some (omega (arith, sym (acks_append key queue more) ∙ e))

-- what is known of a client whose link is up
pub record IsKnownHere (world : World) (c : ℕ) : Type 0 where
  pub ground : Ground world
  pub names : IsNamedAt world c
  pub counted : (file : ℕ) → under_way world c file ≡ asked_by (world.clients c) file
  pub stands : IsStandingAt world c
  pub covered : HasCovered world c

command_told : (world : World) (c : ℕ) (step : Step) → is_up (world.links c) ≡ true
    → step.client.guid ≡ (world.clients c).guid → StepTold (world.clients c) step → IsKnownHere world c → HasTold world c
    → HasTold (stepped_in world c step) c
command_told world c step up guid tells k t = step_told world world c step up guid refl refl refl (λ file fresh breaks.
    let key = file_key world c file in
    let phase = ((world.clients c).entries file).phase in
    told_map key file phase (step.client.entries file).phase (world.requests c) (world.requests c ++ step.requests)
    (world.replies c) (world.replies c) (ClosedIn world (machine_key world c file) c file) _
    (more_acks key (world.requests c) step.requests)
    (λ m. ⊎_elim (λ stays. inr (inl (met_more key file (is_live phase) (is_live (step.client.entries file).phase)
    (world.replies c) stays m)))
    (λ closing. inr (inr (λ x there has. closing_told world c file step k.ground.fine.sound k.names.opens (k.counted file)
    k.covered fresh breaks closing x there has))) (tells file))
    (λ closed x there has. closed_more file x.file_id (asked_of world c file) step.requests (closed x there has))
    (t file fresh breaks))

-- the open of a live entry is there, so no reply that it wasn't found is on its way
pub live_not_failed : (world : World) (c file : ℕ) (reply : Reply) → IsStandingAt world c
    → ((x : Open) → Among x world.server.opens → x.client ≡ c → IsOwnOpen (world.clients c).guid x)
    → world.server.expired (machine_key world c file) ≡ false → FailsGone world c reply → (live : LiveEntry)
    → ((world.clients c).entries file).phase ≡ Phase.Live live → NotFailed live.file_id reply
live_not_failed world c file reply s own fresh fails live is = by_stands (subst (PhaseStands world c file) is (s.phases file))
  where
    by_stands : PhaseStands world c file (Phase.Live live) → NotFailed live.file_id reply
    by_stands p = ⊎_elim (λ out. clash (world.server.expired (machine_key world c file)) out fresh)
        (λ o. subst (λ i. NotFailed i reply) o.id (not_failed world c reply o.one o.there o.by
        (subst (λ f. world.server.expired (machine_key world c f) ≡ false) (sym o.on_file) fresh) fails)) p.0

take_told : (world : World) (c : ℕ) (reply : Reply) (queue : List Reply) → world.replies c ≡ reply ∷ queue
    → is_up (world.links c) ≡ true → IsKnownHere world c → HasTold world c → HasTold (reply_taken world c reply queue) c
take_told world c reply queue first up k t =
    let gone = reply_gone world c queue in
    let machine = world.clients c in
    let step = taken machine reply in
    let left : gone.replies c ≡ queue = put_same world.replies c queue in
    step_told world gone c step up (taken-stays machine reply).guid refl refl refl (λ file fresh breaks.
    let key = file_key world c file in
    let phase = (machine.entries file).phase in
    told_map key file phase (step.client.entries file).phase (world.requests c) (world.requests c ++ step.requests)
    (world.replies c) (gone.replies c) (ClosedIn world (machine_key world c file) c file) _
    (more_acks key (world.requests c) step.requests)
    (λ m. ⊎_elim (λ sent. inl (new_acks key (world.requests c) step.requests sent))
    (λ x. ⊎_elim (λ met. inr (inl (subst (HasMet key file (is_live (step.client.entries file).phase)) (sym left) met)))
    (λ closing. inr (inr (λ y there has. closing_told world c file step k.ground.fine.sound k.names.opens (k.counted file)
    k.covered fresh breaks closing y there has))) x)
    (any_reply machine (TakeTold machine) (takes_told machine (k.ground.clients c)) reply
    (whole_of c world.past reply (named_head (subst (Each (IsNamedReply c world.past)) first k.names.replies)))
    queue file (asked_of world c file) (record {
      counted = subst (λ q. creates file (asked_of world c file) + answers file q ≡ asked_by machine file) first
          (counted_of world c file (k.counted file));
      not_failed = live_not_failed world c file reply k.stands k.names.opens fresh
          (fails_head (subst (Each (FailsGone world c)) first k.covered.fails));
    }) (subst (HasMet key file (is_live phase)) first m)))
    (λ closed x there has. closed_more file x.file_id (asked_of world c file) step.requests (closed x there has))
    (t file fresh breaks))
  where
    named_head : Each (IsNamedReply c world.past) (reply ∷ queue) → IsNamedReply c world.past reply
    named_head each = each.0

    fails_head : Each (FailsGone world c) (reply ∷ queue) → FailsGone world c reply
    fails_head each = each.0

-- ---- all moves

pub known_here : (world : World) → HasLayers world → (c : ℕ) → has_strayed c world.past ≡ false
    → is_up (world.links c) ≡ true → IsKnownHere world c
known_here world v c good up = record {
  ground = v.ground;
  names = v.named c good;
  counted = v.creates c good up;
  stands = v.opens c good up;
  covered = v.covered c good up;
}

off_own : (world off : World) → HasLayers world → (c : ℕ) (request : FileRequest) → has_strayed c world.past ≡ false
    → IsSource world off c request → (x : Open) → Among x off.server.opens → x.client ≡ c → IsOwnOpen (world.clients c).guid x
off_own world off v c request good source x there by = (v.named c good).opens x
    (subst (λ (l : List Open). Among x l) (off_server world off c request source).opens there) by

off_file : (world off : World) (c : ℕ) (request : FileRequest) → IsSource world off c request → (file : ℕ)
    → has_file off.server file ≡ true → has_file world.server file ≡ true
off_file world off c request source file = from_source world off c request
    (λ o. has_file o.server file ≡ true → has_file world.server file ≡ true) source (λ e. e) (λ at left e. e)

-- a request that is answered, where nothing else changes
answer_told : (world off : World) (c : ℕ) (request : FileRequest) (reply : Reply) → IsSource world off c request
    → IsSound off.server → ((x : Open) → Among x off.server.opens → x.client ≡ c → IsOwnOpen (world.clients c).guid x)
    → IsToldOf off c request reply → HasTold world c → HasTold (told_to off c reply) c
answer_told world off c request reply source sound own (IsToldOf.Refused asked status may) t =
    refused_told world off c asked status source sound own may t
answer_told world off c request reply source sound own (IsToldOf.Full file access share ask) t =
    replied_told world off c (FileRequest.Create file access share (Some ask))
    (Reply.CreateFailed file Status.InsufficientResources) source (λ at x there has breaks. tt) t
answer_told world off c request reply source sound own (IsToldOf.Read file_id one found may) t =
    replied_told world off c (FileRequest.Read file_id) (Reply.ReadDone file_id (off.server.contents one.file)) source
    (λ at x there has breaks. tt) t

pub told_moves : IsOwnMoved HasLayers IsUp HasTold
told_moves = record {
  unmoved = λ world new c k u a. unmoved_told world new c u a;
  told = λ world off c request reply k source is a. answer_told world off c request reply source
      (off_sound world off c request source k.all.ground.fine.sound) (off_own world off k.all c request k.good source) is a;
  granted = λ world off c file access share ask k source none on free a.
      let request = FileRequest.Create file access share (Some ask) in
      let own = own_create world off c file access share ask source (k.all.named c k.good) in
      let same = from_source world off c request (λ o. o.clients ≡ world.clients) source refl (λ at left. refl) in
      granted_told world off c file access share ask own.lease own.asks
      (own.key ∙ ap (λ (m : ℕ → Client). lease_key (m c).guid file) same) (k.all.named c k.good) source k.all.ground
      (off_file world off c request source file on) a;
  reconnected = λ world off c file access share ask file_id k source again on waits a.
      reconnected_told world off c file access share ask file_id source a;
  changed = λ world off c file_id number patch one k source found may a.
      changed_told world off c one.file file_id number patch source a;
  closed = λ world off c file_id one k source found a.
      closed_told world off c file_id source a;
  ack_failed = λ world c given status k oldest why a.
      failed_told world c given status oldest why (k.all.ground).fine.sound (k.all.beliefs c k.good k.when) a;
  ack_done = λ world c given lowered k oldest there breaks within a. done_told world c given oldest a;
  hold = λ world file one k oldest may turn a. held_told world file one oldest turn k.all.ground
      (k.all.named one.client k.good).opens a;
  dropped = λ world c test k away a. dropped_told world c test a;
  lower = λ world key lowered k may light a. lower_told world key lowered a;
  begin = λ world key lowered k may heavy a. begin_told world key lowered may heavy
      (k.all.named key.client k.good).opens (k.all.covered key.client k.good k.when) a;
  timer = λ world c file k on breaks a. timer_told world c file a;
  command = λ world c command k a.
      let machine = world.clients c in
      command_told world c (commanded machine command) k.when (commanded-stays machine command).guid
      (any_command machine (StepTold machine) (commands_told machine) command) (known_here world k.all c k.good k.when) a;
  take = λ world c reply queue k first a.
      take_told world c reply queue first k.when (known_here world k.all c k.good k.when) a;
}
