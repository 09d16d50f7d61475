-- A break that asks for no acknowledgment leaves nothing to its lease: as long as it is on its way with no grant after it,
-- the lease holds no handles.
use Rattle.lease_laws.proofs.Words.{◌&&◌, ◌++◌, ◌==◌, ◌||◌, ◌∙◌, ◌∷◌, ◌≡◌, ◌⊎◌, Access, Bool, Client, CreateAsk, Event}
use Rattle.lease_laws.proofs.Words.{FileRequest, Key, Lease, LeaseOf, Link, List, None, Open, Reply, Server, Setup, Share, Some}
use Rattle.lease_laws.proofs.Words.{State, Step, World, ℕ, [], ⊎_elim, ⊤, after, ap, break_notice, bytes_eq, bytes_eq-Decides}
use Rattle.lease_laws.proofs.Words.{commanded, connection_made, eq-eqb, false, first_world_under, granted_form_of, has_key, inl, inr}
use Rattle.lease_laws.proofs.Words.{is_state_within, key_eq, key_of, lease_after, lease_key, lease_put, list_any, machine_key}
use Rattle.lease_laws.proofs.Words.{needs_acknowledgment, no_lease, not, nothing_cached, noticed, put, refl, stepped_in, subst}
use Rattle.lease_laws.proofs.Words.{sym, taken, true, true≢false, with_opens, without}
use Rattle.lease_laws.proofs.Words.{Rules}
use Rattle.lease_laws.proofs.client.Forms.{commanded-stays, taken-stays}
use Rattle.lease_laws.proofs.client.Thin.{put_same}
use Rattle.lease_laws.proofs.server.Keys.{key_eq-refl, put_key-cases}
use Rattle.lease_laws.proofs.server.Lists.{and_parts, clash, either, if_cases, not_parts}
use Rattle.lease_laws.proofs.world.Runs.{stepped_server}
use Rattle.lease_coherence.specs.Names.{Each}
use Rattle.lease_coherence.proofs.beliefs.Forms.{keys_apart}
use Rattle.lease_coherence.proofs.beliefs.OneLease.{is_created}
use Rattle.lease_coherence.proofs.beliefs.Trust.{file_key}
use Rattle.lease_coherence.proofs.beliefs.TrustStays.{own_create}
use Rattle.lease_coherence.proofs.creates.Creates.{stepped_machine}
use Rattle.lease_coherence.proofs.layers.AllRuns.{layers_carried, run_layers}
use Rattle.lease_coherence.proofs.layers.Layers.{HasLayers}
use Rattle.lease_coherence.proofs.moves.Deeds.{IsSource, changed_in, done_reply, granted_in, granted_reply, leased_in}
use Rattle.lease_coherence.proofs.moves.Deeds.{reconnected_in, reconnected_reply, told_to, without_opens}
use Rattle.lease_coherence.proofs.moves.Events.{Both, IsCarried, carried_both, come_back, cut_off, reply_gone, runs_have}
use Rattle.lease_coherence.proofs.moves.Events.{timed_out}
use Rattle.lease_coherence.proofs.moves.Frames.{from_source, stepped_replies}
use Rattle.lease_coherence.proofs.moves.Moves.{popped}
use Rattle.lease_coherence.proofs.moves.Own.{Always, IsLinkMoved, IsOwnMoved, OfGood, is_bare, own_moves, told_bare}

-- ---- one file

abbrev pub is_lone_break : List ℕ → Reply → Bool
is_lone_break key (Reply.Break (Some notice)) = not notice.ack_required && bytes_eq key notice.key
is_lone_break key reply = false

abbrev pub NoneCreated : ℕ → List Reply → Type 0
NoneCreated file queue = Each (λ reply. is_created file reply ≡ false) queue

abbrev pub AfterLone : List ℕ → ℕ → Bool → List Reply → Type 0
AfterLone key file handles [] = ⊤
AfterLone key file handles (reply ∷ queue) =
    (is_lone_break key reply ≡ true → NoneCreated file queue → handles ≡ false) × AfterLone key file handles queue

contra : (less more : Bool) → (less ≡ true → more ≡ true) → more ≡ false → less ≡ false
contra true more f e = clash more (f refl) e
contra false more f e = refl

after_less : (key : List ℕ) (file : ℕ) (more less : Bool) (queue : List Reply) → (less ≡ true → more ≡ true)
    → AfterLone key file more queue → AfterLone key file less queue
after_less key file more less [] f a = tt
after_less key file more less (reply ∷ queue) f a =
    (λ is none. contra less more f (a.0 is none), after_less key file more less queue f a.1)

none_before : (file : ℕ) (queue : List Reply) (last : Reply) → NoneCreated file (queue ++ last ∷ []) → NoneCreated file queue
none_before file [] last none = tt
none_before file (reply ∷ queue) last none = (none.0, none_before file queue last none.1)

none_last : (file : ℕ) (queue : List Reply) (last : Reply) → NoneCreated file (queue ++ last ∷ []) → is_created file last ≡ false
none_last file [] last none = none.0
none_last file (reply ∷ queue) last none = none_last file queue last none.1

-- one more reply, which is a grant, or finds the lease with no more handles
after_last : (key : List ℕ) (file : ℕ) (old new : Bool) (queue : List Reply) (last : Reply)
    → (is_created file last ≡ true) ⊎ (new ≡ true → old ≡ true) → (is_lone_break key last ≡ true → new ≡ false)
    → AfterLone key file old queue → AfterLone key file new (queue ++ last ∷ [])
after_last key file old new [] last fits lone a = (λ is none. lone is, tt)
after_last key file old new (reply ∷ queue) last fits lone a = (
  λ is none. ⊎_elim (λ made. clash (is_created file last) made (none_last file queue last none))
      (λ less. contra new old less (a.0 is (none_before file queue last none))) fits,
  after_last key file old new queue last fits lone a.1,
)

-- ---- one client

abbrev pub holds_handles : World → ℕ → ℕ → Bool
holds_handles world c file = (world.server.leases (machine_key world c file)).state.handle

abbrev pub HasLone : World → ℕ → Type 0
HasLone world c = (file : ℕ) → AfterLone (file_key world c file) file (holds_handles world c file) (world.replies c)

-- what follows of the lease of each file
abbrev KeepsHandles : World → World → ℕ → ℕ → Type 0
KeepsHandles world new c file =
    (new.server.leases (machine_key world c file)).state.handle ≡ true → holds_handles world c file ≡ true

by_guid : (world new : World) (c file : ℕ) (queue : List Reply) → (new.clients c).guid ≡ (world.clients c).guid
    → new.replies c ≡ queue
    → AfterLone (file_key world c file) file (new.server.leases (machine_key world c file)).state.handle queue
    → AfterLone (file_key new c file) file (holds_handles new c file) (new.replies c)
by_guid world new c file queue guid replies a = subst
    (λ g. AfterLone (lease_key g file) file (new.server.leases (key_of c (lease_key g file))).state.handle (new.replies c))
    (sym guid) (subst (AfterLone (file_key world c file) file
    (new.server.leases (machine_key world c file)).state.handle) (sym replies) a)

stays_lone : (world new : World) (c : ℕ) → (new.clients c).guid ≡ (world.clients c).guid → new.replies c ≡ world.replies c
    → ((file : ℕ) → KeepsHandles world new c file) → HasLone world c → HasLone new c
stays_lone world new c guid replies keeps h file = by_guid world new c file (world.replies c) guid replies
    (after_less (file_key world c file) file (holds_handles world c file) _ (world.replies c) (keeps file) (h file))

sent_lone : (world new : World) (c : ℕ) (reply : Reply) → (new.clients c).guid ≡ (world.clients c).guid
    → new.replies c ≡ world.replies c ++ reply ∷ []
    → ((file : ℕ) → (is_created file reply ≡ true) ⊎ KeepsHandles world new c file)
    → ((file : ℕ) → is_lone_break (file_key world c file) reply ≡ true
    → (new.server.leases (machine_key world c file)).state.handle ≡ false) → HasLone world c → HasLone new c
sent_lone world new c reply guid replies fits lone h file = by_guid world new c file (world.replies c ++ reply ∷ []) guid replies
    (after_last (file_key world c file) file (holds_handles world c file) _ (world.replies c) reply (fits file) (lone file)
    (h file))

-- a reply that is no break, to the client of a world in which leases hold no more
plain_lone : (world new : World) (c : ℕ) (reply : Reply) → (new.clients c).guid ≡ (world.clients c).guid
    → new.replies c ≡ put world.replies c (world.replies c ++ reply ∷ []) c → ((file : ℕ) → KeepsHandles world new c file)
    → ((key : List ℕ) → is_lone_break key reply ≡ false) → HasLone world c → HasLone new c
plain_lone world new c reply guid replies keeps none h = sent_lone world new c reply guid
    (replies ∙ put_same world.replies c (world.replies c ++ reply ∷ [])) (λ file. inr (keeps file))
    (λ file is. clash (is_lone_break (file_key world c file) reply) is (none (file_key world c file))) h

off_lone : (world off : World) (c : ℕ) (request : FileRequest) → IsSource world off c request → HasLone world c → HasLone off c
off_lone world off c request source h = from_source world off c request (λ o. HasLone o c) source h (λ at left. h)

bare_no_break : (reply : Reply) → is_bare reply → (key : List ℕ) → is_lone_break key reply ≡ false
bare_no_break (Reply.Break notice) bare key = absurd bare
bare_no_break reply bare key = refl

with_handles : (server : Server) (opens : List Open) (key : Key) → ((with_opens server opens).leases key).state.handle ≡ true
    → (server.leases key).state.handle ≡ true
with_handles server opens key = if_cases
    (λ (l : Lease). l.state.handle ≡ true → (server.leases key).state.handle ≡ true)
    (list_any (has_key key) opens) (server.leases key) no_lease (λ there e. e) (λ gone e. absurd (true≢false (sym e)))

-- ---- states

part_of : (p q : Bool) → (not p || q) ≡ true → p ≡ true → q ≡ true
part_of true q e h = e
part_of false q e h = absurd (true≢false (sym h))

handles_within : (one other : State) → is_state_within one other ≡ true → one.handle ≡ true → other.handle ≡ true
handles_within one other w = part_of one.handle other.handle (and_parts _ _ w).1

form_handles : (state : State) → (granted_form_of state).handle ≡ true → state.handle ≡ true
form_handles state = if_cases (λ (s : State). s.handle ≡ true → state.handle ≡ true) state.read state nothing_cached
    (λ reads h. h) (λ none h. absurd (true≢false (sym h)))

no_handles : (state : State) → needs_acknowledgment state ≡ false → state.handle ≡ false
no_handles state e = second state.write state.handle e
  where
    second : (a b : Bool) → (a || b) ≡ false → b ≡ false
    second true b e = absurd (true≢false e)
    second false b e = e

-- ---- a lease is put, and its client told

put_lone : (world : World) (key : Key) (lease : Lease) (reply : Reply)
    → (lease.state.handle ≡ true → (world.server.leases key).state.handle ≡ true)
    → ((bytes : List ℕ) → is_lone_break bytes reply ≡ true → (bytes ≡ key.bytes) × (lease.state.handle ≡ false))
    → HasLone world key.client → HasLone (leased_in world key lease reply) key.client
put_lone world key lease reply less lone h = sent_lone world (leased_in world key lease reply) key.client reply refl
    (put_same world.replies key.client (world.replies key.client ++ reply ∷ []))
    (λ file. inr (put_key-cases (λ (l : Lease). l.state.handle ≡ true → holds_handles world key.client file ≡ true)
    world.server.leases key lease (machine_key world key.client file)
    (λ same e. ap (λ k. (world.server.leases k).state.handle) same ∙ less e) (λ other e. e)))
    (λ file is. let l = lone (file_key world key.client file) is in
    put_key-cases (λ (l : Lease). l.state.handle ≡ false) world.server.leases key lease (machine_key world key.client file)
    (λ same. l.1) (λ other. clash (key_eq (machine_key world key.client file) key) (same_key file l.0) other)) h
  where
    same_key : (file : ℕ) → file_key world key.client file ≡ key.bytes → key_eq (machine_key world key.client file) key ≡ true
    same_key file e = ap (λ b. key_eq (key_of key.client b) key) e ∙ key_eq-refl key

-- ---- grants

granted_lone : (off : World) (c file : ℕ) (access : Access) (share : Share) (ask : CreateAsk) (asked : LeaseOf)
    → ask.lease ≡ Some asked → asked.key ≡ lease_key (off.clients c).guid file → HasLone off c
    → HasLone (granted_in off c file access share ask (lease_after off.server c file ask.lease)) c
granted_lone off c file access share ask asked e named h =
    let lease = lease_after off.server c file ask.lease in
    let reply = granted_reply off.server file ask lease in
    sent_lone off (granted_in off c file access share ask lease) c reply refl
    (put_same off.replies c (off.replies c ++ reply ∷ []))
    (λ at. either (file == at) (λ here. inl here) (λ there. inr (others at there)))
    (λ at is. absurd (true≢false (sym is))) h
  where
    others : (at : ℕ) → (file == at) ≡ false → KeepsHandles off (granted_in off c file access share ask
        (lease_after off.server c file ask.lease)) c at
    others at there = subst (λ o. ((lease_put off.server c o (lease_after off.server c file o)).leases
        (machine_key off c at)).state.handle ≡ true → holds_handles off c at ≡ true) (sym e)
        (put_key-cases (λ (l : Lease). l.state.handle ≡ true → holds_handles off c at ≡ true) off.server.leases
        (key_of c asked.key) (lease_after off.server c file (Some asked)) (machine_key off c at)
        (λ same x. absurd (apart at there (ap (λ (k : Key). k.bytes) same ∙ named))) (λ other x. x))
      where
        apart : (at : ℕ) → (file == at) ≡ false → file_key off c at ≡ lease_key (off.clients c).guid file → ⊥
        apart at there same = clash (bytes_eq (file_key off c at) (lease_key (off.clients c).guid file))
            ((bytes_eq-Decides (file_key off c at) (lease_key (off.clients c).guid file)).1 same)
            (keys_apart (off.clients c).guid at file (λ e. clash (file == at) (eq-eqb file at (sym e)) there))

-- ---- steps of the client

step_lone : (world before : World) (c : ℕ) (step : Step)
    → ((key : Key) → (before.server.leases key).state.handle ≡ true → (world.server.leases key).state.handle ≡ true)
    → step.client.guid ≡ (world.clients c).guid → before.replies c ≡ world.replies c → HasLone world c
    → HasLone (stepped_in before c step) c
step_lone world before c step leases guid replies h = stays_lone world (stepped_in before c step) c
    (ap (λ (m : Client). m.guid) (stepped_machine before c step) ∙ guid)
    (ap (λ (r : ℕ → List Reply). r c) (stepped_replies before c step) ∙ replies)
    (λ file e. leases (machine_key world c file)
    (ap (λ (s : Server). (s.leases (machine_key world c file)).state.handle) (sym (stepped_server before c step)) ∙ e)) h

gone_lone : (world : World) (c : ℕ) (reply : Reply) (queue : List Reply) → world.replies c ≡ reply ∷ queue
    → HasLone world c → HasLone (reply_gone world c queue) c
gone_lone world c reply queue first h file = by_guid world (reply_gone world c queue) c file queue refl
    (put_same world.replies c queue) (behind (subst (AfterLone (file_key world c file) file (holds_handles world c file)) first
    (h file)))
  where
    behind : AfterLone (file_key world c file) file (holds_handles world c file) (reply ∷ queue)
        → AfterLone (file_key world c file) file (holds_handles world c file) queue
    behind a = a.1

noticed_guid : (client : Client) → (noticed client).client.guid ≡ client.guid
noticed_guid client = refl

connected_guid : (client : Client) → (connection_made client).client.guid ≡ client.guid
connected_guid client = refl

come_back_leases : (world : World) (c : ℕ) (key : Key) → ((come_back world c).server.leases key).state.handle ≡ true
    → (world.server.leases key).state.handle ≡ true
come_back_leases world c key e = e

timer_leases : (world : World) (c file : ℕ) (key : Key) → ((timed_out world c file).server.leases key).state.handle ≡ true
    → (world.server.leases key).state.handle ≡ true
timer_leases world c file key e =
    with_handles world.server (without (has_key (machine_key world c file)) world.server.opens) key e

-- ---- all moves

pub lone_moves : IsOwnMoved HasLayers Always HasLone
lone_moves = record {
  unmoved = λ world new c k u a. stays_lone world new c (ap (λ (m : Client). m.guid) u.machine) u.replies
      (λ file e. ap (λ (l : Lease). l.state.handle) (sym (u.leases (machine_key world c file) refl)) ∙ e) a;
  told = λ world off c request reply k source is a. plain_lone off (told_to off c reply) c reply refl refl (λ file e. e)
      (bare_no_break reply (told_bare off c request reply is)) (off_lone world off c request source a);
  granted = λ world off c file access share ask k source none on free a.
      let own = own_create world off c file access share ask source (k.all.named c k.good) in
      granted_lone off c file access share ask own.lease own.asks own.key
      (off_lone world off c (FileRequest.Create file access share (Some ask)) source a);
  reconnected = λ world off c file access share ask file_id k source again on waits a.
      plain_lone off (reconnected_in off c file ask file_id) c (reconnected_reply off.server c file ask file_id) refl refl
      (λ at e. e) (λ key. refl) (off_lone world off c (FileRequest.Create file access share (Some ask)) source a);
  changed = λ world off c file_id number patch one k source found may a.
      plain_lone off (changed_in off c one.file file_id number patch) c (Reply.WriteDone file_id number) refl refl
      (λ at e. e) (λ key. refl) (off_lone world off c (FileRequest.Write file_id number patch) source a);
  closed = λ world off c file_id one k source found a.
      let test : Open → Bool = λ other. other.file_id == file_id in
      plain_lone off (told_to (without_opens off test) c (Reply.Closed file_id)) c (Reply.Closed file_id) refl refl
      (λ at e. with_handles off.server (without test off.server.opens) (machine_key off c at) e) (λ key. refl)
      (off_lone world off c (FileRequest.Close file_id) source a);
  ack_failed = λ world c given status k oldest why a.
      plain_lone (popped world c) (told_to (popped world c) c (Reply.AckFailed status)) c (Reply.AckFailed status) refl refl
      (λ at e. e) (λ key. refl) a;
  ack_done = λ world c given lowered k oldest there breaks within a.
      put_lone (popped world c) (key_of c given.key) (record { state = granted_form_of given.state; broken_to = None })
      (done_reply given) (λ h. handles_within lowered (world.server.leases (key_of c given.key)).state
      ((k.all.ground.fine.sound.lawful (key_of c given.key)).is_broken_so lowered breaks).is_part
      (handles_within given.state lowered within (form_handles given.state h)))
      (λ bytes is. absurd (true≢false (sym is))) a;
  hold = λ world file one k oldest may turn a. a;
  dropped = λ world c test k away a. stays_lone world (without_opens world test) c refl refl
      (λ at e. with_handles world.server (without test world.server.opens) (machine_key world c at) e) a;
  lower = λ world key lowered k may light a.
      let state = (world.server.leases key).state in
      let less = handles_within lowered state may.is_lowered.is_part in
      put_lone world key (record { state = lowered; broken_to = None }) (break_notice key state lowered) less
      (λ bytes is. (
        (bytes_eq-Decides bytes key.bytes).0 (and_parts _ _ is).1,
        contra lowered.handle state.handle less (no_handles state light),
      )) a;
  begin = λ world key lowered k may heavy a.
      let state = (world.server.leases key).state in
      put_lone world key (record { state = state; broken_to = Some lowered }) (break_notice key state lowered) (λ e. e)
      (λ bytes is. clash (needs_acknowledgment state) heavy (not_parts (needs_acknowledgment state) (and_parts _ _ is).0)) a;
  timer = λ world c file k on breaks a. stays_lone world (timed_out world c file) c refl refl
      (λ at e. timer_leases world c file (machine_key world c at) e) a;
  command = λ world c command k a. step_lone world world c (commanded (world.clients c) command) (λ key e. e)
      (commanded-stays (world.clients c) command).guid refl a;
  take = λ world c reply queue k first a.
      step_lone (reply_gone world c queue) (reply_gone world c queue) c (taken (world.clients c) reply) (λ key e. e)
      (taken-stays (world.clients c) reply).guid refl (gone_lone world c reply queue first a);
}

pub lone_link : IsLinkMoved HasLayers HasLone
lone_link = record {
  cut = λ world c v good up a file. by_guid world (cut_off world c) c file [] refl (put_same world.replies c []) tt;
  connect = λ world c v good down a. step_lone world (come_back world c) c (connection_made (world.clients c))
      (come_back_leases world c) (connected_guid (world.clients c)) refl a;
  notice = λ world c v good cut a. step_lone world (record world { links = put world.links c Link.Down }) c
      (noticed (world.clients c)) (λ key e. e) (noticed_guid (world.clients c)) refl a;
}

-- ---- all runs

abbrev pub HasLones : World → Type 0
HasLones = Both HasLayers (OfGood HasLone)

pub lones_carried : IsCarried HasLones
lones_carried = carried_both HasLayers (OfGood HasLone) layers_carried
    (own_moves HasLayers HasLone (λ world v. v.ground) lone_moves lone_link)

pub run_lones : (rules : Rules) (setup : Setup) (events : List Event) → HasLones (after (first_world_under rules setup) events)
unfolding first_world_under after
run_lones rules setup events = runs_have HasLones (λ world v. v.0.ground) lones_carried rules setup
    (run_layers rules setup [], λ client good file. tt) events
