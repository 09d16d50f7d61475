-- What the server does leaves each break told, in its forms.
use Rattle.lease_laws.proofs.Words.{◌&&◌, ◌++◌, ◌+◌, ◌==◌, ◌∙◌, ◌∷◌, ◌≡◌, Access, Among, Bool, CreateAsk, FileRequest, Held}
use Rattle.lease_laws.proofs.Words.{IsInTurn, IsSound, Key, Lease, LeaseOf, List, MayLower, MayRefuse, None, Ok, Open, Option}
use Rattle.lease_laws.proofs.Words.{Patch, Reply, Request, Server, Share, SmallStep, Some, State, Status, World, ℕ, [], ⊎_elim}
use Rattle.lease_laws.proofs.Words.{ap, arith, break_notice, bytes_eq, bytes_eq-Decides, connected_again, eq-eqb, eqb-true}
use Rattle.lease_laws.proofs.Words.{false, file_of_create, granted_form_of, has_file, has_key, has_lease, held_of, inl, inr}
use Rattle.lease_laws.proofs.Words.{is_breaking, is_state_within, key_eq, key_of, lease_after, lease_granted, lease_key}
use Rattle.lease_laws.proofs.Words.{lease_put, list_any, machine_key, needs_acknowledgment, new_open, no_lease, not, put, refl}
use Rattle.lease_laws.proofs.Words.{refusal_of, subst, sym, true, true≢false, with_opens, without}
use Rattle.lease_laws.proofs.client.Thin.{put_same}
use Rattle.lease_laws.proofs.client.cases.Replies.{is_live}
use Rattle.lease_laws.proofs.server.Goes.{one_id}
use Rattle.lease_laws.proofs.server.Keys.{put_key-cases}
use Rattle.lease_laws.proofs.server.Lists.{among_append, among_behind, among_filter, among_map, and_both, and_parts, clash}
use Rattle.lease_laws.proofs.server.Lists.{either, has_any, if_cases, not_parts, not_true, or_of_true, true_or}
use Rattle.lease_laws.proofs.server.cases.Judgements.{IsRefusedAck}
use Rattle.lease_coherence.specs.Agreement.{as_requests, asked_of}
use Rattle.lease_coherence.specs.Creates.{held_by, one_if}
use Rattle.lease_coherence.specs.Names.{Each, IsOwnOpen}
use Rattle.lease_coherence.specs.Names.{IsNamedAt}
use Rattle.lease_coherence.specs.Standing.{IsNoClose}
use Rattle.lease_coherence.proofs.beliefs.Closed.{left_there}
use Rattle.lease_coherence.proofs.beliefs.Forms.{keys_apart}
use Rattle.lease_coherence.proofs.beliefs.Grants.{grant_settled}
use Rattle.lease_coherence.proofs.beliefs.OneLease.{acks, is_ack_break, is_created}
use Rattle.lease_coherence.proofs.beliefs.Trust.{HasTrust, file_acks, file_key}
use Rattle.lease_coherence.proofs.covered.Asked.{first_asked, held_closed, popped_closed}
use Rattle.lease_coherence.proofs.covered.CoveredOpens.{ClosedBefore, HasGrant, IsGrantOf}
use Rattle.lease_coherence.proofs.covered.Moves.{HasCovered, refusal_closes}
use Rattle.lease_coherence.proofs.covered.OpensStayCovered.{own_place}
use Rattle.lease_coherence.proofs.moves.Deeds.{IsSource, changed_in, done_reply, granted_in, granted_reply, held_in, leased_in}
use Rattle.lease_coherence.proofs.moves.Deeds.{reconnected_in, reconnected_reply, told_to, without_opens}
use Rattle.lease_coherence.proofs.moves.Events.{Ground, timed_out}
use Rattle.lease_coherence.proofs.moves.Frames.{lease_put_rest}
use Rattle.lease_coherence.proofs.moves.Moves.{IsOldest, popped, rest_of}
use Rattle.lease_coherence.proofs.told.BreaksMet.{HasMet, is_granted, met_behind, met_granted, met_last}
use Rattle.lease_coherence.proofs.told.Moves.{ClosedIn, HasTold, IsSameServer, ToldBy, answered_told, breaking_open}
use Rattle.lease_coherence.proofs.told.Moves.{breaking_up, kept_told, off_server, open_place, plain_answered, told_map}
use Rattle.lease_coherence.proofs.within.BeliefsWithin.{AckFit, IsAckFit}

-- ---- a reply, and nothing else

pub replied_told : (world off : World) (c : ℕ) (request : FileRequest) (reply : Reply) → IsSource world off c request
    → ((file : ℕ) (x : Open) → Among x off.server.opens → has_key (machine_key world c file) x ≡ true
    → is_breaking (off.server.leases (machine_key world c file)) ≡ true → IsNoClose x.file_id (Request.OnFile request))
    → HasTold world c → HasTold (told_to off c reply) c
replied_told world off c request reply source none t = answered_told world off (told_to off c reply) c request reply source
    (plain_answered world off (told_to off c reply) c request reply source refl refl refl
    (put_same off.replies c (off.replies c ++ reply ∷ [])) refl refl refl none) t

-- a request that is refused closes no open that is there
pub refused_told : (world off : World) (c : ℕ) (request : FileRequest) (status : Status) → IsSource world off c request
    → IsSound off.server → ((x : Open) → Among x off.server.opens → x.client ≡ c → IsOwnOpen (world.clients c).guid x)
    → MayRefuse off.server c request status → HasTold world c → HasTold (told_to off c (refusal_of request status)) c
refused_told world off c request status source sound own may t =
    replied_told world off c request (refusal_of request status) source
    (λ file x there has breaks. refusal_closes off c request status may x there (open_place world c file x (own x there) has).0
    (breaking_up off.server (machine_key world c file) x sound there has breaks)) t

pub changed_told : (world off : World) (c file id number : ℕ) (patch : Patch)
    → IsSource world off c (FileRequest.Write id number patch) → HasTold world c
    → HasTold (changed_in off c file id number patch) c
changed_told world off c file id number patch source t =
    let reply = Reply.WriteDone id number in
    let request = FileRequest.Write id number patch in
    answered_told world off (changed_in off c file id number patch) c request reply source
    (plain_answered world off (changed_in off c file id number patch) c request reply source refl refl refl
    (put_same off.replies c (off.replies c ++ reply ∷ [])) refl refl refl (λ at x there has breaks. tt)) t

-- ---- opens that close

with_breaks : (server : Server) (opens : List Open) (key : Key) → is_breaking ((with_opens server opens).leases key) ≡ true
    → is_breaking (server.leases key) ≡ true
with_breaks server opens key = if_cases (λ (l : Lease). is_breaking l ≡ true → is_breaking (server.leases key) ≡ true)
    (list_any (has_key key) opens) (server.leases key) no_lease (λ there e. e) (λ gone e. absurd (true≢false (sym e)))

pub closed_told : (world off : World) (c id : ℕ) → IsSource world off c (FileRequest.Close id) → HasTold world c
    → HasTold (told_to (without_opens off (λ other. other.file_id == id)) c (Reply.Closed id)) c
closed_told world off c id source t =
    let test : Open → Bool = λ other. other.file_id == id in
    let reply = Reply.Closed id in
    let request = FileRequest.Close id in
    let new = told_to (without_opens off test) c reply in
    let eq = off_server world off c request source in
    answered_told world off new c request reply source (record {
      machine = refl;
      requests = refl;
      held = refl;
      replies = put_same off.replies c (off.replies c ++ reply ∷ []);
      fresh = λ file e. ap (λ (x : Key → Bool). x (machine_key world c file)) (sym eq.expired) ∙ e;
      breaks = λ file e. ap (λ (l : Key → Lease). is_breaking (l (machine_key world c file))) (sym eq.leases)
          ∙ with_breaks off.server (without test off.server.opens) (machine_key world c file) e;
      opens = λ file breaks closed x there has.
          let kept = among_filter (λ o. not (test o)) x off.server.opens there in (
            closed x (subst (λ (l : List Open). Among x l) eq.opens kept.0) has,
            λ e. clash (x.file_id == id) (eq-eqb x.file_id id (sym e)) (not_parts (x.file_id == id) kept.1),
          );
    }) t

-- fewer opens, in a world that is else as it was
pub fewer_told : (world new : World) (c : ℕ) → new.clients c ≡ world.clients c → new.requests c ≡ world.requests c
    → new.replies c ≡ world.replies c → new.server.held ≡ world.server.held
    → ((x : Open) → Among x new.server.opens → Among x world.server.opens)
    → ((file : ℕ) → new.server.expired (machine_key world c file) ≡ false
    → world.server.expired (machine_key world c file) ≡ false)
    → ((file : ℕ) → is_breaking (new.server.leases (machine_key world c file)) ≡ true
    → is_breaking (world.server.leases (machine_key world c file)) ≡ true) → HasTold world c → HasTold new c
fewer_told world new c machine requests replies held fewer fresh breaks t = kept_told world new c machine
    (λ file on is. subst (λ q. ToldBy (file_key world c file) file ((world.clients c).entries file).phase q (new.replies c)
    (ClosedIn new (machine_key world c file) c file)) (sym requests)
    (subst (λ r. ToldBy (file_key world c file) file ((world.clients c).entries file).phase (world.requests c) r
    (ClosedIn new (machine_key world c file) c file)) (sym replies)
    (told_map (file_key world c file) file ((world.clients c).entries file).phase ((world.clients c).entries file).phase
    (world.requests c) (world.requests c) (world.replies c) (world.replies c)
    (ClosedIn world (machine_key world c file) c file) (ClosedIn new (machine_key world c file) c file)
    (λ a. a) (λ m. inr (inl m))
    (λ closed x there has. subst (λ q. ClosedBefore file x.file_id (as_requests (held_by c (new.server.held file)) ++ q))
    (sym requests) (subst (λ (h : ℕ → List Held). ClosedBefore file x.file_id
    (as_requests (held_by c (h file)) ++ world.requests c)) (sym held) (closed x (fewer x there) has)))
    (t file (fresh file on) (breaks file is)))))

pub dropped_told : (world : World) (c : ℕ) (test : Open → Bool) → HasTold world c → HasTold (without_opens world test) c
dropped_told world c test t = fewer_told world (without_opens world test) c refl refl refl refl
    (λ x there. left_there world test x there) (λ file e. e)
    (λ file e. with_breaks world.server (without test world.server.opens) (machine_key world c file) e) t

pub timer_told : (world : World) (c file : ℕ) → HasTold world c → HasTold (timed_out world c file) c
timer_told world c file t =
    let key = machine_key world c file in
    fewer_told world (timed_out world c file) c refl refl refl refl
    (λ x there. (among_filter (λ o. not (has_key key o)) x world.server.opens there).0)
    (λ at. put_key-cases (λ b. b ≡ false → world.server.expired (machine_key world c at) ≡ false)
    world.server.expired key true (machine_key world c at) (λ same e. absurd (true≢false e)) (λ other e. e))
    (λ at e. with_breaks world.server (without (has_key key) world.server.opens) (machine_key world c at) e) t

-- ---- grants

-- a create that is granted is the first that is asked of its file
create_first : (world off : World) (c file : ℕ) (access : Access) (share : Share) (ask : CreateAsk) → IsNamedAt world c
    → IsSource world off c (FileRequest.Create file access share (Some ask)) → Ground world
    → has_file world.server file ≡ true → (id : ℕ) → ClosedBefore file id (asked_of world c file) → ⊥
create_first world off c file access share ask n source g on id closed =
    first (first_asked world off c file (FileRequest.Create file access share (Some ask)) n source asked
    (λ h. sym (g.fine.orderly.held_about h.file (held_of c (FileRequest.Create file access share (Some ask)) h.lane)
    (subst (λ (l : List Held). Among (held_of c (FileRequest.Create file access share (Some ask)) h.lane) l) (sym h.held)
    (among_behind (held_of c (FileRequest.Create file access share (Some ask)) h.lane) h.before (_ ∷ h.behind) (inl refl))))))
  where
    asked : file_of_create world.server file (Some ask) ≡ Ok file
    asked = rw (on) refl

    first : (rest : List Request)
        × (asked_of world c file ≡ Request.OnFile (FileRequest.Create file access share (Some ask)) ∷ rest) → ⊥
    first r = never (subst (ClosedBefore file id) r.1 closed)
      where
        never : ClosedBefore file id (Request.OnFile (FileRequest.Create file access share (Some ask)) ∷ r.0) → ⊥
        never x = x.0 refl

pub granted_told : (world off : World) (c file : ℕ) (access : Access) (share : Share) (ask : CreateAsk) (asked : LeaseOf)
    → ask.lease ≡ Some asked → asked.key ≡ lease_key (world.clients c).guid file → IsNamedAt world c
    → IsSource world off c (FileRequest.Create file access share (Some ask)) → Ground world
    → has_file world.server file ≡ true → HasTold world c
    → HasTold (granted_in off c file access share ask (lease_after off.server c file ask.lease)) c
granted_told world off c file access share ask asked e named n source g on t =
    let request = FileRequest.Create file access share (Some ask) in
    let lease = lease_after off.server c file ask.lease in
    answered_told world off (granted_in off c file access share ask lease) c request
    (granted_reply off.server file ask lease) source (record {
      machine = refl;
      requests = refl;
      held = lease_put_rest off.server c ask.lease lease (λ s. s.held ≡ off.server.held) (λ leases. refl);
      replies = put_same off.replies c (off.replies c ++ granted_reply off.server file ask lease ∷ []);
      fresh = λ at fresh. lease_put_rest off.server c ask.lease lease
          (λ s. s.expired (machine_key world c at) ≡ false → world.server.expired (machine_key world c at) ≡ false)
          (λ leases x. ap (λ (y : Key → Bool). y (machine_key world c at)) (sym same.expired) ∙ x) fresh;
      breaks = breaks_before;
      opens = λ at breaks closed x there has. ⊎_elim
          (λ old. (closed x (subst (λ (l : List Open). Among x l) same.opens old) has, tt))
          (λ last. ⊎_elim (λ is. absurd (new_open_closed at breaks closed
          (subst (λ o. has_key (machine_key world c at) o ≡ true) is has)))
          (λ none. absurd none) last) (among_append x off.server.opens (one ∷ []) there);
    }) t
  where
    one : Open
    one = new_open off.server c file access share ask.lease ask.durable (lease_after off.server c file ask.lease)

    same : IsSameServer off world
    same = off_server world off c (FileRequest.Create file access share (Some ask)) source

    -- a lease that is breaking after it was before
    breaks_before : (at : ℕ) → is_breaking ((granted_in off c file access share ask
        (lease_after off.server c file ask.lease)).server.leases (machine_key world c at)) ≡ true
        → is_breaking (world.server.leases (machine_key world c at)) ≡ true
    breaks_before at = subst (λ o. is_breaking ((lease_put off.server c o (lease_after off.server c file o)).leases
        (machine_key world c at)) ≡ true → is_breaking (world.server.leases (machine_key world c at)) ≡ true) (sym e)
        (put_key-cases (λ (l : Lease). is_breaking l ≡ true → is_breaking (world.server.leases (machine_key world c at)) ≡ true)
        off.server.leases (key_of c asked.key) (lease_granted off.server (key_of c asked.key) file asked.state)
        (machine_key world c at)
        (λ own breaks. either (is_breaking (off.server.leases (key_of c asked.key)))
        (λ was. ap (λ k. is_breaking (world.server.leases k)) own
        ∙ ap (λ (l : Key → Lease). is_breaking (l (key_of c asked.key))) (sym same.leases) ∙ was)
        (λ settled. clash (is_breaking (lease_granted off.server (key_of c asked.key) file asked.state)) breaks
        (grant_settled off.server (key_of c asked.key) file asked.state settled)))
        (λ other breaks. ap (λ (l : Key → Lease). is_breaking (l (machine_key world c at))) (sym same.leases) ∙ breaks))

    -- the new open is of its file, and there nothing was being closed before
    new_open_closed : (at : ℕ) → is_breaking ((granted_in off c file access share ask
        (lease_after off.server c file ask.lease)).server.leases (machine_key world c at)) ≡ true
        → ClosedIn world (machine_key world c at) c at → has_key (machine_key world c at) one ≡ true → ⊥
    new_open_closed at breaks closed has = either (at == file)
        (λ here. let at_file : at ≡ file = eqb-true at file here in
        let y = breaking_open world.server (machine_key world c at) g.fine.sound (breaks_before at breaks) in
        create_first world off c file access share ask n source g on (y.0).file_id
        (subst (λ f. ClosedBefore f (y.0).file_id (asked_of world c f)) at_file (closed y.0 y.1 y.2)))
        (λ there. clash (bytes_eq (file_key world c at) (lease_key (world.clients c).guid file))
        (of_file (subst (λ o. has_key (machine_key world c at)
        (new_open off.server c file access share o ask.durable (lease_after off.server c file ask.lease)) ≡ true) e has))
        (keys_apart (world.clients c).guid at file (λ x. clash (at == file) (eq-eqb at file x) there)))
      where
        of_file : ((c == c) && bytes_eq (file_key world c at) asked.key) ≡ true
            → bytes_eq (file_key world c at) (lease_key (world.clients c).guid file) ≡ true
        of_file h = ap (bytes_eq (file_key world c at)) (sym named)
            ∙ (and_parts (c == c) (bytes_eq (file_key world c at) asked.key) h).1

again_id : (id : ℕ) (y : Open) (key : Key) → (has_key key (connected_again id y) ≡ has_key key y)
    × ((connected_again id y).file_id ≡ y.file_id)
again_id id y key = if_cases (λ x. (has_key key x ≡ has_key key y) × (x.file_id ≡ y.file_id)) (y.file_id == id)
    (record y { connected = true }) y (λ same. (refl, refl)) (λ other. (refl, refl))

pub reconnected_told : (world off : World) (c file : ℕ) (access : Access) (share : Share) (ask : CreateAsk) (id : ℕ)
    → IsSource world off c (FileRequest.Create file access share (Some ask)) → HasTold world c
    → HasTold (reconnected_in off c file ask id) c
reconnected_told world off c file access share ask id source t =
    let request = FileRequest.Create file access share (Some ask) in
    let reply = reconnected_reply off.server c file ask id in
    let same = off_server world off c request source in
    answered_told world off (reconnected_in off c file ask id) c request reply source (record {
      machine = refl;
      requests = refl;
      held = refl;
      replies = put_same off.replies c (off.replies c ++ reply ∷ []);
      fresh = λ at e. ap (λ (x : Key → Bool). x (machine_key world c at)) (sym same.expired) ∙ e;
      breaks = λ at e. ap (λ (l : Key → Lease). is_breaking (l (machine_key world c at))) (sym same.leases) ∙ e;
      opens = λ at breaks closed x there has.
          let m = among_map (connected_again id) x off.server.opens there in
          let eq = again_id id m.0 (machine_key world c at) in (
            subst (λ i. ClosedBefore at i (asked_of world c at)) (sym (ap (λ (o : Open). o.file_id) m.2 ∙ eq.1))
                (closed m.0 (subst (λ (l : List Open). Among m.0 l) same.opens m.1)
                (sym eq.0 ∙ ap (has_key (machine_key world c at)) (sym m.2) ∙ has)),
            tt,
          );
    }) t

-- ---- leases that are put

-- what was told still is, with one more reply
sent_told : (world : World) (key : Key) (lease : Lease) (reply : Reply) (file : ℕ)
    → ToldBy (file_key world key.client file) file ((world.clients key.client).entries file).phase
    (world.requests key.client) (world.replies key.client) (ClosedIn world (machine_key world key.client file) key.client file)
    → ToldBy (file_key world key.client file) file ((world.clients key.client).entries file).phase
    (world.requests key.client) ((leased_in world key lease reply).replies key.client)
    (ClosedIn (leased_in world key lease reply) (machine_key world key.client file) key.client file)
sent_told world key lease reply file t =
    let c = key.client in
    let phase = ((world.clients c).entries file).phase in
    told_map (file_key world c file) file phase phase (world.requests c) (world.requests c) (world.replies c) _
    (ClosedIn world (machine_key world c file) c file)
    (ClosedIn (leased_in world key lease reply) (machine_key world c file) c file)
    (λ a. a)
    (λ m. inr (inl (subst (HasMet (file_key world c file) file (is_live phase))
    (sym (put_same world.replies c (world.replies c ++ reply ∷ [])))
    (met_behind (file_key world c file) file (is_live phase) (world.replies c) (reply ∷ []) m))))
    (λ closed x there has. closed x there has) t

-- where the lease of the key isn't breaking after it
leased_told : (world : World) (key : Key) (lease : Lease) (reply : Reply) → is_breaking lease ≡ false
    → HasTold world key.client → HasTold (leased_in world key lease reply) key.client
leased_told world key lease reply settled t = kept_told world (leased_in world key lease reply) key.client refl
    (λ file fresh. put_key-cases (λ (l : Lease). is_breaking l ≡ true
    → ToldBy (file_key world key.client file) file ((world.clients key.client).entries file).phase
    (world.requests key.client) ((leased_in world key lease reply).replies key.client)
    (ClosedIn (leased_in world key lease reply) (machine_key world key.client file) key.client file))
    world.server.leases key lease (machine_key world key.client file)
    (λ same breaks. clash (is_breaking lease) breaks settled)
    (λ other breaks. sent_told world key lease reply file (t file fresh breaks)))

pub lower_told : (world : World) (key : Key) (lowered : State) → HasTold world key.client
    → HasTold (leased_in world key (record { state = lowered; broken_to = None })
    (break_notice key (world.server.leases key).state lowered)) key.client
lower_told world key lowered t = leased_told world key (record { state = lowered; broken_to = None })
    (break_notice key (world.server.leases key).state lowered) refl t

grant_is_made : (file id : ℕ) (queue : List Reply) → HasGrant file id queue → is_granted file queue ≡ true
grant_is_made file id [] g = absurd g
grant_is_made file id (reply ∷ queue) g = ⊎_elim (λ x. true_or (is_created file reply) (is_granted file queue) (made reply x))
    (λ x. or_of_true (is_created file reply) (is_granted file queue) (grant_is_made file id queue x)) g
  where
    made : (r : Reply) → IsGrantOf file id r → is_created file r ≡ true
    made (Reply.Created other given (Some answer)) x = eq-eqb other file x.0
    made reply x = absurd x

-- a break begins: each open of the key is live, granted, or being closed
pub begin_told : (world : World) (key : Key) (lowered : State) → MayLower world.server key lowered
    → needs_acknowledgment (world.server.leases key).state ≡ true
    → ((x : Open) → Among x world.server.opens → x.client ≡ key.client → IsOwnOpen (world.clients key.client).guid x)
    → HasCovered world key.client → HasTold world key.client
    → HasTold (leased_in world key (record { state = (world.server.leases key).state; broken_to = Some lowered })
    (break_notice key (world.server.leases key).state lowered)) key.client
begin_told world key lowered may heavy own h t = kept_told world new c refl
    (λ file fresh. put_key-cases (λ (l : Lease). is_breaking l ≡ true
    → ToldBy (file_key world key.client file) file ((world.clients key.client).entries file).phase
    (world.requests key.client) (new.replies key.client) (ClosedIn new (machine_key world key.client file) key.client file))
    world.server.leases key lease (machine_key world key.client file)
    (λ same breaks. begun file fresh same)
    (λ other breaks. sent_told world key lease reply file (t file fresh breaks)))
  where
    c : ℕ
    c = key.client

    lease : Lease
    lease = record { state = (world.server.leases key).state; broken_to = Some lowered }

    reply : Reply
    reply = break_notice key (world.server.leases key).state lowered

    new : World
    new = leased_in world key (record { state = (world.server.leases key).state; broken_to = Some lowered })
        (break_notice key (world.server.leases key).state lowered)

    sent : put world.replies key.client (world.replies key.client ++ reply ∷ []) key.client
        ≡ world.replies key.client ++ reply ∷ []
    sent = put_same world.replies key.client (world.replies key.client ++ reply ∷ [])

    begun : (file : ℕ) → world.server.expired (machine_key world key.client file) ≡ false
        → machine_key world key.client file ≡ key
        → ToldBy (file_key world key.client file) file ((world.clients key.client).entries file).phase
        (world.requests key.client) (new.replies key.client) (ClosedIn new (machine_key world key.client file) key.client file)
    begun file fresh same =
        let phase = ((world.clients key.client).entries file).phase in
        let asks : is_ack_break (file_key world key.client file) reply ≡ true =
        and_both (needs_acknowledgment (world.server.leases key).state) (bytes_eq (file_key world key.client file) key.bytes)
        heavy ((bytes_eq-Decides (file_key world key.client file) key.bytes).1 (ap (λ (k : Key). k.bytes) same)) in
        either (is_live phase)
        (λ live. inr (inl (subst (HasMet (file_key world key.client file) file (is_live phase)) (sym sent)
        (met_last (file_key world key.client file) file (is_live phase) (world.replies key.client) reply asks live))))
        (λ idle. either (is_granted file (world.replies key.client))
        (λ made. inr (inl (subst (HasMet (file_key world key.client file) file (is_live phase)) (sym sent)
        (met_granted (file_key world key.client file) file (is_live phase) (world.replies key.client) reply asks made))))
        (λ none. inr (inr (λ x there has. closed file fresh same idle none x there has))))
      where
        closed : (file : ℕ) → world.server.expired (machine_key world key.client file) ≡ false
            → machine_key world key.client file ≡ key → is_live ((world.clients key.client).entries file).phase ≡ false
            → is_granted file (world.replies key.client) ≡ false → (x : Open) → Among x world.server.opens
            → has_key (machine_key world key.client file) x ≡ true → ClosedBefore file x.file_id (asked_of world key.client file)
        closed file fresh same idle none x there has =
            let place = open_place world key.client file x (own x there) has in
            let cover = h.covers x there place.0 (may.are_connected x there (subst (λ k. has_key k x ≡ true) same has))
            (subst (λ f. world.server.expired (machine_key world key.client f) ≡ false) (sym place.1) fresh) in
            subst (λ f. ClosedBefore f x.file_id (asked_of world key.client f)) place.1
            (⊎_elim (λ u. clash (is_live ((world.clients key.client).entries x.file).phase) (ap is_live u.is)
            (ap (λ f. is_live ((world.clients key.client).entries f).phase) place.1 ∙ idle))
            (λ y. ⊎_elim (λ z. z) (λ granted. clash (is_granted file (world.replies key.client))
            (subst (λ f. is_granted f (world.replies key.client) ≡ true) place.1
            (grant_is_made x.file x.file_id (world.replies key.client) granted)) none) y) cover)

-- ---- acknowledgments

-- one of another key leaves the count
other_acks : (key : List ℕ) (given : Option LeaseOf) (queue : List Request)
    → ((lease : LeaseOf) → given ≡ Some lease → bytes_eq key lease.key ≡ false)
    → acks key (Request.Acknowledge given ∷ queue) ≡ acks key queue
other_acks key None queue other = plus (acks key queue)
  where
    plus : (n : ℕ) → 0 + n ≡ n
    plus n = omega arith
other_acks key (Some lease) queue other = ap (λ b. one_if b + acks key queue) (other lease refl) ∙ plus (acks key queue)
  where
    plus : (n : ℕ) → 0 + n ≡ n
    plus n = omega arith

-- an acknowledgment leaves its queue: what else was told still is
acked_told : (world : World) (c file : ℕ) (given : Option LeaseOf) → IsOldest world c (Request.Acknowledge given)
    → ((lease : LeaseOf) → given ≡ Some lease → bytes_eq (file_key world c file) lease.key ≡ false)
    → ToldBy (file_key world c file) file ((world.clients c).entries file).phase (world.requests c) (world.replies c)
    (ClosedIn world (machine_key world c file) c file)
    → ToldBy (file_key world c file) file ((world.clients c).entries file).phase ((popped world c).requests c)
    (world.replies c) (ClosedIn (popped world c) (machine_key world c file) c file)
acked_told world c file given oldest other t =
    let phase = ((world.clients c).entries file).phase in
    let left : (popped world c).requests c ≡ oldest.queue =
    put_same world.requests c (rest_of (world.requests c)) ∙ ap rest_of oldest.is_first in
    told_map (file_key world c file) file phase phase (world.requests c) ((popped world c).requests c) (world.replies c)
    (world.replies c) (ClosedIn world (machine_key world c file) c file)
    (ClosedIn (popped world c) (machine_key world c file) c file)
    (λ some none. some (ap (acks (file_key world c file)) oldest.is_first
    ∙ other_acks (file_key world c file) given oldest.queue other ∙ ap (acks (file_key world c file)) (sym left) ∙ none))
    (λ m. inr (inl m))
    (λ closed x there has. popped_closed world c (Request.Acknowledge given) oldest file x.file_id tt (closed x there has)) t

-- one that is on its way is of a state that the lease is broken to, so it isn't refused
pub failed_told : (world : World) (c : ℕ) (given : Option LeaseOf) (status : Status)
    → IsOldest world c (Request.Acknowledge given) → IsRefusedAck world.server c given → IsSound world.server
    → HasTrust world c → HasTold world c → HasTold (told_to (popped world c) c (Reply.AckFailed status)) c
failed_told world c given status oldest why sound w t =
    kept_told world (told_to (popped world c) c (Reply.AckFailed status)) c refl
    (λ file fresh breaks.
    let phase = ((world.clients c).entries file).phase in
    told_map (file_key world c file) file phase phase ((popped world c).requests c) ((popped world c).requests c)
    (world.replies c) _ (ClosedIn (popped world c) (machine_key world c file) c file)
    (ClosedIn (told_to (popped world c) c (Reply.AckFailed status)) (machine_key world c file) c file)
    (λ a. a)
    (λ m. inr (inl (subst (HasMet (file_key world c file) file (is_live phase))
    (sym (put_same world.replies c (world.replies c ++ Reply.AckFailed status ∷ [])))
    (met_behind (file_key world c file) file (is_live phase) (world.replies c) (Reply.AckFailed status ∷ []) m))))
    (λ closed x there has. closed x there has)
    (acked_told world c file given oldest (λ lease is. not_own file fresh breaks lease is) (t file fresh breaks)))
  where
    fit_of : (file : ℕ) (lease : LeaseOf) → given ≡ Some lease
        → Each (AckFit (file_key world c file) (world.server.leases (machine_key world c file))
        ((world.clients c).entries file).phase) (Request.Acknowledge given ∷ oldest.queue)
        → bytes_eq (file_key world c file) lease.key ≡ true
        → IsAckFit (world.server.leases (machine_key world c file)) ((world.clients c).entries file).phase lease.state
    fit_of file lease is each own = by_given given is each.0
      where
        by_given : (g : Option LeaseOf) → g ≡ Some lease
            → AckFit (file_key world c file) (world.server.leases (machine_key world c file))
            ((world.clients c).entries file).phase (Request.Acknowledge g)
            → IsAckFit (world.server.leases (machine_key world c file)) ((world.clients c).entries file).phase lease.state
        by_given g e a = whole (subst (λ x. AckFit (file_key world c file) (world.server.leases (machine_key world c file))
            ((world.clients c).entries file).phase (Request.Acknowledge x)) e a)
          where
            whole : AckFit (file_key world c file) (world.server.leases (machine_key world c file))
                ((world.clients c).entries file).phase (Request.Acknowledge (Some lease))
                → IsAckFit (world.server.leases (machine_key world c file)) ((world.clients c).entries file).phase lease.state
            whole f = f own

    refused : (lease : LeaseOf) → given ≡ Some lease → IsRefusedAck world.server c (Some lease)
    refused lease is = subst (IsRefusedAck world.server c) is why

    not_own : (file : ℕ) → world.server.expired (machine_key world c file) ≡ false
        → is_breaking (world.server.leases (machine_key world c file)) ≡ true → (lease : LeaseOf) → given ≡ Some lease
        → bytes_eq (file_key world c file) lease.key ≡ false
    not_own file fresh breaks lease is = not_true (bytes_eq (file_key world c file) lease.key) (λ own.
        let same : machine_key world c file ≡ key_of c lease.key =
        ap (λ bytes. key_of c bytes) ((bytes_eq-Decides (file_key world c file) lease.key).0 own) in
        let fit = fit_of file lease is (subst (Each (AckFit (file_key world c file)
        (world.server.leases (machine_key world c file)) ((world.clients c).entries file).phase)) oldest.is_first
        (w.files file fresh).explained.within.acks) own in
        let y = breaking_open world.server (machine_key world c file) sound breaks in
        clash (is_state_within lease.state fit.lowered) fit.within
        (refused lease is (subst (λ k. has_lease world.server k ≡ true) same
        (has_any (has_key (machine_key world c file)) y.0 world.server.opens y.1 y.2)) fit.lowered
        (subst (λ k. (world.server.leases k).broken_to ≡ Some fit.lowered) same fit.breaks)))

pub done_told : (world : World) (c : ℕ) (given : LeaseOf) → IsOldest world c (Request.Acknowledge (Some given)) → HasTold world c
    → HasTold (leased_in (popped world c) (key_of c given.key)
    (record { state = granted_form_of given.state; broken_to = None }) (done_reply given)) c
unfolding key_eq
done_told world c given oldest t =
    let key = key_of c given.key in
    let lease : Lease = record { state = granted_form_of given.state; broken_to = None } in
    kept_told world (leased_in (popped world c) key lease (done_reply given)) c refl
    (λ file fresh. put_key-cases (λ (l : Lease). is_breaking l ≡ true
    → ToldBy (file_key world c file) file ((world.clients c).entries file).phase ((popped world c).requests c)
    ((leased_in (popped world c) key lease (done_reply given)).replies c)
    (ClosedIn (leased_in (popped world c) key lease (done_reply given)) (machine_key world c file) c file))
    world.server.leases key lease (machine_key world c file)
    (λ same breaks. absurd (true≢false (sym breaks)))
    (λ other breaks. sent_told (popped world c) key lease (done_reply given) file (acked_told world c file (Some given) oldest
    (λ x is. not_true (bytes_eq (file_key world c file) x.key)
    (λ own. clash (key_eq (machine_key world c file) key)
    (and_both (c == c) (bytes_eq (file_key world c file) given.key) (eq-eqb c c refl)
    (ap (λ (l : LeaseOf). bytes_eq (file_key world c file) l.key) (one_lease x is) ∙ own)) other)) (t file fresh breaks))))
  where
    one_lease : (x : LeaseOf) → Some given ≡ Some x → given ≡ x
    one_lease x e = cc

-- ---- a request that is held

pub held_told : (world : World) (at : ℕ) (one : Held) → IsOldest world one.client (Request.OnFile one.request)
    → IsInTurn (SmallStep.Hold at one) world.server → Ground world
    → ((x : Open) → Among x world.server.opens → x.client ≡ one.client → IsOwnOpen (world.clients one.client).guid x)
    → HasTold world one.client → HasTold (held_in (popped world one.client) at one) one.client
held_told world at one oldest turn g own t =
    let c = one.client in
    let new = held_in (popped world c) at one in
    kept_told world new c refl (λ file fresh breaks.
    let phase = ((world.clients c).entries file).phase in
    told_map (file_key world c file) file phase phase (world.requests c) ((popped world c).requests c) (world.replies c)
    (world.replies c) (ClosedIn world (machine_key world c file) c file) (ClosedIn new (machine_key world c file) c file)
    (λ some none. some (sym (file_acks (file_key world c file) (world.requests c) oldest.queue one.request oldest.is_first)
    ∙ ap (acks (file_key world c file)) (sym (put_same world.requests c (rest_of (world.requests c)))) ∙ none))
    (λ m. inr (inl m))
    (λ closed x there has. held_closed world at one oldest file x.file_id
    (λ ne. own_place world.server c at one.request x
    (λ a b p q e. one_id world.server.opens a b g.fine.sound.in_order p q e) there turn.0
    (λ e. ne (sym (open_place world c file x (own x there) has).1 ∙ e))) (closed x there has)) (t file fresh breaks))
