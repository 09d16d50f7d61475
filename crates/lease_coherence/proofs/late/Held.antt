-- A request that is held was no buffered write: where a lease holds writes, nothing is in the way of its own requests.
use Rattle.lease_laws.proofs.Words.{◌++◌, ◌==◌, ◌∙◌, ◌∷◌, ◌≡◌, Among, FileRequest, HasToWait, Held, IsAbout, IsInTurn}
use Rattle.lease_laws.proofs.Words.{IsSound, MayHold, None, Ok, Open, Option, Request, SmallStep, Some, Status, World, ℕ}
use Rattle.lease_laws.proofs.Words.{[], ⊎_elim, ⊤, ap, ap₂, breaks_to_some, connected_open, file_asked, file_of_open}
use Rattle.lease_laws.proofs.Words.{has_buffered, is_breaking, key_of, key_of_open, key_under, lease_key, list_any}
use Rattle.lease_laws.proofs.Words.{machine_key, own_key, refl, subst, sym, true}
use Rattle.lease_laws.proofs.Words.{is_behind}
use Rattle.lease_laws.proofs.Words.{waits_behind}
use Rattle.lease_laws.proofs.Words.{and_parts}
use Rattle.lease_laws.proofs.server.Lists.{among_append, not_true}
use Rattle.lease_laws.proofs.server.Lists.{any_has}
use Rattle.lease_laws.proofs.server.Lists.{has_any}
use Rattle.lease_laws.proofs.server.cases.Ends.{found_open}
use Rattle.lease_coherence.proofs.order.OrderedRequests.{first_among, first_of, first_waits_behind_none}
use Rattle.lease_coherence.specs.Names.{IsNamedAt, IsNamedOnFile, IsNamedRequest, WasWrittenOn}
use Rattle.lease_coherence.proofs.late.Acked.{popped_ids, popped_named}
use Rattle.lease_coherence.proofs.late.Likes.{acks_like, grants_like, same_past}
use Rattle.lease_coherence.proofs.late.SafeWrites.{HeldPlain, IsLike, IsNotLate, KnowsIds, WriteSafe, holds_write}
use Rattle.lease_coherence.proofs.late.Servers.{itself, none_in_the_way, own_has_key, popped_safe}
use Rattle.lease_coherence.proofs.moves.Deeds.{held_in}
use Rattle.lease_coherence.proofs.moves.Ground.{among_put}
use Rattle.lease_coherence.proofs.moves.Moves.{IsOldest, popped}
use Rattle.lease_coherence.proofs.standing.StandingOpens.{asked_held, head_of}
use Rattle.lease_coherence.proofs.writes.WritesStayUnderWayOnce.{no_file, same_file}

-- the file that a request asks for
abbrev pub AsksOn : World → ℕ → FileRequest → Type 0
AsksOn world file (FileRequest.Create other access share contexts) = other ≡ file
AsksOn world file (FileRequest.Write file_id number patch) =
    (z : Open) → Among z world.server.opens → z.file_id ≡ file_id → z.file ≡ file
AsksOn world file request = ⊤

pub about_asks : (world : World) (file : ℕ) (request : FileRequest) → IsAbout world.server file request
    → AsksOn world file request
about_asks world file (FileRequest.Create other access share contexts) a = a
about_asks world file (FileRequest.Write file_id number patch) a = a.is_on_file
about_asks world file request a = tt

-- where the client's lease holds writes, no request of it on the file has to wait
pub none_waits : (world : World) (c : ℕ) → IsSound world.server → IsNamedAt world c → (file : ℕ) (x : Open)
    → Among x world.server.opens → x.client ≡ c → x.file ≡ file → holds_write world c file ≡ true
    → (request : FileRequest) → IsNamedOnFile c (world.clients c).guid world.past request → AsksOn world file request
    → HasToWait world.server c request → ⊥
none_waits world c sound n file x there by on holds (FileRequest.Create f access share None) named asks b = absurd named
none_waits world c sound n file x there by on holds (FileRequest.Create f access share (Some ask)) named asks b =
    none_in_the_way (λ lease. is_breaking lease) world.server (own_key c ask.lease) (machine_key world c file) f x sound
    (ap (λ o. own_key c o) named.asks ∙ ap (λ k. Some (key_of c k)) named.key
    ∙ ap (λ g. Some (key_of c (lease_key (world.clients c).guid g))) asks) there
    (own_has_key world c file x by on (n.opens x there by)) (on ∙ sym asks) holds b
none_waits world c sound n file x there by on holds (FileRequest.Write file_id number patch) named asks b =
    let own = found_open world.server c file_id b.one b.is_open in
    let here = asks b.one own.there own.id in
    none_in_the_way (λ lease. breaks_to_some lease) world.server (key_of_open b.one) (machine_key world c file)
    (b.one).file x sound (ap₂ key_under own.by (n.opens b.one own.there own.by)
    ∙ ap (λ g. Some (key_of c (lease_key (world.clients c).guid g))) here) there
    (own_has_key world c file x by on (n.opens x there by)) (on ∙ sym here) holds b.is_blocked
none_waits world c sound n file x there by on holds request named asks b = absurd b

-- the open of a write that is held stands on the file
held_on : (world : World) (c file_id : ℕ) (at : ℕ) (x : Open)
    → ((z : Open) → Among z world.server.opens → z.file_id ≡ file_id → z.file ≡ x.file) → (found : Option Open)
    → connected_open world.server c file_id ≡ found → file_of_open found ≡ Ok at → x.file ≡ at
held_on world c file_id at x same None e a = absurd (no_file _ Status.FileClosed at refl a)
held_on world c file_id at x same (Some z) e a =
    let own = found_open world.server c file_id z e in
    sym (same z own.there own.id) ∙ same_file _ z.file at refl a

held_plain : (world : World) (at : ℕ) (one : Held) → MayHold world.server at one
    → IsInTurn (SmallStep.Hold at one) world.server → IsSound world.server → KnowsIds world one.client
    → IsNamedAt world one.client → IsNamedOnFile one.client (world.clients one.client).guid world.past one.request
    → WriteSafe world one.client (Request.OnFile one.request) → HeldPlain world one.client (Request.OnFile one.request)
held_plain world at one may turn sound ids n named safe = by_request one.request refl
  where
    c : ℕ
    c = one.client

    -- one that it waits behind is of its client
    some_own : is_behind world.server.rules one (world.server.held at) ≡ true
        → list_any (λ (y : Held). y.client == one.client) (world.server.held at) ≡ true
    some_own behind =
        let y = any_has (waits_behind world.server.rules one) (world.server.held at) behind in
        has_any (λ (z : Held). z.client == one.client) y.0 (world.server.held at) y.1
        (and_parts ((y.0).client == one.client) _ y.2).0

    by_request : (r : FileRequest) → one.request ≡ r → HeldPlain world one.client (Request.OnFile r)
    by_request (FileRequest.Write file_id number patch) is = λ x there by id.
        let w : WasWrittenOn one.client file_id number patch world.past =
        subst (IsNamedOnFile one.client (world.clients one.client).guid world.past) is named in
        let s : WriteSafe world one.client (Request.OnFile (FileRequest.Write file_id number patch)) =
        subst (λ r. WriteSafe world one.client (Request.OnFile r)) is safe in
        let same : (z : Open) → Among z world.server.opens → z.file_id ≡ file_id → z.file ≡ x.file =
        λ z zin zid. (ids.on file_id w.file w.opened z zin zid).0 ∙ sym (ids.on file_id w.file w.opened x there id).0 in
        let here = held_on world one.client file_id at x same (connected_open world.server one.client file_id) refl
        (subst (λ r. file_asked world.server one.client r ≡ Ok at) is turn.0) in
        not_true (has_buffered one.client x.file number world.past) (λ b.
        let holds = (s x there by id).held b in ⊎_elim
        (λ waits. none_waits world one.client sound n x.file x there by refl holds (FileRequest.Write file_id number patch) w
        same (subst (HasToWait world.server one.client) is waits))
        (λ behind. let y = first_of one.client (world.server.held at) (some_own behind.1) in
        let among = first_among one.client (world.server.held at) y in
        none_waits world one.client sound n at x there by here
        (subst (λ f. holds_write world one.client f ≡ true) here holds) (y.one).request
        (n.held at y.one among y.own).named
        (about_asks world at (y.one).request ((behind.0).is_orderly.held_about at y.one among))
        (subst (λ d. HasToWait world.server d (y.one).request) y.own ((behind.0).all_wait at y.before y.one y.behind y.split
        (first_waits_behind_none world.server.rules one.client (world.server.held at) y)))) may.1)
    by_request request is = tt

held_like : (world : World) (at : ℕ) (one : Held) → IsLike world (held_in world at one) one.client
held_like world at one = record {
  machine = refl;
  past = same_past one.client world.past;
  from = λ x there by low. itself world x there;
  timely = λ file x there by on e. e;
}

pub hold_late : (world : World) (at : ℕ) (one : Held) → IsOldest world one.client (Request.OnFile one.request)
    → MayHold world.server at one → IsInTurn (SmallStep.Hold at one) world.server → IsSound world.server
    → KnowsIds world one.client → IsNamedAt world one.client → IsNotLate world one.client
    → IsNotLate (held_in (popped world one.client) at one) one.client
hold_late world at one oldest may turn sound ids n a = record {
  entries = a.entries;
  up = λ up. let u = a.up up in
      let m = popped_safe world one.client ids n u in
      let new = held_in (popped world one.client) at one in
      let asked = asked_held (WriteSafe world one.client) world at one oldest u.writes in
      let named : IsNamedRequest one.client (world.clients one.client).guid world.past (Request.OnFile one.request) =
      head_of (IsNamedRequest one.client (world.clients one.client).guid world.past) (world.requests one.client)
      oldest.queue (Request.OnFile one.request) oldest.is_first n.requests in
      let plain = held_plain world at one may turn sound ids n named
      (head_of (WriteSafe world one.client) (world.requests one.client) oldest.queue (Request.OnFile one.request)
      oldest.is_first u.writes.queued) in record {
        writes = record { queued = asked.queued; held = asked.held };
        held = λ place x b own. ⊎_elim (λ old. u.held place x old own)
            (λ fresh. ⊎_elim (λ old. u.held at x old own)
            (λ last. ⊎_elim (λ same. subst (λ (h : Held). HeldPlain world one.client (Request.OnFile h.request)) (sym same) plain)
            (λ none. absurd none) last) (among_append x (world.server.held at) (one ∷ []) fresh.1))
            (among_put world.server.held at (world.server.held at ++ one ∷ []) place x b);
        acks_keep = acks_like (popped world one.client) new one.client (held_like (popped world one.client) at one)
            (popped_ids world one.client ids) ((popped world one.client).requests one.client)
            (popped_named world one.client n).requests m.acks_keep;
        again = m.again;
        given = λ file known. grants_like (popped world one.client) new one.client file
            (held_like (popped world one.client) at one) (popped_ids world one.client ids)
            ((world.clients one.client).entries file).sent [] (world.replies one.client) n.replies (m.given file known);
      };
}
