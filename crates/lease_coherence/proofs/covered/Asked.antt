-- What a client asks about a file, where one of its requests leaves its place.
use Rattle.lease_laws.proofs.Words.{◌&&◌, ◌++◌, ◌==◌, ◌∙◌, ◌∷◌, ◌≡◌, ◌≢◌, Among, FileRequest, Held, List, None, Ok, Open}
use Rattle.lease_laws.proofs.Words.{Request, Server, World, ℕ, [], ⊎_elim, ap, ap₂, connected_open, eq-eqb, eqb-true}
use Rattle.lease_laws.proofs.Words.{file_asked, held_of, put, refl, subst, sym, true}
use Rattle.lease_laws.proofs.client.Thin.{put_other, put_same}
use Rattle.lease_laws.proofs.client.cases.Files.{find_absent}
use Rattle.lease_laws.proofs.server.Lists.{and_both, clash, either}
use Rattle.lease_coherence.specs.Names.{IsNamedAt}
use Rattle.lease_coherence.specs.Agreement.{as_requests, asked_of}
use Rattle.lease_coherence.specs.Creates.{held_by}
use Rattle.lease_coherence.specs.Standing.{IsNoClose}
use Rattle.lease_coherence.proofs.covered.CoveredOpens.{ClosedBefore, closed_less}
use Rattle.lease_coherence.proofs.moves.Deeds.{IsSource, WasHeld, held_in, with_held}
use Rattle.lease_coherence.proofs.moves.Moves.{IsOldest, popped, rest_of}
use Rattle.lease_coherence.proofs.order.OrderedRequests.{asked_among, asked_left, none_before, none_there}

-- ---- one that leaves

pub popped_closed : (world : World) (c : ℕ) (request : Request) → IsOldest world c request → (file file_id : ℕ)
    → IsNoClose file_id request → ClosedBefore file file_id (asked_of world c file)
    → ClosedBefore file file_id (asked_of (popped world c) c file)
popped_closed world c request oldest file file_id none closed =
    let held = as_requests (held_by c (world.server.held file)) in
    subst (λ q. ClosedBefore file file_id (held ++ q))
    (sym (put_same world.requests c (rest_of (world.requests c)) ∙ ap rest_of oldest.is_first))
    (closed_less file file_id held oldest.queue request none
    (subst (λ q. ClosedBefore file file_id (held ++ q)) oldest.is_first closed))

left_closed : (world : World) (c at : ℕ) (before behind : List Held) (one : Held) → (one.client == c) ≡ true
    → world.server.held at ≡ before ++ one ∷ behind → (file file_id : ℕ) → IsNoClose file_id (Request.OnFile one.request)
    → ClosedBefore file file_id (asked_of world c file)
    → ClosedBefore file file_id (asked_of (with_held world at (before ++ behind)) c file)
left_closed world c at before behind one own held file file_id none closed = either (file == at)
    (λ here. let same = eqb-true file at here in
    subst (λ l. ClosedBefore file file_id (as_requests (held_by c l) ++ world.requests c))
    (sym (ap (put world.server.held at (before ++ behind)) same ∙ put_same world.server.held at (before ++ behind)))
    (subst (ClosedBefore file file_id) (sym (asked_left c before behind (world.requests c)))
    (closed_less file file_id (as_requests (held_by c before)) (as_requests (held_by c behind) ++ world.requests c)
    (Request.OnFile one.request) none (subst (ClosedBefore file file_id) (asked_among c before behind one (world.requests c) own)
    (subst (λ l. ClosedBefore file file_id (as_requests (held_by c l) ++ world.requests c))
    (ap world.server.held same ∙ held) closed)))))
    (λ there. subst (λ l. ClosedBefore file file_id (as_requests (held_by c l) ++ world.requests c))
    (sym (put_other world.server.held at (before ++ behind) file
    (λ e. clash (file == at) (eq-eqb file at e) there))) closed)

pub off_closed : (world off : World) (c : ℕ) (request : FileRequest) → IsSource world off c request
    → (file file_id : ℕ) → IsNoClose file_id (Request.OnFile request)
    → ClosedBefore file file_id (asked_of world c file) → ClosedBefore file file_id (asked_of off c file)
off_closed world off c request source file file_id none closed = ⊎_elim
    (λ a. subst (λ x. ClosedBefore file file_id (asked_of x c file)) (sym a.is_off)
    (popped_closed world c (Request.OnFile request) a.oldest file file_id none closed))
    (λ h. subst (λ x. ClosedBefore file file_id (asked_of x c file)) (sym h.is_off)
    (left_closed world c h.file h.before h.behind (held_of c request h.lane) (eq-eqb c c refl) h.held file file_id none closed))
    source.from

-- one that is held stands where it stood, of its file
pub held_closed : (world : World) (at : ℕ) (one : Held) → IsOldest world one.client (Request.OnFile one.request)
    → (file file_id : ℕ) → (file ≢ at → IsNoClose file_id (Request.OnFile one.request))
    → ClosedBefore file file_id (asked_of world one.client file)
    → ClosedBefore file file_id (asked_of (held_in (popped world one.client) at one) one.client file)
held_closed world at one oldest file file_id none closed =
    let c = one.client in
    let left : (popped world c).requests c ≡ oldest.queue =
    put_same world.requests c (rest_of (world.requests c)) ∙ ap rest_of oldest.is_first in
    either (file == at)
    (λ here. let same = eqb-true file at here in
    subst (λ l. ClosedBefore file file_id (as_requests (held_by c l) ++ (popped world c).requests c))
    (sym (ap (put world.server.held at (world.server.held at ++ one ∷ [])) same
    ∙ put_same world.server.held at (world.server.held at ++ one ∷ [])))
    (subst (λ q. ClosedBefore file file_id (as_requests (held_by c (world.server.held at ++ one ∷ [])) ++ q)) (sym left)
    (subst (ClosedBefore file file_id) (sym (asked_among c (world.server.held at) [] one oldest.queue (eq-eqb c c refl)))
    (subst (λ q. ClosedBefore file file_id (as_requests (held_by c (world.server.held at)) ++ q)) oldest.is_first
    (subst (λ n. ClosedBefore file file_id (asked_of world c n)) same closed)))))
    (λ there. let ne : file ≢ at = λ e. clash (file == at) (eq-eqb file at e) there in
    subst (λ l. ClosedBefore file file_id (as_requests (held_by c l) ++ (popped world c).requests c))
    (sym (put_other world.server.held at (world.server.held at ++ one ∷ []) file ne))
    (popped_closed world c (Request.OnFile one.request) oldest file file_id (none ne) closed))

-- ---- a request in its turn is the first of its file

-- nothing of the client's is held before it
pub first_asked : (world off : World) (c file : ℕ) (request : FileRequest) → IsNamedAt world c → IsSource world off c request
    → file_asked world.server c request ≡ Ok file → ((h : WasHeld world off c request) → h.file ≡ file)
    → (rest : List Request) × (asked_of world c file ≡ Request.OnFile request ∷ rest)
first_asked world off c file request n source asked on_file = ⊎_elim
    (λ a. (
      a.oldest.queue,
      ap₂ (λ (h : List Held) q. as_requests h ++ q)
          (none_there world off c file request n a asked) a.oldest.is_first,
    ))
    (λ h. (
      as_requests (held_by c h.behind) ++ world.requests c,
      ap (λ n. as_requests (held_by c (world.server.held n)) ++ world.requests c) (sym (on_file h))
          ∙ ap (λ l. as_requests (held_by c l) ++ world.requests c) h.held
          ∙ asked_among c h.before h.behind (held_of c request h.lane) (world.requests c) (eq-eqb c c refl)
          ∙ ap (λ (l : List Held). as_requests l ++ Request.OnFile request ∷
          (as_requests (held_by c h.behind) ++ world.requests c)) (none_before world off c request n h),
    )) source.from

-- ---- opens that are found

-- a connected open of the client is found
pub never_lost : (server : Server) (c file_id : ℕ) (one : Open) → Among one server.opens → one.client ≡ c
    → one.file_id ≡ file_id → one.connected ≡ true → connected_open server c file_id ≡ None → ⊥
never_lost server c file_id one there by id up none = clash (one.file_id == file_id && one.client == c && one.connected)
    (and_both (one.file_id == file_id && one.client == c) one.connected
    (and_both (one.file_id == file_id) (one.client == c) (eq-eqb one.file_id file_id id) (eq-eqb one.client c by)) up)
    (find_absent (λ (x : Open). x.file_id == file_id && x.client == c && x.connected) one server.opens none there)
