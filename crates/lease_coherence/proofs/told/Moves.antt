-- While a lease is breaking, its acknowledgment is on its way, or its break to an entry that is or will be live, or each of its
-- opens is being closed; and what the server does leaves it so.
use Rattle.lease_laws.proofs.Words.{◌++◌, ◌==◌, ◌∙◌, ◌∷◌, ◌≡◌, ◌⊎◌, Among, Bool, Client, FileRequest, Held, IsSound, Key, Lease}
use Rattle.lease_laws.proofs.Words.{List, None, Open, Option, Phase, Reply, Request, Server, Some, World, ℕ, [], ⊎_elim, ap}
use Rattle.lease_laws.proofs.Words.{bytes_eq, eq-eqb, eqb-true, false, has_key, inl, inr, is_breaking, is_key, is_up, key_of}
use Rattle.lease_laws.proofs.Words.{lease_key, list_any, machine_key, refl, subst, sym, true, true≢false}
use Rattle.lease_laws.proofs.client.Thin.{put_same}
use Rattle.lease_laws.proofs.client.cases.Replies.{is_live}
use Rattle.lease_laws.proofs.server.Keys.{is_key-one}
use Rattle.lease_laws.proofs.server.Lists.{and_parts, any_has, clash, either, not_false}
use Rattle.lease_coherence.specs.Agreement.{as_requests, asked_of}
use Rattle.lease_coherence.specs.Creates.{held_by}
use Rattle.lease_coherence.specs.Names.{IsOwnOpen}
use Rattle.lease_coherence.specs.Standing.{IsNoClose}
use Rattle.lease_coherence.proofs.beliefs.Forms.{keys_apart}
use Rattle.lease_coherence.proofs.beliefs.OneLease.{acks}
use Rattle.lease_coherence.proofs.beliefs.Trust.{file_acks, file_key}
use Rattle.lease_coherence.proofs.covered.Asked.{off_closed}
use Rattle.lease_coherence.proofs.covered.CoveredOpens.{ClosedBefore}
use Rattle.lease_coherence.proofs.creates.Creates.{off_rest}
use Rattle.lease_coherence.proofs.moves.Deeds.{IsSource}
use Rattle.lease_coherence.proofs.moves.Frames.{from_source}
use Rattle.lease_coherence.proofs.moves.Moves.{rest_of}
use Rattle.lease_coherence.proofs.told.BreaksMet.{HasMet, met_behind}

-- ---- one file

-- each open of the key is being closed
abbrev pub ClosedIn : World → Key → ℕ → ℕ → Type 0
ClosedIn world key c file = (x : Open) → Among x world.server.opens → has_key key x ≡ true
    → ClosedBefore file x.file_id (asked_of world c file)

abbrev pub ToldBy : List ℕ → ℕ → Phase → List Request → List Reply → Type 0 → Type 0
ToldBy key file phase requests replies closed = (acks key requests ≡ 0 → ⊥) ⊎ (HasMet key file (is_live phase) replies ⊎ closed)

abbrev pub IsToldFor : World → ℕ → ℕ → Type 0
IsToldFor world c file = is_breaking (world.server.leases (machine_key world c file)) ≡ true
    → ToldBy (file_key world c file) file ((world.clients c).entries file).phase (world.requests c) (world.replies c)
    (ClosedIn world (machine_key world c file) c file)

abbrev pub HasTold : World → ℕ → Type 0
HasTold world c = (file : ℕ) → world.server.expired (machine_key world c file) ≡ false → IsToldFor world c file

abbrev pub IsUpTold : World → ℕ → Type 0
IsUpTold world c = is_up (world.links c) ≡ true → HasTold world c

pub told_map : (key : List ℕ) (file : ℕ) (old new : Phase) (requests asked : List Request) (replies queue : List Reply)
    (closed left : Type 0) → ((acks key requests ≡ 0 → ⊥) → acks key asked ≡ 0 → ⊥)
    → (HasMet key file (is_live old) replies → ToldBy key file new asked queue left) → (closed → left)
    → ToldBy key file old requests replies closed → ToldBy key file new asked queue left
told_map key file old new requests asked replies queue closed left a m k t =
    ⊎_elim (λ x. inl (a x)) (λ x. ⊎_elim m (λ y. inr (inr (k y))) x) t

-- a world with the same machine
pub kept_told : (world new : World) (c : ℕ) → new.clients c ≡ world.clients c
    → ((file : ℕ) → new.server.expired (machine_key world c file) ≡ false
    → is_breaking (new.server.leases (machine_key world c file)) ≡ true
    → ToldBy (file_key world c file) file ((world.clients c).entries file).phase (new.requests c) (new.replies c)
    (ClosedIn new (machine_key world c file) c file)) → HasTold new c
kept_told world new c machine told file = subst
    (λ (m : Client). new.server.expired (key_of c (lease_key m.guid file)) ≡ false
    → is_breaking (new.server.leases (key_of c (lease_key m.guid file))) ≡ true
    → ToldBy (lease_key m.guid file) file (m.entries file).phase (new.requests c) (new.replies c)
    (ClosedIn new (key_of c (lease_key m.guid file)) c file)) (sym machine) (told file)

-- ---- opens of a key that is breaking

-- a lease that is breaking has an open, and each is connected
pub breaking_open : (server : Server) (key : Key) → IsSound server → is_breaking (server.leases key) ≡ true
    → (x : Open) × (Among x server.opens) × (has_key key x ≡ true)
breaking_open server key sound breaks = either (list_any (has_key key) server.opens)
    (λ some. any_has (has_key key) server.opens some)
    (λ none. clash (is_breaking (server.leases key)) breaks (ap is_breaking (sound.no_open key none)))

pub breaking_up : (server : Server) (key : Key) (x : Open) → IsSound server → Among x server.opens
    → has_key key x ≡ true → is_breaking (server.leases key) ≡ true → x.connected ≡ true
breaking_up server key x sound there has breaks = not_false x.connected (λ off.
    let last = sound.disconnected x there off in
    clash (is_breaking (server.leases key)) breaks
    (ap (λ k. is_breaking (server.leases k)) (is_key-one key last.key x.client x.lease_key has last.has_the_key)
    ∙ last.is_settled))

-- an open under a file's key is the client's, on the file
pub open_place : (world : World) (c file : ℕ) (x : Open) → (x.client ≡ c → IsOwnOpen (world.clients c).guid x)
    → has_key (machine_key world c file) x ≡ true → (x.client ≡ c) × (x.file ≡ file)
open_place world c file x own has = (by, on)
  where
    client_of : (bytes : Option (List ℕ)) → is_key (machine_key world c file) x.client bytes ≡ true → x.client ≡ c
    client_of None never = absurd (true≢false (sym never))
    client_of (Some bytes) e = sym (eqb-true c x.client (and_parts _ _ e).0)

    by : x.client ≡ c
    by = client_of x.lease_key has

    key_of_open : is_key (machine_key world c file) x.client (Some (lease_key (world.clients c).guid x.file)) ≡ true
    key_of_open = subst (λ bytes. is_key (machine_key world c file) x.client bytes ≡ true) (own (client_of x.lease_key has)) has

    on : x.file ≡ file
    on = either (file == x.file) (λ same. sym (eqb-true file x.file same))
        (λ apart. clash (bytes_eq (file_key world c file) (lease_key (world.clients c).guid x.file))
        (and_parts (c == x.client) (bytes_eq (file_key world c file) (lease_key (world.clients c).guid x.file)) key_of_open).1
        (keys_apart (world.clients c).guid file x.file (λ e. clash (file == x.file) (eq-eqb file x.file e) apart)))

-- ---- a request is answered

pub record IsSameServer (off world : World) : Type 0 where
  pub opens : off.server.opens ≡ world.server.opens
  pub leases : off.server.leases ≡ world.server.leases
  pub expired : off.server.expired ≡ world.server.expired

pub off_server : (world off : World) (c : ℕ) (request : FileRequest) → IsSource world off c request → IsSameServer off world
off_server world off c request source = from_source world off c request (λ o. IsSameServer o world) source
    (record { opens = refl; leases = refl; expired = refl })
    (λ file left. record { opens = refl; leases = refl; expired = refl })

off_acks : (world off : World) (c : ℕ) (request : FileRequest) → IsSource world off c request → (key : List ℕ)
    → acks key (off.requests c) ≡ acks key (world.requests c)
off_acks world off c request source key = ⊎_elim
    (λ a. subst (λ (o : World). acks key (o.requests c) ≡ acks key (world.requests c)) (sym a.is_off)
    (ap (acks key) (put_same world.requests c (rest_of (world.requests c)))
    ∙ file_acks key (world.requests c) a.oldest.queue request a.oldest.is_first))
    (λ h. subst (λ (o : World). acks key (o.requests c) ≡ acks key (world.requests c)) (sym h.is_off) refl) source.from

-- what is known of the world after it
pub record IsAnswered (world off new : World) (c : ℕ) (request : FileRequest) (reply : Reply) : Type 0 where
  pub machine : new.clients c ≡ off.clients c
  pub requests : new.requests c ≡ off.requests c
  pub held : new.server.held ≡ off.server.held
  pub replies : new.replies c ≡ off.replies c ++ reply ∷ []
  pub fresh : (file : ℕ) → new.server.expired (machine_key world c file) ≡ false
      → world.server.expired (machine_key world c file) ≡ false
  pub breaks : (file : ℕ) → is_breaking (new.server.leases (machine_key world c file)) ≡ true
      → is_breaking (world.server.leases (machine_key world c file)) ≡ true
  pub opens : (file : ℕ) → is_breaking (new.server.leases (machine_key world c file)) ≡ true
      → ClosedIn world (machine_key world c file) c file → (x : Open) → Among x new.server.opens
      → has_key (machine_key world c file) x ≡ true
      → ClosedBefore file x.file_id (asked_of world c file) × IsNoClose x.file_id (Request.OnFile request)

pub answered_told : (world off new : World) (c : ℕ) (request : FileRequest) (reply : Reply)
    → IsSource world off c request → IsAnswered world off new c request reply → HasTold world c → HasTold new c
answered_told world off new c request reply source a t =
    let rest = off_rest world off c request source in
    let machine = a.machine ∙ ap (λ (m : ℕ → Client). m c) rest.clients in
    kept_told world new c machine (λ file fresh breaks.
    told_map (file_key world c file) file ((world.clients c).entries file).phase ((world.clients c).entries file).phase
    (world.requests c) (new.requests c) (world.replies c) (new.replies c)
    (ClosedIn world (machine_key world c file) c file) (ClosedIn new (machine_key world c file) c file)
    (λ some none. some (sym (off_acks world off c request source (file_key world c file))
    ∙ ap (acks (file_key world c file)) (sym a.requests) ∙ none))
    (λ met. inr (inl (subst (HasMet (file_key world c file) file (is_live ((world.clients c).entries file).phase))
    (sym (a.replies ∙ ap (λ (r : ℕ → List Reply). r c ++ reply ∷ []) rest.replies))
    (met_behind (file_key world c file) file (is_live ((world.clients c).entries file).phase) (world.replies c)
    (reply ∷ []) met))))
    (λ closed x there has. let old = a.opens file breaks closed x there has in
    same_asked file x.file_id (off_closed world off c request source file x.file_id old.1 old.0))
    (t file (a.fresh file fresh) (a.breaks file breaks)))
  where
    same_asked : (file id : ℕ) → ClosedBefore file id (asked_of off c file) → ClosedBefore file id (asked_of new c file)
    same_asked file id closed = subst (λ (h : ℕ → List Held). ClosedBefore file id (asked_in h file (new.requests c)))
        (sym a.held) (subst (λ q. ClosedBefore file id (asked_in off.server.held file q)) (sym a.requests) closed)
      where
        asked_in : (ℕ → List Held) → ℕ → List Request → List Request
        asked_in h f q = as_requests (held_by c (h f)) ++ q

-- the server as it was
pub plain_answered : (world off new : World) (c : ℕ) (request : FileRequest) (reply : Reply)
    → IsSource world off c request → new.clients c ≡ off.clients c → new.requests c ≡ off.requests c
    → new.server.held ≡ off.server.held → new.replies c ≡ off.replies c ++ reply ∷ []
    → new.server.opens ≡ off.server.opens → new.server.leases ≡ off.server.leases → new.server.expired ≡ off.server.expired
    → ((file : ℕ) (x : Open) → Among x off.server.opens → has_key (machine_key world c file) x ≡ true
    → is_breaking (off.server.leases (machine_key world c file)) ≡ true → IsNoClose x.file_id (Request.OnFile request))
    → IsAnswered world off new c request reply
plain_answered world off new c request reply source machine requests held replies opens leases expired none =
    let same = off_server world off c request source in record {
      machine = machine;
      requests = requests;
      held = held;
      replies = replies;
      fresh = λ file e. ap (λ (x : Key → Bool). x (machine_key world c file)) (sym (expired ∙ same.expired)) ∙ e;
      breaks = λ file e. ap (λ (l : Key → Lease). is_breaking (l (machine_key world c file))) (sym (leases ∙ same.leases)) ∙ e;
      opens = λ file breaks closed x there has. let was = subst (λ (l : List Open). Among x l) opens there in (
        closed x (subst (λ (l : List Open). Among x l) same.opens was) has,
        none file x was has (ap (λ (l : Key → Lease). is_breaking (l (machine_key world c file))) (sym leases) ∙ breaks),
      );
    }
