-- While a client's link is up, the open of each live entry stands, and that of each grant on its way; no Close of it is
-- on its way. A create that is under way, and its answer, fit the entry that asked.
use Rattle.lease_laws.proofs.Words.{◌++◌, ◌==◌, ◌∷◌, ◌≡◌, Among, Client, FileRequest, Held, List, Phase, Reply, Request, World}
use Rattle.lease_laws.proofs.Words.{ℕ, [], ⊎_elim, eq-eqb, held_of, inl, refl, subst, sym}
use Rattle.lease_laws.proofs.client.Thin.{put_same}
use Rattle.lease_laws.proofs.server.Lists.{among_append, among_behind, among_filter, among_filtered}
use Rattle.lease_laws.proofs.server.PassWaits.{among_more}
use Rattle.lease_coherence.specs.Names.{Each}
use Rattle.lease_coherence.specs.Standing.{AllAsked, AskFits, FitsPhase, GivenWell, IsStandingAt, NotClosed, PhaseStands}
use Rattle.lease_coherence.specs.Standing.{Stands}
use Rattle.lease_coherence.proofs.moves.Deeds.{IsSource, held_in}
use Rattle.lease_coherence.proofs.moves.Foreign.{IsUnmoved}
use Rattle.lease_coherence.proofs.moves.Ground.{among_put}
use Rattle.lease_coherence.proofs.moves.Moves.{IsOldest, popped, rest_of}
use Rattle.lease_coherence.proofs.names.NamedInRecord.{each_rest, each_weaker}

pub asked_weaker : (P Q : Request → Type 0) (world : World) (c : ℕ) → ((r : Request) → P r → Q r) → AllAsked P world c
    → AllAsked Q world c
asked_weaker P Q world c weaker a = record {
  queued = each_weaker P Q (world.requests c) weaker a.queued;
  held = λ file one x own. weaker (Request.OnFile one.request) (a.held file one x own);
}

pub asked_popped : (P : Request → Type 0) (world : World) (c : ℕ) → AllAsked P world c → AllAsked P (popped world c) c
asked_popped P world c a = record {
  queued = subst (Each P) (sym (put_same world.requests c (rest_of (world.requests c))))
      (each_rest P (world.requests c) a.queued);
  held = a.held;
}

pub head_of : {X : Type 0} (P : X → Type 0) (queue rest : List X) (x : X) → queue ≡ x ∷ rest → Each P queue → P x
head_of {X} P queue rest x e each = let whole : Each P (x ∷ rest) = subst (Each P) e each in whole.0

-- a request is taken off, and it was one of them
pub asked_off : (P : Request → Type 0) (world off : World) (c : ℕ) (request : FileRequest)
    → IsSource world off c request → AllAsked P world c → AllAsked P off c × P (Request.OnFile request)
asked_off P world off c request source a = ⊎_elim
    (λ x. subst (λ o. AllAsked P o c × P (Request.OnFile request)) (sym x.is_off) (
      asked_popped P world c a,
      head_of P (world.requests c) x.oldest.queue (Request.OnFile request) x.oldest.is_first a.queued,
    ))
    (λ h. subst (λ o. AllAsked P o c × P (Request.OnFile request)) (sym h.is_off) (
      record {
        queued = a.queued;
        held = λ file one x own. ⊎_elim (λ old. a.held file one old own)
            (λ left. a.held h.file one (subst (λ (l : List Held). Among one l) (sym h.held)
            (among_more one (held_of c request h.lane) h.before h.behind left.1)) own)
            (among_put world.server.held h.file (h.before ++ h.behind) file one x);
      },
      a.held h.file (held_of c request h.lane) (subst (λ (l : List Held). Among (held_of c request h.lane) l) (sym h.held)
          (among_behind (held_of c request h.lane) h.before (held_of c request h.lane ∷ h.behind) (inl refl))) refl,
    )) source.from

-- one is held
pub asked_held : (P : Request → Type 0) (world : World) (file : ℕ) (one : Held)
    → IsOldest world one.client (Request.OnFile one.request) → AllAsked P world one.client
    → AllAsked P (held_in (popped world one.client) file one) one.client
asked_held P world file one oldest a = let p = asked_popped P world one.client a in record {
  queued = p.queued;
  held = λ at x b own. ⊎_elim (λ old. a.held at x old own)
      (λ new. ⊎_elim (λ old. a.held file x old own)
      (λ last. ⊎_elim (λ same. subst (λ (h : Held). P (Request.OnFile h.request)) (sym same)
      (head_of P (world.requests one.client) oldest.queue (Request.OnFile one.request) oldest.is_first a.queued))
      (λ none. absurd none) last) (among_append x (world.server.held file) (one ∷ []) new.1))
      (among_put world.server.held file (world.server.held file ++ one ∷ []) at x b);
}

-- what others do
pub asked_unmoved : (P : Request → Type 0) (world new : World) (c : ℕ) → IsUnmoved world new c → AllAsked P world c
    → AllAsked P new c
asked_unmoved P world new c u a = record {
  queued = subst (Each P) (sym u.requests) a.queued;
  held = λ file one x own. a.held file one (among_filter (λ h. h.client == c) one (world.server.held file)
      (subst (λ (l : List Held). Among one l) (u.held file)
      (among_filtered (λ h. h.client == c) one (new.server.held file) x (eq-eqb one.client c own)))).0 own;
}

-- ---- what changes nothing of it

-- what stood stands, and what isn't closed isn't
pub record IsFrame (world : World) (new : World) (client : ℕ) : Type 0 where
  pub machine : new.clients client ≡ world.clients client
  pub stands : (file file_id : ℕ) → NotClosed world client file_id → Stands world client file file_id
      → Stands new client file file_id
  pub closes : (file_id : ℕ) → NotClosed world client file_id → NotClosed new client file_id
  pub asks : AllAsked (AskFits (world.clients client)) world client → AllAsked (AskFits (world.clients client)) new client

pub framed_phase : (world new : World) (c file : ℕ) (phase : Phase) → IsFrame world new c
    → PhaseStands world c file phase → PhaseStands new c file phase
framed_phase world new c file (Phase.Live live) f p = (f.stands file live.file_id p.1 p.0, f.closes live.file_id p.1)
framed_phase world new c file (Phase.Reconnecting parted) f p = f.closes parted.file_id p
framed_phase world new c file phase f p = tt

pub framed_given : (world new : World) (c : ℕ) → IsFrame world new c → (reply : Reply) → GivenWell world c reply
    → GivenWell new c reply
framed_given world new c f (Reply.Created file file_id contexts) w = record {
  stands = f.stands file file_id w.not_closed w.stands;
  not_closed = f.closes file_id w.not_closed;
  fits = subst (λ (m : Client). FitsPhase (m.entries file).phase file_id) (sym f.machine) w.fits;
}
framed_given world new c f (_) w = w

-- with these replies on their way
pub framed_at : (world new : World) (c : ℕ) → IsFrame world new c → Each (GivenWell new c) (new.replies c)
    → IsStandingAt world c → IsStandingAt new c
framed_at world new c f given s = record {
  phases = λ file. subst (λ (m : Client). PhaseStands new c file (m.entries file).phase) (sym f.machine)
      (framed_phase world new c file ((world.clients c).entries file).phase f (s.phases file));
  given = given;
  asked = subst (λ (m : Client). AllAsked (AskFits m) new c) (sym f.machine) (f.asks s.asked);
}
