-- While a client's link is up, what it believes it may do with writes its lease holds, of each file whose timer didn't run
-- out.
use Rattle.lease_laws.proofs.Words.{◌++◌, ◌==◌, ◌∙◌, ◌∷◌, ◌≡◌, ◌⊎◌, Among, Client, FileRequest, Held, List, Open, Phase, Reply}
use Rattle.lease_laws.proofs.Words.{Request, Some, World, ℕ, ⊎_elim, ap, ap₂, arith, eqb-true, false, has_key, held_of, inl}
use Rattle.lease_laws.proofs.Words.{inr, is_key, is_up, key_of, lease_key, list_any, machine_key, refl, subst, sym, true}
use Rattle.lease_laws.proofs.Words.{Lane}
use Rattle.lease_laws.proofs.client.Thin.{put_same}
use Rattle.lease_laws.proofs.client.cases.Replies.{is_live}
use Rattle.lease_laws.proofs.server.Keys.{is_key-refl}
use Rattle.lease_laws.proofs.server.Lists.{among_behind, clash, has_any, not_true}
use Rattle.lease_laws.proofs.server.PassWaits.{among_more}
use Rattle.lease_coherence.specs.Names.{Each, IsOwnOpen}
use Rattle.lease_coherence.specs.Standing.{GivenWell, IsNoClose, IsOpenFor, IsStandingAt, PhaseStands, Stands}
use Rattle.lease_coherence.proofs.beliefs.OneFile.{IsExplained, less_explained}
use Rattle.lease_coherence.proofs.beliefs.OneLease.{LowersWell, OpenTillAck, acks, is_created}
use Rattle.lease_coherence.proofs.moves.Deeds.{IsSource, with_held}
use Rattle.lease_coherence.proofs.moves.Ground.{among_put}
use Rattle.lease_coherence.proofs.moves.Moves.{IsOldest, popped, rest_of}
use Rattle.lease_coherence.proofs.names.NamedInRecord.{each_rest, each_weaker}

abbrev pub file_key : World → ℕ → ℕ → List ℕ
file_key world client file = lease_key (world.clients client).guid file

-- a connected open that no Close before the acknowledgment closes
pub record IsAnchored (world : World) (client file : ℕ) : Type 0 where
  pub file_id : ℕ
  pub opened : IsOpenFor world client file file_id
  pub till : OpenTillAck (file_key world client file) file_id (world.requests client)
  pub held : (at : ℕ) (one : Held) → Among one (world.server.held at) → one.client ≡ client
      → IsNoClose file_id (Request.OnFile one.request)

pub record IsTrustedFor (world : World) (client file : ℕ) : Type 0 where
  pub explained : IsExplained (file_key world client file) file (world.server.leases (machine_key world client file))
      ((world.clients client).entries file).phase (world.requests client) (world.replies client)
  pub anchor : (acks (file_key world client file) (world.requests client) ≡ 0) ⊎ IsAnchored world client file

pub record HasTrust (world : World) (client : ℕ) : Type 0 where
  pub lowered : Each LowersWell (world.replies client)
  pub files : (file : ℕ) → world.server.expired (machine_key world client file) ≡ false → IsTrustedFor world client file

abbrev pub IsUpTrusted : World → ℕ → Type 0
IsUpTrusted world client = is_up (world.links client) ≡ true → HasTrust world client

-- ---- an open under a file's key

pub open_has_key : (world : World) (c file file_id : ℕ) → (o : IsOpenFor world c file file_id)
    → IsOwnOpen (world.clients c).guid o.one → has_key (machine_key world c file) o.one ≡ true
open_has_key world c file file_id o own = subst (λ bytes. is_key (machine_key world c file) (o.one).client bytes ≡ true)
    (sym (own ∙ ap (λ f. Some (lease_key (world.clients c).guid f)) o.on_file))
    (subst (λ d. is_key (machine_key world c file) d (Some (file_key world c file)) ≡ true) (sym o.by)
    (is_key-refl c (file_key world c file)))

-- where the key has no open, nothing of the file stands
pub nothing_stands : (world : World) (c file : ℕ) → IsStandingAt world c
    → ((one : Open) → Among one world.server.opens → one.client ≡ c → IsOwnOpen (world.clients c).guid one)
    → world.server.expired (machine_key world c file) ≡ false
    → list_any (has_key (machine_key world c file)) world.server.opens ≡ false
    → (is_live ((world.clients c).entries file).phase ≡ false) × Each (λ reply. is_created file reply ≡ false) (world.replies c)
nothing_stands world c file s own fresh none = (
  no_live ((world.clients c).entries file).phase refl,
  each_weaker (GivenWell world c) (λ reply. is_created file reply ≡ false) (world.replies c) not_created s.given,
)
  where
    never : (file_id : ℕ) → Stands world c file file_id → ⊥
    never file_id x = ⊎_elim
        (λ out. clash (world.server.expired (machine_key world c file)) out fresh)
        (λ o. clash (list_any (has_key (machine_key world c file)) world.server.opens)
        (has_any (has_key (machine_key world c file)) o.one world.server.opens o.there
        (open_has_key world c file file_id o (own o.one o.there o.by))) none) x

    no_live : (phase : Phase) → ((world.clients c).entries file).phase ≡ phase
        → is_live ((world.clients c).entries file).phase ≡ false
    no_live Phase.Closed is = ap is_live is
    no_live (Phase.Opening access share) is = ap is_live is
    no_live (Phase.Live live) is = absurd (stands_live (subst (PhaseStands world c file) is (s.phases file)))
      where
        stands_live : PhaseStands world c file (Phase.Live live) → ⊥
        stands_live p = never live.file_id p.0
    no_live (Phase.Offline parted) is = ap is_live is
    no_live (Phase.Reconnecting parted) is = ap is_live is

    not_created : (reply : Reply) → GivenWell world c reply → is_created file reply ≡ false
    not_created (Reply.Created other file_id contexts) w = not_true (other == file)
        (λ same. never file_id (subst (λ f. Stands world c f file_id) (eqb-true other file same) w.stands))
    not_created reply w = refl

-- ---- what leaves the queue

pub file_acks : (key : List ℕ) (queue rest : List Request) (request : FileRequest) → queue ≡ Request.OnFile request ∷ rest
    → acks key (rest_of queue) ≡ acks key queue
file_acks key queue rest request e = subst (λ q. acks key (rest_of q) ≡ acks key q) (sym e) (omega arith)

-- what it asks closes no anchor
first_open : (world : World) (c file : ℕ) (request : FileRequest) → IsOldest world c (Request.OnFile request)
    → (a : IsAnchored world c file) → IsNoClose a.file_id (Request.OnFile request)
first_open world c file request oldest a = let whole : OpenTillAck (file_key world c file) a.file_id
    (Request.OnFile request ∷ oldest.queue) =
    subst (OpenTillAck (file_key world c file) a.file_id) oldest.is_first a.till in whole.0

-- an anchor that the request doesn't close
pub record IsAnchoredBut (world : World) (client file : ℕ) (request : FileRequest) : Type 0 where
  pub anchored : IsAnchored world client file
  pub stays : IsNoClose anchored.file_id (Request.OnFile request)

-- a request about a file that leaves its queue
pub popped_anchor : (world : World) (c file : ℕ) (request : FileRequest) → IsOldest world c (Request.OnFile request)
    → IsAnchored world c file → IsAnchoredBut (popped world c) c file request
popped_anchor world c file request oldest a = record {
  anchored = record {
    file_id = a.file_id;
    opened = record {
      one = a.opened.one;
      there = a.opened.there;
      id = a.opened.id;
      by = a.opened.by;
      on_file = a.opened.on_file;
      up = a.opened.up;
    };
    till = subst (OpenTillAck (file_key world c file) a.file_id)
        (sym (put_same world.requests c (rest_of (world.requests c)))) (rest_open a.till);
    held = a.held;
  };
  stays = first_open world c file request oldest a;
}
  where
    rest_open : OpenTillAck (file_key world c file) a.file_id (world.requests c)
        → OpenTillAck (file_key world c file) a.file_id (rest_of (world.requests c))
    rest_open o = subst (λ q. OpenTillAck (file_key world c file) a.file_id q
        → OpenTillAck (file_key world c file) a.file_id (rest_of q)) (sym oldest.is_first) (λ x. x.1) o

pub popped_trusted : (world : World) (c file : ℕ) (request : FileRequest) → IsOldest world c (Request.OnFile request)
    → IsTrustedFor world c file → IsTrustedFor (popped world c) c file
popped_trusted world c file request oldest t =
    let key = file_key world c file in
    let queue = world.requests c in
    let left : (popped world c).requests c ≡ rest_of queue = put_same world.requests c (rest_of queue) in
    let same = file_acks key queue oldest.queue request oldest.is_first in record {
      explained = subst (λ q. IsExplained key file (world.server.leases (machine_key world c file))
          ((world.clients c).entries file).phase q (world.replies c)) (sym left)
          (less_explained key file (world.server.leases (machine_key world c file)) ((world.clients c).entries file).phase
          queue (rest_of queue) (world.replies c) same (λ P each. each_rest P queue each) t.explained);
      anchor = ⊎_elim (λ zero. inl (ap (acks key) left ∙ same ∙ zero))
          (λ a. inr ((popped_anchor world c file request oldest a).anchored)) t.anchor;
    }

-- one that was held
left_anchor : (world : World) (c file at : ℕ) (before behind : List Held) (request : FileRequest)
    (lane : Lane) → world.server.held at ≡ before ++ held_of c request lane ∷ behind → IsAnchored world c file
    → IsAnchoredBut (with_held world at (before ++ behind)) c file request
left_anchor world c file at before behind request lane held a = record {
  anchored = record {
    file_id = a.file_id;
    opened = record {
      one = a.opened.one;
      there = a.opened.there;
      id = a.opened.id;
      by = a.opened.by;
      on_file = a.opened.on_file;
      up = a.opened.up;
    };
    till = a.till;
    held = λ f x b own. ⊎_elim (λ old. a.held f x old own)
        (λ left. a.held at x (subst (λ (l : List Held). Among x l) (sym held)
        (among_more x (held_of c request lane) before behind left.1)) own)
        (among_put world.server.held at (before ++ behind) f x b);
  };
  stays = a.held at (held_of c request lane) (subst (λ (l : List Held). Among (held_of c request lane) l) (sym held)
      (among_behind (held_of c request lane) before (held_of c request lane ∷ behind) (inl refl))) refl;
}

left_trusted : (world : World) (c file at : ℕ) (before behind : List Held) (request : FileRequest)
    (lane : Lane) → world.server.held at ≡ before ++ held_of c request lane ∷ behind → IsTrustedFor world c file
    → IsTrustedFor (with_held world at (before ++ behind)) c file
left_trusted world c file at before behind request lane held t = record {
  explained = t.explained;
  anchor = ⊎_elim (λ zero. inl zero)
      (λ a. inr ((left_anchor world c file at before behind request lane held a).anchored)) t.anchor;
}

pub off_anchors : (world off : World) (c file : ℕ) (request : FileRequest) → IsSource world off c request
    → IsTrustedFor world c file → (acks (file_key off c file) (off.requests c) ≡ 0) ⊎ IsAnchoredBut off c file request
off_anchors world off c file request source t = ⊎_elim
    (λ x. subst (λ o. (acks (file_key o c file) (o.requests c) ≡ 0) ⊎ IsAnchoredBut o c file request) (sym x.is_off)
    (⊎_elim (λ zero. inl (ap (acks (file_key world c file)) (put_same world.requests c (rest_of (world.requests c)))
    ∙ file_acks (file_key world c file) (world.requests c) x.oldest.queue request x.oldest.is_first ∙ zero))
    (λ a. inr (popped_anchor world c file request x.oldest a)) t.anchor))
    (λ h. subst (λ o. (acks (file_key o c file) (o.requests c) ≡ 0) ⊎ IsAnchoredBut o c file request) (sym h.is_off)
    (⊎_elim (λ zero. inl zero) (λ a. inr (left_anchor world c file h.file h.before h.behind request h.lane h.held a)) t.anchor))
    source.from

pub off_trusted : (world off : World) (c file : ℕ) (request : FileRequest) → IsSource world off c request
    → IsTrustedFor world c file → IsTrustedFor off c file
off_trusted world off c file request source t = ⊎_elim
    (λ a. subst (λ o. IsTrustedFor o c file) (sym a.is_off) (popped_trusted world c file request a.oldest t))
    (λ h. subst (λ o. IsTrustedFor o c file) (sym h.is_off)
    (left_trusted world c file h.file h.before h.behind request h.lane h.held t))
    source.from

-- ---- what is sent

-- the same opens and requests, in another world
pub anchor_same : (world new : World) (c file : ℕ) → new.clients c ≡ world.clients c → new.requests c ≡ world.requests c
    → new.server.held ≡ world.server.held
    → ((one : Open) → one.client ≡ c → one.connected ≡ true → Among one world.server.opens → Among one new.server.opens)
    → IsAnchored world c file → IsAnchored new c file
anchor_same world new c file clients requests held kept a = record {
  file_id = a.file_id;
  opened = record {
    one = a.opened.one;
    there = kept a.opened.one a.opened.by a.opened.up a.opened.there;
    id = a.opened.id;
    by = a.opened.by;
    on_file = a.opened.on_file;
    up = a.opened.up;
  };
  till = subst (λ (m : Client). OpenTillAck (lease_key m.guid file) a.file_id (new.requests c)) (sym clients)
      (subst (OpenTillAck (file_key world c file) a.file_id) (sym requests) a.till);
  held = λ at one x own. a.held at one (subst (λ (h : ℕ → List Held). Among one (h at)) held x) own;
}

-- a client's queues and entries as they were, and the lease of the file so
pub trusted_by : (world new : World) (c file : ℕ) → new.clients c ≡ world.clients c
    → new.requests c ≡ world.requests c → new.server.held ≡ world.server.held
    → ((one : Open) → one.client ≡ c → one.connected ≡ true → Among one world.server.opens → Among one new.server.opens)
    → IsExplained (file_key world c file) file (new.server.leases (machine_key world c file))
    ((world.clients c).entries file).phase (world.requests c) (new.replies c)
    → IsTrustedFor world c file → IsTrustedFor new c file
trusted_by world new c file clients requests held kept explained t = record {
  explained = subst (λ (m : Client). IsExplained (lease_key m.guid file) file
      (new.server.leases (key_of c (lease_key m.guid file))) (m.entries file).phase (new.requests c) (new.replies c))
      (sym clients) (subst (λ q. IsExplained (file_key world c file) file (new.server.leases (machine_key world c file))
      ((world.clients c).entries file).phase q (new.replies c)) (sym requests) explained);
  anchor = ⊎_elim
      (λ zero. inl (ap₂ (λ (m : Client) q. acks (lease_key m.guid file) q) clients requests ∙ zero))
      (λ a. inr (anchor_same world new c file clients requests held kept a)) t.anchor;
}
