-- Opens that are closed take no trust away: a lease that stays is as it was, and of one that goes nothing is believed.
use Rattle.lease_laws.proofs.Words.{◌++◌, ◌==◌, ◌∙◌, ◌∷◌, ◌≡◌, ◌⊎◌, Among, Bool, Fact, FileRequest, Key, Lease, List, Open}
use Rattle.lease_laws.proofs.Words.{Reply, Server, World, ℕ, [], ⊎_elim, ap, false, has_key, inl, inr, key_eq, list_any}
use Rattle.lease_laws.proofs.Words.{machine_key, no_lease, not, put, put_key, refl, subst, sym, true, true≢false, with_opens}
use Rattle.lease_laws.proofs.Words.{without}
use Rattle.lease_laws.proofs.client.Thin.{put_same}
use Rattle.lease_laws.proofs.server.Keys.{is_key-one, key_eq-refl, put_key-cases}
use Rattle.lease_laws.proofs.server.Lists.{among_filter, among_filtered, clash, either, has_any, if_cases, not_true}
use Rattle.lease_coherence.specs.Names.{Each, IsOwnOpen}
use Rattle.lease_coherence.specs.Standing.{IsStandingAt}
use Rattle.lease_coherence.proofs.beliefs.OneFile.{IsExplained, gone_explained, plain_explained}
use Rattle.lease_coherence.proofs.beliefs.OneLease.{LowersWell, acks}
use Rattle.lease_coherence.proofs.beliefs.Sent.{off_fresh, off_trust}
use Rattle.lease_coherence.proofs.beliefs.Trust.{HasTrust, IsAnchored, IsTrustedFor, file_key, nothing_stands, off_anchors}
use Rattle.lease_coherence.proofs.beliefs.Trust.{open_has_key}
use Rattle.lease_coherence.proofs.moves.Deeds.{IsSource, told_to, without_opens}
use Rattle.lease_coherence.proofs.moves.Events.{timed_out}
use Rattle.lease_coherence.proofs.moves.Foreign.{apart, false_not}
use Rattle.lease_coherence.proofs.names.NamedInRecord.{each_append}

-- ---- a world with another server, and replies that tell of no lease

abbrev pub served_by : World → Server → (ℕ → List Reply) → List Fact → World
served_by world server replies past = record world { server = server; replies = replies; past = past }

-- what is known of the change
pub record IsFewer (world : World) (server : Server) (replies : ℕ → List Reply) (past : List Fact) (c : ℕ) : Type 0
  where
    pub fresh : (file : ℕ) → server.expired (machine_key world c file) ≡ false
        → world.server.expired (machine_key world c file) ≡ false
    pub lowered : Each LowersWell (replies c)
    pub leases : (file : ℕ) → list_any (has_key (machine_key world c file)) server.opens ≡ true
        → server.leases (machine_key world c file) ≡ world.server.leases (machine_key world c file)
    pub sends : (file : ℕ) (lease : Lease)
        → IsExplained (file_key world c file) file lease ((world.clients c).entries file).phase (world.requests c)
        (world.replies c)
        → IsExplained (file_key world c file) file lease ((world.clients c).entries file).phase (world.requests c) (replies c)
    pub anchors : (file : ℕ) → server.expired (machine_key world c file) ≡ false → IsTrustedFor world c file
        → (acks (file_key world c file) (world.requests c) ≡ 0) ⊎ IsAnchored (served_by world server replies past) c file

pub fewer_trusted : (world : World) (server : Server) (replies : ℕ → List Reply) (past : List Fact) (c : ℕ)
    → IsFewer world server replies past c → IsStandingAt (served_by world server replies past) c
    → ((one : Open) → Among one server.opens → one.client ≡ c → IsOwnOpen (world.clients c).guid one)
    → HasTrust world c → HasTrust (served_by world server replies past) c
fewer_trusted world server replies past c f s own t = record {
  lowered = f.lowered;
  files = λ file fresh. let was = t.files file (f.fresh file fresh) in
      let anchor = f.anchors file fresh was in record {
        explained = either (list_any (has_key (machine_key world c file)) server.opens)
            (λ some. subst (λ (l : Lease). IsExplained (file_key world c file) file l
            ((world.clients c).entries file).phase (world.requests c) (replies c)) (sym (f.leases file some))
            (f.sends file (world.server.leases (machine_key world c file)) was.explained))
            (λ none. let gone = nothing_stands (served_by world server replies past) c file s own fresh none in
            gone_explained (file_key world c file) file (server.leases (machine_key world c file))
            ((world.clients c).entries file).phase (world.requests c) (replies c) gone.0 gone.1
            (⊎_elim (λ zero. zero) (λ a. clash (list_any (has_key (machine_key world c file)) server.opens)
            (has_any (has_key (machine_key world c file)) a.opened.one server.opens a.opened.there
            (open_has_key (served_by world server replies past) c file a.file_id a.opened
            (own a.opened.one a.opened.there a.opened.by))) none) anchor));
        anchor = anchor;
      };
}

-- an anchor whose open stays
anchor_stays : (world : World) (server : Server) (replies : ℕ → List Reply) (past : List Fact) (c file : ℕ)
    → server.held ≡ world.server.held → (a : IsAnchored world c file) → Among a.opened.one server.opens
    → IsAnchored (served_by world server replies past) c file
anchor_stays world server replies past c file held a there = record {
  file_id = a.file_id;
  opened = record {
    one = a.opened.one;
    there = there;
    id = a.opened.id;
    by = a.opened.by;
    on_file = a.opened.on_file;
    up = a.opened.up;
  };
  till = a.till;
  held = λ at one x mine. a.held at one (subst (λ h. Among one (h at)) held x) mine;
}

pub lease_stays : (server : Server) (opens : List Open) (key : Key) → list_any (has_key key) opens ≡ true
    → (with_opens server opens).leases key ≡ server.leases key
lease_stays server opens key some = if_cases (λ l. l ≡ server.leases key) (list_any (has_key key) opens)
    (server.leases key) no_lease (λ there. refl) (λ none. clash (list_any (has_key key) opens) some none)

-- ---- opens that aren't connected

pub dropped_trusted : (world : World) (c : ℕ) (test : Open → Bool)
    → ((one : Open) → test one ≡ true → one.connected ≡ false) → IsStandingAt (without_opens world test) c
    → ((one : Open) → Among one (without_opens world test).server.opens → one.client ≡ c
    → IsOwnOpen (world.clients c).guid one) → HasTrust world c → HasTrust (without_opens world test) c
dropped_trusted world c test away s own t =
    let server = with_opens world.server (without test world.server.opens) in
    fewer_trusted world server world.replies world.past c (record {
      fresh = λ file e. e;
      lowered = t.lowered;
      leases = λ file some. lease_stays world.server (without test world.server.opens) (machine_key world c file) some;
      sends = λ file lease b. b;
      anchors = λ file fresh was. ⊎_elim (λ zero. inl zero)
          (λ a. inr (anchor_stays world server world.replies world.past c file refl a
          (among_filtered (λ o. not (test o)) a.opened.one world.server.opens a.opened.there
          (false_not (test a.opened.one) (not_true (test a.opened.one)
          (λ x. clash (a.opened.one).connected a.opened.up (away a.opened.one x))))))) was.anchor;
    }) s own t

-- ---- one that its client closes

pub closed_trusted : (world off : World) (c file_id : ℕ) → IsSource world off c (FileRequest.Close file_id)
    → IsStandingAt (told_to (without_opens off (λ other. other.file_id == file_id)) c (Reply.Closed file_id)) c
    → ((one : Open) → Among one (without_opens off (λ other. other.file_id == file_id)).server.opens → one.client ≡ c
    → IsOwnOpen (off.clients c).guid one) → HasTrust world c
    → HasTrust (told_to (without_opens off (λ other. other.file_id == file_id)) c (Reply.Closed file_id)) c
closed_trusted world off c file_id source s own t =
    let test : Open → Bool = λ other. other.file_id == file_id in
    let server = with_opens off.server (without test off.server.opens) in
    let replies = put off.replies c (off.replies c ++ Reply.Closed file_id ∷ []) in
    let past = Fact.Sent c ∷ off.past in
    let there = off_trust world off c (FileRequest.Close file_id) source t in
    let sent = put_same off.replies c (off.replies c ++ Reply.Closed file_id ∷ []) in
    fewer_trusted off server replies past c (record {
      fresh = λ file e. e;
      lowered = subst (Each LowersWell) (sym sent)
          (each_append LowersWell (off.replies c) (Reply.Closed file_id ∷ []) there.lowered (tt, tt));
      leases = λ file some. lease_stays off.server (without test off.server.opens) (machine_key off c file) some;
      sends = λ file lease b. subst (IsExplained (file_key off c file) file lease ((off.clients c).entries file).phase
          (off.requests c)) (sym sent)
          (plain_explained (file_key off c file) file lease ((off.clients c).entries file).phase (off.requests c)
          (off.replies c) (Reply.Closed file_id) tt (λ breaks. tt) refl b);
      anchors = λ file fresh was. ⊎_elim (λ zero. inl zero)
          (λ a. let one = a.anchored.opened.one in
          inr (anchor_stays off server replies past c file refl a.anchored
          (among_filtered (λ o. not (test o)) one off.server.opens a.anchored.opened.there (false_not (one.file_id == file_id)
          (apart one.file_id file_id (λ e. a.stays (sym e ∙ a.anchored.opened.id)))))))
          (off_anchors world off c file (FileRequest.Close file_id) source
          (t.files file (off_fresh world off c file (FileRequest.Close file_id) source fresh)));
    }) s own there

-- ---- a timer runs out

pub timer_trusted : (world : World) (c file : ℕ) → IsStandingAt (timed_out world c file) c
    → ((one : Open) → Among one world.server.opens → one.client ≡ c → IsOwnOpen (world.clients c).guid one)
    → HasTrust world c → HasTrust (timed_out world c file) c
timer_trusted world c file s own t =
    let key = machine_key world c file in
    let server = (timed_out world c file).server in
    let past = (timed_out world c file).past in
    fewer_trusted world server world.replies past c (record {
      fresh = λ at e. was_fresh at e;
      lowered = t.lowered;
      leases = λ at some. lease_stays world.server (without (has_key key) world.server.opens) (machine_key world c at) some;
      sends = λ at lease b. b;
      anchors = λ at fresh was. ⊎_elim (λ zero. inl zero)
          (λ a. inr (anchor_stays world server world.replies past c at refl a
          (among_filtered (λ o. not (has_key key o)) a.opened.one world.server.opens a.opened.there
          (false_not (has_key key a.opened.one) (not_true (has_key key a.opened.one) (λ has. none_other at a fresh has))))))
          was.anchor;
    }) s (λ one there by. own one (among_filter (λ o. not (has_key key o)) one world.server.opens there).0 by) t
  where
    was_fresh : (at : ℕ) → put_key world.server.expired (machine_key world c file) true (machine_key world c at) ≡ false
        → world.server.expired (machine_key world c at) ≡ false
    was_fresh at = put_key-cases (λ b. b ≡ false → world.server.expired (machine_key world c at) ≡ false)
        world.server.expired (machine_key world c file) true (machine_key world c at)
        (λ same e. absurd (true≢false e)) (λ other e. e)

    apart_key : (at : ℕ) → put_key world.server.expired (machine_key world c file) true (machine_key world c at) ≡ false
        → key_eq (machine_key world c at) (machine_key world c file) ≡ false
    apart_key at = put_key-cases (λ b. b ≡ false → key_eq (machine_key world c at) (machine_key world c file) ≡ false)
        world.server.expired (machine_key world c file) true (machine_key world c at)
        (λ same e. absurd (true≢false e)) (λ other e. other)

    none_other : (at : ℕ) (a : IsAnchored world c at)
        → put_key world.server.expired (machine_key world c file) true (machine_key world c at) ≡ false
        → has_key (machine_key world c file) a.opened.one ≡ true → ⊥
    none_other at a fresh has = let one = a.opened.one in
        clash (key_eq (machine_key world c at) (machine_key world c file)) (ap (λ k. key_eq (machine_key world c at) k)
        (sym (is_key-one (machine_key world c at) (machine_key world c file) one.client one.lease_key
        (open_has_key world c at a.file_id a.opened (own one a.opened.there a.opened.by)) has))
        ∙ key_eq-refl (machine_key world c at)) (apart_key at fresh)

-- the opens that are left were there
pub left_there : (world : World) (test : Open → Bool) (one : Open)
    → Among one (without_opens world test).server.opens → Among one world.server.opens
left_there world test one there = (among_filter (λ o. not (test o)) one world.server.opens there).0
