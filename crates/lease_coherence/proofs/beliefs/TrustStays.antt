-- Every move keeps the trust of each client that hasn't strayed.
use Rattle.lease_laws.proofs.Words.{◌++◌, ◌==◌, ◌∙◌, ◌∷◌, ◌≡◌, Access, Among, Client, CreateAsk, FileRequest, Held}
use Rattle.lease_laws.proofs.Words.{IsSoundClient, Lease, List, Reply, Share, Some, World, ℕ, ⊎_elim, ap, ap₂, commanded}
use Rattle.lease_laws.proofs.Words.{eq-eqb, false, inl, inr, is_up, key_of, lease_key, machine_key, refl, subst, sym, taken}
use Rattle.lease_laws.proofs.Words.{true}
use Rattle.lease_laws.proofs.client.Forms.{commanded-stays, taken-stays}
use Rattle.lease_laws.proofs.client.Thin.{put_same}
use Rattle.lease_laws.proofs.server.Lists.{among_filter, among_filtered}
use Rattle.lease_coherence.specs.Names.{Each, IsNamedAt, IsOwnCreate}
use Rattle.lease_coherence.specs.Standing.{IsStandingAt}
use Rattle.lease_coherence.proofs.beliefs.Acked.{done_trusted, failed_trusted, held_trusted}
use Rattle.lease_coherence.proofs.beliefs.Anchors.{command_anchors, take_anchors}
use Rattle.lease_coherence.proofs.beliefs.Clients.{command_believes, take_believes}
use Rattle.lease_coherence.proofs.beliefs.Closed.{closed_trusted, dropped_trusted, left_there, timer_trusted}
use Rattle.lease_coherence.proofs.beliefs.Given.{granted_trusted, reconnected_trusted}
use Rattle.lease_coherence.proofs.beliefs.OneFile.{IsExplained}
use Rattle.lease_coherence.proofs.beliefs.OneLease.{LowersWell, OpenTillAck, acks}
use Rattle.lease_coherence.proofs.beliefs.Sent.{begin_trusted, changed_trusted, lower_trusted, off_trust, told_trusted}
use Rattle.lease_coherence.proofs.beliefs.Steps.{IsKnown, step_trusted}
use Rattle.lease_coherence.proofs.beliefs.Trust.{HasTrust, IsAnchored, IsTrustedFor, anchor_same, file_key}
use Rattle.lease_coherence.proofs.layers.Layers.{HasLayers}
use Rattle.lease_coherence.proofs.moves.Deeds.{IsSource}
use Rattle.lease_coherence.proofs.moves.Events.{reply_gone, reply_taken}
use Rattle.lease_coherence.proofs.moves.Foreign.{IsUnmoved, off_sound}
use Rattle.lease_coherence.proofs.moves.Own.{IsOwnMoved, IsUp, told_bare}
use Rattle.lease_coherence.proofs.names.Names.{off_named}
use Rattle.lease_coherence.proofs.standing.OpensStayStanding.{gone_standing, standing_moves}

-- ---- what others do

unmoved_trusted : (world new : World) (c : ℕ) → IsUnmoved world new c → HasTrust world c → HasTrust new c
unmoved_trusted world new c u t = record {
  lowered = subst (Each LowersWell) (sym u.replies) t.lowered;
  files = λ file fresh. let was = t.files file (was_fresh file fresh) in record {
    explained = explained_there file was.explained;
    anchor = ⊎_elim
        (λ zero. inl (ap₂ (λ (m : Client) q. acks (lease_key m.guid file) q) u.machine u.requests ∙ zero))
        (λ a. inr (anchored_there file a)) was.anchor;
  };
}
  where
    was_fresh : (file : ℕ) → new.server.expired (machine_key new c file) ≡ false
        → world.server.expired (machine_key world c file) ≡ false
    was_fresh file fresh = sym (u.expired (machine_key world c file) refl)
        ∙ ap (λ (m : Client). new.server.expired (key_of c (lease_key m.guid file))) (sym u.machine) ∙ fresh

    explained_there : (file : ℕ) → IsExplained (file_key world c file) file (world.server.leases (machine_key world c file))
        ((world.clients c).entries file).phase (world.requests c) (world.replies c)
        → IsExplained (file_key new c file) file (new.server.leases (machine_key new c file))
        ((new.clients c).entries file).phase (new.requests c) (new.replies c)
    explained_there file b =
        subst (λ (m : Client). IsExplained (lease_key m.guid file) file (new.server.leases (key_of c (lease_key m.guid file)))
        (m.entries file).phase (new.requests c) (new.replies c)) (sym u.machine)
        (subst (λ (l : Lease). IsExplained (file_key world c file) file l ((world.clients c).entries file).phase
        (new.requests c) (new.replies c)) (sym (u.leases (machine_key world c file) refl))
        (subst (λ q. IsExplained (file_key world c file) file (world.server.leases (machine_key world c file))
        ((world.clients c).entries file).phase q (new.replies c)) (sym u.requests)
        (subst (IsExplained (file_key world c file) file (world.server.leases (machine_key world c file))
        ((world.clients c).entries file).phase (world.requests c)) (sym u.replies) b)))

    anchored_there : (file : ℕ) → IsAnchored world c file → IsAnchored new c file
    anchored_there file a = record {
      file_id = a.file_id;
      opened = record {
        one = a.opened.one;
        there = u.kept a.opened.one a.opened.by a.opened.there;
        id = a.opened.id;
        by = a.opened.by;
        on_file = a.opened.on_file;
        up = a.opened.up;
      };
      till = subst (λ (m : Client). OpenTillAck (lease_key m.guid file) a.file_id (new.requests c)) (sym u.machine)
          (subst (OpenTillAck (file_key world c file) a.file_id) (sym u.requests) a.till);
      held = λ at one x own. a.held at one (among_filter (λ h. h.client == c) one (world.server.held at)
          (subst (λ (l : List Held). Among one l) (u.held at)
          (among_filtered (λ h. h.client == c) one (new.server.held at) x (eq-eqb one.client c own)))).0 own;
    }

-- ---- a create, by what its client names

pub own_create : (world off : World) (c file : ℕ) (access : Access) (share : Share) (ask : CreateAsk)
    → IsSource world off c (FileRequest.Create file access share (Some ask)) → IsNamedAt world c
    → IsOwnCreate c (off.clients c).guid off.past file ask
own_create world off c file access share ask source n =
    (off_named world off c (FileRequest.Create file access share (Some ask)) c source n).1 refl

-- ---- a message is taken

gone_known : (world : World) (c : ℕ) (reply : Reply) (queue : List Reply) → world.replies c ≡ reply ∷ queue
    → (file : ℕ) → IsTrustedFor world c file → IsKnown (reply_gone world c queue) c file (reply ∷ queue)
gone_known world c reply queue first file t = record {
  explained = subst (IsExplained (file_key world c file) file (world.server.leases (machine_key world c file))
      ((world.clients c).entries file).phase (world.requests c)) first t.explained;
  anchor = ⊎_elim (λ zero. inl zero)
      (λ a. inr (anchor_same world (reply_gone world c queue) c file refl refl refl (λ one own up x. x) a)) t.anchor;
}

take_trusted : (world : World) (c : ℕ) (reply : Reply) (queue : List Reply) → world.replies c ≡ reply ∷ queue
    → is_up (world.links c) ≡ true → IsSoundClient (world.clients c) → IsStandingAt world c → HasTrust world c
    → HasTrust (reply_taken world c reply queue) c
take_trusted world c reply queue first up sound s t =
    let gone = reply_gone world c queue in
    let machine = world.clients c in
    let left : gone.replies c ≡ queue = put_same world.replies c queue in
    let lowered : Each LowersWell (reply ∷ queue) = subst (Each LowersWell) first t.lowered in
    step_trusted gone c (taken machine reply) (reply ∷ queue) up (taken-stays machine reply).guid
    (take_anchors machine reply)
    (λ file b. subst (IsExplained (file_key world c file) file (world.server.leases (machine_key world c file))
    ((taken machine reply).client.entries file).phase (world.requests c ++ (taken machine reply).requests)) (sym left)
    (take_believes machine sound reply lowered.0 file
    (world.server.leases (machine_key world c file)) (world.requests c) queue b)) (subst (Each LowersWell) (sym left) lowered.1)
    (λ file fresh. gone_known world c reply queue first file (t.files file fresh)) (gone_standing world c reply queue first s)

-- ---- all moves

pub trust_moves : IsOwnMoved HasLayers IsUp HasTrust
trust_moves = record {
  unmoved = λ world new c k u a. unmoved_trusted world new c u a;
  told = λ world off c request reply k source is a.
      told_trusted off c reply (told_bare off c request reply is) (off_trust world off c request source a);
  granted = λ world off c file access share ask k source none on free a.
      let request = FileRequest.Create file access share (Some ask) in
      let own = own_create world off c file access share ask source (k.all.named c k.good) in
      granted_trusted off c file access share ask own.lease own.asks own.key
      (off_sound world off c request source k.all.ground.fine.sound) free
      (off_trust world off c request source a);
  reconnected = λ world off c file access share ask file_id k source again on waits a.
      let request = FileRequest.Create file access share (Some ask) in
      let own = own_create world off c file access share ask source (k.all.named c k.good) in
      reconnected_trusted off c file ask file_id own.lease own.asks own.key
      (off_sound world off c request source k.all.ground.fine.sound)
      (off_trust world off c request source a);
  changed = λ world off c file_id number patch one k source found may a.
      changed_trusted off c one.file file_id number patch (off_trust world off c _ source a);
  closed = λ world off c file_id one k source found a. closed_trusted world off c file_id source
      (standing_moves.closed world off c file_id one k source found (k.all.opens c k.good k.when))
      (λ x there by. (off_named world off c (FileRequest.Close file_id) c source (k.all.named c k.good)).0.opens x
      (left_there off (λ other. other.file_id == file_id) x there) by) a;
  ack_failed = λ world c given status k oldest why a. failed_trusted world c given status oldest a;
  ack_done = λ world c given lowered k oldest there breaks within a. done_trusted world c given oldest a;
  hold = λ world file one k oldest may turn a. held_trusted world file one oldest a;
  dropped = λ world c test k away a. dropped_trusted world c test away
      (standing_moves.dropped world c test k away (k.all.opens c k.good k.when))
      (λ x there by. (k.all.named c k.good).opens x (left_there world test x there) by) a;
  lower = λ world key lowered k may light a. lower_trusted world key lowered may light a;
  begin = λ world key lowered k may heavy a. begin_trusted world key lowered may a;
  timer = λ world c file k on breaks a. timer_trusted world c file
      (standing_moves.timer world c file k on breaks (k.all.opens c k.good k.when))
      (λ x there by. (k.all.named c k.good).opens x there by) a;
  command = λ world c command k a.
      let machine = world.clients c in
      step_trusted world c (commanded machine command) (world.replies c) k.when (commanded-stays machine command).guid
      (command_anchors machine command)
      (λ file b. command_believes machine command file
      (world.server.leases (machine_key world c file)) (world.requests c) (world.replies c) b)
      a.lowered (λ file fresh. let x = a.files file fresh in record { explained = x.explained; anchor = x.anchor })
      (k.all.opens c k.good k.when);
  take = λ world c reply queue k first a.
      take_trusted world c reply queue first k.when (k.all.ground.clients c) (k.all.opens c k.good k.when) a;
}
