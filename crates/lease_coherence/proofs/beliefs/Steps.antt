-- What a client does keeps its trust.
use Rattle.lease_laws.proofs.Words.{◌++◌, ◌+◌, ◌∙◌, ◌≡◌, ◌⊎◌, Among, Client, FileRequest, Held, IsSoundPhase, Link, List}
use Rattle.lease_laws.proofs.Words.{LiveEntry, Pending, Phase, Reply, Request, Server, Step, World, ℕ, [], ⊎_elim, ⊤, ap, ap₂}
use Rattle.lease_laws.proofs.Words.{arith, connect_turn, connection_made, false, flat_map, inl, inr, is_down, is_up, key_of}
use Rattle.lease_laws.proofs.Words.{lease_key, machine_key, not, numbers_to, refl, sent_over, stepped_in, subst, sym, true}
use Rattle.lease_laws.proofs.client.Thin.{put_same}
use Rattle.lease_laws.proofs.client.cases.Replies.{is_live}
use Rattle.lease_laws.proofs.server.Lists.{clash}
use Rattle.lease_laws.proofs.world.Runs.{stepped_server}
use Rattle.lease_coherence.specs.Creates.{held_by}
use Rattle.lease_coherence.specs.Names.{Each}
use Rattle.lease_coherence.specs.Standing.{IsNoClose, IsOpenFor, IsStandingAt, PhaseStands}
use Rattle.lease_coherence.proofs.beliefs.Anchors.{AnchorsLive, AnchorsOn}
use Rattle.lease_coherence.proofs.beliefs.Forms.{IsAboutFile, file_no_acks}
use Rattle.lease_coherence.proofs.beliefs.OneFile.{IsExplained, gone_explained}
use Rattle.lease_coherence.proofs.beliefs.OneLease.{LowersWell, OpenTillAck, acks, acks_append, open_before, open_behind}
use Rattle.lease_coherence.proofs.beliefs.Trust.{HasTrust, IsAnchored, file_key}
use Rattle.lease_coherence.proofs.creates.Creates.{none_held, stepped_machine}
use Rattle.lease_coherence.proofs.moves.Events.{Ground, come_back, connected}
use Rattle.lease_coherence.proofs.moves.Frames.{stepped_replies, stepped_requests}
use Rattle.lease_coherence.proofs.standing.OpensStayStanding.{each_flat}
use Rattle.lease_coherence.proofs.standing.Standing.{IsStepped, step_of}

-- ---- a step

-- what is known of a file before it, with the replies that were there
pub record IsKnown (world : World) (c file : ℕ) (before : List Reply) : Type 0 where
  pub explained : IsExplained (file_key world c file) file (world.server.leases (machine_key world c file))
      ((world.clients c).entries file).phase (world.requests c) before
  pub anchor : (acks (file_key world c file) (world.requests c) ≡ 0) ⊎ IsAnchored world c file

-- an anchor in another world, by what it is asked there
anchored_in : (world new : World) (c file : ℕ) (machine : Client) (requests : List Request)
    → IsStepped world new c machine requests → (file_id : ℕ) → IsOpenFor world c file file_id
    → OpenTillAck (file_key world c file) file_id (world.requests c ++ requests)
    → ((at : ℕ) (one : Held) → Among one (world.server.held at) → one.client ≡ c
    → IsNoClose file_id (Request.OnFile one.request)) → IsAnchored new c file
anchored_in world new c file machine requests is file_id o till held = record {
  file_id = file_id;
  opened = record {
    one = o.one;
    there = subst (λ (s : Server). Among o.one s.opens) (sym is.server) o.there;
    id = o.id;
    by = o.by;
    on_file = o.on_file;
    up = o.up;
  };
  till = subst (λ (m : Client). OpenTillAck (lease_key m.guid file) file_id (new.requests c)) (sym is.clients)
      (subst (λ g. OpenTillAck (lease_key g file) file_id (new.requests c)) (sym is.guid)
      (subst (OpenTillAck (file_key world c file) file_id) (sym is.queued) till));
  held = λ at one a own. held at one (subst (λ (s : Server). Among one (s.held at)) is.server a) own;
}

-- the live entry's open
live_anchored : (world new : World) (c file : ℕ) (machine : Client) (requests : List Request)
    → IsStepped world new c machine requests → (live : LiveEntry) → ((world.clients c).entries file).phase ≡ Phase.Live live
    → world.server.expired (machine_key world c file) ≡ false → IsStandingAt world c
    → OpenTillAck (file_key world c file) live.file_id requests → IsAnchored new c file
live_anchored world new c file machine requests is live was fresh s till =
    by_parts (subst (PhaseStands world c file) was (s.phases file))
  where
    by_parts : PhaseStands world c file (Phase.Live live) → IsAnchored new c file
    by_parts p = ⊎_elim (λ out. clash (world.server.expired (machine_key world c file)) out fresh)
        (λ o. anchored_in world new c file machine requests is live.file_id o
        (open_before (file_key world c file) live.file_id (world.requests c) requests p.1.queued till) p.1.held) p.0

-- the anchor after a step
step_anchor : (world new : World) (c file : ℕ) (machine : Client) (step : Step)
    → IsStepped world new c machine step.requests → AnchorsOn (world.clients c) step → IsStandingAt world c
    → world.server.expired (machine_key world c file) ≡ false → (before : List Reply) → IsKnown world c file before
    → (acks (file_key new c file) (new.requests c) ≡ 0) ⊎ IsAnchored new c file
step_anchor world new c file machine step is on s fresh before known =
    let key = file_key world c file in
    let same : acks (file_key new c file) (new.requests c) ≡ acks key (world.requests c) + acks key step.requests =
    ap₂ (λ (m : Client) q. acks (lease_key m.guid file) q) is.clients is.queued
    ∙ ap (λ g. acks (lease_key g file) (world.requests c ++ step.requests)) is.guid
    ∙ acks_append key (world.requests c) step.requests in
    ⊎_elim
    (λ zero. ⊎_elim (λ none. inl (same ∙ (omega (arith, zero, none))))
    (λ (l : AnchorsLive (world.clients c) file step). inr (live_anchored world new c file machine step.requests is l.live l.was
    fresh s l.till)) (on file))
    (λ a. ⊎_elim (λ zero. absurd (omega (arith, zero, a.one)))
    (λ (x : IsAnchored world c file). inr (anchored_in world new c file machine step.requests is x.file_id x.opened
    (open_behind key x.file_id (world.requests c) step.requests a.one x.till) x.held)) known.anchor)
    known.explained.believed.answers

pub step_trusted : (world : World) (c : ℕ) (step : Step) (before : List Reply) → is_up (world.links c) ≡ true
    → step.client.guid ≡ (world.clients c).guid → AnchorsOn (world.clients c) step
    → ((file : ℕ) → IsExplained (file_key world c file) file (world.server.leases (machine_key world c file))
    ((world.clients c).entries file).phase (world.requests c) before
    → IsExplained (file_key world c file) file (world.server.leases (machine_key world c file))
    (step.client.entries file).phase (world.requests c ++ step.requests) (world.replies c)) → Each LowersWell (world.replies c)
    → ((file : ℕ) → world.server.expired (machine_key world c file) ≡ false → IsKnown world c file before)
    → IsStandingAt world c → HasTrust (stepped_in world c step) c
step_trusted world c step before up guid on believes lowered files s = record {
  lowered = subst (λ (r : ℕ → List Reply). Each LowersWell (r c)) (sym (stepped_replies world c step)) lowered;
  files = λ file fresh. let was = was_fresh file fresh in
      let known = files file was in record {
        explained = explained_after file (believes file known.explained);
        anchor = step_anchor world (stepped_in world c step) c file step.client step is on s was before known;
      };
}
  where
    is : IsStepped world (stepped_in world c step) c step.client step.requests
    is = step_of world c step up guid

    was_fresh : (file : ℕ) → (stepped_in world c step).server.expired (machine_key (stepped_in world c step) c file) ≡ false
        → world.server.expired (machine_key world c file) ≡ false
    was_fresh file fresh = ap (λ g. world.server.expired (key_of c (lease_key g file))) (sym (step_of world c step up guid).guid)
        ∙ ap₂ (λ (x : Server) (m : Client). x.expired (key_of c (lease_key m.guid file)))
        (sym (step_of world c step up guid).server) (sym (step_of world c step up guid).clients) ∙ fresh

    explained_after : (file : ℕ) → IsExplained (file_key world c file) file (world.server.leases (machine_key world c file))
        (step.client.entries file).phase (world.requests c ++ step.requests) (world.replies c)
        → IsExplained (file_key (stepped_in world c step) c file) file
        ((stepped_in world c step).server.leases (machine_key (stepped_in world c step) c file))
        (((stepped_in world c step).clients c).entries file).phase ((stepped_in world c step).requests c)
        ((stepped_in world c step).replies c)
    explained_after file b = let new = stepped_in world c step in
        let so = step_of world c step up guid in
        subst (λ (m : Client). IsExplained (lease_key m.guid file) file (new.server.leases (key_of c (lease_key m.guid file)))
        (m.entries file).phase (new.requests c) (new.replies c)) (sym so.clients)
        (subst (λ g. IsExplained (lease_key g file) file (new.server.leases (key_of c (lease_key g file)))
        (step.client.entries file).phase (new.requests c) (new.replies c)) (sym so.guid)
        (subst (λ (x : Server). IsExplained (file_key world c file) file (x.leases (machine_key world c file))
        (step.client.entries file).phase (new.requests c) (new.replies c)) (sym so.server)
        (subst (λ q. IsExplained (file_key world c file) file (world.server.leases (machine_key world c file))
        (step.client.entries file).phase q (new.replies c)) (sym so.queued)
        (subst (λ (r : ℕ → List Reply). IsExplained (file_key world c file) file
        (world.server.leases (machine_key world c file)) (step.client.entries file).phase
        (world.requests c ++ step.requests) (r c)) (sym (stepped_replies world c step)) b))))

-- ---- a client connects

abbrev pub AsksCreate : Request → Type 0
AsksCreate (Request.OnFile (FileRequest.Create file access share contexts)) = ⊤
AsksCreate request = ⊥

-- nothing is on its way to it or held, it asks for nothing but creates, and no entry is live
pub record IsIdle (world : World) (c : ℕ) : Type 0 where
  pub replies : world.replies c ≡ []
  pub acks : (key : List ℕ) → acks key (world.requests c) ≡ 0
  pub phases : (file : ℕ) → is_live ((world.clients c).entries file).phase ≡ false
  pub asks : Each AsksCreate (world.requests c)
  pub held : (at : ℕ) → held_by c (world.server.held at) ≡ []

pub connect_idle : (world : World) (c : ℕ) → Ground world → world.links c ≡ Link.Down → IsIdle (connected world c) c
connect_idle world c g down =
    let machine = world.clients c in
    let back = come_back world c in
    let step = connection_made machine in
    let new = connected world c in
    let is_off : is_up (world.links c) ≡ false = ap is_up down in
    let online : machine.is_online ≡ false = g.online c ∙ ap (λ l. not (is_down l)) down in
    let turn : ℕ → List Request = λ f. (connect_turn machine f (machine.entries f).sent (machine.entries f).phase).requests in
    let queued : new.requests c ≡ flat_map turn (numbers_to machine.files) =
    ap (λ (q : ℕ → List Request). q c) (stepped_requests back c step) ∙ put_same back.requests c _
    ∙ ap (λ link. sent_over link (world.requests c) step.requests) (put_same world.links c Link.Up)
    ∙ ap (λ (q : List Request). q ++ flat_map turn (numbers_to machine.files)) ((g.tied c).requests is_off) in
    let mine = stepped_machine back c step in record {
      replies = ap (λ (r : ℕ → List Reply). r c) (stepped_replies back c step) ∙ (g.tied c).replies is_off;
      acks = λ key. ap (acks key) queued ∙ file_no_acks key (flat_map turn (numbers_to machine.files))
          (each_flat IsAboutFile turn (numbers_to machine.files)
          (λ file. about file (machine.entries file).sent (machine.entries file).phase));
      phases = λ file. ap (λ (m : Client). is_live (m.entries file).phase) mine
          ∙ idle file online (machine.entries file).phase ((g.clients c).entries file);
      asks = subst (Each AsksCreate) (sym queued) (each_flat AsksCreate turn (numbers_to machine.files)
          (λ file. creates_alone file (machine.entries file).sent (machine.entries file).phase));
      held = λ at. ap (λ (x : Server). held_by c (x.held at)) (stepped_server back c step) ∙ none_held world c g is_off at;
    }
  where
    about : (file : ℕ) (sent : List Pending) (phase : Phase)
        → Each IsAboutFile (connect_turn (world.clients c) file sent phase).requests
    about file sent (Phase.Offline parted) = (tt, tt)
    about file sent phase = tt

    creates_alone : (file : ℕ) (sent : List Pending) (phase : Phase)
        → Each AsksCreate (connect_turn (world.clients c) file sent phase).requests
    creates_alone file sent (Phase.Offline parted) = (tt, tt)
    creates_alone file sent phase = tt

    idle : (file : ℕ) → (world.clients c).is_online ≡ false → (phase : Phase)
        → IsSoundPhase (world.clients c).is_online ((world.clients c).entries file).sent phase
        → is_live (connect_turn (world.clients c) file ((world.clients c).entries file).sent phase).entry.phase ≡ false
    idle file off (Phase.Live live) sound = clash (world.clients c).is_online sound.0 off
    idle file off (Phase.Reconnecting parted) sound = clash (world.clients c).is_online sound.0 off
    idle file off phase sound = refl

pub connect_trusted : (world : World) (c : ℕ) → Ground world → world.links c ≡ Link.Down → HasTrust (connected world c) c
connect_trusted world c g down =
    let new = connected world c in
    let idle = connect_idle world c g down in record {
      lowered = subst (Each LowersWell) (sym idle.replies) tt;
      files = λ file fresh. record {
        explained = subst (λ r. IsExplained (file_key new c file) file (new.server.leases (machine_key new c file))
            ((new.clients c).entries file).phase (new.requests c) r) (sym idle.replies)
            (gone_explained (file_key new c file) file (new.server.leases (machine_key new c file))
            ((new.clients c).entries file).phase (new.requests c) [] (idle.phases file) tt (idle.acks (file_key new c file)));
        anchor = inl (idle.acks (file_key new c file));
      };
    }
