-- A connection that is lost, noticed or made leaves a client's writes safe.
use Rattle.lease_laws.proofs.Words.{◌==◌, ◌∙◌, ◌∷◌, ◌≡◌, Among, FileRequest, Held, Lease, Link, List, Open, Reply, Request}
use Rattle.lease_laws.proofs.Words.{World, ℕ, [], ap, arith, connection_made, disconnected, eq-eqb, false, is_lost, is_up}
use Rattle.lease_laws.proofs.Words.{machine_key, not, noticed, put, refl, subst, sym, true≢false, without}
use Rattle.lease_laws.proofs.client.Thin.{put_same}
use Rattle.lease_laws.proofs.client.cases.Links.{any_notice}
use Rattle.lease_laws.proofs.server.Lists.{among_filter, among_filtered, among_map, if_cases}
use Rattle.lease_laws.proofs.world.Links.{stepped_links}
use Rattle.lease_coherence.specs.Names.{Each, IsNamedAt}
use Rattle.lease_coherence.proofs.beliefs.OneLease.{acks}
use Rattle.lease_coherence.proofs.late.Entries.{connect_safe, notices_safe}
use Rattle.lease_coherence.proofs.late.Likes.{dropped_past, joined_past}
use Rattle.lease_coherence.proofs.late.SafeWrites.{AcksKeep, GrantsSafe, IsNotLate, IsSafeAt, KnowsIds, WriteSafe}
use Rattle.lease_coherence.proofs.late.Servers.{all_hold, closing_holds, entries_like, itself}
use Rattle.lease_coherence.proofs.late.Steps.{stepped_entries}
use Rattle.lease_coherence.proofs.moves.Events.{Ground, come_back, connected, cut_off, noticed_by}
use Rattle.lease_coherence.proofs.moves.Frames.{stepped_replies}
use Rattle.lease_coherence.proofs.names.NamedInRecord.{each_weaker}
use Rattle.lease_coherence.proofs.order.RequestsStayInOrder.{IsCreate, connect_creates, connect_held}

-- ---- a connection is lost

pub cut_late : (world : World) (c : ℕ) → KnowsIds world c → IsNamedAt world c → IsNotLate world c → IsNotLate (cut_off world c) c
cut_late world c ids n a = record {
  entries = entries_like world (cut_off world c) c (record {
    machine = refl;
    past = dropped_past c c world.past;
    from = λ x there by low. let y = was x there in record {
      was = y.0;
      there = (among_filter (λ o. not (is_lost world.server c o)) y.0 world.server.opens y.1).0;
      id = sym (same y.0 (λ o. o.file_id) (λ o. refl)) ∙ ap (λ (o : Open). o.file_id) (sym y.2);
      file = sym (same y.0 (λ o. o.file) (λ o. refl)) ∙ ap (λ (o : Open). o.file) (sym y.2);
      client = sym (same y.0 (λ o. o.client) (λ o. refl)) ∙ ap (λ (o : Open). o.client) (sym y.2);
    };
    timely = λ file x there by on e. e;
  }) ids n (all_hold world (cut_off world c) c (λ file x there by on h. let y = was x there in
      ap (λ (l : Lease). l.state.write) (closing_holds world (is_lost world.server c) c n.opens file y.0 y.1
      (sym (same y.0 (λ o. o.client) (λ o. refl)) ∙ ap (λ (o : Open). o.client) (sym y.2) ∙ by)
      (sym (same y.0 (λ o. o.file) (λ o. refl)) ∙ ap (λ (o : Open). o.file) (sym y.2) ∙ on)) ∙ h)) a.entries;
  up = λ up. absurd (true≢false (sym up ∙ ap is_up (put_same world.links c Link.Cut)));
}
  where
    was : (x : Open) → Among x (cut_off world c).server.opens
        → (y : Open) × Among y (without (is_lost world.server c) world.server.opens) × (x ≡ disconnected c y)
    was x there = among_map (disconnected c) x (without (is_lost world.server c) world.server.opens) there

    same : (one : Open) (f : Open → ℕ) → ((o : Open) → f (record o { connected = false }) ≡ f o) → f (disconnected c one) ≡ f one
    same one f still = if_cases (λ o. f o ≡ f one) (one.client == c) (record one { connected = false }) one
        (λ here. still one) (λ other. refl)

-- ---- it is noticed

pub notice_late : (world : World) (c : ℕ) → IsNotLate world c → IsNotLate (noticed_by world c) c
notice_late world c a =
    let base : World = record world { links = put world.links c Link.Down } in
    let machine = world.clients c in record {
      entries = stepped_entries base c (noticed machine) refl
          (λ file. any_notice (machine.entries file).sent _ (notices_safe base c file (machine.entries file).sent)
          (machine.entries file).phase) a.entries;
      up = λ up. absurd (true≢false (sym up ∙ ap (λ (l : ℕ → Link). is_up (l c)) (stepped_links base c (noticed machine))
          ∙ ap is_up (put_same world.links c Link.Down)));
    }

-- ---- a client connects

creates_keep : (world : World) (c : ℕ) (queue : List Request) → Each IsCreate queue → AcksKeep world c queue
creates_keep world c [] each = tt
creates_keep world c (Request.OnFile request ∷ queue) each = creates_keep world c queue each.1
creates_keep world c (Request.Acknowledge given ∷ queue) each = absurd each.0

no_acks : (key : List ℕ) (queue : List Request) → Each IsCreate queue → acks key queue ≡ 0
no_acks key [] each = refl
no_acks key (Request.OnFile request ∷ queue) each = omega (arith, no_acks key queue each.1)
no_acks key (Request.Acknowledge given ∷ queue) each = absurd each.0

create_safe : (world : World) (c : ℕ) (r : Request) → IsCreate r → WriteSafe world c r
create_safe world c (Request.OnFile (FileRequest.Create file access share contexts)) is = tt
create_safe world c request is = absurd is

back_safe : (world : World) (c : ℕ) → KnowsIds world c → IsNamedAt world c → IsSafeAt world c → IsSafeAt (come_back world c) c
back_safe world c ids n e = entries_like world (come_back world c) c (record {
  machine = refl;
  past = joined_past c c world.past;
  from = λ x there by low. itself world x there;
  timely = λ file x there by on fresh. if_cases (λ b. b ≡ false) (c == c) false
      (world.server.expired (machine_key world c file)) (λ own. refl) (λ other. fresh);
}) ids n (all_hold world (come_back world c) c (λ file x there by on h. h)) e

pub connect_late : (world : World) (c : ℕ) → Ground world → world.links c ≡ Link.Down → KnowsIds world c
    → IsNamedAt world c → IsNotLate world c → IsNotLate (connected world c) c
connect_late world c g down ids n a =
    let machine = world.clients c in
    let back = come_back world c in
    let step = connection_made machine in
    let new = connected world c in
    let creates = connect_creates world c g down in
    let none : new.replies c ≡ [] =
    ap (λ (r : ℕ → List Reply). r c) (stepped_replies back c step) ∙ (g.tied c).replies (ap is_up down) in record {
      entries = stepped_entries back c step refl
          (λ file p. connect_safe back c file machine (machine.entries file).sent (machine.entries file).phase p)
          (back_safe world c ids n a.entries);
      up = λ up. record {
        writes = record {
          queued = each_weaker IsCreate (WriteSafe new c) (new.requests c) (create_safe new c) creates;
          held = λ file one there own. absurd (none_there file one there own);
        };
        held = λ file one there own. absurd (none_there file one there own);
        acks_keep = creates_keep new c (new.requests c) creates;
        again = λ file parted is. no_acks _ (new.requests c) creates;
        given = λ file known. subst (GrantsSafe new c file ((new.clients c).entries file).sent []) (sym none) tt;
      };
    }
  where
    not_there : (one : Held) → Among one [] → ⊥
    not_there one a = a

    none_there : (file : ℕ) (one : Held) → Among one ((connected world c).server.held file) → one.client ≡ c → ⊥
    none_there file one there own = not_there one (subst (λ (l : List Held). Among one l) (connect_held world c g down file)
        (among_filtered (λ h. h.client == c) one ((connected world c).server.held file) there (eq-eqb one.client c own)))
