-- Every move leaves the connected opens of each client that hasn't strayed covered, while its link is up.
use Rattle.lease_laws.proofs.Words.{◌++◌, ◌+◌, ◌==◌, ◌∙◌, ◌∷◌, ◌≡◌, ◌≢◌, Among, Client, Fact, FileRequest, Held, IsInTurn, Key}
use Rattle.lease_laws.proofs.Words.{Lease, LeaseOf, Link, List, None, Ok, Open, Option, Phase, Reply, Request, Server}
use Rattle.lease_laws.proofs.Words.{SmallStep, Some, Status, Step, World, ℕ, [], ⊎_elim, ap, ap₂, arith, break_notice}
use Rattle.lease_laws.proofs.Words.{commanded, connected_open, connection_made, eq-eqb, false, file_asked, file_of_open}
use Rattle.lease_laws.proofs.Words.{has_key, has_strayed, is_up, key_of, lease_key, machine_key, not, refl, refusal_of}
use Rattle.lease_laws.proofs.Words.{stepped_in, subst, sym, taken, true, true≢false, was_opened}
use Rattle.lease_laws.proofs.client.Forms.{commanded-stays, taken-stays}
use Rattle.lease_laws.proofs.client.Thin.{put_same}
use Rattle.lease_laws.proofs.client.cases.Commands.{any_command}
use Rattle.lease_laws.proofs.client.cases.Replies.{any_reply}
use Rattle.lease_laws.proofs.server.Goes.{one_id}
use Rattle.lease_laws.proofs.server.Keys.{put_key-cases}
use Rattle.lease_laws.proofs.server.Lists.{among_filter, among_filtered, clash, not_parts}
use Rattle.lease_laws.proofs.server.cases.Ends.{found_open}
use Rattle.lease_laws.proofs.world.Runs.{stepped_server}
use Rattle.lease_coherence.specs.Agreement.{as_requests, asked_of}
use Rattle.lease_coherence.specs.Creates.{answers, asked_by, creates, held_by, held_creates, one_if, under_way}
use Rattle.lease_coherence.specs.Names.{Each, IsNamedAt, IsNamedPhase}
use Rattle.lease_coherence.specs.Standing.{AllAsked, GivenWell, IsNoClose, IsStandingAt, PhaseStands}
use Rattle.lease_coherence.proofs.beliefs.Closed.{left_there}
use Rattle.lease_coherence.proofs.beliefs.Steps.{AsksCreate, connect_idle}
use Rattle.lease_coherence.proofs.covered.Asked.{held_closed, popped_closed}
use Rattle.lease_coherence.proofs.covered.Clients.{IsMetWith, IsQuiet, StepCovers, TakeCovers, commands_cover, takes_cover}
use Rattle.lease_coherence.proofs.covered.CoveredOpens.{ClosedBefore, HasGrant, IsCovered, NotFailed, creates_asked, grant_more}
use Rattle.lease_coherence.proofs.covered.Moves.{FailsGone, HasCovered, IsLeftCovered, IsUsed, KeepsOpens, UsesUp}
use Rattle.lease_coherence.proofs.covered.Moves.{changed_covered, covered_in, fails_in, granted_covered, itself, off_covered}
use Rattle.lease_coherence.proofs.covered.Moves.{reconnected_covered, refusal_closes, refusal_gone, told_covered, uses_in}
use Rattle.lease_coherence.proofs.covered.Uses.{StepUses, UsesLive, commands_use, takes_use}
use Rattle.lease_coherence.proofs.creates.Counts.{creates_append}
use Rattle.lease_coherence.proofs.late.Likes.{ids_of}
use Rattle.lease_coherence.proofs.late.SafeWrites.{KnowsIds}
use Rattle.lease_coherence.proofs.layers.Layers.{HasLayers}
use Rattle.lease_coherence.proofs.moves.Deeds.{IsSource, done_reply, held_in, leased_in, told_to, without_opens}
use Rattle.lease_coherence.proofs.moves.Events.{Ground, come_back, connected, reply_gone, reply_taken, timed_out}
use Rattle.lease_coherence.proofs.moves.Foreign.{IsUnmoved}
use Rattle.lease_coherence.proofs.moves.Frames.{stepped_past, stepped_replies}
use Rattle.lease_coherence.proofs.moves.Moves.{IsOldest, popped}
use Rattle.lease_coherence.proofs.moves.Own.{IsOwnMoved, IsToldOf, IsUp}
use Rattle.lease_coherence.proofs.names.NamedInRecord.{each_append, each_weaker}
use Rattle.lease_coherence.proofs.names.Names.{off_counted, off_named}
use Rattle.lease_coherence.proofs.order.OrderedRequests.{append_three}
use Rattle.lease_coherence.proofs.order.Sends.{IsUnderLive}
use Rattle.lease_coherence.proofs.records.Later.{IsLater, later_fact, later_noted, later_same, later_then}
use Rattle.lease_coherence.proofs.standing.OpensStayStanding.{fits_of}
use Rattle.lease_coherence.proofs.standing.Standing.{IsStepped, step_of}
use Rattle.lease_coherence.proofs.standing.StandingOpens.{asked_held, asked_popped, asked_unmoved, asked_weaker}

-- ---- what others do

unmoved_covered : (world new : World) (c : ℕ) → IsUnmoved world new c → HasCovered world c → HasCovered new c
unmoved_covered world new c u h = record {
  covers = λ x there by up fresh. covered_in world new c x u.machine
      (λ closed. subst (λ q. ClosedBefore x.file x.file_id (as_requests (held_by c (new.server.held x.file)) ++ q))
      (sym u.requests) (subst (λ l. ClosedBefore x.file x.file_id (as_requests l ++ world.requests c))
      (sym (u.held x.file)) closed))
      (λ g. subst (HasGrant x.file x.file_id) (sym u.replies) g)
      (h.covers x (u.from x by there) by up (keeps.timely x.file fresh));
  uses = asked_weaker (UsesUp world c) (UsesUp new c) new c (uses_in world new c keeps)
      (asked_unmoved (UsesUp world c) world new c u h.uses);
  fails = subst (Each (FailsGone new c)) (sym u.replies)
      (each_weaker (FailsGone world c) (FailsGone new c) (world.replies c) (fails_in world new c keeps) h.fails);
}
  where
    keeps : KeepsOpens world new c
    keeps = record {
      later = u.later;
      from = λ x there by named. itself world x (u.from x by there);
      timely = λ file fresh. sym (u.expired (machine_key world c file) refl)
          ∙ ap (λ (m : Client). new.server.expired (key_of c (lease_key m.guid file))) (sym u.machine) ∙ fresh;
    }

-- ---- a lease is put, and a reply sent

-- nothing was taken off
all_left : (world : World) (c : ℕ) → HasCovered world c → IsLeftCovered world c (Request.Acknowledge None)
all_left world c h = record {
  covers = λ x there by up none fresh. h.covers x there by up fresh;
  uses = h.uses;
  used = tt;
  fails = h.fails;
}

-- an acknowledgment was
ack_left : (world : World) (c : ℕ) (given : Option LeaseOf) → IsOldest world c (Request.Acknowledge given)
    → HasCovered world c → IsLeftCovered (popped world c) c (Request.Acknowledge given)
ack_left world c given oldest h = record {
  covers = λ x there by up none fresh. covered_in world (popped world c) c x refl
      (popped_closed world c (Request.Acknowledge given) oldest x.file x.file_id tt) (λ g. g) (h.covers x there by up fresh);
  uses = asked_weaker (UsesUp world c) (UsesUp (popped world c) c) (popped world c) c
      (uses_in world (popped world c) c keeps) (asked_popped (UsesUp world c) world c h.uses);
  used = tt;
  fails = each_weaker (FailsGone world c) (FailsGone (popped world c) c) (world.replies c)
      (fails_in world (popped world c) c keeps) h.fails;
}
  where
    keeps : KeepsOpens world (popped world c) c
    keeps = record {
      later = later_same world.past;
      from = λ x there by named. itself world x there;
      timely = λ file fresh. fresh;
    }

leased_covered : (off : World) (key : Key) (lease : Lease) (request : Request) (reply : Reply)
    → ((x : Open) → IsNoClose x.file_id request) → FailsGone off key.client reply → IsLeftCovered off key.client request
    → HasCovered (leased_in off key lease reply) key.client
leased_covered off key lease request reply none fails h =
    let c = key.client in
    let new = leased_in off key lease reply in
    let sent = put_same off.replies c (off.replies c ++ reply ∷ []) in
    let k : KeepsOpens off new c = record {
      later = later_fact off.past (Fact.Sent c);
      from = λ x there by named. itself off x there;
      timely = λ file fresh. fresh;
    } in record {
      covers = λ x there by up fresh. covered_in off new c x refl (λ e. e)
          (λ g. subst (HasGrant x.file x.file_id) (sym sent) (grant_more x.file x.file_id (off.replies c) (reply ∷ []) g))
          (h.covers x there by up (none x) fresh);
      uses = asked_weaker (UsesUp off c) (UsesUp new c) new c (uses_in off new c k)
          (record { queued = h.uses.queued; held = h.uses.held });
      fails = subst (Each (FailsGone new c)) (sym sent) (each_append (FailsGone new c) (off.replies c) (reply ∷ [])
          (each_weaker (FailsGone off c) (FailsGone new c) (off.replies c) (fails_in off new c k) h.fails)
          (fails_in off new c k reply fails, tt));
    }

-- ---- a request is held

-- a Close that is held stands on the file of its open
pub own_place : (server : Server) (c at : ℕ) (request : FileRequest) (x : Open) → (g : (one other : Open)
    → Among one server.opens → Among other server.opens → one.file_id ≡ other.file_id → one ≡ other)
    → Among x server.opens → file_asked server c request ≡ Ok at → x.file ≢ at → IsNoClose x.file_id (Request.OnFile request)
own_place server c at (FileRequest.Create file access share contexts) x g there asked ne = tt
own_place server c at (FileRequest.Read id) x g there asked ne = tt
own_place server c at (FileRequest.Write id number patch) x g there asked ne = tt
own_place server c at (FileRequest.Close id) x g there asked ne = λ same. by_found (connected_open server c id) refl asked same
  where
    file_same : (y : Open) → file_of_open (Some y) ≡ Ok at → y.file ≡ at
    file_same y e = cc

    by_found : (found : Option Open) → connected_open server c id ≡ found → file_of_open found ≡ Ok at → id ≡ x.file_id → ⊥
    by_found None e never same = cc
    by_found (Some y) e is same = let own = found_open server c id y e in
        ne (ap (λ (o : Open). o.file) (g x y there own.there (sym same ∙ sym own.id)) ∙ file_same y is)

held_covered : (world : World) (at : ℕ) (one : Held) → IsOldest world one.client (Request.OnFile one.request)
    → IsInTurn (SmallStep.Hold at one) world.server → Ground world → HasCovered world one.client
    → HasCovered (held_in (popped world one.client) at one) one.client
held_covered world at one oldest turn g h =
    let c = one.client in
    let new = held_in (popped world c) at one in
    let k : KeepsOpens world new c = record {
      later = later_same world.past;
      from = λ x there by named. itself world x there;
      timely = λ file fresh. fresh;
    } in record {
      covers = λ x there by up fresh. covered_in world new c x refl (held_closed world at one oldest x.file x.file_id
          (λ ne. own_place world.server c at one.request x
          (λ a b p q e. one_id world.server.opens a b g.fine.sound.in_order p q e) there turn.0 ne))
          (λ x. x) (h.covers x there by up fresh);
      uses = asked_weaker (UsesUp world c) (UsesUp new c) new c (uses_in world new c k)
          (asked_held (UsesUp world c) world at one oldest h.uses);
      fails = each_weaker (FailsGone world c) (FailsGone new c) (world.replies c) (fails_in world new c k) h.fails;
    }

-- ---- opens that close

dropped_covered : (world : World) (c : ℕ) (test : Open → _) → HasCovered world c → HasCovered (without_opens world test) c
dropped_covered world c test h =
    let new = without_opens world test in
    let k : KeepsOpens world new c = record {
      later = later_same world.past;
      from = λ x there by named. itself world x (left_there world test x there);
      timely = λ file fresh. fresh;
    } in record {
      covers = λ x there by up fresh. covered_in world new c x refl (λ e. e) (λ g. g)
          (h.covers x (left_there world test x there) by up fresh);
      uses = asked_weaker (UsesUp world c) (UsesUp new c) new c (uses_in world new c k)
          (record { queued = h.uses.queued; held = h.uses.held });
      fails = each_weaker (FailsGone world c) (FailsGone new c) (world.replies c) (fails_in world new c k) h.fails;
    }

closed_covered : (off : World) (c id : ℕ) → IsLeftCovered off c (Request.OnFile (FileRequest.Close id))
    → HasCovered (told_to (without_opens off (λ other. other.file_id == id)) c (Reply.Closed id)) c
closed_covered off c id h =
    let test : Open → _ = λ other. other.file_id == id in
    let reply = Reply.Closed id in
    let new = told_to (without_opens off test) c reply in
    let sent = put_same off.replies c (off.replies c ++ reply ∷ []) in
    let k : KeepsOpens off new c = record {
      later = later_fact off.past (Fact.Sent c);
      from = λ x there by named. itself off x (left_there off test x there);
      timely = λ file fresh. fresh;
    } in record {
      covers = λ x there by up fresh. let kept = among_filter (λ o. not (test o)) x off.server.opens there in
          covered_in off new c x refl (λ e. e)
          (λ g. subst (HasGrant x.file x.file_id) (sym sent) (grant_more x.file x.file_id (off.replies c) (reply ∷ []) g))
          (h.covers x kept.0 by up
          (λ same. clash (x.file_id == id) (eq-eqb x.file_id id (sym same)) (not_parts (x.file_id == id) kept.1)) fresh);
      uses = asked_weaker (UsesUp off c) (UsesUp new c) new c (uses_in off new c k)
          (record { queued = h.uses.queued; held = h.uses.held });
      fails = subst (Each (FailsGone new c)) (sym sent) (each_append (FailsGone new c) (off.replies c) (reply ∷ [])
          (each_weaker (FailsGone off c) (FailsGone new c) (off.replies c) (fails_in off new c k) h.fails) (tt, tt));
    }

timer_covered : (world : World) (c file : ℕ) → HasCovered world c → HasCovered (timed_out world c file) c
timer_covered world c file h =
    let new = timed_out world c file in
    let key = machine_key world c file in
    let there_before : (x : Open) → Among x new.server.opens → Among x world.server.opens =
    λ x there. (among_filter (λ o. not (has_key key o)) x world.server.opens there).0 in
    let was_fresh : (at : ℕ) → new.server.expired (machine_key world c at) ≡ false
    → world.server.expired (machine_key world c at) ≡ false = λ at. put_key-cases
    (λ b. b ≡ false → world.server.expired (machine_key world c at) ≡ false)
    world.server.expired key true (machine_key world c at) (λ same e. absurd (true≢false e)) (λ other e. e) in
    let k : KeepsOpens world new c = record {
      later = later_fact world.past (Fact.Expired c file);
      from = λ x there by named. itself world x (there_before x there);
      timely = was_fresh;
    } in record {
      covers = λ x there by up fresh. covered_in world new c x refl (λ e. e) (λ g. g)
          (h.covers x (there_before x there) by up (was_fresh x.file fresh));
      uses = asked_weaker (UsesUp world c) (UsesUp new c) new c (uses_in world new c k)
          (record { queued = h.uses.queued; held = h.uses.held });
      fails = each_weaker (FailsGone world c) (FailsGone new c) (world.replies c) (fails_in world new c k) h.fails;
    }

-- ---- a client connects: none of its opens is connected

pub connect_covered : (world : World) (c : ℕ) → Ground world → world.links c ≡ Link.Down → HasCovered (connected world c) c
connect_covered world c g down =
    let idle = connect_idle world c g down in
    let same : (connected world c).server.opens ≡ world.server.opens =
    ap (λ (s : Server). s.opens) (stepped_server (come_back world c) c (connection_made (world.clients c))) in record {
      covers = λ x there by up fresh. clash (world.server.present c) (subst (λ d. world.server.present d ≡ true) by
          (g.fine.orderly.opens_up x (subst (λ (l : List Open). Among x l) same there) up)) ((g.tied c).present ∙ ap is_up down);
      uses = record {
        queued = each_weaker AsksCreate (UsesUp (connected world c) c) ((connected world c).requests c) plain idle.asks;
        held = λ at one there own. absurd (subst (λ (l : List Held). Among one l) (idle.held at)
            (among_filtered (λ h. h.client == c) one ((connected world c).server.held at) there (eq-eqb one.client c own)));
      };
      fails = subst (Each (FailsGone (connected world c) c)) (sym idle.replies) tt;
    }
  where
    plain : (r : Request) → AsksCreate r → UsesUp (connected world c) c r
    plain (Request.OnFile (FileRequest.Create file access share contexts)) a = tt
    plain request a = absurd a

-- ---- steps of the client

-- what is known of a client whose link is up
pub record IsKnownFor (world : World) (c : ℕ) : Type 0 where
  pub ground : Ground world
  pub names : IsNamedAt world c
  pub ids : KnowsIds world c
  pub stands : IsStandingAt world c

used_live : (world : World) (c id : ℕ) → IsKnownFor world c → IsUnderLive (world.clients c) id → IsUsed world c id
used_live world c id k u = record {
  named = record { file = u.file; opened = subst (λ n. was_opened n u.file c world.past ≡ true) u.id opened };
  up = λ x there by same fresh.
      let on : x.file ≡ u.file = (k.ids.on (u.live).file_id u.file opened x there (same ∙ sym u.id)).0 in
      by_stands x there (same ∙ sym u.id) (subst (λ n. world.server.expired (machine_key world c n) ≡ false) on fresh)
      (subst (PhaseStands world c u.file) u.is (k.stands.phases u.file));
}
  where
    named_live : IsNamedPhase c u.file world.past (Phase.Live u.live) → was_opened (u.live).file_id u.file c world.past ≡ true
    named_live n = n.0

    opened : was_opened (u.live).file_id u.file c world.past ≡ true
    opened = named_live (subst (IsNamedPhase c u.file world.past) u.is (k.names.entries u.file).phase)

    by_stands : (x : Open) → Among x world.server.opens → x.file_id ≡ (u.live).file_id
        → world.server.expired (machine_key world c u.file) ≡ false
        → PhaseStands world c u.file (Phase.Live u.live) → x.connected ≡ true
    by_stands x there same fresh p = ⊎_elim
        (λ out. clash (world.server.expired (machine_key world c u.file)) out fresh)
        (λ o. ap (λ (y : Open). y.connected) (one_id world.server.opens x o.one k.ground.fine.sound.in_order there o.there
        (same ∙ sym o.id)) ∙ o.up) p.0

live_uses : (world : World) (c : ℕ) → IsKnownFor world c → (request : Request) → UsesLive (world.clients c) request
    → UsesUp world c request
live_uses world c k (Request.OnFile (FileRequest.Read id)) u = used_live world c id k u
live_uses world c k (Request.OnFile (FileRequest.Write id number patch)) u = used_live world c id k u
live_uses world c k request u = tt

step_covered : (world before : World) (c : ℕ) (step : Step) → is_up (before.links c) ≡ true
    → step.client.guid ≡ (before.clients c).guid → before.server ≡ world.server → before.clients ≡ world.clients
    → before.requests ≡ world.requests → IsLater world.past before.past → StepUses (world.clients c) step
    → IsKnownFor world c → AllAsked (UsesUp world c) world c → Each (FailsGone world c) (before.replies c)
    → ((x : Open) → Among x world.server.opens → x.client ≡ c → x.connected ≡ true
    → world.server.expired (machine_key world c x.file) ≡ false
    → IsCovered (step.client.entries x.file).phase x.file x.file_id (asked_of world c x.file ++ step.requests)
    (before.replies c)) → HasCovered (stepped_in before c step) c
step_covered world before c step up guid server clients requests later uses known used fails covers = record {
  covers = λ x there by on fresh. let was : Among x world.server.opens = from x there in
      subst (λ (m : Client). IsCovered (m.entries x.file).phase x.file x.file_id (asked_of new c x.file) (new.replies c))
      (sym so.clients)
      (subst (λ q. IsCovered (step.client.entries x.file).phase x.file x.file_id q (new.replies c)) (asked x.file)
      (subst (IsCovered (step.client.entries x.file).phase x.file x.file_id (asked_of world c x.file ++ step.requests))
      (sym (ap (λ (r : ℕ → List Reply). r c) (stepped_replies before c step))) (covers x was by on (keeps.timely x.file fresh))));
  uses = record {
    queued = subst (Each (UsesUp new c)) (sym queued) (each_append (UsesUp new c) (world.requests c) step.requests
        (each_weaker (UsesUp world c) (UsesUp new c) (world.requests c) (uses_in world new c keeps) used.queued)
        (each_weaker (UsesLive (world.clients c)) (UsesUp new c) step.requests
        (λ r u. uses_in world new c keeps r (live_uses world c known r u)) uses));
    held = λ at one there own. uses_in world new c keeps (Request.OnFile one.request)
        (used.held at one (subst (λ (s : Server). Among one (s.held at)) (so.server ∙ server) there) own);
  };
  fails = subst (λ (r : ℕ → List Reply). Each (FailsGone new c) (r c)) (sym (stepped_replies before c step))
      (each_weaker (FailsGone world c) (FailsGone new c) (before.replies c) (fails_in world new c keeps) fails);
}
  where
    new : World
    new = stepped_in before c step

    so : IsStepped before (stepped_in before c step) c step.client step.requests
    so = step_of before c step up guid

    from : (x : Open) → Among x (stepped_in before c step).server.opens → Among x world.server.opens
    from x there = subst (λ (s : Server). Among x s.opens) ((step_of before c step up guid).server ∙ server) there

    queued : (stepped_in before c step).requests c ≡ world.requests c ++ step.requests
    queued = (step_of before c step up guid).queued ∙ ap (λ (q : ℕ → List Request). q c ++ step.requests) requests

    asked : (file : ℕ) → asked_of world c file ++ step.requests ≡ asked_of (stepped_in before c step) c file
    asked file = append_three (as_requests (held_by c (world.server.held file))) (world.requests c) step.requests
        ∙ ap (λ q. as_requests (held_by c (world.server.held file)) ++ q) (sym queued)
        ∙ ap (λ (s : Server). as_requests (held_by c (s.held file)) ++ (stepped_in before c step).requests c)
        (sym ((step_of before c step up guid).server ∙ server))

    keeps : KeepsOpens world (stepped_in before c step) c
    keeps = record {
      later = subst (IsLater world.past) (sym (stepped_past before c step))
          (later_then world.past before.past _ later (later_noted c before.past step.notes));
      from = λ x there by named. itself world x (from x there);
      timely = λ file fresh. ap (λ (m : ℕ → Client). world.server.expired (key_of c (lease_key (m c).guid file))) (sym clients)
          ∙ ap (λ g. world.server.expired (key_of c (lease_key g file))) (sym guid)
          ∙ ap₂ (λ (s : Server) (m : Client). s.expired (key_of c (lease_key m.guid file)))
          (sym ((step_of before c step up guid).server ∙ server)) (sym (step_of before c step up guid).clients) ∙ fresh;
    }

-- creates among all that is asked
asked_creates : (world : World) (c file : ℕ) → creates file (asked_of world c file)
    ≡ held_creates file (held_by c (world.server.held file)) + creates file (world.requests c)
asked_creates world c file = creates_append file (as_requests (held_by c (world.server.held file))) (world.requests c)
    ∙ ap (λ n. n + creates file (world.requests c)) (creates_asked file (held_by c (world.server.held file)))

pub counted_of : (world : World) (c file : ℕ) → under_way world c file ≡ asked_by (world.clients c) file
    → creates file (asked_of world c file) + answers file (world.replies c) ≡ asked_by (world.clients c) file
counted_of world c file e = ap (λ n. n + answers file (world.replies c)) (asked_creates world c file) ∙ (omega arith) ∙ e

pub quiet_of : (world : World) (c file : ℕ) → under_way world c file ≡ asked_by (world.clients c) file
    → IsQuiet ((world.clients c).entries file).phase file (asked_of world c file)
quiet_of world c file e idle = omega (arith, counted_of world c file e ∙ ap one_if idle)

-- a reply that fails is of no open that is there
pub not_failed : (world : World) (c : ℕ) (reply : Reply) (x : Open) → Among x world.server.opens → x.client ≡ c
    → world.server.expired (machine_key world c x.file) ≡ false → FailsGone world c reply → NotFailed x.file_id reply
not_failed world c (Reply.ReadFailed id status) x there by fresh f = λ closed same. (f closed).gone x there by (sym same) fresh
not_failed world c (Reply.WriteFailed id number status) x there by fresh f =
    λ closed same. (f closed).gone x there by (sym same) fresh
not_failed world c reply x there by fresh f = tt

-- what is met, of one file
pub met_with : (world : World) (c : ℕ) (reply : Reply) (queue : List Reply) → world.replies c ≡ reply ∷ queue
    → IsStandingAt world c → ((file : ℕ) → under_way world c file ≡ asked_by (world.clients c) file)
    → FailsGone world c reply → (x : Open) → Among x world.server.opens → x.client ≡ c
    → world.server.expired (machine_key world c x.file) ≡ false
    → IsMetWith (world.clients c) reply queue x.file x.file_id (asked_of world c x.file)
met_with world c reply queue first s counted fails x there by fresh = record {
  counted = subst (λ q. creates x.file (asked_of world c x.file) + answers x.file q ≡ asked_by (world.clients c) x.file)
      first (counted_of world c x.file (counted x.file));
  fits = fits_of world c x.file reply (head_well (subst (Each (GivenWell world c)) first s.given));
  not_failed = not_failed world c reply x there by fresh fails;
}
  where
    head_well : Each (GivenWell world c) (reply ∷ queue) → GivenWell world c reply
    head_well each = each.0

take_covered : (world : World) (c : ℕ) (reply : Reply) (queue : List Reply) → world.replies c ≡ reply ∷ queue
    → is_up (world.links c) ≡ true → ((file : ℕ) → under_way world c file ≡ asked_by (world.clients c) file)
    → IsKnownFor world c → HasCovered world c → HasCovered (reply_taken world c reply queue) c
take_covered world c reply queue first up counted k h =
    let gone = reply_gone world c queue in
    let machine = world.clients c in
    let left : gone.replies c ≡ queue = put_same world.replies c queue in
    let fails : Each (FailsGone world c) (reply ∷ queue) = subst (Each (FailsGone world c)) first h.fails in
    step_covered world gone c (taken machine reply) up (taken-stays machine reply).guid refl refl refl
    (later_fact world.past (Fact.Took c)) (any_reply machine (λ r step. StepUses machine step) (takes_use machine) reply) k h.uses
    (subst (Each (FailsGone world c)) (sym left) fails.1)
    (λ x there by on fresh. subst (IsCovered ((taken machine reply).client.entries x.file).phase x.file x.file_id
    (asked_of world c x.file ++ (taken machine reply).requests)) (sym left)
    (any_reply machine (TakeCovers machine) (takes_cover machine (k.ground.clients c)) reply queue x.file x.file_id
    (asked_of world c x.file) (met_with world c reply queue first k.stands counted fails.0 x there by fresh)
    (subst (IsCovered (machine.entries x.file).phase x.file x.file_id (asked_of world c x.file)) first
    (h.covers x there by on fresh))))

-- ---- all moves

pub known_for : (world : World) → HasLayers world → (c : ℕ) → has_strayed c world.past ≡ false
    → is_up (world.links c) ≡ true → IsKnownFor world c
known_for world v c good up = record {
  ground = v.ground;
  names = v.named c good;
  ids = ids_of world c (record { last = v.ground.counted.last; opens = v.ground.counted.opens });
  stands = v.opens c good up;
}

off_known : (world off : World) → HasLayers world → (c : ℕ) (request : FileRequest) → IsSource world off c request
    → KnowsIds off c
off_known world off v c request source = ids_of off c (off_counted world off c request source v.ground)

-- a request that is answered, where nothing else changes
answer_covered : (off : World) (c : ℕ) (request : FileRequest) (reply : Reply) → IsToldOf off c request reply
    → IsLeftCovered off c (Request.OnFile request) → HasCovered (told_to off c reply) c
answer_covered off c request reply (IsToldOf.Refused asked status may) h = told_covered off c (Request.OnFile asked)
    (refusal_of asked status) (refusal_gone off c asked status may h.used) (refusal_closes off c asked status may) h
answer_covered off c request reply (IsToldOf.Full file access share ask) h = told_covered off c
    (Request.OnFile (FileRequest.Create file access share (Some ask)))
    (Reply.CreateFailed file Status.InsufficientResources) tt (λ x there by on. tt) h
answer_covered off c request reply (IsToldOf.Read file_id one found may) h = told_covered off c
    (Request.OnFile (FileRequest.Read file_id)) (Reply.ReadDone file_id (off.server.contents one.file)) tt
    (λ x there by on. tt) h

pub covered_moves : IsOwnMoved HasLayers IsUp HasCovered
covered_moves = record {
  unmoved = λ world new c k u a. unmoved_covered world new c u a;
  told = λ world off c request reply k source is a.
      answer_covered off c request reply is (off_covered world off c request source a);
  granted = λ world off c file access share ask k source none on free a.
      let request = FileRequest.Create file access share (Some ask) in
      granted_covered off c file access share ask _ (off_known world off k.all c request source)
      (off_covered world off c request source a);
  reconnected = λ world off c file access share ask file_id k source again on waits a.
      let request = FileRequest.Create file access share (Some ask) in
      let own = (off_named world off c request c source (k.all.named c k.good)).1 refl in
      reconnected_covered off c file access share ask file_id (off_known world off k.all c request source)
      (own.again file_id again) (off_covered world off c request source a);
  changed = λ world off c file_id number patch one k source found may a.
      let request = FileRequest.Write file_id number patch in
      changed_covered off c one.file file_id number patch (off_covered world off c request source a);
  closed = λ world off c file_id one k source found a.
      let request = FileRequest.Close file_id in
      closed_covered off c file_id (off_covered world off c request source a);
  ack_failed = λ world c given status k oldest why a.
      told_covered (popped world c) c (Request.Acknowledge given) (Reply.AckFailed status) tt (λ x there by on. tt)
      (ack_left world c given oldest a);
  ack_done = λ world c given lowered k oldest there breaks within a.
      leased_covered (popped world c) (key_of c given.key) _ (Request.Acknowledge (Some given)) (done_reply given)
      (λ x. tt) tt (ack_left world c (Some given) oldest a);
  hold = λ world file one k oldest may turn a. held_covered world file one oldest turn k.all.ground a;
  dropped = λ world c test k away a. dropped_covered world c test a;
  lower = λ world key lowered k may light a. leased_covered world key _ (Request.Acknowledge None)
      (break_notice key (world.server.leases key).state lowered) (λ x. tt) tt (all_left world key.client a);
  begin = λ world key lowered k may heavy a. leased_covered world key _ (Request.Acknowledge None)
      (break_notice key (world.server.leases key).state lowered) (λ x. tt) tt (all_left world key.client a);
  timer = λ world c file k on breaks a. timer_covered world c file a;
  command = λ world c command k a.
      let machine = world.clients c in
      step_covered world world c (commanded machine command) k.when (commanded-stays machine command).guid refl refl refl
      (later_same world.past) (any_command machine (StepUses machine) (commands_use machine) command)
      (known_for world k.all c k.good k.when) a.uses a.fails
      (λ x there by on fresh. any_command machine (StepCovers machine) (commands_cover machine) command x.file x.file_id
      (asked_of world c x.file) (world.replies c) (quiet_of world c x.file (k.all.creates c k.good k.when x.file))
      (a.covers x there by on fresh));
  take = λ world c reply queue k first a.
      take_covered world c reply queue first k.when (k.all.creates c k.good k.when) (known_for world k.all c k.good k.when) a;
}
