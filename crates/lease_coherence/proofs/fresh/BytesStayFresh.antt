-- Every move keeps a client's bytes fresh, of each file whose timer didn't run out, while its link is up.
use Rattle.lease_laws.proofs.Words.{◌++◌, ◌+◌, ◌==◌, ◌∙◌, ◌∷◌, ◌≡◌, ◌≤◌, Among, Bool, Client, Command, Fact, FileRequest}
use Rattle.lease_laws.proofs.Words.{IsSoundPhase, Lease, Link, List, LiveEntry, None, Note, Open, Pending, Phase, Reply}
use Rattle.lease_laws.proofs.Words.{Request, Server, Some, State, Status, Step, World, ℕ, [], ap, ap₂, arith, belief_in}
use Rattle.lease_laws.proofs.Words.{commanded, connect_turn, connection_made, content_of, drop, eq-eqb, fact_of, false, has_key}
use Rattle.lease_laws.proofs.Words.{has_strayed, if◌then◌else◌, inl, is_breaking, is_down, is_up, key_of, last_of, last_sending}
use Rattle.lease_laws.proofs.Words.{lease_key, length, list_any, machine_key, not, numbers_to, refl, refusal_of, sendings}
use Rattle.lease_laws.proofs.Words.{slice_get, stepped_in, subst, suc, sym, taken, takings, true, true≢false, without, zero}
use Rattle.lease_laws.proofs.client.Forms.{commanded-stays, taken-stays}
use Rattle.lease_laws.proofs.client.Thin.{put_same}
use Rattle.lease_laws.proofs.client.cases.Commands.{any_command}
use Rattle.lease_laws.proofs.client.cases.Replies.{any_reply, is_live}
use Rattle.lease_laws.proofs.server.Keys.{put_key-cases}
use Rattle.lease_laws.proofs.server.Lists.{among_filter, clash, either}
use Rattle.lease_coherence.specs.Creates.{answers}
use Rattle.lease_coherence.specs.Names.{Each, IsOwnOpen}
use Rattle.lease_coherence.specs.Standing.{IsStandingAt}
use Rattle.lease_coherence.proofs.beliefs.Closed.{lease_stays, left_there}
use Rattle.lease_coherence.proofs.beliefs.Forms.{IsAboutFile}
use Rattle.lease_coherence.proofs.beliefs.OneLease.{BreaksAreMet, GivesNothing, OnGiven, acks, is_ack_break}
use Rattle.lease_coherence.proofs.beliefs.Sent.{off_fresh, off_trust}
use Rattle.lease_coherence.proofs.beliefs.Trust.{HasTrust, file_key}
use Rattle.lease_coherence.proofs.fresh.Clients.{IsDueTo, KeepsLive, TakesFresh, WasSoLive, all_about, commands_keep}
use Rattle.lease_coherence.proofs.fresh.Contents.{HasContents, noted_content}
use Rattle.lease_coherence.proofs.fresh.FreshBytes.{AckReads, Follows, IsFreshFor, IsRelayed, TellsBytes, acks_fewer}
use Rattle.lease_coherence.proofs.fresh.FreshBytes.{after_fewer, places_of, reads_after, reads_by, reads_last, relayed_fewer}
use Rattle.lease_coherence.proofs.fresh.FreshBytes.{relayed_later}
use Rattle.lease_coherence.proofs.fresh.Moves.{acked_fresh, broken_fresh, changed_fresh, granted_fresh, granted_was, low_of}
use Rattle.lease_coherence.proofs.fresh.Moves.{off_fresh_in, off_low, own_of, plain_told, popped_fresh, read_fresh}
use Rattle.lease_coherence.proofs.fresh.Moves.{reconnected_fresh, refusal_still, told_fresh}
use Rattle.lease_coherence.proofs.fresh.Sent.{HasFresh, HasMore, IsFreshIn, base_more, gone_reads, left_reads, seen_more}
use Rattle.lease_coherence.proofs.fresh.Sent.{sent_fresh, still_sends, unmoved_fresh}
use Rattle.lease_coherence.proofs.fresh.Takes.{takes_fresh}
use Rattle.lease_coherence.proofs.layers.Layers.{HasLayers, HasRecord}
use Rattle.lease_coherence.proofs.moves.Deeds.{IsSource, told_to, without_opens}
use Rattle.lease_coherence.proofs.moves.Events.{Ground, come_back, connected, reply_gone, reply_taken, timed_out}
use Rattle.lease_coherence.proofs.moves.Frames.{stepped_past, stepped_replies}
use Rattle.lease_coherence.proofs.moves.Moves.{popped}
use Rattle.lease_coherence.proofs.moves.Own.{IsKnownOf, IsOwnMoved, IsToldOf, IsUp, told_bare}
use Rattle.lease_coherence.proofs.moves.Spared.{ends_as}
use Rattle.lease_coherence.proofs.names.NamedInRecord.{each_append, each_weaker}
use Rattle.lease_coherence.proofs.names.Names.{off_named}
use Rattle.lease_coherence.proofs.records.Later.{later_fact, later_noted, later_then, past_noted}
use Rattle.lease_coherence.proofs.standing.OpensStayStanding.{each_flat, standing_moves}
use Rattle.lease_coherence.proofs.standing.Standing.{step_of}
use Rattle.lease_coherence.proofs.writes.Answered.{ground_of, known_by, names_of}
use Rattle.lease_coherence.proofs.writes.Counts.{settling}

-- ---- opens that close

-- leases that may be gone, where a reply may be sent
fewer_bound : (world new : World) (c file : ℕ) (opens : List Open) → new.server.opens ≡ opens → new.clients c ≡ world.clients c
    → (list_any (has_key (machine_key world c file)) opens ≡ true
    → new.server.leases (machine_key world c file) ≡ world.server.leases (machine_key world c file))
    → left_reads new c file ≡ left_reads world c file → IsStandingAt new c
    → ((one : Open) → Among one new.server.opens → one.client ≡ c → IsOwnOpen (new.clients c).guid one)
    → new.server.expired (machine_key new c file) ≡ false → IsFreshIn world c file
    → left_reads world c file ≡ true → (ends_as (new.server.leases (machine_key world c file))).read ≡ true
fewer_bound world new c file opens are machine stays left s own fresh f reads =
    either (list_any (has_key (machine_key world c file)) opens)
    (λ some. ap (λ (l : Lease). (ends_as l).read) (stays some) ∙ f.bound reads)
    (λ none. clash (left_reads world c file) reads (sym left ∙ gone_reads new c file s own fresh
    (ap (λ l. list_any (has_key (machine_key new c file)) l) are
    ∙ ap (λ (m : Client). list_any (has_key (key_of c (lease_key m.guid file))) opens) machine ∙ none)))

dropped_fresh : (world : World) (c : ℕ) (test : Open → Bool) (file : ℕ) → IsStandingAt (without_opens world test) c
    → ((one : Open) → Among one (without_opens world test).server.opens → one.client ≡ c → IsOwnOpen (world.clients c).guid one)
    → world.server.expired (machine_key world c file) ≡ false → IsFreshIn world c file
    → IsFreshIn (without_opens world test) c file
dropped_fresh world c test file s own fresh f = record {
  old = f.old;
  base = f.base;
  relay = f.relay;
  bound = fewer_bound world (without_opens world test) c file (without test world.server.opens) refl refl
      (λ some. lease_stays world.server (without test world.server.opens) (machine_key world c file) some) refl s own fresh f;
  acks_read = f.acks_read;
}

closed_fresh : (off : World) (c file_id : ℕ) (file : ℕ)
    → IsStandingAt (told_to (without_opens off (λ other. other.file_id == file_id)) c (Reply.Closed file_id)) c
    → ((one : Open) → Among one (without_opens off (λ other. other.file_id == file_id)).server.opens → one.client ≡ c
    → IsOwnOpen (off.clients c).guid one)
    → off.server.expired (machine_key off c file) ≡ false → takings c off.past ≤ length (sendings c off.past)
    → IsFreshIn off c file
    → IsFreshIn (told_to (without_opens off (λ other. other.file_id == file_id)) c (Reply.Closed file_id)) c file
closed_fresh off c file_id file s own fresh low f =
    let test : Open → Bool = λ other. other.file_id == file_id in
    let reply = Reply.Closed file_id in
    let new = told_to (without_opens off test) c reply in
    let own_key = file_key off c file in
    let sent = put_same off.replies c (off.replies c ++ reply ∷ []) in
    sent_fresh off new c off.past reply (record {
      machine = refl;
      requests = refl;
      replies = sent;
    }) (plain_told c off.past) low file (still_sends off new c off.past reply file tt refl
    (fewer_bound off new c file (without test off.server.opens) refl refl
    (λ some. lease_stays off.server (without test off.server.opens) (machine_key off c file) some)
    (ap (λ q. reads_after own_key file (belief_in ((off.clients c).entries file).phase).read q) sent
    ∙ reads_last own_key file (belief_in ((off.clients c).entries file).phase).read (off.replies c) reply)
    s own fresh f) (inl (λ e. e))) f

-- a timer that runs out
timed_past : (c client file at : ℕ) (past : List Fact) → HasMore c past (Fact.Expired client file ∷ past)
    × (content_of at (Fact.Expired client file ∷ past) ≡ content_of at past)
    × (places_of c (Fact.Expired client file ∷ past) ≡ places_of c past)
unfolding sendings takings content_of
timed_past c client file at past = (record { more = []; sent = append_nothing (sendings c past); took = refl }, refl, refl)
  where
    append_nothing : {X : Type 0} (xs : List X) → xs ≡ xs ++ []
    append_nothing [] = refl
    append_nothing (x ∷ xs) = ap (λ l. x ∷ l) (append_nothing xs)

timer_fresh : (world : World) (c at file : ℕ) → IsStandingAt (timed_out world c at) c
    → ((one : Open) → Among one world.server.opens → one.client ≡ c → IsOwnOpen (world.clients c).guid one)
    → (timed_out world c at).server.expired (machine_key world c file) ≡ false → IsFreshIn world c file
    → IsFreshIn (timed_out world c at) c file
timer_fresh world c at file s own fresh f =
    let key = machine_key world c at in
    let past = timed_past c c at file world.past in
    let reads = (belief_in ((world.clients c).entries file).phase).read in record {
      old = f.old;
      base = λ live is bytes b. base_more c file f.old world.past (Fact.Expired c at ∷ world.past) bytes past.0
          (f.base live is bytes b);
      relay = subst (λ p. IsRelayed c (file_key world c file) file (Fact.Expired c at ∷ world.past) reads f.old p
          (world.replies c) (content_of file (Fact.Expired c at ∷ world.past))) (sym past.2)
          (subst (IsRelayed c (file_key world c file) file (Fact.Expired c at ∷ world.past) reads f.old
          (places_of c world.past) (world.replies c)) (sym past.1)
          (relayed_later c (file_key world c file) file world.past (Fact.Expired c at ∷ world.past) reads f.old
          (places_of c world.past) (world.replies c) (content_of file world.past)
          (later_fact world.past (Fact.Expired c at)) f.relay));
      bound = fewer_bound world (timed_out world c at) c file (without (has_key key) world.server.opens) refl refl
          (λ some. lease_stays world.server (without (has_key key) world.server.opens) (machine_key world c file) some)
          refl s (λ one there by. own one (among_filter (λ o. not (has_key key o)) one world.server.opens there).0 by) fresh f;
      acks_read = f.acks_read;
    }

timer_was : (world : World) (c at file : ℕ) → (timed_out world c at).server.expired (machine_key world c file) ≡ false
    → world.server.expired (machine_key world c file) ≡ false
timer_was world c at file = put_key-cases (λ b. b ≡ false → world.server.expired (machine_key world c file) ≡ false)
    world.server.expired (machine_key world c at) true (machine_key world c file)
    (λ same e. absurd (true≢false e)) (λ other e. e)

-- ---- a step of the client

noted_places : (c : ℕ) (past : List Fact) (notes : List Note) → (sendings c (past_noted c past notes) ≡ sendings c past)
    × (takings c (past_noted c past notes) ≡ takings c past)
unfolding sendings takings
noted_places c past [] = (refl, refl)
noted_places c past (Note.Settled number outcome ∷ notes) = noted_places c (fact_of c (Note.Settled number outcome) ∷ past) notes
noted_places c past (note ∷ notes) = noted_places c (fact_of c note ∷ past) notes

noted_more : (c : ℕ) (past : List Fact) (notes : List Note) → HasMore c past (past_noted c past notes)
noted_more c past notes = let n = noted_places c past notes in
    record { more = []; sent = n.0 ∙ append_nothing (sendings c past); took = n.1 }
  where
    append_nothing : {X : Type 0} (xs : List X) → xs ≡ xs ++ []
    append_nothing [] = refl
    append_nothing (x ∷ xs) = ap (λ l. x ∷ l) (append_nothing xs)

same_places : (c : ℕ) (past : List Fact) (notes : List Note) → places_of c (past_noted c past notes) ≡ places_of c past
same_places c past notes = let n = noted_places c past notes in ap₂ (λ t p. drop t p) n.1 n.0

-- what is known after it, in the new world
stepped_fresh : (world : World) (c : ℕ) (step : Step) → is_up (world.links c) ≡ true
    → step.client.guid ≡ (world.clients c).guid → (file : ℕ)
    → IsFreshFor c (file_key world c file) file (world.server.leases (machine_key world c file))
    (step.client.entries file).phase (world.requests c ++ step.requests) (world.replies c)
    (past_noted c world.past step.notes) → IsFreshIn (stepped_in world c step) c file
stepped_fresh world c step up guid file f = let new = stepped_in world c step in
    let so = step_of world c step up guid in
    subst (λ (m : Client). IsFreshFor c (lease_key m.guid file) file (new.server.leases (key_of c (lease_key m.guid file)))
    (m.entries file).phase (new.requests c) (new.replies c) new.past) (sym so.clients)
    (subst (λ g. IsFreshFor c (lease_key g file) file (new.server.leases (key_of c (lease_key g file)))
    (step.client.entries file).phase (new.requests c) (new.replies c) new.past) (sym so.guid)
    (subst (λ (x : Server). IsFreshFor c (file_key world c file) file (x.leases (machine_key world c file))
    (step.client.entries file).phase (new.requests c) (new.replies c) new.past) (sym so.server)
    (subst (λ q. IsFreshFor c (file_key world c file) file (world.server.leases (machine_key world c file))
    (step.client.entries file).phase q (new.replies c) new.past) (sym so.queued)
    (subst (λ (r : ℕ → List Reply). IsFreshFor c (file_key world c file) file
    (world.server.leases (machine_key world c file)) (step.client.entries file).phase
    (world.requests c ++ step.requests) (r c) new.past) (sym (stepped_replies world c step))
    (subst (IsFreshFor c (file_key world c file) file
    (world.server.leases (machine_key world c file)) (step.client.entries file).phase
    (world.requests c ++ step.requests) (world.replies c)) (sym (stepped_past world c step)) f)))))

stepped_was : (world : World) (c : ℕ) (step : Step) → is_up (world.links c) ≡ true
    → step.client.guid ≡ (world.clients c).guid → (file : ℕ)
    → (stepped_in world c step).server.expired (machine_key (stepped_in world c step) c file) ≡ false
    → world.server.expired (machine_key world c file) ≡ false
stepped_was world c step up guid file fresh = ap (λ g. world.server.expired (key_of c (lease_key g file)))
    (sym (step_of world c step up guid).guid) ∙ ap₂ (λ (x : Server) (m : Client). x.expired (key_of c (lease_key m.guid file)))
    (sym (step_of world c step up guid).server) (sym (step_of world c step up guid).clients) ∙ fresh

kept_reads : (old new : Phase) → ((now : LiveEntry) → new ≡ Phase.Live now → WasSoLive old now)
    → (belief_in new).read ≡ true → (belief_in old).read ≡ true
kept_reads old (Phase.Live now) live e = let w = live now refl in
    ap (λ p. (belief_in p).read) w.was ∙ ap (λ (b : State). b.read) (sym w.belief) ∙ e
kept_reads old phase live e = absurd (true≢false (sym e))

command_fresh : (world : World) (c : ℕ) (command : Command) → is_up (world.links c) ≡ true → (file : ℕ)
    → IsFreshIn world c file → IsFreshIn (stepped_in world c (commanded (world.clients c) command)) c file
command_fresh world c command up file f =
    let machine = world.clients c in
    let step = commanded machine command in
    let k = any_command machine (KeepsLive machine) (commands_keep machine) command in
    let key = file_key world c file in
    let past = past_noted c world.past step.notes in
    let fewer = kept_reads (machine.entries file).phase (step.client.entries file).phase (k.live file) in
    let after = after_fewer key file (belief_in (machine.entries file).phase).read
    (belief_in (step.client.entries file).phase).read (world.replies c) fewer in
    let reads = (belief_in (step.client.entries file).phase).read in
    let left = reads_after key file reads (world.replies c) in
    stepped_fresh world c step up (commanded-stays machine command).guid file (record {
      old = f.old;
      base = λ now is bytes b. let w = k.live file now is in
          base_more c file f.old world.past past bytes (noted_more c world.past step.notes)
          (f.base w.live w.was bytes (sym w.base ∙ b));
      relay = subst (λ p. IsRelayed c key file past reads f.old p (world.replies c) (content_of file past))
          (sym (same_places c world.past step.notes))
          (subst (IsRelayed c key file past reads f.old (places_of c world.past) (world.replies c))
          (sym (noted_content c world.past step.notes file))
          (relayed_later c key file world.past past reads f.old (places_of c world.past) (world.replies c)
          (content_of file world.past) (later_noted c world.past step.notes)
          (relayed_fewer c key file world.past _ _ f.old (places_of c world.past) (world.replies c)
          (content_of file world.past) fewer f.relay)));
      bound = λ e. f.bound (after e);
      acks_read = each_append (AckReads key left) (world.requests c) step.requests
          (each_weaker (AckReads key (left_reads world c file)) (AckReads key left) (world.requests c)
          (acks_fewer key (left_reads world c file) left after) f.acks_read) (all_about key left step.requests k.about);
    })

-- ---- a reply is taken

-- the next place
drop_next : {X : Type 0} (count : ℕ) (xs rest : List X) (x : X) → drop count xs ≡ x ∷ rest
    → (drop (suc count) xs ≡ rest) × (slice_get xs count ≡ Some x)
drop_next {X} zero [] rest x e = let c : ⊥ = cc in absurd c
drop_next {X} zero (y ∷ xs) rest x e = (tails e, heads e)
  where
    tails : {z w : X} {ys zs : List X} → z ∷ ys ≡ w ∷ zs → ys ≡ zs
    tails e = cc

    heads : {z w : X} {ys zs : List X} → z ∷ ys ≡ w ∷ zs → Some z ≡ Some w
    heads e = cc
drop_next {X} (suc count) [] rest x e = let c : ⊥ = cc in absurd c
drop_next {X} (suc count) (y ∷ xs) rest x e = drop_next count xs rest x e

one_more : (count : ℕ) → count + 1 ≡ suc count
one_more count = omega arith

took_places : (c : ℕ) (past : List Fact) (place : List Fact) (rest : List (List Fact)) → places_of c past ≡ place ∷ rest
    → (places_of c (Fact.Took c ∷ past) ≡ rest) × (last_sending c (Fact.Took c ∷ past) ≡ Some place)
unfolding sendings takings last_sending
took_places c past place rest e =
    let n = drop_next (takings c past) (sendings c past) rest place e in
    let t : (if c == c then takings c past + 1 else takings c past) ≡ suc (takings c past) = own (c == c) (eq-eqb c c refl) in
    (ap (λ k. drop k (sendings c past)) t ∙ n.0, ap (λ k. last_of k (sendings c past)) t ∙ n.1)
  where
    own : (b : Bool) → b ≡ true → (if b then takings c past + 1 else takings c past) ≡ suc (takings c past)
    own true e = one_more (takings c past)
    own false e = absurd (true≢false (sym e))

took_content : (c file : ℕ) (past : List Fact) → content_of file (Fact.Took c ∷ past) ≡ content_of file past
unfolding content_of
took_content c file past = refl

record HasNext (c : ℕ) (key : List ℕ) (file : ℕ) (past : List Fact) (reads : Bool) (old : List ℕ)
    (places : List (List Fact)) (reply : Reply) (queue : List Reply) (now : List ℕ) : Type 0 where
  place : List Fact
  rest : List (List Fact)
  are : places ≡ place ∷ rest
  follows : reads ≡ true → Follows c file past old (content_of file place) reply
  tells : TellsBytes c past place reply
  relay : IsRelayed c key file past (reads_by key file reads reply) (content_of file place) rest queue now

next_of : (c : ℕ) (key : List ℕ) (file : ℕ) (past : List Fact) (reads : Bool) (old : List ℕ)
    (places : List (List Fact)) (reply : Reply) (queue : List Reply) (now : List ℕ)
    → IsRelayed c key file past reads old places (reply ∷ queue) now → HasNext c key file past reads old places reply queue now
next_of c key file past reads old [] reply queue now r = absurd r
next_of c key file past reads old (place ∷ rest) reply queue now r =
    record { place = place; rest = rest; are = refl; follows = r.0; tells = r.1; relay = r.2 }

take_fresh : (world : World) (c : ℕ) (reply : Reply) (queue : List Reply) → is_up (world.links c) ≡ true
    → world.replies c ≡ reply ∷ queue → (file : ℕ)
    → TakesFresh c (world.clients c) world.past reply (taken (world.clients c) reply)
    → IsDueTo c (world.clients c) world.past reply → (is_live ((world.clients c).entries file).phase ≡ true
    → is_ack_break (file_key world c file) reply ≡ true → Each (OnGiven GivesNothing (file_key world c file) file) queue)
    → IsFreshIn world c file → IsFreshIn (reply_taken world c reply queue) c file
take_fresh world c reply queue up first file takes due quiet f =
    let machine = world.clients c in
    let gone = reply_gone world c queue in
    let step = taken machine reply in
    let key = file_key world c file in
    let reads = (belief_in (machine.entries file).phase).read in
    let n = next_of c key file world.past reads f.old (places_of c world.past) reply queue (content_of file world.past)
    (subst (λ q. IsRelayed c key file world.past reads f.old (places_of c world.past) q (content_of file world.past)) first
    f.relay) in
    let after = takes due n.place queue file f.old (record {
      base = λ live is bytes b. (f.base live is bytes b).same;
      follows = n.follows;
      tells = n.tells;
      no_grant = quiet;
    }) in
    let took = took_places c world.past n.place n.rest n.are in
    let start = Fact.Took c ∷ world.past in
    let past = past_noted c start step.notes in
    let fewer = after_fewer key file (reads_by key file reads reply) (belief_in (step.client.entries file).phase).read queue
    after.reads in
    let now = (belief_in (step.client.entries file).phase).read in
    let end = reads_after key file now queue in
    let left : gone.replies c ≡ queue = put_same world.replies c queue in
    stepped_fresh gone c step up (taken-stays machine reply).guid file
    (subst (λ q. IsFreshFor c key file (world.server.leases (machine_key world c file)) (step.client.entries file).phase
    (world.requests c ++ step.requests) q past) (sym left) (record {
      old = content_of file n.place;
      base = λ live is bytes b. record {
        same = after.base live is bytes b;
        seen = seen_more c file (content_of file n.place) start past (noted_more c start step.notes)
            (record { place = n.place; is_last = took.1; content = refl });
      };
      relay = subst (λ p. IsRelayed c key file past now (content_of file n.place) p queue (content_of file past))
          (sym (same_places c start step.notes ∙ took.0))
          (subst (IsRelayed c key file past now (content_of file n.place) n.rest queue)
          (sym (noted_content c start step.notes file ∙ took_content c file world.past))
          (relayed_later c key file world.past past now (content_of file n.place) n.rest queue (content_of file world.past)
          (later_then world.past start past (later_fact world.past (Fact.Took c)) (later_noted c start step.notes))
          (relayed_fewer c key file world.past _ _ (content_of file n.place) n.rest queue (content_of file world.past)
          after.reads n.relay)));
      bound = λ e. f.bound (ap (λ q. reads_after key file reads q) first ∙ fewer e);
      acks_read = each_append (AckReads key end) (world.requests c) step.requests
          (each_weaker (AckReads key (left_reads world c file)) (AckReads key end) (world.requests c)
          (acks_fewer key (left_reads world c file) end (λ e. ap (λ q. reads_after key file reads q) first ∙ fewer e))
          f.acks_read) after.acks;
    }))

-- ---- a client connects

joined_places : (d : ℕ) (past : List Fact) → places_of d (Fact.Joined d ∷ past) ≡ []
unfolding sendings takings
joined_places d past = by_same (d == d) (eq-eqb d d refl)
  where
    by_same : (b : Bool) → b ≡ true → drop (if b then 0 else takings d past) (if b then [] else sendings d past) ≡ []
    by_same true e = refl
    by_same false e = absurd (true≢false (sym e))

pub connect_fresh : (world : World) (c : ℕ) → Ground world → world.links c ≡ Link.Down → (file : ℕ)
    → IsFreshIn (connected world c) c file
connect_fresh world c g down file =
    let machine = world.clients c in
    let back = come_back world c in
    let step = connection_made machine in
    let is_off : is_up (world.links c) ≡ false = ap is_up down in
    let online : machine.is_online ≡ false = g.online c ∙ ap (λ l. not (is_down l)) down in
    let turn : ℕ → List Request = λ f. (connect_turn machine f (machine.entries f).sent (machine.entries f).phase).requests in
    let past = past_noted c back.past step.notes in
    let phase = (step.client.entries file).phase in
    let dark : (belief_in phase).read ≡ false = idle file online (machine.entries file).phase ((g.clients c).entries file) in
    let none : back.replies c ≡ [] = (g.tied c).replies is_off in
    let nothing : places_of c past ≡ [] = same_places c back.past step.notes ∙ joined_places c world.past in
    stepped_fresh back c step (ap is_up (put_same world.links c Link.Up)) refl file
    (subst (λ q. IsFreshFor c (file_key back c file) file (back.server.leases (machine_key back c file)) phase
    (back.requests c ++ step.requests) q past) (sym none) (record {
      old = [];
      base = λ live is bytes b. absurd (not_live file online (machine.entries file).phase ((g.clients c).entries file) live is);
      relay = subst (λ p. IsRelayed c (file_key back c file) file past (belief_in phase).read [] p []
          (content_of file past)) (sym nothing) (λ reads. absurd (true≢false (sym reads ∙ dark)));
      bound = λ reads. absurd (true≢false (sym reads ∙ dark));
      acks_read = subst (λ q. Each (AckReads (file_key back c file) (belief_in phase).read) (q ++ step.requests))
          (sym ((g.tied c).requests is_off)) (all_about (file_key back c file) (belief_in phase).read step.requests
          (each_flat IsAboutFile turn (numbers_to machine.files)
          (λ f. about f (machine.entries f).sent (machine.entries f).phase)));
    }))
  where
    about : (f : ℕ) (sent : List Pending) (phase : Phase)
        → Each IsAboutFile (connect_turn (world.clients c) f sent phase).requests
    about f sent (Phase.Offline parted) = (tt, tt)
    about f sent phase = tt

    idle : (f : ℕ) → (world.clients c).is_online ≡ false → (phase : Phase)
        → IsSoundPhase (world.clients c).is_online ((world.clients c).entries f).sent phase
        → (belief_in (connect_turn (world.clients c) f ((world.clients c).entries f).sent phase).entry.phase).read ≡ false
    idle f off (Phase.Live live) sound = clash (world.clients c).is_online sound.0 off
    idle f off phase sound = refl

    not_live : (f : ℕ) → (world.clients c).is_online ≡ false → (phase : Phase)
        → IsSoundPhase (world.clients c).is_online ((world.clients c).entries f).sent phase → (live : LiveEntry)
        → (connect_turn (world.clients c) f ((world.clients c).entries f).sent phase).entry.phase ≡ Phase.Live live → ⊥
    not_live f off (Phase.Live was) sound live e = clash (world.clients c).is_online sound.0 off
    not_live f off phase sound live e = cc

-- ---- all moves

-- an entry that is live for a reply's break has nothing given behind it
quiet_behind : (world : World) (c file : ℕ) (reply : Reply) (queue : List Reply) → world.replies c ≡ reply ∷ queue
    → HasTrust world c → world.server.expired (machine_key world c file) ≡ false
    → is_live ((world.clients c).entries file).phase ≡ true → is_ack_break (file_key world c file) reply ≡ true
    → Each (OnGiven GivesNothing (file_key world c file) file) queue
quiet_behind world c file reply queue first t fresh live asks =
    let b = subst (BreaksAreMet (file_key world c file) file
    (is_breaking (world.server.leases (machine_key world c file))) (acks (file_key world c file) (world.requests c))
    (is_live ((world.clients c).entries file).phase)) first (t.files file fresh).explained.believed.breaks in
    ((b.0) live asks).no_grant

due_of : (world : World) (c : ℕ) (reply : Reply) (queue : List Reply) → HasRecord world
    → has_strayed c world.past ≡ false → is_up (world.links c) ≡ true → world.replies c ≡ reply ∷ queue
    → IsDueTo c (world.clients c) world.past reply
due_of world c reply queue v good up first = record {
  asked = λ file. omega (arith, v.layers.creates c good up file, ap (λ (q : List Reply). answers file q) first);
  sent = λ file number known own.
      omega (arith, (v.once c good up).counts file number known own, ap (λ (q : List Reply). settling number q) first);
}

-- a request that is answered, where nothing else changes
answer_fresh : (world off : World) (c : ℕ) (request : FileRequest) (reply : Reply) → IsSource world off c request
    → IsToldOf off c request reply → Ground world → HasContents world → (file : ℕ)
    → takings c off.past ≤ length (sendings c off.past) → IsFreshIn off c file → IsFreshIn (told_to off c reply) c file
answer_fresh world off c request reply source (IsToldOf.Refused asked status may) g h file low f = told_fresh off c
    (refusal_of asked status) file (told_bare off c asked _ (IsToldOf.Refused asked status may)) (refusal_still asked status)
    low f
answer_fresh world off c request reply source (IsToldOf.Full of_file access share ask) g h file low f =
    told_fresh off c (Reply.CreateFailed of_file Status.InsufficientResources) file tt tt low f
answer_fresh world off c request reply source (IsToldOf.Read file_id one found may) g h file low f =
    read_fresh world off c file_id one source g h found file low f

layers_of : {world : World} {c : ℕ} → IsKnownOf HasRecord IsUp world c → IsKnownOf HasLayers IsUp world c
layers_of k = record { all = k.all.layers; good = k.good; when = k.when }

pub fresh_moves : IsOwnMoved HasRecord IsUp HasFresh
fresh_moves = record {
  unmoved = λ world new c k u a file fresh.
      unmoved_fresh world new c u (ground_of world k.all).fine.sound (own_of world k.all c k.good) file
      (a file (sym (u.expired (machine_key world c file) refl)
      ∙ ap (λ (m : Client). new.server.expired (key_of c (lease_key m.guid file))) (sym u.machine) ∙ fresh));
  told = λ world off c request reply k source is a file fresh. answer_fresh world off c request reply source is
      (ground_of world k.all) k.all.contents file (off_low world off c request source
      (low_of world (ground_of world k.all) c k.when))
      (off_fresh_in world off c file request source (a file (off_fresh world off c file request source fresh)));
  granted = λ world off c file access share ask k source none on free a at fresh.
      let request = FileRequest.Create file access share (Some ask) in
      let own = (off_named world off c request c source (names_of world k.all c k.good)).1 refl in
      let before : off.server.expired (machine_key off c at) ≡ false = granted_was off c file access share ask at fresh in
      granted_fresh off c file access share ask own.lease own.asks own.key
      (off_trust world off c request source (k.all.layers.beliefs c k.good k.when)) at before
      (off_low world off c request source (low_of world (ground_of world k.all) c k.when))
      (off_fresh_in world off c at request source (a at (off_fresh world off c at request source before)));
  reconnected = λ world off c file access share ask file_id k source again on waits a at fresh.
      let request = FileRequest.Create file access share (Some ask) in
      let own = (off_named world off c request c source (names_of world k.all c k.good)).1 refl in
      reconnected_fresh off c file ask file_id own.lease own.asks own.key
      (off_trust world off c request source (k.all.layers.beliefs c k.good k.when)) at fresh
      (off_low world off c request source (low_of world (ground_of world k.all) c k.when))
      (off_fresh_in world off c at request source (a at (off_fresh world off c at request source fresh)));
  changed = λ world off c file_id number patch one k source found may a file fresh.
      changed_fresh world off c file_id number patch one source (ground_of world k.all) (names_of world k.all c k.good)
      found file (off_low world off c _ source (low_of world (ground_of world k.all) c k.when))
      (off_fresh_in world off c file _ source (a file (off_fresh world off c file _ source fresh)));
  closed = λ world off c file_id one k source found a file fresh.
      closed_fresh off c file_id file
      (standing_moves.closed world off c file_id one (layers_of k) source found (k.all.layers.opens c k.good k.when))
      (λ x there by. (off_named world off c (FileRequest.Close file_id) c source (names_of world k.all c k.good)).0.opens x
      (left_there off (λ other. other.file_id == file_id) x there) by)
      fresh (off_low world off c _ source (low_of world (ground_of world k.all) c k.when))
      (off_fresh_in world off c file _ source (a file (off_fresh world off c file _ source fresh)));
  ack_failed = λ world c given status k oldest why a file fresh.
      told_fresh (popped world c) c (Reply.AckFailed status) file tt tt (low_of world (ground_of world k.all) c k.when)
      (popped_fresh world c file (a file fresh));
  ack_done = λ world c given lowered k oldest there breaks within a file fresh.
      acked_fresh world c given oldest file (low_of world (ground_of world k.all) c k.when) (a file fresh);
  hold = λ world at one k oldest may turn a file fresh. popped_fresh world one.client file (a file fresh);
  dropped = λ world c test k away a file fresh. dropped_fresh world c test file
      (standing_moves.dropped world c test (layers_of k) away (k.all.layers.opens c k.good k.when))
      (λ x there by. own_of world k.all c k.good x (left_there world test x there) by) fresh (a file fresh);
  lower = λ world key lowered k may light a file fresh.
      broken_fresh world key (record { state = lowered; broken_to = None }) lowered file refl
      (low_of world (ground_of world k.all) key.client k.when) (a file fresh);
  begin = λ world key lowered k may heavy a file fresh.
      broken_fresh world key (record { state = (world.server.leases key).state; broken_to = Some lowered }) lowered file
      refl (low_of world (ground_of world k.all) key.client k.when) (a file fresh);
  timer = λ world c at k on breaks a file fresh. timer_fresh world c at file
      (standing_moves.timer world c at (layers_of k) on breaks (k.all.layers.opens c k.good k.when))
      (own_of world k.all c k.good) fresh (a file (timer_was world c at file fresh));
  command = λ world c command k a file fresh.
      command_fresh world c command k.when file (a file
      (stepped_was world c (commanded (world.clients c) command) k.when (commanded-stays (world.clients c) command).guid file
      fresh));
  take = λ world c reply queue k first a file fresh.
      let gone = reply_gone world c queue in
      let machine = world.clients c in
      let before = stepped_was gone c (taken machine reply) k.when (taken-stays machine reply).guid file fresh in
      take_fresh world c reply queue k.when first file (any_reply machine (TakesFresh c machine world.past)
      (takes_fresh c machine world.past ((ground_of world k.all).clients c) (known_by world k.all c k.good)) reply)
      (due_of world c reply queue k.all k.good k.when first)
      (quiet_behind world c file reply queue first (k.all.layers.beliefs c k.good k.when) before) (a file before);
}
