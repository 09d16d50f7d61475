-- In every run, all that a client names that hasn't strayed is in the record already; so a write that it settles as done
-- was accepted.
use Rattle.lease_laws.proofs.Words.{◌++◌, ◌+◌, ◌==◌, ◌∙◌, ◌∷◌, ◌≡◌, Access, Among, Client, CreateAsk, Fact, FileRequest, Held}
use Rattle.lease_laws.proofs.Words.{Key, List, None, Open, Option, Patch, Reply, Request, Share, Some, Status, World, ℕ, []}
use Rattle.lease_laws.proofs.Words.{⊎_elim, ap, asked_key, awaits, connected_again, eq-eqb, eqb-true, false, has_strayed}
use Rattle.lease_laws.proofs.Words.{has_written, held_of, inl, is_accepted, is_left_open, lease_after, lease_key, map, new_open}
use Rattle.lease_laws.proofs.Words.{not, opened_count, own_key, put, refl, refusal_of, subst, sym, true, true≢false, was_opened}
use Rattle.lease_laws.proofs.Words.{IsInTurn, connected_open, file_asked}
use Rattle.lease_laws.proofs.Words.{Ok, SmallStep, file_of_open}
use Rattle.lease_laws.proofs.Words.{lane_of, lane_of_open}
use Rattle.lease_laws.proofs.Words.{Lane}
use Rattle.lease_laws.proofs.Words.{Result, Server}
use Rattle.lease_laws.proofs.Words.{file_of_create}
use Rattle.lease_laws.proofs.Words.{arith}
use Rattle.lease_laws.proofs.client.Thin.{put_other, put_same}
use Rattle.lease_laws.proofs.server.Lists.{among_append, among_behind, among_filter, among_map, and_both, and_parts, if_cases}
use Rattle.lease_laws.proofs.server.Lists.{true_or}
use Rattle.lease_laws.proofs.server.PassWaits.{among_more}
use Rattle.lease_laws.proofs.server.cases.Ends.{found_open}
use Rattle.lease_laws.proofs.world.Links.{by_client}
use Rattle.lease_model.specs.server.Lanes.{lane_by, lane_under}
use Rattle.lease_coherence.specs.Names.{Each, IsNamed, IsNamedAt, IsNamedEntry, IsNamedOnFile, IsNamedReply, IsNamedRequest}
use Rattle.lease_coherence.specs.Names.{IsOwnCreate, IsOwnOpen}
use Rattle.lease_coherence.specs.Names.{IsNamedHeld}
use Rattle.lease_coherence.proofs.moves.Deeds.{HasDeeds, IsSource, changed_in, granted_in, held_in, reconnected_in, told_to}
use Rattle.lease_coherence.proofs.moves.Deeds.{with_held}
use Rattle.lease_coherence.proofs.moves.Events.{Ground}
use Rattle.lease_coherence.proofs.moves.Frames.{lease_put_rest}
use Rattle.lease_coherence.proofs.moves.Ground.{among_put}
use Rattle.lease_coherence.proofs.moves.Moves.{IsOldest, popped, rest_of}
use Rattle.lease_coherence.proofs.names.NamedInRecord.{each_append, each_rest, each_weaker, entry_later, on_file_later}
use Rattle.lease_coherence.proofs.names.NamedInRecord.{opened_once, reply_later, request_later}
use Rattle.lease_coherence.proofs.records.Later.{IsLater, later_fact, later_same, later_two}

-- ---- one client's part of a world

pub held_later : (client : ℕ) (guid : List ℕ) (past new : List Fact) → IsLater past new → (file : ℕ) (one : Held)
    → IsNamedHeld client guid past file one → IsNamedHeld client guid new file one
held_later client guid past new later file one n =
    record { named = on_file_later client guid past new later one.request n.named; lane = n.lane }

-- what changes elsewhere, or only grows older
pub at_later : (world new : World) (client : ℕ) → IsLater world.past new.past → new.clients client ≡ world.clients client
    → Each (IsNamedRequest client (world.clients client).guid world.past) (new.requests client)
    → ((file : ℕ) (one : Held) → Among one (new.server.held file) → one.client ≡ client
    → IsNamedHeld client (world.clients client).guid world.past file one)
    → ((one : Open) → Among one new.server.opens → one.client ≡ client → IsOwnOpen (world.clients client).guid one)
    → Each (IsNamedReply client new.past) (new.replies client) → IsNamedAt world client → IsNamedAt new client
at_later world new client later same requests held opens replies n = record {
  requests = subst (λ (m : Client). Each (IsNamedRequest client m.guid new.past) (new.requests client)) (sym same)
      (each_weaker (IsNamedRequest client (world.clients client).guid world.past)
      (IsNamedRequest client (world.clients client).guid new.past) (new.requests client)
      (λ request r. request_later client (world.clients client).guid world.past new.past later request r) requests);
  held = λ file one a own. subst (λ (m : Client). IsNamedHeld client m.guid new.past file one) (sym same)
      (held_later client (world.clients client).guid world.past new.past later file one (held file one a own));
  opens = λ one a own. subst (λ (m : Client). IsOwnOpen m.guid one) (sym same) (opens one a own);
  replies = replies;
  entries = λ file. subst (λ (m : Client). IsNamedEntry client file new.past (m.entries file)) (sym same)
      (entry_later client file world.past new.past later ((world.clients client).entries file) (n.entries file));
}

pub replies_later : (client : ℕ) (past new : List Fact) (replies : List Reply) → IsLater past new
    → Each (IsNamedReply client past) replies → Each (IsNamedReply client new) replies
replies_later client past new replies l each = each_weaker (IsNamedReply client past) (IsNamedReply client new) replies
    (λ reply r. reply_later client past new l reply r) each

-- a reply is sent, and opens and the record change
pub told_named : (world new : World) (client : ℕ) (reply : Reply) (c : ℕ) → IsLater world.past new.past
    → new.clients ≡ world.clients → new.requests ≡ world.requests
    → ((file : ℕ) (one : Held) → Among one (new.server.held file) → Among one (world.server.held file))
    → ((one : Open) → Among one new.server.opens → one.client ≡ c → IsOwnOpen (world.clients c).guid one)
    → new.replies ≡ put world.replies client (world.replies client ++ reply ∷ [])
    → (client ≡ c → IsNamedReply c new.past reply) → IsNamedAt world c → IsNamedAt new c
told_named world new client reply c later clients requests held opens replies named n =
    at_later world new c later (ap (λ (t : ℕ → Client). t c) clients)
    (subst (λ (q : ℕ → List Request). Each (IsNamedRequest c (world.clients c).guid world.past) (q c)) (sym requests) n.requests)
    (λ file one a own. n.held file one (held file one a) own) opens
    (subst (λ (r : ℕ → List Reply). Each (IsNamedReply c new.past) (r c)) (sym replies)
    (by_client (λ d. (client ≡ d → IsNamedReply d new.past reply) → Each (IsNamedReply d new.past) (world.replies d)
    → Each (IsNamedReply d new.past) (put world.replies client (world.replies client ++ reply ∷ []) d)) client c
    (λ here old. subst (Each (IsNamedReply client new.past)) (sym (put_same world.replies client _))
    (each_append (IsNamedReply client new.past) (world.replies client) (reply ∷ []) old (here refl, tt)))
    (λ ne apart here old. subst (Each (IsNamedReply c new.past)) (sym (put_other world.replies client _ c ne)) old)
    named (replies_later c world.past new.past (world.replies c) later n.replies))) n

-- the lane of a request by an open of the client
lane_by_open : (world : World) (c file file_id : ℕ) → IsNamedAt world c → (found : Option Open)
    → connected_open world.server c file_id ≡ found → file_of_open found ≡ Ok file
    → lane_of_open file_id found ≡ Lane.Leased (lease_key (world.clients c).guid file)
lane_by_open world c file file_id n None is asked = absurd (cc)
lane_by_open world c file file_id n (Some one) is asked =
    let own = found_open world.server c file_id one is in
    let at : one.file ≡ file = same_file one.file file asked in
    ap (lane_by file_id) (n.opens one own.there own.by) ∙ ap (λ f. Lane.Leased (lease_key (world.clients c).guid f)) at
  where
    of_number : ℕ → Result ℕ Status
    of_number n = Ok n

    same_file : (a b : ℕ) → of_number a ≡ of_number b → a ≡ b
    same_file a b e = cc

-- the lane of a request is the key of its file
pub own_lane : (world : World) (c file : ℕ) (request : FileRequest) → IsNamedAt world c
    → IsNamedOnFile c (world.clients c).guid world.past request → file_asked world.server c request ≡ Ok file
    → lane_of world.server c request ≡ Lane.Leased (lease_key (world.clients c).guid file)
own_lane world c file (FileRequest.Create other access share None) n named asked = absurd named
own_lane world c file (FileRequest.Create other access share (Some ask)) n named asked =
    ap lane_under named.asks
    ∙ ap Lane.Leased (named.key ∙ ap (lease_key (world.clients c).guid) (created_on world.server other file ask asked))
  where
    created_on : (server : Server) (other at : ℕ) (ask : CreateAsk) → file_of_create server other (Some ask) ≡ Ok at → other ≡ at
    created_on server other at ask e = grind arith
own_lane world c file (FileRequest.Read file_id) n named asked =
    lane_by_open world c file file_id n (connected_open world.server c file_id) refl asked
own_lane world c file (FileRequest.Write file_id number patch) n named asked =
    lane_by_open world c file file_id n (connected_open world.server c file_id) refl asked
own_lane world c file (FileRequest.Close file_id) n named asked =
    lane_by_open world c file file_id n (connected_open world.server c file_id) refl asked

-- a request is taken off
pub off_named : (world off : World) (client : ℕ) (request : FileRequest) (c : ℕ) → IsSource world off client request
    → IsNamedAt world c → IsNamedAt off c × (c ≡ client → IsNamedOnFile c (off.clients c).guid off.past request)
off_named world off client request c source n = ⊎_elim
    (λ a. subst (λ o. IsNamedAt o c × (c ≡ client → IsNamedOnFile c (o.clients c).guid o.past request)) (sym a.is_off) (
      at_later world (popped world client) c (later_same world.past) refl
          (by_client (λ d. Each (IsNamedRequest d (world.clients d).guid world.past) (world.requests d)
          → Each (IsNamedRequest d (world.clients d).guid world.past)
          (put world.requests client (rest_of (world.requests client)) d)) client c
          (λ each. subst (Each (IsNamedRequest client (world.clients client).guid world.past))
          (sym (put_same world.requests client _)) (each_rest _ (world.requests client) each))
          (λ ne apart each. subst (Each (IsNamedRequest c (world.clients c).guid world.past))
          (sym (put_other world.requests client _ c ne)) each) n.requests) n.held n.opens n.replies n,
      (λ same. first_of (ap world.requests same ∙ a.oldest.is_first) n.requests),
    ))
    (λ h. subst (λ o. IsNamedAt o c × (c ≡ client → IsNamedOnFile c (o.clients c).guid o.past request)) (sym h.is_off) (
      at_later world (with_held world h.file (h.before ++ h.behind)) c (later_same world.past) refl n.requests
          (λ file one a own. ⊎_elim (λ old. n.held file one old own)
          (λ left. subst (λ f. IsNamedHeld c (world.clients c).guid world.past f one) (sym left.0)
          (n.held h.file one (subst (λ (l : List Held). Among one l) (sym h.held)
          (among_more one _ h.before h.behind left.1)) own))
          (among_put world.server.held h.file (h.before ++ h.behind) file one a)) n.opens n.replies n,
      (λ same. (n.held h.file (held_of client request h.lane) (subst (λ (l : List Held). Among (held_of client request h.lane) l)
          (sym h.held) (among_behind (held_of client request h.lane) h.before (held_of client request h.lane ∷ h.behind)
          (inl refl)))
          (sym same)).named),
    )) source.from
  where
    first_of : {queue : List Request} → world.requests c ≡ Request.OnFile request ∷ queue
        → Each (IsNamedRequest c (world.clients c).guid world.past) (world.requests c)
        → IsNamedOnFile c (world.clients c).guid world.past request
    first_of e each = (subst (Each (IsNamedRequest c (world.clients c).guid world.past)) e each).0

-- ---- steps of the server

-- a failure names nothing
refusal_named : (client : ℕ) (past : List Fact) (request : FileRequest) (status : Status)
    → IsNamedReply client past (refusal_of request status)
refusal_named client past (FileRequest.Create file access share contexts) status = tt
refusal_named client past request status = tt

-- one reply, and nothing else
reply_named : (world : World) (client : ℕ) (reply : Reply) (c : ℕ) → IsNamedReply c (Fact.Sent client ∷ world.past) reply
    → IsNamedAt world c → IsNamedAt (told_to world client reply) c
reply_named world client reply c named n = told_named world (told_to world client reply) client reply c
    (later_fact world.past (Fact.Sent client)) refl refl (λ file one a. a) n.opens refl (λ same. named) n

-- in the part of a world from which a request was taken off, FileIds are counted as in the whole
pub record IsCountedOff (off : World) : Type 0 where
  pub last : off.server.last_id ≡ opened_count off.past
  pub opens : (one : Open) → Among one off.server.opens → was_opened one.file_id one.file one.client off.past ≡ true

pub off_counted : (world off : World) (client : ℕ) (request : FileRequest) → IsSource world off client request
    → Ground world → IsCountedOff off
off_counted world off client request source g = ⊎_elim
    (λ a. subst IsCountedOff (sym a.is_off) (record { last = g.counted.last; opens = g.counted.opens }))
    (λ h. subst IsCountedOff (sym h.is_off) (record { last = g.counted.last; opens = g.counted.opens })) source.from

just_opened : (file client : ℕ) (past : List Fact)
    → was_opened (opened_count past + 1) file client (Fact.Sent client ∷ Fact.Opened file client ∷ past) ≡ true
unfolding was_opened
just_opened file client past = true_or _ (was_opened (opened_count past + 1) file client past)
    (and_both _ _ (eq-eqb (opened_count past + 1) (opened_count past + 1) refl)
    (and_both _ _ (eq-eqb file file refl) (eq-eqb client client refl)))

just_accepted : (file client number : ℕ) (patch : Patch) (past : List Fact) → has_written client file number patch past ≡ true
    → is_accepted client number (Fact.Sent client ∷ Fact.Changed file client number patch ∷ past) ≡ true
unfolding is_accepted
just_accepted file client number patch past written = true_or _ (is_accepted client number past)
    (and_both _ _ (and_both _ _ (eq-eqb client client refl) (eq-eqb number number refl)) written)

-- a new open under the key of its create
new_own : (guid : List ℕ) (past : List Fact) (client file : ℕ) (ask : CreateAsk) → IsOwnCreate client guid past file ask
    → asked_key ask.lease ≡ Some (lease_key guid file)
new_own guid past client file ask own = ap asked_key own.asks ∙ ap (λ k. Some k) own.key

granted_named : (off : World) (client file : ℕ) (access : Access) (share : Share) (ask : CreateAsk) (c : ℕ) → IsCountedOff off
    → (c ≡ client → IsNamedOnFile c (off.clients c).guid off.past (FileRequest.Create file access share (Some ask)))
    → IsNamedAt off c → IsNamedAt (granted_in off client file access share ask (lease_after off.server client file ask.lease)) c
granted_named off client file access share ask c counted own n =
    let lease = lease_after off.server client file ask.lease in
    told_named off (granted_in off client file access share ask lease) client _ c
    (later_two off.past (Fact.Opened file client) (Fact.Sent client)) refl refl
    (λ at one a. lease_put_rest off.server client ask.lease lease (λ s. Among one (s.held at) → Among one (off.server.held at))
    (λ l x. x) a)
    (λ one a mine. ⊎_elim (λ old. n.opens one old mine)
    (λ new. ⊎_elim (λ same. subst (IsOwnOpen (off.clients c).guid) (sym same) (new_own (off.clients c).guid off.past c file ask
    (own (sym mine ∙ ap (λ (o : Open). o.client) same)))) (λ none. absurd none) new) (among_append one off.server.opens
    (new_open off.server client file access share ask.lease ask.durable lease ∷ []) a)) refl
    (λ same. subst (λ d. was_opened (off.server.last_id + 1) file d
    (Fact.Sent client ∷ Fact.Opened file client ∷ off.past) ≡ true) same
    (subst (λ n. was_opened (n + 1) file client (Fact.Sent client ∷ Fact.Opened file client ∷ off.past) ≡ true)
    (sym counted.last) (just_opened file client off.past))) n

pub record IsAwaiting (client file file_id : ℕ) (one : Open) : Type 0 where
  pub id : one.file_id ≡ file_id
  pub by : one.client ≡ client
  pub on_file : one.file ≡ file

pub awaits_parts : (client file : ℕ) (own : Option Key) (file_id : ℕ) (one : Open) → awaits client file own file_id one ≡ true
    → IsAwaiting client file file_id one
awaits_parts client file None file_id one e = absurd (true≢false (sym e))
awaits_parts client file (Some key) file_id one e =
    let a = and_parts _ _ e in
    let b = and_parts _ _ a.0 in
    let d = and_parts _ _ b.0 in
    let f = and_parts _ _ d.0 in
    record { id = eqb-true one.file_id file_id f.0; by = eqb-true one.client client d.1; on_file = eqb-true one.file file b.1 }

again_own : (guid : List ℕ) (file_id : ℕ) (opens : List Open) (one : Open) → Among one (map (connected_again file_id) opens)
    → ((x : Open) → Among x opens → x.client ≡ one.client → IsOwnOpen guid x) → IsOwnOpen guid one
again_own guid file_id opens one a each =
    let x = among_map (connected_again file_id) one opens a in
    if_cases (λ o. one ≡ o → IsOwnOpen guid one) ((x.0).file_id == file_id) (record (x.0) { connected = true }) (x.0)
    (λ here same. subst (IsOwnOpen guid) (sym same) (each x.0 x.1 (sym (ap (λ (o : Open). o.client) same))))
    (λ there same. subst (IsOwnOpen guid) (sym same) (each x.0 x.1 (sym (ap (λ (o : Open). o.client) same)))) x.2

pub deeds_named : (world : World) → Ground world → IsNamed world
    → HasDeeds world (λ new. (c : ℕ) → has_strayed c world.past ≡ false → IsNamedAt new c)
deeds_named world g named = record {
  refused = λ off client request status source may c good.
      reply_named off client (refusal_of request status) c (refusal_named c _ request status)
      (off_named world off client request c source (named c good)).0;
  full = λ off client file access share ask source c good.
      reply_named off client (Reply.CreateFailed file Status.InsufficientResources) c tt
      (off_named world off client _ c source (named c good)).0;
  granted = λ off client file access share ask source none on free c good.
      let n = off_named world off client (FileRequest.Create file access share (Some ask)) c source (named c good) in
      granted_named off client file access share ask c (off_counted world off client _ source g) n.1 n.0;
  reconnected = λ off client file access share ask file_id source again on waits c good.
      let n = off_named world off client (FileRequest.Create file access share (Some ask)) c source (named c good) in
      let parts = awaits_parts client file (own_key client ask.lease) file_id waits.one waits.waits in
      told_named off (reconnected_in off client file ask file_id) client _ c
      (later_fact off.past (Fact.Sent client)) refl refl (λ at one a. a)
      (λ one a mine. again_own (off.clients c).guid file_id off.server.opens one a
      (λ x b same. n.0.opens x b (same ∙ mine))) refl
      (λ same. (later_fact off.past (Fact.Sent client)).opened file_id file c
      (subst (λ d. was_opened file_id file d off.past ≡ true) (parts.by ∙ same)
      (subst (λ f. was_opened file_id f (waits.one).client off.past ≡ true) parts.on_file
      (subst (λ i. was_opened i (waits.one).file (waits.one).client off.past ≡ true) parts.id
      ((off_counted world off client _ source g).opens waits.one waits.is_there))))) n.0;
  read = λ off client file_id one source found may c good.
      reply_named off client (Reply.ReadDone file_id (off.server.contents one.file)) c tt
      (off_named world off client _ c source (named c good)).0;
  changed = λ off client file_id number patch one source found may c good.
      let n = off_named world off client (FileRequest.Write file_id number patch) c source (named c good) in
      let own = found_open off.server client file_id one found in
      told_named off (changed_in off client one.file file_id number patch) client _ c
      (later_two off.past (Fact.Changed one.file client number patch) (Fact.Sent client)) refl refl (λ at x a. a) n.0.opens refl
      (λ same. let asked = n.1 (sym same) in
      subst (λ d. is_accepted d number (Fact.Sent client ∷ Fact.Changed one.file client number patch ∷ off.past) ≡ true) same
      (just_accepted one.file client number patch off.past (subst (λ f. has_written client f number patch off.past ≡ true)
      (opened_once file_id asked.file c one.file one.client off.past asked.opened
      (subst (λ i. was_opened i one.file one.client off.past ≡ true) own.id
      ((off_counted world off client _ source g).opens one own.there)))
      (subst (λ d. has_written d asked.file number patch off.past ≡ true) (sym same) asked.written)))) n.0;
  closed = λ off client file_id one source found c good.
      let n = off_named world off client (FileRequest.Close file_id) c source (named c good) in
      told_named off _ client (Reply.Closed file_id) c (later_fact off.past (Fact.Sent client)) refl refl
      (λ at x a. a)
      (λ x a mine. n.0.opens x (among_filter (λ o. not (o.file_id == file_id)) x off.server.opens a).0 mine) refl
      (λ same. tt) n.0;
  ack_failed = λ client given status oldest up why c good.
      reply_named (popped world client) client (Reply.AckFailed status) c tt (popped_named world client c (named c good));
  ack_done = λ client given lowered oldest up there breaks within c good.
      let n = popped_named world client c (named c good) in
      told_named (popped world client) _ client _ c (later_fact world.past (Fact.Sent client)) refl refl
      (λ at x a. a) n.opens refl (λ same. tt) n;
  hold = λ file one oldest may turn c good. held_named world file one c oldest turn (named c good);
  drop = λ key c good. let n = named c good in
      at_later world _ c (later_same world.past) refl n.requests n.held
      (λ x a mine. n.opens x (among_filter (λ o. not (is_left_open key o)) x world.server.opens a).0 mine) n.replies n;
  lower = λ key lowered may light c good. let n = named c good in
      told_named world _ key.client _ c (later_fact world.past (Fact.Sent key.client)) refl refl
      (λ at x a. a) n.opens refl (λ same. tt) n;
  begin = λ key lowered may heavy c good. let n = named c good in
      told_named world _ key.client _ c (later_fact world.past (Fact.Sent key.client)) refl refl
      (λ at x a. a) n.opens refl (λ same. tt) n;
}
  where
    popped_named : (w : World) (client c : ℕ) → IsNamedAt w c → IsNamedAt (popped w client) c
    popped_named w client c n = at_later w (popped w client) c (later_same w.past) refl
        (by_client (λ d. Each (IsNamedRequest d (w.clients d).guid w.past) (w.requests d)
        → Each (IsNamedRequest d (w.clients d).guid w.past) (put w.requests client (rest_of (w.requests client)) d)) client c
        (λ each. subst (Each (IsNamedRequest client (w.clients client).guid w.past))
        (sym (put_same w.requests client (rest_of (w.requests client))))
        (each_rest (IsNamedRequest client (w.clients client).guid w.past) (w.requests client) each))
        (λ ne apart each. subst (Each (IsNamedRequest c (w.clients c).guid w.past))
        (sym (put_other w.requests client (rest_of (w.requests client)) c ne)) each) n.requests) n.held n.opens n.replies n

    held_named : (w : World) (file : ℕ) (one : Held) (c : ℕ) → IsOldest w one.client (Request.OnFile one.request)
        → IsInTurn (SmallStep.Hold file one) w.server → IsNamedAt w c → IsNamedAt (held_in (popped w one.client) file one) c
    held_named w file one c oldest turn n =
        let p = popped_named w one.client c n in
        at_later (popped w one.client) (held_in (popped w one.client) file one) c (later_same w.past) refl p.requests
        (λ at x a own. ⊎_elim (λ old. n.held at x old own)
        (λ new. subst (λ f. IsNamedHeld c (w.clients c).guid w.past f x) (sym new.0) (⊎_elim (λ old. n.held file x old own)
        (λ last. ⊎_elim (λ same. last_named x same own)
        (λ none. absurd none) last) (among_append x (w.server.held file) (one ∷ []) new.1)))
        (among_put w.server.held file (w.server.held file ++ one ∷ []) at x a)) p.opens p.replies p
      where
        last_named : (x : Held) → x ≡ one → x.client ≡ c → IsNamedHeld c (w.clients c).guid w.past file x
        last_named x same own =
            let mine : one.client ≡ c = sym (ap (λ (h : Held). h.client) same) ∙ own in
            let named : IsNamedOnFile c (w.clients c).guid w.past one.request =
            (subst (Each (IsNamedRequest c (w.clients c).guid w.past)) (ap w.requests (sym mine) ∙ oldest.is_first)
            n.requests).0 in
            subst (IsNamedHeld c (w.clients c).guid w.past file) (sym same) (record {
              named = named;
              lane = turn.1 ∙ ap (λ d. lane_of w.server d one.request) mine
                  ∙ own_lane w c file one.request n named (ap (λ d. file_asked w.server d one.request) (sym mine) ∙ turn.0);
            })
