-- While a client's link is up, each write that it has sent is under way once: asked, held, or answered and not yet taken.
use Rattle.lease_laws.proofs.Words.{◌++◌, ◌+◌, ◌==◌, ◌∙◌, ◌∷◌, ◌≡◌, ◌≢◌, Among, Bool, Client, ClientCall, Command, Entry, Err}
use Rattle.lease_laws.proofs.Words.{Fact, FileRequest, Held, IsSoundEntry, IsSoundPhase, Link, List, None, Ok, Open, Option}
use Rattle.lease_laws.proofs.Words.{Patch, Pending, Phase, Reply, Request, Result, Server, Some, Status, Step, TellNumbers}
use Rattle.lease_laws.proofs.Words.{World, ℕ, [], ⊎_elim, ap, ap₂, arith, break_notice, commanded, connect_turn, connected_open}
use Rattle.lease_laws.proofs.Words.{connection_made, eq-eqb, eqb-true, false, file_asked, file_of_open, flat_map}
use Rattle.lease_laws.proofs.Words.{granted_form_of, has_written, is_down, is_up, key_of, knows_file, lease_after, not}
use Rattle.lease_laws.proofs.Words.{numbers_to, put, refl, sent_over, stepped_in, subst, sym, taken, true, was_opened}
use Rattle.lease_model.specs.records.Past.{has_number}
use Rattle.lease_laws.proofs.client.Forms.{commanded-stays, taken-stays}
use Rattle.lease_laws.proofs.client.Notes.{called_tells}
use Rattle.lease_laws.proofs.client.Thin.{put_other, put_same}
use Rattle.lease_laws.proofs.client.cases.Commands.{any_command}
use Rattle.lease_laws.proofs.client.cases.Replies.{any_reply}
use Rattle.lease_laws.proofs.server.Lists.{among_append, among_filter, among_filtered, clash, either}
use Rattle.lease_laws.proofs.server.cases.Ends.{found_open}
use Rattle.lease_laws.proofs.world.Runs.{stepped_server}
use Rattle.lease_coherence.specs.Creates.{held_by}
use Rattle.lease_coherence.specs.Names.{IsNamedOnFile, IsNamedRequest, WasWrittenOn}
use Rattle.lease_coherence.proofs.creates.Creates.{none_held, stepped_machine, up_link}
use Rattle.lease_coherence.proofs.layers.Layers.{HasRecord}
use Rattle.lease_coherence.proofs.moves.Deeds.{changed_in, done_reply, granted_in, granted_reply, held_in, leased_in}
use Rattle.lease_coherence.proofs.moves.Deeds.{reconnected_in, reconnected_reply, told_to, without_opens}
use Rattle.lease_coherence.proofs.moves.Events.{Ground, come_back, connected, reply_gone, reply_taken, timed_out}
use Rattle.lease_coherence.proofs.moves.Foreign.{IsUnmoved}
use Rattle.lease_coherence.proofs.moves.Frames.{lease_put_rest, stepped_past, stepped_replies, stepped_requests}
use Rattle.lease_coherence.proofs.moves.Ground.{among_put}
use Rattle.lease_coherence.proofs.moves.Moves.{IsOldest, popped, rest_of}
use Rattle.lease_coherence.proofs.moves.Own.{IsOwnMoved, IsToldOf, IsUp}
use Rattle.lease_coherence.proofs.moves.Shift.{append_none}
use Rattle.lease_coherence.proofs.names.NamedInRecord.{entry_later, opened_once}
use Rattle.lease_coherence.proofs.records.Later.{later_fact, later_noted, past_noted}
use Rattle.lease_coherence.proofs.standing.StandingOpens.{head_of}
use Rattle.lease_coherence.proofs.writes.Answered.{ack_off, answered_once, first_off, ground_of, known_by, names_of}
use Rattle.lease_coherence.proofs.writes.Answered.{not_counted, own_counts, same_once, told_once}
use Rattle.lease_coherence.proofs.writes.Counts.{held_writes, held_writes_among, numbered_in, refusal_settles, settles_of}
use Rattle.lease_coherence.proofs.writes.Counts.{settling, write_of, writes, writes_append, writes_under_way}
use Rattle.lease_coherence.proofs.writes.Steps.{AddsUpTaken, AddsUpWell, IsKnownBy, IsOwnNumber, IsSentOnce, commands_add}
use Rattle.lease_coherence.proofs.writes.Steps.{no_answers, own_before, takes_add}

-- ---- a request is held

pub no_file : (asked : Result ℕ Status) (status : Status) (at : ℕ) → asked ≡ Err status → asked ≡ Ok at → ⊥
no_file asked status at e f = cc

pub same_file : (asked : Result ℕ Status) (file at : ℕ) → asked ≡ Ok file → asked ≡ Ok at → file ≡ at
same_file asked file at e f = cc

-- a write that comes is one of the file that it asks for
asked_on : (world : World) (c at : ℕ) (request : FileRequest) → Ground world
    → IsNamedOnFile c (world.clients c).guid world.past request → file_asked world.server c request ≡ Ok at
    → (file_id number : ℕ) (patch : Patch) → request ≡ FileRequest.Write file_id number patch
    → has_written c at number patch world.past ≡ true
asked_on world c at request g named asked file_id number patch is = by_open
    (subst (IsNamedOnFile c (world.clients c).guid world.past) is named)
    (connected_open world.server c file_id) refl (subst (λ r. file_asked world.server c r ≡ Ok at) is asked)
  where
    by_open : WasWrittenOn c file_id number patch world.past → (found : Option Open)
        → connected_open world.server c file_id ≡ found → file_of_open found ≡ Ok at
        → has_written c at number patch world.past ≡ true
    by_open w None e a = absurd (no_file _ Status.FileClosed at refl a)
    by_open w (Some one) e a =
        let own = found_open world.server c file_id one e in
        subst (λ f. has_written c f number patch world.past ≡ true)
        (opened_once file_id w.file c one.file one.client world.past w.opened
        (subst (λ i. was_opened i one.file one.client world.past ≡ true) own.id (g.counted.opens one own.there))
        ∙ same_file _ one.file at refl a) w.written

hold_once : (world : World) (at : ℕ) (one : Held) → IsOldest world one.client (Request.OnFile one.request)
    → ((file_id number : ℕ) (patch : Patch) → one.request ≡ FileRequest.Write file_id number patch
    → has_written one.client at number patch world.past ≡ true)
    → IsKnownBy one.client (world.clients one.client) world.past → IsSentOnce world one.client
    → IsSentOnce (held_in (popped world one.client) at one) one.client
hold_once world at one oldest written k s = same_once world (held_in (popped world one.client) at one) one.client refl
    (λ file number patch. refl)
    (λ file number own. either (file == at)
    (λ here. omega (
      arith,
      first_off number (world.requests one.client) oldest.queue one.request oldest.is_first,
      ap
          (λ (q : List Request). writes number q) (put_same world.requests one.client (rest_of (world.requests one.client))),
      ap
          (λ n. held_writes number (held_by one.client (put world.server.held at (world.server.held at ++ one ∷ []) n)))
          (eqb-true file at here) ∙ ap (λ (l : List Held). held_writes number (held_by one.client l))
          (put_same world.server.held at (world.server.held at ++ one ∷ [])) ∙ held_writes_among number one.client
          (world.server.held at) [] one (eq-eqb one.client one.client refl) ∙ ap
          (λ (l : List Held). write_of number one.request + held_writes number (held_by one.client l))
          (append_none (world.server.held at)) ∙ ap (λ n. write_of number one.request + held_writes number
          (held_by one.client (world.server.held n))) (sym (eqb-true file at here)),
    ))
    (λ there. let ne : file ≢ at = λ e. clash (file == at) (eq-eqb file at e) there in
    (omega (
      arith,
      first_off number (world.requests one.client) oldest.queue one.request oldest.is_first,
      not_counted world one.client file number one.request (own_counts world one.client k file number own one.request) at
          (λ e. ne (sym e)) written,
      ap (λ (q : List Request). writes number q) (put_same world.requests one.client (rest_of (world.requests one.client))),
      ap
          (λ (l : List Held). held_writes number (held_by one.client l))
          (put_other world.server.held at (world.server.held at ++ one ∷ []) file ne),
    ))))
    (λ place x a own file_id number patch is. ⊎_elim
    (λ old. s.held_on place x old own file_id number patch is)
    (λ new. subst (λ n. has_written one.client n number patch world.past ≡ true) (sym new.0)
    (⊎_elim (λ old. s.held_on at x old own file_id number patch is)
    (λ last. ⊎_elim (λ same. written file_id number patch (ap (λ (h : Held). h.request) (sym same) ∙ is))
    (λ none. absurd none) last) (among_append x (world.server.held at) (one ∷ []) new.1)))
    (among_put world.server.held at (world.server.held at ++ one ∷ []) place x a)) s

-- ---- steps of the client

stepped_writes : (world : World) (c : ℕ) (step : Step) → is_up (world.links c) ≡ true → (file number : ℕ)
    → writes_under_way (stepped_in world c step) c file number
    ≡ writes_under_way world c file number + writes number step.requests
stepped_writes world c step up file number = omega (
  arith,
  ap (λ (q : ℕ → List Request). writes number (q c))
      (stepped_requests world c step) ∙ ap (λ (q : List Request). writes number q) (put_same world.requests c _) ∙ ap
      (λ link. writes number (sent_over link (world.requests c) step.requests)) (up_link (world.links c) up)
      ∙ writes_append number
      (world.requests c) step.requests,
  ap (λ (s : Server). held_writes number (held_by c (s.held file))) (stepped_server world c step),
  ap (λ (r : ℕ → List Reply). settling number (r c)) (stepped_replies world c step),
)

stepped_once : (world : World) (c : ℕ) (step : Step) (answered : ℕ → ℕ) → is_up (world.links c) ≡ true
    → step.client.files ≡ (world.clients c).files → TellNumbers (world.clients c).last_number step.notes step.client.last_number
    → AddsUpWell c (world.clients c) world.past answered step → ((file number : ℕ) → knows_file (world.clients c) file ≡ true
    → IsOwnNumber c (world.clients c).last_number world.past file number → writes_under_way world c file number + answered number
    ≡ numbered_in number ((world.clients c).entries file).sent)
    → ((at : ℕ) (one : Held) → Among one (world.server.held at) → one.client ≡ c
    → (file_id number : ℕ) (patch : Patch) → one.request ≡ FileRequest.Write file_id number patch
    → has_written c at number patch world.past ≡ true) → IsSentOnce (stepped_in world c step) c
stepped_once world c step answered up files tells adds counts held = record {
  counts = λ file number known own.
      let machine = stepped_machine world c step in
      let after = subst (λ (m : Client). IsOwnNumber c m.last_number (past_noted c world.past step.notes) file number)
      machine (subst (λ past. IsOwnNumber c ((stepped_in world c step).clients c).last_number past file number)
      (stepped_past world c step) own) in
      let was = own_before c (world.clients c).last_number step.client.last_number world.past step.notes tells file
      number after in
      let knows = sym (ap (λ n. knows_file (record (world.clients c) { files = n }) file) files)
      ∙ subst (λ (m : Client). knows_file m file ≡ true) machine known in
      (omega (
        arith,
        stepped_writes world c step up file number,
        counts file number knows was,
        (adds file number knows was after).sum,
      )) ∙ ap (λ (m : Client). numbered_in number (m.entries file).sent) (sym machine);
  held_on = λ at one a own file_id number patch is.
      subst (λ past. has_written c at number patch past ≡ true) (sym (stepped_past world c step))
      ((later_noted c world.past step.notes).written c at number patch
      (held at one (subst (λ (s : Server). Among one (s.held at)) (stepped_server world c step) a) own file_id number patch is));
}

command_once : (world : World) (c : ℕ) (command : Command) → is_up (world.links c) ≡ true → Ground world
    → IsKnownBy c (world.clients c) world.past → IsSentOnce world c
    → IsSentOnce (stepped_in world c (commanded (world.clients c) command)) c
command_once world c command up g k s = stepped_once world c (commanded (world.clients c) command) no_answers up
    (commanded-stays (world.clients c) command).files
    (called_tells (world.clients c) (ClientCall.Commanded command) (g.clients c))
    (any_command (world.clients c) (AddsUpWell c (world.clients c) world.past no_answers)
    (commands_add c (world.clients c) world.past k) command)
    (λ file number known own. (omega arith) ∙ s.counts file number known own) s.held_on

pub known_took : (c : ℕ) (client : Client) (past : List Fact) → IsKnownBy c client past → IsKnownBy c client (Fact.Took c ∷ past)
unfolding has_written has_number
known_took c client past k = record {
  once = k.once;
  names = λ file. entry_later c file past (Fact.Took c ∷ past) (later_fact past (Fact.Took c)) (client.entries file)
      (k.names file);
  low = k.low;
}

took_own : (c last : ℕ) (past : List Fact) (file number : ℕ) → IsOwnNumber c last (Fact.Took c ∷ past) file number
    → IsOwnNumber c last past file number
unfolding has_written
took_own c last past file number own = own

took_written : (c file number : ℕ) (patch : Patch) (past : List Fact) → has_written c file number patch past ≡ true
    → has_written c file number patch (Fact.Took c ∷ past) ≡ true
unfolding has_written
took_written c file number patch past e = e

take_once : (world : World) (c : ℕ) (reply : Reply) (queue : List Reply) → is_up (world.links c) ≡ true → Ground world
    → world.replies c ≡ reply ∷ queue → IsKnownBy c (world.clients c) world.past → IsSentOnce world c
    → IsSentOnce (reply_taken world c reply queue) c
take_once world c reply queue up g first k s =
    let gone = reply_gone world c queue in
    let machine = world.clients c in
    let sum : (file number : ℕ) → knows_file machine file ≡ true → IsOwnNumber c machine.last_number gone.past file number
    → writes_under_way gone c file number + settles_of number reply
    ≡ numbered_in number (machine.entries file).sent = λ file number known own. (omega (
      arith,
      ap (λ (q : List Reply). settling number q) (put_same world.replies c queue),
      ap
          (λ (q : List Reply). settling number q) first,
      s.counts file number known (took_own c machine.last_number world.past file number own),
    )) in
    stepped_once gone c (taken machine reply) (λ number. settles_of number reply) up
    (taken-stays machine reply).files (called_tells machine (ClientCall.Taken reply) (g.clients c))
    (any_reply machine (AddsUpTaken c machine gone.past) (takes_add c machine gone.past (known_took c machine world.past k))
    reply (λ file number known own. omega (arith, sum file number known own))) sum
    (λ at one a own file_id number patch is. took_written c at number patch world.past
    (s.held_on at one a own file_id number patch is))

-- ---- connections

away_sent : (online : Bool) (entry : Entry) → online ≡ false → IsSoundEntry online entry → entry.sent ≡ []
away_sent online entry off sound = by_phase entry.phase refl
  where
    by_phase : (phase : Phase) → entry.phase ≡ phase → entry.sent ≡ []
    by_phase Phase.Closed is = (subst (λ p. IsSoundPhase online entry.sent p) is sound) off
    by_phase (Phase.Opening access share) is = clash online (subst (λ p. IsSoundPhase online entry.sent p) is sound) off
    by_phase (Phase.Offline parted) is = (subst (λ p. IsSoundPhase online entry.sent p) is sound).1
    by_phase phase is = clash online (subst (λ p. IsSoundPhase online entry.sent p) is sound).0 off

connect_none : (client : Client) (number file : ℕ) (sent : List Pending) (phase : Phase)
    → writes number (connect_turn client file sent phase).requests ≡ 0
connect_none client number file sent Phase.Closed = refl
connect_none client number file sent (Phase.Opening access share) = refl
connect_none client number file sent (Phase.Live live) = refl
connect_none client number file sent (Phase.Offline parted) = omega arith
connect_none client number file sent (Phase.Reconnecting parted) = refl

all_none : (number : ℕ) (turn : ℕ → List Request) (files : List ℕ) → ((f : ℕ) → writes number (turn f) ≡ 0)
    → writes number (flat_map turn files) ≡ 0
all_none number turn [] none = refl
all_none number turn (file ∷ files) none = writes_append number (turn file) (flat_map turn files)
    ∙ ap₂ (λ a b. a + b) (none file) (all_none number turn files none) ∙ (omega arith)

connect_sent : (client : Client) (file : ℕ) (sent : List Pending) (phase : Phase)
    → (connect_turn client file sent phase).entry.sent ≡ sent
connect_sent client file sent Phase.Closed = refl
connect_sent client file sent phase = refl

pub connect_once : (world : World) (c : ℕ) → Ground world → world.links c ≡ Link.Down → IsSentOnce (connected world c) c
connect_once world c g down =
    let machine = world.clients c in
    let back = come_back world c in
    let step = connection_made machine in
    let is_off : is_up (world.links c) ≡ false = ap is_up down in
    let online : machine.is_online ≡ false = g.online c ∙ ap (λ l. not (is_down l)) down in record {
      counts = λ file number known own. (omega (
        arith,
        stepped_writes back c step (ap is_up (put_same world.links c Link.Up)) file number,
        ap (λ (q : List Request). writes number q) ((g.tied c).requests is_off),
        ap (λ (l : List Held). held_writes number l) (none_held world c g is_off file),
        ap
            (λ (q : List Reply). settling number q) ((g.tied c).replies is_off),
        all_none number
            (λ f. (connect_turn machine f (machine.entries f).sent (machine.entries f).phase).requests) (numbers_to machine.files)
            (λ f. connect_none machine number f (machine.entries f).sent (machine.entries f).phase),
      )) ∙ sym (ap (λ (m : Client). numbered_in number (m.entries file).sent) (stepped_machine back c step)
          ∙ ap (λ l. numbered_in number l) (connect_sent machine file (machine.entries file).sent (machine.entries file).phase
          ∙ away_sent machine.is_online (machine.entries file) online ((g.clients c).entries file)));
      held_on = λ at one a own. absurd (not_there one (subst (λ (l : List Held). Among one l) (none_held world c g is_off at)
          (among_filtered (λ h. h.client == c) one (world.server.held at)
          (subst (λ (s : Server). Among one (s.held at)) (stepped_server back c step) a) (eq-eqb one.client c own))));
    }
  where
    not_there : (one : Held) → Among one [] → ⊥
    not_there one a = a

-- ---- all moves

unmoved_once : (world new : World) (c : ℕ) → IsUnmoved world new c → IsSentOnce world c → IsSentOnce new c
unmoved_once world new c u s = same_once world new c u.machine u.spared.written
    (λ file number own.
    ap₂ (λ (q : List Request) (l : List Held). writes number q + held_writes number l + settling number (new.replies c))
    u.requests (u.held file) ∙ ap (λ (q : List Reply). writes number (world.requests c)
    + held_writes number (held_by c (world.server.held file)) + settling number q) u.replies)
    (λ at one a own file_id number patch is. s.held_on at one (among_filter (λ h. h.client == c) one (world.server.held at)
    (subst (λ (l : List Held). Among one l) (u.held at)
    (among_filtered (λ h. h.client == c) one (new.server.held at) a (eq-eqb one.client c own)))).0 own file_id number patch is) s

told_settles : (off : World) (c number : ℕ) (request : FileRequest) (reply : Reply) → IsToldOf off c request reply
    → settles_of number reply ≡ write_of number request
told_settles off c number request reply (IsToldOf.Refused asked status may) = refusal_settles number asked status
told_settles off c number request reply (IsToldOf.Full file access share ask) = refl
told_settles off c number request reply (IsToldOf.Read file_id one found may) = refl

pub once_moves : IsOwnMoved HasRecord IsUp IsSentOnce
unfolding has_written
once_moves = record {
  unmoved = λ world new c k u a. unmoved_once world new c u a;
  told = λ world off c request reply k source is a. answered_once world off (told_to off c reply) c request reply source
      (known_by world k.all c k.good) refl refl refl refl (λ f n p. refl) (λ n. told_settles off c n request reply is) a;
  granted = λ world off c file access share ask k source none on free a.
      let lease = lease_after off.server c file ask.lease in
      answered_once world off (granted_in off c file access share ask lease) c
      (FileRequest.Create file access share (Some ask)) (granted_reply off.server file ask lease) source
      (known_by world k.all c k.good) refl refl (lease_put_rest off.server c ask.lease (lease_after off.server c file ask.lease)
      (λ s. s.held ≡ off.server.held) (λ l. refl)) refl (λ f n p. refl) (λ n. refl) a;
  reconnected = λ world off c file access share ask file_id k source again on waits a.
      answered_once world off (reconnected_in off c file ask file_id) c (FileRequest.Create file access share (Some ask))
      (reconnected_reply off.server c file ask file_id) source (known_by world k.all c k.good) refl refl refl refl
      (λ f n p. refl) (λ n. refl) a;
  changed = λ world off c file_id number patch one k source found may a.
      answered_once world off (changed_in off c one.file file_id number patch) c
      (FileRequest.Write file_id number patch) (Reply.WriteDone file_id number) source
      (known_by world k.all c k.good) refl refl refl refl (λ f n p. refl) (λ n. refl) a;
  closed = λ world off c file_id one k source found a.
      answered_once world off (told_to (without_opens off (λ other. other.file_id == file_id)) c (Reply.Closed file_id)) c
      (FileRequest.Close file_id) (Reply.Closed file_id) source (known_by world k.all c k.good) refl refl refl refl
      (λ f n p. refl) (λ n. refl) a;
  ack_failed = λ world c given status k oldest why a. told_once world
      (told_to (popped world c) c (Reply.AckFailed status)) c (Reply.AckFailed status) refl
      (ack_off world c given oldest) refl refl (λ f n p. refl) (λ n. refl) a;
  ack_done = λ world c given lowered k oldest there breaks within a. told_once world
      (leased_in (popped world c) (key_of c given.key) (record { state = granted_form_of given.state; broken_to = None })
      (done_reply given)) c (done_reply given) refl
      (ack_off world c (Some given) oldest) refl refl (λ f n p. refl) (λ n. refl) a;
  hold = λ world file one k oldest may turn a. hold_once world file one oldest
      (asked_on world one.client file one.request (ground_of world k.all)
      (head_of (IsNamedRequest one.client (world.clients one.client).guid world.past) (world.requests one.client)
      oldest.queue (Request.OnFile one.request) oldest.is_first (names_of world k.all one.client k.good).requests) turn.0)
      (known_by world k.all one.client k.good) a;
  dropped = λ world c test k away a. same_once world (without_opens world test) c refl (λ f n p. refl)
      (λ f n own. refl) a.held_on a;
  lower = λ world key lowered k may light a. told_once world
      (leased_in world key (record { state = lowered; broken_to = None })
      (break_notice key (world.server.leases key).state lowered)) key.client
      (break_notice key (world.server.leases key).state lowered) refl (λ n. refl) refl refl
      (λ f n p. refl) (λ n. refl) a;
  begin = λ world key lowered k may heavy a. told_once world
      (leased_in world key (record { state = (world.server.leases key).state; broken_to = Some lowered })
      (break_notice key (world.server.leases key).state lowered)) key.client
      (break_notice key (world.server.leases key).state lowered) refl (λ n. refl) refl refl
      (λ f n p. refl) (λ n. refl) a;
  timer = λ world c file k on breaks a. same_once world (timed_out world c file) c refl (λ f n p. refl)
      (λ f n own. refl) a.held_on a;
  command = λ world c command k a.
      command_once world c command k.when (ground_of world k.all) (known_by world k.all c k.good) a;
  take = λ world c reply queue k first a.
      take_once world c reply queue k.when (ground_of world k.all) first (known_by world k.all c k.good) a;
}
