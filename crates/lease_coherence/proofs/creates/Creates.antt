-- While a client's link is up, a create of a file is under way exactly where its entry has asked for one.
use Rattle.lease_laws.proofs.Words.{◌&&◌, ◌++◌, ◌+◌, ◌==◌, ◌∙◌, ◌∷◌, ◌≡◌, ◌≢◌, Among, Bool, Client, CreateAsk, Entry, Err, Fact}
use Rattle.lease_laws.proofs.Words.{FileRequest, Held, IsAbout, IsInTurn, IsSoundEntry, IsSoundPhase, LeaseOf, Link, List}
use Rattle.lease_laws.proofs.Words.{LiveEntry, None, Ok, Option, Pending, Phase, Reply, Request, Result, Server, SmallStep}
use Rattle.lease_laws.proofs.Words.{Some, Status, Step, World, ℕ, [], ⊎_elim, ap, ap₂, arith, connect_turn, connection_made}
use Rattle.lease_laws.proofs.Words.{eq-eqb, eqb-true, false, file_asked, file_of_create, flat_map, flat_map-append}
use Rattle.lease_laws.proofs.Words.{has_file, held_of, if◌then◌else◌, inl, is_asking, is_down, is_up, knows_file, nat_le}
use Rattle.lease_laws.proofs.Words.{not, numbers_to, put, refl, sent_over, stepped_in, subst, suc, sym, taken, true, true≢false}
use Rattle.lease_laws.proofs.Words.{zero}
use Rattle.lease_laws.proofs.client.Thin.{put_other, put_same}
use Rattle.lease_laws.proofs.client.cases.Replies.{any_reply}
use Rattle.lease_laws.proofs.server.Lists.{among_behind, clash, either, not_true}
use Rattle.lease_laws.proofs.world.Links.{stepped_links}
use Rattle.lease_laws.proofs.world.Runs.{stepped_clients, stepped_server}
use Rattle.lease_coherence.proofs.names.NamedInRecord.{none_pass}
use Rattle.lease_coherence.specs.Creates.{IsCountedAt, answer_of, answers, asked_by, create_of, creates, has_asked, held_by}
use Rattle.lease_coherence.specs.Creates.{held_creates, one_if, under_way}
use Rattle.lease_coherence.specs.Names.{IsNamedReply}
use Rattle.lease_coherence.proofs.creates.Counts.{answers_last, creates_append, held_among}
use Rattle.lease_coherence.proofs.creates.Steps.{IsCountedStep, IsCountedTake, none_answered, takes_count}
use Rattle.lease_coherence.proofs.moves.Deeds.{HasArrived, IsSource, WasHeld, held_in, with_held}
use Rattle.lease_coherence.proofs.moves.Events.{Ground, come_back, connected, reply_gone, reply_taken}
use Rattle.lease_coherence.proofs.moves.Foreign.{IsUnmoved}
use Rattle.lease_coherence.proofs.moves.Frames.{stepped_replies, stepped_requests}
use Rattle.lease_coherence.proofs.moves.Moves.{IsOldest, popped, rest_of}
use Rattle.lease_coherence.proofs.moves.Shift.{append_none}

-- the same queues and the same entries
pub same_counts : (world new : World) (c : ℕ) → new.links c ≡ world.links c → new.clients c ≡ world.clients c
    → ((file : ℕ) → under_way new c file ≡ under_way world c file) → IsCountedAt world c → IsCountedAt new c
same_counts world new c links clients same a up file = same file ∙ a (ap is_up (sym links) ∙ up) file
    ∙ ap (λ (m : Client). asked_by m file) (sym clients)

-- ---- requests that are answered

ok_same : (asked : Result ℕ Status) (file at : ℕ) → asked ≡ Ok file → asked ≡ Ok at → file ≡ at
ok_same asked file at e f = cc

no_ok : (asked : Result ℕ Status) (status : Status) (at : ℕ) → asked ≡ Err status → asked ≡ Ok at → ⊥
no_ok asked status at e f = cc

asked_file : (server : Server) (file at : ℕ) (contexts : Option CreateAsk)
    → file_of_create server file contexts ≡ Ok at → file ≡ at
asked_file server file at None e = absurd (no_ok _ Status.InvalidParameter at refl e)
asked_file server file at (Some ask) e = either (has_file server file)
    (λ has. ok_same (file_of_create server file (Some ask)) file at (rw (has) refl) e)
    (λ none. absurd (no_ok (file_of_create server file (Some ask)) Status.ObjectNameNotFound at (rw (none) refl) e))

-- a request is taken off: so many creates are left
create_here : (server : Server) (at file : ℕ) (request : FileRequest) → IsAbout server at request → at ≢ file
    → create_of file request ≡ 0
create_here server at file (FileRequest.Create other access share contexts) about ne =
    ap one_if (not_true (other == file) (λ e. ne (sym about ∙ eqb-true other file e)))
create_here server at file request about ne = refl

abbrev pub left_over : World → ℕ → ℕ → ℕ
left_over world c file = creates file (world.requests c) + held_creates file (held_by c (world.server.held file))

first_off : (file : ℕ) (queue rest : List Request) (request : FileRequest) → queue ≡ Request.OnFile request ∷ rest
    → creates file queue ≡ create_of file request + creates file (rest_of queue)
first_off file queue rest request e = subst (λ q. creates file q ≡ create_of file request + creates file (rest_of q)) (sym e) refl

pub source_counts : (world off : World) (c : ℕ) (request : FileRequest) → Ground world → IsSource world off c request
    → (file : ℕ) → left_over world c file ≡ create_of file request + left_over off c file
source_counts world off c request g source file = ⊎_elim
    (λ a. subst (λ (o : World). left_over world c file ≡ create_of file request + left_over o c file) (sym a.is_off)
    (arrived_left a))
    (λ h. subst (λ (o : World). left_over world c file ≡ create_of file request + left_over o c file) (sym h.is_off)
    (held_left_over h)) source.from
  where
    arrived_left : HasArrived world off c request
        → left_over world c file ≡ create_of file request + left_over (popped world c) c file
    arrived_left a = omega (
      arith,
      first_off file (world.requests c) a.oldest.queue request a.oldest.is_first ∙ ap
          (λ (q : List Request). create_of file request + creates file q)
          (sym (put_same world.requests c (rest_of (world.requests c)))),
    )

    held_left_over : (h : WasHeld world off c request) → left_over world c file
        ≡ create_of file request + left_over (with_held world h.file (h.before ++ h.behind)) c file
    held_left_over h = either (file == h.file)
        (λ here. let same = eqb-true file h.file here in
        (omega (
          arith,
          ap (λ n. held_creates file (held_by c (world.server.held n))) same ∙ ap
              (λ (l : List Held). held_creates file (held_by c l)) h.held ∙ held_among file c h.before h.behind
              (held_of c request h.lane)
              (eq-eqb c c refl) ∙ ap (λ (l : List Held). create_of file request + held_creates file (held_by c l))
              (sym (put_same world.server.held h.file (h.before ++ h.behind))) ∙ ap
              (λ n. create_of file request + held_creates file
              (held_by c (put world.server.held h.file (h.before ++ h.behind) n)))
              (sym same),
        )))
        (λ there. let ne : file ≢ h.file = λ e. clash (file == h.file) (eq-eqb file h.file e) there in
        (omega (
          arith,
          create_here world.server h.file file request (g.fine.orderly.held_about h.file (held_of c request h.lane)
              (subst (λ (l : List Held). Among (held_of c request h.lane) l) (sym h.held)
              (among_behind (held_of c request h.lane) h.before (held_of c request h.lane ∷ h.behind) (inl refl))))
              (λ e. ne (sym e)),
          ap
              (λ (l : List Held). creates file (world.requests c) + held_creates file (held_by c l))
              (sym (put_other world.server.held h.file (h.before ++ h.behind) file ne)),
        )))

-- a request is answered
answered_at : (world off new : World) (c : ℕ) (request : FileRequest) (reply : Reply) → Ground world
    → IsSource world off c request → new.links ≡ world.links → new.clients ≡ world.clients
    → new.requests c ≡ off.requests c → new.server.held ≡ off.server.held → new.replies c ≡ world.replies c ++ reply ∷ []
    → ((file : ℕ) → answer_of file reply ≡ create_of file request) → IsCountedAt world c → IsCountedAt new c
answered_at world off new c request reply g source links clients requests held replies answers_it a =
    same_counts world new c (ap (λ (l : ℕ → Link). l c) links) (ap (λ (t : ℕ → Client). t c) clients)
    (λ file. omega (
      arith,
      ap (λ (q : List Request). creates file q) requests,
      ap
          (λ (h : ℕ → List Held). held_creates file (held_by c (h file))) held,
      ap (λ (q : List Reply). answers file q) replies
          ∙ answers_last file (world.replies c) reply,
      answers_it file,
      source_counts world off c request g source file,
    )) a

-- all but the server, the requests and the record is as it was before the request left
pub record IsSameRest (off world : World) : Type 0 where
  pub clients : off.clients ≡ world.clients
  pub links : off.links ≡ world.links
  pub replies : off.replies ≡ world.replies

pub off_rest : (world off : World) (client : ℕ) (request : FileRequest) → IsSource world off client request → IsSameRest off world
off_rest world off client request source = ⊎_elim
    (λ a. subst (λ o. IsSameRest o world) (sym a.is_off) (record { clients = refl; links = refl; replies = refl }))
    (λ h. subst (λ o. IsSameRest o world) (sym h.is_off) (record { clients = refl; links = refl; replies = refl })) source.from

-- a reply to it
pub replied_at : (world off new : World) (c : ℕ) (request : FileRequest) (reply : Reply) → Ground world
    → IsSource world off c request → new.links ≡ off.links → new.clients ≡ off.clients
    → new.requests c ≡ off.requests c → new.server.held ≡ off.server.held
    → new.replies ≡ put off.replies c (off.replies c ++ reply ∷ [])
    → ((file : ℕ) → answer_of file reply ≡ create_of file request) → IsCountedAt world c → IsCountedAt new c
replied_at world off new c request reply g source links clients requests held replies answers_it a =
    let rest = off_rest world off c request source in
    answered_at world off new c request reply g source (links ∙ rest.links) (clients ∙ rest.clients) requests held
    (ap (λ (r : ℕ → List Reply). r c) replies ∙ put_same off.replies c (off.replies c ++ reply ∷ [])
    ∙ ap (λ (r : ℕ → List Reply). r c ++ reply ∷ []) rest.replies) answers_it a

-- a reply that answers no create
pub told_at : (world new : World) (c : ℕ) (reply : Reply) → new.links ≡ world.links → new.clients ≡ world.clients
    → ((file : ℕ) → creates file (new.requests c) ≡ creates file (world.requests c))
    → new.server.held ≡ world.server.held → new.replies ≡ put world.replies c (world.replies c ++ reply ∷ [])
    → ((file : ℕ) → answer_of file reply ≡ 0) → IsCountedAt world c → IsCountedAt new c
told_at world new c reply links clients requests held replies none a =
    same_counts world new c (ap (λ (l : ℕ → Link). l c) links) (ap (λ (t : ℕ → Client). t c) clients)
    (λ file. omega (
      arith,
      requests file,
      ap (λ (h : ℕ → List Held). held_creates file (held_by c (h file))) held,
      ap
          (λ (r : ℕ → List Reply). answers file (r c)) replies ∙ ap (λ (q : List Reply). answers file q)
          (put_same world.replies c (world.replies c ++ reply ∷ [])) ∙ answers_last file (world.replies c) reply,
      none file,
    )) a

-- an acknowledgment that leaves its queue is no create
pub ack_off : (world : World) (c : ℕ) (given : Option LeaseOf) → IsOldest world c (Request.Acknowledge given) → (file : ℕ)
    → creates file ((popped world c).requests c) ≡ creates file (world.requests c)
ack_off world c given oldest file =
    ap (λ (q : List Request). creates file q) (put_same world.requests c (rest_of (world.requests c)))
    ∙ subst (λ q. creates file (rest_of q) ≡ creates file q) (sym oldest.is_first) refl

-- a request is held
pub hold_at : (world : World) (file : ℕ) (one : Held) → IsOldest world one.client (Request.OnFile one.request)
    → IsInTurn (SmallStep.Hold file one) world.server → IsCountedAt world one.client
    → IsCountedAt (held_in (popped world one.client) file one) one.client
hold_at world at one oldest turn a = same_counts world (held_in (popped world one.client) at one) one.client refl refl
    (λ file. either (file == at)
    (λ here. omega (
      arith,
      first_off file (world.requests one.client) oldest.queue one.request oldest.is_first,
      ap
          (λ (q : List Request). creates file q) (put_same world.requests one.client (rest_of (world.requests one.client))),
      ap
          (λ n. held_creates file (held_by one.client (put world.server.held at (world.server.held at ++ one ∷ []) n)))
          (eqb-true file at here) ∙ ap (λ (l : List Held). held_creates file (held_by one.client l))
          (put_same world.server.held at (world.server.held at ++ one ∷ [])) ∙ held_among file one.client (world.server.held at)
          [] one
          (eq-eqb one.client one.client refl) ∙ ap (λ (l : List Held). create_of file one.request + held_creates file
          (held_by one.client l)) (append_none (world.server.held at)) ∙ ap
          (λ n. create_of file one.request + held_creates file (held_by one.client (world.server.held n)))
          (sym (eqb-true file at here)),
    ))
    (λ there. let ne : file ≢ at = λ e. clash (file == at) (eq-eqb file at e) there in
    (omega (
      arith,
      first_off file (world.requests one.client) oldest.queue one.request oldest.is_first,
      not_its file one.request
          turn.0 ne,
      ap (λ (q : List Request). creates file q) (put_same world.requests one.client
          (rest_of (world.requests one.client))),
      ap (λ (l : List Held). held_creates file (held_by one.client l))
          (put_other world.server.held at (world.server.held at ++ one ∷ []) file ne),
    )))) a
  where
    not_its : (file : ℕ) (request : FileRequest) → file_asked world.server one.client request ≡ Ok at → file ≢ at
        → create_of file request ≡ 0
    not_its file (FileRequest.Create other access share contexts) e ne = ap one_if (not_true (other == file)
        (λ same. ne (sym (eqb-true other file same) ∙ asked_file world.server other at contexts e)))
    not_its file request e ne = refl

-- ---- steps of the client

pub up_link : (link : Link) → is_up link ≡ true → link ≡ Link.Up
up_link Link.Up e = refl
up_link link e = absurd (true≢false (sym e))

-- the queues of a client whose link is up, after a step of it
stepped_under_way : (world : World) (client : ℕ) (step : Step) → is_up (world.links client) ≡ true → (file : ℕ)
    → under_way (stepped_in world client step) client file ≡ under_way world client file + creates file step.requests
stepped_under_way world client step up file = omega (
  arith,
  ap (λ (q : ℕ → List Request). creates file (q client))
      (stepped_requests world client step) ∙ ap (λ (q : List Request). creates file q) (put_same world.requests client _) ∙ ap
      (λ link. creates file (sent_over link (world.requests client) step.requests)) (up_link (world.links client) up)
      ∙ creates_append file (world.requests client) step.requests,
  ap
      (λ (s : Server). held_creates file (held_by client (s.held file))) (stepped_server world client step),
  ap
      (λ (r : ℕ → List Reply). answers file (r client)) (stepped_replies world client step),
)

pub stepped_machine : (world : World) (client : ℕ) (step : Step) → (stepped_in world client step).clients client ≡ step.client
stepped_machine world client step =
    ap (λ (t : ℕ → Client). t client) (stepped_clients world client step) ∙ put_same world.clients client step.client

pub command_at : (world : World) (client : ℕ) (step : Step) → IsCountedStep (world.clients client) none_answered step
    → IsCountedAt world client → IsCountedAt (stepped_in world client step) client
command_at world client step counts a up file =
    let was = ap (λ (l : ℕ → Link). is_up (l client)) (sym (stepped_links world client step)) ∙ up in
    (omega (arith, stepped_under_way world client step was file, a was file, counts file))
    ∙ ap (λ (m : Client). asked_by m file) (sym (stepped_machine world client step))

-- a parked entry doesn't ask
parked_idle : (online : Bool) (entry : Entry) (live : LiveEntry) → IsSoundEntry online entry
    → entry.phase ≡ Phase.Live live → (live.handles == 0) ≡ true → is_asking live ≡ false
parked_idle online entry live sound is none =
    let s = subst (λ p. IsSoundPhase online entry.sent p) is sound in
    not_true (is_asking live) (λ asks. omega (arith, s.1.asking_with_handles asks, eqb-true live.handles 0 none))

pub take_at : (world : World) (client : ℕ) (reply : Reply) (queue : List Reply) → Ground world
    → world.replies client ≡ reply ∷ queue → IsNamedReply client (Fact.Took client ∷ world.past) reply
    → IsCountedAt world client → IsCountedAt (reply_taken world client reply queue) client
take_at world client reply queue g first named a up file =
    let machine = world.clients client in
    let gone = reply_gone world client queue in
    let step = taken machine reply in
    let was : is_up (world.links client) ≡ true =
    ap (λ (l : ℕ → Link). is_up (l client)) (sym (stepped_links gone client step)) ∙ up in
    let counts = any_reply machine (IsCountedTake client machine (Fact.Took client ∷ world.past))
    (takes_count client machine (Fact.Took client ∷ world.past)
    (λ f live is none. parked_idle machine.is_online (machine.entries f) live ((g.clients client).entries f) is none)) reply named
    (λ f. omega (arith, a was f, ap (λ (q : List Reply). answers f q) first)) in
    (omega (
      arith,
      stepped_under_way gone client step was file,
      ap (λ (q : List Reply). answers file q)
          (put_same world.replies client queue),
      a was file,
      ap (λ (q : List Reply). answers file q) first,
      counts file,
    ))
    ∙ ap (λ (m : Client). asked_by m file) (sym (stepped_machine gone client step))

-- ---- connections

-- the creates that one entry sends where its client connects
abbrev sends_again : Client → ℕ → ℕ
sends_again client file =
    one_if (has_asked (connect_turn client file (client.entries file).sent (client.entries file).phase).entry.phase)

neither : (b : Bool) → (n : ℕ) → n ≡ 0 → n ≡ (if b then 0 else 0)
neither true n e = e
neither false n e = e

one : (b : Bool) → one_if b + 0 ≡ (if b then 1 else 0)
one true = omega arith
one false = omega arith

connect_sends : (client : Client) (file other : ℕ) (sent : List Pending) (phase : Phase) → has_asked phase ≡ false
    → creates other (connect_turn client file sent phase).requests
    ≡ (if file == other then one_if (has_asked (connect_turn client file sent phase).entry.phase) else 0)
connect_sends client file other sent Phase.Closed idle = neither (file == other) 0 refl
connect_sends client file other sent (Phase.Live live) idle =
    neither (file == other) 0 refl ∙ ap (λ b. if file == other then one_if b else 0) (sym idle)
connect_sends client file other sent (Phase.Offline parted) idle = one (file == other)
connect_sends client file other sent phase never = absurd (true≢false never)

-- in files that are numbered, each sends once
all_send : (client : Client) (file : ℕ) → ((f : ℕ) → has_asked (client.entries f).phase ≡ false) → (count : ℕ)
    → creates file (flat_map (λ f. (connect_turn client f (client.entries f).sent (client.entries f).phase).requests)
    (numbers_to count)) ≡ (if nat_le 1 file && nat_le file count then sends_again client file else 0)
all_send client file idle zero = none (nat_le 1 file) (nat_le file 0) (low file)
  where
    none : (a b : Bool) → (a && b) ≡ false → 0 ≡ (if a && b then sends_again client file else 0)
    none a b e = sym (rw (e) refl)

    low : (n : ℕ) → (nat_le 1 n && nat_le n 0) ≡ false
    low n = grind arith
all_send client file idle (suc count) =
    let turn : ℕ → List Request = λ f. (connect_turn client f (client.entries f).sent (client.entries f).phase).requests in
    ap (creates file) (flat_map-append turn (numbers_to count) (suc count ∷ []))
    ∙ creates_append file (flat_map turn (numbers_to count)) (flat_map turn (suc count ∷ []))
    ∙ ap₂ (λ a b. a + b) (all_send client file idle count) (ap (creates file) (append_none (turn (suc count)))
    ∙ connect_sends client (suc count) file (client.entries (suc count)).sent (client.entries (suc count)).phase
    (idle (suc count))) ∙ either (suc count == file)
    (λ here. let e = eqb-true (suc count) file here in
    ap₂ (λ (a b : Bool). (if a then sends_again client file else 0)
    + (if b then sends_again client (suc count) else 0)) (below count file e) here
    ∙ ap (λ n. 0 + sends_again client n) e ∙ zero_plus (sends_again client file) ∙ sym (rw (within count file e) refl))
    (λ there. ap (λ (b : Bool). (if nat_le 1 file && nat_le file count then sends_again client file else 0)
    + (if b then sends_again client (suc count) else 0)) there
    ∙ plus_zero _ ∙ ap (λ (b : Bool). if b then sends_again client file else 0)
    (further count file (λ e. clash (suc count == file) (eq-eqb (suc count) file e) there)))
  where
    zero_plus : (n : ℕ) → 0 + n ≡ n
    zero_plus n = omega arith

    plus_zero : (n : ℕ) → n + 0 ≡ n
    plus_zero n = omega arith

    below : (m n : ℕ) → suc m ≡ n → (nat_le 1 n && nat_le n m) ≡ false
    below m n e = grind arith

    within : (m n : ℕ) → suc m ≡ n → (nat_le 1 n && nat_le n (suc m)) ≡ true
    within m n e = grind arith

    further : (m n : ℕ) → suc m ≢ n → (nat_le 1 n && nat_le n m) ≡ (nat_le 1 n && nat_le n (suc m))
    further m n ne = either (suc m == n) (λ e. absurd (ne (eqb-true (suc m) n e))) (λ e. grind arith)

-- of no client that is away is a request held
pub none_held : (world : World) (client : ℕ) → Ground world → is_up (world.links client) ≡ false → (file : ℕ)
    → held_by client (world.server.held file) ≡ []
none_held world client g down file = none_pass (λ one. one.client == client) (world.server.held file)
    (λ one a. not_true (one.client == client) (λ own. clash (world.server.present client)
    (subst (λ c. world.server.present c ≡ true) (eqb-true one.client client own) (g.fine.orderly.held_up file one a))
    ((g.tied client).present ∙ down)))

-- an entry of a client that isn't connected hasn't asked
pub away_idle : (online : Bool) (entry : Entry) → online ≡ false → IsSoundEntry online entry → has_asked entry.phase ≡ false
away_idle online entry off sound = by_phase entry.phase refl
  where
    by_phase : (phase : Phase) → entry.phase ≡ phase → has_asked entry.phase ≡ false
    by_phase (Phase.Opening access share) is = clash online (subst (λ p. IsSoundPhase online entry.sent p) is sound) off
    by_phase (Phase.Live live) is = clash online (subst (λ p. IsSoundPhase online entry.sent p) is sound).0 off
    by_phase (Phase.Reconnecting parted) is = clash online (subst (λ p. IsSoundPhase online entry.sent p) is sound).0 off
    by_phase phase is = ap has_asked is

unknown_idle : (client : Client) (file : ℕ) → (client.entries file).phase ≡ Phase.Closed → 0 ≡ sends_again client file
unknown_idle client file closed =
    ap (λ p. one_if (has_asked (connect_turn client file (client.entries file).sent p).entry.phase)) (sym closed)

pub connect_at : (world : World) (client : ℕ) → Ground world → world.links client ≡ Link.Down
    → IsCountedAt (connected world client) client
connect_at world client g down up file =
    let machine = world.clients client in
    let back = come_back world client in
    let step = connection_made machine in
    let is_off : is_up (world.links client) ≡ false = ap is_up down in
    let online : machine.is_online ≡ false = g.online client ∙ ap (λ l. not (is_down l)) down in
    let idle : (f : ℕ) → has_asked (machine.entries f).phase ≡ false =
    λ f. away_idle machine.is_online (machine.entries f) online ((g.clients client).entries f) in
    whole _ _ _ _ _ _ (stepped_under_way back client step (ap is_up (put_same world.links client Link.Up)) file)
    (ap (λ (q : List Request). creates file q) ((g.tied client).requests is_off))
    (ap (λ (l : List Held). held_creates file l) (none_held world client g is_off file))
    (ap (λ (q : List Reply). answers file q) ((g.tied client).replies is_off)) (all_send machine file idle machine.files)
    ∙ either (knows_file machine file)
    (λ known. rw (known) refl)
    (λ unknown. rw (unknown) (unknown_idle machine file ((g.clients client).in_files file unknown)))
    ∙ ap (λ (m : Client). asked_by m file) (sym (stepped_machine back client step))
  where
    whole : (u q h a n m : ℕ) → u ≡ q + h + a + n → q ≡ 0 → h ≡ 0 → a ≡ 0 → n ≡ m → u ≡ m
    whole u q h a n m e f i j k = omega (arith, e, f, i, j, k)

-- ---- all moves

pub unmoved_at : (world new : World) (c : ℕ) → IsUnmoved world new c → IsCountedAt world c → IsCountedAt new c
unmoved_at world new c u a = same_counts world new c u.link u.machine
    (λ file. ap₂ (λ (q : List Request) (l : List Held). creates file q + held_creates file l + answers file (new.replies c))
    u.requests (u.held file)
    ∙ ap (λ (q : List Reply). creates file (world.requests c) + held_creates file (held_by c (world.server.held file))
    + answers file q) u.replies) a
