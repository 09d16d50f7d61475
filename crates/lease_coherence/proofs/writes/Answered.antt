-- What is known of a client's writes before they are followed, and that a request that is answered leaves each sent write once.
use Rattle.lease_laws.proofs.Words.{◌++◌, ◌+◌, ◌<◌, ◌==◌, ◌∙◌, ◌∷◌, ◌≡◌, ◌≢◌, ◌≤◌, Among, Client, FileRequest, Held, LeaseOf}
use Rattle.lease_laws.proofs.Words.{List, Option, Patch, Reply, Request, World, ℕ, [], ⊎_elim, ap, arith, eq-eqb, eqb-true}
use Rattle.lease_laws.proofs.Words.{false, has_strayed, has_written, held_of, inl, inr, knows_file, put, refl, subst, sym, true}
use Rattle.lease_laws.proofs.client.Thin.{put_other, put_same}
use Rattle.lease_laws.proofs.server.Lists.{among_behind, clash, either, not_true}
use Rattle.lease_laws.proofs.server.PassWaits.{among_more}
use Rattle.lease_coherence.specs.Creates.{held_by, one_if}
use Rattle.lease_coherence.specs.Names.{IsNamedAt}
use Rattle.lease_coherence.proofs.creates.Creates.{off_rest}
use Rattle.lease_coherence.proofs.layers.Layers.{HasRecord}
use Rattle.lease_coherence.proofs.moves.Deeds.{HasArrived, IsSource, WasHeld, with_held}
use Rattle.lease_coherence.proofs.moves.Events.{Ground}
use Rattle.lease_coherence.proofs.moves.Ground.{among_put}
use Rattle.lease_coherence.proofs.moves.Moves.{IsOldest, popped, rest_of}
use Rattle.lease_coherence.proofs.records.Once.{written_number, written_once}
use Rattle.lease_coherence.proofs.writes.Counts.{held_writes, held_writes_among, numbered_in, settles_of, settling}
use Rattle.lease_coherence.proofs.writes.Counts.{settling_last, write_of, writes, writes_left, writes_under_way}
use Rattle.lease_coherence.proofs.writes.Steps.{IsKnownBy, IsOwnNumber, IsSentOnce}

-- ---- what is known so far, with records that are well formed

pub ground_of : (world : World) → HasRecord world → Ground world
ground_of world v = v.layers.ground

pub names_of : (world : World) → HasRecord world → (c : ℕ) → has_strayed c world.past ≡ false → IsNamedAt world c
names_of world v c good = v.layers.named c good

-- a client by the record
pub known_by : (world : World) → HasRecord world → (c : ℕ)
    → has_strayed c world.past ≡ false → IsKnownBy c (world.clients c) world.past
known_by world v c good = record {
  once = λ file other number patch bytes. written_once c file other number patch bytes world.past v.well.facts;
  names = (names_of world v c good).entries;
  low = v.well.numbers c;
}

-- ---- requests that are answered

-- a write of another file doesn't count
abbrev pub CountsOf : World → ℕ → ℕ → ℕ → FileRequest → Type 0
CountsOf world c file number request = (at : ℕ) (file_id used : ℕ) (patch : Patch)
    → request ≡ FileRequest.Write file_id used patch → has_written c at used patch world.past ≡ true
    → at ≢ file → (used == number) ≡ false

pub own_counts : (world : World) (c : ℕ) → IsKnownBy c (world.clients c) world.past → (file number : ℕ)
    → IsOwnNumber c (world.clients c).last_number world.past file number → (request : FileRequest)
    → CountsOf world c file number request
own_counts world c k file number own request at file_id used patch is written ne =
    not_true (used == number) (λ same. never (eqb-true used number same))
  where
    never : used ≡ number → ⊥
    never same =
        let mine = subst (λ n. has_written c at n patch world.past ≡ true) same written in ⊎_elim
        (λ w. ne (k.once at file number patch w.0 mine w.1).file_is)
        (λ more. above (k.low number (written_number c at number patch world.past mine)) more) own
      where
        above : {a b : ℕ} → a ≤ b → b < a → ⊥
        above h l = omega (arith, h, l)

pub first_off : (number : ℕ) (queue rest : List Request) (request : FileRequest) → queue ≡ Request.OnFile request ∷ rest
    → writes number queue ≡ write_of number request + writes number (rest_of queue)
first_off number queue rest request e =
    subst (λ q. writes number q ≡ write_of number request + writes number (rest_of q)) (sym e) refl

-- a request that counts nothing for the file
pub not_counted : (world : World) (c file number : ℕ) (request : FileRequest) → CountsOf world c file number request
    → (at : ℕ) → at ≢ file → ((file_id used : ℕ) (patch : Patch) → request ≡ FileRequest.Write file_id used patch
    → has_written c at used patch world.past ≡ true) → write_of number request ≡ 0
not_counted world c file number (FileRequest.Write file_id used patch) counts at ne written =
    ap one_if (counts at file_id used patch refl (written file_id used patch refl) ne)
not_counted world c file number request counts at ne written = refl

pub source_left : (world off : World) (c : ℕ) (request : FileRequest) → IsSource world off c request → IsSentOnce world c
    → (file number : ℕ) → CountsOf world c file number request
    → writes_left world c file number ≡ write_of number request + writes_left off c file number
source_left world off c request source s file number counts = ⊎_elim
    (λ a. subst (λ (o : World). writes_left world c file number ≡ write_of number request + writes_left o c file number)
    (sym a.is_off) (arrived_left a))
    (λ h. subst (λ (o : World). writes_left world c file number ≡ write_of number request + writes_left o c file number)
    (sym h.is_off) (held_left_over h)) source.from
  where
    arrived_left : HasArrived world off c request
        → writes_left world c file number ≡ write_of number request + writes_left (popped world c) c file number
    arrived_left a = omega (
      arith,
      first_off number (world.requests c) a.oldest.queue request a.oldest.is_first ∙ ap
          (λ (q : List Request). write_of number request + writes number q)
          (sym (put_same world.requests c (rest_of (world.requests c)))),
    )

    held_left_over : (h : WasHeld world off c request) → writes_left world c file number
        ≡ write_of number request + writes_left (with_held world h.file (h.before ++ h.behind)) c file number
    held_left_over h = either (file == h.file)
        (λ here. let same = eqb-true file h.file here in
        (omega (
          arith,
          ap (λ n. held_writes number (held_by c (world.server.held n))) same ∙ ap
              (λ (l : List Held). held_writes number (held_by c l)) h.held ∙ held_writes_among number c h.before h.behind
              (held_of c request h.lane) (eq-eqb c c refl) ∙ ap (λ (l : List Held). write_of number request + held_writes number
              (held_by c l))
              (sym (put_same world.server.held h.file (h.before ++ h.behind))) ∙ ap
              (λ n. write_of number request + held_writes number
              (held_by c (put world.server.held h.file (h.before ++ h.behind) n)))
              (sym same),
        )))
        (λ there. let ne : file ≢ h.file = λ e. clash (file == h.file) (eq-eqb file h.file e) there in
        (omega (
          arith,
          not_counted world c file number request counts h.file (λ e. ne (sym e))
              (λ file_id used patch is. s.held_on h.file (held_of c request h.lane)
              (subst (λ (l : List Held). Among (held_of c request h.lane) l) (sym h.held)
              (among_behind (held_of c request h.lane) h.before (held_of c request h.lane ∷ h.behind) (inl refl))) refl
              file_id used patch is),
          ap
              (λ (l : List Held). writes number (world.requests c) + held_writes number (held_by c l))
              (sym (put_other world.server.held h.file (h.before ++ h.behind) file ne)),
        )))

-- what was held on files, of the part from which a request was taken off
pub off_held_on : (world off : World) (c : ℕ) (request : FileRequest) → IsSource world off c request → IsSentOnce world c
    → (at : ℕ) (one : Held) → Among one (off.server.held at) → one.client ≡ c
    → (file_id number : ℕ) (patch : Patch) → one.request ≡ FileRequest.Write file_id number patch
    → has_written c at number patch world.past ≡ true
off_held_on world off c request source s at one a own file_id number patch is = ⊎_elim
    (λ x. s.held_on at one (subst (λ (o : World). Among one (o.server.held at)) x.is_off a) own file_id number patch is)
    (λ h. ⊎_elim (λ old. s.held_on at one old own file_id number patch is)
    (λ left. subst (λ n. has_written c n number patch world.past ≡ true) (sym left.0)
    (s.held_on h.file one (subst (λ (l : List Held). Among one l) (sym h.held)
    (among_more one (held_of c request h.lane) h.before h.behind left.1)) own file_id number patch is))
    (among_put world.server.held h.file (h.before ++ h.behind) at one
    (subst (λ (o : World). Among one (o.server.held at)) h.is_off a))) source.from

-- the same queues, with these writes given so far
pub same_once : (world new : World) (c : ℕ) → new.clients c ≡ world.clients c
    → ((file number : ℕ) (patch : Patch) → has_written c file number patch new.past ≡ has_written c file number patch world.past)
    → ((file number : ℕ) → IsOwnNumber c (world.clients c).last_number world.past file number
    → writes_under_way new c file number ≡ writes_under_way world c file number)
    → ((at : ℕ) (one : Held) → Among one (new.server.held at) → one.client ≡ c
    → (file_id number : ℕ) (patch : Patch) → one.request ≡ FileRequest.Write file_id number patch
    → has_written c at number patch world.past ≡ true) → IsSentOnce world c → IsSentOnce new c
same_once world new c machine written same held s = record {
  counts = λ file number known own.
      let was = own_was file number (subst (λ (m : Client). IsOwnNumber c m.last_number new.past file number) machine own) in
      same file number was ∙ s.counts file number (subst (λ (m : Client). knows_file m file ≡ true) machine known) was
      ∙ ap (λ (m : Client). numbered_in number (m.entries file).sent) (sym machine);
  held_on = λ at one a own file_id number patch is. written at number patch ∙ held at one a own file_id number patch is;
}
  where
    own_was : (file number : ℕ) → IsOwnNumber c (world.clients c).last_number new.past file number
        → IsOwnNumber c (world.clients c).last_number world.past file number
    own_was file number own = ⊎_elim (λ w. inl (w.0, sym (written file number w.0) ∙ w.1)) (λ more. inr more) own

-- a request is answered
pub answered_once : (world off new : World) (c : ℕ) (request : FileRequest) (reply : Reply) → IsSource world off c request
    → IsKnownBy c (world.clients c) world.past → new.clients ≡ off.clients → new.requests c ≡ off.requests c
    → new.server.held ≡ off.server.held → new.replies ≡ put off.replies c (off.replies c ++ reply ∷ [])
    → ((file number : ℕ) (patch : Patch) → has_written c file number patch new.past ≡ has_written c file number patch off.past)
    → ((number : ℕ) → settles_of number reply ≡ write_of number request) → IsSentOnce world c → IsSentOnce new c
answered_once world off new c request reply source k clients requests held replies written answers s =
    let rest = off_rest world off c request source in
    same_once world new c (ap (λ (t : ℕ → Client). t c) (clients ∙ rest.clients))
    (λ file number patch. written file number patch
    ∙ ap (λ past. has_written c file number patch past) (off_past world off c request source))
    (λ file number own. omega (
      arith,
      ap (λ (q : List Request). writes number q) requests,
      ap
          (λ (h : ℕ → List Held). held_writes number (held_by c (h file))) held,
      ap (λ (q : List Reply). settling number q)
          (ap (λ (r : ℕ → List Reply). r c) replies ∙ put_same off.replies c (off.replies c ++ reply ∷ []) ∙ ap
          (λ (r : ℕ → List Reply). r c ++ reply ∷ []) rest.replies) ∙ settling_last number
          (world.replies c) reply,
      answers number,
      source_left world off c request source s file number
          (own_counts world c k file number own request),
    ))
    (λ at one a own file_id number patch is. off_held_on world off c request source s at one
    (subst (λ (h : ℕ → List Held). Among one (h at)) held a) own file_id number patch is) s
  where
    off_past : (world off : World) (c : ℕ) (request : FileRequest) → IsSource world off c request → off.past ≡ world.past
    off_past world off c request source = ⊎_elim (λ a. ap (λ (o : World). o.past) a.is_off)
        (λ h. ap (λ (o : World). o.past) h.is_off) source.from

-- a reply that settles no write
pub told_once : (world new : World) (c : ℕ) (reply : Reply) → new.clients ≡ world.clients
    → ((number : ℕ) → writes number (new.requests c) ≡ writes number (world.requests c))
    → new.server.held ≡ world.server.held → new.replies ≡ put world.replies c (world.replies c ++ reply ∷ [])
    → ((file number : ℕ) (patch : Patch) → has_written c file number patch new.past ≡ has_written c file number patch world.past)
    → ((number : ℕ) → settles_of number reply ≡ 0) → IsSentOnce world c → IsSentOnce new c
told_once world new c reply clients requests held replies written none s =
    same_once world new c (ap (λ (t : ℕ → Client). t c) clients) written
    (λ file number own. omega (
      arith,
      requests number,
      ap (λ (h : ℕ → List Held). held_writes number
          (held_by c (h file))) held,
      ap (λ (r : ℕ → List Reply). settling number (r c)) replies ∙ ap
          (λ (q : List Reply). settling number q) (put_same world.replies c (world.replies c ++ reply ∷ []))
          ∙ settling_last number
          (world.replies c) reply,
      none number,
    ))
    (λ at one a own file_id number patch is. s.held_on at one (subst (λ (h : ℕ → List Held). Among one (h at)) held a) own
    file_id number patch is) s

-- an acknowledgment that leaves its queue is no write
pub ack_off : (world : World) (c : ℕ) (given : Option LeaseOf) → IsOldest world c (Request.Acknowledge given)
    → (number : ℕ) → writes number ((popped world c).requests c) ≡ writes number (world.requests c)
ack_off world c given oldest number =
    ap (λ (q : List Request). writes number q) (put_same world.requests c (rest_of (world.requests c)))
    ∙ subst (λ q. writes number (rest_of q) ≡ writes number q) (sym oldest.is_first) refl
