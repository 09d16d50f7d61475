-- What a client's step adds to the writes under way, and what it takes.
use Rattle.lease_laws.proofs.Words.{◌&&◌, ◌++◌, ◌+◌, ◌<◌, ◌==◌, ◌∙◌, ◌∷◌, ◌≡◌, ◌≢◌, ◌≤◌, ◌⊎◌, Among, Answer, Asked, Bool}
use Rattle.lease_laws.proofs.Words.{BreakNotice, Client, Entry, Fact, FileRequest, Held, List, LiveEntry, None, Note, Option}
use Rattle.lease_laws.proofs.Words.{Patch, Pending, Phase, Reply, Request, Some, State, Step, TellNumbers, Turn, World, ℕ, []}
use Rattle.lease_laws.proofs.Words.{⊎_elim, ap, ap₂, arith, belief_lowered, eqb-true, fact_of, false, file_where, flushed}
use Rattle.lease_laws.proofs.Words.{gives_up, has_sent, has_written, if◌then◌else◌, inl, inr, is_numbered, is_up, knows_file}
use Rattle.lease_laws.proofs.Words.{list_any, nat_le, next_write, put, quiet_step, refl, sent_without, subst, sym, true}
use Rattle.lease_laws.proofs.Words.{true≢false, turned, without_open, write_requests, wrote_step}
use Rattle.lease_model.specs.records.Past.{has_number}
use Rattle.lease_laws.proofs.client.Thin.{put_other, put_same}
use Rattle.lease_laws.proofs.client.cases.Commands.{HasCommands, sent_of}
use Rattle.lease_laws.proofs.client.cases.Files.{never_found}
use Rattle.lease_laws.proofs.client.cases.Replies.{HasTakes, PassesOver}
use Rattle.lease_laws.proofs.client.cases.Turns.{by_turn}
use Rattle.lease_laws.proofs.server.Lists.{and_parts, clash, either, not_true, or_true}
use Rattle.lease_laws.proofs.world.Links.{by_client}
use Rattle.lease_coherence.specs.Creates.{one_if}
use Rattle.lease_coherence.specs.Names.{Each, IsNamedPhase, WasWritten}
use Rattle.lease_coherence.proofs.moves.Shift.{append_none}
use Rattle.lease_coherence.proofs.names.Clients.{HasNames}
use Rattle.lease_coherence.proofs.records.Later.{past_noted}
use Rattle.lease_coherence.proofs.records.Once.{IsOneWrite, written_number}
use Rattle.lease_coherence.proofs.writes.Counts.{none_numbered, numbered_append, numbered_in, numbered_without, settles_of}
use Rattle.lease_coherence.proofs.writes.Counts.{writes, writes_append, writes_asked, writes_under_way}

-- what is known of a client by its record
pub record IsKnownBy (c : ℕ) (client : Client) (past : List Fact) : Type 0 where
  pub once : (file other number : ℕ) (patch bytes : Patch) → has_written c file number patch past ≡ true
      → has_written c other number bytes past ≡ true → IsOneWrite file other patch bytes
  pub names : HasNames c client past
  pub low : (number : ℕ) → has_number c number past ≡ true → number ≤ client.last_number

-- a number of a write on the file, or one that wasn't given yet
abbrev pub IsOwnNumber : ℕ → ℕ → List Fact → ℕ → ℕ → Type 0
IsOwnNumber c last past file number = ((patch : Patch) × (has_written c file number patch past ≡ true)) ⊎ (last < number)

-- ---- notes

-- the numbers of notes are new
noted_before : (c file number : ℕ) (patch : Patch) (last new : ℕ) (past : List Fact) (notes : List Note)
    → TellNumbers last notes new → number ≤ last → has_written c file number patch (past_noted c past notes) ≡ true
    → has_written c file number patch past ≡ true
unfolding has_written
noted_before c file number patch last new past [] tells low e = e
noted_before c file number patch last new past (Note.Settled n outcome ∷ notes) tells low e =
    noted_before c file number patch last new (fact_of c (Note.Settled n outcome) ∷ past) notes tells.1 low e
noted_before c file number patch last new past (Note.Wrote f n p buffered ∷ notes) tells low e = ⊎_elim
    (λ now. absurd (omega (
      arith,
      tells.0,
      low,
      eqb-true n number
          (and_parts (c == c && f == file) (n == number) (and_parts (c == c && f == file && n == number) _ now).0).1,
    )))
    (λ before. before) (or_true _ (has_written c file number patch past)
    (noted_before c file number patch n new (fact_of c (Note.Wrote f n p buffered) ∷ past) notes tells.1
    (omega (arith, low, tells.0)) e))
noted_before c file number patch last new past (Note.Believes f state ∷ notes) tells low e =
    noted_before c file number patch last new (fact_of c (Note.Believes f state) ∷ past) notes tells low e
noted_before c file number patch last new past (Note.CachedRead f bytes ∷ notes) tells low e =
    noted_before c file number patch last new (fact_of c (Note.CachedRead f bytes) ∷ past) notes tells low e

told_up : (last new : ℕ) (notes : List Note) → TellNumbers last notes new → last ≤ new
told_up last new [] tells = let t = tells in omega (arith, t)
told_up last new (Note.Settled n outcome ∷ notes) tells = told_up last new notes tells.1
told_up last new (Note.Wrote f n p buffered ∷ notes) tells =
    let h = tells.0 in let k = told_up n new notes tells.1 in omega (arith, h, k)
told_up last new (note ∷ notes) tells = told_up last new notes tells

pub own_before : (c last new : ℕ) (past : List Fact) (notes : List Note) → TellNumbers last notes new
    → (file number : ℕ) → IsOwnNumber c new (past_noted c past notes) file number → IsOwnNumber c last past file number
own_before c last new past notes tells file number own = ⊎_elim
    (λ w. either (nat_le number last)
    (λ low. inl (w.0, noted_before c file number w.0 last new past notes tells (is_low number last low) w.1))
    (λ above. inr (is_above number last above)))
    (λ more. inr (let h = told_up last new notes tells in omega (arith, h, more))) own
  where
    is_low : (a b : ℕ) → nat_le a b ≡ true → a ≤ b
    is_low a b e = grind arith

    is_above : (a b : ℕ) → nat_le a b ≡ false → b < a
    is_above a b e = grind arith

-- ---- writes of other files

-- a number of one file is none of another's writes
pub others_none : (c : ℕ) (client : Client) (past : List Fact) → IsKnownBy c client past → (file other number : ℕ)
    → other ≢ file → IsOwnNumber c client.last_number past other number → (pending : List Pending)
    → Each (WasWritten c file past) pending → numbered_in number pending ≡ 0
others_none c client past k file other number ne own [] each = refl
others_none c client past k file other number ne own (write ∷ pending) each =
    ap₂ (λ b n. one_if b + n) (not_true (write.number == number) (λ same. never (eqb-true write.number number same)))
    (others_none c client past k file other number ne own pending each.1) ∙ (omega arith)
  where
    never : write.number ≡ number → ⊥
    never same = ⊎_elim
        (λ w. ne (k.once other file number w.0 write.patch w.1
        (subst (λ n. has_written c file n write.patch past ≡ true) same each.0)).file_is)
        (λ more. above (k.low number (written_number c file number write.patch past
        (subst (λ n. has_written c file n write.patch past ≡ true) same each.0))) more) own
      where
        above : {a b : ℕ} → a ≤ b → b < a → ⊥
        above h l = omega (arith, h, l)

-- ---- steps

-- of each file that is known: what is sent and what was answered, against the step's requests
pub record AddsUp (client : Client) (answered : ℕ → ℕ) (step : Step) (file number : ℕ) : Type 0 where
  pub sum : numbered_in number (step.client.entries file).sent + answered number
      ≡ numbered_in number (client.entries file).sent + writes number step.requests

abbrev pub AddsUpWell : ℕ → Client → List Fact → (ℕ → ℕ) → Step → Type 0
AddsUpWell c client past answered step = (file number : ℕ) → knows_file client file ≡ true
    → IsOwnNumber c client.last_number past file number
    → IsOwnNumber c step.client.last_number (past_noted c past step.notes) file number → AddsUp client answered step file number

abbrev pub no_answers : ℕ → ℕ
no_answers number = 0

-- a turn
turned_adds : (c : ℕ) (client : Client) (past : List Fact) (answered : ℕ → ℕ) (file : ℕ) (turn : Turn)
    → ((number : ℕ) → IsOwnNumber c client.last_number past file number → numbered_in number turn.entry.sent + answered number
    ≡ numbered_in number (sent_of client file) + writes number turn.requests)
    → ((other number : ℕ) → other ≢ file → IsOwnNumber c client.last_number past other number
    → answered number ≡ writes number turn.requests) → AddsUpWell c client past answered (turned client file turn)
turned_adds c client past answered file turn here others =
    by_turn (AddsUpWell c client past answered) client file turn (λ other number known own after. record {
      sum = by_client (λ f. IsOwnNumber c client.last_number past f number
          → numbered_in number (put client.entries file turn.entry f).sent + answered number
          ≡ numbered_in number (client.entries f).sent + writes number turn.requests) file other
          (λ o. ap (λ (e : Entry). numbered_in number e.sent + answered number) (put_same client.entries file turn.entry)
          ∙ here number o)
          (λ ne apart o. ap₂ (λ (e : Entry) n. numbered_in number e.sent + n) (put_other client.entries file turn.entry other ne)
          (others other number ne o)) own;
    })

-- one that sends these writes, which were unsent
sends_adds : (c : ℕ) (client : Client) (past : List Fact) → IsKnownBy c client past → (file : ℕ) (turn : Turn)
    (pending : List Pending) → Each (WasWritten c file past) pending → turn.entry.sent ≡ sent_of client file ++ pending
    → ((number : ℕ) → writes number turn.requests ≡ numbered_in number pending)
    → AddsUpWell c client past no_answers (turned client file turn)
sends_adds c client past k file turn pending named sent asks = turned_adds c client past no_answers file turn
    (λ number own. omega (
      arith,
      ap (numbered_in number) sent ∙ numbered_append number (sent_of client file) pending,
      asks number,
    ))
    (λ other number ne own. sym (asks number ∙ others_none c client past k file other number ne own pending named))

-- one that sends none
idle_adds : (c : ℕ) (client : Client) (past : List Fact) → IsKnownBy c client past → (file : ℕ) (turn : Turn)
    → turn.entry.sent ≡ sent_of client file → ((number : ℕ) → writes number turn.requests ≡ 0)
    → AddsUpWell c client past no_answers (turned client file turn)
idle_adds c client past k file turn sent asks = sends_adds c client past k file turn [] tt
    (sent ∙ sym (append_none (sent_of client file))) asks

same_adds : (c : ℕ) (client : Client) (past : List Fact) (answer : Answer) (notes : List Note)
    → AddsUpWell c client past no_answers (record { client = client; answer = answer; requests = []; notes = notes })
same_adds c client past answer notes file number known own after = record { sum = refl }

-- the unsent writes of a live entry
unsent_named : (c : ℕ) (client : Client) (past : List Fact) → IsKnownBy c client past → (file : ℕ) (live : LiveEntry)
    → (client.entries file).phase ≡ Phase.Live live → Each (WasWritten c file past) live.unsent
unsent_named c client past k file live is =
    let n : IsNamedPhase c file past (Phase.Live live) = subst (IsNamedPhase c file past) is (k.names file).phase in n.1

-- writes, and behind them a Close
then_close : (number file_id id : ℕ) (pending : List Pending) (more : List Request) → writes number more ≡ 0
    → writes number (write_requests file_id pending ++ Request.OnFile (FileRequest.Close id) ∷ more) ≡ numbered_in number pending
then_close number file_id id pending more none =
    writes_append number (write_requests file_id pending) _ ∙ (omega (arith, writes_asked number file_id pending, none))

-- a write is given: its number is new
wrote_adds : (c : ℕ) (client : Client) (past : List Fact) → IsKnownBy c client past → (file : ℕ) (entry : Entry)
    (answer : Answer) (requests : List Request) (write : Pending) (patch : Patch) (more : List Pending)
    → write.number ≡ client.last_number + 1 → entry.sent ≡ sent_of client file ++ more
    → ((number : ℕ) → writes number requests ≡ numbered_in number more)
    → ((number : ℕ) → number ≢ write.number → numbered_in number more ≡ 0)
    → AddsUpWell c client past no_answers (wrote_step client file entry answer requests write)
unfolding has_written
wrote_adds c client past k file entry answer requests write patch more new sent asks only other number known own after =
    record {
      sum = by_client (λ f. IsOwnNumber c (client.last_number + 1)
          (Fact.Wrote c file write.number write.patch write.buffered ∷ past) f number
          → numbered_in number (put client.entries file entry f).sent + 0
          ≡ numbered_in number (client.entries f).sent + writes number requests) file other
          (λ a. ap (λ (e : Entry). numbered_in number e.sent + 0) (put_same client.entries file entry)
          ∙ (omega (arith, ap (numbered_in number) sent ∙ numbered_append number (sent_of client file) more, asks number)))
          (λ ne apart a. ap (λ (e : Entry). numbered_in number e.sent + 0) (put_other client.entries file entry other ne)
          ∙ ap (λ n. numbered_in number (client.entries other).sent + n)
          (sym (asks number ∙ only number (λ same. not_own apart same a)))) after;
    }
  where
    not_own : (file == other) ≡ false → number ≡ write.number → IsOwnNumber c (client.last_number + 1)
        (Fact.Wrote c file write.number write.patch write.buffered ∷ past) other number → ⊥
    not_own apart same own = ⊎_elim
        (λ w. ⊎_elim
        (λ now. clash (file == other)
        (and_parts (c == c) (file == other) (and_parts (c == c && file == other) (write.number == number)
        (and_parts (c == c && file == other && write.number == number) _ now).0).0).1 apart)
        (λ before. used number client.last_number write.number same new
        (k.low number (written_number c other number w.0 past before))) (or_true _ (has_written c other number w.0 past) w.1))
        (λ above. more_than number client.last_number write.number same new above) own
      where
        used : (n l w : ℕ) → n ≡ w → w ≡ l + 1 → n ≤ l → ⊥
        used n l w e f h = omega (arith, e, f, h)

        more_than : (n l w : ℕ) → n ≡ w → w ≡ l + 1 → l + 1 < n → ⊥
        more_than n l w e f h = omega (arith, e, f, h)

pub commands_add : (c : ℕ) (client : Client) (past : List Fact) → IsKnownBy c client past
    → HasCommands client (AddsUpWell c client past no_answers)
commands_add c client past k = record {
  refused = λ refusal. same_adds c client past (Answer.Refused refusal) [];
  opening = λ file terms is on. idle_adds c client past k file _ refl (λ n. zeros);
  added = λ file live is. idle_adds c client past k file _ refl (λ n. refl);
  asked = λ file live terms is idle some. idle_adds c client past k file _ refl (λ n. zeros);
  anew = λ file live terms is idle none. sends_adds c client past k file _ live.unsent
      (unsent_named c client past k file live is.is_so) refl
      (λ n. then_close n live.file_id live.file_id live.unsent _ zeros);
  fewer = λ file live is more. idle_adds c client past k file _ refl (λ n. refl);
  parked = λ file live is idle done stays. idle_adds c client past k file _ refl (λ n. refl);
  closed = λ file live is idle done goes. sends_adds c client past k file _ live.unsent
      (unsent_named c client past k file live is.is_so) refl
      (λ n. then_close n live.file_id live.file_id live.unsent [] refl);
  cached = λ file live base is reads has. same_adds c client past _ _;
  read = λ file live is idle. idle_adds c client past k file _ refl (λ n. zeros);
  buffered = λ file live patch is fits caches. wrote_adds c client past k file _ Answer.Done []
      (next_write client patch true) patch [] refl (sym (append_none (sent_of client file))) (λ n. refl) (λ n ne. refl);
  written = λ file live patch is fits sends. wrote_adds c client past k file _ Answer.Waiting
      (Request.OnFile (FileRequest.Write live.file_id (client.last_number + 1) patch) ∷ [])
      (next_write client patch false) patch (next_write client patch false ∷ []) refl refl (λ n. refl)
      (λ n ne. one_other (client.last_number + 1) n (λ e. ne (sym e)));
  flushed = λ file live is. sends_adds c client past k file _ live.unsent
      (unsent_named c client past k file live is.is_so) refl (λ n. writes_asked n live.file_id live.unsent);
}
  where
    zeros : 0 + 0 ≡ 0
    zeros = omega arith

    one_other : (a n : ℕ) → a ≢ n → one_if (a == n) + 0 ≡ 0
    one_other a n ne = ap (λ b. one_if b + 0) (not_true (a == n) (λ e. ne (eqb-true a n e))) ∙ zeros

-- ---- replies

abbrev pub AddsUpTaken : ℕ → Client → List Fact → Reply → Step → Type 0
AddsUpTaken c client past reply step =
    ((file number : ℕ) → knows_file client file ≡ true → IsOwnNumber c client.last_number past file number
    → settles_of number reply ≤ numbered_in number (client.entries file).sent)
    → AddsUpWell c client past (λ number. settles_of number reply) step

-- the number that was answered is found where it was sent
found_adds : (c : ℕ) (client : Client) (past : List Fact) → IsKnownBy c client past → (file used : ℕ) (turn : Turn)
    → has_sent client used file ≡ true → turn.entry.sent ≡ sent_without used (sent_of client file) → turn.requests ≡ []
    → AddsUpWell c client past (λ number. one_if (used == number)) (turned client file turn)
found_adds c client past k file used turn at sent none = turned_adds c client past (λ number. one_if (used == number)) file turn
    (λ number own. ap (λ l. numbered_in number l + one_if (used == number)) sent
    ∙ numbered_without number used (sent_of client file) at
    ∙ (omega arith) ∙ ap (λ q. numbered_in number (sent_of client file) + writes number q) (sym none))
    (λ other number ne own. zero_else (used == number) (λ same. ne_used number (eqb-true used number same) other ne own)
    ∙ ap (λ q. writes number q) (sym none))
  where
    zero_else : (b : Bool) → (b ≡ true → ⊥) → one_if b ≡ 0
    zero_else true never = absurd (never refl)
    zero_else false never = refl

    some : (pending : List Pending) → list_any (is_numbered used) pending ≡ true → numbered_in used pending ≡ 0 → ⊥
    some [] has zero = true≢false (sym has)
    some (write ∷ pending) has zero = ⊎_elim
        (λ here. one_more (numbered_in used pending) (ap (λ b. one_if b + numbered_in used pending) (sym here) ∙ zero))
        (λ later. some pending later (less (one_if (write.number == used)) (numbered_in used pending) zero))
        (or_true (write.number == used) (list_any (is_numbered used) pending) has)
      where
        one_more : (n : ℕ) → 1 + n ≡ 0 → ⊥
        one_more n e = omega (arith, e)

        less : (a n : ℕ) → a + n ≡ 0 → n ≡ 0
        less a n e = omega (arith, e)

    ne_used : (number : ℕ) → used ≡ number → (other : ℕ) → other ≢ file → IsOwnNumber c client.last_number past other number → ⊥
    ne_used number same other ne own = some (sent_of client file) at (others_none c client past k file other used ne
        (subst (λ n. IsOwnNumber c client.last_number past other n) (sym same) own) (sent_of client file) (k.names file).sent)

-- a reply that is passed over answers no write that was sent
passed_adds : (c : ℕ) (client : Client) (past : List Fact) (reply : Reply) → PassesOver client reply
    → AddsUpTaken c client past reply (quiet_step client)
passed_adds c client past reply why low file number known own after = record {
  sum = ap (λ n. numbered_in number (client.entries file).sent + n) (none reply why (low file number known own));
}
  where
    not_sent : (used : ℕ) → file_where client (has_sent client used) ≡ None → used ≡ number
        → numbered_in number (client.entries file).sent ≡ 0
    not_sent used absent same = none_numbered number (client.entries file).sent
        (subst (λ n. list_any (is_numbered n) (client.entries file).sent ≡ false) same
        (not_true (has_sent client used file) (λ has. clash (has_sent client used file) has
        (never_found client (has_sent client used) file known absent))))

    settle : (used : ℕ) → file_where client (has_sent client used) ≡ None
        → one_if (used == number) ≤ numbered_in number (client.entries file).sent → one_if (used == number) ≡ 0
    settle used absent h = either (used == number)
        (λ same. omega (arith, not_sent used absent (eqb-true used number same), h))
        (λ other. ap one_if other)

    none : (r : Reply) → PassesOver client r → settles_of number r ≤ numbered_in number (client.entries file).sent
        → settles_of number r ≡ 0
    none (Reply.WriteDone id used) w h = settle used w h
    none (Reply.WriteFailed id used status) w h = settle used w h
    none reply w h = refl

lowered_adds : (c : ℕ) (client : Client) (past : List Fact) → IsKnownBy c client past → (file : ℕ) (notice : BreakNotice)
    (live : LiveEntry) (new : State) → (client.entries file).phase ≡ Phase.Live live
    → AddsUpWell c client past no_answers (turned client file (belief_lowered live (sent_of client file) notice new))
lowered_adds c client past k file notice live new is = sends_adds c client past k file _ (flushed live.belief new live.unsent)
    (some_named (gives_up live.belief new)) refl
    (λ n. writes_append n (write_requests live.file_id (flushed live.belief new live.unsent)) _
    ∙ (omega (arith, writes_asked n live.file_id (flushed live.belief new live.unsent), ack_none n notice.ack_required)))
  where
    some_named : (b : Bool) → Each (WasWritten c file past) (if b then live.unsent else [])
    some_named true = unsent_named c client past k file live is
    some_named false = tt

    ack_none : (n : ℕ) (b : Bool)
        → writes n (if b then Request.Acknowledge (Some (record { key = notice.key; state = new })) ∷ [] else []) ≡ 0
    ack_none n true = refl
    ack_none n false = refl

gone_sent : (asking : Option Asked) (sent : List Pending) → (without_open asking sent).sent ≡ sent
gone_sent None sent = refl
gone_sent (Some asked) sent = refl

pub takes_add : (c : ℕ) (client : Client) (past : List Fact) → IsKnownBy c client past
    → HasTakes client (AddsUpTaken c client past)
takes_add c client past k = record {
  passed = λ reply why. passed_adds c client past reply why;
  parked_closes = λ file notice live at is parked low. sends_adds c client past k file _ live.unsent
      (unsent_named c client past k file live is) refl
      (λ n. then_close n live.file_id live.file_id live.unsent [] refl);
  lowered = λ file notice live at is stays low. lowered_adds c client past k file notice live _ is;
  opened = λ file file_id answer access share is low. idle_adds c client past k file _ refl (λ n. refl);
  reconnected = λ file file_id answer parted is low. idle_adds c client past k file _ refl (λ n. refl);
  promoted = λ file file_id answer live asked is asks low. idle_adds c client past k file _ refl (λ n. omega arith);
  not_opened = λ file status access share is low. idle_adds c client past k file _ refl (λ n. refl);
  not_reconnected = λ file status parted is low. idle_adds c client past k file _ refl (λ n. refl);
  not_promoted = λ file status live asked is asks low. idle_adds c client past k file _ refl (λ n. refl);
  read = λ file file_id bytes live is id some low. idle_adds c client past k file _ refl (λ n. refl);
  read_closed = λ file file_id status live is id gone low. idle_adds c client past k file _
      (gone_sent live.asking (sent_of client file)) (λ n. refl);
  not_read = λ file file_id status live is id some low. idle_adds c client past k file _ refl (λ n. refl);
  written = λ file file_id number at known low. found_adds c client past k file number _ at refl refl;
  write_closed = λ file file_id number status live at known is id gone low. found_adds c client past k file number _ at
      (gone_sent live.asking (sent_without number (sent_of client file))) refl;
  not_written = λ file file_id number status at known low. found_adds c client past k file number _ at refl refl;
}

-- ---- the layer

pub record IsSentOnce (world : World) (c : ℕ) : Type 0 where
  pub counts : (file number : ℕ) → knows_file (world.clients c) file ≡ true
      → IsOwnNumber c (world.clients c).last_number world.past file number
      → writes_under_way world c file number ≡ numbered_in number ((world.clients c).entries file).sent
  pub held_on : (at : ℕ) (one : Held) → Among one (world.server.held at) → one.client ≡ c
      → (file_id number : ℕ) (patch : Patch) → one.request ≡ FileRequest.Write file_id number patch
      → has_written c at number patch world.past ≡ true

abbrev pub IsUpSentOnce : World → ℕ → Type 0
IsUpSentOnce world c = is_up (world.links c) ≡ true → IsSentOnce world c
