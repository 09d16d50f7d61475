-- What a reply makes of a client: each of the forms, with what is known of it. Whatever holds of each form holds of
-- every reply.
use Rattle.lease_laws.proofs.Words.{◌&&◌, ◌==◌, ◌∷◌, ◌≡◌, ◌⊎◌, Access, Asked, Bool, BreakNotice, Client, CreateAnswer, FILE_LIMIT}
use Rattle.std.proofs.Common.{arith}
use Rattle.lease_laws.proofs.Words.{List, LiveEntry, None, Note, Option, Parted, Phase, Reply, Settlement, Share, Some, Status}
use Rattle.lease_laws.proofs.Words.{Step, ℕ, ⊤, [], ap, belief_lowered, break_turn, broken, closed_by_server}
use Rattle.lease_laws.proofs.Words.{create_answered, create_failed}
use Rattle.lease_laws.proofs.Words.{failed_turn, false, file_where}
use Rattle.lease_laws.proofs.Words.{first_belief, has_sent, inl, inr, is_file_closed, is_key_of, is_some, knows_file, lease_key}
use Rattle.lease_laws.proofs.Words.{length, live_entry, meet, nat_le, not, on_file, one_read_less, opened_turn, parked_closed}
use Rattle.lease_laws.proofs.Words.{promoted_belief, promoted_turn, quiet_step, read_answered, read_failed}
use Rattle.lease_laws.proofs.Words.{read_failed_turn, read_turn, reads_under, reconnected_turn, refl, sent_without}
use Rattle.lease_laws.proofs.Words.{still_open, subst, sym, taken, true, turned, write_done, write_done_turn, write_failed}
use Rattle.lease_laws.proofs.Words.{broken_in, broken_turn, created_for, created_in, not_created_for, not_created_in}
use Rattle.lease_laws.proofs.Words.{not_read_in, not_read_turn, not_written_turn, quiet_turn, read_done_turn, read_in}
use Rattle.lease_laws.proofs.Words.{created_turn, not_created_turn, write_failed_in}
use Rattle.lease_laws.proofs.client.cases.Commands.{entry_so, sent_of}
use Rattle.lease_laws.proofs.client.cases.Turns.{still_quiet}
use Rattle.lease_laws.proofs.client.cases.Files.{found_known, found_so}
use Rattle.lease_laws.proofs.server.Lists.{if_cases}

abbrev pub is_live : Phase → Bool
is_live (Phase.Live live) = true
is_live phase = false

-- an entry waits for no answer to a create
abbrev pub AwaitsNone : Phase → Type 0
AwaitsNone (Phase.Opening access share) = ⊥
AwaitsNone (Phase.Live live) = is_some live.asking ≡ false
AwaitsNone (Phase.Reconnecting parted) = ⊥
AwaitsNone phase = ⊤

-- why a reply is passed over
abbrev pub PassesOver : Client → Reply → Type 0
PassesOver client (Reply.Created file file_id None) = ⊤
PassesOver client (Reply.Created file file_id (Some answer)) = AwaitsNone (client.entries file).phase
PassesOver client (Reply.CreateFailed file status) = AwaitsNone (client.entries file).phase
PassesOver client (Reply.ReadDone file_id bytes) = (nat_le (length bytes) FILE_LIMIT ≡ false)
    ⊎ (file_where client (λ file. reads_under file_id (client.entries file).phase) ≡ None)
PassesOver client (Reply.ReadFailed file_id status) =
    file_where client (λ file. reads_under file_id (client.entries file).phase) ≡ None
PassesOver client (Reply.WriteDone file_id number) = file_where client (has_sent client number) ≡ None
PassesOver client (Reply.WriteFailed file_id number status) = file_where client (has_sent client number) ≡ None
PassesOver client (Reply.Break None) = ⊤
PassesOver client (Reply.Break (Some notice)) = (file_where client (is_key_of client notice.key) ≡ None)
    ⊎ ((file : ℕ) × (file_where client (is_key_of client notice.key) ≡ Some file) × (is_live (client.entries file).phase ≡ false))
PassesOver client reply = ⊤

-- ---- the forms

pub record HasTakes (client : Client) (P : Reply → Step → Type 0) : Type 0 where
  pub passed : (reply : Reply) → PassesOver client reply → P reply (quiet_step client)
  pub parked_closes : (file : ℕ) (notice : BreakNotice) (live : LiveEntry)
      → file_where client (is_key_of client notice.key) ≡ Some file → (client.entries file).phase ≡ Phase.Live live
      → (live.handles == 0 && (live.belief.handle && not (meet live.belief notice.lowered).handle)) ≡ true
      → P (Reply.Break (Some notice)) (turned client file (parked_closed live (sent_of client file)))
  pub lowered : (file : ℕ) (notice : BreakNotice) (live : LiveEntry) → file_where client (is_key_of client notice.key) ≡ Some file
      → (client.entries file).phase ≡ Phase.Live live
      → (live.handles == 0 && (live.belief.handle && not (meet live.belief notice.lowered).handle)) ≡ false
      → P (Reply.Break (Some notice)) (turned client file
      (belief_lowered live (sent_of client file) notice (meet live.belief notice.lowered)))
  pub opened : (file file_id : ℕ) (answer : CreateAnswer) (access : Access) (share : Share)
      → (client.entries file).phase ≡ Phase.Opening access share
      → P (Reply.Created file file_id (Some answer)) (turned client file
      (opened_turn file_id access share (sent_of client file) answer (first_belief client file answer)))
  pub reconnected : (file file_id : ℕ) (answer : CreateAnswer) (parted : Parted)
      → (client.entries file).phase ≡ Phase.Reconnecting parted → P (Reply.Created file file_id (Some answer)) (turned client file
      (reconnected_turn parted (sent_of client file) (first_belief client file answer)))
  pub promoted : (file file_id : ℕ) (answer : CreateAnswer) (live : LiveEntry) (asked : Asked)
      → (client.entries file).phase ≡ Phase.Live live → live.asking ≡ Some asked
      → P (Reply.Created file file_id (Some answer)) (turned client file
      (promoted_turn live (sent_of client file) asked file_id answer.durable
      (promoted_belief (lease_key client.guid file) live.belief answer.lease)))
  pub not_opened : (file : ℕ) (status : Status) (access : Access) (share : Share)
      → (client.entries file).phase ≡ Phase.Opening access share
      → P (Reply.CreateFailed file status) (turned client file (failed_turn status (sent_of client file) []))
  pub not_reconnected : (file : ℕ) (status : Status) (parted : Parted) → (client.entries file).phase ≡ Phase.Reconnecting parted
      → P (Reply.CreateFailed file status) (turned client file (failed_turn status (sent_of client file) parted.writes))
  pub not_promoted : (file : ℕ) (status : Status) (live : LiveEntry) (asked : Asked)
      → (client.entries file).phase ≡ Phase.Live live → live.asking ≡ Some asked
      → P (Reply.CreateFailed file status) (turned client file
      (still_open (live_entry (record live { asking = None }) (sent_of client file)) [] status))
  pub read : (file file_id : ℕ) (bytes : List ℕ) (live : LiveEntry) → (client.entries file).phase ≡ Phase.Live live
      → live.file_id ≡ file_id → (live.reads == 0) ≡ false
      → P (Reply.ReadDone file_id bytes) (turned client file (read_turn live (sent_of client file) bytes))
  pub read_closed : (file file_id : ℕ) (status : Status) (live : LiveEntry)
      → (client.entries file).phase ≡ Phase.Live live → live.file_id ≡ file_id → is_file_closed status ≡ true
      → P (Reply.ReadFailed file_id status) (turned client file (closed_by_server live (sent_of client file) [] status))
  pub not_read : (file file_id : ℕ) (status : Status) (live : LiveEntry)
      → (client.entries file).phase ≡ Phase.Live live → live.file_id ≡ file_id → (live.reads == 0) ≡ false
      → P (Reply.ReadFailed file_id status) (turned client file
      (still_open (live_entry (record live { reads = one_read_less live.reads }) (sent_of client file)) [] status))
  pub written : (file file_id number : ℕ) → has_sent client number file ≡ true → knows_file client file ≡ true
      → P (Reply.WriteDone file_id number) (turned client file (write_done_turn number (client.entries file)))
  pub write_closed : (file file_id number : ℕ) (status : Status) (live : LiveEntry)
      → has_sent client number file ≡ true → knows_file client file ≡ true
      → (client.entries file).phase ≡ Phase.Live live → live.file_id ≡ file_id → is_file_closed status ≡ true
      → P (Reply.WriteFailed file_id number status) (turned client file
      (closed_by_server live (sent_without number (sent_of client file)) (Note.Settled number Settlement.Failed ∷ []) status))
  pub not_written : (file file_id number : ℕ) (status : Status) → has_sent client number file ≡ true
      → knows_file client file ≡ true → P (Reply.WriteFailed file_id number status) (turned client file (still_open (record {
        phase = (client.entries file).phase;
        sent = sent_without number (sent_of client file);
      }) (Note.Settled number Settlement.Failed ∷ []) status))

-- ---- every reply has one of them

live_break : (client : Client) (P : Reply → Step → Type 0) → HasTakes client P → (file : ℕ) (notice : BreakNotice)
    (live : LiveEntry) → file_where client (is_key_of client notice.key) ≡ Some file
    → (client.entries file).phase ≡ Phase.Live live → P (Reply.Break (Some notice)) (turned client file
    (break_turn live (sent_of client file) notice (meet live.belief notice.lowered)))
unfolding break_turn
live_break client P h file notice live at e = grind arith

-- an entry that a message passes over stays as it is
quiet_take : (client : Client) (P : Reply → Step → Type 0) → HasTakes client P → (reply : Reply) (file : ℕ) (phase : Phase)
    → (client.entries file).phase ≡ phase → PassesOver client reply
    → P reply (turned client file (quiet_turn (record { phase = phase; sent = sent_of client file })))
quiet_take client P h reply file phase e why =
    subst (P reply) (still_quiet client file _ (entry_so client file phase e)) (h.passed reply why)

break_take : (client : Client) (P : Reply → Step → Type 0) → HasTakes client P → (file : ℕ) (notice : BreakNotice)
    → file_where client (is_key_of client notice.key) ≡ Some file → (phase : Phase) → (client.entries file).phase ≡ phase
    → P (Reply.Break (Some notice)) (turned client file (broken_in notice (sent_of client file) phase))
break_take client P h file notice at (Phase.Live live) e = live_break client P h file notice live at e
break_take client P h file notice at phase e =
    quiet_take client P h (Reply.Break (Some notice)) file phase e (inr (file, at, ap is_live e))

broken_take : (client : Client) (P : Reply → Step → Type 0) → HasTakes client P → (notice : Option BreakNotice)
    → P (Reply.Break notice) (broken client notice)
unfolding broken
broken_take client P h None = h.passed (Reply.Break None) tt
broken_take client P h (Some notice) = on_found (file_where client (is_key_of client notice.key)) refl
  where
    on_found : (found : Option ℕ) → file_where client (is_key_of client notice.key) ≡ found
        → P (Reply.Break (Some notice)) (on_file client found
        (λ file. turned client file (broken_turn notice (client.entries file))))
    on_found None e = h.passed (Reply.Break (Some notice)) (inl e)
    on_found (Some file) e = break_take client P h file notice e (client.entries file).phase refl

asked_take : (client : Client) (P : Reply → Step → Type 0) → HasTakes client P → (file file_id : ℕ)
    (answer : CreateAnswer) (live : LiveEntry) → (client.entries file).phase ≡ Phase.Live live → (asking : Option Asked)
    → live.asking ≡ asking → P (Reply.Created file file_id (Some answer)) (turned client file
    (created_for (lease_key client.guid file) live (sent_of client file) file_id answer asking))
asked_take client P h file file_id answer live e None none = quiet_take client P h (Reply.Created file file_id (Some answer)) file
    (Phase.Live live) e (subst AwaitsNone (sym e) (ap is_some none))
asked_take client P h file file_id answer live e (Some asked) some = h.promoted file file_id answer live asked e some

create_take : (client : Client) (P : Reply → Step → Type 0) → HasTakes client P → (file file_id : ℕ)
    (answer : CreateAnswer) (phase : Phase) → (client.entries file).phase ≡ phase
    → P (Reply.Created file file_id (Some answer))
    (turned client file (created_in (lease_key client.guid file) file_id answer (sent_of client file) phase))
create_take client P h file file_id answer Phase.Closed e = quiet_take client P h (Reply.Created file file_id (Some answer)) file
    Phase.Closed e (subst AwaitsNone (sym e) tt)
create_take client P h file file_id answer (Phase.Opening access share) e = h.opened file file_id answer access share e
create_take client P h file file_id answer (Phase.Live live) e =
    asked_take client P h file file_id answer live e live.asking refl
create_take client P h file file_id answer (Phase.Offline parted) e = quiet_take client P h
    (Reply.Created file file_id (Some answer)) file (Phase.Offline parted) e (subst AwaitsNone (sym e) tt)
create_take client P h file file_id answer (Phase.Reconnecting parted) e = h.reconnected file file_id answer parted e

created_take : (client : Client) (P : Reply → Step → Type 0) → HasTakes client P → (file file_id : ℕ)
    (contexts : Option CreateAnswer) → P (Reply.Created file file_id contexts) (create_answered client file file_id contexts)
unfolding create_answered
created_take client P h file file_id None = h.passed (Reply.Created file file_id None) tt
created_take client P h file file_id (Some answer) = create_take client P h file file_id answer (client.entries file).phase refl

not_asked_take : (client : Client) (P : Reply → Step → Type 0) → HasTakes client P → (file : ℕ) (status : Status)
    (live : LiveEntry) → (client.entries file).phase ≡ Phase.Live live → (asking : Option Asked) → live.asking ≡ asking
    → P (Reply.CreateFailed file status) (turned client file (not_created_for live (sent_of client file) status asking))
not_asked_take client P h file status live e None none = quiet_take client P h (Reply.CreateFailed file status) file
    (Phase.Live live) e (subst AwaitsNone (sym e) (ap is_some none))
not_asked_take client P h file status live e (Some asked) some = h.not_promoted file status live asked e some

failed_take : (client : Client) (P : Reply → Step → Type 0) → HasTakes client P → (file : ℕ) (status : Status)
    (phase : Phase) → (client.entries file).phase ≡ phase
    → P (Reply.CreateFailed file status) (turned client file (not_created_in status (sent_of client file) phase))
failed_take client P h file status Phase.Closed e =
    quiet_take client P h (Reply.CreateFailed file status) file Phase.Closed e (subst AwaitsNone (sym e) tt)
failed_take client P h file status (Phase.Opening access share) e = h.not_opened file status access share e
failed_take client P h file status (Phase.Live live) e = not_asked_take client P h file status live e live.asking refl
failed_take client P h file status (Phase.Offline parted) e =
    quiet_take client P h (Reply.CreateFailed file status) file (Phase.Offline parted) e (subst AwaitsNone (sym e) tt)
failed_take client P h file status (Phase.Reconnecting parted) e = h.not_reconnected file status parted e

-- an entry that reads under the FileId is live
reads_so : (phase : Phase) (file_id : ℕ) (P : Type 0) → reads_under file_id phase ≡ true
    → ((live : LiveEntry) → phase ≡ Phase.Live live → live.file_id ≡ file_id → (live.reads == 0) ≡ false → P) → P
reads_so phase file_id P e k = grind arith

read_take : (client : Client) (P : Reply → Step → Type 0) → HasTakes client P → (file_id : ℕ) (bytes : List ℕ)
    → P (Reply.ReadDone file_id bytes) (read_answered client file_id bytes)
unfolding read_answered
read_take client P h file_id bytes = if_cases (P (Reply.ReadDone file_id bytes)) (nat_le (length bytes) FILE_LIMIT) _
    (quiet_step client)
    (λ fits. on_found (file_where client (λ file. reads_under file_id (client.entries file).phase)) refl)
    (λ long. h.passed (Reply.ReadDone file_id bytes) (inl long))
  where
    on_found : (found : Option ℕ) → file_where client (λ file. reads_under file_id (client.entries file).phase) ≡ found
        → P (Reply.ReadDone file_id bytes) (on_file client found
        (λ file. turned client file (read_done_turn bytes (client.entries file))))
    on_found None e = h.passed (Reply.ReadDone file_id bytes) (inr e)
    on_found (Some file) e = reads_so (client.entries file).phase file_id _
        (found_so client (λ file. reads_under file_id (client.entries file).phase) file e)
        (λ live is id some. subst
        (λ phase. P (Reply.ReadDone file_id bytes) (turned client file (read_in bytes (client.entries file).sent phase)))
        (sym is) (h.read file file_id bytes live is id some))

failed_read : (client : Client) (P : Reply → Step → Type 0) → HasTakes client P → (file file_id : ℕ)
    (status : Status) (live : LiveEntry) → (client.entries file).phase ≡ Phase.Live live → live.file_id ≡ file_id
    → (live.reads == 0) ≡ false → P (Reply.ReadFailed file_id status)
    (turned client file (read_failed_turn live (sent_of client file) status))
unfolding read_failed_turn
failed_read client P h file file_id status live is id some = grind arith

fail_take : (client : Client) (P : Reply → Step → Type 0) → HasTakes client P → (file_id : ℕ) (status : Status)
    → P (Reply.ReadFailed file_id status) (read_failed client file_id status)
unfolding read_failed
fail_take client P h file_id status = on_found (file_where client (λ file. reads_under file_id (client.entries file).phase)) refl
  where
    on_found : (found : Option ℕ) → file_where client (λ file. reads_under file_id (client.entries file).phase) ≡ found
        → P (Reply.ReadFailed file_id status) (on_file client found
        (λ file. turned client file (not_read_turn status (client.entries file))))
    on_found None e = h.passed (Reply.ReadFailed file_id status) e
    on_found (Some file) e = reads_so (client.entries file).phase file_id _
        (found_so client (λ file. reads_under file_id (client.entries file).phase) file e)
        (λ live is id some. subst
        (λ phase. P (Reply.ReadFailed file_id status)
        (turned client file (not_read_in status (client.entries file).sent phase)))
        (sym is) (failed_read client P h file file_id status live is id some))

done_take : (client : Client) (P : Reply → Step → Type 0) → HasTakes client P → (file_id number : ℕ)
    → P (Reply.WriteDone file_id number) (write_done client number)
unfolding write_done
done_take client P h file_id number = on_found (file_where client (has_sent client number)) refl
  where
    on_found : (found : Option ℕ) → file_where client (has_sent client number) ≡ found
        → P (Reply.WriteDone file_id number) (on_file client found
        (λ file. turned client file (write_done_turn number (client.entries file))))
    on_found None e = h.passed (Reply.WriteDone file_id number) e
    on_found (Some file) e = h.written file file_id number (found_so client (has_sent client number) file e)
        (found_known client (has_sent client number) file e)

failed_write : (client : Client) (P : Reply → Step → Type 0) → HasTakes client P → (file file_id number : ℕ)
    (status : Status) → has_sent client number file ≡ true → knows_file client file ≡ true → (phase : Phase)
    → (client.entries file).phase ≡ phase → P (Reply.WriteFailed file_id number status) (turned client file
    (write_failed_in file_id number status (sent_without number (sent_of client file)) phase))
failed_write client P h file file_id number status at known phase is = grind arith

write_take : (client : Client) (P : Reply → Step → Type 0) → HasTakes client P → (file_id number : ℕ)
    (status : Status) → P (Reply.WriteFailed file_id number status) (write_failed client file_id number status)
unfolding write_failed
write_take client P h file_id number status = on_found (file_where client (has_sent client number)) refl
  where
    on_found : (found : Option ℕ) → file_where client (has_sent client number) ≡ found
        → P (Reply.WriteFailed file_id number status) (on_file client found
        (λ file. turned client file (not_written_turn file_id number status (client.entries file))))
    on_found None e = h.passed (Reply.WriteFailed file_id number status) e
    on_found (Some file) e = failed_write client P h file file_id number status (found_so client (has_sent client number) file e)
        (found_known client (has_sent client number) file e) (client.entries file).phase refl

pub any_reply : (client : Client) (P : Reply → Step → Type 0) → HasTakes client P → (reply : Reply) → P reply (taken client reply)
unfolding taken create_failed
any_reply client P h (Reply.Created file file_id contexts) = created_take client P h file file_id contexts
any_reply client P h (Reply.CreateFailed file status) = failed_take client P h file status (client.entries file).phase refl
any_reply client P h (Reply.ReadDone file_id bytes) = read_take client P h file_id bytes
any_reply client P h (Reply.ReadFailed file_id status) = fail_take client P h file_id status
any_reply client P h (Reply.WriteDone file_id number) = done_take client P h file_id number
any_reply client P h (Reply.WriteFailed file_id number status) = write_take client P h file_id number status
any_reply client P h (Reply.Break notice) = broken_take client P h notice
any_reply client P h reply = h.passed reply tt

-- ---- single replies

pub created_by : (client : Client) (file file_id : ℕ) (answer : CreateAnswer) → create_answered client file file_id (Some answer)
    ≡ turned client file (created_turn (lease_key client.guid file) file_id answer (client.entries file))
unfolding create_answered
created_by client file file_id answer = refl

pub unread_create : (client : Client) (file file_id : ℕ) → create_answered client file file_id None ≡ quiet_step client
unfolding create_answered
unread_create client file file_id = refl

pub not_created_by : (client : Client) (file : ℕ) (status : Status)
    → create_failed client file status ≡ turned client file (not_created_turn status (client.entries file))
unfolding create_failed
not_created_by client file status = refl

pub reads_by : (client : Client) (file file_id : ℕ) (bytes : List ℕ) → nat_le (length bytes) FILE_LIMIT ≡ true
    → file_where client (λ file. reads_under file_id (client.entries file).phase) ≡ Some file
    → read_answered client file_id bytes ≡ turned client file (read_done_turn bytes (client.entries file))
unfolding read_answered
reads_by client file file_id bytes fits found = rw (fits, found) refl

pub fails_by : (client : Client) (file file_id : ℕ) (status : Status)
    → file_where client (λ file. reads_under file_id (client.entries file).phase) ≡ Some file
    → read_failed client file_id status ≡ turned client file (not_read_turn status (client.entries file))
unfolding read_failed
fails_by client file file_id status found = rw (found) refl

pub breaks_by : (client : Client) (file : ℕ) (notice : BreakNotice) → file_where client (is_key_of client notice.key) ≡ Some file
    → broken client (Some notice) ≡ turned client file (broken_turn notice (client.entries file))
unfolding broken
breaks_by client file notice found = rw (found) refl

pub breaks_none : (client : Client) (notice : BreakNotice) → file_where client (is_key_of client notice.key) ≡ None
    → broken client (Some notice) ≡ quiet_step client
unfolding broken
breaks_none client notice none = rw (none) refl

pub unread_break : (client : Client) → broken client None ≡ quiet_step client
unfolding broken
unread_break client = refl
