-- Names: FileIds, lease keys and numbers of writes, as the messages, the opens and the entries of a client have them,
-- compared with the record.
use Rattle.lease_laws.proofs.Words.{◌++◌, ◌+◌, ◌==◌, ◌∙◌, ◌∷◌, ◌≡◌, ◌≤◌, Bool, Entry, Fact, FileRequest, List, None, Pending}
use Rattle.lease_laws.proofs.Words.{Phase, Reply, Request, Some, ℕ, [], ⊎_elim, arith, eqb-true, false, filter, if◌then◌else◌}
use Rattle.lease_laws.proofs.Words.{opened_count, sent_without, sym, true, true≢false, was_opened}
use Rattle.lease_laws.proofs.Words.{Among}
use Rattle.lease_laws.proofs.Words.{inl}
use Rattle.lease_laws.proofs.Words.{inr}
use Rattle.lease_laws.proofs.server.Lists.{and_parts, if_cases, or_true}
use Rattle.lease_laws.proofs.server.Lists.{clash}
use Rattle.lease_laws.proofs.Words.{refl}
use Rattle.lease_coherence.specs.Names.{Each, IsNamedEntry, IsNamedOnFile, IsNamedPhase, IsNamedReply, IsNamedRequest}
use Rattle.lease_coherence.specs.Names.{WasWritten}
use Rattle.lease_coherence.proofs.moves.Moves.{rest_of}
use Rattle.lease_coherence.proofs.records.Later.{IsLater}

-- ---- lists

pub each_append : {X : Type 0} (P : X → Type 0) (xs ys : List X) → Each P xs → Each P ys → Each P (xs ++ ys)
each_append P [] ys each others = others
each_append P (x ∷ xs) ys each others = (each.0, each_append P xs ys each.1 others)

pub each_weaker : {X : Type 0} (P Q : X → Type 0) (xs : List X) → ((x : X) → P x → Q x) → Each P xs → Each Q xs
each_weaker P Q [] weaker each = tt
each_weaker P Q (x ∷ xs) weaker each = (weaker x each.0, each_weaker P Q xs weaker each.1)

pub each_rest : {X : Type 0} (P : X → Type 0) (xs : List X) → Each P xs → Each P (rest_of xs)
each_rest P [] each = tt
each_rest P (x ∷ xs) each = each.1

pub each_filter : {X : Type 0} (P : X → Type 0) (test : X → Bool) (xs : List X) → Each P xs → Each P (filter test xs)
each_filter P test [] each = tt
each_filter P test (x ∷ xs) each = if_cases (Each P) (test x) (x ∷ filter test xs) (filter test xs)
    (λ passes. (each.0, each_filter P test xs each.1)) (λ fails. each_filter P test xs each.1)

pub none_pass : {X : Type 0} (test : X → Bool) (xs : List X) → ((x : X) → Among x xs → test x ≡ false) → filter test xs ≡ []
none_pass test [] none = refl
none_pass test (x ∷ xs) none = if_cases (λ l. l ≡ []) (test x) (x ∷ filter test xs) (filter test xs)
    (λ passes. clash (test x) passes (none x (inl refl))) (λ fails. none_pass test xs (λ y a. none y (inr a)))

pub each_without : (P : Pending → Type 0) (number : ℕ) (writes : List Pending) → Each P writes
    → Each P (sent_without number writes)
unfolding sent_without
each_without P number [] each = tt
each_without P number (write ∷ writes) each = if_cases (Each P) (write.number == number) writes
    (write ∷ sent_without number writes) (λ here. each.1) (λ there. (each.0, each_without P number writes each.1))

pub each_either : {X : Type 0} (P : X → Type 0) (b : Bool) (xs ys : List X) → Each P xs → Each P ys
    → Each P (if b then xs else ys)
each_either P true xs ys each others = each
each_either P false xs ys each others = others

-- ---- later

pub on_file_later : (client : ℕ) (guid : List ℕ) (past new : List Fact) → IsLater past new → (request : FileRequest)
    → IsNamedOnFile client guid past request → IsNamedOnFile client guid new request
on_file_later client guid past new l (FileRequest.Create file access share None) n = absurd n
on_file_later client guid past new l (FileRequest.Create file access share (Some ask)) n = record {
  lease = n.lease;
  asks = n.asks;
  key = n.key;
  again = λ file_id e. l.opened file_id file client (n.again file_id e);
}
on_file_later client guid past new l (FileRequest.Read file_id) n =
    record { file = n.file; opened = l.opened file_id n.file client n.opened }
on_file_later client guid past new l (FileRequest.Write file_id number patch) n = record {
  file = n.file;
  opened = l.opened file_id n.file client n.opened;
  written = l.written client n.file number patch n.written;
}
on_file_later client guid past new l (FileRequest.Close file_id) n =
    record { file = n.file; opened = l.opened file_id n.file client n.opened }

pub request_later : (client : ℕ) (guid : List ℕ) (past new : List Fact) → IsLater past new → (request : Request)
    → IsNamedRequest client guid past request → IsNamedRequest client guid new request
request_later client guid past new l (Request.OnFile request) n = on_file_later client guid past new l request n
request_later client guid past new l (Request.Acknowledge given) n = n

pub reply_later : (client : ℕ) (past new : List Fact) → IsLater past new → (reply : Reply)
    → IsNamedReply client past reply → IsNamedReply client new reply
reply_later client past new l (Reply.Created file file_id None) n = absurd n
reply_later client past new l (Reply.Created file file_id (Some answer)) n = l.opened file_id file client n
reply_later client past new l (Reply.WriteDone file_id number) n = l.accepted client number n
reply_later client past new l (_) n = n

pub writes_later : (client file : ℕ) (past new : List Fact) → IsLater past new → (writes : List Pending)
    → Each (WasWritten client file past) writes → Each (WasWritten client file new) writes
writes_later client file past new l writes each = each_weaker (WasWritten client file past)
    (WasWritten client file new) writes (λ write w. l.written client file write.number write.patch w) each

pub phase_later : (client file : ℕ) (past new : List Fact) → IsLater past new → (phase : Phase)
    → IsNamedPhase client file past phase → IsNamedPhase client file new phase
phase_later client file past new l (Phase.Live live) n =
    (l.opened live.file_id file client n.0, writes_later client file past new l live.unsent n.1)
phase_later client file past new l (Phase.Offline parted) n =
    (l.opened parted.file_id file client n.0, writes_later client file past new l parted.writes n.1)
phase_later client file past new l (Phase.Reconnecting parted) n =
    (l.opened parted.file_id file client n.0, writes_later client file past new l parted.writes n.1)
phase_later client file past new l phase n = tt

pub entry_later : (client file : ℕ) (past new : List Fact) → IsLater past new → (entry : Entry)
    → IsNamedEntry client file past entry → IsNamedEntry client file new entry
entry_later client file past new l entry n = record {
  sent = writes_later client file past new l entry.sent n.sent;
  phase = phase_later client file past new l entry.phase n.phase;
}

-- ---- a FileId was given once

pub opened_within : (place file client : ℕ) (past : List Fact) → was_opened place file client past ≡ true
    → place ≤ opened_count past
unfolding was_opened opened_count
opened_within place file client [] e = absurd (true≢false (sym e))
opened_within place file client (Fact.Opened of_file by ∷ past) e = ⊎_elim
    (λ now. omega (arith, eqb-true place (opened_count past + 1) (and_parts _ _ now).0))
    (λ before. omega (arith, opened_within place file client past before)) (or_true _ (was_opened place file client past) e)
opened_within place file client (_ ∷ past) e = opened_within place file client past e

pub opened_once : (place file client other by : ℕ) (past : List Fact) → was_opened place file client past ≡ true
    → was_opened place other by past ≡ true → file ≡ other
unfolding was_opened opened_count
opened_once place file client other by [] e f = absurd (true≢false (sym e))
opened_once place file client other by (Fact.Opened of_file opener ∷ past) e f = ⊎_elim
    (λ now. ⊎_elim
    (λ again. sym (eqb-true of_file file (and_parts _ _ (and_parts _ _ now).1).0)
    ∙ eqb-true of_file other (and_parts _ _ (and_parts _ _ again).1).0)
    (λ before. absurd (omega (
      arith,
      eqb-true place (opened_count past + 1) (and_parts _ _ now).0,
      opened_within place other by past before,
    ))) (or_true _ (was_opened place other by past) f))
    (λ before. ⊎_elim
    (λ again. absurd (omega (
      arith,
      eqb-true place (opened_count past + 1) (and_parts _ _ again).0,
      opened_within place file client past before,
    )))
    (λ earlier. opened_once place file client other by past before earlier) (or_true _ (was_opened place other by past) f))
    (or_true _ (was_opened place file client past) e)
opened_once place file client other by (_ ∷ past) e f = opened_once place file client other by past e f

-- and to one client
pub opened_by : (place file client other by : ℕ) (past : List Fact) → was_opened place file client past ≡ true
    → was_opened place other by past ≡ true → client ≡ by
unfolding was_opened opened_count
opened_by place file client other by [] e f = absurd (true≢false (sym e))
opened_by place file client other by (Fact.Opened of_file opener ∷ past) e f = ⊎_elim
    (λ now. ⊎_elim
    (λ again. sym (eqb-true opener client (and_parts _ _ (and_parts _ _ now).1).1)
    ∙ eqb-true opener by (and_parts _ _ (and_parts _ _ again).1).1)
    (λ before. absurd (omega (
      arith,
      eqb-true place (opened_count past + 1) (and_parts _ _ now).0,
      opened_within place other by past before,
    ))) (or_true _ (was_opened place other by past) f))
    (λ before. ⊎_elim
    (λ again. absurd (omega (
      arith,
      eqb-true place (opened_count past + 1) (and_parts _ _ again).0,
      opened_within place file client past before,
    )))
    (λ earlier. opened_by place file client other by past before earlier) (or_true _ (was_opened place other by past) f))
    (or_true _ (was_opened place file client past) e)
opened_by place file client other by (_ ∷ past) e f = opened_by place file client other by past e f
