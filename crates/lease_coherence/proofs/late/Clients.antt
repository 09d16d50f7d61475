-- What a client does leaves its writes safe.
use Rattle.lease_laws.proofs.Words.{◌++◌, ◌+◌, ◌==◌, ◌∙◌, ◌∷◌, ◌≡◌, ◌≢◌, ◌⊎◌, Among, Answer, Asked, Bool, BreakNotice, Client}
use Rattle.lease_laws.proofs.Words.{Entry, FileRequest, IsSoundClient, List, LiveEntry, None, Note, Option, Parted, Patch}
use Rattle.lease_laws.proofs.Words.{Pending, Phase, Reply, Request, Some, State, Step, Turn, ℕ, [], ⊎_elim, ⊤, acknowledgment}
use Rattle.lease_laws.proofs.Words.{ap, are_rising, belief_lowered, eq-eqb, eqb-true, false, file_where, flushed, gives_up}
use Rattle.lease_laws.proofs.Words.{has_number, has_sent, if◌then◌else◌, inl, inr, knows_file, meet, next_write, phase_with}
use Rattle.lease_laws.proofs.Words.{put, quiet_step, refl, sent_without, subst, sym, true, turned, unanswered_in, unsent_in}
use Rattle.lease_laws.proofs.Words.{without_open, write_requests, wrote_step}
use Rattle.lease_laws.proofs.client.Thin.{put_other, put_same}
use Rattle.lease_laws.proofs.client.cases.Commands.{HasCommands, sent_of}
use Rattle.lease_laws.proofs.client.cases.Files.{never_found}
use Rattle.lease_laws.proofs.client.cases.Replies.{HasTakes, PassesOver}
use Rattle.lease_laws.proofs.client.cases.Turns.{by_turn}
use Rattle.lease_laws.proofs.server.Lists.{among_append, clash, if_cases, not_true, true_or}
use Rattle.lease_laws.proofs.world.Links.{by_client}
use Rattle.lease_coherence.specs.Creates.{one_if}
use Rattle.lease_coherence.specs.Names.{Each}
use Rattle.lease_coherence.proofs.moves.Shift.{append_none}
use Rattle.lease_coherence.proofs.writes.Counts.{settles_of}
use Rattle.lease_coherence.proofs.writes.Settled.{number_append, number_there, rising_rest}

-- ---- what is sent

abbrev pub IsOther : Request → Type 0
IsOther (Request.OnFile (FileRequest.Write file_id number patch)) = ⊥
IsOther request = ⊤

-- no write; some that were unsent; or a new one
pub data SendsWrites (client : Client) (step : Step) : Type 0 where
  NoWrite : (others : Each IsOther step.requests) → SendsWrites client step
  Flush : (at : ℕ) (live : LiveEntry) (is : (client.entries at).phase ≡ Phase.Live live) (writes : List Pending)
      → (all : (write : Pending) → Among write writes → Among write live.unsent)
      → (tail : List Request) (others : Each IsOther tail)
      → (are : step.requests ≡ write_requests live.file_id writes ++ tail) → SendsWrites client step
  New : (at : ℕ) (live : LiveEntry) (is : (client.entries at).phase ≡ Phase.Live live) (patch : Patch)
      → (are : step.requests ≡ Request.OnFile (FileRequest.Write live.file_id (client.last_number + 1) patch) ∷ [])
      → (notes : step.notes ≡ Note.Wrote at (client.last_number + 1) patch false ∷ []) → SendsWrites client step

-- ---- entries after a step

-- a write that was sent was so, and isn't settled by the reply; or it was unsent; or it is a new one that isn't buffered
pub data SentFrom (old : Entry) (reply_settles : ℕ → ℕ) (write : Pending) : Type 0 where
  Was : (there : Among write old.sent) → (unsettled : reply_settles write.number ≡ 0) → SentFrom old reply_settles write
  Unsent : (live : LiveEntry) (is : old.phase ≡ Phase.Live live) (there : Among write live.unsent)
      → SentFrom old reply_settles write
  Plain : (plain : write.buffered ≡ false) → SentFrom old reply_settles write

-- of one file
pub record EntryFrom (old : Entry) (new : Entry) (reply_settles : ℕ → ℕ) : Type 0 where
  pub sent : (write : Pending) → Among write new.sent → SentFrom old reply_settles write
  pub again : (parted : Parted) → new.phase ≡ Phase.Reconnecting parted → old.phase ≡ Phase.Reconnecting parted

pub record StepFrom (client : Client) (settles : ℕ → ℕ) (step : Step) : Type 0 where
  pub sends : SendsWrites client step
  pub entries : (file : ℕ) → knows_file client file ≡ true → EntryFrom (client.entries file) (step.client.entries file) settles

abbrev pub no_settles : ℕ → ℕ
no_settles number = 0

-- an entry that stays
same_entry : (old : Entry) (settles : ℕ → ℕ) → ((write : Pending) → Among write old.sent → settles write.number ≡ 0)
    → EntryFrom old old settles
same_entry old settles none =
    record { sent = λ w a. SentFrom.Was a (none w a); again = λ parted is. is }

turned_from : (client : Client) (at : ℕ) (turn : Turn) (settles : ℕ → ℕ) → SendsWrites client (turned client at turn)
    → EntryFrom (client.entries at) turn.entry settles
    → ((file : ℕ) → file ≢ at → knows_file client file ≡ true → (write : Pending) → Among write (sent_of client file)
    → settles write.number ≡ 0) → StepFrom client settles (turned client at turn)
turned_from client at turn settles sends here others = record {
  sends = sends;
  entries = by_turn (λ step. (file : ℕ) → knows_file client file ≡ true
      → EntryFrom (client.entries file) (step.client.entries file) settles) client at turn
      (λ file known. by_client (λ f. knows_file client f ≡ true
      → EntryFrom (client.entries f) (put client.entries at turn.entry f) settles) at file
      (λ k. subst (λ e. EntryFrom (client.entries at) e settles) (sym (put_same client.entries at turn.entry)) here)
      (λ ne apart k. subst (λ e. EntryFrom (client.entries file) e settles) (sym (put_other client.entries at turn.entry file ne))
      (same_entry (client.entries file) settles (others file ne k))) known);
}

wrote_from : (client : Client) (at : ℕ) (entry : Entry) (answer : Answer) (requests : List Request) (write : Pending)
    → SendsWrites client (wrote_step client at entry answer requests write) → EntryFrom (client.entries at) entry no_settles
    → StepFrom client no_settles (wrote_step client at entry answer requests write)
wrote_from client at entry answer requests write sends here = record {
  sends = sends;
  entries = λ file known. by_client (λ f. EntryFrom (client.entries f) (put client.entries at entry f) no_settles) at file
      (subst (λ e. EntryFrom (client.entries at) e no_settles) (sym (put_same client.entries at entry)) here)
      (λ ne apart. subst (λ e. EntryFrom (client.entries file) e no_settles) (sym (put_other client.entries at entry file ne))
      (same_entry (client.entries file) no_settles (λ w a. refl)));
}

-- an entry with these sent writes, which isn't reconnecting
plain_entry : (old new : Entry) → new.sent ≡ old.sent → ((parted : Parted) → new.phase ≡ Phase.Reconnecting parted → ⊥)
    → EntryFrom old new no_settles
plain_entry old new same never = record {
  sent = λ w a. SentFrom.Was (subst (λ (l : List Pending). Among w l) same a) refl;
  again = λ parted is. absurd (never parted is);
}

-- and some that were unsent
flush_entry : (old new : Entry) (live : LiveEntry) (more : List Pending) → old.phase ≡ Phase.Live live
    → ((write : Pending) → Among write more → Among write live.unsent) → new.sent ≡ old.sent ++ more
    → ((parted : Parted) → new.phase ≡ Phase.Reconnecting parted → ⊥) → EntryFrom old new no_settles
flush_entry old new live more is all same never = record {
  sent = λ w a. ⊎_elim (λ was. SentFrom.Was was refl) (λ unsent. SentFrom.Unsent live is (all w unsent))
      (among_append w old.sent more (subst (λ (l : List Pending). Among w l) same a));
  again = λ parted e. absurd (never parted e);
}

no_live_again : (live : LiveEntry) (parted : Parted) → Phase.Live live ≡ Phase.Reconnecting parted → ⊥
no_live_again live parted e = cc

closed_again : (parted : Parted) → Phase.Closed ≡ Phase.Reconnecting parted → ⊥
closed_again parted e = cc

opening_again : (access : _) (share : _) (parted : Parted) → Phase.Opening access share ≡ Phase.Reconnecting parted → ⊥
opening_again access share parted e = cc

none_settled : (client : Client) (at : ℕ) (file : ℕ) → file ≢ at → knows_file client file ≡ true → (write : Pending)
    → Among write (sent_of client file) → no_settles write.number ≡ 0
none_settled client at file ne known w a = refl

quiet_from : (client : Client) (at : ℕ) (turn : Turn) → SendsWrites client (turned client at turn)
    → EntryFrom (client.entries at) turn.entry no_settles → StepFrom client no_settles (turned client at turn)
quiet_from client at turn sends here = turned_from client at turn no_settles sends here (none_settled client at)

flush_sends : (client : Client) (at : ℕ) (turn : Turn) (live : LiveEntry) (tail : List Request)
    → (client.entries at).phase ≡ Phase.Live live → Each IsOther tail
    → turn.requests ≡ write_requests live.file_id live.unsent ++ tail → SendsWrites client (turned client at turn)
flush_sends client at turn live tail is others are =
    by_turn (SendsWrites client) client at turn (SendsWrites.Flush at live is live.unsent (λ w a. a) tail others are)

flush_some : (client : Client) (at : ℕ) (turn : Turn) (live : LiveEntry) (writes : List Pending)
    → (client.entries at).phase ≡ Phase.Live live
    → ((write : Pending) → Among write writes → Among write live.unsent) → (tail : List Request) → Each IsOther tail
    → turn.requests ≡ write_requests live.file_id writes ++ tail → SendsWrites client (turned client at turn)
flush_some client at turn live writes is all tail others are =
    by_turn (SendsWrites client) client at turn (SendsWrites.Flush at live is writes all tail others are)

plain_sends : (client : Client) (at : ℕ) (turn : Turn) → Each IsOther turn.requests → SendsWrites client (turned client at turn)
plain_sends client at turn others = by_turn (SendsWrites client) client at turn (SendsWrites.NoWrite others)

pub commands_from : (client : Client) → HasCommands client (StepFrom client no_settles)
commands_from client = record {
  refused = λ refusal. record {
    sends = SendsWrites.NoWrite tt;
    entries = λ file known. same_entry (client.entries file) no_settles (λ w a. refl);
  };
  opening = λ file terms is on. quiet_from client file _ (plain_sends client file _ (tt, tt))
      (plain_entry (client.entries file) _ refl (opening_again terms.access terms.share));
  added = λ file live is. quiet_from client file _ (plain_sends client file _ tt)
      (plain_entry (client.entries file) _ refl (no_live_again _));
  asked = λ file live terms is idle some. quiet_from client file _ (plain_sends client file _ (tt, tt))
      (plain_entry (client.entries file) _ refl (no_live_again _));
  anew = λ file live terms is idle none. quiet_from client file _ (flush_sends client file _ live _ is.is_so (tt, (tt, tt)) refl)
      (flush_entry (client.entries file) _ live live.unsent is.is_so (λ w a. a) refl (opening_again terms.access terms.share));
  fewer = λ file live is more. quiet_from client file _ (plain_sends client file _ tt)
      (plain_entry (client.entries file) _ refl (no_live_again _));
  parked = λ file live is idle done stays. quiet_from client file _ (plain_sends client file _ tt)
      (plain_entry (client.entries file) _ refl (no_live_again _));
  closed = λ file live is idle done goes. quiet_from client file _ (flush_sends client file _ live _ is.is_so (tt, tt) refl)
      (flush_entry (client.entries file) _ live live.unsent is.is_so (λ w a. a) refl closed_again);
  cached = λ file live base is reads has. record {
    sends = SendsWrites.NoWrite tt;
    entries = λ f known. same_entry (client.entries f) no_settles (λ w a. refl);
  };
  read = λ file live is idle. quiet_from client file _ (plain_sends client file _ (tt, tt))
      (plain_entry (client.entries file) _ refl (no_live_again _));
  buffered = λ file live patch is fits caches. wrote_from client file _ Answer.Done [] (next_write client patch true)
      (SendsWrites.NoWrite tt) (plain_entry (client.entries file) _ refl (no_live_again _));
  written = λ file live patch is fits now. wrote_from client file _ Answer.Waiting
      (Request.OnFile (FileRequest.Write live.file_id (client.last_number + 1) patch) ∷ []) (next_write client patch false)
      (SendsWrites.New file live is.is_so patch refl refl) (record {
        sent = λ w a. ⊎_elim (λ was. SentFrom.Was was refl)
            (λ new. ⊎_elim (λ same. SentFrom.Plain (ap (λ (x : Pending). x.buffered) same)) (λ none. absurd none) new)
            (among_append w (sent_of client file) (next_write client patch false ∷ []) a);
        again = λ parted e. absurd (no_live_again live parted e);
      });
  flushed = λ file live is. quiet_from client file _
      (flush_sends client file _ live [] is.is_so tt (sym (append_none (write_requests live.file_id live.unsent))))
      (flush_entry (client.entries file) _ live live.unsent is.is_so (λ w a. a) refl (no_live_again _));
}

-- ---- replies

flushed_all : (b : Bool) (unsent : List Pending) (w : Pending) → Among w (if b then unsent else []) → Among w unsent
flushed_all true unsent w a = a
flushed_all false unsent w a = absurd a

lowered_from : (client : Client) (at : ℕ) (notice : BreakNotice) (live : LiveEntry) (new : State)
    → (client.entries at).phase ≡ Phase.Live live
    → StepFrom client no_settles (turned client at (belief_lowered live (sent_of client at) notice new))
lowered_from client at notice live new is = quiet_from client at _
    (flush_some client at _ live (flushed live.belief new live.unsent) is
    (flushed_all (gives_up live.belief new) live.unsent) (acknowledgment notice new)
    (if_cases (Each IsOther) notice.ack_required _ [] (λ asks. (tt, tt)) (λ plain. tt)) refl)
    (flush_entry (client.entries at) _ live (flushed live.belief new live.unsent) is
    (flushed_all (gives_up live.belief new) live.unsent) refl (no_live_again _))

-- a write that is settled is of one file alone
settles_one : (client : Client) → IsSoundClient client → (at used : ℕ) → has_sent client used at ≡ true → (file : ℕ)
    → file ≢ at → (write : Pending) → Among write (sent_of client file) → one_if (used == write.number) ≡ 0
settles_one client s at used has file ne w a = ap one_if (not_true (used == w.number) (λ same.
    clash (has_number used (unanswered_in (client.entries file)))
    (ap (λ n. has_number n (unanswered_in (client.entries file))) (eqb-true used w.number same)
    ∙ number_append w.number (sent_of client file) (unsent_in (client.entries file).phase)
    ∙ true_or (has_number w.number (sent_of client file)) _ (number_there w (sent_of client file) a))
    (s.numbers.apart at file used (λ e. ne (sym e)) (number_append used (sent_of client at) (unsent_in (client.entries at).phase)
    ∙ true_or (has_number used (sent_of client at)) _ has))))

-- what is left of the sent writes once one is settled
left_numbers : (used low last : ℕ) (sent more : List Pending) → are_rising low last (sent ++ more) ≡ true
    → (write : Pending) → Among write (sent_without used sent)
    → Among write sent × ((used == write.number) ≡ false ⊎ (has_number used sent ≡ false))
unfolding sent_without
left_numbers used low last [] more e w a = absurd a
left_numbers used low last (x ∷ sent) more e w a = let r = rising_rest x low last (sent ++ more) e in
    if_cases (λ l. Among w l → Among w (x ∷ sent)
    × ((used == w.number) ≡ false ⊎ (has_number used (x ∷ sent) ≡ false))) (x.number == used) sent (x ∷ sent_without used sent)
    (λ same b. (
      inr b,
      inl (not_true (used == w.number) (λ also. clash (has_number x.number (sent ++ more))
          (ap (λ n. has_number n (sent ++ more)) (eqb-true x.number used same ∙ eqb-true used w.number also)
          ∙ number_append w.number sent more ∙ true_or (has_number w.number sent) (has_number w.number more)
          (number_there w sent b)) r.0)),
    ))
    (λ other b. ⊎_elim
    (λ same. (
      inl same,
      inl (not_true (used == w.number) (λ also. clash (x.number == used)
          (eq-eqb x.number used (ap (λ (y : Pending). y.number) (sym same) ∙ sym (eqb-true used w.number also))) other)),
    ))
    (λ later. let p = left_numbers used x.number last sent more r.1 w later in
    (inr p.0, ⊎_elim (λ apart. inl apart) (λ none. inr (rw (other) none)) p.1)) b) a

left_entry : (client : Client) → IsSoundClient client → (at used : ℕ) → has_sent client used at ≡ true → (new : Entry)
    → new.sent ≡ sent_without used (sent_of client at) → ((parted : Parted) → new.phase ≡ Phase.Reconnecting parted
    → (client.entries at).phase ≡ Phase.Reconnecting parted)
    → EntryFrom (client.entries at) new (λ number. one_if (used == number))
left_entry client s at used has new same again = record {
  sent = λ w a. let p = left_numbers used 0 client.last_number (sent_of client at) (unsent_in (client.entries at).phase)
      (s.numbers.rising at) w (subst (λ (l : List Pending). Among w l) same a) in
      SentFrom.Was p.0 (⊎_elim (λ apart. ap one_if apart) (λ none. clash (has_number used (sent_of client at)) has none) p.1);
  again = again;
}

with_again : (write : Option Pending) (phase : Phase) (parted : Parted) → phase_with write phase ≡ Phase.Reconnecting parted
    → phase ≡ Phase.Reconnecting parted
with_again write (Phase.Reconnecting other) parted e = e
with_again write phase parted e = let x : ⊥ = cc in absurd x

gone_again : (asking : Option Asked) (sent : List Pending) (parted : Parted)
    → (without_open asking sent).phase ≡ Phase.Reconnecting parted → ⊥
gone_again None sent parted e = cc
gone_again (Some asked) sent parted e = cc

gone_sent : (asking : Option Asked) (sent : List Pending) → (without_open asking sent).sent ≡ sent
gone_sent None sent = refl
gone_sent (Some asked) sent = refl

passed_from : (client : Client) (reply : Reply) → PassesOver client reply
    → StepFrom client (λ number. settles_of number reply) (quiet_step client)
passed_from client reply why = record {
  sends = SendsWrites.NoWrite tt;
  entries = λ file known. same_entry (client.entries file) (λ number. settles_of number reply)
      (λ w a. none reply why file known w a);
}
  where
    absent : (used file : ℕ) → file_where client (has_sent client used) ≡ None → knows_file client file ≡ true
        → (w : Pending) → Among w (sent_of client file) → one_if (used == w.number) ≡ 0
    absent used file gone known w a = ap one_if (not_true (used == w.number) (λ same. clash (has_sent client used file)
        (ap (λ n. has_number n (sent_of client file)) (eqb-true used w.number same) ∙ number_there w (sent_of client file) a)
        (never_found client (has_sent client used) file known gone)))

    none : (r : Reply) → PassesOver client r → (file : ℕ) → knows_file client file ≡ true → (w : Pending)
        → Among w (sent_of client file) → settles_of w.number r ≡ 0
    none (Reply.WriteDone id used) p file known w a = absent used file p known w a
    none (Reply.WriteFailed id used status) p file known w a = absent used file p known w a
    none reply p file known w a = refl

pub takes_from : (client : Client) → IsSoundClient client
    → HasTakes client (λ reply step. StepFrom client (λ number. settles_of number reply) step)
takes_from client s = record {
  passed = λ reply why. passed_from client reply why;
  parked_closes = λ at notice live found is parked. quiet_from client at _ (flush_sends client at _ live _ is (tt, tt) refl)
      (flush_entry (client.entries at) _ live live.unsent is (λ w a. a) refl closed_again);
  lowered = λ at notice live found is stays. lowered_from client at notice live (meet live.belief notice.lowered) is;
  opened = λ at file_id answer access share is. quiet_from client at _ (plain_sends client at _ tt)
      (plain_entry (client.entries at) _ refl (no_live_again _));
  reconnected = λ at file_id answer parted is. quiet_from client at _ (plain_sends client at _ tt)
      (plain_entry (client.entries at) _ refl (no_live_again _));
  promoted = λ at file_id answer live asked is asks. quiet_from client at _ (plain_sends client at _ (tt, tt))
      (plain_entry (client.entries at) _ refl (no_live_again _));
  not_opened = λ at status access share is. quiet_from client at _ (plain_sends client at _ tt)
      (plain_entry (client.entries at) _ refl closed_again);
  not_reconnected = λ at status parted is. quiet_from client at _ (plain_sends client at _ tt)
      (plain_entry (client.entries at) _ refl closed_again);
  not_promoted = λ at status live asked is asks. quiet_from client at _ (plain_sends client at _ tt)
      (plain_entry (client.entries at) _ refl (no_live_again _));
  read = λ at file_id bytes live is id some. quiet_from client at _ (plain_sends client at _ tt)
      (plain_entry (client.entries at) _ refl (no_live_again _));
  read_closed = λ at file_id status live is id gone. quiet_from client at _ (plain_sends client at _ tt)
      (plain_entry (client.entries at) _ (gone_sent live.asking _) (gone_again live.asking _));
  not_read = λ at file_id status live is id some. quiet_from client at _ (plain_sends client at _ tt)
      (plain_entry (client.entries at) _ refl (no_live_again _));
  written = λ at file_id number has known. turned_from client at _ _ (plain_sends client at _ tt)
      (left_entry client s at number has _ refl (with_again _ (client.entries at).phase))
      (λ file ne k. settles_one client s at number has file ne);
  write_closed = λ at file_id number status live has known is id gone. turned_from client at _ _ (plain_sends client at _ tt)
      (left_entry client s at number has _ (gone_sent live.asking _)
      (λ parted e. absurd (gone_again live.asking _ parted e)))
      (λ file ne k. settles_one client s at number has file ne);
  not_written = λ at file_id number status has known. turned_from client at _ _ (plain_sends client at _ tt)
      (left_entry client s at number has _ refl (λ parted e. e)) (λ file ne k. settles_one client s at number has file ne);
}
