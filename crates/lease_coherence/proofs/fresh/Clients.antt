-- What a client does keeps its bytes fresh.
use Rattle.lease_laws.proofs.Words.{◌+◌, ◌==◌, ◌∙◌, ◌∷◌, ◌≡◌, ◌≢◌, ◌≤◌, Answer, Bool, BreakNotice, Client, CreateAnswer, Entry}
use Rattle.lease_laws.proofs.Words.{Fact, FileRequest, IsSoundClient, IsSoundLive, IsSoundPhase, List, LiveEntry, None, Option}
use Rattle.lease_laws.proofs.Words.{Patch, Pending, Phase, Reply, Request, Some, State, Step, Turn, ℕ, [], ⊎_elim, ap, arith}
use Rattle.lease_laws.proofs.Words.{belief_in, bytes_eq, bytes_eq-Decides, content_of, create_request, eq-eqb, eqb-true, false}
use Rattle.lease_laws.proofs.Words.{has_sent, has_written, inl, is_key_of, is_numbered, knows_file, lease_key, list_any}
use Rattle.lease_laws.proofs.Words.{next_write, put, refl, subst, sym, true, true≢false, turned, wrote_step}
use Rattle.lease_laws.proofs.client.Thin.{put_other, put_same}
use Rattle.lease_laws.proofs.client.cases.Commands.{HasCommands}
use Rattle.lease_laws.proofs.client.cases.Files.{found_so, never_found}
use Rattle.lease_laws.proofs.client.cases.Replies.{PassesOver, is_live}
use Rattle.lease_laws.proofs.client.cases.Turns.{by_turn, step_of}
use Rattle.lease_laws.proofs.server.Lists.{clash, either, not_false, not_true, or_true}
use Rattle.lease_laws.proofs.world.Links.{by_client}
use Rattle.lease_coherence.specs.Creates.{answer_of, asked_by, one_if}
use Rattle.lease_coherence.specs.Names.{Each, WasWritten}
use Rattle.lease_coherence.proofs.beliefs.Forms.{IsAboutFile, keys_apart, writes_about, writes_close_about}
use Rattle.lease_coherence.proofs.beliefs.OneLease.{GivesNothing, OnGiven, is_ack_break}
use Rattle.lease_coherence.proofs.creates.Counts.{none_asked}
use Rattle.lease_coherence.proofs.fresh.FreshBytes.{AckReads, Follows, IsPatched, TellsBytes, reads_after, reads_by}
use Rattle.lease_coherence.proofs.names.NamedInRecord.{each_weaker}
use Rattle.lease_coherence.proofs.writes.Counts.{none_numbered, numbered_in, settles_of}
use Rattle.lease_coherence.proofs.writes.Steps.{IsKnownBy, IsOwnNumber}

-- ---- entries that stay live as they were

pub record WasSoLive (old : Phase) (now : LiveEntry) : Type 0 where
  pub live : LiveEntry
  pub was : old ≡ Phase.Live live
  pub belief : now.belief ≡ live.belief
  pub base : now.base ≡ live.base

-- each entry that is live was so, and no acknowledgment is sent
pub record KeepsLive (machine : Client) (step : Step) : Type 0 where
  pub live : (file : ℕ) (now : LiveEntry) → (step.client.entries file).phase ≡ Phase.Live now
      → WasSoLive (machine.entries file).phase now
  pub about : Each IsAboutFile step.requests

was_it : (old : Phase) (now : LiveEntry) → old ≡ Phase.Live now → WasSoLive old now
was_it old now is = record { live = now; was = is; belief = refl; base = refl }

one_live : (live other : LiveEntry) → Phase.Live other ≡ Phase.Live live → other ≡ live
one_live live other e = cc

pub stays_so : (old : Phase) (live next : LiveEntry) → old ≡ Phase.Live live → next.belief ≡ live.belief
    → next.base ≡ live.base → (now : LiveEntry) → Phase.Live next ≡ Phase.Live now → WasSoLive old now
stays_so old live next is belief base now e = let same = one_live now next e in record {
  live = live;
  was = is;
  belief = ap (λ (l : LiveEntry). l.belief) (sym same) ∙ belief;
  base = ap (λ (l : LiveEntry). l.base) (sym same) ∙ base;
}

pub not_live : (old new : Phase) → is_live new ≡ false → (now : LiveEntry) → new ≡ Phase.Live now → WasSoLive old now
not_live old new idle now e = clash (is_live new) (ap is_live e) idle

put_live : (machine : Client) (at : ℕ) (entry : Entry)
    → ((now : LiveEntry) → entry.phase ≡ Phase.Live now → WasSoLive (machine.entries at).phase now)
    → (file : ℕ) (now : LiveEntry) → (put machine.entries at entry file).phase ≡ Phase.Live now
    → WasSoLive (machine.entries file).phase now
put_live machine at entry here file now = by_client
    (λ f. (put machine.entries at entry f).phase ≡ Phase.Live now → WasSoLive (machine.entries f).phase now) at file
    (λ e. here now (ap (λ (x : Entry). x.phase) (sym (put_same machine.entries at entry)) ∙ e))
    (λ ne apart e. was_it (machine.entries file).phase now
    (ap (λ (x : Entry). x.phase) (sym (put_other machine.entries at entry file ne)) ∙ e))

pub turned_keeps : (machine : Client) (at : ℕ) (turn : Turn) → Each IsAboutFile turn.requests
    → ((now : LiveEntry) → turn.entry.phase ≡ Phase.Live now → WasSoLive (machine.entries at).phase now)
    → KeepsLive machine (turned machine at turn)
turned_keeps machine at turn about here = by_turn (KeepsLive machine) machine at turn
    (record { live = λ file now e. put_live machine at turn.entry here file now e; about = about })

wrote_keeps : (machine : Client) (at : ℕ) (entry : Entry) (answer : Answer) (requests : List Request) (write : Pending)
    → Each IsAboutFile requests → ((now : LiveEntry) → entry.phase ≡ Phase.Live now → WasSoLive (machine.entries at).phase now)
    → KeepsLive machine (wrote_step machine at entry answer requests write)
wrote_keeps machine at entry answer requests write about here =
    record { live = λ file now e. put_live machine at entry here file now e; about = about }

pub idle_keeps : (machine : Client) (answer : Answer) (notes : _)
    → KeepsLive machine (record { client = machine; answer = answer; requests = []; notes = notes })
idle_keeps machine answer notes =
    record { live = λ file now e. was_it (machine.entries file).phase now e; about = tt }

pub commands_keep : (machine : Client) → HasCommands machine (KeepsLive machine)
commands_keep machine = record {
  refused = λ refusal. idle_keeps machine (Answer.Refused refusal) [];
  opening = λ file terms is on. turned_keeps machine file _ (tt, tt)
      (not_live (machine.entries file).phase (Phase.Opening terms.access terms.share) refl);
  added = λ file live is. turned_keeps machine file _ tt (stays_so (machine.entries file).phase live _ is.is_so refl refl);
  asked = λ file live terms is idle some. turned_keeps machine file _ (tt, tt)
      (stays_so (machine.entries file).phase live _ is.is_so refl refl);
  anew = λ file live terms is idle none. turned_keeps machine file _
      (writes_close_about live.file_id live.unsent (create_request machine file terms ∷ []) (tt, tt))
      (not_live (machine.entries file).phase (Phase.Opening terms.access terms.share) refl);
  fewer = λ file live is more. turned_keeps machine file _ tt (stays_so (machine.entries file).phase live _ is.is_so refl refl);
  parked = λ file live is idle done stays. turned_keeps machine file _ tt
      (stays_so (machine.entries file).phase live _ is.is_so refl refl);
  closed = λ file live is idle done goes. turned_keeps machine file _
      (writes_close_about live.file_id live.unsent [] tt) (not_live (machine.entries file).phase Phase.Closed refl);
  cached = λ file live base is reads has. idle_keeps machine _ _;
  read = λ file live is idle. turned_keeps machine file _ (tt, tt)
      (stays_so (machine.entries file).phase live _ is.is_so refl refl);
  buffered = λ file live patch is fits caches. wrote_keeps machine file _ Answer.Done [] (next_write machine patch true) tt
      (stays_so (machine.entries file).phase live _ is.is_so refl refl);
  written = λ file live patch is fits sends. wrote_keeps machine file _ Answer.Waiting
      (Request.OnFile (FileRequest.Write live.file_id (machine.last_number + 1) patch) ∷ [])
      (next_write machine patch false) (tt, tt) (stays_so (machine.entries file).phase live _ is.is_so refl refl);
  flushed = λ file live is. turned_keeps machine file _ (writes_about live.file_id live.unsent)
      (stays_so (machine.entries file).phase live _ is.is_so refl refl);
}

-- ---- replies

-- what is known of a file where a reply is taken: the content at its place, and what comes behind it
pub record IsMetBy (c : ℕ) (machine : Client) (past : List Fact) (reply : Reply) (place : List Fact)
    (queue : List Reply) (file : ℕ) (old : List ℕ) : Type 0 where
  pub base : (live : LiveEntry) → (machine.entries file).phase ≡ Phase.Live live → (bytes : List ℕ)
      → live.base ≡ Some bytes → bytes ≡ old
  pub follows : (belief_in (machine.entries file).phase).read ≡ true → Follows c file past old (content_of file place) reply
  pub tells : TellsBytes c past place reply
  pub no_grant : is_live (machine.entries file).phase ≡ true → is_ack_break (lease_key machine.guid file) reply ≡ true
      → Each (OnGiven GivesNothing (lease_key machine.guid file) file) queue

-- and after it
pub record IsFreshAfter (machine : Client) (step : Step) (reply : Reply) (place : List Fact) (queue : List Reply)
    (file : ℕ) : Type 0 where
  pub reads : (belief_in (step.client.entries file).phase).read ≡ true
      → reads_by (lease_key machine.guid file) file (belief_in (machine.entries file).phase).read reply ≡ true
  pub base : (live : LiveEntry) → (step.client.entries file).phase ≡ Phase.Live live → (bytes : List ℕ)
      → live.base ≡ Some bytes → bytes ≡ content_of file place
  pub acks : Each (AckReads (lease_key machine.guid file) (reads_after (lease_key machine.guid file) file
      (belief_in (step.client.entries file).phase).read queue)) step.requests

-- what the other layers know of the reply
pub record IsDueTo (c : ℕ) (machine : Client) (past : List Fact) (reply : Reply) : Type 0 where
  pub asked : (file : ℕ) → answer_of file reply ≤ asked_by machine file
  pub sent : (file number : ℕ) → knows_file machine file ≡ true → IsOwnNumber c machine.last_number past file number
      → settles_of number reply ≤ numbered_in number (machine.entries file).sent

abbrev pub TakesFresh : ℕ → Client → List Fact → Reply → Step → Type 0
TakesFresh c machine past reply step = IsDueTo c machine past reply → (place : List Fact) (queue : List Reply)
    (file : ℕ) (old : List ℕ) → IsMetBy c machine past reply place queue file old
    → IsFreshAfter machine step reply place queue file

-- ---- words

pub sound_live : (machine : Client) (file : ℕ) (live : LiveEntry) → IsSoundClient machine
    → (machine.entries file).phase ≡ Phase.Live live → IsSoundLive live
sound_live machine file live s is = (subst (IsSoundPhase machine.is_online (machine.entries file).sent) is (s.entries file)).1

never_base : (base : Option (List ℕ)) (bytes : List ℕ) → base ≡ Some bytes → base ≡ None → ⊥
never_base base bytes e f = cc

-- a base is held under reads alone
pub base_reads : (machine : Client) (file : ℕ) (live : LiveEntry) (bytes : List ℕ) → IsSoundClient machine
    → (machine.entries file).phase ≡ Phase.Live live → live.base ≡ Some bytes → live.belief.read ≡ true
base_reads machine file live bytes s is b = not_false live.belief.read
    (λ none. never_base live.base bytes b ((sound_live machine file live s is).base_under_reads none))

pub live_known : (machine : Client) (file : ℕ) (live : LiveEntry) → IsSoundClient machine
    → (machine.entries file).phase ≡ Phase.Live live → knows_file machine file ≡ true
live_known machine file live s is = not_false (knows_file machine file)
    (λ unknown. no_live (sym is ∙ s.in_files file unknown))
  where
    no_live : Phase.Live live ≡ Phase.Closed → ⊥
    no_live e = cc

live_read : (phase : Phase) → (belief_in phase).read ≡ true → (live : LiveEntry) × (phase ≡ Phase.Live live)
live_read (Phase.Live live) w = (live, refl)
live_read phase w = absurd (true≢false (sym w))

about_acks : (key : List ℕ) (reads : Bool) (request : Request) → IsAboutFile request → AckReads key reads request
about_acks key reads (Request.OnFile request) about = tt
about_acks key reads (Request.Acknowledge given) about = absurd about

pub all_about : (key : List ℕ) (reads : Bool) (requests : List Request) → Each IsAboutFile requests
    → Each (AckReads key reads) requests
all_about key reads requests each = each_weaker IsAboutFile (AckReads key reads) requests (about_acks key reads) each

-- a reply that leaves what the file reads, and its content
pub record IsPlainFor (c : ℕ) (machine : Client) (past : List Fact) (reply : Reply) (file : ℕ) : Type 0 where
  pub reads : (belief_in (machine.entries file).phase).read ≡ true → reads_by (lease_key machine.guid file) file true reply ≡ true
  pub same : (belief_in (machine.entries file).phase).read ≡ true → (old new : List ℕ)
      → Follows c file past old new reply → new ≡ old

-- an entry that stays as it was
same_entry : (c : ℕ) (machine : Client) (past : List Fact) (reply : Reply) (step : Step) → IsSoundClient machine
    → (place : List Fact) (queue : List Reply) (file : ℕ) (old : List ℕ) → IsPlainFor c machine past reply file
    → ((now : LiveEntry) → (step.client.entries file).phase ≡ Phase.Live now → WasSoLive (machine.entries file).phase now)
    → Each (AckReads (lease_key machine.guid file) (reads_after (lease_key machine.guid file) file
    (belief_in (step.client.entries file).phase).read queue)) step.requests
    → IsMetBy c machine past reply place queue file old → IsFreshAfter machine step reply place queue file
same_entry c machine past reply step s place queue file old plain live acks m = record {
  reads = λ reads. let l = live_read (step.client.entries file).phase reads in
      let w = live l.0 l.1 in
      let was : (belief_in (machine.entries file).phase).read ≡ true =
      ap (λ p. (belief_in p).read) w.was ∙ ap (λ (b : State). b.read) (sym w.belief)
      ∙ ap (λ p. (belief_in p).read) (sym l.1) ∙ reads in
      ap (λ b. reads_by (lease_key machine.guid file) file b reply) was ∙ plain.reads was;
  base = λ now is bytes b. let w = live now is in
      let mine = sym w.base ∙ b in
      let reads : (belief_in (machine.entries file).phase).read ≡ true =
      ap (λ p. (belief_in p).read) w.was ∙ base_reads machine file w.live bytes s w.was mine in
      m.base w.live w.was bytes mine ∙ sym (plain.same reads old (content_of file place) (m.follows reads));
  acks = acks;
}

pub plain_fresh : (c : ℕ) (machine : Client) (past : List Fact) (reply : Reply) (step : Step) → IsSoundClient machine
    → KeepsLive machine step → (IsDueTo c machine past reply → (file : ℕ) → IsPlainFor c machine past reply file)
    → TakesFresh c machine past reply step
plain_fresh c machine past reply step s k plain due place queue file old m =
    same_entry c machine past reply step s place queue file old (plain due file) (k.live file)
    (all_about _ _ step.requests k.about) m

-- a turn of one file, by that file
pub turn_fresh : (c : ℕ) (machine : Client) (past : List Fact) (reply : Reply) (at : ℕ) (turn : Turn) → IsSoundClient machine
    → ((file : ℕ) → file ≢ at → IsPlainFor c machine past reply file)
    → ((file : ℕ) (reads : Bool) → file ≢ at → Each (AckReads (lease_key machine.guid file) reads) turn.requests)
    → ((place : List Fact) (queue : List Reply) (old : List ℕ) → IsMetBy c machine past reply place queue at old
    → IsFreshAfter machine (turned machine at turn) reply place queue at)
    → TakesFresh c machine past reply (turned machine at turn)
turn_fresh c machine past reply at turn s others acks here due place queue file old m = either (at == file)
    (λ same. subst (λ f. IsMetBy c machine past reply place queue f old
    → IsFreshAfter machine (turned machine at turn) reply place queue f) (eqb-true at file same) (here place queue old) m)
    (λ apart. let ne : file ≢ at = λ e. clash (at == file) (eq-eqb at file (sym e)) apart in
    by_turn (λ step. IsFreshAfter machine step reply place queue file) machine at turn
    (same_entry c machine past reply (step_of machine at turn) s place queue file old (others file ne)
    (λ now e. was_it (machine.entries file).phase now
    (ap (λ (x : Entry). x.phase) (sym (put_other machine.entries at turn.entry file ne)) ∙ e)) (acks file _ ne) m))

-- what the turn leaves at its file
pub here_fresh : (machine : Client) (reply : Reply) (at : ℕ) (turn : Turn) (place : List Fact) (queue : List Reply)
    → ((belief_in turn.entry.phase).read ≡ true
    → reads_by (lease_key machine.guid at) at (belief_in (machine.entries at).phase).read reply ≡ true)
    → ((live : LiveEntry) → turn.entry.phase ≡ Phase.Live live → (bytes : List ℕ) → live.base ≡ Some bytes
    → bytes ≡ content_of at place) → Each (AckReads (lease_key machine.guid at) (reads_after (lease_key machine.guid at) at
    (belief_in turn.entry.phase).read queue)) turn.requests → IsFreshAfter machine (turned machine at turn) reply place queue at
here_fresh machine reply at turn place queue reads base acks =
    let same = put_same machine.entries at turn.entry in
    by_turn (λ step. IsFreshAfter machine step reply place queue at) machine at turn (record {
      reads = λ e. reads (ap (λ (x : Entry). (belief_in x.phase).read) (sym same) ∙ e);
      base = λ live is bytes b. base live (ap (λ (x : Entry). x.phase) (sym same) ∙ is) bytes b;
      acks = subst (λ (x : Entry). Each (AckReads (lease_key machine.guid at) (reads_after (lease_key machine.guid at) at
          (belief_in x.phase).read queue)) turn.requests) (sym same) acks;
    })

-- ---- replies that are plain

pub created_elsewhere : (c : ℕ) (machine : Client) (past : List Fact) (at file_id : ℕ) (answer : CreateAnswer) (file : ℕ)
    → file ≢ at → IsPlainFor c machine past (Reply.Created at file_id (Some answer)) file
created_elsewhere c machine past at file_id answer file ne = record {
  reads = λ e. rw (not_true (at == file) (λ same. ne (sym (eqb-true at file same)))) refl;
  same = λ e old new f. f;
}

pub broken_elsewhere : (c : ℕ) (machine : Client) (past : List Fact) (at : ℕ) (notice : BreakNotice) (file : ℕ)
    → bytes_eq (lease_key machine.guid at) notice.key ≡ true → file ≢ at
    → IsPlainFor c machine past (Reply.Break (Some notice)) file
broken_elsewhere c machine past at notice file own ne = record {
  reads = λ e. rw (ap (bytes_eq (lease_key machine.guid file))
      (sym ((bytes_eq-Decides (lease_key machine.guid at) notice.key).0 own)) ∙ keys_apart machine.guid file at ne) refl;
  same = λ e old new f. f;
}

-- a number that was sent of one file is none of another's
pub number_elsewhere : (c : ℕ) (machine : Client) (past : List Fact) → IsKnownBy c machine past → (at number : ℕ)
    → has_sent machine number at ≡ true → (file : ℕ) → file ≢ at → (patch : Patch)
    → has_written c file number patch past ≡ true → ⊥
number_elsewhere c machine past k at number has file ne patch written = some (machine.entries at).sent (k.names at).sent has
  where
    some : (pending : List Pending) → Each (WasWritten c at past) pending → list_any (is_numbered number) pending ≡ true → ⊥
    some [] each e = true≢false (sym e)
    some (write ∷ pending) each e = ⊎_elim
        (λ here. ne (k.once file at number patch write.patch written
        (subst (λ n. has_written c at n write.patch past ≡ true) (eqb-true write.number number here) each.0)).file_is)
        (λ later. some pending each.1 later) (or_true (write.number == number) (list_any (is_numbered number) pending) e)

pub written_elsewhere : (c : ℕ) (machine : Client) (past : List Fact) → IsKnownBy c machine past → (at file_id number : ℕ)
    → has_sent machine number at ≡ true → (file : ℕ) → file ≢ at → IsPlainFor c machine past (Reply.WriteDone file_id number) file
written_elsewhere c machine past k at file_id number has file ne = record {
  reads = λ e. refl;
  same = λ e old new f. ⊎_elim
      (λ p. absurd (number_elsewhere c machine past k at number has file ne p.patch p.written)) (λ x. x.is) f;
}

-- a break is passed over by no live entry of its key
pub never_passed : (machine : Client) (notice : BreakNotice) → IsSoundClient machine
    → PassesOver machine (Reply.Break (Some notice)) → (file : ℕ) (live : LiveEntry)
    → (machine.entries file).phase ≡ Phase.Live live → bytes_eq (lease_key machine.guid file) notice.key ≡ true → ⊥
never_passed machine notice s why file live is own = ⊎_elim
    (λ absent. clash (is_key_of machine notice.key file) own
    (never_found machine (is_key_of machine notice.key) file (live_known machine file live s is) absent))
    (λ other. either (file == other.0)
    (λ same. clash (is_live (machine.entries file).phase) (ap is_live is)
    (ap (λ f. is_live (machine.entries f).phase) (eqb-true file other.0 same) ∙ other.2))
    (λ apart. clash (bytes_eq (lease_key machine.guid file) (lease_key machine.guid other.0))
    (ap (bytes_eq (lease_key machine.guid file))
    ((bytes_eq-Decides (lease_key machine.guid other.0) notice.key).0 (found_so machine (is_key_of machine notice.key) other.0
    other.1)) ∙ own)
    (keys_apart machine.guid file other.0 (λ same. clash (file == other.0) (eq-eqb file other.0 same) apart)))) why

-- a reply that is passed over
pub passed_plain : (c : ℕ) (machine : Client) (past : List Fact) (reply : Reply) → IsSoundClient machine
    → PassesOver machine reply → IsDueTo c machine past reply → (file : ℕ) → IsPlainFor c machine past reply file
passed_plain c machine past (Reply.Created at file_id None) s why due file =
    record { reads = λ e. refl; same = λ e old new f. f }
passed_plain c machine past (Reply.Created at file_id (Some answer)) s why due file = absurd (none (due.asked at))
  where
    none : one_if (at == at) ≤ asked_by machine at → ⊥
    none low = above (ap one_if (eq-eqb at at refl)) (ap one_if (none_asked (machine.entries at).phase why)) low
      where
        above : {a b : ℕ} → a ≡ 1 → b ≡ 0 → a ≤ b → ⊥
        above e f h = omega (arith, e, f, h)
passed_plain c machine past (Reply.CreateFailed at status) s why due file =
    record { reads = λ e. refl; same = λ e old new f. f }
passed_plain c machine past (Reply.ReadDone file_id bytes) s why due file =
    record { reads = λ e. refl; same = λ e old new f. f }
passed_plain c machine past (Reply.ReadFailed file_id status) s why due file =
    record { reads = λ e. refl; same = λ e old new f. f }
passed_plain c machine past (Reply.WriteDone file_id number) s why due file = record {
  reads = λ e. refl;
  same = λ e old new f. ⊎_elim (λ p. absurd (never (live_read (machine.entries file).phase e) p)) (λ x. x.is) f;
}
  where
    never : {old new : List ℕ} → ((live : LiveEntry) × ((machine.entries file).phase ≡ Phase.Live live))
        → IsPatched c file number past old new → ⊥
    never l p =
        let known = live_known machine file l.0 s l.1 in
        above (ap one_if (eq-eqb number number refl)) (none_numbered number (machine.entries file).sent
        (never_found machine (has_sent machine number) file known why)) (due.sent file number known (inl (p.patch, p.written)))
      where
        above : {a b : ℕ} → a ≡ 1 → b ≡ 0 → a ≤ b → ⊥
        above e f h = omega (arith, e, f, h)
passed_plain c machine past (Reply.Break (Some notice)) s why due file = record {
  reads = λ e. let l = live_read (machine.entries file).phase e in
      rw (not_true (bytes_eq (lease_key machine.guid file) notice.key) (λ own. never_passed machine notice s why file l.0 l.1
      own)) refl;
  same = λ e old new f. f;
}
passed_plain c machine past reply s why due file = record { reads = λ e. refl; same = λ e old new f. f }
