-- Each form of a reply that is taken keeps the bytes fresh.
use Rattle.lease_laws.proofs.Words.{◌&&◌, ◌==◌, ◌∙◌, ◌∷◌, ◌≡◌, ◌≢◌, Among, Answer, Asked, Bool, BreakNotice, Client}
use Rattle.lease_laws.proofs.Words.{CreateAnswer, Fact, IsSoundClient, LeaseGiven, List, LiveEntry, None, Option, Pending}
use Rattle.lease_laws.proofs.Words.{Phase, Reply, Request, Some, State, Turn, ℕ, [], ⊎_elim, acknowledgment, ap, base_with}
use Rattle.lease_laws.proofs.Words.{belief_in, belief_lowered, bytes_eq, bytes_eq-Decides, content_of, eq-eqb, eqb-true, false}
use Rattle.lease_laws.proofs.Words.{find, flushed, given_state, has_sent, has_written, if◌then◌else◌, inl, is_key_of}
use Rattle.lease_laws.proofs.Words.{is_numbered, lease_key, list_any, meet, not, nothing_cached, parked_closed, phase_with}
use Rattle.lease_laws.proofs.Words.{promoted_belief, quiet_step, read_turn, refl, subst, sym, true, true≢false, turned}
use Rattle.lease_laws.proofs.Words.{was_opened, without_open, write_done_turn, write_requests}
use Rattle.lease_state.specs.Content.{patch as patched}
use Rattle.lease_laws.proofs.client.cases.Commands.{sent_of}
use Rattle.lease_laws.proofs.client.cases.Files.{find_absent, found_so}
use Rattle.lease_laws.proofs.client.cases.Replies.{HasTakes, is_live}
use Rattle.lease_laws.proofs.server.Lists.{and_both, clash, find_has, if_cases, or_true}
use Rattle.lease_coherence.specs.Names.{Each, IsNamedPhase, WasWritten}
use Rattle.lease_coherence.proofs.beliefs.Forms.{IsAboutFile, keys_apart, writes_about, writes_close_about}
use Rattle.lease_coherence.proofs.fresh.Clients.{IsMetBy, TakesFresh, all_about, base_reads, broken_elsewhere}
use Rattle.lease_coherence.proofs.fresh.Clients.{created_elsewhere, here_fresh, idle_keeps, not_live, number_elsewhere}
use Rattle.lease_coherence.proofs.fresh.Clients.{passed_plain, plain_fresh, stays_so, turn_fresh, turned_keeps}
use Rattle.lease_coherence.proofs.fresh.Clients.{written_elsewhere}
use Rattle.lease_coherence.proofs.fresh.FreshBytes.{AckReads, Follows, HasBytes, after_nothing, given_reads, reads_after}
use Rattle.lease_coherence.proofs.fresh.FreshBytes.{reads_by}
use Rattle.lease_coherence.proofs.names.NamedInRecord.{each_append, opened_once}
use Rattle.lease_coherence.proofs.writes.Steps.{IsKnownBy}

one_live : (live other : LiveEntry) → Phase.Live other ≡ Phase.Live live → other ≡ live
one_live live other e = cc

-- ---- grants

-- a state that is given reads as the queue says
given_by : (key : List ℕ) (reads : Bool) (given : Option LeaseGiven) → (given_state key given).read ≡ true
    → given_reads key reads given ≡ true
given_by key reads None e = absurd (true≢false (sym e))
given_by key reads (Some given) e = by_cases given.in_progress (bytes_eq given.key key) e
  where
    by_cases : (busy own : Bool) → (if own && not busy then given.state else nothing_cached).read ≡ true
        → (if busy then reads else (own && given.state.read)) ≡ true
    by_cases true true h = absurd (true≢false (sym h))
    by_cases true false h = absurd (true≢false (sym h))
    by_cases false true h = h
    by_cases false false h = absurd (true≢false (sym h))

promoted_by : (key : List ℕ) (belief : State) (given : Option LeaseGiven)
    → (promoted_belief key belief given).read ≡ true → given_reads key belief.read given ≡ true
promoted_by key belief None e = absurd (true≢false (sym e))
promoted_by key belief (Some given) e = by_cases given.in_progress (bytes_eq given.key key) e
  where
    by_cases : (busy own : Bool) → (if busy then belief else (if own then given.state else nothing_cached)).read ≡ true
        → (if busy then belief.read else (own && given.state.read)) ≡ true
    by_cases true own h = h
    by_cases false true h = h
    by_cases false false h = absurd (true≢false (sym h))

-- the entry of the file that is granted
created_here : (machine : Client) (at file_id : ℕ) (answer : CreateAnswer) (reads : Bool)
    → given_reads (lease_key machine.guid at) reads answer.lease ≡ true
    → reads_by (lease_key machine.guid at) at reads (Reply.Created at file_id (Some answer)) ≡ true
created_here machine at file_id answer reads e = rw (eq-eqb at at refl) e

no_base : (bytes : List ℕ) → None ≡ Some bytes → ⊥
no_base bytes e = cc

-- an entry that becomes live without a base
new_fresh : (c : ℕ) (machine : Client) (past : List Fact) (at file_id : ℕ) (answer : CreateAnswer) (turn : Turn)
    (next : LiveEntry) → IsSoundClient machine → turn.entry.phase ≡ Phase.Live next → turn.requests ≡ []
    → next.base ≡ None → next.belief ≡ given_state (lease_key machine.guid at) answer.lease
    → TakesFresh c machine past (Reply.Created at file_id (Some answer)) (turned machine at turn)
new_fresh c machine past at file_id answer turn next s is none bare given =
    turn_fresh c machine past (Reply.Created at file_id (Some answer)) at turn s
    (λ file ne. created_elsewhere c machine past at file_id answer file ne)
    (λ file reads ne. subst (Each (AckReads (lease_key machine.guid file) reads)) (sym none) tt)
    (λ place queue old m. here_fresh machine (Reply.Created at file_id (Some answer)) at turn place queue
    (λ e. created_here machine at file_id answer _ (given_by (lease_key machine.guid at) _ answer.lease
    (ap (λ (b : State). b.read) (sym given) ∙ ap (λ p. (belief_in p).read) (sym is) ∙ e)))
    (λ live now bytes b. absurd (no_base bytes
    (sym bare ∙ ap (λ (l : LiveEntry). l.base) (one_live live next (sym is ∙ now)) ∙ b)))
    (subst (Each (AckReads (lease_key machine.guid at) _)) (sym none) tt))

-- one that asked for more
more_fresh : (c : ℕ) (machine : Client) (past : List Fact) (at file_id : ℕ) (answer : CreateAnswer) (turn : Turn)
    (live next : LiveEntry) → IsSoundClient machine → (machine.entries at).phase ≡ Phase.Live live
    → turn.entry.phase ≡ Phase.Live next → Each IsAboutFile turn.requests
    → ((bytes : List ℕ) → next.base ≡ Some bytes → live.base ≡ Some bytes)
    → next.belief ≡ promoted_belief (lease_key machine.guid at) live.belief answer.lease
    → TakesFresh c machine past (Reply.Created at file_id (Some answer)) (turned machine at turn)
more_fresh c machine past at file_id answer turn live next s was is about base given =
    turn_fresh c machine past (Reply.Created at file_id (Some answer)) at turn s
    (λ file ne. created_elsewhere c machine past at file_id answer file ne)
    (λ file reads ne. all_about (lease_key machine.guid file) reads turn.requests about)
    (λ place queue old m. here_fresh machine (Reply.Created at file_id (Some answer)) at turn place queue
    (λ e. created_here machine at file_id answer _
    (subst (λ p. given_reads (lease_key machine.guid at) (belief_in p).read answer.lease ≡ true) (sym was)
    (promoted_by (lease_key machine.guid at) live.belief answer.lease
    (ap (λ (b : State). b.read) (sym given) ∙ ap (λ p. (belief_in p).read) (sym is) ∙ e))))
    (λ now so bytes b.
    let mine = base bytes (ap (λ (l : LiveEntry). l.base) (one_live now next (sym is ∙ so)) ∙ b) in
    m.base live was bytes mine ∙ sym (m.follows (ap (λ p. (belief_in p).read) was ∙ base_reads machine at live bytes s was mine)))
    (all_about (lease_key machine.guid at) _ turn.requests about))

-- ---- breaks

ack_elsewhere : (machine : Client) (file at : ℕ) (notice : BreakNotice) (state : State) (reads : Bool) → file ≢ at
    → bytes_eq (lease_key machine.guid at) notice.key ≡ true
    → Each (AckReads (lease_key machine.guid file) reads) (acknowledgment notice state)
ack_elsewhere machine file at notice state reads ne own = if_cases (Each (AckReads (lease_key machine.guid file) reads))
    notice.ack_required (Request.Acknowledge (Some (record { key = notice.key; state = state })) ∷ []) []
    (λ required. (
      λ same r. clash (bytes_eq (lease_key machine.guid file) (lease_key machine.guid at))
          (ap (bytes_eq (lease_key machine.guid file)) ((bytes_eq-Decides (lease_key machine.guid at) notice.key).0 own) ∙ same)
          (keys_apart machine.guid file at ne),
      tt,
    ))
    (λ plain. tt)

-- what is lowered, and told so
lowered_fresh : (c : ℕ) (machine : Client) (past : List Fact) (at : ℕ) (notice : BreakNotice) (live : LiveEntry)
    (new : State) → IsSoundClient machine → bytes_eq (lease_key machine.guid at) notice.key ≡ true
    → (machine.entries at).phase ≡ Phase.Live live → new ≡ meet live.belief notice.lowered
    → TakesFresh c machine past (Reply.Break (Some notice))
    (turned machine at (belief_lowered live (sent_of machine at) notice new))
lowered_fresh c machine past at notice live new s own was is =
    let writes = write_requests live.file_id (flushed live.belief new live.unsent) in
    let about = writes_about live.file_id (flushed live.belief new live.unsent) in
    turn_fresh c machine past (Reply.Break (Some notice)) at _ s
    (λ file ne. broken_elsewhere c machine past at notice file own ne)
    (λ file reads ne. each_append (AckReads (lease_key machine.guid file) reads) writes (acknowledgment notice new)
    (all_about (lease_key machine.guid file) reads writes about) (ack_elsewhere machine file at notice new reads ne own))
    (λ place queue old m. here_fresh machine (Reply.Break (Some notice)) at _ place queue
    (λ e. read_so e)
    (λ now so bytes b.
    let mine = kept_base new.read live.base bytes (ap (λ (l : LiveEntry). l.base) (one_live now _ so) ∙ b) in
    m.base live was bytes mine ∙ sym (m.follows (ap (λ p. (belief_in p).read) was ∙ base_reads machine at live bytes s was mine)))
    (each_append (AckReads (lease_key machine.guid at) (reads_after (lease_key machine.guid at) at new.read queue)) writes
    (acknowledgment notice new) (all_about (lease_key machine.guid at) _ writes about)
    (if_cases (Each (AckReads (lease_key machine.guid at) (reads_after (lease_key machine.guid at) at new.read queue)))
    notice.ack_required (Request.Acknowledge (Some (record { key = notice.key; state = new })) ∷ []) []
    (λ required. (
      λ same left. after_nothing (lease_key machine.guid at) at new.read queue
          (m.no_grant (ap is_live was) (and_both notice.ack_required (bytes_eq (lease_key machine.guid at) notice.key)
          required own)) left,
      tt,
    ))
    (λ plain. tt))))
  where
    kept_base : (b : Bool) (base : Option (List ℕ)) (bytes : List ℕ) → (if b then base else None) ≡ Some bytes → base ≡ Some bytes
    kept_base true base bytes e = e
    kept_base false base bytes e = absurd (no_base bytes e)

    read_so : new.read ≡ true → reads_by (lease_key machine.guid at) at (belief_in (machine.entries at).phase).read
        (Reply.Break (Some notice)) ≡ true
    read_so e = rw (own) (subst (λ p. ((belief_in p).read && notice.lowered.read) ≡ true) (sym was)
        (ap (λ (b : State). b.read) (sym is) ∙ e))

parked_fresh : (c : ℕ) (machine : Client) (past : List Fact) (at : ℕ) (notice : BreakNotice) (live : LiveEntry)
    → IsSoundClient machine → bytes_eq (lease_key machine.guid at) notice.key ≡ true
    → TakesFresh c machine past (Reply.Break (Some notice)) (turned machine at (parked_closed live (sent_of machine at)))
parked_fresh c machine past at notice live s own = turn_fresh c machine past (Reply.Break (Some notice)) at _ s
    (λ file ne. broken_elsewhere c machine past at notice file own ne)
    (λ file reads ne. all_about (lease_key machine.guid file) reads _ (writes_close_about live.file_id live.unsent [] tt))
    (λ place queue old m. here_fresh machine (Reply.Break (Some notice)) at _ place queue
    (λ e. absurd (true≢false (sym e))) (λ now so bytes b. absurd (no_live now so))
    (all_about (lease_key machine.guid at) _ _ (writes_close_about live.file_id live.unsent [] tt)))
  where
    no_live : (now : LiveEntry) → Phase.Closed ≡ Phase.Live now → ⊥
    no_live now e = cc

-- ---- reads and writes

read_fresh : (c : ℕ) (machine : Client) (past : List Fact) (at file_id : ℕ) (bytes : List ℕ) (live : LiveEntry)
    → IsSoundClient machine → IsKnownBy c machine past → (machine.entries at).phase ≡ Phase.Live live → live.file_id ≡ file_id
    → TakesFresh c machine past (Reply.ReadDone file_id bytes) (turned machine at (read_turn live (sent_of machine at) bytes))
read_fresh c machine past at file_id bytes live s k was id = turn_fresh c machine past (Reply.ReadDone file_id bytes) at _ s
    (λ file ne. record { reads = λ e. refl; same = λ e old new f. f })
    (λ file reads ne. tt)
    (λ place queue old m. here_fresh machine (Reply.ReadDone file_id bytes) at _ place queue
    (λ e. ap (λ p. (belief_in p).read) was ∙ e)
    (λ now so b e. by_read place live.belief.read refl b (ap (λ (l : LiveEntry). l.base) (one_live now _ so) ∙ e) m.tells) tt)
  where
    own_file : was_opened live.file_id at c past ≡ true
    own_file = let n : IsNamedPhase c at past (Phase.Live live) = subst (IsNamedPhase c at past) was (k.names at).phase in
        n.0

    some_bytes : (a b : List ℕ) → Some a ≡ Some b → a ≡ b
    some_bytes a b e = cc

    by_read : (place : List Fact) (reads : Bool) → live.belief.read ≡ reads → (b : List ℕ)
        → (if reads then Some bytes else live.base) ≡ Some b → HasBytes c file_id past place bytes → b ≡ content_of at place
    by_read place true r b e t = sym (some_bytes bytes b e) ∙ t.is
        ∙ ap (λ f. content_of f place) (opened_once file_id t.file c at c past t.opened
        (subst (λ i. was_opened i at c past ≡ true) id own_file))
    by_read place false r b e t = clash live.belief.read (base_reads machine at live b s was e) r

-- a write that is found among those that were sent
record IsFound (pending : List Pending) (number : ℕ) : Type 0 where
  write : Pending
  found : find (is_numbered number) pending ≡ Some write
  there : Among write pending
  numbered : write.number ≡ number

found_write : (pending : List Pending) (number : ℕ) → list_any (is_numbered number) pending ≡ true → IsFound pending number
found_write pending number has = by_find (find (is_numbered number) pending) refl
  where
    by_find : (found : Option Pending) → find (is_numbered number) pending ≡ found → IsFound pending number
    by_find None e = absurd (none pending has e)
      where
        never : (write : Pending) → Some write ≡ None → ⊥
        never write e = cc

        none : (ws : List Pending) → list_any (is_numbered number) ws ≡ true → find (is_numbered number) ws ≡ None → ⊥
        none [] h f = true≢false (sym h)
        none (w ∷ ws) h f = ⊎_elim
            (λ here. clash (w.number == number) here (find_absent (is_numbered number) w (w ∷ ws) f (inl refl)))
            (λ later. if_cases (λ (o : Option Pending). o ≡ None → ⊥) (w.number == number) (Some w)
            (find (is_numbered number) ws) (λ same e. never w e) (λ other e. none ws later e) f)
            (or_true (w.number == number) (list_any (is_numbered number) ws) h)
    by_find (Some write) e = let p = find_has (is_numbered number) write pending e in
        record { write = write; found = e; there = p.0; numbered = eqb-true write.number number p.1 }

each_among : (P : Pending → Type 0) (pending : List Pending) (write : Pending) → Each P pending → Among write pending → P write
each_among P [] write each a = absurd a
each_among P (w ∷ pending) write each a =
    ⊎_elim (λ same. subst P (sym same) each.0) (λ later. each_among P pending write each.1 later) a

written_fresh : (c : ℕ) (machine : Client) (past : List Fact) (at file_id number : ℕ) → IsSoundClient machine
    → IsKnownBy c machine past → has_sent machine number at ≡ true → TakesFresh c machine past (Reply.WriteDone file_id number)
    (turned machine at (write_done_turn number (machine.entries at)))
written_fresh c machine past at file_id number s k has = turn_fresh c machine past (Reply.WriteDone file_id number) at _ s
    (λ file ne. written_elsewhere c machine past k at file_id number has file ne)
    (λ file reads ne. tt)
    (λ place queue old m. here_fresh machine (Reply.WriteDone file_id number) at _ place queue
    (λ e. same_reads _ (machine.entries at).phase e)
    (λ now so bytes b. by_phase (machine.entries at).phase refl place queue old m now so bytes b) tt)
  where
    f : IsFound (machine.entries at).sent number
    f = found_write (machine.entries at).sent number has

    same_reads : (write : Option Pending) (phase : Phase) → (belief_in (phase_with write phase)).read ≡ true
        → (belief_in phase).read ≡ true
    same_reads write Phase.Closed e = e
    same_reads write phase e = e

    patched_so : (write : Pending) (base : Option (List ℕ)) (bytes : List ℕ) → base_with (Some write) base ≡ Some bytes
        → (was : List ℕ) × (base ≡ Some was) × (bytes ≡ patched was write.patch)
    patched_so write None bytes e = absurd (no_base bytes e)
    patched_so write (Some was) bytes e = (was, refl, sym (some_same (patched was write.patch) bytes e))
      where
        some_same : (a b : List ℕ) → Some a ≡ Some b → a ≡ b
        some_same a b e = cc

    follow : (old new : List ℕ) → Follows c at past old new (Reply.WriteDone file_id number) → new ≡ patched old (f.write).patch
    follow old new h = ⊎_elim
        (λ p. p.is ∙ ap (patched old) (k.once at at number p.patch (f.write).patch p.written mine).patch_is)
        (λ e. absurd (number_elsewhere c machine past k at number has e.other e.apart e.patch e.written)) h
      where
        mine : has_written c at number (f.write).patch past ≡ true
        mine = subst (λ n. has_written c at n (f.write).patch past ≡ true) f.numbered
            (each_among (WasWritten c at past) (machine.entries at).sent f.write (k.names at).sent f.there)

    by_phase : (phase : Phase) → (machine.entries at).phase ≡ phase → (place : List Fact) (queue : List Reply)
        (old : List ℕ) → IsMetBy c machine past (Reply.WriteDone file_id number) place queue at old → (now : LiveEntry)
        → phase_with (find (is_numbered number) (machine.entries at).sent) phase ≡ Phase.Live now
        → (bytes : List ℕ) → now.base ≡ Some bytes → bytes ≡ content_of at place
    by_phase (Phase.Live live) is place queue old m now so bytes b =
        let p = patched_so f.write live.base bytes (ap (λ w. base_with w live.base) (sym f.found)
        ∙ ap (λ (l : LiveEntry). l.base) (one_live now _ so) ∙ b) in
        p.2 ∙ ap (λ x. patched x (f.write).patch) (m.base live is p.0 p.1) ∙ sym (follow old (content_of at place)
        (m.follows (ap (λ q. (belief_in q).read) is ∙ base_reads machine at live p.0 s is p.1)))
    by_phase phase is place queue old m now so bytes b = let x : ⊥ = cc in absurd x

-- ---- failures

gone_idle : (asking : Option Asked) (sent : List Pending) → is_live (without_open asking sent).phase ≡ false
gone_idle None sent = refl
gone_idle (Some asked) sent = refl

-- ---- every reply

pub takes_fresh : (c : ℕ) (machine : Client) (past : List Fact) → IsSoundClient machine → IsKnownBy c machine past
    → HasTakes machine (TakesFresh c machine past)
takes_fresh c machine past s k = record {
  passed = λ reply why. plain_fresh c machine past reply (quiet_step machine) s (idle_keeps machine Answer.Quiet [])
      (passed_plain c machine past reply s why);
  parked_closes = λ at notice live found is parked. parked_fresh c machine past at notice live s
      (found_so machine (is_key_of machine notice.key) at found);
  lowered = λ at notice live found is stays. lowered_fresh c machine past at notice live _ s
      (found_so machine (is_key_of machine notice.key) at found) is refl;
  opened = λ at file_id answer access share is. new_fresh c machine past at file_id answer _ _ s refl refl refl refl;
  reconnected = λ at file_id answer parted is. new_fresh c machine past at file_id answer _ _ s refl refl refl refl;
  promoted = λ at file_id answer live asked is asks. more_fresh c machine past at file_id answer _ live _ s is refl
      (tt, tt) (λ bytes b. kept (promoted_belief (lease_key machine.guid at) live.belief answer.lease).read live.base bytes b)
      refl;
  not_opened = λ at status access share is. plain_fresh c machine past (Reply.CreateFailed at status) _ s
      (turned_keeps machine at _ tt (not_live (machine.entries at).phase Phase.Closed refl))
      (λ due file. record { reads = λ e. refl; same = λ e old new f. f });
  not_reconnected = λ at status parted is. plain_fresh c machine past (Reply.CreateFailed at status) _ s
      (turned_keeps machine at _ tt (not_live (machine.entries at).phase Phase.Closed refl))
      (λ due file. record { reads = λ e. refl; same = λ e old new f. f });
  not_promoted = λ at status live asked is asks. plain_fresh c machine past (Reply.CreateFailed at status) _ s
      (turned_keeps machine at _ tt (stays_so (machine.entries at).phase live _ is refl refl))
      (λ due file. record { reads = λ e. refl; same = λ e old new f. f });
  read = λ at file_id bytes live is id some. read_fresh c machine past at file_id bytes live s k is id;
  read_closed = λ at file_id status live is id gone. plain_fresh c machine past (Reply.ReadFailed file_id status) _ s
      (turned_keeps machine at _ tt (not_live (machine.entries at).phase _ (gone_idle live.asking _)))
      (λ due file. record { reads = λ e. refl; same = λ e old new f. f });
  not_read = λ at file_id status live is id some. plain_fresh c machine past (Reply.ReadFailed file_id status) _ s
      (turned_keeps machine at _ tt (stays_so (machine.entries at).phase live _ is refl refl))
      (λ due file. record { reads = λ e. refl; same = λ e old new f. f });
  written = λ at file_id number has known. written_fresh c machine past at file_id number s k has;
  write_closed = λ at file_id number status live has known is id gone.
      plain_fresh c machine past (Reply.WriteFailed file_id number status) _ s
      (turned_keeps machine at _ tt (not_live (machine.entries at).phase _ (gone_idle live.asking _)))
      (λ due file. record { reads = λ e. refl; same = λ e old new f. f });
  not_written = λ at file_id number status has known. plain_fresh c machine past (Reply.WriteFailed file_id number status) _ s
      (turned_keeps machine at _ tt (λ now e. stays_so (machine.entries at).phase now now e refl refl now refl))
      (λ due file. record { reads = λ e. refl; same = λ e old new f. f });
}
  where
    kept : (b : Bool) (base : Option (List ℕ)) (bytes : List ℕ) → (if b then base else None) ≡ Some bytes → base ≡ Some bytes
    kept true base bytes e = e
    kept false base bytes e = absurd (no_base bytes e)
