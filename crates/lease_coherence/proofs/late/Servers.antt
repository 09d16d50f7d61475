-- What the server does for a client leaves its writes safe.
use Rattle.lease_laws.proofs.Words.{◌&&◌, ◌++◌, ◌+◌, ◌==◌, ◌||◌, ◌∙◌, ◌∷◌, ◌≡◌, ◌⊎◌, Among, Bool, Client, FileRequest, Held}
use Rattle.lease_laws.proofs.Words.{IsBlockedBy, IsSound, Key, Lease, List, LiveEntry, Open, Option, Parted, Patch, Pending}
use Rattle.lease_laws.proofs.Words.{Phase, Reply, Request, Server, Some, State, World, ℕ, [], ⊎_elim, ap, ap₂, arith, bytes_eq}
use Rattle.lease_laws.proofs.Words.{eq-eqb, eqb-true, false, given_state, has_key, has_own_key, has_written}
use Rattle.lease_laws.proofs.Words.{held_of, if◌then◌else◌, inl, inr, is_breaking, is_key, is_touched}
use Rattle.lease_laws.proofs.Words.{knows_file, lease_granted, lease_key, machine_key, not, nothing_cached, refl, subst, suc}
use Rattle.lease_laws.proofs.Words.{sym, true, true≢false, was_opened, with_opens, without, zero}
use Rattle.lease_laws.proofs.client.Thin.{put_same}
use Rattle.lease_laws.proofs.server.Keys.{is_key-refl}
use Rattle.lease_laws.proofs.server.Lists.{among_filter, and_parts, clash, either, has_any, if_cases, not_true, or_true}
use Rattle.lease_laws.proofs.server.PassWaits.{among_more}
use Rattle.lease_laws.proofs.server.cases.Grants.{any_grant}
use Rattle.lease_coherence.specs.Creates.{held_by, one_if}
use Rattle.lease_coherence.specs.Names.{Each, IsNamedAt, IsNamedPhase, IsNamedRequest, IsOwnOpen, WasWritten, WasWrittenOn}
use Rattle.lease_coherence.specs.Standing.{AllAsked, IsOpenFor, Stands}
use Rattle.lease_coherence.proofs.beliefs.Closed.{lease_stays}
use Rattle.lease_coherence.proofs.beliefs.OneLease.{acks}
use Rattle.lease_coherence.proofs.beliefs.Trust.{file_key}
use Rattle.lease_coherence.proofs.late.Likes.{acks_like, asked_both, grants_last, grants_like, held_up, named_asked, same_past}
use Rattle.lease_coherence.proofs.late.Likes.{writes_up}
use Rattle.lease_coherence.proofs.late.SafeWrites.{AcksKeep, GrantSafe, GrantsSafe, IsLike, IsSafeAt, IsSafeUp, KnowsIds}
use Rattle.lease_coherence.proofs.late.SafeWrites.{PhaseSafe, StillHolds, WasOpen, WriteSafe, given_writes, holds_write}
use Rattle.lease_coherence.proofs.late.SafeWrites.{phase_like, same_key}
use Rattle.lease_coherence.proofs.moves.Deeds.{IsSource, with_held}
use Rattle.lease_coherence.proofs.moves.Ground.{among_put}
use Rattle.lease_coherence.proofs.moves.Moves.{popped, rest_of}
use Rattle.lease_coherence.proofs.moves.Own.{is_bare}
use Rattle.lease_coherence.proofs.names.NamedInRecord.{each_rest, opened_once}
use Rattle.lease_coherence.proofs.order.OrderedRequests.{WriteStands, WriteStandsOn}
use Rattle.lease_coherence.proofs.standing.StandingOpens.{asked_off, asked_popped}
use Rattle.lease_coherence.proofs.writes.Counts.{held_writes, numbered_in, settling, write_of, writes, writes_left}
use Rattle.lease_coherence.proofs.writes.Steps.{IsKnownBy, IsSentOnce}

-- ---- entries

named_live : (world : World) (c : ℕ) → IsNamedAt world c → (file : ℕ) (phase : Phase)
    → ((world.clients c).entries file).phase ≡ phase → IsNamedPhase c file world.past phase
named_live world c n file phase is = subst (IsNamedPhase c file world.past) is (n.entries file).phase

pub live_id : (c file : ℕ) (past : _) (phase : Phase) → IsNamedPhase c file past phase → (live : LiveEntry)
    → phase ≡ Phase.Live live → was_opened live.file_id file c past ≡ true
live_id c file past phase n live is = let m : IsNamedPhase c file past (Phase.Live live) =
    subst (IsNamedPhase c file past) is n in m.0

pub parted_id : (c file : ℕ) (past : _) (phase : Phase) → IsNamedPhase c file past phase → (parted : Parted)
    → (phase ≡ Phase.Offline parted) ⊎ (phase ≡ Phase.Reconnecting parted) → was_opened parted.file_id file c past ≡ true
parted_id c file past phase n parted is = ⊎_elim
    (λ e. let m : IsNamedPhase c file past (Phase.Offline parted) = subst (IsNamedPhase c file past) e n in m.0)
    (λ e. let m : IsNamedPhase c file past (Phase.Reconnecting parted) = subst (IsNamedPhase c file past) e n in m.0) is

-- where each kind of entry finds writes still held
pub record EntryHolds (world new : World) (c : ℕ) : Type 0 where
  pub live : (file : ℕ) (live : LiveEntry) → ((world.clients c).entries file).phase ≡ Phase.Live live
      → live.belief.write ≡ true → (x : Open) → Among x new.server.opens → x.client ≡ c → x.file ≡ file
      → holds_write world c file ≡ true → holds_write new c file ≡ true
  pub parted : (file : ℕ) (parted : Parted) → (((world.clients c).entries file).phase ≡ Phase.Offline parted)
      ⊎ (((world.clients c).entries file).phase ≡ Phase.Reconnecting parted)
      → (x : Open) → Among x new.server.opens → x.client ≡ c → x.file ≡ file
      → holds_write world c file ≡ true → holds_write new c file ≡ true

pub all_hold : (world new : World) (c : ℕ) → StillHolds world new c → EntryHolds world new c
all_hold world new c holds = record {
  live = λ file live is write x there by on h. holds file x there by on h;
  parted = λ file parted is x there by on h. holds file x there by on h;
}

pub entries_like : (world new : World) (c : ℕ) → IsLike world new c → KnowsIds world c → IsNamedAt world c
    → EntryHolds world new c → IsSafeAt world c → IsSafeAt new c
entries_like world new c like ids n holds safe file =
    subst (λ (m : Client). PhaseSafe new c file (m.entries file).sent (m.entries file).phase) (sym like.machine)
    (phase_like world new c file ((world.clients c).entries file).sent ((world.clients c).entries file).phase like ids
    (λ live is. live_id c file world.past ((world.clients c).entries file).phase (n.entries file).phase live is)
    (λ parted is. parted_id c file world.past ((world.clients c).entries file).phase (n.entries file).phase parted is)
    (λ live is. holds.live file live is) (λ parted is. holds.parted file parted is) (safe file))

-- ---- what leaves the queue

acks_rest : (world : World) (c : ℕ) (queue : List Request) → AcksKeep world c queue → AcksKeep world c (rest_of queue)
acks_rest world c [] a = tt
acks_rest world c (Request.OnFile request ∷ queue) a = a
acks_rest world c (Request.Acknowledge given ∷ queue) a = a.1

none_rest : (key : List ℕ) (queue : List Request) → acks key queue ≡ 0 → acks key (rest_of queue) ≡ 0
none_rest key [] e = refl
none_rest key (request ∷ queue) e = omega (arith, e)

-- an open is itself
pub itself : (world : World) (x : Open) → Among x world.server.opens → WasOpen world x
itself world x there = record { was = x; there = there; id = refl; file = refl; client = refl }

pub popped_like : (world : World) (c : ℕ) → IsLike world (popped world c) c
popped_like world c = record {
  machine = refl;
  past = same_past c world.past;
  from = λ x there by low. itself world x there;
  timely = λ file x there by on e. e;
}

left_like : (world : World) (c at : ℕ) (left : List Held) → IsLike world (with_held world at left) c
left_like world c at left = record {
  machine = refl;
  past = same_past c world.past;
  from = λ x there by low. itself world x there;
  timely = λ file x there by on e. e;
}

pub popped_safe : (world : World) (c : ℕ) → KnowsIds world c → IsNamedAt world c → IsSafeUp world c → IsSafeUp (popped world c) c
popped_safe world c ids n u =
    let left = put_same world.requests c (rest_of (world.requests c)) in
    let asked = asked_popped (WriteSafe world c) world c u.writes in record {
      writes = record { queued = asked.queued; held = asked.held };
      held = u.held;
      acks_keep = subst (AcksKeep (popped world c) c) (sym left)
          (acks_like world (popped world c) c (popped_like world c) ids (rest_of (world.requests c))
          (each_rest (IsNamedRequest c (world.clients c).guid world.past) (world.requests c) n.requests)
          (acks_rest world c (world.requests c) u.acks_keep));
      again = λ file parted is. ap (acks (file_key world c file)) left
          ∙ none_rest (file_key world c file) (world.requests c) (u.again file parted is);
      given = λ file known. grants_like world (popped world c) c file (popped_like world c) ids
          ((world.clients c).entries file).sent [] (world.replies c) n.replies (u.given file known);
    }

pub off_safe : (world off : World) (c : ℕ) (request : FileRequest) → IsSource world off c request → KnowsIds world c
    → IsNamedAt world c → IsSafeUp world c → IsSafeUp off c
off_safe world off c request source ids n u =
    let asked = (asked_off (WriteSafe world c) world off c request source u.writes).0 in ⊎_elim
    (λ a. subst (λ o. IsSafeUp o c) (sym a.is_off) (popped_safe world c ids n u))
    (λ h. let rest = with_held world h.file (h.before ++ h.behind) in
    let like = left_like world c h.file (h.before ++ h.behind) in
    let left : AllAsked (WriteSafe world c) rest c = subst (λ (o : World). AllAsked (WriteSafe world c) o c) h.is_off asked in
    subst (λ o. IsSafeUp o c) (sym h.is_off) (record {
      writes = record { queued = left.queued; held = left.held };
      held = λ at one a own. ⊎_elim (λ old. u.held at one old own)
          (λ new. u.held h.file one (subst (λ (l : List Held). Among one l) (sym h.held)
          (among_more one (held_of c request h.lane) h.before h.behind new.1)) own)
          (among_put world.server.held h.file (h.before ++ h.behind) at one a);
      acks_keep = acks_like world rest c like ids (world.requests c) n.requests u.acks_keep;
      again = u.again;
      given = λ file known. grants_like world rest c file like ids ((world.clients c).entries file).sent []
          (world.replies c) n.replies (u.given file known);
    })) source.from

-- ---- the part on its way

pub up_like : (off new : World) (c : ℕ) → IsLike off new c → KnowsIds off c → StillHolds off new c → IsNamedAt off c
    → new.requests c ≡ off.requests c → new.server.held ≡ off.server.held → ((file : ℕ) → knows_file (off.clients c) file ≡ true
    → GrantsSafe new c file ((off.clients c).entries file).sent [] (new.replies c)) → IsSafeUp off c → IsSafeUp new c
up_like off new c like ids holds n requests held grants u = record {
  writes = writes_up off new c like ids holds requests held n u.writes;
  held = held_up off new c like ids held n u.held;
  acks_keep = subst (AcksKeep new c) (sym requests) (acks_like off new c like ids (off.requests c) n.requests u.acks_keep);
  again = λ file parted is. ap₂ acks (same_key off new c like.machine file) requests
      ∙ u.again file parted (ap (λ (m : Client). (m.entries file).phase) (sym like.machine) ∙ is);
  given = λ file known. subst (λ (m : Client). GrantsSafe new c file (m.entries file).sent [] (new.replies c))
      (sym like.machine) (grants file (ap (λ (m : Client). knows_file m file) (sym like.machine) ∙ known));
}

pub grant_bare : (world : World) (c file : ℕ) (sent : List Pending) (front : List Reply) (reply : Reply)
    → is_bare reply → GrantSafe world c file sent front reply
grant_bare world c file sent front (Reply.Created other file_id contexts) bare = absurd bare
grant_bare world c file sent front (Reply.Break notice) bare = absurd bare
grant_bare world c file sent front reply bare = tt

-- one more reply, where it is safe
pub grants_more : (off new : World) (c : ℕ) (reply : Reply) (file : ℕ) → IsLike off new c → KnowsIds off c
    → IsNamedAt off c → new.replies c ≡ off.replies c ++ reply ∷ []
    → GrantSafe new c file ((off.clients c).entries file).sent (off.replies c) reply → IsSafeUp off c
    → knows_file (off.clients c) file ≡ true → GrantsSafe new c file ((off.clients c).entries file).sent [] (new.replies c)
grants_more off new c reply file like ids n replies last u known =
    let sent = ((off.clients c).entries file).sent in
    subst (GrantsSafe new c file sent []) (sym replies) (grants_last new c file sent [] (off.replies c) reply
    (grants_like off new c file like ids sent [] (off.replies c) n.replies (u.given file known)) last)

-- ---- a write that was sent, and isn't answered yet

record IsWriteOf (P : Request → Type 0) (number : ℕ) : Type 0 where
  file_id : ℕ
  patch : Patch
  so : P (Request.OnFile (FileRequest.Write file_id number patch))

write_in : (P : Request → Type 0) (number : ℕ) (request : FileRequest) → P (Request.OnFile request)
    → (write_of number request ≡ 0 → ⊥) → IsWriteOf P number
write_in P number (FileRequest.Write file_id used patch) p some = either (used == number)
    (λ same. record {
      file_id = file_id;
      patch = patch;
      so = subst (λ n. P (Request.OnFile (FileRequest.Write file_id n patch))) (eqb-true used number same) p;
    })
    (λ other. absurd (some (ap one_if other)))
write_in P number request p some = absurd (some refl)

queued_write : (P : Request → Type 0) (number : ℕ) (queue : List Request) → Each P queue
    → (writes number queue ≡ 0 → ⊥) → IsWriteOf P number
queued_write P number [] each some = absurd (some refl)
queued_write P number (Request.OnFile request ∷ queue) each some = by_count (write_of number request) refl
    (λ more. queued_write P number queue each.1 more)
  where
    by_count : (n : ℕ) → write_of number request ≡ n → ((writes number queue ≡ 0 → ⊥) → IsWriteOf P number) → IsWriteOf P number
    by_count zero e rest = rest (λ none. some (both (write_of number request) (writes number queue) e none))
      where
        both : (a b : ℕ) → a ≡ 0 → b ≡ 0 → a + b ≡ 0
        both a b e f = omega (arith, e, f)
    by_count (suc n) e rest = write_in P number request each.0 (λ none. never n (sym e ∙ none))
      where
        never : (m : ℕ) → suc m ≡ 0 → ⊥
        never m e = omega (arith, e)
queued_write P number (Request.Acknowledge given ∷ queue) each some = queued_write P number queue each.1 some

held_write : (P : Request → Type 0) (c number : ℕ) (held : List Held)
    → ((one : Held) → Among one held → one.client ≡ c → P (Request.OnFile one.request))
    → (held_writes number (held_by c held) ≡ 0 → ⊥) → IsWriteOf P number
held_write P c number [] each some = absurd (some refl)
held_write P c number (one ∷ held) each some = if_cases
    (λ l. (held_writes number l ≡ 0 → ⊥) → IsWriteOf P number) (one.client == c) (one ∷ held_by c held) (held_by c held)
    (λ own not_none. by_count (write_of number one.request) refl (eqb-true one.client c own) not_none
    (λ more. held_write P c number held (λ x a. each x (inr a)) more))
    (λ other not_none. held_write P c number held (λ x a. each x (inr a)) not_none) some
  where
    by_count : (n : ℕ) → write_of number one.request ≡ n → one.client ≡ c
        → (write_of number one.request + held_writes number (held_by c held) ≡ 0 → ⊥)
        → ((held_writes number (held_by c held) ≡ 0 → ⊥) → IsWriteOf P number) → IsWriteOf P number
    by_count zero e own not_none rest = rest
        (λ none. not_none (both (write_of number one.request) (held_writes number (held_by c held)) e none))
      where
        both : (a b : ℕ) → a ≡ 0 → b ≡ 0 → a + b ≡ 0
        both a b e f = omega (arith, e, f)
    by_count (suc n) e own not_none rest = write_in P number one.request (each one (inl refl) own)
        (λ none. never n (sym e ∙ none))
      where
        never : (m : ℕ) → suc m ≡ 0 → ⊥
        never m e = omega (arith, e)

found_write : (P : Request → Type 0) (world : World) (c file number : ℕ) → AllAsked P world c
    → (writes_left world c file number ≡ 0 → ⊥) → IsWriteOf P number
found_write P world c file number a some = by_count (writes number (world.requests c)) refl
  where
    by_count : (n : ℕ) → writes number (world.requests c) ≡ n → IsWriteOf P number
    by_count zero e = held_write P c number (world.server.held file) (λ one b own. a.held file one b own)
        (λ none. some (both (writes number (world.requests c)) _ e none))
      where
        both : (x y : ℕ) → x ≡ 0 → y ≡ 0 → x + y ≡ 0
        both x y e f = omega (arith, e, f)
    by_count (suc n) e = queued_write P number (world.requests c) a.queued (λ none. never n (sym e ∙ none))
      where
        never : (m : ℕ) → suc m ≡ 0 → ⊥
        never m e = omega (arith, e)

numbered_some : (write : Pending) (pending : List Pending) → Among write pending → numbered_in write.number pending ≡ 0 → ⊥
numbered_some write [] a e = absurd a
numbered_some write (x ∷ pending) a e = ⊎_elim
    (λ same. omega (
      arith,
      ap (λ b. one_if b + numbered_in write.number pending)
          (sym (eq-eqb x.number write.number (ap (λ (w : Pending). w.number) (sym same)))) ∙ e,
    ))
    (λ later. numbered_some write pending later (omega (arith, e))) a

each_named : (P : Pending → Type 0) (pending : List Pending) (write : Pending) → Each P pending → Among write pending → P write
each_named P [] write each a = absurd a
each_named P (w ∷ pending) write each a =
    ⊎_elim (λ same. subst P (sym same) each.0) (λ later. each_named P pending write each.1 later) a

-- such a write is safe while its key's timer didn't run out
pub sent_clean : (world : World) (c : ℕ) → IsSafeUp world c → IsSentOnce world c → AllAsked (WriteStands world c) world c
    → IsNamedAt world c → IsKnownBy c (world.clients c) world.past → (file : ℕ)
    → knows_file (world.clients c) file ≡ true → world.server.expired (machine_key world c file) ≡ false
    → (write : Pending) → Among write ((world.clients c).entries file).sent
    → settling write.number (world.replies c) ≡ 0 → is_touched c file write.number world.past ≡ false
sent_clean world c u once stands n k file known fresh write a none =
    let number = write.number in
    let written = each_named (WasWritten c file world.past) ((world.clients c).entries file).sent write (n.entries file).sent a in
    let count = once.counts file number known (inl (write.patch, written)) in
    let all = asked_both (WriteSafe world c) (WriteStands world c) (λ r. WriteSafe world c r × WriteStands world c r) world c
    (λ r p q. (p, q)) u.writes stands in
    let every = asked_both (λ r. WriteSafe world c r × WriteStands world c r) (IsNamedRequest c (world.clients c).guid world.past)
    (λ r. (WriteSafe world c r × WriteStands world c r) × IsNamedRequest c (world.clients c).guid world.past r) world c
    (λ r p q. (p, q)) all (named_asked world c n) in
    let f = found_write (λ r. (WriteSafe world c r × WriteStands world c r)
    × IsNamedRequest c (world.clients c).guid world.past r) world c file number every
    (λ zero. numbered_some write ((world.clients c).entries file).sent a (omega (arith, zero, none, count))) in
    let so = f.so in let both = so.0 in by_write f.file_id f.patch both.0 both.1 so.1 written
  where
    by_write : (file_id : ℕ) (patch : Patch) → WriteSafe world c (Request.OnFile (FileRequest.Write file_id write.number patch))
        → WriteStandsOn world c file_id → WasWrittenOn c file_id write.number patch world.past
        → has_written c file write.number write.patch world.past ≡ true → is_touched c file write.number world.past ≡ false
    by_write file_id patch safe s w written =
        let here : s.file ≡ file = opened_once file_id s.file c w.file c world.past s.opened w.opened
        ∙ sym (k.once file w.file write.number write.patch patch written w.written).file_is in
        let at : Stands world c file file_id = subst (λ f. Stands world c f file_id) here s.stands in ⊎_elim
        (λ out. clash (world.server.expired (machine_key world c file)) out fresh)
        (λ (o : IsOpenFor world c file file_id).
        ap (λ f. is_touched c f write.number world.past) (sym o.on_file) ∙ (safe o.one o.there o.by o.id).clean) at

-- ---- grants

pub expired_nothing : (server : Server) (key : Key) (file : ℕ) (want : State) → IsSound server
    → server.expired key ≡ true → (is_breaking (lease_granted server key file want) ≡ false)
    × ((lease_granted server key file want).state.write ≡ false)
expired_nothing server key file want sound out =
    let none = sound.timed_out key out in
    any_grant server key file want (λ l. (is_breaking l ≡ false) × (l.state.write ≡ false)) (record {
      breaks = λ breaks. clash (is_breaking (server.leases key)) breaks (ap is_breaking none);
      rises = λ settled within. (
        refl,
        if_cases (λ (s : State). s.write ≡ false) (server.expired key) nothing_cached _ (λ o. refl)
            (λ fresh. clash (server.expired key) out fresh),
      );
      stays = λ settled. (ap is_breaking none, ap (λ (l : Lease). l.state.write) none);
    })

-- of a key whose timer ran out nothing is given
pub gives_timely : (key : List ℕ) (asked : List ℕ) (lease : Lease) (out : Bool)
    → (out ≡ true → (is_breaking lease ≡ false) × (lease.state.write ≡ false))
    → given_writes key (Some (record { key = asked; state = lease.state; in_progress = is_breaking lease })) ≡ true → out ≡ false
gives_timely key asked lease out nothing e = not_true out (λ o. let n = nothing o in ⊎_elim
    (λ busy. clash (is_breaking lease) busy n.0)
    (λ writes. clash lease.state.write (and_parts (bytes_eq asked key) lease.state.write writes).1 n.1)
    (or_true (is_breaking lease) (bytes_eq asked key && lease.state.write) e))

pub given_so : (key : List ℕ) (asked : List ℕ) (lease : Lease)
    → (given_state key (Some (record { key = asked; state = lease.state; in_progress = is_breaking lease }))).write ≡ true
    → given_writes key (Some (record { key = asked; state = lease.state; in_progress = is_breaking lease })) ≡ true
given_so key asked lease e = by_cases (is_breaking lease) (bytes_eq asked key) e
  where
    by_cases : (busy own : Bool) → (if own && not busy then lease.state else nothing_cached).write ≡ true
        → (busy || (own && lease.state.write)) ≡ true
    by_cases true own h = refl
    by_cases false true h = h
    by_cases false false h = absurd (true≢false (sym h))

-- ---- opens under the file's key

pub own_has_key : (world : World) (c file : ℕ) (x : Open) → x.client ≡ c → x.file ≡ file
    → IsOwnOpen (world.clients c).guid x → has_key (machine_key world c file) x ≡ true
own_has_key world c file x by on own = subst (λ bytes. is_key (machine_key world c file) x.client bytes ≡ true)
    (sym (own ∙ ap (λ f. Some (lease_key (world.clients c).guid f)) on))
    (subst (λ d. is_key (machine_key world c file) d (Some (file_key world c file)) ≡ true) (sym by)
    (is_key-refl c (file_key world c file)))

-- opens that close leave the leases of those that stay
pub closing_holds : (world : World) (test : Open → Bool) (c : ℕ)
    → ((x : Open) → Among x world.server.opens → x.client ≡ c → IsOwnOpen (world.clients c).guid x)
    → (file : ℕ) (x : Open) → Among x (without test world.server.opens) → x.client ≡ c → x.file ≡ file
    → (with_opens world.server (without test world.server.opens)).leases (machine_key world c file)
    ≡ world.server.leases (machine_key world c file)
closing_holds world test c own file x there by on =
    let was = (among_filter (λ o. not (test o)) x world.server.opens there).0 in
    lease_stays world.server (without test world.server.opens) (machine_key world c file)
    (has_any (has_key (machine_key world c file)) x (without test world.server.opens) there
    (own_has_key world c file x by on (own x was by)))

-- where writes are held no other key is in the way
pub none_in_the_way : (test : Lease → Bool) (server : Server) (own : Option Key) (key : Key) (file : ℕ) (x : Open)
    → IsSound server → own ≡ Some key → Among x server.opens → has_key key x ≡ true → x.file ≡ file
    → (server.leases key).state.write ≡ true → IsBlockedBy test server own file → ⊥
none_in_the_way test server own key file x sound is there has on writes b = clash (has_key key b.one)
    (sound.one_writer key x b.one writes there has b.is_there (b.is_on_file ∙ sym on))
    (sym (ap (λ o. has_own_key o b.one) is) ∙ b.is_other)
