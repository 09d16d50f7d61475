-- What a client has of a file's bytes, against the replies on their way to it: in words of one file, its entry, and the
-- places where the replies were sent.
use Rattle.lease_laws.proofs.Words.{◌&&◌, ◌++◌, ◌+◌, ◌==◌, ◌∙◌, ◌∷◌, ◌≡◌, ◌≢◌, ◌⊎◌, Bool, Fact, Lease, LeaseGiven, List}
use Rattle.lease_laws.proofs.Words.{LiveEntry, None, Option, Patch, Phase, Reply, Request, Some, ℕ, [], ⊎_elim, ⊤, ap, arith}
use Rattle.lease_laws.proofs.Words.{belief_in, bytes_eq, content_of, drop, eqb-true, false, given_state, has_written}
use Rattle.lease_laws.proofs.Words.{if◌then◌else◌, inl, inr, last_sending, not, nothing_cached, refl, sendings, sym, takings}
use Rattle.lease_laws.proofs.Words.{true, true≢false, was_opened}
use Rattle.lease_state.specs.Content.{patch as patched}
use Rattle.lease_laws.proofs.server.Lists.{and_both, and_parts, clash, if_cases}
use Rattle.lease_coherence.specs.Creates.{one_if}
use Rattle.lease_coherence.specs.Names.{Each}
use Rattle.lease_coherence.proofs.beliefs.OneLease.{GivesNothing, OnGiven, ack_of, acks, is_created}
use Rattle.lease_coherence.proofs.moves.Spared.{ends_as}
use Rattle.lease_coherence.proofs.records.Later.{IsLater}

-- ---- reads along the queue

-- what a grant makes of a belief that holds reads, or doesn't
abbrev pub given_reads : List ℕ → Bool → Option LeaseGiven → Bool
given_reads key reads None = false
given_reads key reads (Some given) = if given.in_progress then reads else (bytes_eq given.key key && given.state.read)

abbrev pub reads_by : List ℕ → ℕ → Bool → Reply → Bool
reads_by key file reads (Reply.Created other file_id (Some answer)) =
    if other == file then given_reads key reads answer.lease else reads
reads_by key file reads (Reply.Break (Some notice)) = if bytes_eq key notice.key then reads && notice.lowered.read else reads
reads_by key file reads reply = reads

-- and once all are taken
abbrev pub reads_after : List ℕ → ℕ → Bool → List Reply → Bool
reads_after key file reads [] = reads
reads_after key file reads (reply ∷ queue) = reads_after key file (reads_by key file reads reply) queue

pub reads_last : (key : List ℕ) (file : ℕ) (reads : Bool) (queue : List Reply) (reply : Reply)
    → reads_after key file reads (queue ++ reply ∷ []) ≡ reads_by key file (reads_after key file reads queue) reply
reads_last key file reads [] reply = refl
reads_last key file reads (x ∷ queue) reply = reads_last key file (reads_by key file reads x) queue reply

given_fewer : (key : List ℕ) (reads less : Bool) (given : Option LeaseGiven) → (less ≡ true → reads ≡ true)
    → given_reads key less given ≡ true → given_reads key reads given ≡ true
given_fewer key reads less None fewer e = e
given_fewer key reads less (Some given) fewer e = if_cases
    (λ b. (if given.in_progress then less else (bytes_eq given.key key && given.state.read)) ≡ true → b ≡ true)
    given.in_progress reads (bytes_eq given.key key && given.state.read)
    (λ busy h. fewer (first given.in_progress less _ busy h)) (λ done h. second given.in_progress less _ done h) e
  where
    first : (b x y : Bool) → b ≡ true → (if b then x else y) ≡ true → x ≡ true
    first true x y e h = h
    first false x y e h = absurd (true≢false (sym e))

    second : (b x y : Bool) → b ≡ false → (if b then x else y) ≡ true → y ≡ true
    second true x y e h = absurd (true≢false e)
    second false x y e h = h

pub by_fewer : (key : List ℕ) (file : ℕ) (reads less : Bool) (reply : Reply) → (less ≡ true → reads ≡ true)
    → reads_by key file less reply ≡ true → reads_by key file reads reply ≡ true
by_fewer key file reads less (Reply.Created other id (Some answer)) fewer e = either_way (other == file) e
  where
    either_way : (b : Bool) → (if b then given_reads key less answer.lease else less) ≡ true
        → (if b then given_reads key reads answer.lease else reads) ≡ true
    either_way true h = given_fewer key reads less answer.lease fewer h
    either_way false h = fewer h
by_fewer key file reads less (Reply.Break (Some notice)) fewer e = either_way (bytes_eq key notice.key) e
  where
    either_way : (b : Bool) → (if b then less && notice.lowered.read else less) ≡ true
        → (if b then reads && notice.lowered.read else reads) ≡ true
    either_way true h = let p = and_parts less notice.lowered.read h in
        and_both reads notice.lowered.read (fewer p.0) p.1
    either_way false h = fewer h
by_fewer key file reads less (Reply.Created other id None) fewer e = fewer e
by_fewer key file reads less reply fewer e = fewer e

pub after_fewer : (key : List ℕ) (file : ℕ) (reads less : Bool) (queue : List Reply) → (less ≡ true → reads ≡ true)
    → reads_after key file less queue ≡ true → reads_after key file reads queue ≡ true
after_fewer key file reads less [] fewer e = fewer e
after_fewer key file reads less (reply ∷ queue) fewer e = after_fewer key file (reads_by key file reads reply)
    (reads_by key file less reply) queue (by_fewer key file reads less reply fewer) e

-- where nothing is given, reads only go
given_nothing : (key : List ℕ) (reads : Bool) (given : Option LeaseGiven) → GivesNothing (given_state key given)
    → given_reads key reads given ≡ true → reads ≡ true
given_nothing key reads None g e = absurd (true≢false (sym e))
given_nothing key reads (Some given) g e = by_cases given.in_progress (bytes_eq given.key key) g.1 e
  where
    by_cases : (busy own : Bool) → (if own && not busy then given.state else nothing_cached).read ≡ false
        → (if busy then reads else (own && given.state.read)) ≡ true → reads ≡ true
    by_cases true own none h = h
    by_cases false true none h = clash given.state.read h none
    by_cases false false none h = absurd (true≢false (sym h))

by_nothing : (key : List ℕ) (file : ℕ) (reads : Bool) (reply : Reply) → OnGiven GivesNothing key file reply
    → reads_by key file reads reply ≡ true → reads ≡ true
by_nothing key file reads (Reply.Created other id (Some answer)) g e = if_cases (λ b. b ≡ true → reads ≡ true)
    (other == file) (given_reads key reads answer.lease) reads
    (λ same h. given_nothing key reads answer.lease (g (eqb-true other file same)) h)
    (λ apart h. h) e
by_nothing key file reads (Reply.Break (Some notice)) g e = if_cases (λ b. b ≡ true → reads ≡ true)
    (bytes_eq key notice.key) (reads && notice.lowered.read) reads
    (λ own h. (and_parts reads notice.lowered.read h).0) (λ other h. h) e
by_nothing key file reads reply g e = e

pub after_nothing : (key : List ℕ) (file : ℕ) (reads : Bool) (queue : List Reply)
    → Each (OnGiven GivesNothing key file) queue → reads_after key file reads queue ≡ true → reads ≡ true
after_nothing key file reads [] each e = e
after_nothing key file reads (reply ∷ queue) each e =
    by_nothing key file reads reply each.0 (after_nothing key file (reads_by key file reads reply) queue each.1 e)

-- where nothing is created, there are none that weren't
by_none : (key : List ℕ) (file : ℕ) (reply : Reply) → is_created file reply ≡ false → reads_by key file false reply ≡ false
by_none key file (Reply.Created other id (Some answer)) e = rw (e) refl
by_none key file (Reply.Break (Some notice)) e =
    if_cases (λ b. b ≡ false) (bytes_eq key notice.key) (false && notice.lowered.read) false (λ own. refl) (λ other. refl)
by_none key file reply e = refl

pub after_none : (key : List ℕ) (file : ℕ) (queue : List Reply) → Each (λ reply. is_created file reply ≡ false) queue
    → reads_after key file false queue ≡ false
after_none key file [] each = refl
after_none key file (reply ∷ queue) each = ap (λ b. reads_after key file b queue) (by_none key file reply each.0)
    ∙ after_none key file queue each.1

-- ---- acknowledgments

-- an acknowledgment of the key keeps reads, where any are left in the end
abbrev pub AckReads : List ℕ → Bool → Request → Type 0
AckReads key reads (Request.Acknowledge (Some lease)) = bytes_eq key lease.key ≡ true → reads ≡ true → lease.state.read ≡ true
AckReads key reads request = ⊤

pub acks_fewer : (key : List ℕ) (reads less : Bool) → (less ≡ true → reads ≡ true) → (request : Request)
    → AckReads key reads request → AckReads key less request
acks_fewer key reads less fewer (Request.Acknowledge (Some lease)) a = λ own e. a own (fewer e)
acks_fewer key reads less fewer request a = tt

pub no_acks_read : (key : List ℕ) (reads : Bool) (queue : List Request) → acks key queue ≡ 0 → Each (AckReads key reads) queue
no_acks_read key reads [] e = tt
no_acks_read key reads (Request.OnFile request ∷ queue) e = (tt, no_acks_read key reads queue (right (acks key queue) e))
  where
    right : (n : ℕ) → 0 + n ≡ 0 → n ≡ 0
    right n e = omega (arith, e)
no_acks_read key reads (Request.Acknowledge None ∷ queue) e = (tt, no_acks_read key reads queue (right (acks key queue) e))
  where
    right : (n : ℕ) → 0 + n ≡ 0 → n ≡ 0
    right n e = omega (arith, e)
no_acks_read key reads (Request.Acknowledge (Some lease) ∷ queue) e = (
  λ own r. absurd (omega (arith, ap (λ b. one_if b + acks key queue) (sym own) ∙ e)),
  no_acks_read key reads queue (right (ack_of key (Request.Acknowledge (Some lease))) (acks key queue) e),
)
  where
    right : (a b : ℕ) → a + b ≡ 0 → b ≡ 0
    right a b e = omega (arith, e)

-- ---- contents along the queue

-- a write of the file, which changed it; or one of another, which didn't
pub record IsPatched (c file number : ℕ) (past : List Fact) (old new : List ℕ) : Type 0 where
  pub patch : Patch
  pub written : has_written c file number patch past ≡ true
  pub is : new ≡ patched old patch

pub record IsElsewhere (c file number : ℕ) (past : List Fact) (old new : List ℕ) : Type 0 where
  pub other : ℕ
  pub patch : Patch
  pub written : has_written c other number patch past ≡ true
  pub apart : other ≢ file
  pub is : new ≡ old

-- from a content to that where the next reply was sent
abbrev pub Follows : ℕ → ℕ → List Fact → List ℕ → List ℕ → Reply → Type 0
Follows c file past old new (Reply.WriteDone file_id number) =
    IsPatched c file number past old new ⊎ IsElsewhere c file number past old new
Follows c file past old new reply = new ≡ old

-- the bytes that a reply tells are those of its file at its place
pub record HasBytes (c file_id : ℕ) (past place : List Fact) (bytes : List ℕ) : Type 0 where
  pub file : ℕ
  pub opened : was_opened file_id file c past ≡ true
  pub is : bytes ≡ content_of file place

abbrev pub TellsBytes : ℕ → List Fact → List Fact → Reply → Type 0
TellsBytes c past place (Reply.ReadDone file_id bytes) = HasBytes c file_id past place bytes
TellsBytes c past place reply = ⊤

-- Where reads are cached the content of a file changes by the client's own writes alone, from the content `old` at the
-- message that was taken last to what it is now.
abbrev pub IsRelayed : ℕ → List ℕ → ℕ → List Fact → Bool → List ℕ → List (List Fact) → List Reply → List ℕ → Type 0
IsRelayed c key file past reads old [] [] now = reads ≡ true → now ≡ old
IsRelayed c key file past reads old [] (reply ∷ queue) now = ⊥
IsRelayed c key file past reads old (place ∷ places) [] now = ⊥
IsRelayed c key file past reads old (place ∷ places) (reply ∷ queue) now =
    (reads ≡ true → Follows c file past old (content_of file place) reply) × TellsBytes c past place reply
    × IsRelayed c key file past (reads_by key file reads reply) (content_of file place) places queue now

follows_later : (c file : ℕ) (past new : List Fact) (old next : List ℕ) (reply : Reply) → IsLater past new
    → Follows c file past old next reply → Follows c file new old next reply
follows_later c file past new old next (Reply.WriteDone id number) later f = ⊎_elim
    (λ p. inl (record { patch = p.patch; written = later.written c file number p.patch p.written; is = p.is }))
    (λ e. inr (record {
      other = e.other;
      patch = e.patch;
      written = later.written c e.other number e.patch e.written;
      apart = e.apart;
      is = e.is;
    })) f
follows_later c file past new old next reply later f = f

tells_later : (c : ℕ) (past new place : List Fact) (reply : Reply) → IsLater past new
    → TellsBytes c past place reply → TellsBytes c new place reply
tells_later c past new place (Reply.ReadDone id bytes) later t =
    record { file = t.file; opened = later.opened id t.file c t.opened; is = t.is }
tells_later c past new place reply later t = tt

pub relayed_later : (c : ℕ) (key : List ℕ) (file : ℕ) (past new : List Fact) (reads : Bool) (old : List ℕ)
    (places : List (List Fact)) (queue : List Reply) (now : List ℕ) → IsLater past new
    → IsRelayed c key file past reads old places queue now → IsRelayed c key file new reads old places queue now
relayed_later c key file past new reads old [] [] now later r = r
relayed_later c key file past new reads old [] (reply ∷ queue) now later r = absurd r
relayed_later c key file past new reads old (place ∷ places) [] now later r = absurd r
relayed_later c key file past new reads old (place ∷ places) (reply ∷ queue) now later r = (
  λ e. follows_later c file past new old (content_of file place) reply later (r.0 e),
  tells_later c past new place reply later r.1,
  relayed_later c key file past new (reads_by key file reads reply) (content_of file place) places queue now later r.2,
)

pub relayed_fewer : (c : ℕ) (key : List ℕ) (file : ℕ) (past : List Fact) (reads less : Bool) (old : List ℕ)
    (places : List (List Fact)) (queue : List Reply) (now : List ℕ) → (less ≡ true → reads ≡ true)
    → IsRelayed c key file past reads old places queue now → IsRelayed c key file past less old places queue now
relayed_fewer c key file past reads less old [] [] now fewer r = λ e. r (fewer e)
relayed_fewer c key file past reads less old [] (reply ∷ queue) now fewer r = absurd r
relayed_fewer c key file past reads less old (place ∷ places) [] now fewer r = absurd r
relayed_fewer c key file past reads less old (place ∷ places) (reply ∷ queue) now fewer r = (
  λ e. r.0 (fewer e),
  r.1,
  relayed_fewer c key file past (reads_by key file reads reply) (reads_by key file less reply) (content_of file place)
      places queue now (by_fewer key file reads less reply fewer) r.2,
)

pub relayed_now : (c : ℕ) (key : List ℕ) (file : ℕ) (past : List Fact) (reads : Bool) (old : List ℕ)
    (places : List (List Fact)) (queue : List Reply) (now next : List ℕ) → (reads_after key file reads queue ≡ true → next ≡ now)
    → IsRelayed c key file past reads old places queue now → IsRelayed c key file past reads old places queue next
relayed_now c key file past reads old [] [] now next same r = λ e. same e ∙ r e
relayed_now c key file past reads old [] (reply ∷ queue) now next same r = absurd r
relayed_now c key file past reads old (place ∷ places) [] now next same r = absurd r
relayed_now c key file past reads old (place ∷ places) (reply ∷ queue) now next same r = (
  r.0,
  r.1,
  relayed_now c key file past (reads_by key file reads reply) (content_of file place) places queue now next same r.2,
)

-- ---- one file

-- the content at the message that was taken last
pub record IsLastSeen (c file : ℕ) (old : List ℕ) (past : List Fact) : Type 0 where
  pub place : List Fact
  pub is_last : last_sending c past ≡ Some place
  pub content : content_of file place ≡ old

pub record HasBase (c file : ℕ) (old : List ℕ) (past : List Fact) (bytes : List ℕ) : Type 0 where
  pub same : bytes ≡ old
  pub seen : IsLastSeen c file old past

-- the places of the replies on their way
abbrev pub places_of : ℕ → List Fact → List (List Fact)
places_of c past = drop (takings c past) (sendings c past)

pub record IsFreshFor (c : ℕ) (key : List ℕ) (file : ℕ) (lease : Lease) (phase : Phase) (asked : List Request)
    (queue : List Reply) (past : List Fact) : Type 0 where
  pub old : List ℕ
  pub base : (live : LiveEntry) → phase ≡ Phase.Live live → (bytes : List ℕ) → live.base ≡ Some bytes
      → HasBase c file old past bytes
  pub relay : IsRelayed c key file past (belief_in phase).read old (places_of c past) queue (content_of file past)
  pub bound : reads_after key file (belief_in phase).read queue ≡ true → (ends_as lease).read ≡ true
  pub acks_read : Each (AckReads key (reads_after key file (belief_in phase).read queue)) asked
