-- What a client believes it may do with writes, against its lease: in words of one file's lease, entry and queues.
use Rattle.lease_laws.proofs.Words.{◌&&◌, ◌++◌, ◌+◌, ◌==◌, ◌||◌, ◌∙◌, ◌∷◌, ◌≡◌, ◌⊎◌, Bool, Lease, List, LiveEntry, None, Phase}
use Rattle.lease_laws.proofs.Words.{Reply, Request, Some, State, ℕ, [], ⊎_elim, ⊤, ap, arith, bytes_eq, false, given_state}
use Rattle.lease_laws.proofs.Words.{is_breaking, refl, sym, true}
use Rattle.lease_laws.proofs.client.cases.Replies.{is_live}
use Rattle.lease_laws.proofs.server.Lists.{clash, or_true}
use Rattle.lease_coherence.specs.Creates.{one_if}
use Rattle.lease_coherence.specs.Names.{Each}
use Rattle.lease_coherence.specs.Standing.{IsNoClose}

-- ---- messages of one file

abbrev pub ack_of : List ℕ → Request → ℕ
ack_of key (Request.Acknowledge (Some lease)) = one_if (bytes_eq key lease.key)
ack_of key request = 0

-- how many acknowledgments of the key are on their way
abbrev pub acks : List ℕ → List Request → ℕ
acks key [] = 0
acks key (request ∷ queue) = ack_of key request + acks key queue

abbrev pub is_created : ℕ → Reply → Bool
is_created file (Reply.Created other file_id contexts) = other == file
is_created file reply = false

abbrev pub is_ack_break : List ℕ → Reply → Bool
is_ack_break key (Reply.Break (Some notice)) = notice.ack_required && bytes_eq key notice.key
is_ack_break key reply = false

-- of the state that a grant of the file gives
abbrev pub OnGiven : (State → Type 0) → List ℕ → ℕ → Reply → Type 0
OnGiven T key file (Reply.Created other file_id (Some answer)) = other ≡ file → T (given_state key answer.lease)
OnGiven T key file reply = ⊤

abbrev pub GivesNothing : State → Type 0
GivesNothing state = (state.write ≡ false) × (state.read ≡ false)

-- writes are cached only with reads, and where the lease holds them
abbrev pub HoldsWrites : State → State → Type 0
HoldsWrites lease state = state.write ≡ true → (state.read ≡ true) × (lease.write ≡ true)

-- what a state has of writes and of handles comes with reads
abbrev pub IsFormed : State → Type 0
IsFormed state = (state.write ≡ true → state.read ≡ true) × (state.handle ≡ true → state.read ≡ true)

abbrev pub LowersWell : Reply → Type 0
LowersWell (Reply.Break (Some notice)) = IsFormed notice.lowered
LowersWell reply = ⊤

-- an acknowledgment of the key keeps writes
abbrev pub AckKeeps : List ℕ → Request → Type 0
AckKeeps key (Request.Acknowledge (Some lease)) =
    bytes_eq key lease.key ≡ true → (lease.state.write ≡ true) × (lease.state.read ≡ true)
AckKeeps key request = ⊤

-- no Close of the FileId stands before the first acknowledgment of the key
abbrev pub OpenTillAck : List ℕ → ℕ → List Request → Type 0
OpenTillAck key file_id [] = ⊤
OpenTillAck key file_id (Request.OnFile request ∷ queue) =
    IsNoClose file_id (Request.OnFile request) × OpenTillAck key file_id queue
OpenTillAck key file_id (Request.Acknowledge None ∷ queue) = OpenTillAck key file_id queue
OpenTillAck key file_id (Request.Acknowledge (Some lease) ∷ queue) =
    bytes_eq key lease.key ≡ false → OpenTillAck key file_id queue

-- ---- breaks on their way

-- what is known where a live entry will meet a break that asks for an acknowledgment, of the replies behind it
pub record IsMet (key : List ℕ) (file : ℕ) (breaking : Bool) (count : ℕ) (rest : List Reply) : Type 0 where
  pub is_so : breaking ≡ true
  pub none_answered : count ≡ 0
  pub no_grant : Each (OnGiven GivesNothing key file) rest
  pub no_break : Each (λ reply. is_ack_break key reply ≡ false) rest

-- whether an entry is live there is known from the entry now, and from the grants before
abbrev pub BreaksAreMet : List ℕ → ℕ → Bool → ℕ → Bool → List Reply → Type 0
BreaksAreMet key file breaking count live [] = ⊤
BreaksAreMet key file breaking count live (reply ∷ queue) =
    (live ≡ true → is_ack_break key reply ≡ true → IsMet key file breaking count queue)
    × BreaksAreMet key file breaking count (live || is_created file reply) queue

-- ---- one file

-- an acknowledgment is on its way: no other is, the break isn't over, the entry believes no more than it tells, and no
-- grant on its way gives writes
pub record IsAnswering (key : List ℕ) (file : ℕ) (lease : Lease) (phase : Phase) (asked : List Request)
    (queue : List Reply) : Type 0 where
  pub one : acks key asked ≡ 1
  pub breaking : is_breaking lease ≡ true
  pub bounds : (live : LiveEntry) → phase ≡ Phase.Live live → live.belief.write ≡ true → Each (AckKeeps key) asked
  pub no_grant : Each (OnGiven GivesNothing key file) queue

pub record IsBelieved (key : List ℕ) (file : ℕ) (lease : Lease) (phase : Phase) (asked : List Request)
    (queue : List Reply) : Type 0 where
  pub own : (live : LiveEntry) → phase ≡ Phase.Live live → HoldsWrites lease.state live.belief
  pub given : Each (OnGiven (HoldsWrites lease.state) key file) queue
  pub breaks : BreaksAreMet key file (is_breaking lease) (acks key asked) (is_live phase) queue
  pub answers : (acks key asked ≡ 0) ⊎ IsAnswering key file lease phase asked queue

-- ---- lists

five : (a b c : ℕ) → a + (b + c) ≡ a + b + c
five a b c = omega arith

pub acks_append : (key : List ℕ) (queue more : List Request) → acks key (queue ++ more) ≡ acks key queue + acks key more
acks_append key [] more = omega arith
acks_append key (request ∷ queue) more = ap (λ n. ack_of key request + n) (acks_append key queue more)
    ∙ five (ack_of key request) (acks key queue) (acks key more)

-- where one is on its way, what comes behind it changes nothing before it
pub open_behind : (key : List ℕ) (file_id : ℕ) (queue more : List Request) → acks key queue ≡ 1
    → OpenTillAck key file_id queue → OpenTillAck key file_id (queue ++ more)
open_behind key file_id [] more one open_so = absurd (none 0 refl one)
  where
    none : (n : ℕ) → n ≡ 0 → n ≡ 1 → ⊥
    none n e f = omega (arith, e, f)
open_behind key file_id (Request.OnFile request ∷ queue) more one open_so =
    (open_so.0, open_behind key file_id queue more (less (acks key queue) one) open_so.1)
  where
    less : (n : ℕ) → 0 + n ≡ 1 → n ≡ 1
    less n e = omega (arith, e)
open_behind key file_id (Request.Acknowledge None ∷ queue) more one open_so =
    open_behind key file_id queue more (less (acks key queue) one) open_so
  where
    less : (n : ℕ) → 0 + n ≡ 1 → n ≡ 1
    less n e = omega (arith, e)
open_behind key file_id (Request.Acknowledge (Some lease) ∷ queue) more one open_so = λ other.
    open_behind key file_id queue more (less (acks key queue) (ap (λ b. one_if b + acks key queue) (sym other) ∙ one))
    (open_so other)
  where
    less : (n : ℕ) → 0 + n ≡ 1 → n ≡ 1
    less n e = omega (arith, e)

-- one more acknowledgment, where no Close stands before
pub open_before : (key : List ℕ) (file_id : ℕ) (queue more : List Request) → Each (IsNoClose file_id) queue
    → OpenTillAck key file_id more → OpenTillAck key file_id (queue ++ more)
open_before key file_id [] more none open_so = open_so
open_before key file_id (Request.OnFile request ∷ queue) more none open_so =
    (none.0, open_before key file_id queue more none.1 open_so)
open_before key file_id (Request.Acknowledge None ∷ queue) more none open_so = open_before key file_id queue more none.1 open_so
open_before key file_id (Request.Acknowledge (Some lease) ∷ queue) more none open_so =
    λ other. open_before key file_id queue more none.1 open_so

-- ---- breaks

-- with less that is live
pub met_fewer : (key : List ℕ) (file : ℕ) (breaking : Bool) (count : ℕ) (live less : Bool) (queue : List Reply)
    → (less ≡ true → live ≡ true) → BreaksAreMet key file breaking count live queue
    → BreaksAreMet key file breaking count less queue
met_fewer key file breaking count live less [] fewer b = tt
met_fewer key file breaking count live less (reply ∷ queue) fewer b = (
  λ seen is. b.0 (fewer seen) is,
  met_fewer key file breaking count (live || is_created file reply) (less || is_created file reply) queue
      (λ e. ⊎_elim (λ a. left live (is_created file reply) (fewer a)) (λ a. right live (is_created file reply) a)
      (or_true less (is_created file reply) e)) b.1,
)
  where
    left : (a c : Bool) → a ≡ true → (a || c) ≡ true
    left a c e = rw (e) refl

    right : (a c : Bool) → c ≡ true → (a || c) ≡ true
    right true c e = refl
    right false c e = e

-- what is known where they are met may change
pub met_mapped : (key : List ℕ) (file : ℕ) (breaking after : Bool) (count left : ℕ) (live : Bool) (queue : List Reply)
    → ((rest : List Reply) → IsMet key file breaking count rest → IsMet key file after left rest)
    → BreaksAreMet key file breaking count live queue → BreaksAreMet key file after left live queue
met_mapped key file breaking after count left live [] f b = tt
met_mapped key file breaking after count left live (reply ∷ queue) f b = (
  λ seen is. f queue (b.0 seen is),
  met_mapped key file breaking after count left (live || is_created file reply) queue f b.1,
)

-- one more reply
pub met_last : (key : List ℕ) (file : ℕ) (breaking after : Bool) (count left : ℕ) (live : Bool) (queue : List Reply)
    (last : Reply) → ((rest : List Reply) → IsMet key file breaking count rest → IsMet key file after left (rest ++ last ∷ []))
    → (is_ack_break key last ≡ true → IsMet key file after left [])
    → BreaksAreMet key file breaking count live queue → BreaksAreMet key file after left live (queue ++ last ∷ [])
met_last key file breaking after count left live [] last f new b = (λ seen is. new is, tt)
met_last key file breaking after count left live (reply ∷ queue) last f new b = (
  λ seen is. f queue (b.0 seen is),
  met_last key file breaking after count left (live || is_created file reply) queue last f new b.1,
)

-- none asks for an acknowledgment
pub met_none : (key : List ℕ) (file : ℕ) (breaking : Bool) (count : ℕ) (live : Bool) (queue : List Reply)
    → Each (λ reply. is_ack_break key reply ≡ false) queue → BreaksAreMet key file breaking count live queue
met_none key file breaking count live [] none = tt
met_none key file breaking count live (reply ∷ queue) none = (
  λ seen is. clash (is_ack_break key reply) is none.0,
  met_none key file breaking count (live || is_created file reply) queue none.1,
)

-- no entry is live
pub met_nowhere : (key : List ℕ) (file : ℕ) (breaking : Bool) (count : ℕ) (live : Bool) (queue : List Reply)
    → live ≡ false → Each (λ reply. is_created file reply ≡ false) queue → BreaksAreMet key file breaking count live queue
met_nowhere key file breaking count live [] e none = tt
met_nowhere key file breaking count live (reply ∷ queue) e none = (
  λ seen is. clash live seen e,
  met_nowhere key file breaking count (live || is_created file reply) queue (neither live (is_created file reply) e none.0)
      none.1,
)
  where
    neither : (a c : Bool) → a ≡ false → c ≡ false → (a || c) ≡ false
    neither a c e f = rw (e, f) refl
