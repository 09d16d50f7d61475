-- The notes of every call tell what the client then believes, and refused commands do nothing.
use Rattle.lease_laws.proofs.Words.{◌++◌, ◌==◌, ◌∙◌, ◌∷◌, ◌≡◌, ◌≢◌, Answer, Bool, Client, Command, Decides-eqb, List}
use Rattle.std.proofs.Common.{arith}
use Rattle.lease_laws.proofs.Words.{LiveEntry, Note, Pending, Phase, Refusal, Reply, Request, Settlement, State, Step, Turn, ℕ}
use Rattle.lease_laws.proofs.Words.{[], ap, belief, belief_in, belief_of, believed_after, believes_noted}
use Rattle.lease_laws.proofs.Words.{commanded, false, first_belief, if◌then◌else◌}
use Rattle.lease_laws.proofs.Words.{is_empty, lease_key, next_write, promoted_belief}
use Rattle.lease_laws.proofs.Words.{put, refl, refused_step, settled_as}
use Rattle.lease_laws.proofs.Words.{subst, sym, taken, true, turned}
use Rattle.lease_laws.proofs.Words.{wrote_step}
use Rattle.lease_laws.proofs.client.Thin.{put_same, put_other}
use Rattle.lease_laws.proofs.client.Words.{if_either}
use Rattle.lease_laws.proofs.client.cases.Commands.{HasCommands, any_command}
use Rattle.lease_laws.proofs.client.cases.Replies.{HasTakes, any_reply}
use Rattle.lease_laws.proofs.server.Lists.{either, clash}
use Rattle.lease_laws.proofs.client.cases.Turns.{by_turn}

-- ---- notes that settle writes

abbrev pub AreSettlements : List Note → Type 0
AreSettlements [] = Unit {0}
AreSettlements (Note.Settled number outcome ∷ notes) = AreSettlements notes
AreSettlements (note ∷ notes) = ⊥

-- writes settled in one way
pub settled_settle : (outcome : Settlement) (writes : List Pending) → AreSettlements (settled_as outcome writes)
settled_settle outcome [] = tt
settled_settle outcome (write ∷ writes) = settled_settle outcome writes

-- writes that are given up without W
settle_either : (writes : Bool) (outcome : Settlement) (kept : List Pending)
    → AreSettlements (if writes then [] else settled_as outcome kept)
settle_either writes outcome kept = if_either AreSettlements writes [] (settled_as outcome kept) tt (settled_settle outcome kept)

-- they say nothing of beliefs
pub settle_pass : (file : ℕ) (old : State) (notes more : List Note) → AreSettlements notes
    → believed_after file old (notes ++ more) ≡ believed_after file old more
settle_pass file old [] more s = refl
settle_pass file old (Note.Settled number outcome ∷ notes) more s = settle_pass file old notes more s
settle_pass file old (note ∷ notes) more s = absurd s

-- ---- one belief

letters : Bool → Bool → Bool → State
letters r w h = record { read = r; write = w; handle = h }

-- a change of belief is told of its file
pub noted_own : (file : ℕ) (old new : State) → believed_after file old (believes_noted file old new) ≡ new
noted_own file old new = grind arith

-- and of no other
pub noted_other : (file of_file : ℕ) (belief old new : State) → file ≢ of_file
    → believed_after file belief (believes_noted of_file old new) ≡ belief
noted_other file of_file belief old new apart = grind arith

-- ---- steps

-- the notes of a step tell beliefs
pub record Tells (client : Client) (step : Step) : Type 0 where
  pub tells : (file : ℕ) → believed_after file (belief client file) step.notes ≡ belief step.client file

-- what holds at the place and elsewhere
pub by_place : {X : Type 0} (P : ℕ → X → Type 0) (table : ℕ → X) (place : ℕ) (x : X) → P place x
    → ((n : ℕ) → n ≢ place → P n (table n)) → (n : ℕ) → P n (put table place x n)
by_place P table place x here there n = either (n == place)
    (λ e. let same : place ≡ n = sym ((Decides-eqb n place).0 e) in
    subst (λ m. P m (put table place x m)) same (subst (P place) (sym (put_same table place x)) here))
    (λ e. let apart : n ≢ place = λ same. clash (n == place) ((Decides-eqb n place).1 same) e in
    subst (P n) (sym (put_other table place x n apart)) (there n apart))

-- a turn that settles writes
turned_tells : (client : Client) (file : ℕ) (turn : Turn) → AreSettlements turn.settled → Tells client (turned client file turn)
turned_tells client file turn settles =
    let old : State = belief_of (client.entries file) in
    let new : State = belief_of turn.entry in
    let notes : List Note = turn.settled ++ believes_noted file old new in
    by_turn (Tells client) client file turn (record {
      tells = by_place (λ n entry. believed_after n (belief client n) notes ≡ belief_of entry) client.entries file turn.entry
          (settle_pass file old turn.settled (believes_noted file old new) settles ∙ noted_own file old new)
          (λ n apart. settle_pass n (belief client n) turn.settled (believes_noted file old new) settles
          ∙ noted_other n file (belief client n) old new apart);
    })

-- ---- commands

-- a command's notes tell beliefs, and it does nothing where it is refused
pub record Behaves (client : Client) (step : Step) : Type 0 where
  pub told : Tells client step
  pub refused : (refusal : Refusal) → step.answer ≡ Answer.Refused refusal → step ≡ refused_step client refusal

-- a turn with an answer that is no refusal
plain_behaves : (client : Client) (file : ℕ) (turn : Turn) → AreSettlements turn.settled
    → ((refusal : Refusal) → turn.answer ≢ Answer.Refused refusal) → Behaves client (turned client file turn)
plain_behaves client file turn settles never = record {
  told = turned_tells client file turn settles;
  refused = by_turn
      (λ step. (refusal : Refusal) → step.answer ≡ Answer.Refused refusal → step ≡ refused_step client refusal) client file turn
      (λ refusal e. absurd (never refusal e));
}

-- a write that is given leaves the belief
given_behaves : (client : Client) (file : ℕ) (live new : LiveEntry) (sent : List Pending) (answer : Answer)
    (requests : List Request) (write : Pending) → (client.entries file).phase ≡ Phase.Live live
    → new.belief ≡ live.belief → ((refusal : Refusal) → answer ≢ Answer.Refused refusal) → Behaves client
    (wrote_step client file (record { phase = Phase.Live new; sent = sent }) answer requests write)
given_behaves client file live new sent answer requests write is same never = record {
  told = record {
    tells = by_place (λ n e. belief client n ≡ belief_of e) client.entries file _ (ap belief_in is ∙ sym same)
        (λ n apart. refl);
  };
  refused = λ refusal e. absurd (never refusal e);
}

commands_behave : (client : Client) → HasCommands client (Behaves client)
commands_behave client = record {
  refused = λ refusal. record {
    told = record { tells = λ file. refl };
    refused = λ other e. ap (λ r. refused_step client r) (one_refusal refusal other e);
  };
  opening = λ file terms is on. plain_behaves client file _ tt (λ refusal e. cc);
  added = λ file live is. plain_behaves client file _ tt (λ refusal e. cc);
  asked = λ file live terms is idle some. plain_behaves client file _ tt (λ refusal e. cc);
  anew = λ file live terms is idle none. plain_behaves client file _ tt (λ refusal e. cc);
  fewer = λ file live is more. plain_behaves client file _ tt (λ refusal e. cc);
  parked = λ file live is idle done stays. plain_behaves client file _ tt (λ refusal e. cc);
  closed = λ file live is idle done goes. plain_behaves client file _ tt (λ refusal e. cc);
  cached = λ file live base is reads has. record {
    told = record { tells = λ f. refl };
    refused = λ refusal e. absurd (cached_never _ refusal e);
  };
  read = λ file live is idle. plain_behaves client file _ tt (λ refusal e. cc);
  buffered = λ file live patch is fits caches. given_behaves client file live _ _ Answer.Done []
      (next_write client patch true) is.is_so refl (λ refusal e. cc);
  written = λ file live patch is fits sends. given_behaves client file live _ _ Answer.Waiting _
      (next_write client patch false) is.is_so refl (λ refusal e. cc);
  flushed = λ file live is. plain_behaves client file _ tt (flush_never (is_empty live.unsent));
}
  where
    one_refusal : (a b : Refusal) → Answer.Refused a ≡ Answer.Refused b → a ≡ b
    one_refusal a b e = cc

    cached_never : (bytes : List ℕ) (refusal : Refusal) → Answer.Bytes bytes true ≢ Answer.Refused refusal
    cached_never bytes refusal e = cc

    flush_never : (b : Bool) (refusal : Refusal) → (if b then Answer.Done else Answer.Waiting) ≢ Answer.Refused refusal
    flush_never b refusal e = grind arith

pub commanded_behaves : (client : Client) (command : Command) → Behaves client (commanded client command)
commanded_behaves client = any_command client (Behaves client) (commands_behave client)

pub refused-nothing : (client : Client) (command : Command) (refusal : Refusal)
    → (commanded client command).answer ≡ Answer.Refused refusal → commanded client command ≡ refused_step client refusal
refused-nothing client command = (commanded_behaves client command).refused

-- ---- messages

takes_tell : (client : Client) → HasTakes client (λ reply step. Tells client step)
takes_tell client = record {
  passed = λ reply why. record { tells = λ file. refl };
  parked_closes = λ file notice live at is parked. turned_tells client file _ tt;
  lowered = λ file notice live at is stays. turned_tells client file _ tt;
  opened = λ file file_id answer access share is. turned_tells client file _ tt;
  reconnected = λ file file_id answer parted is. turned_tells client file _
      (settle_either (first_belief client file answer).write Settlement.Lost parted.writes);
  promoted = λ file file_id answer live asked is asks. turned_tells client file _ (settle_either
      (promoted_belief (lease_key client.guid file) live.belief answer.lease).write Settlement.Failed live.unsent);
  not_opened = λ file status access share is. turned_tells client file _ tt;
  not_reconnected = λ file status parted is. turned_tells client file _ (settled_settle Settlement.Lost parted.writes);
  not_promoted = λ file status live asked is asks. turned_tells client file _ tt;
  read = λ file file_id bytes live is id some. turned_tells client file _ tt;
  read_closed = λ file file_id status live is id gone. turned_tells client file _ (settled_settle Settlement.Failed live.unsent);
  not_read = λ file file_id status live is id some. turned_tells client file _ tt;
  written = λ file file_id number at known. turned_tells client file _ tt;
  write_closed = λ file file_id number status live at known is id gone. turned_tells client file _
      (settled_settle Settlement.Failed live.unsent);
  not_written = λ file file_id number status at known. turned_tells client file _ tt;
}

pub taken_tells : (client : Client) (reply : Reply) → Tells client (taken client reply)
taken_tells client = any_reply client (λ reply step. Tells client step) (takes_tell client)
