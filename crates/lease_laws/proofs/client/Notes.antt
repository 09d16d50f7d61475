-- What a client notes of writes agrees with their numbers.
use Rattle.lease_laws.proofs.Words.{◌&&◌, ◌++◌, ◌+◌, ◌<◌, ◌∷◌, ◌≡◌, ◌≤◌, Bool, Client, ClientCall, Entry, IsSoundClient, List}
use Rattle.lease_laws.proofs.Words.{Note, Pending, Phase, Settlement, State, Step, TellNumbers, Turn, ℕ, [], all_turned}
use Rattle.lease_laws.proofs.Words.{are_rising, arith, belief_of, believes_noted, client_called}
use Rattle.lease_laws.proofs.Words.{connect_turn, false, first_belief, flat_map}
use Rattle.lease_laws.proofs.Words.{has_number, has_sent, if◌then◌else◌, lease_key, nat_le, nat_lt, next_write, not}
use Rattle.lease_laws.proofs.Words.{numbers_to, promoted_belief}
use Rattle.lease_laws.proofs.Words.{refl, same_state, settled_as, true, turned, unsent_in}
use Rattle.lease_laws.proofs.Words.{notice_turn, without}
use Rattle.lease_laws.proofs.client.Numbers.{Numbers}
use Rattle.lease_laws.proofs.client.Thin.{IsThinner, thin_front, thin_behind, thin_filter, beyond}
use Rattle.lease_laws.proofs.client.Words.{if_either}
use Rattle.lease_laws.proofs.client.cases.Commands.{HasCommands, any_command, sent_of}
use Rattle.lease_laws.proofs.client.cases.Links.{HasNotices, any_notice}
use Rattle.lease_laws.proofs.client.cases.Replies.{HasTakes, any_reply}
use Rattle.lease_laws.proofs.server.Lists.{clash, and_parts}
use Rattle.lease_laws.proofs.client.cases.Turns.{by_turn}

-- ---- notes of writes that were given before

-- none of the notes gives a write, and those settled were given before
abbrev AreOld : ℕ → List Note → Type 0
AreOld last [] = Unit {0}
AreOld last (Note.Settled number outcome ∷ notes) = (number ≤ last) × AreOld last notes
AreOld last (Note.Wrote file number patch buffered ∷ notes) = ⊥
AreOld last (note ∷ notes) = AreOld last notes

-- such notes leave the last number as it was
old_tells : (last : ℕ) (notes : List Note) → AreOld last notes → TellNumbers last notes last
old_tells last [] old = refl
old_tells last (Note.Settled number outcome ∷ notes) old = (old.0, old_tells last notes old.1)
old_tells last (Note.Wrote file number patch buffered ∷ notes) old = absurd old
old_tells last (note ∷ notes) old = old_tells last notes old

-- such notes joined are such notes
old_joined : (last : ℕ) (notes more : List Note) → AreOld last notes → AreOld last more → AreOld last (notes ++ more)
old_joined last [] more old next = next
old_joined last (Note.Settled number outcome ∷ notes) more old next = (old.0, old_joined last notes more old.1 next)
old_joined last (Note.Wrote file number patch buffered ∷ notes) more old next = absurd old
old_joined last (note ∷ notes) more old next = old_joined last notes more old next

-- also for each of some files
old_each : (last : ℕ) (notes : ℕ → List Note) (files : List ℕ) → ((file : ℕ) → AreOld last (notes file))
    → AreOld last (flat_map notes files)
old_each last notes [] old = tt
old_each last notes (file ∷ files) old =
    old_joined last (notes file) (flat_map notes files) (old file) (old_each last notes files old)

-- a belief is no write
old_belief : (last file : ℕ) (old new : State) → AreOld last (believes_noted file old new)
old_belief last file old new = if_either (AreOld last) (same_state old new) [] (Note.Believes file new ∷ []) tt tt

-- writes of the client, all settled in one way
old_settled : (low last : ℕ) (outcome : Settlement) (writes : List Pending) → are_rising low last writes ≡ true
    → AreOld last (settled_as outcome writes)
old_settled low last outcome [] e = tt
old_settled low last outcome (write ∷ writes) e =
    let parts = and_parts (nat_lt low write.number && nat_le write.number last) (are_rising write.number last writes) e in
    (at_most low write.number last parts.0, old_settled write.number last outcome writes parts.1)
  where
    at_most : (a b c : ℕ) → (nat_lt a b && nat_le b c) ≡ true → b ≤ c
    at_most a b c e = grind arith

-- the same for some of the writes of an entry
old_some : (last : ℕ) (outcome : Settlement) (some all : List Pending) → IsThinner some all
    → are_rising 0 last all ≡ true → AreOld last (settled_as outcome some)
old_some last outcome some all thin e = old_settled 0 last outcome some (thin.rising 0 last e)

-- a write of the client has a number that was given
old_number : (last number : ℕ) (writes : List Pending) → are_rising 0 last writes ≡ true
    → has_number number writes ≡ true → number ≤ last
old_number last number writes e h = by_cases (nat_lt last number) refl
  where
    by_cases : (b : Bool) → nat_lt last number ≡ b → number ≤ last
    by_cases true t = clash (has_number number writes) h (beyond 0 last number writes (grind (arith, t)) e)
    by_cases false t = grind (arith, t)

-- ---- steps

-- a step tells the numbers of its writes
abbrev Tells : Client → Step → Type 0
Tells client step = TellNumbers client.last_number step.notes step.client.last_number

-- a turn that settles writes given before
turned_tells : (client : Client) (file : ℕ) (turn : Turn) → AreOld client.last_number turn.settled
    → Tells client (turned client file turn)
turned_tells client file turn old = by_turn (Tells client) client file turn (old_tells client.last_number
    (turn.settled ++ believes_noted file (belief_of (client.entries file)) (belief_of turn.entry))
    (old_joined client.last_number turn.settled (believes_noted file (belief_of (client.entries file)) (belief_of turn.entry)) old
    (old_belief client.last_number file (belief_of (client.entries file)) (belief_of turn.entry))))

-- a write that is given
wrote_tells : (last : ℕ) (write : Pending) → write.number ≡ last + 1 → (last < write.number) × (write.number ≡ last + 1)
wrote_tells last write is = (omega (arith, is), is)

-- ---- commands

commands_tell : (client : Client) → HasCommands client (Tells client)
commands_tell client = record {
  refused = λ refusal. refl;
  opening = λ file terms is on. turned_tells client file _ tt;
  added = λ file live is. turned_tells client file _ tt;
  asked = λ file live terms is idle some. turned_tells client file _ tt;
  anew = λ file live terms is idle none. turned_tells client file _ tt;
  fewer = λ file live is more. turned_tells client file _ tt;
  parked = λ file live is idle done stays. turned_tells client file _ tt;
  closed = λ file live is idle done goes. turned_tells client file _ tt;
  cached = λ file live base is reads has. refl;
  read = λ file live is idle. turned_tells client file _ tt;
  buffered = λ file live patch is fits caches. wrote_tells client.last_number (next_write client patch true) refl;
  written = λ file live patch is fits sends. wrote_tells client.last_number (next_write client patch false) refl;
  flushed = λ file live is. turned_tells client file _ tt;
}

-- ---- messages

-- the writes of an entry rise
rising_as : (client : Client) → Numbers client → (file : ℕ) (phase : Phase) → (client.entries file).phase ≡ phase
    → are_rising 0 client.last_number (sent_of client file ++ unsent_in phase) ≡ true
rising_as client own file phase is = grind arith

-- unsent writes settled in one way
unsent_old : (client : Client) → Numbers client → (file : ℕ) (phase : Phase) → (client.entries file).phase ≡ phase
    → (outcome : Settlement) → AreOld client.last_number (settled_as outcome (unsent_in phase))
unsent_old client own file phase is outcome = old_some client.last_number outcome (unsent_in phase)
    (sent_of client file ++ unsent_in phase) (thin_behind (sent_of client file) (unsent_in phase))
    (rising_as client own file phase is)

-- what is given up without W was given before
lost_old : (client : Client) → Numbers client → (file : ℕ) (phase : Phase) → (client.entries file).phase ≡ phase
    → (writes : Bool) (outcome : Settlement)
    → AreOld client.last_number (if writes then [] else settled_as outcome (unsent_in phase))
lost_old client own file phase is writes outcome = if_either (AreOld client.last_number) writes []
    (settled_as outcome (unsent_in phase)) tt (unsent_old client own file phase is outcome)

-- a sent write was given before
sent_old : (client : Client) (number file : ℕ) → Numbers client → has_sent client number file ≡ true → number ≤ client.last_number
sent_old client number file own passes = old_number client.last_number number (sent_of client file)
    ((thin_front (sent_of client file) (unsent_in (client.entries file).phase)).rising 0 client.last_number
    (own.rising file)) passes

takes_tell : (client : Client) → Numbers client → HasTakes client (λ reply step. Tells client step)
takes_tell client own = record {
  passed = λ reply why. refl;
  parked_closes = λ file notice live at is parked. turned_tells client file _ tt;
  lowered = λ file notice live at is stays. turned_tells client file _ tt;
  opened = λ file file_id answer access share is. turned_tells client file _ tt;
  reconnected = λ file file_id answer parted is. turned_tells client file _
      (lost_old client own file (Phase.Reconnecting parted) is (first_belief client file answer).write Settlement.Lost);
  promoted = λ file file_id answer live asked is asks. turned_tells client file _ (lost_old client own file (Phase.Live live) is
      (promoted_belief (lease_key client.guid file) live.belief answer.lease).write Settlement.Failed);
  not_opened = λ file status access share is. turned_tells client file _ tt;
  not_reconnected = λ file status parted is. turned_tells client file _
      (unsent_old client own file (Phase.Reconnecting parted) is Settlement.Lost);
  not_promoted = λ file status live asked is asks. turned_tells client file _ tt;
  read = λ file file_id bytes live is id some. turned_tells client file _ tt;
  read_closed = λ file file_id status live is id gone. turned_tells client file _
      (unsent_old client own file (Phase.Live live) is Settlement.Failed);
  not_read = λ file file_id status live is id some. turned_tells client file _ tt;
  written = λ file file_id number at known. turned_tells client file _ (sent_old client number file own at, tt);
  write_closed = λ file file_id number status live at known is id gone. turned_tells client file _
      (sent_old client number file own at, unsent_old client own file (Phase.Live live) is Settlement.Failed);
  not_written = λ file file_id number status at known. turned_tells client file _ (sent_old client number file own at, tt);
}

-- ---- connections

-- an entry whose connection is lost
notices_old : (last : ℕ) (sent : List Pending) → HasNotices sent (λ phase turn. are_rising 0 last (sent ++ unsent_in phase) ≡ true
    → AreOld last turn.settled)
notices_old last sent = record {
  closed = λ e. old_some last Settlement.Unknown sent (sent ++ []) (thin_front sent []) e;
  opening = λ access share e. old_some last Settlement.Unknown sent (sent ++ []) (thin_front sent []) e;
  ended = λ live e. old_settled 0 last Settlement.Unknown (sent ++ live.unsent) e;
  kept = λ live writes e. old_some last Settlement.Unknown (without (λ write. write.buffered) (sent ++ live.unsent))
      (sent ++ live.unsent) (thin_filter (λ write. not write.buffered) (sent ++ live.unsent)) e;
  bare = λ live none e. old_settled 0 last Settlement.Unknown (sent ++ live.unsent) e;
  offline = λ parted e. old_some last Settlement.Unknown sent _ (thin_front sent parted.writes) e;
  reconnecting = λ parted e. old_some last Settlement.Unknown sent _ (thin_front sent parted.writes) e;
}

-- each entry has a turn that settles writes given before
all_tell : (client : Client) (online : Bool) (turn : ℕ → Entry → Turn)
    → ((file : ℕ) → AreOld client.last_number (turn file (client.entries file)).settled)
    → Tells client (all_turned client online turn)
all_tell client online turn old =
    let notes : ℕ → List Note = λ file. (turn file (client.entries file)).settled
    ++ believes_noted file (belief_of (client.entries file)) (belief_of (turn file (client.entries file)).entry) in
    old_tells client.last_number (flat_map notes (numbers_to client.files))
    (old_each client.last_number notes (numbers_to client.files)
    (λ file. old_joined client.last_number (turn file (client.entries file)).settled _ (old file)
    (old_belief client.last_number file (belief_of (client.entries file)) (belief_of (turn file (client.entries file)).entry))))

-- an entry, in any phase, of a client that connects
connect_old : (last : ℕ) (client : Client) (file : ℕ) (sent : List Pending) (phase : Phase)
    → AreOld last (connect_turn client file sent phase).settled
connect_old last client file sent phase = grind arith

-- any call
pub called_tells : (client : Client) (call : ClientCall) → IsSoundClient client
    → TellNumbers client.last_number (client_called client call).notes (client_called client call).client.last_number
called_tells client (ClientCall.Commanded command) sound = any_command client (Tells client) (commands_tell client) command
called_tells client (ClientCall.Taken reply) sound = any_reply client _ (takes_tell client sound.numbers) reply
called_tells client ClientCall.Noticed sound = all_tell client false (λ file entry. notice_turn entry.sent entry.phase)
    (λ file. any_notice (client.entries file).sent _ (notices_old client.last_number (client.entries file).sent)
    (client.entries file).phase (sound.numbers.rising file))
called_tells client ClientCall.Connected sound =
    all_tell client true (λ file entry. connect_turn client file entry.sent entry.phase)
    (λ file. connect_old client.last_number client file (client.entries file).sent (client.entries file).phase)
