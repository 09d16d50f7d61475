-- What a command changes that isn't refused: the client, or the record. A flush that is done at once changes nothing.
use Rattle.lease_laws.proofs.Words.{◌&&◌, ◌++◌, ◌+◌, ◌<◌, ◌==◌, ◌||◌, ◌∙◌, ◌∷◌, ◌≡◌, ◌⊎◌, Answer, Bool, Client, Command, Entry}
use Rattle.lease_laws.proofs.Words.{List}
use Rattle.lease_laws.proofs.Words.{LiveEntry, None, OpenTerms, Option, Patch, Pending, Phase, Refusal, Some, Step, Turn, ℕ, []}
use Rattle.lease_laws.proofs.Words.{anew_turn}
use Rattle.lease_laws.proofs.Words.{ap, append-nil, ap₂, arith, belief_of, believes_noted, close_turn, commanded, count_limit}
use Rattle.lease_laws.proofs.Words.{false, file_of, flush_turn, handle_turn, has_unanswered, heard_in, if◌then◌else◌, inl, inr}
use Rattle.lease_laws.proofs.Words.{is_asking}
use Rattle.lease_laws.proofs.Words.{is_some, is_within_limit, knows_file, last_close_turn, last_write_number, length}
use Rattle.lease_laws.proofs.Words.{length-append, lease_key}
use Rattle.lease_laws.proofs.Words.{live_entry, live_open_turn, live_read_turn, may_read, may_write, more_turn, nat_lt}
use Rattle.lease_laws.proofs.Words.{nat_tests, not}
use Rattle.lease_laws.proofs.Words.{one_handle_less, open_in, other_turn, put, read_from_turn, read_sent_turn, refl}
use Rattle.lease_laws.proofs.Words.{same_access}
use Rattle.lease_laws.proofs.Words.{same_share, step_by, subst, suc, sym, taken_turn, through_turn, true, turned, write_turn}
use Rattle.lease_laws.proofs.Words.{zero, buffered_turn}
use Rattle.lease_laws.proofs.Words.{write_requests}
use Rattle.lease_model.specs.client.Step.{with_number}
use Rattle.lease_model.specs.values.Lists.{is_empty}
use Rattle.lease_laws.proofs.client.cases.Commands.{commanded_by, commanded_nowhere}
use Rattle.lease_laws.proofs.client.cases.Turns.{noted_still}
use Rattle.lease_laws.proofs.server.Lists.{clash, either, if_cases}
use Rattle.lease_world.specs.world.Obstacles.{against_command}

-- something stands in its way, or the client changes, or something is noted
abbrev pub Moves : ℕ → Command → Client → Step → Type 0
Moves n command client step = (is_some (against_command n command step.answer) ≡ true)
    ⊎ ((step.client ≡ client → ⊥) ⊎ (0 < length step.notes))

-- the same of a turn of an entry
abbrev Turns : ℕ → Command → Entry → Turn → Type 0
Turns n command entry turn = (is_some (against_command n command turn.answer) ≡ true)
    ⊎ ((turn.entry ≡ entry → ⊥) ⊎ (0 < length turn.settled))

put_here : {X : Type 0} (table : ℕ → X) (n : ℕ) (x : X) → put table n x n ≡ x
unfolding put
put_here table n x = grind (arith, nat_tests)

turn_moves : (n : ℕ) (command : Command) (client : Client) (file number : ℕ) (turn : Turn)
    → Turns n command (client.entries file) turn → Moves n command client (with_number number (turned client file turn))
unfolding turned
turn_moves n command client file number turn (inl stuck) = inl stuck
turn_moves n command client file number turn (inr (inl other)) = inr (inl (λ same.
    other (sym (put_here client.entries file turn.entry) ∙ ap (λ (c : Client). c.entries file) same)))
turn_moves n command client file number turn (inr (inr more)) =
    let counted = length-append turn.settled (believes_noted file (belief_of (client.entries file)) (belief_of turn.entry)) in
    inr (inr (omega (arith, more, counted)))

-- ---- what an entry has

abbrev entry_of : Phase → List Pending → Entry
entry_of phase sent = record { phase = phase; sent = sent }

is_live : Phase → Bool
is_live (Phase.Live live) = true
is_live phase = false

handles_in : Phase → ℕ
handles_in (Phase.Live live) = live.handles
handles_in phase = 0

reads_in : Phase → ℕ
reads_in (Phase.Live live) = live.reads
reads_in phase = 0

unsent_in : Phase → List Pending
unsent_in (Phase.Live live) = live.unsent
unsent_in phase = []

asks_in : Phase → Bool
asks_in (Phase.Live live) = is_asking live
asks_in phase = false

other_kind : (a b : Phase) (x y : List Pending) → is_live a ≡ false → is_live b ≡ true
    → entry_of a x ≡ entry_of b y → ⊥
other_kind a b x y isnt is same = clash (is_live b) is (ap (λ (e : Entry). is_live e.phase) (sym same) ∙ isnt)

other_handles : (live : LiveEntry) (sent : List Pending) (handles : ℕ) → (handles ≡ live.handles → ⊥)
    → live_entry (record live { handles = handles }) sent ≡ live_entry live sent → ⊥
unfolding handles_in
other_handles live sent handles differs same = differs (ap (λ (e : Entry). handles_in e.phase) same)

other_reads : (live : LiveEntry) (sent : List Pending)
    → live_entry (record live { reads = live.reads + 1 }) sent ≡ live_entry live sent → ⊥
unfolding reads_in
other_reads live sent same =
    let counted : live.reads + 1 ≡ live.reads = ap (λ (e : Entry). reads_in e.phase) same in omega (arith, counted)

one_less : (handles : ℕ) → nat_lt 1 handles ≡ true → one_handle_less handles ≡ handles → ⊥
one_less zero more same = let c : ⊥ = cc in c
one_less (suc handles) more same = omega (arith, same)

none_held : (handles : ℕ) → (handles == 0) ≡ false → 0 ≡ handles → ⊥
none_held handles held same = grind arith

-- ---- turns of each command

close_held : (n file : ℕ) (live : LiveEntry) (sent : List Pending) → (live.handles == 0) ≡ false
    → Turns n (Command.Close file) (live_entry live sent) (close_turn live sent)
unfolding close_turn last_close_turn is_live
close_held n file live sent held = if_cases (Turns n (Command.Close file) (live_entry live sent)) (nat_lt 1 live.handles) _ _
    (λ more. inr (inl (other_handles live sent (one_handle_less live.handles) (one_less live.handles more))))
    (λ last. if_cases (Turns n (Command.Close file) (live_entry live sent)) (is_asking live || has_unanswered live sent) _ _
    (λ busy. inl refl)
    (λ quiet. if_cases (Turns n (Command.Close file) (live_entry live sent)) live.belief.handle _ _
    (λ stays. inr (inl (other_handles live sent 0 (none_held live.handles held))))
    (λ goes. inr (inl (other_kind Phase.Closed (Phase.Live live) _ _ refl refl)))))

close_moves : (n file : ℕ) (sent : List Pending) (phase : Phase)
    → Turns n (Command.Close file) (record { phase = phase; sent = sent }) (heard_in close_turn sent phase)
close_moves n file sent (Phase.Live live) = if_cases (Turns n (Command.Close file) (live_entry live sent)) (live.handles == 0) _ _
    (λ parked. inl refl) (λ held. close_held n file live sent held)
close_moves n file sent phase = inl refl

read_sent : (n file : ℕ) (live : LiveEntry) (sent : List Pending)
    → Turns n (Command.Read file) (live_entry live sent) (read_sent_turn live sent)
unfolding read_sent_turn
read_sent n file live sent = if_cases (Turns n (Command.Read file) (live_entry live sent)) (is_asking live) _ _
    (λ asking. inl refl)
    (λ idle. if_cases (Turns n (Command.Read file) (live_entry live sent)) (live.reads == count_limit) _ _
    (λ full. inl refl) (λ fits. inr (inl (other_reads live sent))))

read_from : (n file : ℕ) (live : LiveEntry) (sent : List Pending) (reads : Bool) (base : Option (List ℕ))
    → Turns n (Command.Read file) (live_entry live sent) (read_from_turn file live sent reads base)
read_from n file live sent true (Some base) = inr (inr (omega arith))
read_from n file live sent true None = read_sent n file live sent
read_from n file live sent false base = read_sent n file live sent

read_held : (n file : ℕ) (live : LiveEntry) (sent : List Pending)
    → Turns n (Command.Read file) (live_entry live sent) (live_read_turn file live sent)
unfolding live_read_turn
read_held n file live sent = if_cases (Turns n (Command.Read file) (live_entry live sent)) (may_read live.access) _ _
    (λ may. read_from n file live sent live.belief.read live.base) (λ not. inl refl)

read_moves : (n file : ℕ) (sent : List Pending) (phase : Phase)
    → Turns n (Command.Read file) (record { phase = phase; sent = sent }) (heard_in (live_read_turn file) sent phase)
read_moves n file sent (Phase.Live live) = if_cases (Turns n (Command.Read file) (live_entry live sent)) (live.handles == 0) _ _
    (λ parked. inl refl) (λ held. read_held n file live sent)
read_moves n file sent phase = inl refl

write_held : (n file last : ℕ) (patch : Patch) (live : LiveEntry) (sent : List Pending)
    → Turns n (Command.Write file patch) (live_entry live sent) (write_turn file live sent last patch)
unfolding write_turn taken_turn buffered_turn through_turn
write_held n file last patch live sent =
    if_cases (Turns n (Command.Write file patch) (live_entry live sent)) (not (may_write live.access)) _ _ (λ denied. inl refl)
    (λ may. if_cases (Turns n (Command.Write file patch) (live_entry live sent)) (not (is_within_limit patch)) _ _
    (λ long. inl refl)
    (λ within. if_cases (Turns n (Command.Write file patch) (live_entry live sent)) (last == last_write_number) _ _
    (λ full. inl refl)
    (λ room. if_cases (Turns n (Command.Write file patch) (live_entry live sent)) live.belief.write _ _
    (λ caches. inr (inr (omega arith))) (λ sends. inr (inr (omega arith))))))

write_moves : (n file last : ℕ) (patch : Patch) (sent : List Pending) (phase : Phase)
    → Turns n (Command.Write file patch) (record { phase = phase; sent = sent })
    (heard_in (λ live sent. write_turn file live sent last patch) sent phase)
write_moves n file last patch sent (Phase.Live live) =
    if_cases (Turns n (Command.Write file patch) (live_entry live sent)) (live.handles == 0) _ _
    (λ parked. inl refl) (λ held. write_held n file last patch live sent)
write_moves n file last patch sent phase = inl refl

other_unsent : (live : LiveEntry) (sent more : List Pending) → is_empty live.unsent ≡ false
    → live_entry (record live { unsent = [] }) more ≡ live_entry live sent → ⊥
unfolding unsent_in
other_unsent live sent more some same =
    let none : [] ≡ live.unsent = ap (λ (e : Entry). unsent_in e.phase) same in
    clash (is_empty live.unsent) (ap is_empty (sym none)) some

flush_held : (n file : ℕ) (live : LiveEntry) (sent : List Pending)
    → Turns n (Command.Flush file) (live_entry live sent) (flush_turn live sent)
unfolding flush_turn
flush_held n file live sent = either (is_empty live.unsent)
    (λ none. inl (rw none refl)) (λ some. inr (inl (other_unsent live sent _ some)))

flush_moves : (n file : ℕ) (sent : List Pending) (phase : Phase)
    → Turns n (Command.Flush file) (record { phase = phase; sent = sent }) (heard_in flush_turn sent phase)
flush_moves n file sent (Phase.Live live) = if_cases (Turns n (Command.Flush file) (live_entry live sent)) (live.handles == 0) _ _
    (λ parked. inl refl) (λ held. flush_held n file live sent)
flush_moves n file sent phase = inl refl

other_asking : (live other : LiveEntry) (sent : List Pending) → is_asking other ≡ true → is_asking live ≡ false
    → live_entry other sent ≡ live_entry live sent → ⊥
unfolding asks_in
other_asking live other sent asks idle same =
    clash (is_asking live) (ap (λ (e : Entry). asks_in e.phase) (sym same) ∙ asks) idle

one_more : (handles : ℕ) → handles + 1 ≡ handles → ⊥
one_more handles same = omega (arith, same)

open_live : (n : ℕ) (key : List ℕ) (file : ℕ) (terms : OpenTerms) (live : LiveEntry) (sent : List Pending)
    → Turns n (Command.Open file terms) (live_entry live sent) (live_open_turn key file live sent terms)
unfolding live_open_turn handle_turn other_turn anew_turn more_turn is_live
open_live n key file terms live sent =
    if_cases (Turns n (Command.Open file terms) (live_entry live sent)) (is_asking live) _ _ (λ asking. inl refl)
    (λ idle. if_cases (Turns n (Command.Open file terms) (live_entry live sent))
    (same_access terms.access live.access && same_share terms.share live.share) _ _
    (λ same. if_cases (Turns n (Command.Open file terms) (live_entry live sent)) (live.handles == count_limit) _ _
    (λ full. inl refl) (λ fits. inr (inl (other_handles live sent (live.handles + 1) (one_more live.handles)))))
    (λ other. if_cases (Turns n (Command.Open file terms) (live_entry live sent)) (live.handles == 0) _ _
    (λ parked. inr (inl (other_kind (Phase.Opening terms.access terms.share) (Phase.Live live) _ _ refl refl)))
    (λ held. if_cases (Turns n (Command.Open file terms) (live_entry live sent)) (live.handles == count_limit) _ _
    (λ full. inl refl) (λ fits. inr (inl (other_asking live _ sent refl idle))))))

open_moves : (n : ℕ) (online : Bool) (key : List ℕ) (file : ℕ) (terms : OpenTerms) (sent : List Pending) (phase : Phase)
    → Turns n (Command.Open file terms) (record { phase = phase; sent = sent }) (open_in online key file terms sent phase)
open_moves n online key file terms sent Phase.Closed =
    if_cases (Turns n (Command.Open file terms) (record { phase = Phase.Closed; sent = sent })) online _ _
    (λ up. inr (inl closed_no_more)) (λ down. inl refl)
  where
    closed_no_more : entry_of (Phase.Opening terms.access terms.share) sent ≡ entry_of Phase.Closed sent → ⊥
    closed_no_more same = let e : Phase.Opening terms.access terms.share ≡ Phase.Closed = ap (λ (e : Entry). e.phase) same in cc
open_moves n online key file terms sent (Phase.Live live) = open_live n key file terms live sent
open_moves n online key file terms sent phase = inl refl

-- ---- commands

known_moves : (n : ℕ) (client : Client) (command : Command) → Moves n command client (step_by client command)
known_moves n client (Command.Open file terms) = turn_moves n (Command.Open file terms) client file client.last_number _
    (open_moves n client.is_online (lease_key client.guid file) file terms (client.entries file).sent (client.entries file).phase)
known_moves n client (Command.Close file) = turn_moves n (Command.Close file) client file client.last_number _
    (close_moves n file (client.entries file).sent (client.entries file).phase)
known_moves n client (Command.Read file) = turn_moves n (Command.Read file) client file client.last_number _
    (read_moves n file (client.entries file).sent (client.entries file).phase)
known_moves n client (Command.Write file patch) = turn_moves n (Command.Write file patch) client file _ _
    (write_moves n file client.last_number patch (client.entries file).sent (client.entries file).phase)
known_moves n client (Command.Flush file) = turn_moves n (Command.Flush file) client file client.last_number _
    (flush_moves n file (client.entries file).sent (client.entries file).phase)

pub command_moves : (n : ℕ) (client : Client) (command : Command) → Moves n command client (commanded client command)
command_moves n client command = either (knows_file client (file_of command))
    (λ known. subst (Moves n command client) (sym (commanded_by client command known)) (known_moves n client command))
    (λ unknown. subst (Moves n command client) (sym (commanded_nowhere client command unknown)) (inl refl))

-- ---- a flush that is done at once

abbrev IsStill : Client → Step → Type 0
IsStill client step = step.answer ≡ Answer.Done
    → step ≡ record { client = client; answer = Answer.Done; requests = []; notes = [] }

not_done : {P : Type 0} (refusal : Refusal) → Answer.Refused refusal ≡ Answer.Done → P
not_done refusal same = let c : ⊥ = cc in absurd c

not_waiting : {P : Type 0} → Answer.Waiting ≡ Answer.Done → P
not_waiting same = let c : ⊥ = cc in absurd c

no_write : (unsent : List Pending) → is_empty unsent ≡ true → unsent ≡ []
no_write [] e = refl
no_write (write ∷ unsent) e = let c : ⊥ = cc in absurd c

flush_still : (live : LiveEntry) (sent : List Pending) → live.unsent ≡ []
    → flush_turn live sent ≡ record { entry = live_entry live sent; answer = Answer.Done; requests = []; settled = [] }
unfolding flush_turn
flush_still live sent none =
    ap (λ (ws : List Pending). record {
      entry = live_entry (record live { unsent = [] }) (sent ++ ws);
      answer = if is_empty ws then Answer.Done else Answer.Waiting;
      requests = write_requests live.file_id ws;
      settled = [];
    }) none
    ∙ ap₂ (λ (ws ss : List Pending). record {
      entry = live_entry (record live { unsent = ws }) ss;
      answer = Answer.Done;
      requests = [];
      settled = [];
    }) (sym none) (append-nil sent)

flush_live : (client : Client) (file : ℕ) (live : LiveEntry) (sent : List Pending) → client.entries file ≡ live_entry live sent
    → IsStill client (turned client file (flush_turn live sent))
unfolding turned flush_turn
flush_live client file live sent is done = either (is_empty live.unsent)
    (λ none. ap (turned client file) (flush_still live sent (no_write live.unsent none))
    ∙ noted_still client file (live_entry live sent) Answer.Done [] is)
    (λ some. not_waiting (sym (ap (λ (b : Bool). if b then Answer.Done else Answer.Waiting) some) ∙ done))

flush_heard : (client : Client) (file : ℕ) (phase : Phase) → (client.entries file).phase ≡ phase
    → IsStill client (turned client file (heard_in flush_turn (client.entries file).sent phase))
unfolding turned
flush_heard client file (Phase.Live live) is = if_cases (λ (turn : Turn). IsStill client (turned client file turn))
    (live.handles == 0) _ _ (λ parked. not_done Refusal.NotOpen)
    (λ held. flush_live client file live (client.entries file).sent
    (ap (λ (p : Phase). record { phase = p; sent = (client.entries file).sent }) is))
flush_heard client file phase is = not_done _

pub flush_done : (client : Client) (file : ℕ) → IsStill client (commanded client (Command.Flush file))
flush_done client file = either (knows_file client file)
    (λ known. subst (IsStill client) (sym (commanded_by client (Command.Flush file) known)) (λ done.
    let is = flush_heard client file (client.entries file).phase refl done in
    ap (λ (step : Step). with_number client.last_number step) is))
    (λ unknown. subst (IsStill client) (sym (commanded_nowhere client (Command.Flush file) unknown)) (not_done Refusal.NotOpen))
