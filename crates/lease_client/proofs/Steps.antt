-- Calls that go by one entry.
use Rattle.lease_laws.proofs.Words.{◌∙◌, ◌≡◌, Client, Command, List, State, Turn, ℕ, [], ap, arith}
use Rattle.lease_laws.proofs.Words.{belief_of, commanded, file_of, knows_file, lease_key, same_state, sym, true, turned}
use Rattle.lease_laws.specs.client.Laws.{RefusedCommandsDoNothing}
use Rattle.lease_model.specs.client.Commanded.{last_by, turn_by}
use Rattle.lease_model.specs.client.Commanded.{commanded_turn, last_after, is_refused}
use Rattle.lease_client.specs.Known.{Known, client_of}
use Rattle.lease_client.specs.Turns.{Given, turn_written, given_in, IsAfter}
use Rattle.lease_laws.proofs.client.cases.Commands.{commanded_by}
use Rattle.lease_client.proofs.Turned.{with_entry, entry_there, with_note, is_after, refusal_same}
use Rattle.lease_laws.proofs.client.cases.Turns.{turned_answer, same_numbered}

pub told_after : (known : Known) (n : ℕ) (turn : Turn) (old new : State) (final : Known) (first given : Given)
    → knows_file (client_of known) n ≡ true → old ≡ belief_of ((client_of known).entries n)
    → final ≡ with_entry known n turn.entry → first ≡ given_in (turn_written turn) → new ≡ belief_of ((client_of final).entries n)
    → given ≡ with_note first n old new → IsAfter final given (turned (client_of known) n turn)
told_after known n turn old new final first given is was stands by now out = rw (← same_numbered (client_of known) n turn)
    (is_after known n known.last_number turn old new final first given is was stands by now out)

-- the turn of a command on the entry of a file, under its key
abbrev turn_at : Known → ℕ → List ℕ → Command → Turn
turn_at known n key command = commanded_turn known.is_online key known.last_number command ((client_of known).entries n)

abbrev last_at : Known → ℕ → List ℕ → Command → ℕ
last_at known n key command = last_after known.is_online key known.last_number command ((client_of known).entries n)

pub command_after : (known : Known) (command : Command) (n : ℕ) (key : List ℕ) (old new : State) (final : Known)
    (first given : Given) → knows_file (client_of known) n ≡ true → n ≡ file_of command → key ≡ lease_key known.guid n
    → old ≡ belief_of ((client_of known).entries n)
    → final ≡ record (with_entry known n (turn_at known n key command).entry) { last_number = last_at known n key command }
    → first ≡ given_in (turn_written (turn_at known n key command)) → new ≡ belief_of ((client_of final).entries n)
    → given ≡ with_note first n old new → IsAfter final given (commanded (client_of known) command)
command_after known command n key old new final first given is of k was stands by now out =
    let there : knows_file (client_of known) (file_of command) ≡ true = rw (← of) is in
    rw (commanded_by (client_of known) command there, ← of, ← k)
    (is_after known n (last_at known n key command) (turn_at known n key command) old new final first given
    is was stands by now out)

pub turn_refused : (known : Known) (command : Command) (n : ℕ) (key : List ℕ)
    → knows_file (client_of known) n ≡ true → n ≡ file_of command → key ≡ lease_key known.guid n
    → is_refused (commanded (client_of known) command).answer ≡ true → is_refused (turn_at known n key command).answer ≡ true
turn_refused known command n key is of k refused =
    let there : knows_file (client_of known) (file_of command) ≡ true = rw (← of) is in
    rw (k, of) (ap is_refused (sym (turned_answer (client_of known) (file_of command) _))
    ∙ (rw (commanded_by (client_of known) command there) at refused))

-- a refused command notes nothing
unnoted_refusal : RefusedCommandsDoNothing → (client : Client) (command : Command)
    → is_refused (commanded client command).answer ≡ true → (commanded client command).notes ≡ []
unnoted_refusal law client command refused = grind arith

pub belief_stays : RefusedCommandsDoNothing → (known : Known) (command : Command) (n : ℕ) (key : List ℕ)
    (old new : State) (final : Known) → knows_file (client_of known) n ≡ true → n ≡ file_of command → key ≡ lease_key known.guid n
    → old ≡ belief_of ((client_of known).entries n)
    → final ≡ record (with_entry known n (turn_at known n key command).entry) { last_number = last_at known n key command }
    → new ≡ belief_of ((client_of final).entries n) → is_refused (commanded (client_of known) command).answer ≡ true
    → same_state old new ≡ true
belief_stays law known command n key old new final is of k was stands now refused =
    let there : knows_file (client_of known) (file_of command) ≡ true = rw (← of) is in
    let turned_by = commanded_by (client_of known) command there in
    let put : (client_of final).entries n ≡ (turn_at known n key command).entry =
    ap (λ (k : Known). (client_of k).entries n) stands ∙ entry_there known n (turn_at known n key command).entry is in
    rw (now, was, put, k, of) (refusal_same (client_of known) (file_of command) (last_by (client_of known) command)
    (turn_by (client_of known) command) (commanded (client_of known) command) turned_by
    (unnoted_refusal law (client_of known) command refused))
