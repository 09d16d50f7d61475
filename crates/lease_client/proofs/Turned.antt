-- A turn of one entry, and what it makes of the client.
use Rattle.lease_laws.proofs.Words.{◌++◌, ◌-◌, ◌<◌, ◌∙◌, ◌∷◌, ◌≡◌, Answer, Bool, Client, Entry, List, Note, State, Step, Turn, ℕ}
use Rattle.lease_laws.proofs.Words.{[], ap, arith, belief_of, believes_noted, if◌then◌else◌, knows_file}
use Rattle.lease_laws.proofs.Words.{length, nat_tests, refl, same_state, suc, sym, true, turned, zero}
use Rattle.std.proofs.Math.ListN.{set}
use Rattle.lease_model.specs.client.Step.{with_number}
use Rattle.lease_client.specs.Known.{Known, client_of}
use Rattle.lease_client.specs.Turns.{Given, turn_written, given_in, given_by, IsAfter}
use Rattle.lease_client.proofs.Entries.{client_set, file_there, number_set}
use Rattle.lease_laws.proofs.client.cases.Turns.{by_turn}

abbrev pub answered : Client → Answer → Step
answered client answer = record { client = client; answer = answer; requests = []; notes = [] }

-- ---- the entry has turned in its place

-- the tables with another entry of a file
abbrev pub with_entry : Known → ℕ → Entry → Known
with_entry known n entry = record known { entries = set known.entries (n - 1) entry }

pub entry_there : (known : Known) (n : ℕ) (entry : Entry) → knows_file (client_of known) n ≡ true
    → (client_of (with_entry known n entry)).entries n ≡ entry
entry_there known zero entry is = absurd (omega (arith, file_there known zero is))
entry_there known (suc i) entry is =
    let e : suc i - 1 ≡ i = omega arith in
    let there = file_there known (suc i) is in
    let at = number_set known.entries i (suc i) entry (omega (arith, there)) in
    rw e (grind (arith, nat_tests, at))

after_set : (known : Known) (i last : ℕ) (turn : Turn) → i < length known.entries
    → IsAfter (record known { entries = set known.entries i turn.entry; last_number = last })
    (given_by (suc i) (belief_of ((client_of known).entries (suc i))) (turn_written turn))
    (with_number last (turned (client_of known) (suc i) turn))
after_set known i last turn inside = by_turn
    (λ step. IsAfter (record known { entries = set known.entries i turn.entry; last_number = last })
    (given_by (suc i) (belief_of ((client_of known).entries (suc i))) (turn_written turn)) (with_number last step))
    (client_of known) (suc i) turn (record {
      client = ap (λ (client : Client). record client { last_number = last }) (client_set known i turn.entry inside);
      answer = refl;
      requests = refl;
      notes = refl;
    })

in_its_place : (known : Known) (n last : ℕ) (turn : Turn) → knows_file (client_of known) n ≡ true
    → IsAfter (record (with_entry known n turn.entry) { last_number = last })
    (given_by n (belief_of ((client_of known).entries n)) (turn_written turn))
    (with_number last (turned (client_of known) n turn))
in_its_place known zero last turn is = absurd (omega (arith, file_there known zero is))
in_its_place known (suc i) last turn is =
    let e : suc i - 1 ≡ i = omega arith in
    let there = file_there known (suc i) is in
    rw e (after_set known i last turn (omega (arith, there)))

-- what is given out with the note of a belief
abbrev pub with_note : Given → ℕ → State → State → Given
with_note given file old new = record given { notes = given.notes ++ believes_noted file old new }

pub noted_by : (known : Known) (n last : ℕ) (turn : Turn) (old new : State) (final : Known) (first given : Given)
    → knows_file (client_of known) n ≡ true → old ≡ belief_of ((client_of known).entries n)
    → final ≡ record (with_entry known n turn.entry) { last_number = last } → first ≡ given_in (turn_written turn)
    → new ≡ belief_of ((client_of final).entries n) → given ≡ with_note first n old new
    → given ≡ given_by n (belief_of ((client_of known).entries n)) (turn_written turn)
noted_by known n last turn old new final first given is was stands by now out =
    let there : (client_of final).entries n ≡ turn.entry =
    ap (λ (k : Known). (client_of k).entries n) stands ∙ entry_there known n turn.entry is in
    let believed : new ≡ belief_of turn.entry = now ∙ ap belief_of there in
    out ∙ ap (λ (g : Given). with_note g n old new) by ∙ ap (λ (s : State). with_note (given_in (turn_written turn)) n s new) was
    ∙ ap (λ (s : State). with_note (given_in (turn_written turn)) n (belief_of ((client_of known).entries n)) s) believed

pub is_after : (known : Known) (n last : ℕ) (turn : Turn) (old new : State) (final : Known) (first given : Given)
    → knows_file (client_of known) n ≡ true → old ≡ belief_of ((client_of known).entries n)
    → final ≡ record (with_entry known n turn.entry) { last_number = last } → first ≡ given_in (turn_written turn)
    → new ≡ belief_of ((client_of final).entries n) → given ≡ with_note first n old new
    → IsAfter final given (with_number last (turned (client_of known) n turn))
is_after known n last turn old new final first given is was stands by now out =
    let told = noted_by known n last turn old new final first given is was stands by now out in
    rw (stands, told) (in_its_place known n last turn is)

-- ---- nothing changes

pub nothing_after : (known : Known) (answer : Answer) (given : Given)
    → given ≡ record { answer = answer; requests = []; notes = [] } → IsAfter known given (answered (client_of known) answer)
nothing_after known answer given is = rw is (record { client = refl; answer = refl; requests = refl; notes = refl })

-- ---- a refused command

unsaid_if : (same : Bool) (file : ℕ) (new : State) → (if same then [] else Note.Believes file new ∷ []) ≡ [] → same ≡ true
unsaid_if same file new none = grind arith

unsaid : (notes : List Note) (file : ℕ) (old new : State) → notes ++ believes_noted file old new ≡ [] → same_state old new ≡ true
unsaid [] file old new none = unsaid_if (same_state old new) file new none
unsaid (note ∷ notes) file old new none = absurd (cc none)

pub refusal_same : (client : Client) (file last : ℕ) (turn : Turn) (step : Step)
    → step ≡ with_number last (turned client file turn) → step.notes ≡ []
    → same_state (belief_of (client.entries file)) (belief_of turn.entry) ≡ true
refusal_same client file last turn step is none =
    let notes : (turned client file turn).notes ≡ [] = sym (ap (λ (s : Step). s.notes) is) ∙ none in
    by_turn (λ s. s.notes ≡ [] → same_state (belief_of (client.entries file)) (belief_of turn.entry) ≡ true) client file turn
    (unsaid turn.settled file (belief_of (client.entries file)) (belief_of turn.entry)) notes
