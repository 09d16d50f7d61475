-- Notes of a client as lines.
use Rattle.std.proofs.Common.{◌≡◌, ◌∷◌, ◌++◌, List, ℕ, [], ap, codes, decimal, refl}
use Rattle.lease_client.specs.{Answers.note_of, Answers.settlement_of, declared.values.note.Note.Note}
use Rattle.lease_texts.specs.{Requests.spaced, Lines.line_text, Records.fact_line, Words.outcome_word}
use Rattle.lease_lines.specs.ClientAnswers.{note_line, settlement_word}
use Rattle.lease_state.specs.declared.number.ClientNo.{ClientNo}
use Rattle.{lease_client.specs.declared.values.note.Settlement.Settlement, lease_facts.specs.declared.fact.Fact.Fact}

-- the code's outcome has the word of the rules' one
outcome_told : (outcome : Settlement) → outcome_word outcome ≡ settlement_word (settlement_of outcome)
outcome_told Settlement.Done = refl
outcome_told Settlement.Failed = refl
outcome_told Settlement.Unknown = refl
outcome_told Settlement.Lost = refl

-- a note as a fact of a record
abbrev fact_noted : ClientNo → Note → Fact
fact_noted client (Note.Settled number outcome) = Fact.Settled client number outcome
fact_noted client (Note.Wrote file number patch buffered) = Fact.Wrote client file number patch buffered
fact_noted client (Note.Believes file state) = Fact.Believes client file state
fact_noted client (Note.CachedRead file bytes) = Fact.CachedRead client file bytes

pub note_written : (client : ClientNo) (one : Note) → fact_line (fact_noted client one) ≡ note_line client.0 (note_of one)
unfolding line_text
note_written client (Note.Settled number outcome) =
    ap (λ (word : List ℕ). codes "settled" ++ spaced (decimal client.0 ∷ decimal number ∷ word ∷ []) ++ 10 ∷ [])
    (outcome_told outcome)
note_written client other = refl
