-- What a task has made before anything is written.
use Rattle.std.specs.Prelude.{◌≡◌, ⊤, ℕ, Bool, true, false, List, Option, None, Result, MatchResult}
use Rattle.std.specs.String.{string_bytes}
use Rattle.leasecheck.specs.Arguments.{Gives}
use Rattle.leasecheck.specs.Printed.{IsTextOf, PrintsOf}
use Rattle.leasecheck.specs.Recording.{recorded_text}
use Rattle.leasecheck.specs.Refusals.{EndsWith, MayEnd, refusal_of}
use Rattle.leasecheck.specs.declared.failure.Failure.{Failure}
use Rattle.leasecheck.specs.declared.refusal.Refusal.{Refusal}
use Rattle.leasecheck.specs.declared.tasks.Task.{Task}
use Rattle.leasecheck.specs.declared.tasks.Task.TheVariants as task
use Rattle.leasecheck.specs.declared.printing.Made.{Made}
use Rattle.leasecheck.specs.declared.printing.Made.TheVariants.{Text, Record, Object}

-- its text
abbrev pub text_made : Made → List ℕ
text_made (Text printed) = string_bytes printed.text
text_made (Record one) = recorded_text one
text_made (Object one) = one.text.items

-- whether it is a record, which is written as it is told
abbrev pub is_record : Made → Bool
is_record (Text printed) = false
is_record (Record one) = true
is_record (Object one) = false

-- the exit status
abbrev pub status_made : Made → ℕ
status_made (Text printed) = printed.status
status_made (Record one) = 0
status_made (Object one) = one.status

-- ---- what a task answers

-- This is the text and the status, and nothing is refused; or this may end it, and no more than that is said.
abbrev pub Answers : (List ℕ → ℕ → Type 0) → Option Failure → (Failure → Type 0) → Result Made Refusal → Type 0
Answers IsText refusal MayEndIt answer = MatchResult answer
    (λ made. IsText (text_made made) (status_made made) × (refusal ≡ None)) (λ refused. MayEndIt refused.failure)

-- what a task answers whose file has these bytes
abbrev pub AnswersTo : Task → List ℕ → Result Made Refusal → Type 0
AnswersTo asked file answer = Answers (IsTextOf asked file) (refusal_of asked file) (MayEnd asked file) answer

-- These bytes are what a task goes by whose file has those: the bytes that its argument gives, or else the file's.
abbrev pub IsGiven : Task → List ℕ → List ℕ → Type 0
IsGiven (task.Ack argument) file given = Gives (string_bytes argument) file given
IsGiven (task.Show kind argument) file given = Gives (string_bytes argument) file given
IsGiven (task.Replay path telling rules) file given = given ≡ file
IsGiven (task.Judge path) file given = given ≡ file
IsGiven (task.Explain path told) file given = given ≡ file
IsGiven (task.Draw path) file given = given ≡ file
IsGiven (task.Capture path side form told) file given = given ≡ file
IsGiven task.Version file given = ⊤

-- What a task has printed whose file has these bytes, or how it ends.
abbrev pub PrintsOrEnds : Task → List ℕ → Option (List ℕ) → Option (List ℕ) → Result ℕ Refusal → Type 0
PrintsOrEnds asked file old new answer = MatchResult answer
    (λ status. PrintsOf asked file old new status × (refusal_of asked file ≡ None))
    (λ refused. EndsWith asked file old new refused.failure)
