-- What a task prints, end to end: from the text of its argument to the text on standard output.
use Rattle.std.specs.Prelude.{◌≡◌, ℕ, ◌++◌, List, [], ◌∷◌, codes, Option}
use Rattle.std.specs.String.{string_bytes}
use Rattle.std.specs.Io.KnownBytes.{Appends}
use Rattle.leasecheck.specs.Answer.{AnswersWith}
use Rattle.capture_texts.specs.declared.finding.CaptureVerdict.{CaptureVerdict}
use Rattle.capture_texts.specs.declared.line.Side.{Side}
use Rattle.leasecheck.specs.Arguments.{Gives}
use Rattle.leasecheck.specs.Capturing.{capture_line, capture_status, FindsIn, TellsRecord}
use Rattle.lease_facts.specs.declared.verdict.Verdict.{Verdict}
use Rattle.lease_facts.specs.declared.verdict.Verdict.TheVariants as verdict
use Rattle.lease_state.specs.declared.rules.Rules.{Rules}
use Rattle.lease_texts.specs.Pieces.{lines_of}
use Rattle.leasecheck.specs.Shown.{Shows}
use Rattle.leasecheck.specs.Explaining.{ExplainsVerdict}
use Rattle.leasecheck.specs.Judging.{IsVerdictOn}
use Rattle.leasecheck.specs.Known.{OfBytes}
use Rattle.leasecheck.specs.Objects.{capture_members, object_text, verdict_members}
use Rattle.leasecheck.specs.Replayed.{Replays, verdict_line, status_of}
use Rattle.leasecheck.specs.declared.tasks.CaptureForm.{CaptureForm}
use Rattle.leasecheck.specs.declared.tasks.CaptureForm.TheVariants as form
use Rattle.leasecheck.specs.declared.tasks.Form.{Form}
use Rattle.leasecheck.specs.declared.tasks.Form.TheVariants as output
use Rattle.leasecheck.specs.declared.tasks.Task.{Task}
use Rattle.leasecheck.specs.declared.tasks.Task.TheVariants.{Ack, Show, Replay, Judge, Explain, Draw, Capture, Version}
use Rattle.leasecheck.specs.declared.tasks.Telling.{Telling}

-- the program's name and version, and the kit that it is proved and built with, a line each
abbrev pub version_text : List ℕ
version_text = codes "leasecheck 0.4.0" ++ 10 ∷ (codes "rattle-kit-13f logic dac8208d650f15bf" ++ 10 ∷ [])

-- The text tells the verdict on a record, and the status is that of the verdict.
abbrev pub TellsVerdict : List ℕ → List ℕ → ℕ → Type 0
TellsVerdict bytes text status =
    (verdict : Verdict) × (text ≡ verdict_line verdict) × (status ≡ status_of verdict) × IsVerdictOn bytes verdict

-- and then the facts that make it so
abbrev pub reason_text : Form → Verdict → List ℕ → List ℕ
reason_text output.Lines verdict explanation = verdict_line verdict ++ explanation
reason_text output.Json verdict explanation =
    object_text (verdict_members verdict) (codes "explanation") (lines_of explanation)

abbrev pub TellsReason : Form → List ℕ → List ℕ → ℕ → Type 0
TellsReason told bytes text status = (verdict : Verdict) × (explanation : List ℕ) × (text ≡ reason_text told verdict explanation)
    × (status ≡ status_of verdict) × ExplainsVerdict bytes verdict explanation

-- The text tells the verdict on a capture, and then what is found in it. The status is that of the verdict.
abbrev pub findings_text : Form → CaptureVerdict → List ℕ → List ℕ
findings_text output.Lines verdict findings = capture_line verdict ++ findings
findings_text output.Json verdict findings = object_text (capture_members verdict) (codes "findings") (lines_of findings)

abbrev pub TellsFindings : Form → Side → List ℕ → List ℕ → ℕ → Type 0
TellsFindings told side bytes text status = (verdict : CaptureVerdict) × (findings : List ℕ)
    × (text ≡ findings_text told verdict findings) × (status ≡ capture_status verdict) × FindsIn side bytes findings verdict

-- or it is the record of it, with the same as remarks; where it is an object the verdict stands before these lines
abbrev pub capture_record_text : Form → CaptureVerdict → List ℕ → List ℕ
capture_record_text output.Lines verdict printed = printed
capture_record_text output.Json verdict printed = object_text (capture_members verdict) (codes "record") (lines_of printed)

abbrev pub TellsCapture : CaptureForm → Form → Side → List ℕ → List ℕ → ℕ → Type 0
TellsCapture form.Findings told side bytes text status = TellsFindings told side bytes text status
TellsCapture form.Record told side bytes text status = (verdict : CaptureVerdict) × (printed : List ℕ)
    × (text ≡ capture_record_text told verdict printed) × (status ≡ capture_status verdict)
    × TellsRecord side bytes printed status

-- The text is the record of the run that the schedule asks for; where it is an object, with the verdict before its lines, which is
-- always that it is safe.
abbrev pub run_text : Form → List ℕ → List ℕ
run_text output.Lines printed = printed
run_text output.Json printed = object_text (verdict_members verdict.Safe) (codes "record") (lines_of printed)

abbrev pub TellsRun : Telling → Rules → List ℕ → List ℕ → Type 0
TellsRun telling rules schedule text =
    (printed : List ℕ) × Replays telling rules schedule printed × (text ≡ run_text telling.form printed)

-- The text is what the task prints, and the status how it ends, where its file has these bytes. Of the text of a picture
-- nothing is said here.
abbrev pub IsTextOf : Task → List ℕ → List ℕ → ℕ → Type 0
IsTextOf (Ack argument) file text status =
    (status ≡ 0) × (bytes : List ℕ) × Gives (string_bytes argument) file bytes × AnswersWith bytes text
IsTextOf (Show kind argument) file text status =
    (status ≡ 0) × (bytes : List ℕ) × Gives (string_bytes argument) file bytes × Shows kind bytes text
IsTextOf (Replay path telling rules) file text status = (status ≡ 0) × TellsRun telling rules file text
IsTextOf (Judge path) file text status = TellsVerdict file text status
IsTextOf (Explain path told) file text status = TellsReason told file text status
IsTextOf (Draw path) file text status = status ≡ 0
IsTextOf (Capture path side form told) file text status = TellsCapture form told side file text status
IsTextOf Version file text status = (status ≡ 0) × (text ≡ version_text)

-- a writer whose bytes are known before and after has got what the task prints where its file has these bytes
abbrev pub PrintsOf : Task → List ℕ → Option (List ℕ) → Option (List ℕ) → ℕ → Type 0
PrintsOf asked file old new status = (text : List ℕ) × IsTextOf asked file text status × Appends old new text

-- and where it has bytes that its reader may have
abbrev pub Prints : Task → Option (List ℕ) → Option (List ℕ) → Option (List ℕ) → ℕ → Type 0
Prints asked known old new status = OfBytes known (λ file. PrintsOf asked file old new status)
