-- How the verdict on a capture is told, and the record of it.
use Rattle.std.specs.Prelude.{◌≡◌, ℕ, true, ◌++◌, List, [], ◌∷◌, codes}
use Rattle.std.specs.List.{flat_map}
use Rattle.std.specs.String.{string_bytes}
use Rattle.capture_texts.specs.records.Records.{IsRecord, are_lines, facts_in, notes_told, tells}
use Rattle.capture_texts.specs.declared.records.record.RecordLine.{RecordLine}
use Rattle.capture_texts.specs.declared.records.record.RecordLine.TheVariants as line
use Rattle.capture_texts.specs.Reports.{verdict_of}
use Rattle.capture_texts.specs.Texts.{findings_text}
use Rattle.capture_texts.specs.Verdicts.{IsReportOn}
use Rattle.capture_texts.specs.declared.finding.CaptureVerdict.{CaptureVerdict}
use Rattle.capture_texts.specs.declared.finding.CaptureVerdict.TheVariants as verdict
use Rattle.capture_texts.specs.declared.finding.Report.{Report}
use Rattle.capture_texts.specs.declared.line.Side.{Side}
use Rattle.lease_texts.specs.Records.{fact_line}

abbrev pub capture_line : CaptureVerdict → List ℕ
capture_line verdict.Safe = codes "safe" ++ 10 ∷ []
capture_line verdict.Unsafe = codes "unsafe" ++ 10 ∷ []
capture_line verdict.NothingJudged = codes "nothing judged" ++ 10 ∷ []

-- the exit status of a verdict
abbrev pub capture_status : CaptureVerdict → ℕ
capture_status verdict.Safe = 0
capture_status verdict.Unsafe = 3
capture_status verdict.NothingJudged = 4

-- a line of a record, with its line feed
abbrev pub line_printed : RecordLine → List ℕ
line_printed (line.Fact fact) = fact_line fact
line_printed (line.Remark text) = codes "# " ++ string_bytes text ++ 10 ∷ []

abbrev pub lines_printed : List RecordLine → List ℕ
lines_printed lines = flat_map line_printed lines

-- The text is the record of what is found in the capture that these bytes are, and after it there are remarks: the verdict, and what
-- is found.
pub record TellsRecord (side : Side) (bytes text : List ℕ) (status : ℕ) : Type 0 where
  pub report : Report
  pub lines : List RecordLine
  pub notes : List RecordLine
  pub reports : IsReportOn side bytes report
  pub facts : IsRecord report.files.items (facts_in lines) (tells lines)
  pub told : text ≡ lines_printed lines ++ (codes "# " ++ capture_line (verdict_of report.files.items)) ++ lines_printed notes
  pub remarks : facts_in notes ≡ []
  pub found : tells notes ≡ notes_told report
  pub one-line : are_lines lines ≡ true
  pub also-one-line : are_lines notes ≡ true
  pub status-is : status ≡ capture_status (verdict_of report.files.items)

-- This is what is found in the capture that these bytes are, and the verdict on it.
pub record FindsIn (side : Side) (bytes findings : List ℕ) (told : CaptureVerdict) : Type 0 where
  pub report : Report
  pub reports : IsReportOn side bytes report
  pub found : findings ≡ findings_text report
  pub verdict : told ≡ verdict_of report.files.items
