-- The report on a capture that a text is.
use Rattle.std.specs.Prelude.{◌≡◌, ℕ, List, Ok}
use Rattle.capture_texts.specs.Captures.{capture_in}
use Rattle.capture_texts.specs.Reports.{IsReport}
use Rattle.capture_texts.specs.declared.finding.Report.{Report}
use Rattle.capture_texts.specs.declared.line.Line.{Line}
use Rattle.capture_texts.specs.declared.line.Side.{Side}

-- The text is a capture made at this side, and the report is of that.
pub record IsReportOn (at : Side) (text : List ℕ) (report : Report) : Type 0 where
  pub lines : List Line
  pub read : capture_in text ≡ Ok lines
  pub reports : IsReport at lines report
