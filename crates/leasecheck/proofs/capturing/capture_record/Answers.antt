use Rattle.lease_laws.proofs.Words.{◌≡◌, ◌++◌, ◌∙◌, [], List, ap, subst, ℕ}
use Rattle.std.proofs.Common.{codes}
use Rattle.std.proofs.lemmas.List.{append_assoc}
use Rattle.capture_texts.specs.Reports.{IsReport, verdict_of}
use Rattle.capture_texts.specs.declared.finding.CaptureVerdict.{CaptureVerdict}
use Rattle.capture_texts.specs.declared.line.Side.{Side}
use Rattle.capture_texts.specs.declared.records.record.RecordLine.{RecordLine}
use Rattle.leasecheck.specs.Capturing.{capture_line, capture_status, lines_printed}
use Rattle.leasecheck.proofs.capturing.capture_record.Goals as goal

-- a text to which four others were added, one after the other
four-added : (first one two three four a b c d : List ℕ) → first ≡ [] → one ≡ first ++ a → two ≡ one ++ b → three ≡ two ++ c
    → four ≡ three ++ d → four ≡ a ++ (b ++ c) ++ d
four-added first one two three four a b c d none is-one is-two is-three is-four =
    let started = is-one ∙ ap (λ (text : List ℕ). text ++ a) none
    in is-four ∙ ap (λ (text : List ℕ). text ++ d) (is-three ∙ (ap (λ (text : List ℕ). text ++ c) (is-two
    ∙ ap (λ (text : List ℕ). text ++ b) started) ∙ append_assoc a b c))

pub returns-clause-told : goal.returns-clause-told
returns-clause-told c =
    let read = c.in_ok-capture_of.ensures.read
    in let verdict = c.verdict-verdict.ensures
    in record {
      report = c.in_ok-report.report;
      lines = c.in_ok-lines.lines.items;
      notes = c.in_ok-notes.notes.items;
      reports = record {
        lines = read.lines;
        read = read.read;
        reports = subst (λ (at : Side). IsReport at read.lines c.in_ok-report.report) read.at_is
            (c.in_ok-report.ensures read.lines read.knows);
      };
      facts = c.in_ok-lines.ensures.record;
      told = four-added _ _ _ _ _ _ _ _ _ c.new-told.ensures.bytes c.in_ok-push_lines.ensures c.in_ok-push_str.ensures.bytes
          c.in_ok-push_verdict.ensures c.in_ok-push_lines-2.ensures
          ∙ (ap (λ (ls : List RecordLine). lines_printed ls ++ (codes "# " ++ capture_line c.verdict-verdict.result)
          ++ lines_printed c.deref-2.result.now) c.deref.ensures.value
          ∙ (ap (λ (v : CaptureVerdict). lines_printed c.in_ok-lines.lines.items ++ (codes "# " ++ capture_line v)
          ++ lines_printed c.deref-2.result.now) verdict
          ∙ ap (λ (ls : List RecordLine). lines_printed c.in_ok-lines.lines.items
          ++ (codes "# " ++ capture_line (verdict_of c.in_ok-report.report.files.items)) ++ lines_printed ls) c.deref-2.ensures.value));
      remarks = c.in_ok-notes.ensures.facts;
      found = c.in_ok-notes.ensures.told;
      one-line = c.in_ok-lines.ensures.lines;
      also-one-line = c.in_ok-notes.ensures.lines;
      status-is = ap capture_status verdict;
    }
