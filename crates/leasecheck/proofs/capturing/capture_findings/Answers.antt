use Rattle.lease_laws.proofs.Words.{subst}
use Rattle.capture_texts.specs.Reports.{IsReport}
use Rattle.capture_texts.specs.declared.line.Side.{Side}
use Rattle.leasecheck.proofs.capturing.capture_findings.Goals as goal

pub returns-clause-told : goal.returns-clause-told
returns-clause-told c =
    let read = c.in_ok-capture_of.ensures.read in record {
      report = c.in_ok-report.report;
      reports = record {
        lines = read.lines;
        read = read.read;
        reports = subst (λ (at : Side). IsReport at read.lines c.in_ok-report.report) read.at_is
            (c.in_ok-report.ensures read.lines read.knows);
      };
      found = c.in_ok-findings.ensures;
      verdict = c.verdict-verdict.ensures;
    }
