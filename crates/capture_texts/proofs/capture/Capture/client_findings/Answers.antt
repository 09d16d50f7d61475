use Rattle.capture_texts.proofs.Found.{zip_more}
use Rattle.capture_texts.specs.Captures.{moments}
use Rattle.capture_texts.specs.Reports.{IsClientFound}
use Rattle.capture_texts.proofs.capture.Capture.client_findings.Goals as goal

pub loop-loss-preserved : goal.loop-loss-preserved
loop-loss-preserved c = λ past seen has.
    rw c.in_ok-push.ensures.items
    (zip_more (IsClientFound (moments past)) c.deref-loss-items.result.now c.loop-loss.findings.items c.loop-loss.loss-index _
    c.in_ok-client_finding.field-0 c.loop-loss-test.true (c.loop-loss.invariant past seen has)
    (rw has.moments at c.in_ok-client_finding.ensures))
