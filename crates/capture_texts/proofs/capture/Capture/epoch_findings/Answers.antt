use Rattle.capture_texts.proofs.Found.{zip_more}
use Rattle.capture_texts.specs.Captures.{moments}
use Rattle.capture_texts.specs.Reports.{IsEpochFound}
use Rattle.capture_texts.proofs.capture.Capture.epoch_findings.Goals as goal

pub loop-one-preserved : goal.loop-one-preserved
loop-one-preserved c = λ past seen has.
    rw c.in_ok-push.ensures.items
    (zip_more (IsEpochFound (moments past)) c.deref-one-items.result.now c.loop-one.findings.items c.loop-one.one-index _
    c.in_ok-epoch_finding.field-0 c.loop-one-test.true (c.loop-one.invariant past seen has)
    (rw has.moments at c.in_ok-epoch_finding.ensures))
