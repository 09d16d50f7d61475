use Rattle.capture_texts.proofs.Found.{zip_more}
use Rattle.capture_texts.specs.Reports.{IsLeaseFound}
use Rattle.capture_texts.proofs.capture.Capture.leases_until.Goals as goal

pub loop-told-preserved : goal.loop-told-preserved
loop-told-preserved c = λ past seen has.
    rw c.in_ok-push.ensures.items
    (zip_more (IsLeaseFound past seen) c.deref-told-items.result.now c.loop-told.findings.items c.loop-told.told-index _
    c.in_ok-lease_finding.field-0 c.loop-told-test.true (c.loop-told.invariant past seen has)
    (c.in_ok-lease_finding.ensures past seen has))
