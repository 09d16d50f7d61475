use Rattle.std.proofs.Common.{◌∙◌, ap, subst}
use Rattle.std.proofs.lemmas.List.{take_all}
use Rattle.capture_texts.proofs.Found.{zip_more}
use Rattle.capture_texts.specs.Reports.{AreFound, IsFound}
use Rattle.capture_walk.specs.Chains.{files_in}
use Rattle.capture_texts.proofs.capture.Capture.findings_by.Goals as goal

pub loop-file-preserved : goal.loop-file-preserved
loop-file-preserved c = λ past seen has.
    rw c.in_ok-push.ensures.items
    (zip_more (IsFound past seen) c.files-file-items.result.now c.loop-file.findings.items c.loop-file.file-index 0
    c.in_ok-file_finding.field-0 c.loop-file-test.true (c.loop-file.invariant past seen has)
    (c.in_ok-file_finding.ensures past seen has))

pub returns : goal.returns
returns c = λ past seen has.
    subst (λ files. AreFound past seen files c.loop-file.findings.items)
    (take_all c.loop-file.file-index c.files-file-items.result.now c.loop-file-test.false
    ∙ c.files-file-items.ensures c.args.self.now.walking.walk.events.items c.requires
    ∙ ap files_in has.walking.walk.shown)
    (c.loop-file.invariant past seen has)
