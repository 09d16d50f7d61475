use Rattle.std.proofs.Common.{refl, ap, ◌∙◌}
use Rattle.capture_texts.specs.records.Records.{facts_in}
use Rattle.capture_texts.proofs.Recording.{remark-push}
use Rattle.capture_texts.proofs.records.record.push_remark.Goals as goal

pub returns-in_ok-push-clause-facts : goal.returns-in_ok-push-clause-facts
returns-in_ok-push-clause-facts c = ap facts_in c.in_ok-push.ensures.items ∙ remark-push c.args.lines.now.items _ refl
