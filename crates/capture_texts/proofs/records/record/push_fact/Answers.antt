use Rattle.std.proofs.Common.{ap, ◌∙◌}
use Rattle.capture_texts.specs.records.Records.{facts_in}
use Rattle.capture_texts.proofs.Recording.{fact-push}
use Rattle.capture_texts.proofs.records.record.push_fact.Goals as goal

pub returns-clause-facts : goal.returns-clause-facts
returns-clause-facts c = ap facts_in c.in_ok-push.ensures.items ∙ fact-push c.args.lines.now.items c.args.fact
