use Rattle.lease_laws.proofs.Words.{rules}
use Rattle.lease_texts.specs.Drafts.{draft_of}
use Rattle.leasecheck.proofs.Explained.{told_by}
use Rattle.leasecheck.proofs.replaying.ran.Goals as goal

pub returns-in-Ok-clause-told : goal.returns-in-Ok-clause-told
returns-in-Ok-clause-told c = (
  c.in-Ok.told.facts.items,
  search rules,
  search rules,
  told_by c.args.telling.messages c.args.telling.idle c.args.rules (draft_of c.args.schedule.now) c.args.lines.items
      c.in-Ok.told.facts.items c.in-Ok.told.messages.items c.in-Ok.told.idle.items (search rules) (search rules) (search rules),
)
