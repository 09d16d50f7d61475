use Rattle.{lease_lines.proofs.Notes.note_written, lease_client.specs.declared.values.note.Note.Note}
use Rattle.lease_lines.proofs.client_answers.fact_noted.Goals as goal

pub returns-in-Settled : goal.returns-in-Settled
returns-in-Settled c = let d = c.in-Settled in
    rw d.is (note_written c.args.client (Note.Settled d.number d.outcome))

pub returns-in-Wrote : goal.returns-in-Wrote
returns-in-Wrote c = let d = c.in-Wrote in
    rw d.is (note_written c.args.client (Note.Wrote d.file d.number d.patch d.way))

pub returns-in-Believes : goal.returns-in-Believes
returns-in-Believes c = let d = c.in-Believes in rw d.is (note_written c.args.client (Note.Believes d.file d.state))

pub returns-in-CachedRead : goal.returns-in-CachedRead
returns-in-CachedRead c = let d = c.in-CachedRead in rw d.is (note_written c.args.client (Note.CachedRead d.file d.bytes))
