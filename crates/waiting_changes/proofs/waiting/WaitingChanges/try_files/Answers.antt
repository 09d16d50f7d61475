use Rattle.lease_laws.proofs.Words.{get_or, rules}
use Rattle.waiting_changes.proofs.Retrying.{next_file, no_more_files}
use Rattle.waiting_changes.specs.Changes.{going_of}
use Rattle.waiting_changes.proofs.waiting.WaitingChanges.try_files.Goals as goal

pub loop-file-preserved : goal.loop-file-preserved
loop-file-preserved c = next_file c.args.files.now c.loop-file.file-index
    (get_or c.args.files.now c.loop-file.file-index (record { 0 = 0 })) (record { 0 = 0 })
    (going_of c.loop-file.self c.loop-file.manager c.loop-file.decisions.items)
    (going_of c.try_file.new.self c.try_file.new.manager c.try_file.new.decisions.items) _
    c.loop-file-test.true (search rules) c.in_ok-try_file.ensures c.loop-file.invariant

pub returns : goal.returns
returns c = no_more_files c.args.files.now c.loop-file.file-index
    (going_of c.loop-file.self c.loop-file.manager c.loop-file.decisions.items) _ c.loop-file-test.false c.loop-file.invariant
