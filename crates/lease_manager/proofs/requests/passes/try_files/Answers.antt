use Rattle.lease_laws.proofs.Words.{get_or, rules}
use Rattle.lease_manager.specs.Outs.{handling_of}
use Rattle.lease_manager.proofs.waits.Passing.{next_file, no_more_files}
use Rattle.lease_manager.proofs.requests.passes.try_files.Goals as goal

pub loop-file-preserved : goal.loop-file-preserved
loop-file-preserved c = next_file c.args.files.now c.loop-file.file-index
    (get_or c.args.files.now c.loop-file.file-index (record { 0 = 0 }))
    (handling_of c.loop-file.tables c.loop-file.told) (handling_of c.try_held.new.tables c.try_held.new.told) _
    c.loop-file-test.true (search rules) c.in_ok-try_held.ensures c.loop-file.invariant

pub returns : goal.returns
returns c = no_more_files c.args.files.now c.loop-file.file-index (handling_of c.loop-file.tables c.loop-file.told) _
    c.loop-file-test.false c.loop-file.invariant
