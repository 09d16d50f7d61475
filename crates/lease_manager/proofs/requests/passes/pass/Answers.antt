use Rattle.lease_manager.specs.Outs.{handling_of}
use Rattle.lease_manager.proofs.waits.Passing.{begins_behind, pass_done}
use Rattle.lease_manager.proofs.requests.passes.pass.Goals as goal

pub returns-clause-step : goal.returns-clause-step
returns-clause-step c = (pass_done c.args.file.0 c.loop-place.place c.loop-place.answered
    (handling_of c.loop-place.tables c.loop-place.told) _
    (rw c.held.ensures at c.loop-place-test.false) c.loop-place.invariant).handled

pub returns-clause-answered : goal.returns-clause-answered
returns-clause-answered c = (pass_done c.args.file.0 c.loop-place.place c.loop-place.answered
    (handling_of c.loop-place.tables c.loop-place.told) _
    (rw c.held.ensures at c.loop-place-test.false) c.loop-place.invariant).has_answered

pub loop-place-init : goal.loop-place-init
loop-place-init c = begins_behind c.args.file.0 c.still-place.result c.args.tables.now c.args.told.now c.still-place.ensures
