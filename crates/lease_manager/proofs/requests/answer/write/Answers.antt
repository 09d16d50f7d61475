use Rattle.lease_laws.proofs.Words.{connected_open}
use Rattle.lease_manager.specs.Table.{server_of}
use Rattle.lease_manager.proofs.tries.Answering.{writes_on}
use Rattle.lease_manager.proofs.requests.answer.write.Goals as goal

pub returns-clause-step : goal.returns-clause-step
returns-clause-step c = writes_on c.args.tables.now c.args.outs.now c.changed.new.self c.write_done.new.self
    (connected_open (server_of c.args.tables.now) c.args.client.0 c.args.fid.0) c.args.client.0 c.args.file.0 c.args.fid.0
    c.args.fits c.requires.fits c.requires.about c.in_ok-changed.ensures c.in_ok-write_done.ensures
