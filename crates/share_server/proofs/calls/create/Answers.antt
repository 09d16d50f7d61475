use Rattle.share_server.specs.Table.{table_of}
use Rattle.share_server.proofs.Calling.{faulty_create}
use Rattle.share_server.proofs.calls.create.Goals as goal

pub returns : goal.returns
returns c = faulty_create (table_of c.args.manager.now c.args.host.now) c.args.client.0 c.args.file.0 c.args.access c.args.share
    _ _ c.args.outs.now c.refuse_create.new.self c.requires.server c.requires.present
    (rw c.as_slice.ensures at c.in-Err.ensures.value) c.requires.given c.in_ok-refuse_create-in-Err.ensures
