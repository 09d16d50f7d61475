use Rattle.lease_laws.proofs.Words.{◌<◌, ◌∙◌, arith, length, sym}
use Rattle.lease_client.specs.Searches.{is_read_under}
use Rattle.lease_client.specs.Known.{client_of}
use Rattle.lease_client.proofs.Found.{go_on, stop_at}
use Rattle.lease_client.proofs.machine.Machine.file_read_under.Goals as goal

pub returns-then-is_read_under-clause-found : goal.returns-then-is_read_under-clause-found
returns-then-is_read_under-clause-found c =
    let below : c.loop-index.index < length c.args.self.now.entries = omega arith in
    stop_at (is_read_under (client_of c.args.self.now) c.args.file_id.0) _ _ below c.loop-index.invariant
    (sym c.is_read_under.ensures ∙ c.if-is_read_under.true)

pub loop-index-preserved : goal.loop-index-preserved
loop-index-preserved c = go_on (is_read_under (client_of c.args.self.now) c.args.file_id.0) _ c.loop-index.invariant
    (sym c.is_read_under.ensures ∙ c.if-is_read_under.false)
