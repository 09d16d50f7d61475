use Rattle.lease_laws.proofs.Words.{◌<◌, ◌∙◌, arith, has_sent, length, sym}
use Rattle.lease_client.specs.Known.{client_of}
use Rattle.lease_client.proofs.Found.{go_on, stop_at}
use Rattle.lease_client.proofs.machine.Machine.file_with_sent.Goals as goal

pub returns-then-has_sent-clause-found : goal.returns-then-has_sent-clause-found
returns-then-has_sent-clause-found c =
    let below : c.loop-index.index < length c.args.self.now.entries = omega arith in
    stop_at (has_sent (client_of c.args.self.now) c.args.number) _ _ below c.loop-index.invariant
    (sym c.has_sent.ensures ∙ c.if-has_sent.true)

pub loop-index-preserved : goal.loop-index-preserved
loop-index-preserved c = go_on (has_sent (client_of c.args.self.now) c.args.number) _ c.loop-index.invariant
    (sym c.has_sent.ensures ∙ c.if-has_sent.false)
