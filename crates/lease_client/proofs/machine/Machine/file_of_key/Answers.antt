use Rattle.lease_laws.proofs.Words.{◌<◌, ◌∙◌, arith, is_key_of, length, sym}
use Rattle.lease_client.specs.Known.{client_of}
use Rattle.lease_client.proofs.Found.{go_on, stop_at}
use Rattle.lease_client.proofs.machine.Machine.file_of_key.Goals as goal

pub returns-then-is_key_of-clause-found : goal.returns-then-is_key_of-clause-found
returns-then-is_key_of-clause-found c =
    let below : c.loop-index.index < length c.args.self.now.entries = omega arith in
    stop_at (is_key_of (client_of c.args.self.now) c.args.key.0) _ _ below c.loop-index.invariant
    (sym c.is_key_of.ensures ∙ c.if-is_key_of.true)

pub loop-index-preserved : goal.loop-index-preserved
loop-index-preserved c = go_on (is_key_of (client_of c.args.self.now) c.args.key.0) _ c.loop-index.invariant
    (sym c.is_key_of.ensures ∙ c.if-is_key_of.false)
