use Rattle.lease_laws.proofs.Words.{None}
use Rattle.lease_versions.proofs.Tables.{requests_put}
use Rattle.lease_versions.proofs.requests.Requests.forget.Goals as goal

pub returns : goal.returns
returns c = requests_put c.args.self.now (record { by_tag = c.remove.new.self }) c.args.client.0 c.args.tag.0 None
    (rw c.named.ensures at c.remove.ensures.updates)
