use Rattle.lease_laws.proofs.Words.{Some}
use Rattle.lease_versions.proofs.Tables.{requests_put}
use Rattle.lease_versions.proofs.requests.Requests.put.Goals as goal

pub returns-clause-put : goal.returns-clause-put
returns-clause-put c = requests_put c.args.self.now (record { by_tag = c.insert.new.self }) c.args.client.0 c.args.tag.0
    (Some c.args.asked) (rw c.named.ensures at c.in_ok-insert.ensures.updates)
