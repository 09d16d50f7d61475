use Rattle.share_server.proofs.Fresh.{fresh_server, is_fresh}
use Rattle.share_server.proofs.server.Server.with_rules.Goals as goal

pub invariant_of-result : goal.invariant_of-result
invariant_of-result c = rw c.in_ok-new.ensures.ok (is_fresh c.laws_of_servers.ensures.first c.args.rules c.args.files.items
    c.manager_of.result c.new-host.result c.new-host.ensures c.manager_of.ensures)

pub returns : goal.returns
returns c = rw c.in_ok-new.ensures.ok (fresh_server c.args.rules c.args.files.items c.manager_of.result c.new-host.result
    c.new-host.ensures c.manager_of.ensures)
