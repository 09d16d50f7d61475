use Rattle.lease_manager.specs.Outs.{decisions}
use Rattle.share_server.proofs.Calling.{call_made, told_once}
use Rattle.share_server.proofs.calls.settle.Goals as goal

pub settle-requires : goal.settle-requires
settle-requires c = told_once (record {
  hosts = c.law_of_hosts.ensures.calls;
  once = c.law_of_answers.ensures.once;
  asked = c.law_of_answers.ensures.asked;
  sound = c.laws_of_servers.ensures.kept;
}) c.args.manager.now (decisions c.args.told.now) c.args.host.now c.requires.way

pub returns : goal.returns
returns c = λ way. call_made (record {
  hosts = c.law_of_hosts.ensures.calls;
  once = c.law_of_answers.ensures.once;
  asked = c.law_of_answers.ensures.asked;
  sound = c.laws_of_servers.ensures.kept;
}) c.args.manager.now (decisions c.args.told.now) c.args.host.now c.settle.new.self c.settle.new.outs way
    (rw c.requires.given at c.in_ok-settle.ensures)
