use Rattle.lease_laws.proofs.Words.{◌∙◌, ap}
use Rattle.lease_manager.specs.LeftOpens.{numbers}
use Rattle.lease_manager.proofs.opens.LeftOpens.{inserted_id}
use Rattle.lease_manager.proofs.ended.Ended.add.Goals as goal

pub returns : goal.returns
returns c = ap numbers c.in_ok-insert.ensures.keys ∙ inserted_id c.args.id c.args.self.now.ids.keys
