use Rattle.std.proofs.lemmas.Result.{on_ok_weaker}
use Rattle.lease_reasons.proofs.Tables.{last-put, last-same}
use Rattle.lease_reasons.proofs.last_beliefs.LastBeliefs.note.Goals as goal

pub returns-in-Believes : goal.returns-in-Believes
returns-in-Believes c = rw c.in-Believes.is (on_ok_weaker c.put.result
    (λ has past at are. last-put past c.in-Believes.file.0 _ c.args.self.now c.put.new.self at has are) c.put.ensures)

pub returns-in_default : goal.returns-in_default
returns-in_default c = λ past at are. last-same c.args.fact.now past c.args.self.now c.in_default.not-Believes are
