use Rattle.lease_laws.proofs.Words.{◌++◌, ◌∙◌, ap}
use Rattle.lease_manager.specs.Ending.{ids_in}
use Rattle.lease_manager.specs.Table.{server_of}
use Rattle.lease_manager.proofs.tries.Ending.{ended_are, ended_so}
use Rattle.lease_manager.proofs.requests.trial.try_now.Goals as goal

pub returns-clause-told : goal.returns-clause-told
returns-clause-told c = c.in_ok-tell.ensures ∙ ap (λ more. c.args.told.now ++ more)
    (ended_are (server_of c.args.tables.now) (server_of c.attempt.new.tables) (ids_in c.attempt.new.ended)
    c.none_ended-ended.ensures.in_order (ended_so c.args.tables.now.opens c.attempt.new.tables.opens _
    (ids_in c.attempt.new.ended) c.none_ended-ended.ensures.none c.none_ended-ended.ensures.in_order
    c.in_ok-outcome.ensures.ends))
