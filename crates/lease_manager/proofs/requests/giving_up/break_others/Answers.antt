use Rattle.lease_laws.proofs.Words.{◌++◌, ◌∙◌, ap, begun, others_broken, wants_met}
use Rattle.lease_manager.specs.Ending.{ids_in}
use Rattle.lease_manager.specs.GivingUp.{extent_of}
use Rattle.lease_manager.specs.Outs.{progress_of}
use Rattle.lease_manager.specs.Table.{server_of}
use Rattle.lease_manager.specs.Wishes.{wants_for}
use Rattle.lease_manager.proofs.tries.Calling.{broken_now, others_are}
use Rattle.lease_manager.proofs.tries.Ending.{ended_are, ended_so}
use Rattle.lease_manager.proofs.requests.giving_up.break_others.Goals as goal

pub returns : goal.returns
returns c = broken_now c.args.tables.now c.meet_all.new.tables c.args.told.now c.tell.new.told c.tell-2.new.self
    c.meet_all.new.outs (others_broken (server_of c.args.tables.now) c.args.own c.args.file.0 (extent_of c.args.extent))
    (c.in_ok-meet_all.ensures.step ∙ (ap (wants_met _) (ap (progress_of c.args.tables.now) c.new-outs.ensures)
    ∙ (ap (λ wants. wants_met wants (begun (server_of c.args.tables.now))) (c.deref.ensures.value ∙ (c.in_ok-wants.ensures
    ∙ ap (λ wish. wants_for wish (server_of c.args.tables.now) c.args.own c.args.file.0) c.wish.ensures))
    ∙ others_are (server_of c.args.tables.now) c.args.own c.args.file.0 c.args.extent)))
    c.in_ok-meet_all.ensures.queues
    (c.in_ok-tell.ensures ∙ ap (λ more. c.args.told.now ++ more)
    (ended_are (server_of c.args.tables.now) (server_of c.meet_all.new.tables) (ids_in c.meet_all.new.ended)
    c.none_ended-ended.ensures.in_order (ended_so c.args.tables.now.opens c.meet_all.new.tables.opens _
    (ids_in c.meet_all.new.ended) c.none_ended-ended.ensures.none c.none_ended-ended.ensures.in_order
    c.in_ok-meet_all.ensures.ends)))
    c.in_ok-tell-2.ensures
