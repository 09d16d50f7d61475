use Rattle.lease_laws.proofs.Words.{◌∙◌, awaits}
use Rattle.lease_manager.proofs.opens.Tabling.{any_so, any_none, awaits_only}
use Rattle.lease_manager.proofs.tables.Tables.has_awaiting.Goals as goal

pub returns-in-Some : goal.returns-in-Some
returns-in-Some c = rw (← c.self.view_is) (c.awaits.ensures
    ∙ any_so c.args.fid.0 (awaits c.args.client.0 c.args.file.0 c.args.own c.args.fid.0) c.self.inside.opens c.in-Some.one.now
    (awaits_only c.args.client.0 c.args.file.0 c.args.own c.args.fid.0) c.find.ensures.in_order c.in-Some.ensures.found)

pub returns-in-None : goal.returns-in-None
returns-in-None c = rw (← c.self.view_is)
    (any_none c.args.fid.0 (awaits c.args.client.0 c.args.file.0 c.args.own c.args.fid.0) c.self.inside.opens
    (awaits_only c.args.client.0 c.args.file.0 c.args.own c.args.fid.0) c.find.ensures.in_order c.in-None.ensures.found)
