use Rattle.lease_laws.proofs.Words.{◌∙◌, is_left_behind}
use Rattle.lease_manager.proofs.opens.Tabling.{any_so, any_none, left_only}
use Rattle.lease_manager.proofs.tables.Tables.has_left_behind.Goals as goal

pub returns-in-Some : goal.returns-in-Some
returns-in-Some c = rw (← c.self.view_is) (c.is_left_behind.ensures
    ∙ any_so c.args.fid.0 (is_left_behind c.args.fid.0) c.self.inside.opens c.in-Some.one.now
    (left_only c.args.fid.0) c.find.ensures.in_order c.in-Some.ensures.found)

pub returns-in-None : goal.returns-in-None
returns-in-None c = rw (← c.self.view_is) (any_none c.args.fid.0 (is_left_behind c.args.fid.0) c.self.inside.opens
    (left_only c.args.fid.0) c.find.ensures.in_order c.in-None.ensures.found)
