use Rattle.lease_laws.proofs.Words.{◌∙◌, sym}
use Rattle.lease_manager.specs.Looks.{is_connected_as}
use Rattle.lease_manager.proofs.opens.Tabling.{found_so, found_not, found_none, connected_only}
use Rattle.lease_manager.proofs.tables.Tables.connected_open.Goals as goal
use Rattle.lease_manager.proofs.tables.Tables.connected_open.Goals.{in_default-via-in-Some+else-is_connected_as}
use Rattle.lease_manager.proofs.tables.Tables.connected_open.Goals.{in_default-via-in_default}

pub returns-in-Some : goal.returns-in-Some
returns-in-Some c = rw (← c.self.view_is)
    (found_so c.args.fid.0 (is_connected_as c.args.client.0 c.args.fid.0) c.self.inside.opens c.in-Some.one.now
    (connected_only c.args.client.0 c.args.fid.0) c.find.ensures.in_order c.in-Some.ensures.found
    (sym c.is_connected_as.ensures ∙ c.if-is_connected_as.true))

pub returns-in_default : goal.returns-in_default
returns-in_default c = rw (← c.self.view_is) (elim c.in_default.branch [
  | in_default-via-in-Some+else-is_connected_as w ↦
      found_not c.args.fid.0 (is_connected_as c.args.client.0 c.args.fid.0) c.self.inside.opens w.in-Some.one.now
      (connected_only c.args.client.0 c.args.fid.0) c.find.ensures.in_order w.in-Some.ensures.found
      (sym w.is_connected_as.ensures ∙ w.if-is_connected_as.false)
  | in_default-via-in_default w ↦ found_none c.args.fid.0 (is_connected_as c.args.client.0 c.args.fid.0) c.self.inside.opens
      (connected_only c.args.client.0 c.args.fid.0) c.find.ensures.in_order w.in_default.ensures.found
])
