use Rattle.lease_manager.specs.Filed.{has_id}
use Rattle.lease_laws.proofs.Words.{sym}
use Rattle.lease_laws.proofs.server.Lists.{find_has, has_any}
use Rattle.lease_manager.proofs.waits.Counted.{none_found}
use Rattle.lease_manager.proofs.tables.Tables.has_open.Goals as goal

pub returns-in-Some : goal.returns-in-Some
returns-in-Some c =
    let there = find_has (has_id c.args.fid.0) c.in-Some.field-0.now c.self.inside.opens (sym c.in-Some.ensures.found) in
    rw (← c.self.view_is) (sym (has_any (has_id c.args.fid.0) c.in-Some.field-0.now c.self.inside.opens there.0 there.1))

pub returns-in-None : goal.returns-in-None
returns-in-None c = rw (← c.self.view_is) (sym (none_found (has_id c.args.fid.0) c.self.inside.opens c.in-None.ensures.found))
