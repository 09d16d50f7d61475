use Rattle.std.proofs.Common.{rules, sym}
use Rattle.client_versions.specs.Kept.{guids_of}
use Rattle.client_versions.proofs.Tables.{guids_none, guids_set}
use Rattle.client_versions.proofs.guids.Guids.set.Goals as goal

pub returns-in-Some : goal.returns-in-Some
returns-in-Some c = guids_set c.args.self.now (record { by_number = c.get_mut.follows.lender c.args.guid }) c.args.file_id.0
    c.in-Some.kept.now c.args.guid (sym c.in-Some.ensures.value) ((c.get_mut.follows.holds c.args.guid).3 (search rules))

pub returns-in_default : goal.returns-in_default
returns-in_default c = rw c.get_mut.follows.holds-at-none (guids_none (guids_of c.args.self.now) c.args.file_id.0
    c.args.guid.0 (search rules))
