use Rattle.lease_laws.proofs.Words.{rules, sym}
use Rattle.lease_versions.proofs.Tables.{leases_none, leases_set}
use Rattle.lease_versions.proofs.leases.Leases.set.Goals as goal

pub returns-in-Some : goal.returns-in-Some
returns-in-Some c = leases_set c.args.self.now (record { by_name = c.get_mut.follows.lender c.args.lease }) c.args.name
    c.in-Some.known.now c.args.lease (sym c.in-Some.ensures.value) ((c.get_mut.follows.holds c.args.lease).3 (search rules))

pub returns-in_default : goal.returns-in_default
returns-in_default c = rw c.get_mut.follows.holds-at-none (leases_none c.args.self.now c.args.name c.args.lease
    (search rules))
