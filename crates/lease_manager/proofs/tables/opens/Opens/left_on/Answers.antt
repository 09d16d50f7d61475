use Rattle.lease_laws.proofs.Words.{◌∙◌, ap, filter, values_of}
use Rattle.lease_laws.proofs.server.Lists.{among_filter}
use Rattle.lease_manager.specs.LeftOpens.{numbers}
use Rattle.lease_manager.specs.Looks.{is_left_by}
use Rattle.lease_manager.specs.contracts.values.key.LeaseName.{the_view}
use Rattle.lease_manager.proofs.opens.LeftOpens.{picked_of_key}
use Rattle.lease_manager.proofs.tables.opens.Opens.left_on.Goals as goal

pub returns-in_ok-ids-in-Some-clause-ids : goal.returns-in_ok-ids-in-Some-clause-ids
returns-in_ok-ids-in-Some-clause-ids c =
    let opens = values_of c.self.inside.by_id.entries in
    let key = the_view c.key.inside in
    let waits = is_left_by key.client c.args.file.0 in
    rw (← c.self.view_is, ← c.key.view_is) (ap numbers (rw (← c.self.view_is, ← c.key.view_is) at c.in_ok-ids-in-Some.ensures)
    ∙ picked_of_key key opens c.self.invariant.1 c.in-Some.left.now.keys (filter waits opens)
    (c.in-Some.ensures opens c.self.invariant.2) (λ one a. (among_filter waits one opens a).0))
