use Rattle.lease_laws.proofs.Words.{◌∙◌, ap, filter, find, map}
use Rattle.lease_laws.proofs.server.Lists.{among_filter}
use Rattle.lease_manager.proofs.opens.Homes.{files_found}
use Rattle.lease_manager.specs.Filed.{has_id}
use Rattle.lease_manager.specs.Looks.{file_found}
use Rattle.lease_manager.specs.Parting.{is_connected_of}
use Rattle.lease_manager.proofs.tables.opens.Opens.files_of_client.Goals as goal

pub returns : goal.returns
returns c = c.in_ok-files.ensures
    ∙ (ap (map (λ fid. file_found (find (has_id fid.0) c.args.self.now))) c.deref.ensures.value
    ∙ files_found c.args.self.now c.in_ok-ids.ensures.in_order c.in_ok-ids.ids.items
    (filter (is_connected_of c.args.client.0) c.args.self.now) c.in_ok-ids.ensures.ids
    (λ one among. (among_filter (is_connected_of c.args.client.0) one c.args.self.now among).0))
