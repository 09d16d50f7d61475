use Rattle.lease_versions.proofs.Tables.{new_layer}
use Rattle.lease_versions.proofs.versions.Versions.new.Goals as goal

pub returns : goal.returns
returns c = new_layer c.new.result c.new-2.result c.new-3.result c.new.ensures c.new-2.ensures c.new-3.ensures
