use Rattle.client_versions.proofs.Tables.{new_layer}
use Rattle.client_versions.proofs.versions.ClientVersions.new.Goals as goal

pub returns : goal.returns
returns c = new_layer c.new.result c.new-2.result c.new.ensures c.new-2.ensures
