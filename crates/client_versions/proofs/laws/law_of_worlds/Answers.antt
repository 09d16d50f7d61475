use Rattle.client_versions.proofs.Worlds.{records_are_those_of_version_1}
use Rattle.client_versions.proofs.laws.law_of_worlds.Goals as goal

pub returns : goal.returns
returns c = records_are_those_of_version_1
