use Rattle.lease_laws.proofs.Words.{rules}
use Rattle.lease_state.specs.State.{state_of}
use Rattle.lease_versions.specs.Rows.{acknowledged}
use Rattle.lease_versions.proofs.Tables.{unchanged}
use Rattle.lease_versions.proofs.versions.Versions.acknowledged.Goals as goal

pub returns-in_default : goal.returns-in_default
returns-in_default c = unchanged c.args.self.now (record { client = c.args.client.0; bytes = c.args.key.0 })
    (acknowledged (state_of c.args.state)) (search rules)
