use Rattle.lease_laws.proofs.Words.{rules}
use Rattle.lease_manager.specs.Outs.{notice_of}
use Rattle.lease_versions.specs.Rows.{broken}
use Rattle.lease_versions.proofs.Tables.{unchanged}
use Rattle.lease_versions.proofs.versions.Versions.broken.Goals as goal

pub returns-in-None-clause-layer : goal.returns-in-None-clause-layer
returns-in-None-clause-layer c = unchanged c.args.self.now (record { client = c.args.client.0; bytes = c.args.notice.now.key.0 })
    (broken (notice_of c.args.notice.now)) (search rules)
