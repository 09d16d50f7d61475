use Rattle.lease_laws.proofs.Words.{◌∙◌}
use Rattle.lease_versions.specs.Kept.{opens_of}
use Rattle.lease_versions.proofs.Tables.{noted_back}
use Rattle.lease_versions.proofs.versions.Versions.noted.Goals as goal

pub returns-in-Err-clause-opens_refused : goal.returns-in-Err-clause-opens_refused
returns-in-Err-clause-opens_refused c = c.take_back.ensures.opens
    ∙ rw (c.has-known.ensures, c.in_ok-note.ensures.noted) (noted_back (opens_of c.args.self.now.opens) c.args.file_id.0 _)
