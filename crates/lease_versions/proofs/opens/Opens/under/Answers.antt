use Rattle.lease_laws.proofs.Words.{◌∙◌, ap, list_any, sym}
use Rattle.lease_versions.proofs.Scans.{none_open, open_test}
use Rattle.lease_versions.proofs.opens.Opens.under.Goals as goal

pub returns-clause-none : goal.returns-clause-none
returns-clause-none c = λ none file_id. none_open c.args.client.0 c.args.guid.0 c.args.self.now file_id
    (sym c.loop-file_id.invariant
    ∙ ap (list_any (open_test c.args.client.0 c.args.guid.0 c.args.self.now)) c.in-None.ensures.steps.0)
