use Rattle.lease_laws.proofs.Words.{◌∙◌, ap, list_any, sym}
use Rattle.lease_versions.proofs.Scans.{create_test, none_asked}
use Rattle.lease_versions.proofs.requests.Requests.has_create.Goals as goal

pub returns-clause-none : goal.returns-clause-none
returns-clause-none c = λ none tag. none_asked c.args.client.0 c.args.guid.0 c.args.self.now tag
    (sym c.loop-under.invariant
    ∙ ap (list_any (create_test c.args.client.0 c.args.guid.0 c.args.self.now)) c.in-None.ensures.steps.0)
