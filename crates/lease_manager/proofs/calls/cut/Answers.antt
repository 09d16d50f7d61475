use Rattle.lease_laws.proofs.Words.{◌∙◌, ap, sym}
use Rattle.manager_model.specs.Handling.{all_passes, lost}
use Rattle.lease_manager.specs.Outs.{handling_of}
use Rattle.lease_manager.specs.Table.{manager_of}
use Rattle.lease_manager.proofs.tries.Calling.{cuts, cuts_nothing}
use Rattle.lease_manager.proofs.calls.cut.Goals as goal

pub returns-in_ok-try_all-clause-step : goal.returns-in_ok-try_all-clause-step
returns-in_ok-try_all-clause-step c = c.in_ok-try_all.ensures ∙ (ap all_passes c.in_ok-lose.ensures
    ∙ (ap (λ told. all_passes (lost c.args.client.0 (handling_of c.args.tables.now told))) c.requires
    ∙ sym (cuts (manager_of c.args.tables.now) c.args.client.0 (sym c.is_present.ensures ∙ c.if-is_present.true))))

pub returns-else-is_present-clause-step : goal.returns-else-is_present-clause-step
returns-else-is_present-clause-step c = ap (handling_of c.args.tables.now) c.requires
    ∙ sym (cuts_nothing (manager_of c.args.tables.now) c.args.client.0 (sym c.is_present.ensures ∙ c.if-is_present.false))
