use Rattle.lease_laws.proofs.Words.{◌∙◌, ap, sym}
use Rattle.manager_model.specs.Handling.{all_passes, left}
use Rattle.lease_manager.specs.LeftOpens.{numbers}
use Rattle.lease_manager.specs.Outs.{handling_of}
use Rattle.lease_manager.specs.Parting.{tag_numbers}
use Rattle.lease_manager.specs.Table.{manager_of}
use Rattle.lease_manager.proofs.tries.Calling.{leaves, leaves_nothing}
use Rattle.lease_manager.proofs.calls.leave.Goals as goal

pub returns-in_ok-try_all-clause-step : goal.returns-in_ok-try_all-clause-step
returns-in_ok-try_all-clause-step c =
    let ids = numbers c.args.file_ids.now in
    let tags = tag_numbers c.args.tags.now in
    c.in_ok-try_all.ensures ∙ (ap all_passes c.in_ok-let_go.ensures
    ∙ (ap (λ told. all_passes (left c.args.client.0 ids tags (handling_of c.args.tables.now told))) c.requires
    ∙ sym (leaves (manager_of c.args.tables.now) c.args.client.0 ids tags (sym c.is_present.ensures ∙ c.if-is_present.true))))

pub returns-else-is_present-clause-step : goal.returns-else-is_present-clause-step
returns-else-is_present-clause-step c = ap (handling_of c.args.tables.now) c.requires
    ∙ sym (leaves_nothing (manager_of c.args.tables.now) c.args.client.0 (numbers c.args.file_ids.now)
    (tag_numbers c.args.tags.now) (sym c.is_present.ensures ∙ c.if-is_present.false))
