use Rattle.lease_laws.proofs.Words.{◌∙◌, ap, sym}
use Rattle.lease_manager.specs.Outs.{handling_of}
use Rattle.lease_manager.specs.Requests.{file_result, request_like}
use Rattle.lease_manager.specs.Table.{server_of}
use Rattle.manager_model.specs.Handling.{arrived_before, tagged_of}
use Rattle.lease_manager.proofs.tries.Arriving.{refused_told}
use Rattle.lease_manager.proofs.requests.arrival.first_try.Goals as goal

pub returns-in_ok-refused-in-Err : goal.returns-in_ok-refused-in-Err
returns-in_ok-refused-in-Err c = refused_told c.args.tables.now c.args.told.now c.refused.new.self c.args.tag.0 c.args.client.0
    c.args.ask _ _ (sym (ap file_result c.in-Err.is) ∙ c.file_asked.ensures) c.in_ok-refused-in-Err.ensures

pub returns-in_ok-try_on-in-Ok : goal.returns-in_ok-try_on-in-Ok
returns-in_ok-try_on-in-Ok c = c.in_ok-try_on-in-Ok.ensures ∙ ap (arrived_before (tagged_of (server_of c.args.tables.now)
    c.args.tag.0 c.args.client.0 (request_like c.args.ask)) (handling_of c.args.tables.now c.args.told.now))
    (sym (ap file_result c.in-Ok.is) ∙ c.file_asked.ensures)
