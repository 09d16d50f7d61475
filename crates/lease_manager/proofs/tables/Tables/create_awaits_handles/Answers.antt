use Rattle.lease_laws.proofs.Words.{◌∙◌, ap, option_map, subst, sym}
use Rattle.lease_manager.specs.Requests.{ask_of}
use Rattle.lease_manager.specs.StillWaiting.{AwaitsHandles}
use Rattle.lease_manager.specs.Table.{server_of}
use Rattle.lease_manager.proofs.waits.Awaiting.{awaits_handles}
use Rattle.lease_manager.proofs.tables.Tables.create_awaits_handles.Goals as goal

pub returns-in-None : goal.returns-in-None
returns-in-None c = λ yes home.
    let server = server_of c.args.self.now in
    awaits_handles server c.args.file.0 c.args.client.0 c.args.access c.args.share (ask_of c.args.ask)
    (ap (option_map (λ file_id. file_id.0)) c.in-None.is) (sym c.has_file.ensures ∙ c.if-not-has_file.false) home
    (subst (λ own. AwaitsHandles server own c.args.file.0 c.args.access c.args.share) c.key_asked.ensures
    (c.are_handles_awaited.ensures yes))
