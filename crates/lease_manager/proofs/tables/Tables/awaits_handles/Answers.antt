use Rattle.lease_laws.proofs.Words.{◌≡◌, false, is_leased_elsewhere, option_map, own_key, subst, sym}
use Rattle.lease_manager.specs.OneFile.{IsOnlyAbout}
use Rattle.lease_manager.specs.Requests.{lease_asked, request_like}
use Rattle.lease_manager.specs.StillWaiting.{HasOnlyToWait}
use Rattle.lease_manager.specs.Table.{server_of}
use Rattle.lease_manager.proofs.tables.Tables.awaits_handles.Goals as goal

pub returns-in-Create : goal.returns-in-Create
returns-in-Create c = λ yes file about.
    let server = server_of c.args.self.now in
    let is = subst (λ ask. IsOnlyAbout server file c.args.client.0 (request_like ask)) c.in-Create.is about in
    subst (λ at. HasOnlyToWait server at c.args.client.0 (request_like c.args.ask)) is.0
    (subst (λ ask. HasOnlyToWait server c.in-Create.file.0 c.args.client.0 (request_like ask)) (sym c.in-Create.is)
    (c.create_awaits_handles.ensures yes (subst (λ at. is_leased_elsewhere server
    (own_key c.args.client.0 (option_map lease_asked c.in-Create.ask.lease)) at ≡ false) (sym is.0) is.1)))
