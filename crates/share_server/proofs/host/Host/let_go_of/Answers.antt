use Rattle.lease_laws.proofs.Words.{refl, sym}
use Rattle.lease_manager.specs.Table.{server_of}
use Rattle.share_server.specs.contracts.host.Host.{the_view}
use Rattle.share_server.proofs.Carrying.{let_go_one}
use Rattle.share_server.proofs.host.Host.let_go_of.Goals as goal

pub returns-then-not-has_open : goal.returns-then-not-has_open
returns-then-not-has_open c = rw (← c.self.view_is)
    (let_go_one (server_of c.args.manager.now).opens (the_view c.self.inside) _ c.args.fid.0
    (sym c.if-not-has_open.ensures) c.remove.ensures refl refl refl)
