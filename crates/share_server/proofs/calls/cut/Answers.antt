use Rattle.lease_laws.proofs.Words.{Call, sym}
use Rattle.manager_model.specs.Hosting.{Coming}
use Rattle.share_server.proofs.Calling.{idle_called, cut_idles, way_alone}
use Rattle.share_server.proofs.calls.cut.Goals as goal

pub settle-requires-clause-way : goal.settle-requires-clause-way
settle-requires-clause-way c = way_alone _ (Coming.IsCut c.args.client.0) _ _ _ tt c.requires.server c.deref.ensures.value
    (rw c.client_no-then-is_connected.ensures at c.in_ok-cut.ensures.after)

pub returns-in_ok-settle-clause-step : goal.returns-in_ok-settle-clause-step
returns-in_ok-settle-clause-step c = c.in_ok-settle.ensures (way_alone _ (Coming.IsCut c.args.client.0) _ _ _ tt
    c.requires.server c.deref.ensures.value (rw c.client_no-then-is_connected.ensures at c.in_ok-cut.ensures.after))

pub returns-else-is_connected-clause-step : goal.returns-else-is_connected-clause-step
returns-else-is_connected-clause-step c = rw (c.requires.given) (idle_called _ (Call.Cut c.args.client.0) c.requires.server
    (cut_idles _ c.args.client.0 (sym (rw c.client_no.ensures at c.if-is_connected.ensures))))
