use Rattle.lease_laws.proofs.Words.{Call, refl, sym, []}
use Rattle.manager_model.specs.Hosting.{Coming}
use Rattle.share_server.proofs.Calling.{idle_called, join_idles, way_alone}
use Rattle.share_server.proofs.calls.join.Goals as goal

pub settle-requires-clause-way : goal.settle-requires-clause-way
settle-requires-clause-way c = way_alone _ (Coming.Joins c.args.client.0) _ [] [] tt c.requires.server refl
    (rw c.client_no-then-not-is_connected.ensures at c.in_ok-join.ensures.after)

pub returns-in_ok-settle-clause-step : goal.returns-in_ok-settle-clause-step
returns-in_ok-settle-clause-step c = c.in_ok-settle.ensures (way_alone _ (Coming.Joins c.args.client.0) _ [] [] tt
    c.requires.server refl (rw c.client_no-then-not-is_connected.ensures at c.in_ok-join.ensures.after))

pub returns-else-not-is_connected-clause-step : goal.returns-else-not-is_connected-clause-step
returns-else-not-is_connected-clause-step c = rw (c.requires.given) (idle_called _ (Call.Join c.args.client.0) c.requires.server
    (join_idles _ c.args.client.0 (sym (rw c.client_no.ensures at c.if-not-is_connected.ensures))))
