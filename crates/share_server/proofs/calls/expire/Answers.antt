use Rattle.lease_laws.proofs.Words.{Call, key_of, sym}
use Rattle.manager_model.specs.Hosting.{Coming}
use Rattle.share_server.proofs.Calling.{idle_called, expire_idles, way_alone}
use Rattle.share_server.proofs.calls.expire.Goals as goal

pub settle-requires-clause-way : goal.settle-requires-clause-way
settle-requires-clause-way c = way_alone _ (Coming.Expires (key_of c.args.client.0 c.args.key.0)) _ _ _ tt c.requires.server
    c.deref.ensures.value
    (rw c.client_no-then-is_breaking.ensures at c.in_ok-expire.ensures.after)

pub returns-in_ok-settle-clause-step : goal.returns-in_ok-settle-clause-step
returns-in_ok-settle-clause-step c = c.in_ok-settle.ensures
    (way_alone _ (Coming.Expires (key_of c.args.client.0 c.args.key.0)) _ _ _ tt
    c.requires.server c.deref.ensures.value (rw c.client_no-then-is_breaking.ensures at c.in_ok-expire.ensures.after))

pub returns-else-is_breaking-clause-step : goal.returns-else-is_breaking-clause-step
returns-else-is_breaking-clause-step c = rw (c.requires.given)
    (idle_called _ (Call.Expire (key_of c.args.client.0 c.args.key.0)) c.requires.server
    (expire_idles _ (key_of c.args.client.0 c.args.key.0) (sym (rw c.client_no.ensures at c.if-is_breaking.ensures))))
