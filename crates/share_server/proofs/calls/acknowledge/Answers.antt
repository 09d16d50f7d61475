use Rattle.lease_laws.proofs.Words.{acknowledged_in}
use Rattle.manager_model.specs.Hosting.{Coming}
use Rattle.share_server.proofs.Calling.{way_alone}
use Rattle.share_server.proofs.calls.acknowledge.Goals as goal

pub settle-requires-clause-way : goal.settle-requires-clause-way
settle-requires-clause-way c = way_alone _ (Coming.Acknowledges c.args.client.0 (acknowledged_in c.args.bytes.now)) _ _ _ tt
    c.requires.server c.deref.ensures.value
    (rw (c.client_no.ensures, c.in-Some.ensures) at c.in_ok-acknowledge-in-Some.ensures.after)

pub settle-requires-in-None-clause-way : goal.settle-requires-in-None-clause-way
settle-requires-in-None-clause-way c = way_alone _ (Coming.Acknowledges c.args.client.0 (acknowledged_in c.args.bytes.now)) _
    _ _ tt
    c.requires.server c.deref-in-None.ensures.value
    (rw (c.client_no-in-None.ensures, c.in-None.ensures) at c.in_ok-acknowledge_malformed-in-None.ensures.after)

pub returns-in_ok-settle-in-Some : goal.returns-in_ok-settle-in-Some
returns-in_ok-settle-in-Some c = c.in_ok-settle-in-Some.ensures
    (way_alone _ (Coming.Acknowledges c.args.client.0 (acknowledged_in c.args.bytes.now)) _ _ _ tt c.requires.server
    c.deref.ensures.value
    (rw (c.client_no.ensures, c.in-Some.ensures) at c.in_ok-acknowledge-in-Some.ensures.after))

pub returns-in_ok-settle-in-None : goal.returns-in_ok-settle-in-None
returns-in_ok-settle-in-None c = c.in_ok-settle-in-None.ensures
    (way_alone _ (Coming.Acknowledges c.args.client.0 (acknowledged_in c.args.bytes.now)) _ _ _ tt c.requires.server
    c.deref-in-None.ensures.value
    (rw (c.client_no-in-None.ensures, c.in-None.ensures) at c.in_ok-acknowledge_malformed-in-None.ensures.after))
