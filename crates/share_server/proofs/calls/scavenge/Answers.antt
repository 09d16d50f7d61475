use Rattle.lease_laws.proofs.Words.{Call, sym}
use Rattle.manager_model.specs.Hosting.{Coming}
use Rattle.share_server.proofs.Calling.{idle_called, scavenge_idles, way_alone}
use Rattle.share_server.proofs.calls.scavenge.Goals as goal

pub settle-requires-clause-way : goal.settle-requires-clause-way
settle-requires-clause-way c = way_alone _ (Coming.Scavenges c.args.fid.0) _ _ _ tt c.requires.server c.deref.ensures.value
    c.in_ok-scavenge.ensures.after

pub returns-in_ok-settle-clause-step : goal.returns-in_ok-settle-clause-step
returns-in_ok-settle-clause-step c = c.in_ok-settle.ensures (way_alone _ (Coming.Scavenges c.args.fid.0) _ _ _ tt
    c.requires.server c.deref.ensures.value c.in_ok-scavenge.ensures.after)

pub returns-else-has_left_behind-clause-step : goal.returns-else-has_left_behind-clause-step
returns-else-has_left_behind-clause-step c = rw (c.requires.given) (idle_called _ (Call.Scavenge c.args.fid.0) c.requires.server
    (scavenge_idles _ c.args.fid.0 (sym c.if-has_left_behind.ensures)))
