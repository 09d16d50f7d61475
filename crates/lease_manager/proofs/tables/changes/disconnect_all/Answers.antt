use Rattle.lease_laws.proofs.Words.{◌∙◌, FileId, ap, arith, map, take_all}
use Rattle.std.proofs.lemmas.List.{map_more}
use Rattle.lease_manager.specs.Filed.{disconnected_at}
use Rattle.lease_manager.specs.Kept.{disconnected_where, is_one_of}
use Rattle.lease_manager.proofs.opens.Tabling.{disconnected_none, disconnected_more}
use Rattle.lease_manager.proofs.tables.changes.disconnect_all.Goals as goal

pub loop-id-init : goal.loop-id-init
loop-id-init c = disconnected_none c.args.opens.now

pub loop-id-preserved : goal.loop-id-preserved
loop-id-preserved c = rw (map_more (λ (id : FileId). id.0) c.args.ids.now c.loop-id.id-index (record { 0 = 0 })
    c.loop-id-test.true)
    (c.in_ok-disconnect.ensures ∙ (ap (map (disconnected_at _)) c.loop-id.invariant ∙ disconnected_more _ _ c.args.opens.now))

pub returns : goal.returns
returns c = c.loop-id.invariant ∙ ap (λ ids. map (disconnected_where (is_one_of ids)) c.args.opens.now)
    (ap (map (λ (id : FileId). id.0)) (take_all c.loop-id.id-index c.args.ids.now (omega (arith, c.loop-id-test.false))))
