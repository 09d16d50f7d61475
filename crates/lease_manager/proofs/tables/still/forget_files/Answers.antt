use Rattle.lease_laws.proofs.Words.{FileId, inl}
use Rattle.std.proofs.lemmas.List.{map_more}
use Rattle.lease_manager.proofs.waits.Counted.{forgotten_first, forgotten_more}
use Rattle.lease_manager.proofs.tables.still.forget_files.Goals as goal

pub returns-then-is_empty : goal.returns-then-is_empty
returns-then-is_empty c = λ file. inl (c.is_empty.ensures c.if-is_empty.true file)

pub loop-id-init : goal.loop-id-init
loop-id-init c = forgotten_first c.args.opens.now c.args.waiting.now

pub loop-id-preserved : goal.loop-id-preserved
loop-id-preserved c = rw (map_more (λ (id : FileId). id.0) c.args.ids.now c.loop-id.id-index (record { 0 = 0 })
    c.loop-id-test.true)
    (forgotten_more _ _ c.args.opens.now c.args.waiting.now c.loop-id.waiting c.forget_file_of.new.waiting
    c.loop-id.invariant c.forget_file_of.ensures)
