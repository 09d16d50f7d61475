use Rattle.std.proofs.Common.{sym, ◌∙◌}
use Rattle.lease_wire.specs.Reading.{layout_fault}
use Rattle.lease_wire.proofs.HeaderFacts.{short_fault, name_inside, data_inside, next_inside}
use Rattle.lease_wire.proofs.Items.{items_behind-fault, items_behind-read, layout_fault-read, context_at-read, next_of-read}
use Rattle.lease_wire.proofs.chain.read_context.Goals as goal

pub returns-then-bytes-lt16-clause-items : goal.returns-then-bytes-lt16-clause-items
unfolding layout_fault
returns-then-bytes-lt16-clause-items c = items_behind-fault c.args.place _ _ (short_fault c.args.place _ _ c.if-bytes-lt16.true)

pub returns-then-bytes-lt16-clause-fault : goal.returns-then-bytes-lt16-clause-fault
unfolding layout_fault
returns-then-bytes-lt16-clause-fault c = sym (short_fault c.args.place _ _ c.if-bytes-lt16.true)

pub part-requires-clause-within : goal.part-requires-clause-within
part-requires-clause-within c = λ more. name_inside c.args.place _ c.read-header.result (sym c.fault.ensures ∙ c.in_default.is)

pub part-requires-2-clause-within : goal.part-requires-2-clause-within
part-requires-2-clause-within c = data_inside c.args.place _ c.read-header.result (sym c.fault.ensures ∙ c.in_default.is)

pub returns-clause-next : goal.returns-clause-next
returns-clause-next c = next_inside c.args.place _ c.read-header.result (sym c.fault.ensures ∙ c.in_default.is)

pub returns-in-Some-clause-items : goal.returns-in-Some-clause-items
returns-in-Some-clause-items c =
    items_behind-fault c.args.place _ _ (layout_fault-read c.args.place _ c.read-header.result _ c.read-header.ensures.fields
    (sym c.fault.ensures ∙ c.in-Some.is))

pub returns-clause-items : goal.returns-clause-items
returns-clause-items c = items_behind-read c.args.place _ _ _
    (layout_fault-read c.args.place _ c.read-header.result _ c.read-header.ensures.fields (sym c.fault.ensures ∙ c.in_default.is))
    (context_at-read c.args.place _ _ _ c.read-header.result c.read-header.ensures.fields c.part.ensures c.part-2.ensures)
    (next_of-read _ c.read-header.result c.read-header.ensures.fields)
