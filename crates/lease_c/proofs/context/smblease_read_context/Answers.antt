use Rattle.std.proofs.Common.{sym, arith}
use Rattle.lease_c.proofs.Contexts.{context_is_held, name_is_within, data_is_within, items_are_read}
use Rattle.lease_c.proofs.context.smblease_read_context.Goals as goal

pub returns-in-Ok-clause-items : goal.returns-in-Ok-clause-items
returns-in-Ok-clause-items c = rw (c.context_from.ensures, c.bytes_from.ensures)
    (items_are_read c.args.place c.args.text.now (sym c.in-Ok.ensures.fault))

pub returns-in-Ok-clause-value : goal.returns-in-Ok-clause-value
returns-in-Ok-clause-value c = λ none. rw (c.context_from.ensures, c.bytes_from.ensures)
    (context_is_held c.args.place c.args.text.now)

pub returns-in-Ok-clause-name_within : goal.returns-in-Ok-clause-name_within
returns-in-Ok-clause-name_within c = λ none.
    let header = c.in-Ok.ensures.within.0 in
    rw (c.context_from.ensures, c.bytes_from.ensures) (name_is_within c.args.place c.args.text.now (omega (arith, header)) none)

pub returns-in-Ok-clause-data_within : goal.returns-in-Ok-clause-data_within
returns-in-Ok-clause-data_within c = λ none.
    let header = c.in-Ok.ensures.within.0 in
    rw (c.context_from.ensures, c.bytes_from.ensures) (data_is_within c.args.place c.args.text.now (omega (arith, header)) none)
