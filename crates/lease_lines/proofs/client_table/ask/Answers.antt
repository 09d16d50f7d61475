use Rattle.std.proofs.Common.{ap, sym, ◌∙◌, ◌-◌, slice_index_or}
use Rattle.{std.specs.String.string_bytes, lease_lines.proofs.Places.has_asked}
use Rattle.lease_lines.proofs.client_table.ask.Goals as goal

pub returns : goal.returns
returns c =
    let place = c.from-place.result - 1 in
    let at = c.replace-client.ensures.value in
    let here = at ∙ (c.index_mut.ensures.value ∙ ap (λ d. slice_index_or c.args.clients.now.items place d) (sym at)) in
    has_asked c.args.clients.now.items c.args.number.0 place c.args.asked c.replace-client.result
    c.replace-client.new.dest c.in_ok-clients.field-0 (string_bytes c.args.text.now) (string_bytes c.step.new.text)
    c.requires.inside.0 (ap (λ n. n - 1) c.from-place.ensures) here c.in_ok-clients.ensures
