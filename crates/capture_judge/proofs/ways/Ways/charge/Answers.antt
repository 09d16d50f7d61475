use Rattle.std.proofs.Common.{◌<◌, length, refl, ◌∙◌, ◌-◌, arith}
use Rattle.std.proofs.lemmas.Option.{slice_get_read}
use Rattle.capture_judge.proofs.clashes.Charges.{goes-on}
use Rattle.capture_judge.proofs.ways.Ways.charge.Goals as goal

pub steps_to-requires-clause-leads : goal.steps_to-requires-clause-leads
steps_to-requires-clause-leads c = λ way at.
    let kept = c.requires.search.kept (c.len-last.result - 1) way at
    in (kept.past, kept.leads)

pub charge_after-requires-clause-goes_on : goal.charge_after-requires-clause-goes_on
charge_after-requires-clause-goes_on c =
    let some = c.requires.some in let len = c.len-last.ensures in let size = c.args.self.now.ways.ok.0
    in let inside : c.len-last.result - 1 < length c.args.self.now.ways.items = omega (arith, some, len, size)
    in let at = slice_get_read _ _ _ _ refl inside c.index.ensures
    in let kept = c.requires.search.kept (c.len-last.result - 1) c.index.result.now at
    in goes-on c.args.chains.now c.args.position c.index.result.now c.args.self.now.trail.items kept c.in_ok-steps.steps.items
    (c.in_ok-steps.ensures c.index.result.now kept.past at kept.leads) c.in_ok-came.came.items
    (c.in_ok-came.ensures.items ∙ c.as_slice.ensures.value)
