use Rattle.std.proofs.Common.{◌≡◌, List, refl, sym, ap, ◌∙◌, subst, arith, reverse}
use Rattle.std.proofs.lemmas.List.{reverse-reverse}
use Rattle.std.proofs.lemmas.Option.{slice_get_read, same_Some}
use Rattle.capture_judge.specs.Searching.{Leads}
use Rattle.capture_judge.specs.declared.values.Step.{Step}
use Rattle.capture_judge.specs.declared.ways.Way.{Way}
use Rattle.capture_judge.proofs.calm.Tracing.{Traced, traced-start, traced-inside, traced-smaller, traced-more, traced-end}
use Rattle.capture_judge.proofs.ways.Ways.steps_to.Goals as goal

pub loop-link-init : goal.loop-link-init
loop-link-init c =
    let at = slice_get_read _ _ _ _ refl c.requires.way c.index.ensures
    in let leads = c.requires.leads c.index.result.now at
    in subst (Traced c.args.self.now.trail.items c.index.result.now.link c.index.result.now.link) (sym c.new-steps.ensures.items)
    (traced-start c.args.self.now.trail.items c.index.result.now.link leads.0 leads.1)

pub index-requires-in-loop-link : goal.index-requires-in-loop-link
index-requires-in-loop-link c =
    let inside = traced-inside c.args.self.now.trail.items c.index.result.now.link c.loop-link.link c.loop-link.steps.items
    c.loop-link-test.true c.loop-link.invariant
    in let size = c.args.self.now.trail.ok.0 in omega (arith, inside, size)

pub loop-link-smaller : goal.loop-link-smaller
loop-link-smaller c =
    let inside = traced-inside c.args.self.now.trail.items c.index.result.now.link c.loop-link.link c.loop-link.steps.items
    c.loop-link-test.true c.loop-link.invariant
    in traced-smaller c.args.self.now.trail.items c.index.result.now.link c.loop-link.link c.loop-link.steps.items
    c.index-in-loop-link.result.now c.loop-link-test.true (slice_get_read _ _ _ _ refl inside c.index-in-loop-link.ensures)
    c.loop-link.invariant

pub loop-link-preserved : goal.loop-link-preserved
loop-link-preserved c =
    let inside = traced-inside c.args.self.now.trail.items c.index.result.now.link c.loop-link.link c.loop-link.steps.items
    c.loop-link-test.true c.loop-link.invariant
    in subst (Traced c.args.self.now.trail.items c.index.result.now.link c.index-in-loop-link.result.now.before)
    (sym c.in_ok-push.ensures.items)
    (traced-more c.args.self.now.trail.items c.index.result.now.link c.loop-link.link c.loop-link.steps.items
    c.index-in-loop-link.result.now c.loop-link-test.true (slice_get_read _ _ _ _ refl inside c.index-in-loop-link.ensures)
    c.loop-link.invariant)

pub returns : goal.returns
returns c = λ w past at leads.
    let here = slice_get_read _ _ _ _ refl c.requires.way c.index.ensures
    in let same = same_Some c.index.result.now w (sym here ∙ at)
    in let stop : c.loop-link.link ≡ 0 = let last = c.loop-link-test.false in omega (arith, last)
    in let all = traced-end c.args.self.now.trail.items c.index.result.now.link c.loop-link.steps.items past
    (subst (λ n. Traced c.args.self.now.trail.items c.index.result.now.link n c.loop-link.steps.items) stop c.loop-link.invariant)
    (subst (λ (x : Way). Leads c.args.self.now.trail.items x.link past) (sym same) leads)
    in ap (λ (xs : List Step). reverse xs) c.turn_around.ensures ∙ (reverse-reverse c.loop-link.steps.items ∙ sym all)
