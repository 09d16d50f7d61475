use Rattle.std.proofs.Common.{◌≡◌, ◌<◌, List, ℕ, refl, ◌∷◌, [], ◌++◌, ◌+◌, slice_set, sym, ap, ◌∙◌, subst, reverse, length, arith}
use Rattle.std.proofs.lemmas.List.{reverse-append}
use Rattle.capture_judge.specs.Charges.{GoesOn, IsDueStep, NoneLeft}
use Rattle.capture_judge.specs.declared.values.Step.{Step}
use Rattle.capture_judge.proofs.clashes.Charges.{due-inside, goes-next, left-fewer, all-placed}
use Rattle.capture_judge.proofs.clashes.Completing.{left_of, total}
use Rattle.capture_judge.proofs.charging.charge_after.Goals as goal

pub loop-step-init : goal.loop-step-init
loop-step-init c = c.requires.goes_on

pub next_step-requires : goal.next_step-requires
next_step-requires c = ap length c.as_slice.ensures.value ∙ c.loop-step.invariant.count

pub index_mut-requires : goal.index_mut-requires
index_mut-requires c =
    let due = subst (λ (came : List ℕ). IsDueStep c.args.chains.now came (length c.args.chains.now) c.in-Some.step)
    c.as_slice.ensures.value c.in-Some.ensures
    in let inside = due-inside c.args.chains.now c.loop-step.came.items c.in-Some.step due
    in let count = c.loop-step.invariant.count in let size = c.loop-step.came.ok.0 in omega (arith, inside, count, size)

-- the steps with one more
after-push : (steps now : List Step) (step : Step) → now ≡ steps ++ step ∷ [] → reverse now ≡ step ∷ reverse steps
after-push steps now step is = ap (λ (xs : List Step). reverse xs) is ∙ reverse-append steps (step ∷ [])

pub loop-step-smaller : goal.loop-step-smaller
loop-step-smaller c =
    let due = subst (λ (came : List ℕ). IsDueStep c.args.chains.now came (length c.args.chains.now) c.in-Some.step)
    c.as_slice.ensures.value c.in-Some.ensures
    in subst (λ (past : List Step). total (left_of c.args.chains.now past) (length c.args.chains.now)
    < total (left_of c.args.chains.now (reverse c.loop-step.steps.items)) (length c.args.chains.now))
    (sym (after-push c.loop-step.steps.items c.push.new.self.items c.in-Some.step c.in_ok-push.ensures.items))
    (left-fewer c.args.chains.now c.args.position c.loop-step.came.items (reverse c.loop-step.steps.items) c.in-Some.step
    c.requires.feasible c.loop-step.invariant due)

pub loop-step-preserved : goal.loop-step-preserved
loop-step-preserved c =
    let due = subst (λ (came : List ℕ). IsDueStep c.args.chains.now came (length c.args.chains.now) c.in-Some.step)
    c.as_slice.ensures.value c.in-Some.ensures
    in subst (GoesOn c.args.chains.now c.args.position
    (slice_set c.loop-step.came.items c.in-Some.step.chain (c.in-Some.step.change + 1)))
    (sym (after-push c.loop-step.steps.items c.push.new.self.items c.in-Some.step c.in_ok-push.ensures.items))
    (goes-next c.args.chains.now c.args.position c.loop-step.came.items (reverse c.loop-step.steps.items) c.in-Some.step
    c.requires.feasible c.loop-step.invariant due)

pub returns : goal.returns
returns c = record {
  position-is = refl;
  placed = all-placed c.args.chains.now c.args.position c.loop-step.came.items (reverse c.loop-step.steps.items)
      c.loop-step.invariant (subst (λ (came : List ℕ). NoneLeft c.args.chains.now came (length c.args.chains.now))
      c.as_slice.ensures.value c.in_default.ensures);
  clean = c.loop-step.invariant.clean;
}
