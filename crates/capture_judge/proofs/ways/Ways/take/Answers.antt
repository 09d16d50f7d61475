use Rattle.std.proofs.Common.{◌≡◌, ◌+◌, ℕ, refl, sym, ap, ◌∙◌, subst, arith, length, List, slice_index, get_or, length-set}
use Rattle.std.proofs.lemmas.Option.{slice_get_read, same_Some}
use Rattle.std.proofs.lemmas.List.{get_or_read}
use Rattle.capture_judge.specs.Searching.{after, AreApart, IsApart, Has, Worth}
use Rattle.capture_judge.specs.Placing.{reached}
use Rattle.capture_judge.specs.declared.values.Chain.{Chain}
use Rattle.capture_judge.proofs.calm.Keeping.{apart-same}
use Rattle.capture_judge.proofs.calm.Taking.{change_here, admits-of, way-apart, apart-after, apart-one, took-refused, took-kept}
use Rattle.capture_judge.proofs.calm.Taking.{took-nowhere, if-room}
use Rattle.capture_judge.proofs.ways.Ways.take.Goals as goal
use Rattle.capture_judge.proofs.ways.Ways.take.Goals.{then-not-is_apart-via-then-not-is_apart}
use Rattle.capture_judge.proofs.ways.Ways.take.Goals.{then-not-is_apart-via-else-not-is_apart+then-holds}

pub returns-then-not-is_within : goal.returns-then-not-is_within
returns-then-not-is_within c =
    let chain = slice_get_read _ _ _ _ refl c.requires.chain c.index-chains-step.is
    in let inside = c.requires.change c.index-chains-step.result chain
    in let read = subst (λ (ch : Chain). c.index.result.now ≡ get_or ch.changes.items c.args.step.change c.index.result.now)
    (sym c.index-chains-step.is) c.index.ensures
    in let change = slice_get_read _ _ _ _ refl inside read
    in took-nowhere c.args.chains.now c.args.self.now c.args.way c.args.step c.requires.search
    (λ came may. c.if-not-is_within.ensures (admits-of c.args.chains.now c.args.step c.index.result.now
    (change_here c.args.chains.now c.args.step.chain c.args.step.change c.index-chains-step.result c.index.result.now chain
    change)
    may.bounds))

pub after-requires-clause-inside : goal.after-requires-clause-inside
after-requires-clause-inside c =
    let at = slice_get_read _ _ _ _ refl c.requires.way c.index-4.ensures
    in let kept = c.requires.search.kept c.args.way c.index-4.result.now at
    in let count = kept.count in let inside = c.requires.chain in omega (arith, count, inside)

pub after-requires-clause-bound : goal.after-requires-clause-bound
after-requires-clause-bound c =
    let chain = slice_get_read _ _ _ _ refl c.requires.chain c.index-chains-step.is
    in let inside = c.requires.change c.index-chains-step.result chain
    in let size = c.index-chains-step.result.changes.ok
    in let small = c.index-chains-step.result.changes.small
    in omega (arith, inside, size, small)

pub is_apart-requires-clause-count : goal.is_apart-requires-clause-count
is_apart-requires-clause-count c =
    let at = slice_get_read _ _ _ _ refl c.requires.way c.index-4.ensures
    in let kept = c.requires.search.kept c.args.way c.index-4.result.now at
    in ap length c.as_slice.ensures.value ∙ ap length c.in_ok-came.ensures
    ∙ length-set c.index-4.result.now.came.items c.args.step.chain (c.args.step.change + 1) ∙ kept.count

pub returns-then-not-is_apart : goal.returns-then-not-is_apart
returns-then-not-is_apart c =
    let at = slice_get_read _ _ _ _ refl c.requires.way c.index-4.ensures
    in let is : c.as_slice.result.now ≡ after c.index-4.result.now.came.items c.args.step =
    c.as_slice.ensures.value ∙ c.in_ok-came.ensures
    in took-refused c.args.chains.now c.args.self.now c.args.way c.args.step c.index-4.result.now c.requires.search at
    (λ worth may apart. elim c.then-not-is_apart.branch [
      | then-not-is_apart-via-then-not-is_apart w ↦ absurd (w.if-not-is_apart.ensures
          (subst (λ (came : List ℕ). IsApart c.args.chains.now came c.args.step.chain) (sym is)
          (apart-one c.args.chains.now (after c.index-4.result.now.came.items c.args.step) c.args.step.chain apart)))
      | then-not-is_apart-via-else-not-is_apart+then-holds w ↦ subst (Has c.args.self.now.ways.items)
          (w.as_slice-else-not-is_apart.ensures.value ∙ c.in_ok-came.ensures) w.if-holds.ensures
    ])

pub keep-requires-clause-may : goal.keep-requires-clause-may
keep-requires-clause-may c =
    let at = slice_get_read _ _ _ _ refl c.requires.way c.index-4.ensures
    in let kept = c.requires.search.kept c.args.way c.index-4.result.now at
    in let pass = c.requires.pass c.index-4.result.now at
    in let chain = slice_get_read _ _ _ _ refl c.requires.chain c.index-chains-step.is
    in let inside = c.requires.change c.index-chains-step.result chain
    in let read = subst (λ (ch : Chain). c.index.result.now ≡ get_or ch.changes.items c.args.step.change c.index.result.now)
    (sym c.index-chains-step.is) c.index.ensures
    in let change = slice_get_read _ _ _ _ refl inside read
    in let count = kept.count
    in let within = c.requires.chain
    in let is : c.as_slice.result.now ≡ after c.index-4.result.now.came.items c.args.step =
    c.as_slice.ensures.value ∙ c.in_ok-came.ensures
    in record {
      from = c.index-4.result.now;
      at = at;
      may = record {
        bounds = record {
          change = c.index.result.now;
          is = change_here c.args.chains.now c.args.step.chain c.args.step.change c.index-chains-step.result c.index.result.now
              chain
              change;
          first = c.if-not-is_within.ensures.first;
          last = c.if-not-is_within.ensures.last;
        };
        order = pass.order;
        skips = pass.skips;
      };
      leads = c.in_ok-came.ensures;
      apart = subst (λ (came : List ℕ). AreApart c.args.chains.now (slice_index came)) (sym c.in_ok-came.ensures)
          (apart-after c.args.chains.now c.index-4.result.now.came.items c.args.step (omega (arith, count, within))
          (apart-same c.args.chains.now (reached kept.past) (slice_index c.index-4.result.now.came.items) (λ i. sym (kept.came i))
          (way-apart c.args.chains.now c.args.step.position kept.past kept.is-way))
          (subst (λ (came : List ℕ). IsApart c.args.chains.now came c.args.step.chain) is c.if-not-is_apart.ensures));
      new = λ has. c.if-holds.ensures
          (subst (Has c.args.self.now.ways.items) (sym c.as_slice-else-not-is_apart.ensures.value) has);
    }

pub returns : goal.returns
returns c =
    let at = slice_get_read _ _ _ _ refl c.requires.way c.index-4.ensures
    in if-room _ _ _ (λ kept. took-kept c.args.chains.now c.args.self.now _ c.args.way c.args.step c.index-4.result.now
    c.in_ok-came.came.items at c.in_ok-came.ensures kept) c.keep.result c.keep.ensures

pub is_worth-requires : goal.is_worth-requires
is_worth-requires c =
    let chain = slice_get_read _ _ _ _ refl c.requires.chain c.index-chains-step-2.is
    in c.requires.change c.index-chains-step-2.result chain

pub index-requires-3 : goal.index-requires-3
index-requires-3 c =
    let at = slice_get_read _ _ _ _ refl c.requires.way c.index-2.ensures
    in let kept = c.requires.search.kept c.args.way c.index-2.result.now at
    in let count = kept.count in let inside = c.requires.chain in let size = c.index-2.result.now.came.ok.0
    in omega (arith, count, inside, size)

pub returns-then-not-is_worth : goal.returns-then-not-is_worth
returns-then-not-is_worth c =
    let at = slice_get_read _ _ _ _ refl c.requires.way c.index-2.ensures
    in let kept = c.requires.search.kept c.args.way c.index-2.result.now at
    in let count = kept.count in let within = c.requires.chain
    in let chain = slice_get_read _ _ _ _ refl c.requires.chain c.index-chains-step-2.is
    in let b = c.index-3.ensures
    in took-refused c.args.chains.now c.args.self.now c.args.way c.args.step c.index-2.result.now c.requires.search at
    (λ worth may apart.
    let same = same_Some worth.chain c.index-chains-step-2.result (sym worth.at ∙ chain)
    in let is = get_or_read c.index-2.result.now.came.items c.args.step.chain c.index-3.result.now
    (omega (arith, count, within)) c.index-3.ensures 0
    in let never = c.if-not-is_worth.ensures (subst (λ (ch : Chain). Worth ch c.index-3.result.now c.args.step) same
    (subst (λ n. Worth worth.chain n c.args.step) (sym {A = ℕ} is) worth.worth))
    in absurd (grind (arith, never)))
