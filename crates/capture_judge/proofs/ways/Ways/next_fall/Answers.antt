use Rattle.std.proofs.Common.{List, ℕ, refl, sym, ap, ◌∙◌, arith, length, slice_index}
use Rattle.std.proofs.lemmas.Option.{slice_get_read, same_Some}
use Rattle.capture_judge.specs.declared.ways.Way.{Way}
use Rattle.capture_judge.proofs.ways.Ways.next_fall.Goals as goal

pub bounds-came-chain : goal.bounds-came-chain
bounds-came-chain c =
    let at = slice_get_read _ _ _ _ refl c.requires.way c.index.ensures
    in let kept = c.requires.search.kept c.args.way c.index.result.now at
    in let count = kept.count in let inside = c.loop-chain-test.true in let same = ap length c.as_slice-came.ensures.value
    in omega (arith, count, inside, same)

pub returns-then-is_fall : goal.returns-then-is_fall
returns-then-is_fall c = λ w at.
    let here = slice_get_read _ _ _ _ refl c.requires.way c.index.ensures
    in let same = same_Some c.index.result.now w (sym here ∙ at)
    in record {
      there = refl;
      next = ap (λ (xs : List ℕ). slice_index xs c.loop-chain.chain) c.as_slice-came.ensures.value
          ∙ ap (λ (x : Way). slice_index x.came.items c.loop-chain.chain) same;
      chain = c.index-chains-chain.result;
      at = slice_get_read _ _ _ _ refl c.loop-chain-test.true c.index-chains-chain.is;
      fall = c.if-is_fall.ensures refl;
    }
