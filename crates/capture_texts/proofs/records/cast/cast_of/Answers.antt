use Rattle.std.proofs.Common.{◌≡◌, ◌+◌, ◌++◌, ◌∷◌, List, [], refl, sym, ap, ◌∙◌, subst, drop, length, arith}
use Rattle.std.proofs.lemmas.List.{drop_more, drop_all, append-nil}
use Rattle.std.proofs.lemmas.Option.{slice_get_read}
use Rattle.capture_texts.specs.declared.finding.FileFinding.{FileFinding}
use Rattle.capture_texts.specs.records.Casts.{has_unsafe, is_wanted, recorded, recorded_after, IsCastOf}
use Rattle.capture_texts.proofs.Casting.{Turned, turned, turned-away}
use Rattle.capture_texts.proofs.records.cast.cast_of.Goals as goal
use Rattle.capture_texts.proofs.records.cast.cast_of.Goals.{then-is_wanted+in_ok-take, else-is_wanted}

pub loop-place-init : goal.loop-place-init
loop-place-init c = record {
  chosen = [];
  is = record {
    places = rw c.new-2.ensures.items tt;
    clients = c.new.ensures.items;
    few-files = let none = ap length c.new-2.ensures.items in omega (arith, none);
    few-clients = let none = ap length c.new.ensures.items in omega (arith, none);
  };
  begins = rw (c.new.ensures.items, c.new-2.ensures.items) refl;
}

pub loop-place-preserved : goal.loop-place-preserved
loop-place-preserved c =
    let before = c.loop-place.invariant
    in let at = slice_get_read _ _ _ _ refl c.loop-place-test.true c.index-files-place.is
    in let rest = drop_more c.args.files.now c.loop-place.place c.index-files-place.result c.loop-place-test.true
    ∙ ap (λ (f : FileFinding). f ∷ drop (c.loop-place.place + 1) c.args.files.now) (sym c.index-files-place.is)
    in let begins = subst (λ (later : List FileFinding). recorded c.args.files.now ≡ before.chosen
    ++ recorded_after (has_unsafe c.args.files.now) c.loop-place.cast.clients.items (length c.loop-place.cast.findings.items) later)
    rest before.begins
    in let wanted = c.is_wanted.ensures ∙ ap (λ b. is_wanted b c.index-files-place.result) c.has_unsafe-are_unsafe.ensures
    in elim c.if-is_wanted.branch as (λ _. Turned c.args.files.now (drop (c.loop-place.place + 1) c.args.files.now)
    c.if-is_wanted.cast) [
      | then-is_wanted+in_ok-take w ↦ rw w.cast-is (turned c.args.files.now (drop (c.loop-place.place + 1) c.args.files.now)
          before.chosen c.index-files-place.result c.loop-place.place c.loop-place.cast w.take.new.self before.is at begins
          (sym wanted ∙ w.if-is_wanted.true) w.in_ok-take.ensures)
      | else-is_wanted w ↦ rw w.cast-is (turned-away c.args.files.now (drop (c.loop-place.place + 1) c.args.files.now)
          before.chosen c.index-files-place.result c.loop-place.cast before.is begins (sym wanted ∙ w.if-is_wanted.false))
    ]

pub returns : goal.returns
returns c =
    let end = c.loop-place.invariant
    in let none = drop_all c.loop-place.place c.args.files.now c.loop-place-test.false
    in let all = end.begins ∙ (ap (λ (later : List FileFinding). end.chosen ++ recorded_after (has_unsafe c.args.files.now)
    c.loop-place.cast.clients.items (length c.loop-place.cast.findings.items) later) none ∙ append-nil end.chosen)
    in subst (λ (chosen : List FileFinding). IsCastOf c.args.files.now chosen c.loop-place.cast) (sym all) end.is
