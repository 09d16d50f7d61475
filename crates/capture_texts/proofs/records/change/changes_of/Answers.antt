use Rattle.std.proofs.Common.{◌≡◌, ◌+◌, ◌++◌, List, refl, sym, ap, ◌∙◌, take, map, arith, slice_index_or}
use Rattle.std.proofs.lemmas.Bool.{ltb-true, ltb-false}
use Rattle.std.proofs.lemmas.Option.{slice_get_read, slice_get_within}
use Rattle.capture_texts.specs.declared.finding.Belief.{Belief}
use Rattle.capture_texts.specs.records.Changes.{shown, changes_of, changes_in}
use Rattle.capture_texts.proofs.Changing.{at-place, changes-more, changes-all}
use Rattle.capture_texts.proofs.records.change.changes_of.Goals as goal
use Rattle.capture_texts.proofs.records.change.changes_of.Goals.{in-Some+in_ok-push_changes, in_default}

pub loop-index-preserved : goal.loop-index-preserved
loop-index-preserved c = λ chosen all.
    elim c.match-get.branch as (λ _. map shown c.match-get.changes.items
    ≡ changes_of c.args.clients.now c.args.findings.now (take (c.loop-index.index + 1) chosen)) [
      | in-Some+in_ok-push_changes w ↦
          let inside = ltb-true _ _ (sym w.in-Some.ensures.lookup.0)
          in let at = slice_get_read _ _ _ _ refl inside w.in-Some.ensures.lookup.1
          in rw w.changes-is (changes-more c.args.files.now c.args.clients.now c.args.findings.now chosen c.loop-index.index 0
          w.in-Some.file.now (map shown c.loop-index.changes.items) (map shown w.push_changes.new.changes.items) all
          c.loop-index-test.true at (w.in_ok-push_changes.ensures
          ∙ ap (λ (beliefs : List Belief). map shown c.loop-index.changes.items
          ++ changes_in c.args.clients.now (c.loop-index.index + 1)
          (slice_index_or c.args.findings.now c.loop-index.index 0) 0 beliefs) w.as_slice.ensures.value)
          (c.loop-index.invariant chosen all))
      | in_default w ↦
          let there = at-place c.args.files.now c.args.findings.now chosen c.loop-index.index 0 all c.loop-index-test.true
          in let inside = slice_get_within c.args.files.now _ there.0 there.1
          in let beyond = ltb-false _ _ (sym w.in_default.ensures.lookup.0)
          in absurd (omega (arith, inside, beyond))
    ]

pub returns : goal.returns
returns c = λ chosen all. changes-all c.args.files.now c.args.clients.now c.args.findings.now chosen c.loop-index.index
    (map shown c.loop-index.changes.items) all c.loop-index-test.false (c.loop-index.invariant chosen all)
