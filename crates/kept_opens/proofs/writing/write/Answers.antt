use Rattle.std.proofs.Common.{◌≡◌, subst, ◌++◌, List, ℕ, length, ap, ◌∙◌, rules, arith}
use Rattle.std.proofs.lemmas.List.{take_all}
use Rattle.std.proofs.lemmas.List.Elements.{All-nil, All-more}
use Rattle.sha2.specs.Sha256.{sha256}
use Rattle.kept_opens.specs.Entry.{entry_of, IsBorne}
use Rattle.kept_opens.specs.Kept.{kept_text, AllBorne}
use Rattle.kept_opens.proofs.KeptLemmas.{text_so_far, text_begun, text_more, text_ended, same_last, same_kept}
use Rattle.kept_opens.proofs.writing.write.Goals as goal

pub loop-one-init : goal.loop-one-init
loop-one-init c =
    let items : c.extend_from_slice.new.self.items ≡ c.heading.result = search rules in
    (items ∙ c.heading.ensures.text ∙ text_begun c.args.last.0 (length c.args.kept.now), All-nil (λ x. IsBorne (entry_of x)))

pub loop-one-preserved : goal.loop-one-preserved
loop-one-preserved c = (
  c.in_ok-extend_from_slice-2.ensures.items
      ∙ text_more c.args.last.0 (length c.args.kept.now) c.args.kept.now c.loop-one.one-index _
      c.loop-one.bytes.items c.entry_bytes.result c.loop-one-test.true c.loop-one.invariant.0 c.entry_bytes.ensures.text,
  All-more (λ x. IsBorne (entry_of x)) c.args.kept.now c.loop-one.one-index _ c.loop-one-test.true c.loop-one.invariant.1
      c.entry_bytes.ensures.borne,
)

pub returns-clause-bytes : goal.returns-clause-bytes
returns-clause-bytes c =
    let text : c.loop-one.bytes.items ≡ kept_text c.args.last.0 c.args.kept.now = c.loop-one.invariant.0
    ∙ ap (λ kept. text_so_far c.args.last.0 (length c.args.kept.now) kept)
    (take_all c.loop-one.one-index c.args.kept.now (omega arith))
    ∙ text_ended c.args.last.0 c.args.kept.now in
    let digest : c.digest-digest.result ≡ sha256 c.loop-one.bytes.items = search rules in
    c.in_ok-extend_from_slice-3.ensures.items ∙ ap (λ (xs : List ℕ). c.loop-one.bytes.items ++ xs) digest
    ∙ ap (λ (xs : List ℕ). xs ++ sha256 xs) text

all_borne : (c : goal.In_ok-extend_from_slice-3) → AllBorne c.args.kept.now
all_borne c = subst (λ kept. AllBorne kept) (take_all c.loop-one.one-index c.args.kept.now (omega arith)) c.loop-one.invariant.1

pub returns-clause-borne : goal.returns-clause-borne
returns-clause-borne c = (c.heading.ensures.fits, all_borne c)

pub returns-clause-read_back : goal.returns-clause-read_back
returns-clause-read_back c last other is =
    let e = is.laid ∙ returns-clause-bytes c in (
      same_last last c.args.last.0 other c.args.kept.now is.borne (all_borne c) e is.fits c.heading.ensures.fits,
      same_kept last c.args.last.0 other c.args.kept.now is.borne (all_borne c) e,
    )
