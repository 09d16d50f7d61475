use Rattle.lease_laws.proofs.Words.{◌∙◌, ◌≡◌, ℕ, FileNo, List, Option, ap, arith, get_or, length, subst, sym, take, take-length}
use Rattle.lease_reasons.specs.Beliefs.{AreLastOf, Each, HasNoRivals}
use Rattle.lease_reasons.specs.Places.{past_of}
use Rattle.lease_reasons.specs.declared.reason.Belief.{Belief}
use Rattle.lease_reasons.proofs.Lists.{each-next}
use Rattle.lease_reasons.proofs.Noted.{none-on_files}
use Rattle.lease_reasons.proofs.beliefs.two_caches.Goals as goal

pub returns : goal.returns
returns c =
    let at_end : c.loop-file.file-index ≡ length c.as_slice-file-items.result.now = omega arith in
    none-on_files (past_of c.args.facts.now) c.in_ok-beliefs.beliefs c.in_ok-beliefs.ensures
    (subst (λ (fs : List FileNo). Each (λ f. HasNoRivals (past_of c.args.facts.now) f.0) fs)
    (ap (λ n. take n c.as_slice-file-items.result.now) at_end ∙ (take-length c.as_slice-file-items.result.now ∙
    c.as_slice-file-items.ensures.value)) c.loop-file.invariant)

pub returns-in-Some : goal.returns-in-Some
returns-in-Some c =
    let past = past_of c.args.facts.now in
    let file : ℕ = (get_or c.as_slice-file-items.result.now c.loop-file.file-index (record { 0 = 0 })).0 in
    let told = c.in_ok-rivals.ensures past file c.in_ok-clients.ensures
    (subst (λ (cells : List (Option Belief)). AreLastOf past file cells) (sym c.of_file.ensures)
    (c.in_ok-beliefs.ensures.cells file)) in
    rw c.in-Some.is at told

pub loop-file-preserved : goal.loop-file-preserved
loop-file-preserved c =
    let past = past_of c.args.facts.now in
    let file : ℕ = (get_or c.as_slice-file-items.result.now c.loop-file.file-index (record { 0 = 0 })).0 in
    let told = c.in_ok-rivals.ensures past file c.in_ok-clients.ensures
    (subst (λ (cells : List (Option Belief)). AreLastOf past file cells) (sym c.of_file.ensures)
    (c.in_ok-beliefs.ensures.cells file)) in
    each-next (λ (f : FileNo). HasNoRivals past f.0) c.as_slice-file-items.result.now c.loop-file.file-index (record { 0 = 0 })
    c.loop-file-test.true c.loop-file.invariant (rw c.in_default.is at told)
