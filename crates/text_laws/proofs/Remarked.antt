-- Comment lines in the record of a run are passed over as it is read.
use Rattle.lease_laws.proofs.Words.{◌++◌, ◌+◌, ◌∙◌, ◌∷◌, ◌≡◌, List, Ok, ℕ, [], ap, append-nil, append_assoc, arith}
use Rattle.lease_laws.proofs.Words.{map, nat_tests, refl, subst, sym, true}
use Rattle.std.specs.List.{flat_map}
use Rattle.lease_facts.specs.declared.fact.Fact.{Fact}
use Rattle.lease_texts.specs.{Pieces.pieces, Pieces.longer, Pieces.lines_of, Reading.reads_on, Tables.Each}
use Rattle.lease_texts.specs.{Laws.CanBeTold, Records.fact_line, Records.with_fact, Records.with_line}
use Rattle.{lease_texts.proofs.Rows.facts_back, lease_coherence.specs.Parts.EveryRunIsSafe}
use Rattle.text_laws.specs.Remarked.{AreRemarks, IsRemarked, RemarkedRunsAreJudgedSafe, RemarkedRunsAreReadBack}
use Rattle.text_laws.specs.Remarked.{is_one_line, remark}
use Rattle.text_laws.proofs.Runs.{as_lettered, run_can, safe_record, same_facts, same_line}

-- ---- comment lines

line_first : (line rest : List ℕ) → is_one_line line ≡ true → lines_of (line ++ 10 ∷ rest) ≡ line ∷ lines_of rest
unfolding pieces longer
line_first [] rest one = grind (arith, nat_tests)
line_first (byte ∷ line) rest one =
    let later = line_first line rest (grind (arith, one)) in grind (arith, nat_tests, one)

-- what is read behind such a text is what is read without it, but for the numbers of lines
abbrev PassesOver : List ℕ → Type 0
PassesOver text = (number : ℕ) (facts : List Fact) (rest : List ℕ)
    → (next : ℕ) × (reads_on with_line number facts (lines_of (text ++ rest)) ≡ reads_on with_line next facts (lines_of rest))

remark_passed : (words : List ℕ) → is_one_line words ≡ true → (number : ℕ) (facts : List Fact) (rest : List ℕ)
    → reads_on with_line number facts (lines_of (remark words ++ rest)) ≡ reads_on with_line (number + 1) facts (lines_of rest)
unfolding reads_on with_line
remark_passed words one number facts rest =
    ap (λ (text : List ℕ). reads_on with_line number facts (lines_of text)) (append_assoc (35 ∷ words) (10 ∷ []) rest)
    ∙ ap (λ (lines : List (List ℕ)). reads_on with_line number facts lines) (line_first (35 ∷ words) rest (grind (arith, one)))

remarks_passed : (remarks : List (List ℕ)) → Each (λ words. is_one_line words ≡ true) remarks
    → PassesOver (flat_map remark remarks)
remarks_passed [] each number facts rest = (number, refl)
remarks_passed (words ∷ remarks) (one, each) number facts rest =
    let later = remarks_passed remarks each (number + 1) facts rest in (
      later.0,
      ap (λ (text : List ℕ). reads_on with_line number facts (lines_of text))
          (append_assoc (remark words) (flat_map remark remarks) rest)
          ∙ (remark_passed words one number facts (flat_map remark remarks ++ rest) ∙ later.1),
    )

passed : (text : List ℕ) → AreRemarks text → PassesOver text
passed text (remarks, each, is) = subst PassesOver (sym is) (remarks_passed remarks each)

-- ---- facts between them

fact_read : (told : Fact) → CanBeTold told → (number : ℕ) (before : List Fact) (rest : List ℕ)
    → reads_on with_line number before (lines_of (fact_line told ++ rest))
    ≡ reads_on with_line (number + 1) (before ++ told ∷ []) (lines_of rest)
unfolding reads_on with_line with_fact
fact_read told can number before rest =
    let back = facts_back told can in
    let cut = back.is_line rest in
    let counts = back.counts in
    let says = back.says in grind (arith)

pub remarked_read : (facts : List Fact) (text : List ℕ) → IsRemarked facts text → Each CanBeTold (map as_lettered facts)
    → (number : ℕ) (before : List Fact) → reads_on with_line number before (lines_of text) ≡ Ok (before ++ map as_lettered facts)
unfolding reads_on pieces
remarked_read [] text are can number before =
    let over = passed text are number before [] in
    ap (λ (t : List ℕ). reads_on with_line number before (lines_of t)) (sym (append-nil text))
    ∙ (over.1 ∙ ap (λ (all : List Fact). Ok all) (sym (append-nil before)))
remarked_read (fact ∷ facts) text (remarks, rest, are, is, whole) (here, can) number before =
    let over = passed remarks are number before (fact_line fact ++ rest) in
    let later = remarked_read facts rest is can (over.0 + 1) (before ++ as_lettered fact ∷ []) in
    ap (λ (t : List ℕ). reads_on with_line number before (lines_of t)) whole
    ∙ (over.1
    ∙ (ap (λ (line : List ℕ). reads_on with_line over.0 before (lines_of (line ++ rest))) (sym (same_line fact))
    ∙ (fact_read (as_lettered fact) here over.0 before rest
    ∙ (later ∙ ap (λ (all : List Fact). Ok all) (append_assoc before (as_lettered fact ∷ []) (map as_lettered facts))))))

-- ---- the laws

pub remarked_back : RemarkedRunsAreReadBack
remarked_back rules setup events facts text of is = (
  map as_lettered facts,
  remarked_read facts text is (run_can rules setup events facts of) 1 [],
  same_facts facts ∙ of.are_recorded,
)

pub remarked_safe : EveryRunIsSafe → RemarkedRunsAreJudgedSafe
remarked_safe safe rules setup events facts text of is = (
  map as_lettered facts,
  remarked_read facts text is (run_can rules setup events facts of) 1 [],
  safe_record rules setup events facts of (safe rules setup events of.is_allowed),
)
