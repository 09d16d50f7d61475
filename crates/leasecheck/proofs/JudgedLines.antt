use Rattle.lease_laws.proofs.Words.{◌++◌, ◌+◌, ◌-◌, ◌<◌, ◌==◌, ◌^◌, ◌∙◌, ◌∷◌, ◌≡◌, ◌≤◌, ◌⊎◌, Err, List, None, Ok, Result, Some, ℕ}
use Rattle.lease_laws.proofs.Words.{[], ap, append-nil, append_assoc, arith, drop, false, inl, inr, length, length-append}
use Rattle.lease_laws.proofs.Words.{length-drop, map, nat_tests, refl, slice_index, subst, sym, take, take_all, true}
use Rattle.std.proofs.lemmas.List.{take-append-drop}
use Rattle.lease_texts.specs.Pieces.{pieces, lines_of}
use Rattle.lease_facts.specs.Facts.{fact_of}
use Rattle.lease_facts.specs.declared.fact.Fact.{Fact}
use Rattle.lease_world.specs.judge.Judged.{Judging, HasJudged}
use Rattle.lease_texts.specs.Reading.{reads_on, is_passed_over}
use Rattle.lease_texts.specs.Records.{fact_in, with_fact, with_line}
use Rattle.leasecheck.specs.Judging.{HasRead, HasReadText, ReadsBlock, EndsLine, RunsOut, RefusesLine, bare}
use Rattle.leasecheck.proofs.Blocks.{lines_behind, lines_count, ends_with_take}
use Rattle.leasecheck.specs.declared.judging.Progress.{Progress}
use Rattle.leasecheck.specs.declared.failure.Failure.TheVariants as failure
use Rattle.leasecheck.specs.declared.refusal.Refusal.{Refusal}

-- what a line adds to a record
pub line_passed : (facts : List Fact) (line : List ℕ) → is_passed_over line ≡ true → with_line facts line ≡ Some facts
unfolding with_line
line_passed facts line passed = rw passed refl

pub line_told : (facts : List Fact) (line : List ℕ) (told : Fact) → is_passed_over line ≡ false → fact_in line ≡ Some told
    → with_line facts line ≡ Some (facts ++ told ∷ [])
unfolding with_line with_fact
line_told facts line told passed is = rw (passed, is) refl

pub line_refused : (facts : List Fact) (line : List ℕ) → is_passed_over line ≡ false → fact_in line ≡ None
    → with_line facts line ≡ None
unfolding with_line with_fact
line_refused facts line passed is = rw (passed, is) refl

-- a judge of facts that takes one more was given the facts with it
map_behind : (facts : List Fact) (told : Fact) → map fact_of facts ++ fact_of told ∷ [] ≡ map fact_of (facts ++ told ∷ [])
map_behind [] told = refl
map_behind (fact ∷ facts) told = ap (λ rest. fact_of fact ∷ rest) (map_behind facts told)

pub judged_more : (judge : Judging) (facts : List Fact) (told : Fact) → HasJudged judge (map fact_of facts ++ fact_of told ∷ [])
    → HasJudged judge (map fact_of (facts ++ told ∷ []))
judged_more judge facts told judged = subst (λ all. HasJudged judge all) (map_behind facts told) judged

-- reading goes on behind a line that was taken, and ends at one that is refused
pub taken_line : (line : List ℕ) (lines rest : List (List ℕ)) (number : ℕ) (facts more : List Fact)
    → with_line facts line ≡ Some more
    → reads_on with_line 1 [] (lines ++ line ∷ rest) ≡ reads_on with_line number facts (line ∷ rest)
    → reads_on with_line 1 [] ((lines ++ line ∷ []) ++ rest) ≡ reads_on with_line (number + 1) more rest
unfolding reads_on
taken_line line lines rest number facts more is whole =
    ap (λ all. reads_on with_line 1 [] all) (append_assoc lines (line ∷ []) rest) ∙ (whole ∙ rw is refl)

pub refused_line : (line : List ℕ) (rest : List (List ℕ)) (number : ℕ) (facts : List Fact) (all : Result (List Fact) ℕ)
    → with_line facts line ≡ None → all ≡ reads_on with_line number facts (line ∷ rest) → all ≡ Err number
unfolding reads_on
refused_line line rest number facts all is whole = whole ∙ rw is refl

-- a line more was read, or is refused
length_more : {X : Type 0} (xs : List X) (x : X) → length (xs ++ x ∷ []) ≡ length xs + 1
length_more [] x = refl
length_more (y ∷ xs) x = let rest = length_more xs x in omega (arith, rest)

pub read_line : (old new : Progress) (line : List ℕ) (lines : List (List ℕ)) → (has : HasRead old lines)
    → new.number ≡ old.number + 1 → (more : List Fact) × (with_line has.facts line ≡ Some more)
    × HasJudged new.judge (map fact_of more) → HasRead new (lines ++ line ∷ [])
read_line old new line lines has next taken = record {
  facts = taken.0;
  judged = taken.2;
  read = λ rest. taken_line line lines rest old.number has.facts taken.0 taken.1 (has.read (line ∷ rest))
      ∙ ap (λ n. reads_on with_line n taken.0 rest) (sym next);
  counted = next ∙ (ap (λ n. n + 1) has.counted ∙ ap (λ n. n + 1) (sym (length_more lines line)));
}

pub refuse_line : (old : Progress) (line : List ℕ) (lines : List (List ℕ)) (told : Refusal) → (has : HasRead old lines)
    → (told ≡ bare failure.Memory) ⊎ ((with_line has.facts line ≡ None) × (told.failure ≡ failure.Line old.number))
    → (told ≡ bare failure.Memory) ⊎ RunsOut (length (lines ++ line ∷ [])) told
    ⊎ ((more : List (List ℕ)) → RefusesLine (lines ++ (line ∷ [] ++ more)) told)
refuse_line old line lines told has (inl memory) = inl memory
refuse_line old line lines told has (inr refused) = inr (inr (λ more. (
  old.number,
  refused_line line more old.number has.facts _ refused.0 (has.read (line ∷ more)),
  refused.1,
)))

pub run_out : (old : Progress) (line : List ℕ) (lines : List (List ℕ)) → HasRead old lines → old.number ≡ 2 ^ 64 - 1
    → RunsOut (length (lines ++ line ∷ [])) (bare failure.Lines)
run_out old line lines has last = (refl, omega (arith, has.counted, last, length_more lines line))

-- where nothing is left the whole text was read
pub all_read : (progress : Progress) (lines taken : List (List ℕ)) (rest text : List ℕ) → (length rest == 0) ≡ true
    → HasRead progress (lines ++ taken) → taken ++ lines_of rest ≡ lines_of text → HasRead progress (lines ++ lines_of text)
unfolding pieces
all_read progress lines taken [] text empty has same =
    subst (λ all. HasRead progress (lines ++ all)) (sym (append-nil taken) ∙ same) has
all_read progress lines taken (byte ∷ rest) text empty has same = absurd (grind (arith, nat_tests, empty))

-- the next line of what is left was read
pub go_on : (next : Progress) (line behind rest text : List ℕ) (lines taken : List (List ℕ))
    → HasRead next ((lines ++ taken) ++ line ∷ []) → lines_of rest ≡ line ∷ lines_of behind
    → taken ++ lines_of rest ≡ lines_of text
    → (all : List (List ℕ)) × HasRead next (lines ++ all) × (all ++ lines_of behind ≡ lines_of text)
go_on next line behind rest text lines taken has first same = (
  taken ++ line ∷ [],
  subst (λ all. HasRead next all) (append_assoc lines taken (line ∷ [])) has,
  append_assoc taken (line ∷ []) (lines_of behind) ∙ (ap (λ all. taken ++ all) (sym first) ∙ same),
)

-- the next line of what is left is refused, whatever follows the text
pub stop_at : (told : Refusal) (line behind rest text : List ℕ) (lines taken : List (List ℕ))
    → (told ≡ bare failure.Memory) ⊎ RunsOut (length ((lines ++ taken) ++ line ∷ [])) told
    ⊎ ((more : List (List ℕ)) → RefusesLine ((lines ++ taken) ++ (line ∷ [] ++ more)) told)
    → lines_of rest ≡ line ∷ lines_of behind → taken ++ lines_of rest ≡ lines_of text
    → (told ≡ bare failure.Memory) ⊎ RunsOut (length (lines ++ lines_of text)) told
    ⊎ ((more : List (List ℕ)) → RefusesLine (lines ++ (lines_of text ++ more)) told)
stop_at told line behind rest text lines taken (inl memory) first same = inl memory
stop_at told line behind rest text lines taken (inr (inl out)) first same =
    let whole : taken ++ (line ∷ lines_of behind) ≡ lines_of text = ap (λ all. taken ++ all) (sym first) ∙ same in
    let counted : length (lines ++ lines_of text)
    ≡ length (lines ++ (taken ++ (line ∷ lines_of behind))) = ap (λ all. length (lines ++ all)) (sym whole) in
    inr (inl (out.0, omega (arith, out.1, counted, length-append {A = List ℕ})))
stop_at told line behind rest text lines taken (inr (inr refused)) first same =
    inr (inr (λ more. subst (λ all. RefusesLine all told) (append_assoc lines taken (line ∷ (lines_of behind ++ more))
    ∙ ap (λ all. lines ++ all) (sym (append_assoc taken (line ∷ lines_of behind) more)
    ∙ ap (λ all. all ++ more) (ap (λ all. taken ++ all) (sym first) ∙ same))) (refused (lines_of behind ++ more))))

-- ---- blocks

-- a text was read where its lines were
pub text_read : (progress : Progress) (text more : List ℕ) → EndsLine text → EndsLine (text ++ more)
    → HasRead progress (lines_of text ++ lines_of more) → HasReadText progress (text ++ more)
text_read progress text more ends whole has = record {
  whole = whole;
  read = subst (λ lines. HasRead progress lines) (sym (lines_behind text more ends)) has;
}

-- a refused line of a text that is cut at the end of a line
pub refused_in : (told : Refusal) (text more : List ℕ) → EndsLine text → EndsLine (text ++ more)
    → ((lines : List (List ℕ)) → RefusesLine (lines_of text ++ (lines_of more ++ lines)) told)
    → (rest : List ℕ) → RefusesLine (lines_of ((text ++ more) ++ rest)) told
refused_in told text more ends whole refused rest = subst (λ lines. RefusesLine lines told)
    (sym (append_assoc (lines_of text) (lines_of more) (lines_of rest))
    ∙ (ap (λ lines. lines ++ lines_of rest) (sym (lines_behind text more ends)) ∙ sym (lines_behind (text ++ more) rest whole)))
    (refused (lines_of rest))

-- where more lines than numbers were met, there are as many bytes
pub ran_out_in : (told : Refusal) (text more : List ℕ) → RunsOut (length (lines_of text ++ lines_of more)) told
    → (count : ℕ) → length text + length more ≤ count → RunsOut count told
ran_out_in told text more out count least =
    (out.0, omega (arith, out.1, least, lines_count text, lines_count more, length-append {A = List ℕ}))

-- A refused line of whole lines, behind which more stands.
pub refuse_in : (told : Refusal) (text lines all more : List ℕ) → EndsLine text → EndsLine (text ++ lines) → all ≡ lines ++ more
    → (told ≡ bare failure.Memory) ⊎ RunsOut (length (lines_of text ++ lines_of lines)) told
    ⊎ ((rest : List (List ℕ)) → RefusesLine (lines_of text ++ (lines_of lines ++ rest)) told)
    → (told ≡ bare failure.Memory) ⊎ RunsOut (length (text ++ all)) told
    ⊎ ((rest : List ℕ) → RefusesLine (lines_of (text ++ (all ++ rest))) told)
refuse_in told text lines all more ends whole is (inl memory) = inl memory
refuse_in told text lines all more ends whole is (inr (inl out)) =
    let counted : length (text ++ all) ≡ length (text ++ (lines ++ more)) = ap (λ t. length (text ++ t)) is in
    inr (inl (ran_out_in told text lines out (length (text ++ all)) (omega (arith, counted, length-append {A = ℕ}))))
refuse_in told text lines all more ends whole is (inr (inr refused)) =
    inr (inr (λ rest. subst (λ t. RefusesLine (lines_of t) told) (append_assoc text lines (more ++ rest)
    ∙ ap (λ t. text ++ t) (sym (append_assoc lines more rest) ∙ ap (λ t. t ++ rest) (sym is)))
    (refused_in told text lines ends whole refused (more ++ rest))))

-- The lines of a block that begins with a line were read, and what is left of it is kept.
pub took_whole : (next : Progress) (text block old new : List ℕ) (place n : ℕ) → EndsLine text → place < length block
    → slice_index block place ≡ 10 → HasRead next (lines_of text ++ lines_of (take (place + 1) block))
    → n ≡ length block - (place + 1) → old ≡ [] → new ≡ old ++ take n (drop (place + 1) block)
    → (more : List ℕ) × HasReadText next (text ++ more) × (more ++ new ≡ block)
took_whole next text block old new place n ends inside feed read rest none is =
    let left : take n (drop (place + 1) block)
    ≡ drop (place + 1) block = take_all n (drop (place + 1) block) (omega (arith, rest, length-drop {A = ℕ})) in (
      take (place + 1) block,
      text_read next text (take (place + 1) block) ends (ends_with_take text block place inside feed) read,
      ap (λ t. take (place + 1) block ++ t) (is ∙ (ap (λ t. t ++ take n (drop (place + 1) block)) none ∙ left))
          ∙ take-append-drop (place + 1) block,
    )

-- What a block goes on with is read behind what was read before it.
pub block_behind : (text lines old new block rest : List ℕ) (answer : Result Progress Refusal) → old ++ block ≡ lines ++ rest
    → ReadsBlock (text ++ lines) [] new rest answer → ReadsBlock text old new block answer
block_behind text lines old new block rest (Ok progress) is read = (
  lines ++ read.0,
  subst (λ t. HasReadText progress t) (append_assoc text lines read.0) read.1,
  append_assoc lines read.0 new ∙ (ap (λ t. lines ++ t) read.2 ∙ sym is),
)
block_behind text lines old new block rest (Err told) is (inl memory) = inl memory
block_behind text lines old new block rest (Err told) is (inr (inl out)) =
    inr (inl (subst (λ t. RunsOut (length t) told) (append_assoc text lines rest ∙ ap (λ t. text ++ t) (sym is)) out))
block_behind text lines old new block rest (Err told) is (inr (inr refused)) =
    inr (inr (λ more. subst (λ t. RefusesLine (lines_of t) told) (append_assoc text lines (rest ++ more)
    ∙ ap (λ t. text ++ t) (sym (append_assoc lines rest more) ∙ ap (λ t. t ++ more) (sym is))) (refused more)))

-- The line that a block ends, with what had begun before the block.
pub first_ends : (text old block lines : List ℕ) (place : ℕ) → place < length block → slice_index block place ≡ 10
    → lines ≡ old ++ take (place + 1) block → EndsLine (text ++ lines)
first_ends text old block lines place inside feed is =
    subst (λ t. EndsLine t) (append_assoc text old (take (place + 1) block) ∙ ap (λ t. text ++ t) (sym is))
    (ends_with_take (text ++ old) block place inside feed)

pub first_cut : (old block lines : List ℕ) (place n : ℕ) → place < length block → lines ≡ old ++ take (place + 1) block
    → n ≡ length block - (place + 1) → old ++ block ≡ lines ++ take n (drop (place + 1) block)
first_cut old block lines place n inside is rest =
    let left : take n (drop (place + 1) block)
    ≡ drop (place + 1) block = take_all n (drop (place + 1) block) (omega (arith, rest, length-drop {A = ℕ})) in
    sym (ap (λ t. lines ++ t) left ∙ (ap (λ t. t ++ drop (place + 1) block) is
    ∙ (append_assoc old (take (place + 1) block) (drop (place + 1) block)
    ∙ ap (λ t. old ++ t) (take-append-drop (place + 1) block))))
