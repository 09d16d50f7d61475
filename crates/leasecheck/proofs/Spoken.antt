-- Machines that answered some lines of a text.
use Rattle.lease_laws.proofs.Words.{◌++◌, ◌+◌, ◌==◌, ◌^◌, ◌∙◌, ◌∷◌, ◌≡◌, ◌≢◌, ◌≤◌, Appends, Bool, Err, IfSome, List, None, Ok}
use Rattle.lease_laws.proofs.Words.{Option, Some, ℕ, [], ap, append-nil, append_assoc, arith, false, if◌then◌else◌, length}
use Rattle.lease_laws.proofs.Words.{length-append, nat_tests, refl, subst, sym, true}
use Rattle.std.specs.Io.BufRead.{take_through, drop_through}
use Rattle.lease_lines.specs.ClientTables.{Answered}
use Rattle.lease_lines.specs.Machines.{Machines, answered, reasons, spoken, transcript}
use Rattle.lease_texts.specs.Pieces.{lines_of, pieces, longer}
use Rattle.leasecheck.specs.Conversing.{Converses, GivesLine, HasBegun, HasSpoken, HasTooMany}
use Rattle.leasecheck.specs.Refusals.{Begins}
use Rattle.leasecheck.specs.declared.failure.Failure.{Failure}
use Rattle.leasecheck.proofs.Puts.{appends_more}

-- the machines after lines
unfoldable pub after_lines : Machines → ℕ → List (List ℕ) → Machines
after_lines machines number [] = machines
after_lines machines number (text ∷ texts) = after_lines (answered machines number text).state (number + 1) texts

-- what is written of an answer: the answer itself, or why the line is refused
abbrev Part : Type 0
Part = Answered Machines → List ℕ

spoken_behind : (part : Part) (machines : Machines) (number : ℕ) (texts more : List (List ℕ))
    → spoken part machines number (texts ++ more)
    ≡ spoken part machines number texts ++ spoken part (after_lines machines number texts) (number + length texts) more
unfolding spoken after_lines
spoken_behind part machines number [] more = ap (λ n. spoken part machines n more) (omega arith)
spoken_behind part machines number (text ∷ texts) more =
    let told = answered machines number text in
    let rest = spoken_behind part told.state (number + 1) texts more in
    let at : (number + 1) + length texts ≡ number + length (text ∷ texts) = omega arith in
    ap (λ t. part told ++ t) (rest ∙ ap (λ n. spoken part told.state (number + 1) texts
    ++ spoken part (after_lines told.state (number + 1) texts) n more) at)
    ∙ sym (append_assoc (part told) (spoken part told.state (number + 1) texts)
    (spoken part (after_lines told.state (number + 1) texts) (number + length (text ∷ texts)) more))

pub after_more : (machines : Machines) (number : ℕ) (texts : List (List ℕ)) (text : List ℕ)
    → after_lines machines number (texts ++ text ∷ [])
    ≡ (answered (after_lines machines number texts) (number + length texts) text).state
unfolding after_lines
after_more machines number [] text = ap (λ n. (answered machines n text).state) (omega arith)
after_more machines number (one ∷ texts) text =
    let told = answered machines number one in
    let at : (number + 1) + length texts ≡ number + length (one ∷ texts) = omega arith in
    after_more told.state (number + 1) texts text
    ∙ ap (λ n. (answered (after_lines told.state (number + 1) texts) n text).state) at

-- ---- the first line of a text

if_cases : {X : Type 0} (P : X → Type 0) (b : Bool) (x y : X) → (b ≡ true → P x) → (b ≡ false → P y) → P (if b then x else y)
if_cases P true x y then_case else_case = then_case refl
if_cases P false x y then_case else_case = else_case refl

-- what is taken is one line, and what is dropped are the others
pub record IsFirst (text : List ℕ) : Type 0 where
  pub line : List ℕ
  pub taken : lines_of (take_through 10 text) ≡ line ∷ []
  pub all : lines_of text ≡ line ∷ lines_of (drop_through 10 text)

one_byte : (byte : ℕ) (b : Bool) → (byte == 10) ≡ b → IsFirst (byte ∷ [])
unfolding pieces longer
one_byte byte true same = record { line = []; taken = rw same rw same refl; all = rw same refl }
one_byte byte false other = record { line = byte ∷ []; taken = rw other rw other refl; all = rw other refl }

one_more : (byte : ℕ) (text : List ℕ) (b : Bool) → (byte == 10) ≡ b → IsFirst text → IsFirst (byte ∷ text)
unfolding pieces longer
one_more byte text true same rest = record { line = []; taken = rw same rw same refl; all = rw same refl }
one_more byte text false other rest = record {
  line = byte ∷ rest.line;
  taken = rw other rw other (ap (longer byte) rest.taken);
  all = rw other (ap (longer byte) rest.all);
}

pub first_of : (byte : ℕ) (text : List ℕ) → IsFirst (byte ∷ text)
first_of byte [] = one_byte byte (byte == 10) refl
first_of byte (next ∷ text) = one_more byte (next ∷ text) (byte == 10) refl (first_of next text)

-- ---- rounds

-- One line more is spoken of, or a beginning is written of what is spoken of it.
abbrev Was : Machines → Machines → ℕ → List (List ℕ) → Type 0
Was start now number lines = (now ≡ after_lines start 1 lines) × (number ≡ 1 + length lines)

part_is : (part : Part) (start now : Machines) (number : ℕ) (lines : List (List ℕ)) (line : List ℕ) → Was start now number lines
    → part (answered now number line) ≡ part (answered (after_lines start 1 lines) (1 + length lines) line)
part_is part start now number lines line (machines, counted) = ap (λ m. part (answered m number line)) machines
    ∙ ap (λ n. part (answered (after_lines start 1 lines) n line)) counted

one_line_more : (part : Part) (start now : Machines) (number : ℕ) (lines : List (List ℕ)) (line : List ℕ)
    → Was start now number lines
    → spoken part start 1 (lines ++ line ∷ []) ≡ spoken part start 1 lines ++ part (answered now number line)
unfolding spoken
one_line_more part start now number lines line was = spoken_behind part start 1 lines (line ∷ [])
    ∙ ap (λ t. spoken part start 1 lines ++ t) (append-nil (part (answered (after_lines start 1 lines) (1 + length lines) line))
    ∙ sym (part_is part start now number lines line was))

-- What was answered so far, the machines after it, and what is left to be read.
pub record IsSoFar (whole left : Option (List ℕ)) (start now : Machines) (number : ℕ)
    (first written faults told : Option (List ℕ)) : Type 0 where
  pub lines : List (List ℕ)
  pub was : Was start now number lines
  pub answers : Appends first written (transcript start 1 lines)
  pub said : Appends faults told (reasons start 1 lines)
  pub known : IfSome whole (λ all. (rest : List ℕ) × (left ≡ Some rest) × (lines_of all ≡ lines ++ lines_of rest))

nothing_written : (old : Option (List ℕ)) → Appends old old []
nothing_written None = tt
nothing_written (Some xs) = sym (append-nil xs)

pub begins : (whole first faults : Option (List ℕ)) (start : Machines)
    → IsSoFar whole whole start start 1 first first faults faults
unfolding spoken after_lines pieces
begins whole first faults start = record {
  lines = [];
  was = (refl, refl);
  answers = nothing_written first;
  said = nothing_written faults;
  known = all_left whole;
}
  where
    all_left : (text : Option (List ℕ))
        → IfSome text (λ all. (rest : List ℕ) × (text ≡ Some rest) × (lines_of all ≡ [] ++ lines_of rest))
    all_left None = tt
    all_left (Some all) = (all, refl, refl)

-- one line more was given, which is the first of what was left
behind_line : (lines rest : List (List ℕ)) (all_lines : List (List ℕ)) (text : List ℕ) → all_lines ≡ lines ++ (text ∷ rest)
    → all_lines ≡ (lines ++ text ∷ []) ++ rest
behind_line lines rest all_lines text is = is ∙ sym (append_assoc lines (text ∷ []) rest)

given_line : (bytes line behind text : List ℕ) → bytes ≢ [] → lines_of bytes ≡ line ∷ lines_of behind
    → bytes ≡ take_through 10 text → lines_of text ≡ line ∷ lines_of (drop_through 10 text)
given_line bytes line behind [] some first is = absurd (some is)
given_line bytes line behind (byte ∷ text) some first is =
    let one = first_of byte text in
    let same : line ≡ one.line = let e = sym first ∙ (ap lines_of is ∙ one.taken) in cc in
    one.all ∙ ap (λ p. p ∷ lines_of (drop_through 10 (byte ∷ text))) (sym same)

pub goes_on : (whole left new : Option (List ℕ)) (start now next : Machines) (number : ℕ)
    (first old written faults told after : Option (List ℕ)) (bytes line behind : List ℕ)
    → IsSoFar whole left start now number first old faults told → GivesLine left new bytes
    → bytes ≢ [] → lines_of bytes ≡ line ∷ lines_of behind → HasSpoken (answered now number line) next old written told after
    → IsSoFar whole new start next (number + 1) first written faults after
goes_on whole left new start now next number first old written faults told after bytes line behind so_far gives some is
    spoke = record {
      lines = so_far.lines ++ line ∷ [];
      was = (
        spoke.0 ∙ (part_state ∙ sym (after_more start 1 so_far.lines line)),
        omega (arith, so_far.was.1, length-append {A = List ℕ}),
      );
      answers = more (λ a. a.text) first old written so_far.answers spoke.1;
      said = more (λ a. a.reason) faults told after so_far.said spoke.2;
      known = knows whole left so_far.known gives;
    }
  where
    part_state : (answered now number line).state
        ≡ (answered (after_lines start 1 so_far.lines) (1 + length so_far.lines) line).state
    part_state = ap (λ m. (answered m number line).state) so_far.was.0
        ∙ ap (λ n. (answered (after_lines start 1 so_far.lines) n line).state) so_far.was.1

    more : (part : Part) (first old new : Option (List ℕ)) → Appends first old (spoken part start 1 so_far.lines)
        → Appends old new (part (answered now number line)) → Appends first new (spoken part start 1 (so_far.lines ++ line ∷ []))
    more part first old new had has = subst (λ t. Appends first new t)
        (sym (one_line_more part start now number so_far.lines line so_far.was))
        (appends_more first old new (spoken part start 1 so_far.lines) (part (answered now number line)) had has)

    knows : (known left : Option (List ℕ))
        → IfSome known (λ all. (rest : List ℕ) × (left ≡ Some rest) × (lines_of all ≡ so_far.lines ++ lines_of rest))
        → GivesLine left new bytes → IfSome known (λ all. (rest : List ℕ) × (new ≡ Some rest)
        × (lines_of all ≡ (so_far.lines ++ line ∷ []) ++ lines_of rest))
    knows None left had gives = tt
    knows (Some all) None had gives = absurd (let e = had.1 in cc)
    knows (Some all) (Some text) had gives =
        let same : had.0 ≡ text = let e = had.1 in cc in
        let cut = given_line bytes line behind text some is gives.0 in (
          drop_through 10 text,
          gives.1,
          behind_line so_far.lines (lines_of (drop_through 10 text)) (lines_of all) line
              (had.2 ∙ (ap (λ t. so_far.lines ++ lines_of t) same ∙ ap (λ ls. so_far.lines ++ ls) cut)),
        )

taken_some : (byte : ℕ) (text : List ℕ) → take_through 10 (byte ∷ text) ≢ []
taken_some byte text =
    if_cases (λ all. all ≢ []) (byte == 10) (byte ∷ []) (byte ∷ take_through 10 text) (λ _. λ same. cc) (λ _. λ same. cc)

no_lines : (text : List ℕ) → take_through 10 text ≡ [] → lines_of text ≡ []
unfolding pieces
no_lines [] none = refl
no_lines (byte ∷ text) none = absurd (taken_some byte text none)

-- nothing is left
pub ends : {T : Type 0} (whole left new : Option (List ℕ)) (start now : Machines) (number : ℕ)
    (first old faults told : Option (List ℕ)) (bytes : List ℕ) (done : T)
    → IsSoFar whole left start now number first old faults told → GivesLine left new bytes → bytes ≡ []
    → Converses start whole first old faults told (Ok done)
unfolding pieces
ends None left new start now number first old faults told bytes done so_far gives none =
    (so_far.lines, (so_far.answers, so_far.said))
ends (Some all) None new start now number first old faults told bytes done so_far gives none =
    absurd (let e = so_far.known.1 in cc)
ends (Some all) (Some text) new start now number first old faults told bytes done so_far gives none =
    let same : so_far.known.0 ≡ text = let e = so_far.known.1 in cc in
    subst (λ ls. Appends first old (transcript start 1 ls) × Appends faults told (reasons start 1 ls))
    (sym (so_far.known.2 ∙ (ap (λ t. so_far.lines ++ lines_of t) same
    ∙ (ap (λ ls. so_far.lines ++ ls) (no_lines text (sym gives.0 ∙ none)) ∙ append-nil so_far.lines))))
    (so_far.answers, so_far.said)

-- what was written before is a beginning of what is spoken of any lines that go on so
begun_text : (part : Part) (start : Machines) (first old new : Option (List ℕ)) (lines more : List (List ℕ)) (text : List ℕ)
    → Appends first old (spoken part start 1 lines) → Begins old new text
    → (rest : List ℕ) → spoken part start 1 (lines ++ more) ≡ spoken part start 1 lines ++ (text ++ rest)
    → Begins first new (spoken part start 1 (lines ++ more))
begun_text part start first old new lines more text had begun rest is = (
  spoken part start 1 lines ++ begun.0,
  begun.1 ++ rest,
  is ∙ (ap (λ t. spoken part start 1 lines ++ (t ++ rest)) begun.2
      ∙ (ap (λ t. spoken part start 1 lines ++ t) (append_assoc begun.0 begun.1 rest)
      ∙ sym (append_assoc (spoken part start 1 lines) begun.0 (begun.1 ++ rest)))),
  appends_more first old new (spoken part start 1 lines) begun.0 had begun.3,
)

nothing_more : (part : Part) (start : Machines) (first old : Option (List ℕ)) (lines more : List (List ℕ))
    → Appends first old (spoken part start 1 lines) → Begins first old (spoken part start 1 (lines ++ more))
nothing_more part start first old lines more had = begun_text part start first old old lines more [] had
    ([], [], refl, nothing_written old) (spoken part (after_lines start 1 lines) (1 + length lines) more)
    (spoken_behind part start 1 lines more)

-- of the answer to one more line a beginning
begun_line : (part : Part) (start now : Machines) (number : ℕ) (first old new : Option (List ℕ)) (lines more : List (List ℕ))
    (line : List ℕ) → Was start now number lines → Appends first old (spoken part start 1 lines)
    → Begins old new (part (answered now number line)) → Begins first new (spoken part start 1 (lines ++ line ∷ more))
unfolding spoken
begun_line part start now number first old new lines more line was had begun =
    let rest = spoken part (answered (after_lines start 1 lines) (1 + length lines) line).state ((1 + length lines) + 1) more in
    begun_text part start first old new lines (line ∷ more) (part (answered now number line)) had begun rest
    (spoken_behind part start 1 lines (line ∷ more)
    ∙ ap (λ t. spoken part start 1 lines ++ (t ++ rest)) (sym (part_is part start now number lines line was)))

-- no line more was answered
pub stops : (T : Type 0) (whole left : Option (List ℕ)) (start now : Machines) (number : ℕ)
    (first old faults told : Option (List ℕ)) (failure : Failure)
    → IsSoFar whole left start now number first old faults told
    → Converses {T = T} start whole first old faults told (Err failure)
stops T whole left start now number first old faults told failure so_far = at whole so_far.known
  where
    so : (more : List (List ℕ)) → Begins first old (transcript start 1 (so_far.lines ++ more))
        × Begins faults told (reasons start 1 (so_far.lines ++ more))
    so more = (
      nothing_more (λ a. a.text) start first old so_far.lines more so_far.answers,
      nothing_more (λ a. a.reason) start faults told so_far.lines more so_far.said,
    )

    at : (known : Option (List ℕ)) → IfSome known (λ all. (rest : List ℕ) × (left ≡ Some rest)
        × (lines_of all ≡ so_far.lines ++ lines_of rest)) → Converses {T = T} start known first old faults told (Err failure)
    at None had = (so_far.lines ++ [], so [])
    at (Some all) had = subst (λ ls. Begins first old (transcript start 1 ls) × Begins faults told (reasons start 1 ls))
        (sym had.2) (so (lines_of had.0))

-- the answer to a line wasn't written whole
pub breaks_off : (T : Type 0) (whole left new : Option (List ℕ)) (start now : Machines) (number : ℕ)
    (first old written faults told after : Option (List ℕ)) (bytes line behind : List ℕ) (failure : Failure)
    → IsSoFar whole left start now number first old faults told → GivesLine left new bytes
    → bytes ≢ [] → lines_of bytes ≡ line ∷ lines_of behind → HasBegun (answered now number line) old written told after
    → Converses {T = T} start whole first written faults after (Err failure)
breaks_off T whole left new start now number first old written faults told after bytes line behind failure so_far gives
    some is begun =
    at whole left so_far.known gives
  where
    so : (more : List (List ℕ)) → Begins first written (transcript start 1 (so_far.lines ++ line ∷ more))
        × Begins faults after (reasons start 1 (so_far.lines ++ line ∷ more))
    so more = (
      begun_line (λ a. a.text) start now number first old written so_far.lines more line so_far.was so_far.answers begun.0,
      begun_line (λ a. a.reason) start now number faults told after so_far.lines more line so_far.was so_far.said begun.1,
    )

    at : (known left : Option (List ℕ))
        → IfSome known (λ all. (rest : List ℕ) × (left ≡ Some rest) × (lines_of all ≡ so_far.lines ++ lines_of rest))
        → GivesLine left new bytes → Converses {T = T} start known first written faults after (Err failure)
    at None left had gives = (so_far.lines ++ line ∷ [], so [])
    at (Some all) None had gives = absurd (let e = had.1 in cc)
    at (Some all) (Some text) had gives =
        let same : had.0 ≡ text = let e = had.1 in cc in
        let cut = given_line bytes line behind text some is gives.0 in
        subst (λ ls. Begins first written (transcript start 1 ls) × Begins faults after (reasons start 1 ls))
        (sym (had.2 ∙ (ap (λ t. so_far.lines ++ lines_of t) same ∙ ap (λ ls. so_far.lines ++ ls) cut)))
        (so (lines_of (drop_through 10 text)))

-- numbers run out only for as many lines
pub runs_out : (whole left : Option (List ℕ)) (start now : Machines) (number : ℕ)
    (first old faults told : Option (List ℕ)) → IsSoFar whole left start now number first old faults told
    → 2 ^ 64 ≤ number + 1 → HasTooMany whole
runs_out None left start now number first old faults told so_far last = tt
runs_out (Some all) left start now number first old faults told so_far last =
    let all_counted = ap (λ (ls : List (List ℕ)). length ls) so_far.known.2 in
    omega (arith, last, all_counted, so_far.was.1, length-append {A = List ℕ})

-- what was given is nothing, or something
pub none_left : (bytes : List ℕ) → (length bytes == 0) ≡ true → bytes ≡ []
none_left [] empty = refl
none_left (byte ∷ bytes) empty = absurd (grind (arith, nat_tests, empty))

pub some_left : (bytes : List ℕ) → (length bytes == 0) ≡ false → bytes ≢ []
some_left [] some = absurd (grind (arith, nat_tests, some))
some_left (byte ∷ bytes) some = λ same. cc
