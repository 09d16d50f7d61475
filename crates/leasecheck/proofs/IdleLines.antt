-- The lines of events that did nothing: where none is left, and one after the other.
use Rattle.lease_laws.proofs.Words.{◌++◌, ◌+◌, ◌==◌, ◌≡◌, ◌<◌, ◌-◌, ◌≤◌, ◌∙◌, ◌∷◌, Err, List, Ok, Result, ℕ, [], ap}
use Rattle.lease_laws.proofs.Words.{append-nil, append_assoc, arith, drop, false, get_or, if◌then◌else◌, length, nat_le, subst}
use Rattle.lease_laws.proofs.Words.{sym, take, true}
use Rattle.std.proofs.lemmas.Bool.Decides.{nat_tests}
use Rattle.std.specs.Prelude.{OnOk}
use Rattle.std.specs.Result.{is_ok}
use Rattle.lease_texts.specs.Pieces.{lines_of, pieces}
use Rattle.std.proofs.lemmas.List.{take_all}
use Rattle.lease_world.specs.declared.obstacle.Idle.{Idle}
use Rattle.leasecheck.specs.Idle.{event_lines, idle_before, idle_behind}

pub none_left : (lines : List ℕ) (number : ℕ) (rest all : List ℕ) → (length rest == 0) ≡ true
    → lines ++ event_lines (number + 1) (lines_of rest) ≡ all → lines ≡ all
unfolding pieces event_lines
none_left lines number [] all empty whole = sym (append-nil lines) ∙ whole
none_left lines number (byte ∷ rest) all empty whole = absurd (grind (arith, nat_tests, empty))

pub said_in_parts : (text first number space words end : List ℕ)
    → ((text ++ (first ++ (number ++ space))) ++ words) ++ end ≡ text ++ (first ++ (number ++ (space ++ (words ++ end))))
said_in_parts text first number space words end = simp append_assoc

-- what holds of a call that succeeds
pub on_ok : {A E : Type 0} (result : Result A E) (new more same : List ℕ)
    → new ≡ (if is_ok result then more else same) → OnOk result (new ≡ more)
on_ok (Ok done) new more same is = is
on_ok (Err why) new more same is = tt

-- ---- events before a fact

rest_taken : (one : Idle) (rest : List Idle) → take (length (one ∷ rest) - 1) rest ≡ rest
rest_taken one rest = take_all (length (one ∷ rest) - 1) rest (omega arith)

pub passed_before : (say : Idle → List ℕ) (count : ℕ) (left : List Idle) (none : Idle) (text new all : List ℕ)
    → (length left == 0) ≡ false → (get_or left 0 none).facts ≤ count → new ≡ text ++ say (get_or left 0 none)
    → text ++ idle_before say count left ≡ all → new ++ idle_before say count (take (length left - 1) (drop 1 left)) ≡ all
unfolding idle_before
passed_before say count [] none text new all some first is whole = absurd (cc)
passed_before say count (one ∷ rest) none text new all some first is whole =
    let here : nat_le one.facts count ≡ true = grind (arith, nat_tests, first) in
    ap (λ (l : List Idle). new ++ idle_before say count l) (rest_taken one rest)
    ∙ (ap (λ (t : List ℕ). t ++ idle_before say count rest) is ∙ append_assoc text (say one) (idle_before say count rest)
    ∙ subst (λ b. text ++ (if b then say one ++ idle_before say count rest else []) ≡ all) here whole)

pub passed_behind : (count : ℕ) (left : List Idle) (none : Idle) (all : List Idle) → (length left == 0) ≡ false
    → (get_or left 0 none).facts ≤ count → idle_behind count left ≡ all
    → idle_behind count (take (length left - 1) (drop 1 left)) ≡ all
unfolding idle_behind
passed_behind count [] none all some first whole = absurd (cc)
passed_behind count (one ∷ rest) none all some first whole =
    let here : nat_le one.facts count ≡ true = grind (arith, nat_tests, first) in
    ap (λ (l : List Idle). idle_behind count l) (rest_taken one rest)
    ∙ subst (λ b. (if b then idle_behind count rest else one ∷ rest) ≡ all) here whole

pub later_before : (say : Idle → List ℕ) (count : ℕ) (left : List Idle) (none : Idle) (text all : List ℕ)
    → (length left == 0) ≡ false → count < (get_or left 0 none).facts → text ++ idle_before say count left ≡ all → text ≡ all
unfolding idle_before
later_before say count [] none text all some later whole = absurd (cc)
later_before say count (one ∷ rest) none text all some later whole =
    let there : nat_le one.facts count ≡ false = grind (arith, nat_tests, later) in
    sym (append-nil text) ∙ subst (λ b. text ++ (if b then say one ++ idle_before say count rest else []) ≡ all) there whole

pub later_behind : (count : ℕ) (left : List Idle) (none : Idle) (all : List Idle) → (length left == 0) ≡ false
    → count < (get_or left 0 none).facts → idle_behind count left ≡ all → left ≡ all
unfolding idle_behind
later_behind count [] none all some later whole = absurd (cc)
later_behind count (one ∷ rest) none all some later whole =
    let there : nat_le one.facts count ≡ false = grind (arith, nat_tests, later) in
    subst (λ b. (if b then idle_behind count rest else one ∷ rest) ≡ all) there whole

pub all_before : (say : Idle → List ℕ) (count : ℕ) (left : List Idle) (text all : List ℕ) → (length left == 0) ≡ true
    → text ++ idle_before say count left ≡ all → text ≡ all
unfolding idle_before
all_before say count [] text all empty whole = sym (append-nil text) ∙ whole
all_before say count (one ∷ rest) text all empty whole = absurd (grind (arith, nat_tests, empty))

pub all_behind : (count : ℕ) (left all : List Idle) → (length left == 0) ≡ true → idle_behind count left ≡ all → left ≡ all
unfolding idle_behind
all_behind count [] all empty whole = whole
all_behind count (one ∷ rest) all empty whole = absurd (grind (arith, nat_tests, empty))
