-- What follows from tables of beliefs: rivals, or that there are none.
use Rattle.lease_laws.proofs.Words.{◌&&◌, ◌+◌, ◌==◌, ◌||◌, ◌∙◌, ◌∷◌, ◌≡◌, ◌≢◌, Bool, Fact, FileNo, List, None}
use Rattle.lease_laws.proofs.Words.{OneWriteCache, Option, Some, State, ℕ, [], and_from, and_parts, ap, arith, believed}
use Rattle.lease_laws.proofs.Words.{both_ways, cases_Bool, eq-eqb, eqb-true, false, holds_any, if◌then◌else◌, inl, inr}
use Rattle.lease_laws.proofs.Words.{is_good, length, list_any, not, nothing_cached, or_cases, refl, state_of, subst, sym}
use Rattle.lease_laws.proofs.Words.{true}
use Rattle.std.specs.Prelude.{MatchOption}
use Rattle.std.specs.Prelude.{zero, suc}
use Rattle.std.specs.List.{find, flat_map}
use Rattle.std.specs.List.Sorted.{IsPermutation}
use Rattle.std.specs.Option.{option_to_list}
use Rattle.std.proofs.lemmas.List.Sorted.{All-permutation, list_any-IsPermutation}
use Rattle.lease_reasons.specs.Beliefs.{Noted, last_noted, Each, noted_of, cell_in, row_in, is_empty, IsLast, AreLastOf, AreLast}
use Rattle.lease_reasons.specs.Beliefs.{may_clash, clashing, rivals_of, rivals_with, rivals_among, HasNoRivals, AreRivals}
use Rattle.lease_reasons.specs.declared.last_beliefs.LastBeliefs.{LastBeliefs}
use Rattle.lease_reasons.specs.declared.reason.Belief.{Belief}
use Rattle.lease_reasons.proofs.Lists.{all-each, any-filter, each-all, each-filter, each_more, find-each, find-some}
use Rattle.lease_reasons.proofs.Tables.{no_cell}

-- ---- what clients believe

abbrev state_in : Option Noted → State
state_in None = nothing_cached
state_in (Some noted) = noted.state

believed-is : (client file : ℕ) (past : List Fact) → believed client file past ≡ state_in (last_noted client file past)
unfolding believed last_noted
believed-is client file [] = refl
believed-is client file (Fact.Believes other of_file state ∷ past) = go (other == client && of_file == file) (believed-is client
    file past)
  where
    go : (b : Bool) → believed client file past ≡ state_in (last_noted client file past)
        → (if b then state else believed client file past)
        ≡ state_in (if b then Some (record { place = length past + 1; state = state }) else last_noted client file past)
    go b e = grind arith
believed-is client file (_ ∷ past) = believed-is client file past

holds-write : (s : State) → s.write ≡ true → holds_any s ≡ true
holds-write s w = grind arith

holds-none : (s : State) → holds_any s ≡ false → s ≡ nothing_cached
holds-none s h = grind arith

-- ---- rows of a table

-- what holds of each belief in a row holds of the list of them
cells-each : (P : Belief → Type 0) (cells : List (Option Belief)) → ((n : ℕ) (b : Belief) → cell_in cells n ≡ Some b → P b)
    → Each P (flat_map option_to_list cells)
cells-each P [] holds = tt
cells-each P (None ∷ cells) holds = cells-each P cells (λ n b e. holds (suc n) b e)
cells-each P (Some b ∷ cells) holds = (holds 0 b refl, cells-each P cells (λ n b e. holds (suc n) b e))

-- a belief of the row is one of the list
cell-any : (t : Belief → Bool) (cells : List (Option Belief)) (n : ℕ) (b : Belief) → cell_in cells n ≡ Some b → t b ≡ true
    → list_any t (flat_map option_to_list cells) ≡ true
cell-any t [] zero b is passes = let no : ⊥ = cc in absurd no
cell-any t [] (suc n) b is passes = let no : ⊥ = cc in absurd no
cell-any t (None ∷ cells) zero b is passes = let no : ⊥ = cc in absurd no
cell-any t (None ∷ cells) (suc n) b is passes = cell-any t cells n b is passes
cell-any t (Some other ∷ cells) zero b is passes = grind arith
cell-any t (Some other ∷ cells) (suc n) b is passes = right (t other) _ (cell-any t cells n b is passes)
  where
    right : (a b : Bool) → b ≡ true → (a || b) ≡ true
    right a b e = grind arith

-- a belief in the table is what the client believes
cell-believed : (past : List Fact) (file client : ℕ) (cell : Option Belief) → IsLast past file client cell
    → holds_any (believed client file past) ≡ true
    → (belief : Belief) × (cell ≡ Some belief) × (belief.client.0 ≡ client)
    × (state_of belief.state ≡ believed client file past)
cell-believed past file client None is holds =
    absurd (both_ways _ (ap (λ (s : State). holds_any s)
    (believed-is client file past ∙ ap (λ (o : Option Noted). state_in o) is)) holds)
cell-believed past file client (Some belief) is holds =
    (belief, refl, is.0, sym (believed-is client file past ∙ ap (λ (o : Option Noted). state_in o) is.1))

-- what is true of each belief that may clash
abbrev pub Clashes : List Fact → ℕ → Belief → Type 0
Clashes past file b = (last_noted b.client.0 file past ≡ Some (noted_of b)) × (may_clash (λ c. is_good c past) b ≡ true)

-- These beliefs may clash, and no client is left out that has one that may.
pub record AreClashing (past : List Fact) (file : ℕ) (beliefs : List Belief) : Type 0 where
  pub each : Each (Clashes past file) beliefs
  pub all : (client : ℕ) → is_good client past ≡ true → holds_any (believed client file past) ≡ true
      → list_any (λ b. b.client.0 == client) beliefs ≡ true

pub clashing-are : (past : List Fact) (file : ℕ) (good : ℕ → Bool) (cells : List (Option Belief))
    → ((client : ℕ) → good client ≡ is_good client past) → AreLastOf past file cells
    → AreClashing past file (clashing good cells)
clashing-are past file good cells same are = record {
  each = each_more _ _ (clashing good cells)
      (λ b h. (h.0, ap (λ (g : Bool). holds_any (state_of b.state) && g) (sym (same b.client.0)) ∙ h.1))
      (each-filter _ (may_clash good) (flat_map option_to_list cells)
      (cells-each (λ b. last_noted b.client.0 file past ≡ Some (noted_of b)) cells (λ n b e. noted n b e)));
  all = λ client is holds.
      let found = cell-believed past file client (cell_in cells client) (are client) holds in
      any-filter (may_clash good) (λ b. b.client.0 == client) (flat_map option_to_list cells)
      (cell-any _ cells client found.0 found.1 (passes client found.0 found.2 found.3 is holds));
}
  where
    noted : (n : ℕ) (b : Belief) → cell_in cells n ≡ Some b → last_noted b.client.0 file past ≡ Some (noted_of b)
    noted n b e =
        let is : IsLast past file n (Some b) = subst (λ (o : Option Belief). IsLast past file n o) e (are n) in
        ap (λ c. last_noted c file past) is.0 ∙ is.1

    passes : (client : ℕ) (b : Belief) → b.client.0 ≡ client → state_of b.state ≡ believed client file past
        → is_good client past ≡ true → holds_any (believed client file past) ≡ true
        → (may_clash good b && b.client.0 == client) ≡ true
    passes client b mine state is holds = and_from _ _
        (and_from _ _ (ap (λ (s : State). holds_any s) state ∙ holds) (ap good mine ∙ (same client ∙ is)))
        (eq-eqb b.client.0 client mine)

-- in another order they do as well
pub clashing-permuted : (past : List Fact) (file : ℕ) (xs ys : List Belief) → IsPermutation xs ys → AreClashing past file xs
    → AreClashing past file ys
clashing-permuted past file xs ys permuted are = record {
  each = all-each (Clashes past file) ys (All-permutation (Clashes past file) xs ys permuted (each-all (Clashes past file) xs
      are.each));
  all = λ client is holds. sym (list_any-IsPermutation _ xs ys permuted) ∙ are.all client is holds;
}

-- among these is the belief of a client that has one, and it is what the client believes
any-noted : (past : List Fact) (file c : ℕ) (t : Belief → Bool) (beliefs : List Belief)
    → Each (Clashes past file) beliefs → list_any (λ b. b.client.0 == c) beliefs ≡ true
    → ((b : Belief) → b.client.0 ≡ c → state_of b.state ≡ believed c file past → t b ≡ true)
    → list_any t beliefs ≡ true
any-noted past file c t [] each there passes = absurd (both_ways _ refl there)
any-noted past file c t (b ∷ beliefs) each there passes =
    elim (or_cases (b.client.0 == c) (list_any (λ b. b.client.0 == c) beliefs) there) [
      | inl here ↦ left (t b) (list_any t beliefs) (first here)
      | inr later ↦ right (t b) (list_any t beliefs) (any-noted past file c t beliefs each.1 later passes)
    ]
  where
    left : (x y : Bool) → x ≡ true → (x || y) ≡ true
    left x y e = grind arith

    right : (x y : Bool) → y ≡ true → (x || y) ≡ true
    right x y e = grind arith

    first : b.client.0 == c ≡ true → t b ≡ true
    first here =
        let same : b.client.0 ≡ c = eqb-true b.client.0 c here in
        passes b same (sym (ap (λ (n : ℕ). believed n file past) (sym same) ∙ (believed-is b.client.0 file past
        ∙ ap (λ (o : Option Noted). state_in o) each.0.0)))

pub rivals-found : (past : List Fact) (file : ℕ) (beliefs : List Belief) → AreClashing past file beliefs
    → MatchOption (rivals_among beliefs) (HasNoRivals past file) (λ rivals. AreRivals past file rivals.writer rivals.other)
rivals-found past file beliefs are = by_writer (find (λ b. (state_of b.state).write) beliefs) refl
  where
    none_of : (t : Belief → Bool) (c : ℕ) → find t beliefs ≡ None
        → is_good c past ≡ true → holds_any (believed c file past) ≡ true
        → ((b : Belief) → b.client.0 ≡ c → state_of b.state ≡ believed c file past → t b ≡ true) → ⊥
    none_of t c none good holds passes =
        find-some t beliefs (any-noted past file c t beliefs are.each (are.all c good holds) passes) none

    by_other : (w : Belief) → find (λ b. (state_of b.state).write) beliefs ≡ Some w
        → (o : Option Belief) → find (λ b. not (b.client.0 == w.client.0)) beliefs ≡ o
        → MatchOption (rivals_of w o) (HasNoRivals past file) (λ rivals. AreRivals past file rivals.writer rivals.other)
    by_other w at None none = λ client other apart good write good_too. elim (cases_Bool (holds_any (believed other file past))) [
      | inr nothing ↦ holds-none (believed other file past) nothing
      | inl holds ↦ absurd (elim (cases_Bool (client == w.client.0)) [
        | inl same ↦ none_of (λ b. not (b.client.0 == w.client.0)) other none good_too holds
            (λ b is state. not_same other b.client.0 client w.client.0 apart is same)
        | inr differs ↦ none_of (λ b. not (b.client.0 == w.client.0)) client none good (holds-write _ write)
            (λ b is state. differs_too b.client.0 client w.client.0 is differs)
      ])
    ]
      where
        not_same : (other b client w : ℕ) → other ≢ client → b ≡ other → (client == w) ≡ true → not (b == w) ≡ true
        not_same other b client w apart is same = grind arith

        differs_too : (b client w : ℕ) → b ≡ client → (client == w) ≡ false → not (b == w) ≡ true
        differs_too b client w is differs = grind arith
    by_other w at (Some o) found =
        let one : Clashes past file w × ((state_of w.state).write ≡ true) = find-each (Clashes past file) _ _ w are.each at in
        let two : Clashes past file o × (not (o.client.0 == w.client.0) ≡ true) = find-each (Clashes past file) _ _ o are.each
        found in let (noted, may) = one.0 in let (noted_too, may_too) = two.0 in
        record {
          apart = differ o.client.0 w.client.0 two.1;
          one = record { good = (and_parts _ _ may).1; noted = noted };
          two = record { good = (and_parts _ _ may_too).1; noted = noted_too };
          writes = one.1;
          caches = (and_parts _ _ may_too).0;
        }
      where
        differ : (a b : ℕ) → not (a == b) ≡ true → a ≢ b
        differ a b e = grind arith

    by_writer : (w : Option Belief) → find (λ b. (state_of b.state).write) beliefs ≡ w
        → MatchOption (rivals_with beliefs w) (HasNoRivals past file)
        (λ rivals. AreRivals past file rivals.writer rivals.other)
    by_writer None none = λ client other apart good write good_too.
        absurd (none_of (λ b. (state_of b.state).write) client none good (holds-write _ write)
        (λ b is state. ap (λ (s : State). s.write) state ∙ write))
    by_writer (Some w) found = by_other w found (find (λ b. not (b.client.0 == w.client.0)) beliefs) refl

-- ---- all files

each-any : (P : FileNo → Type 0) (file : ℕ) (files : List FileNo) → Each P files → list_any (λ f. f.0 == file) files ≡ true
    → (f : FileNo) × (f.0 ≡ file) × P f
each-any P file [] all there = absurd (both_ways _ refl there)
each-any P file (f ∷ files) all there = elim (or_cases (f.0 == file) (list_any (λ f. f.0 == file) files) there) [
  | inl here ↦ (f, eqb-true f.0 file here, all.0)
  | inr later ↦ each-any P file files all.1 later
]

not_empty : (n : ℕ) → (suc n == 0) ≡ false
not_empty n = grind arith

-- a file of which a client believes something is listed
believed-listed : (past : List Fact) (beliefs : LastBeliefs) (client file : ℕ) → AreLast past beliefs
    → holds_any (believed client file past) ≡ true → list_any (λ f. f.0 == file) beliefs.files.items ≡ true
believed-listed past beliefs client file are holds =
    are.listed file (filled (row_in beliefs.rows.items file)
    (cell-believed past file client (cell_in (row_in beliefs.rows.items file) client) (are.cells file client) holds))
  where
    filled : (cells : List (Option Belief)) → (belief : Belief) × (cell_in cells client ≡ Some belief)
        × (belief.client.0 ≡ client) × (state_of belief.state ≡ believed client file past) → is_empty cells ≡ false
    filled [] found = let none = no_cell client in let some = found.1 in let no : ⊥ = cc in absurd no
    filled (cell ∷ cells) found = not_empty (length cells)

-- where no file has rivals, no two cache one file
pub none-on_files : (past : List Fact) (beliefs : LastBeliefs) → AreLast past beliefs
    → Each (λ f. HasNoRivals past f.0) beliefs.files.items → OneWriteCache past
none-on_files past beliefs are none file client other apart good write good_too =
    let there : (f : FileNo) × (f.0 ≡ file) × HasNoRivals past f.0 =
    each-any (λ f. HasNoRivals past f.0) file beliefs.files.items none
    (believed-listed past beliefs client file are (holds-write _ write))
    in
    subst (λ (n : ℕ). HasNoRivals past n) there.1 there.2 client other apart good write good_too
