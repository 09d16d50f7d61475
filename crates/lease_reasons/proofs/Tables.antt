-- Tables of beliefs, after one fact more.
use Rattle.lease_laws.proofs.Words.{◌&&◌, ◌++◌, ◌+◌, ◌==◌, ◌||◌, ◌∙◌, ◌∷◌, ◌≡◌, Bool, Fact, FileNo, List, None}
use Rattle.lease_laws.proofs.Words.{Option, Some, ℕ, [], and_parts, ap, arith}
use Rattle.lease_laws.proofs.Words.{both_ways, cases_Bool, eq-eqb, eqb-true, false, if◌then◌else◌, inl, inr}
use Rattle.lease_laws.proofs.Words.{length, list_any, not, refl, state_of, subst, sym}
use Rattle.lease_laws.proofs.Words.{true}
use Rattle.std.specs.Prelude.{◌<◌, zero, suc, get_or, slice_set}
use Rattle.lease_facts.specs.Facts.{fact_of}
use Rattle.lease_facts.specs.declared.fact.Fact as code
use Rattle.lease_facts.specs.declared.fact.Fact.TheVariants as told
use Rattle.lease_state.specs.declared.number.ClientNo.{ClientNo}
use Rattle.lease_state.specs.declared.state.LeaseState.{LeaseState}
use Rattle.lease_facts.proofs.Places.{value_put, value_there}
use Rattle.lease_reasons.specs.Beliefs.{last_noted, noted_of, cell_in, row_in, is_empty, HasBelief, IsLast, AreLast}
use Rattle.lease_reasons.specs.Beliefs.{AreListed, HasCell, HasSameRows}
use Rattle.lease_reasons.specs.declared.last_beliefs.LastBeliefs.{LastBeliefs}
use Rattle.lease_reasons.specs.declared.reason.Belief.{Belief}
use Rattle.lease_reasons.proofs.Lists.{any-append}

still-last : (past later : List Fact) (file client : ℕ) (cell : Option Belief)
    → last_noted client file later ≡ last_noted client file past → IsLast past file client cell → IsLast later file client cell
still-last past later file client None same is = same ∙ is
still-last past later file client (Some belief) same is = (is.0, same ∙ is.1)

-- a belief more was put into its place
pub last-put : (past : List Fact) (file : ℕ) (belief : Belief) (before now : LastBeliefs) → length past + 1 ≡ belief.place
    → HasBelief file belief before now → AreLast past before
    → AreLast (Fact.Believes belief.client.0 file (state_of belief.state) ∷ past) now
unfolding last_noted
last-put past file belief before now at has are = record {
  cells = λ f c. subst (λ (o : Option Belief). IsLast (Fact.Believes belief.client.0 file (state_of belief.state) ∷ past) f c o)
      (sym (has.cells f c)) (go f c (f == file && c == belief.client.0) refl);
  listed = has.listed are.listed;
}
  where
    here : (f c : ℕ) → (f == file && c == belief.client.0) ≡ true
        → last_noted c f (Fact.Believes belief.client.0 file (state_of belief.state) ∷ past) ≡ Some (noted_of belief)
    here f c e = grind (arith, at)

    there : (f c : ℕ) → (f == file && c == belief.client.0) ≡ false
        → last_noted c f (Fact.Believes belief.client.0 file (state_of belief.state) ∷ past) ≡ last_noted c f past
    there f c e = grind arith

    go : (f c : ℕ) (b : Bool) → (f == file && c == belief.client.0) ≡ b
        → IsLast (Fact.Believes belief.client.0 file (state_of belief.state) ∷ past) f c
        (if b then Some belief else cell_in (row_in before.rows.items f) c)
    go f c true e = (sym (eqb-true c belief.client.0 (and_parts (f == file) (c == belief.client.0) e).1), here f c e)
    go f c false e = still-last past (Fact.Believes belief.client.0 file (state_of belief.state) ∷ past) f c
        (cell_in (row_in before.rows.items f) c) (there f c e) (are.cells f c)

-- a fact that tells no belief
pub last-same : (fact : code.Fact) (past : List Fact) (beliefs : LastBeliefs)
    → ((client : ClientNo) (file : FileNo) (state : LeaseState) → fact ≡ told.Believes client file state → ⊥)
    → AreLast past beliefs → AreLast (fact_of fact ∷ past) beliefs
unfolding last_noted
last-same (told.Believes client file state) past beliefs not are = absurd (not client file state refl)
last-same _ past beliefs not are = record { cells = are.cells; listed = are.listed }

-- a belief is put into the row of its file
pub belief-put : (file : FileNo) (belief : Belief) (before now : LastBeliefs) (rows : List (List (Option Belief)))
    (old row : List (Option Belief)) → HasSameRows before.rows.items rows → file.0 < length rows → old ≡ get_or rows file.0 old
    → HasCell belief old row → now.rows.items ≡ slice_set rows file.0 row
    → now.files.items ≡ (if is_empty old then before.files.items ++ file ∷ [] else before.files.items)
    → HasBelief file.0 belief before now
belief-put file belief before now rows old row same inside read has placed listed = record {
  cells = λ f c. ap (λ (cells : List (Option Belief)). cell_in cells c) (row_is f) ∙ cells f c (f == file.0) refl;
  listed = λ before_listed f filled. files before_listed f (f == file.0) refl
      (subst (λ (cells : List (Option Belief)). is_empty cells ≡ false) (row_is f) filled);
}
  where
    row_is : (f : ℕ) → row_in now.rows.items f ≡ (if f == file.0 then row else row_in rows f)
    row_is f = ap (λ (table : List (List (Option Belief))). row_in table f) placed ∙ value_put [] rows file.0 row f inside

    old_is : old ≡ row_in before.rows.items file.0
    old_is = value_there [] rows file.0 old inside read ∙ same file.0

    cells : (f c : ℕ) (b : Bool) → (f == file.0) ≡ b → cell_in (if b then row else row_in rows f) c
        ≡ (if b && c == belief.client.0 then Some belief else cell_in (row_in before.rows.items f) c)
    cells f c true e = has.cells c ∙ ap (λ (cell : Option Belief). if c == belief.client.0 then Some belief else cell)
        (ap (λ (cells : List (Option Belief)). cell_in cells c) (old_is
        ∙ ap (λ (n : ℕ). row_in before.rows.items n) (sym (eqb-true f file.0 e))))
    cells f c false e = ap (λ (cells : List (Option Belief)). cell_in cells c) (same f)

    kept : (f : ℕ) → list_any (λ g. g.0 == f) before.files.items ≡ true → list_any (λ g. g.0 == f) now.files.items ≡ true
    kept f there = elim (cases_Bool (is_empty old)) [
      | inl first ↦ rw (listed, first) (any-append (λ g. g.0 == f) before.files.items (file ∷ []) ∙ left _ _ there)
      | inr later ↦ rw (listed, later) there
    ]
      where
        left : (a b : Bool) → a ≡ true → (a || b) ≡ true
        left a b e = grind arith

    here : AreListed before → list_any (λ g. g.0 == file.0) now.files.items ≡ true
    here before_listed = elim (cases_Bool (is_empty old)) [
      | inl first ↦ rw (listed, first) (any-append (λ g. g.0 == file.0) before.files.items (file ∷ [])
          ∙ right _ _ (eq-eqb file.0 file.0 refl))
      | inr later ↦ kept file.0 (before_listed file.0
          (ap (λ (cells : List (Option Belief)). is_empty cells) (sym old_is) ∙ later))
    ]
      where
        right : (a b : Bool) → b ≡ true → (a || (b || false)) ≡ true
        right a b e = grind arith

    files : AreListed before → (f : ℕ) (b : Bool) → (f == file.0) ≡ b → is_empty (if b then row else row_in rows f) ≡ false
        → list_any (λ g. g.0 == f) now.files.items ≡ true
    files before_listed f true e filled = subst (λ (n : ℕ). list_any (λ g. g.0 == n) now.files.items ≡ true)
        (sym (eqb-true f file.0 e)) (here before_listed)
    files before_listed f false e filled = kept f (before_listed f (ap (λ (cells : List (Option Belief)). is_empty cells)
        (sym (same f)) ∙ filled))

no_row : (f : ℕ) → row_in [] f ≡ []
no_row zero = refl
no_row (suc f) = refl

pub no_cell : (c : ℕ) → cell_in [] c ≡ None
no_cell zero = refl
no_cell (suc c) = refl

-- no fact, no belief
pub last-none : (beliefs : LastBeliefs) → beliefs.rows.items ≡ [] → AreLast [] beliefs
unfolding last_noted
last-none beliefs none = record {
  cells = λ f c. subst (λ (o : Option Belief). IsLast [] f c o) (sym (nothing f c)) refl;
  listed = λ f filled. absurd (both_ways (is_empty (row_in beliefs.rows.items f)) filled
      (ap (λ (cells : List (Option Belief)). is_empty cells) (empty f)));
}
  where
    empty : (f : ℕ) → row_in beliefs.rows.items f ≡ []
    empty f = ap (λ (rows : List (List (Option Belief))). row_in rows f) none ∙ no_row f

    nothing : (f c : ℕ) → cell_in (row_in beliefs.rows.items f) c ≡ None
    nothing f c = ap (λ (cells : List (Option Belief)). cell_in cells c) (empty f) ∙ no_cell c
