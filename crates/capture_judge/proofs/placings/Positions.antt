-- Last positions as they are gathered.
use Rattle.std.proofs.Common.{◌≡◌, ◌+◌, ◌<◌, ◌≤◌, ℕ, List, ◌∷◌, [], ◌++◌, Some, None, sym, ◌∙◌, arith, subst, slice_get, length}
use Rattle.std.specs.List.{Contains}
use Rattle.std.proofs.lemmas.List.Elements.{Contains-append_left, Contains-push}
use Rattle.std.proofs.lemmas.Option.{same_Some}
use Rattle.capture_judge.specs.Searching.{Includes}
use Rattle.capture_judge.proofs.placings.Places.{each-more, each-all}
use Rattle.capture_judge.specs.declared.values.Change.{Change}
use Rattle.capture_judge.specs.declared.values.Chain.{Chain}

abbrev pub HasLast : List ℕ → Change → Type 0
HasLast positions change = (last : ℕ) → change.last ≡ Some last → Contains positions last

-- The last positions of the changes before an index are among the new ones, and so are the old ones.
pub record Gathered (old new : List ℕ) (changes : List Change) (n : ℕ) : Type 0 where
  pub kept : (position : ℕ) → Contains old position → Contains new position
  pub all : (i : ℕ) (change : Change) → i < n → slice_get changes i ≡ Some change → HasLast new change

pub gathered-start : (old : List ℕ) (changes : List Change) → Gathered old old changes 0
gathered-start old changes = record {
  kept = λ position has. has;
  all = λ i change less at. absurd (omega (arith, less));
}

pub gathered-skip : (old new : List ℕ) (changes : List Change) (n : ℕ) (here : Change) → slice_get changes n ≡ Some here
    → here.last ≡ None → Gathered old new changes n → Gathered old new changes (n + 1)
gathered-skip old new changes n here at none before = record {
  kept = before.kept;
  all = each-more (HasLast new) changes n here at before.all (λ last has. absurd (grind (arith, none, has)));
}

pub gathered-push : (old new : List ℕ) (changes : List Change) (n : ℕ) (here : Change) (last : ℕ)
    → slice_get changes n ≡ Some here
    → here.last ≡ Some last → Gathered old new changes n → Gathered old (new ++ last ∷ []) changes (n + 1)
gathered-push old new changes n here last at has before = record {
  kept = λ position has. Contains-append_left new (last ∷ []) position (before.kept position has);
  all = each-more (HasLast (new ++ last ∷ [])) changes n here at
      (λ i change less is end ends. Contains-append_left new (last ∷ []) end (before.all i change less is end ends))
      (λ end ends. subst (Contains (new ++ last ∷ [])) (same_Some last end (sym has ∙ ends)) (Contains-push new last));
}

pub gathered-all : (old new : List ℕ) (changes : List Change) (n : ℕ) → length changes ≤ n → Gathered old new changes n
    → Includes old new changes
gathered-all old new changes n all gathered = record {
  kept = gathered.kept;
  all = λ i change last at has. each-all (HasLast new) changes n all gathered.all i change at last has;
}

abbrev pub HasAll : List ℕ → Chain → Type 0
HasAll positions chain = (i : ℕ) (change : Change) (last : ℕ) → slice_get chain.changes.items i ≡ Some change
    → change.last ≡ Some last → Contains positions last

abbrev pub HasBelow : List ℕ → List Chain → ℕ → Type 0
HasBelow positions chains n = (i : ℕ) (chain : Chain) → i < n → slice_get chains i ≡ Some chain → HasAll positions chain

pub has-more : (old new : List ℕ) (chains : List Chain) (n : ℕ) (here : Chain) → slice_get chains n ≡ Some here
    → Includes old new here.changes.items → HasBelow old chains n → HasBelow new chains (n + 1)
has-more old new chains n here at includes before = each-more (HasAll new) chains n here at
    (λ i chain less is k change last place has. includes.kept last (before i chain less is k change last place has))
    includes.all
