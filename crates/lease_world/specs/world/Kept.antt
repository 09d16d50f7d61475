-- What a run keeps in addition to its record, where that is asked for.
use Rattle.std.specs.Prelude.{◌≡◌, Bool, true, false, List, []}

-- This is so of a list that is kept, and one that isn't kept has nothing.
abbrev pub IfKept : {X : Type 0} → Bool → List X → Type 0 → Type 0
IfKept true kept IsSo = IsSo
IfKept false kept IsSo = kept ≡ []
