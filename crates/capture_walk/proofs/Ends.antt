-- A message that ends no open leaves all of them, and no lease ends with it.
use Rattle.std.proofs.Common.{◌≡◌, ◌∷◌, [], false, List, Option, ap, filter, refl}
use Rattle.std.specs.List.{flat_map}
use Rattle.capture_walk.specs.Events.{ended_by}
use Rattle.capture_walk.specs.Opens.{ends, is_left}
use Rattle.capture_walk.specs.declared.note.Seen.{Seen}
use Rattle.capture_walk.specs.declared.opens.Open.{Open}

pub left_all : (made : Option Open) (seen : Seen) → ((one : Open) → ends made seen one ≡ false) → (held : List Open)
    → filter (is_left made seen) held ≡ held
left_all made seen none [] = refl
left_all made seen none (one ∷ held) = rw (none one) (ap (λ rest. one ∷ rest) (left_all made seen none held))

pub ended_none : (made : Option Open) (seen : Seen) (all : List Open) → ((one : Open) → ends made seen one ≡ false)
    → (held : List Open) → flat_map (ended_by made seen all) held ≡ []
ended_none made seen all none [] = refl
ended_none made seen all none (one ∷ held) = rw (none one) (ended_none made seen all none held)
