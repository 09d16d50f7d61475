-- What is found in a table from which entries were removed.
use Rattle.std.proofs.Common.{◌≡◌, ℕ, ◌==◌, ◌&&◌, Bool, true, false, if◌then◌else◌, List, [], ◌∷◌, Option, Some, None, arith}
use Rattle.std.proofs.Common.{refl, map, filter, bytes_eq}
use Rattle.std.specs.Option.{option_map}
use Rattle.capture_walk.specs.Creates.{create_in, is_kept, is_of_another, with_remade, remade_after}
use Rattle.capture_walk.specs.declared.creates.Create.{Create}

-- the requests that are kept are found, and the others aren't
pub create_in_kept : (connection id other answer : ℕ) (table : List Create)
    → create_in connection id (filter (is_kept other answer) table)
    ≡ (if other == connection && answer == id then None else create_in connection id table)
create_in_kept connection id other answer [] = grind arith
create_in_kept connection id other answer (one ∷ table) =
    let e = create_in_kept connection id other answer table in grind arith

marked_if : (b : Bool) (one : Create) → ((if b then with_remade one else one).connection ≡ one.connection)
    × ((if b then with_remade one else one).id ≡ one.id)
marked_if true one = (refl, refl)
marked_if false one = (refl, refl)

same_marked : (name : Option (List ℕ)) (one : Create) → ((remade_after name one).connection ≡ one.connection)
    × ((remade_after name one).id ≡ one.id)
same_marked None one = (refl, refl)
same_marked (Some name) one = marked_if (bytes_eq one.name name) one

-- a request that is marked is found where it was
pub create_in_marked : (connection id : ℕ) (name : Option (List ℕ)) (table : List Create)
    → create_in connection id (map (remade_after name) table) ≡ option_map (remade_after name) (create_in connection id table)
create_in_marked connection id name [] = refl
create_in_marked connection id name (one ∷ table) =
    let e = create_in_marked connection id name table in
    let same = same_marked name one in grind arith

-- the requests of a connection that are forgotten aren't found
pub create_in_left : (connection id other : ℕ) (table : List Create)
    → create_in connection id (filter (is_of_another other) table)
    ≡ (if other == connection then None else create_in connection id table)
create_in_left connection id other [] = grind arith
create_in_left connection id other (one ∷ table) =
    let e = create_in_left connection id other table in grind arith
