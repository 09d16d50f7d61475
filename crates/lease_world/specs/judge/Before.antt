-- The changes before a place, and patches of changes and of writes.
use Rattle.std.specs.Prelude.{ℕ, List, [], ◌∷◌, if◌then◌else◌, nat_lt, map}
use Rattle.lease_state.specs.declared.patch.Patch.{Patch}
use Rattle.lease_world.specs.judge.Seen.{Change, Waiting}

-- the changes up to the first that doesn't stand before the place
abbrev pub before : ℕ → List Change → List Change
before place [] = []
before place (change ∷ changes) = if nat_lt change.place place then change ∷ before place changes else []

abbrev pub patches_of : List Change → List Patch
patches_of changes = map (λ change. change.patch) changes

abbrev pub patches_waiting : List Waiting → List Patch
patches_waiting waiting = map (λ write. write.patch) waiting
