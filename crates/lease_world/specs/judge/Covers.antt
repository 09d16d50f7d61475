-- The writes that cover the positions of a file: what a judge keeps of them.
use Rattle.std.specs.Prelude.{◌≡◌, ◌⊎◌, ◌≢◌, ◌≤◌, ◌<◌, ⊤, ℕ, zero, suc, ◌-◌, max, Bool, true, if◌then◌else◌, ◌==◌, ◌&&◌, nat_lt}
use Rattle.std.specs.Prelude.{nat_le, Option, Some, None, List, [], ◌∷◌, ◌++◌, length, filter, slice_get, slice_index, unwrap_or}
use Rattle.lease_state.specs.Content.{end_of}
use Rattle.lease_world.specs.declared.judging.covers.Cover.{Cover}
use Rattle.lease_world.specs.declared.judging.covers.Layer.{Layer}
use Rattle.lease_world.specs.judge.Seen.{Waiting}

-- ---- by position

-- a write at a position, where it covers that
abbrev pub layer_of : ℕ → Waiting → List Layer
layer_of position write =
    if nat_le write.patch.offset position && nat_lt position (end_of write.patch)
    then record { number = write.number; byte = slice_index write.patch.bytes (position - write.patch.offset) } ∷ []
    else []

-- writes at a position, the last one first
abbrev pub layers_at : ℕ → List Waiting → List Layer
layers_at position [] = []
layers_at position (write ∷ writes) = layers_at position writes ++ layer_of position write

-- the layers of a position, the topmost first
abbrev pub stack_in : List (List Layer) → ℕ → List Layer
stack_in stacks position = unwrap_or (slice_get stacks position) []

-- the byte of the topmost layer, else that of the base, and 0 where the base has none
abbrev pub seen_byte : List ℕ → List Layer → ℕ → ℕ
seen_byte base [] position = slice_index base position
seen_byte base (layer ∷ layers) position = layer.byte

-- the bytes are so as far as positions are covered
abbrev pub ShowsCovered : List ℕ → List (List Layer) → List ℕ → Type 0
ShowsCovered base stacks bytes = (position : ℕ) → position < length stacks
    → slice_index bytes position ≡ seen_byte base (stack_in stacks position) position

-- the bytes are those of the base with the layers on top
pub record Shows (base : List ℕ) (stacks : List (List Layer)) (bytes : List ℕ) : Type 0 where
  pub long : length bytes ≡ max (length base) (length stacks)
  pub each : (position : ℕ) → position < length bytes
      → slice_index bytes position ≡ seen_byte base (stack_in stacks position) position

-- ---- how they change

-- one layer more on top of a position
abbrev pub HasLayer : ℕ → Layer → List (List Layer) → List (List Layer) → Type 0
HasLayer place layer old new = (position : ℕ) → stack_in new position
    ≡ (if position == place then layer ∷ stack_in old position else stack_in old position)

-- the topmost layer, if there is one, is open
abbrev pub IsOpenOnTop : (Layer → Bool) → List Layer → Type 0
IsOpenOnTop is_open [] = ⊤
IsOpenOnTop is_open (layer ∷ layers) = is_open layer ≡ true

-- layers on top are gone, up to one that is open
abbrev pub IsUncovered : (Layer → Bool) → List Layer → List Layer → Type 0
IsUncovered is_open old new = IsOpenOnTop is_open new × (filter is_open new ≡ filter is_open old)

-- no position past the last one that has a layer
abbrev pub EndsCovered : List (List Layer) → Type 0
EndsCovered stacks = (length stacks ≡ 0) ⊎ (stack_in stacks (length stacks - 1) ≢ [])

-- ---- covers that are linked

-- a cover's layer, and what lies under it
abbrev pub layers_of : (ℕ → List Layer) → Option Cover → List Layer
layers_of under None = []
layers_of under (Some cover) = cover.layer ∷ under cover.below

-- the layers from a cover down, of which there are no more than the fuel; covers count from 1, and 0 is none
unfoldable pub layers_from : ℕ → List Cover → ℕ → List Layer
layers_from zero covers place = []
layers_from (suc fuel) covers zero = []
layers_from (suc fuel) covers (suc place) = layers_of (layers_from fuel covers) (slice_get covers place)

-- each cover lies on one that came before it
abbrev pub AreLinked : List Cover → Type 0
AreLinked covers = (place : ℕ) → (cover : Cover) → slice_get covers place ≡ Some cover → cover.below ≤ place

-- a place is that of a cover, or 0
abbrev pub AreTops : List Cover → List ℕ → Type 0
AreTops covers tops = (position top : ℕ) → slice_get tops position ≡ Some top → top ≤ length covers

-- the layers from a cover down
abbrev pub layers_under : List Cover → ℕ → List Layer
layers_under covers place = layers_from place covers place
