-- The content of a file, and what patches make of it (profile).
use Rattle.std.specs.Prelude.{ℕ, ◌+◌, ◌-◌, max, if◌then◌else◌, ◌&&◌, nat_lt, nat_le, List, [], ◌∷◌, length, map, slice_index}
use Rattle.std.specs.List.{range_with_len}
use Rattle.lease_state.specs.declared.patch.Patch.{Patch}

-- the byte at a place once the bytes stand at the offset: theirs where they cover the place, else
-- the content's, and 0 where neither has one
abbrev pub byte_at : List ℕ → ℕ → List ℕ → ℕ → ℕ
byte_at content offset bytes place =
    if nat_le offset place && nat_lt place (offset + length bytes)
    then slice_index bytes (place - offset)
    else slice_index content place

-- the content with these bytes, one at least, at the offset: a byte at each place, as far as the
-- content or the bytes reach
unfoldable pub written : List ℕ → ℕ → List ℕ → List ℕ
written content offset bytes =
    map (byte_at content offset bytes) (range_with_len 0 (max (length content) (offset + length bytes)))

-- the content with the bytes at the offset; no bytes change nothing
abbrev pub patch_at : List ℕ → ℕ → List ℕ → List ℕ
patch_at content offset [] = content
patch_at content offset (b ∷ bytes) = written content offset (b ∷ bytes)

-- what a patch makes of a content
abbrev pub patch : List ℕ → Patch → List ℕ
patch content p = patch_at content p.offset p.bytes

-- what patches make of a content, one after another
abbrev pub patches : List ℕ → List Patch → List ℕ
patches content [] = content
patches content (p ∷ ps) = patches (patch content p) ps

-- the place after a patch's last byte
abbrev pub end_of : Patch → ℕ
end_of p = p.offset + length p.bytes
