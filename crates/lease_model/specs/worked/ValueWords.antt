-- Words for values in worked examples.
use Rattle.std.specs.Prelude.{ℕ, true, false, List, [], ◌∷◌, replicate}
use Rattle.lease_state.specs.State.{State}
use Rattle.lease_state.specs.declared.patch.Patch.{Patch}

-- states by their letters
abbrev pub R : State
R = record { read = true; write = false; handle = false }

abbrev pub RH : State
RH = record { read = true; write = false; handle = true }

abbrev pub RW : State
RW = record { read = true; write = true; handle = false }

abbrev pub RWH : State
RWH = record { read = true; write = true; handle = true }

-- ClientGuids: sixteen bytes 11, sixteen bytes 22 and sixteen bytes 33
abbrev pub first_guid : List ℕ
first_guid = replicate 16 0x11

abbrev pub second_guid : List ℕ
second_guid = replicate 16 0x22

abbrev pub third_guid : List ℕ
third_guid = replicate 16 0x33

-- the key of the first client for file 1
abbrev pub first_key : List ℕ
first_key = 0x11 ∷ 0x11 ∷ 0x11 ∷ 0x11 ∷ 0x11 ∷ 0x11 ∷ 0x11 ∷ 0x11 ∷ 0x11 ∷ 0x11 ∷ 0x11 ∷ 0x11
    ∷ 1 ∷ 0 ∷ 0 ∷ 0 ∷ []

-- the bytes 0 to 15 as a LeaseKey, rising, and falling
abbrev pub sample_key : List ℕ
sample_key = 0 ∷ 1 ∷ 2 ∷ 3 ∷ 4 ∷ 5 ∷ 6 ∷ 7 ∷ 8 ∷ 9 ∷ 10 ∷ 11 ∷ 12 ∷ 13 ∷ 14 ∷ 15 ∷ []

abbrev pub later_key : List ℕ
later_key = 15 ∷ 14 ∷ 13 ∷ 12 ∷ 11 ∷ 10 ∷ 9 ∷ 8 ∷ 7 ∷ 6 ∷ 5 ∷ 4 ∷ 3 ∷ 2 ∷ 1 ∷ 0 ∷ []

-- these bytes at this offset
abbrev pub at : ℕ → List ℕ → Patch
at offset bytes = record { offset = offset; bytes = bytes }
