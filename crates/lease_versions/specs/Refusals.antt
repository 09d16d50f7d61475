-- What is refused or answered again before the manager is asked.
use Rattle.std.specs.Prelude.{◌≡◌, ℕ, Bool, true, false, not, Option, Some, None, List, [], ◌∷◌, if◌then◌else◌, ◌&&◌, ◌==◌}
use Rattle.std.specs.Prelude.{bytes_eq}
use Rattle.lease_state.specs.declared.status.Status.{Status}
use Rattle.lease_versions.specs.declared.carried.Replayed as replayed
use Rattle.lease_versions.specs.Layer.{Asked, Layer, Open}

-- no guid is the one whose bytes are 0
abbrev pub no_guid : List ℕ
no_guid = 0 ∷ 0 ∷ 0 ∷ 0 ∷ 0 ∷ 0 ∷ 0 ∷ 0 ∷ 0 ∷ 0 ∷ 0 ∷ 0 ∷ 0 ∷ 0 ∷ 0 ∷ 0 ∷ []

abbrev pub guid_or_none : Option (List ℕ) → List ℕ
guid_or_none None = no_guid
guid_or_none (Some guid) = guid

-- an open that is there, under another guid
abbrev pub is_of_another : List ℕ → Option Open → Bool
is_of_another guid None = false
is_of_another guid (Some one) = not (bytes_eq (guid_or_none one.guid) guid)

abbrev pub is_guid : List ℕ → Option (List ℕ) → Bool
is_guid guid None = false
is_guid guid (Some other) = bytes_eq other guid

-- an open of this client under this guid
abbrev pub is_open_under : ℕ → List ℕ → Option Open → Bool
is_open_under client guid None = false
is_open_under client guid (Some one) = one.client == client && is_guid guid one.guid

-- a create under this guid that isn't answered, and connects no open again
abbrev pub is_create_under : List ℕ → Option Asked → Bool
is_create_under guid None = false
is_create_under guid (Some (Asked.Create ask)) = is_guid guid ask.guid && not ask.reconnects
is_create_under guid (Some (Asked.Close file_id)) = false

abbrev pub reconnect_refusal : List ℕ → Option Open → Option Status
reconnect_refusal guid found = if is_of_another guid found then Some Status.ObjectNameNotFound else None

-- how they are found
abbrev pub HasOpen : ℕ → List ℕ → Layer → Type 0
HasOpen client guid layer = (file_id : ℕ) × (is_open_under client guid (layer.opens file_id) ≡ true)

abbrev pub HasNoOpen : ℕ → List ℕ → Layer → Type 0
HasNoOpen client guid layer = (file_id : ℕ) → is_open_under client guid (layer.opens file_id) ≡ false

abbrev pub HasCreate : ℕ → List ℕ → Layer → Type 0
HasCreate client guid layer = (tag : ℕ) × (is_create_under guid (layer.asked client tag) ≡ true)

abbrev pub HasNoCreate : ℕ → List ℕ → Layer → Type 0
HasNoCreate client guid layer = (tag : ℕ) → is_create_under guid (layer.asked client tag) ≡ false

-- one of these opens is answered again
abbrev pub IsAgain : ℕ → List ℕ → Layer → Option replayed.Replayed → Type 0
IsAgain client guid layer (Some (replayed.TheVariants.Again file_id)) =
    is_open_under client guid (layer.opens file_id.0) ≡ true
IsAgain client guid layer (Some replayed.TheVariants.DuplicateObjectId) = ⊥
IsAgain client guid layer (Some replayed.TheVariants.FileNotAvailable) = ⊥
IsAgain client guid layer None = ⊥
