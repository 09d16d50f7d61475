-- Clients of a world in which nothing happened yet.
use Rattle.std.specs.Prelude.{◌≡◌, ℕ, ⊤, List, [], ◌∷◌, length}
use Rattle.lease_client.specs.Known.{client_of}
use Rattle.lease_model.specs.client.State.{new_client}
use Rattle.lease_world.specs.declared.world.link.Link as code
use Rattle.lease_world.specs.world.Seats.{Seat}

-- a client of this ClientGuid that was never connected
pub record IsNew (files : ℕ) (own : List ℕ) (seat : Seat) : Type 0 where
  pub guid : seat.guid ≡ own
  pub full : length own ≡ 16
  pub client : client_of seat.client ≡ new_client own files
  pub link : seat.link ≡ code.TheVariants.Down
  pub requests : seat.requests ≡ []
  pub replies : seat.replies ≡ []

-- one for each ClientGuid, in order
abbrev pub AreNew : ℕ → List (List ℕ) → List Seat → Type 0
AreNew files [] [] = ⊤
AreNew files (guid ∷ guids) (seat ∷ seats) = IsNew files guid seat × AreNew files guids seats
AreNew files _ _ = ⊥
