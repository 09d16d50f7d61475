-- Clients and files by their numbers, and what one fact changes of them.
use Rattle.std.specs.Prelude.{◌≡◌, ◌≢◌, ℕ, Bool, List, if◌then◌else◌, ◌==◌, is_some}
use Rattle.lease_state.specs.State.{State}
use Rattle.lease_world.specs.judge.Seen.{SeenFile, SeenClient, file_in, client_in, cache_in}

-- the client has a new value
abbrev pub HasClient : List SeenClient → List SeenClient → ℕ → SeenClient → Type 0
HasClient old new client seen = (n : ℕ) → client_in new n ≡ (if n == client then seen else client_in old n)

-- the client changes in this way, and no other
abbrev pub ChangesClient : (SeenClient → SeenClient → Type 0) → ℕ → List SeenClient → List SeenClient → Type 0
ChangesClient Changes client old new = Changes (client_in old client) (client_in new client)
    × ((n : ℕ) → n ≢ client → client_in new n ≡ client_in old n)

abbrev pub HasSameClients : List SeenClient → List SeenClient → Type 0
HasSameClients old new = (n : ℕ) → client_in new n ≡ client_in old n

abbrev pub HasFile : List SeenFile → List SeenFile → ℕ → SeenFile → Type 0
HasFile old new file seen = (n : ℕ) → file_in new n ≡ (if n == file then seen else file_in old n)

abbrev pub HasSameFiles : List SeenFile → List SeenFile → Type 0
HasSameFiles old new = (n : ℕ) → file_in new n ≡ file_in old n

abbrev pub is_started_in : List SeenFile → ℕ → Bool
is_started_in files file = is_some (file_in files file).start

abbrev pub belief_in : List SeenClient → ℕ → ℕ → State
belief_in clients client file = (cache_in (client_in clients client).caches file).belief
