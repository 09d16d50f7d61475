-- What is kept of a client, of a file, or of a client and a file, is lent: what is written there stands in its place, and the
-- rest stays as it is. Nothing is said of what is left where there was no memory.
use Rattle.std.specs.Prelude.{ℕ, List, Result, ⊤}
use Rattle.std.specs.Borrow.{LendsSoOk, MutBor, Fml}
use Rattle.lease_world.specs.judge.Clients.{HasCache}
use Rattle.lease_world.specs.judge.Seen.{SeenFile, SeenCache, SeenClient}
use Rattle.lease_world.specs.judge.Tables.{HasClient, HasFile}
use Rattle.lease_world.specs.contracts.judging.cache.CacheSeen as cache
use Rattle.lease_world.specs.contracts.judging.caches.Caches as caches
use Rattle.lease_world.specs.contracts.judging.client.ClientSeen as client
use Rattle.lease_world.specs.contracts.judging.clients.Clients as clients
use Rattle.lease_world.specs.contracts.judging.file.FileSeen as file
use Rattle.lease_world.specs.contracts.judging.files.Files as files

abbrev pub LendsClient : {E : Type 0} → MutBor (List SeenClient) → ℕ → Result (MutBor SeenClient) E → Fml
LendsClient kept number result =
    LendsSoOk clients.the_row client.the_row kept result (λ new seen. HasClient kept.now new number seen) (λ _. ⊤)

abbrev pub LendsFile : {E : Type 0} → MutBor (List SeenFile) → ℕ → Result (MutBor SeenFile) E → Fml
LendsFile kept number result =
    LendsSoOk files.the_row file.the_row kept result (λ new seen. HasFile kept.now new number seen) (λ _. ⊤)

abbrev pub LendsCache : {E : Type 0} → MutBor (List SeenCache) → ℕ → Result (MutBor SeenCache) E → Fml
LendsCache kept number result =
    LendsSoOk caches.the_row cache.the_row kept result (λ new cache. HasCache kept.now new number cache) (λ _. ⊤)
