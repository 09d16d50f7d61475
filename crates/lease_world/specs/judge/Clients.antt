-- How facts change what is kept of a client.
use Rattle.std.specs.Prelude.{◌≡◌, ℕ, Bool, true, false, not, Option, Some, None, List, [], ◌∷◌, ◌++◌, if◌then◌else◌, ◌==◌, ◌&&◌}
use Rattle.std.specs.Prelude.{nat_lt}
use Rattle.std.specs.Option.{option_map}
use Rattle.lease_state.specs.declared.patch.Patch.{Patch}
use Rattle.lease_model.specs.values.Lists.{is_empty}
use Rattle.lease_state.specs.State.{State}
use Rattle.lease_world.specs.judge.Caches.{IsShown}
use Rattle.lease_world.specs.judge.Seen.{SeenFile, SeenWrite, SeenWrites, SeenCache, SeenClient, Numbers, cache_in, write_by}
use Rattle.lease_world.specs.judge.Seen.{write_at, has_settled, accepted_as}

-- there is a message that was sent since it joined and not taken
abbrev pub can_take : SeenClient → Bool
can_take client = client.joined && not (is_empty client.sent)

abbrev pub took_from : SeenClient → List ℕ → SeenClient
took_from client [] = client
took_from client (place ∷ sent) = record client { sent = sent; taken = place; has_taken = true }

-- it takes the oldest message
abbrev pub after_taking : SeenClient → SeenClient
after_taking client = took_from client client.sent

abbrev pub TakesOne : SeenClient → SeenClient → Bool → Type 0
TakesOne old new has = (has ≡ can_take old) × (new ≡ (if has then after_taking old else old))

abbrev pub is_buffered_before : ℕ → ℕ → Option SeenWrite → Bool
is_buffered_before file place (Some write) = write.buffered && write.file == file && nat_lt write.place place
is_buffered_before file place None = false

abbrev pub is_accepted_write : Option SeenWrite → Bool
is_accepted_write (Some write) = write.accepted
is_accepted_write None = false

-- writes by their numbers, one of which has a new value
abbrev pub HasWrites : SeenWrites → SeenWrites → ℕ → Option SeenWrite → Type 0
HasWrites old new number write = (n : ℕ) → write_at n new ≡ (if n == number then write else write_at n old)

-- the same of a map
abbrev pub HasWritesBy : List (ℕ × SeenWrite) → List (ℕ × SeenWrite) → ℕ → Option SeenWrite → Type 0
HasWritesBy old new number write = (n : ℕ) → write_by n new ≡ (if n == number then write else write_by n old)

-- all but the writes stay
abbrev pub KeepsAllButWrites : SeenClient → SeenClient → Type 0
KeepsAllButWrites old new = new ≡ record old { writes = new.writes }

abbrev pub AcceptsIn : ℕ → ℕ → Patch → SeenWrites → SeenWrites → Type 0
AcceptsIn file number patch old new =
    HasWrites old new number (option_map (accepted_as file patch) (write_at number old))

abbrev pub Accepts : ℕ → ℕ → Patch → SeenClient → SeenClient → Type 0
Accepts file number patch old new = KeepsAllButWrites old new × AcceptsIn file number patch old.writes new.writes

-- ---- what is kept of a file of a client

abbrev pub HasCache : List SeenCache → List SeenCache → ℕ → SeenCache → Type 0
HasCache old new file cache = (n : ℕ) → cache_in new n ≡ (if n == file then cache else cache_in old n)

abbrev pub HasSameCaches : List SeenCache → List SeenCache → Type 0
HasSameCaches old new = (n : ℕ) → cache_in new n ≡ cache_in old n

abbrev pub with_write : ℕ → Patch → SeenCache → SeenCache
with_write number patch cache =
    record cache { fresh = cache.fresh ++ record { number = number; patch = patch } ∷ [] }

abbrev pub with_belief : State → SeenCache → SeenCache
with_belief state cache = record cache { belief = state }

-- a write that is settled already isn't kept with its file
abbrev pub WritesCache : Bool → ℕ → SeenWrite → List SeenCache → List SeenCache → Type 0
WritesCache true number write old new = HasSameCaches old new
WritesCache false number write old new =
    HasCache old new write.file (with_write number write.patch (cache_in old write.file))

abbrev pub Writes : ℕ → SeenWrite → SeenClient → SeenClient → Type 0
Writes number write old new = (new ≡ record old { writes = new.writes; caches = new.caches })
    × HasWrites old.writes new.writes number (Some write)
    × WritesCache (has_settled old number) number write old.caches new.caches

abbrev pub Settles : ℕ → SeenClient → SeenClient → Type 0
Settles number old new = (new ≡ record old { settled = new.settled })
    × ((n : ℕ) → has_settled new n ≡ (if n == number then true else has_settled old n))

abbrev pub Believes : ℕ → State → SeenClient → SeenClient → Type 0
Believes file state old new = (new ≡ record old { caches = new.caches })
    × HasCache old.caches new.caches file (with_belief state (cache_in old.caches file))

-- the cache of a file is brought up to the place, and shows these bytes or doesn't
abbrev pub SeesCache : ℕ → SeenFile → ℕ → Numbers → List ℕ → List SeenCache → List SeenCache → Bool → Type 0
SeesCache number file place settled bytes old new same = HasCache old new number (cache_in new number)
    × IsShown file place settled bytes (cache_in old number) (cache_in new number) same

abbrev pub Sees : ℕ → SeenFile → ℕ → List ℕ → SeenClient → SeenClient → Bool → Type 0
Sees number file place bytes old new same = (new ≡ record old { caches = new.caches })
    × SeesCache number file place old.settled bytes old.caches new.caches same

-- the sending place of the message that it took last since it joined
abbrev pub taken_of : SeenClient → Option ℕ
taken_of client = if client.has_taken then Some client.taken else None
