-- How what is kept of the holders of files changes, and what is asked of it. A holder of a file is a good client that
-- believes that it may cache something of it.
use Rattle.std.specs.Prelude.{◌≡◌, ℕ, ◌+◌, ◌-◌, Bool, true, false, List, if◌then◌else◌, ◌==◌, ◌&&◌, nat_lt, min, MatchBool}
use Rattle.lease_state.specs.State.{State}
use Rattle.lease_model.specs.values.LeaseStates.{holds_any}
use Rattle.lease_world.specs.judge.Seen.{SeenCache, SeenClient, Holders, cache_in, holders_in, is_good_client}

-- a count of 16 bits that has come to its end stays there
abbrev pub one_more : ℕ → ℕ
one_more count = min (count + 1) 65535

-- with a client more, which believes this
abbrev pub with_holder : State → Holders → Holders
with_holder state holders =
    if holds_any state then record {
      any = one_more holders.any;
      writing = if state.write then one_more holders.writing else holders.writing;
    }
    else holders

-- without a client that believes this
abbrev pub without_holder : State → Holders → Holders
without_holder state holders =
    if holds_any state then record {
      any = holders.any - 1;
      writing = if state.write then holders.writing - 1 else holders.writing;
    }
    else holders

-- a client that believes this conflicts with one of the holders
abbrev pub conflicts_with : State → Holders → Bool
conflicts_with state holders =
    if state.write then nat_lt 0 holders.any else holds_any state && nat_lt 0 holders.writing

-- a file has these holders, and the others theirs
abbrev pub HasHolders : List Holders → List Holders → ℕ → Holders → Type 0
HasHolders old new file holders = (n : ℕ) → holders_in new n ≡ (if n == file then holders else holders_in old n)

abbrev pub HasSameHolders : List Holders → List Holders → Type 0
HasSameHolders old new = (n : ℕ) → holders_in new n ≡ holders_in old n

-- ---- a client with beliefs of many files

-- it conflicts with a holder of a file
abbrev pub HasConflict : List SeenCache → List Holders → Type 0
HasConflict caches holders = (file : ℕ) × (conflicts_with (cache_in caches file).belief (holders_in holders file) ≡ true)

abbrev pub HasNoConflict : List SeenCache → List Holders → Type 0
HasNoConflict caches holders =
    (file : ℕ) → conflicts_with (cache_in caches file).belief (holders_in holders file) ≡ false

-- it is a holder more
abbrev pub HasEntered : List SeenCache → List Holders → List Holders → Type 0
HasEntered caches old new =
    (file : ℕ) → holders_in new file ≡ with_holder (cache_in caches file).belief (holders_in old file)

-- it is a holder less
abbrev pub HasLeft : List SeenCache → List Holders → List Holders → Type 0
HasLeft caches old new =
    (file : ℕ) → holders_in new file ≡ without_holder (cache_in caches file).belief (holders_in old file)

-- ---- what a fact changes

-- a client that becomes good by joining
abbrev pub is_newcomer : SeenClient → SeenClient → Bool
is_newcomer old new = if is_good_client old then false else is_good_client new

-- a client is good no more
abbrev pub Leaves : SeenClient → List Holders → List Holders → Type 0
Leaves client old new = MatchBool (is_good_client client) (HasLeft client.caches old new) (new ≡ old)

-- its holders once the client believes this of the file
abbrev pub believed_by : SeenClient → ℕ → State → List Holders → Holders
believed_by client file state holders =
    with_holder state (without_holder (cache_in client.caches file).belief (holders_in holders file))

-- a client, if it is good, believes this of the file
abbrev pub Moves : SeenClient → ℕ → State → List Holders → List Holders → Type 0
Moves client file state old new =
    MatchBool (is_good_client client) (HasHolders old new file (believed_by client file state old)) (new ≡ old)
