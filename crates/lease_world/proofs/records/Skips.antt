-- Facts that change nothing of what a record says of a file, or of a client.
use Rattle.lease_laws.proofs.Words.{◌==◌, ◌∷◌, ◌≡◌, Bool, Fact, List, ℕ, arith, believed, false, has_joined, has_strayed}
use Rattle.lease_laws.proofs.Words.{is_served, is_settled, is_started, sendings, start_of, takings}
use Rattle.lease_world.specs.judge.Told.{placed_changes, last_touch, write_of, pending}

-- the fact starts, opens or changes the file
abbrev pub touches : ℕ → Fact → Bool
touches file (Fact.Start other bytes) = other == file
touches file (Fact.Opened other client) = other == file
touches file (Fact.Changed other client number patch) = other == file
touches file _ = false

-- the fact is about the client
abbrev pub concerns : ℕ → Fact → Bool
concerns client (Fact.Joined other) = other == client
concerns client (Fact.Dropped other) = other == client
concerns client (Fact.Expired other file) = other == client
concerns client (Fact.Sent other) = other == client
concerns client (Fact.Took other) = other == client
concerns client (Fact.Changed file other number patch) = other == client
concerns client (Fact.Wrote other file number patch buffered) = other == client
concerns client (Fact.Settled other number outcome) = other == client
concerns client (Fact.Believes other file state) = other == client
concerns client (Fact.Strayed other) = other == client
concerns client _ = false

-- ---- files

pub started-skip : (file : ℕ) (fact : Fact) (past : List Fact) → touches file fact ≡ false
    → is_started file (fact ∷ past) ≡ is_started file past
unfolding is_started
started-skip file fact past e = grind arith

pub start-skip : (file : ℕ) (fact : Fact) (past : List Fact) → touches file fact ≡ false
    → start_of file (fact ∷ past) ≡ start_of file past
unfolding start_of
start-skip file fact past e = grind arith

pub changes-skip : (file : ℕ) (fact : Fact) (past : List Fact) → touches file fact ≡ false
    → placed_changes file (fact ∷ past) ≡ placed_changes file past
unfolding placed_changes
changes-skip file fact past e = grind arith

pub touch-skip : (client file : ℕ) (fact : Fact) (past : List Fact) → touches file fact ≡ false
    → last_touch client file (fact ∷ past) ≡ last_touch client file past
unfolding last_touch
touch-skip client file fact past e = grind arith

-- ---- clients

pub joined-skip : (client : ℕ) (fact : Fact) (past : List Fact) → concerns client fact ≡ false
    → has_joined client (fact ∷ past) ≡ has_joined client past
unfolding has_joined
joined-skip client fact past e = grind arith

pub served-skip : (client : ℕ) (fact : Fact) (past : List Fact) → concerns client fact ≡ false
    → is_served client (fact ∷ past) ≡ is_served client past
unfolding is_served
served-skip client fact past e = grind arith

pub strayed-skip : (client : ℕ) (fact : Fact) (past : List Fact) → concerns client fact ≡ false
    → has_strayed client (fact ∷ past) ≡ has_strayed client past
unfolding has_strayed
strayed-skip client fact past e = grind arith

pub sendings-skip : (client : ℕ) (fact : Fact) (past : List Fact) → concerns client fact ≡ false
    → sendings client (fact ∷ past) ≡ sendings client past
unfolding sendings
sendings-skip client fact past e = grind arith

pub takings-skip : (client : ℕ) (fact : Fact) (past : List Fact) → concerns client fact ≡ false
    → takings client (fact ∷ past) ≡ takings client past
unfolding takings
takings-skip client fact past e = grind arith

pub settled-skip : (client number : ℕ) (fact : Fact) (past : List Fact) → concerns client fact ≡ false
    → is_settled client number (fact ∷ past) ≡ is_settled client number past
unfolding is_settled
settled-skip client number fact past e = grind arith

pub write-skip : (client number : ℕ) (fact : Fact) (past : List Fact) → concerns client fact ≡ false
    → write_of client number (fact ∷ past) ≡ write_of client number past
unfolding write_of
write-skip client number fact past e = grind arith

pub believed-skip : (client file : ℕ) (fact : Fact) (past : List Fact) → concerns client fact ≡ false
    → believed client file (fact ∷ past) ≡ believed client file past
unfolding believed
believed-skip client file fact past e = grind arith

pub pending-skip : (client file : ℕ) (fact : Fact) (whole past : List Fact) → concerns client fact ≡ false
    → pending client file whole (fact ∷ past) ≡ pending client file whole past
unfolding pending
pending-skip client file fact whole past e = grind arith
