-- What is known of the file that a fact is about.
use Rattle.lease_laws.proofs.Words.{◌++◌, ◌+◌, ◌∷◌, ◌≡◌, Fact, List, Patch, Some, ℕ, [], arith}
use Rattle.lease_laws.proofs.Words.{is_started, length, start_of}
use Rattle.lease_world.specs.judge.Knows.{KnowsFile}
use Rattle.lease_world.specs.judge.Seen.{SeenFile, file_in, touched}
use Rattle.lease_world.specs.judge.Tables.{HasFile, HasSameFiles}
use Rattle.lease_world.specs.judge.Told.{placed_changes, last_touch}

-- a file that is lent, and is as it was afterwards
pub put_back : (old new : List SeenFile) (file : ℕ) → HasFile old new file (file_in old file) → HasSameFiles old new
put_back old new file has n = let e = has n in grind arith

pub file_starts : (file : ℕ) (bytes : List ℕ) (seen : SeenFile) (past : List Fact) → KnowsFile file seen past
    → KnowsFile file (record seen { start = Some bytes }) (Fact.Start file bytes ∷ past)
unfolding is_started start_of placed_changes last_touch
file_starts file bytes seen past k = grind arith

pub file_opens : (file client place : ℕ) (seen : SeenFile) (past : List Fact) → place ≡ length past + 1 → KnowsFile file seen past
    → KnowsFile file (record seen { touches = touched seen.touches client place }) (Fact.Opened file client ∷ past)
unfolding is_started start_of placed_changes last_touch
file_opens file client place seen past at k = grind arith

pub file_changes : (file client number place : ℕ) (patch : Patch) (seen : SeenFile) (past : List Fact) → place ≡ length past + 1
    → KnowsFile file seen past → KnowsFile file (record seen {
      changes = seen.changes ++ record { place = place; patch = patch } ∷ [];
      touches = touched seen.touches client place;
    }) (Fact.Changed file client number patch ∷ past)
unfolding is_started start_of placed_changes last_touch
file_changes file client number place patch seen past at k = grind arith
