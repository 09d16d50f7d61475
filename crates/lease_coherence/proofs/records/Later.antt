-- What a record says at a place it says at every later place too.
use Rattle.lease_laws.proofs.Words.{◌&&◌, ◌+◌, ◌==◌, ◌||◌, ◌∷◌, ◌≡◌, Bool, Fact, List, Note, Out, Patch, ℕ, [], fact_of, false}
use Rattle.lease_laws.proofs.Words.{has_joined, has_strayed, has_written, is_accepted, is_started, opened_count, refl}
use Rattle.lease_laws.proofs.Words.{same_patch, true, was_opened}
use Rattle.lease_laws.proofs.world.FileIds.{fact_told, told}

pub record IsLater (past : List Fact) (new : List Fact) : Type 0 where
  pub started : (file : ℕ) → is_started file past ≡ true → is_started file new ≡ true
  pub joined : (client : ℕ) → has_joined client past ≡ true → has_joined client new ≡ true
  pub opened : (place file client : ℕ) → was_opened place file client past ≡ true → was_opened place file client new ≡ true
  pub written : (client file number : ℕ) (patch : Patch) → has_written client file number patch past ≡ true
      → has_written client file number patch new ≡ true
  pub accepted : (client number : ℕ) → is_accepted client number past ≡ true → is_accepted client number new ≡ true
  pub strayed : (client : ℕ) → has_strayed client new ≡ false → has_strayed client past ≡ false

pub later_same : (past : List Fact) → IsLater past past
later_same past = record {
  started = λ file e. e;
  joined = λ client e. e;
  opened = λ place file client e. e;
  written = λ client file number patch e. e;
  accepted = λ client number e. e;
  strayed = λ client e. e;
}

pub later_then : (a b c : List Fact) → IsLater a b → IsLater b c → IsLater a c
later_then a b c h k = record {
  started = λ file e. k.started file (h.started file e);
  joined = λ client e. k.joined client (h.joined client e);
  opened = λ place file client e. k.opened place file client (h.opened place file client e);
  written = λ client file number patch e. k.written client file number patch (h.written client file number patch e);
  accepted = λ client number e. k.accepted client number (h.accepted client number e);
  strayed = λ client e. h.strayed client (k.strayed client e);
}

or_later : (a b : Bool) → b ≡ true → (a || b) ≡ true
or_later true b e = refl
or_later false b e = e

or_none : (a b : Bool) → (a || b) ≡ false → b ≡ false
or_none true b e = let c : ⊥ = cc in absurd c
or_none false b e = e

started_later : (file : ℕ) (fact : Fact) (past : List Fact) → is_started file past ≡ true → is_started file (fact ∷ past) ≡ true
unfolding is_started
started_later file (Fact.Start other bytes) past e = or_later (other == file) (is_started file past) e
started_later file (_) past e = e

joined_later : (client : ℕ) (fact : Fact) (past : List Fact) → has_joined client past ≡ true
    → has_joined client (fact ∷ past) ≡ true
unfolding has_joined
joined_later client (Fact.Joined other) past e = or_later (other == client) (has_joined client past) e
joined_later client (_) past e = e

opened_later : (place file client : ℕ) (fact : Fact) (past : List Fact) → was_opened place file client past ≡ true
    → was_opened place file client (fact ∷ past) ≡ true
unfolding was_opened
opened_later place file client (Fact.Opened of_file by) past e = or_later
    (place == opened_count past + 1 && (of_file == file && by == client)) (was_opened place file client past) e
opened_later place file client (_) past e = e

written_later : (client file number : ℕ) (patch : Patch) (fact : Fact) (past : List Fact)
    → has_written client file number patch past ≡ true → has_written client file number patch (fact ∷ past) ≡ true
unfolding has_written
written_later client file number patch (Fact.Wrote writer other used bytes buffered) past e = or_later
    (writer == client && other == file && used == number && same_patch bytes patch) (has_written client file number patch past) e
written_later client file number patch (_) past e = e

accepted_later : (client number : ℕ) (fact : Fact) (past : List Fact) → is_accepted client number past ≡ true
    → is_accepted client number (fact ∷ past) ≡ true
unfolding is_accepted
accepted_later client number (Fact.Changed file writer used patch) past e = or_later
    (writer == client && used == number && has_written client file number patch past) (is_accepted client number past) e
accepted_later client number (_) past e = e

strayed_before : (client : ℕ) (fact : Fact) (past : List Fact) → has_strayed client (fact ∷ past) ≡ false
    → has_strayed client past ≡ false
unfolding has_strayed
strayed_before client (Fact.Strayed other) past e = or_none (other == client) (has_strayed client past) e
strayed_before client (_) past e = e

pub later_fact : (past : List Fact) (fact : Fact) → IsLater past (fact ∷ past)
later_fact past fact = record {
  started = λ file e. started_later file fact past e;
  joined = λ client e. joined_later client fact past e;
  opened = λ place file client e. opened_later place file client fact past e;
  written = λ client file number patch e. written_later client file number patch fact past e;
  accepted = λ client number e. accepted_later client number fact past e;
  strayed = λ client e. strayed_before client fact past e;
}

pub later_two : (past : List Fact) (fact other : Fact) → IsLater past (other ∷ fact ∷ past)
later_two past fact other =
    later_then past (fact ∷ past) (other ∷ fact ∷ past) (later_fact past fact) (later_fact (fact ∷ past) other)

pub later_told : (past : List Fact) (outs : List Out) → IsLater past (told past outs)
later_told past [] = later_same past
later_told past (out ∷ outs) = later_then past (fact_told out ∷ past) (told (fact_told out ∷ past) outs)
    (later_fact past (fact_told out)) (later_told (fact_told out ∷ past) outs)

-- the past once notes were made
abbrev pub past_noted : ℕ → List Fact → List Note → List Fact
past_noted client past [] = past
past_noted client past (note ∷ notes) = past_noted client (fact_of client note ∷ past) notes

pub later_noted : (client : ℕ) (past : List Fact) (notes : List Note) → IsLater past (past_noted client past notes)
later_noted client past [] = later_same past
later_noted client past (note ∷ notes) =
    later_then past (fact_of client note ∷ past) (past_noted client (fact_of client note ∷ past) notes)
    (later_fact past (fact_of client note)) (later_noted client (fact_of client note ∷ past) notes)
