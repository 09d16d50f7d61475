-- How what is kept of a client and a file is brought up to a place.
use Rattle.std.specs.Prelude.{◌≡◌, ℕ, ◌+◌, Bool, Option, Some, List, [], ◌++◌, unwrap_or, length, drop, filter, MatchBool}
use Rattle.lease_state.specs.Content.{patches}
use Rattle.lease_world.specs.judge.Before.{before, patches_of}
use Rattle.lease_world.specs.judge.Covers.{layers_at, stack_in, IsUncovered, EndsCovered, Shows}
use Rattle.lease_world.specs.judge.Marks.{IsNearer}
use Rattle.lease_world.specs.judge.Seen.{Change, Numbers, Snapshot, SeenFile, SeenCache, is_open}

-- ---- the file

-- the file with the changes that follow, up to the place
abbrev pub moved : List Change → ℕ → Snapshot → Snapshot
moved changes place base = record {
  bytes = patches base.bytes (patches_of (before place (drop base.applied changes)));
  applied = base.applied + length (before place (drop base.applied changes));
}

abbrev pub first_of : SeenFile → Snapshot
first_of file = record { bytes = unwrap_or file.start []; applied = 0 }

-- The file at the place: brought there from where it is kept, or from another snapshot of it that is earlier than the place.
abbrev pub IsBasedAt : SeenFile → ℕ → Option Snapshot → Snapshot → Type 0
IsBasedAt file place kept base = (nearer : Snapshot) × IsNearer file place (unwrap_or kept (first_of file)) nearer
    × (base ≡ moved file.changes place nearer)

-- ---- the writes over it

-- The fresh writes that aren't settled cover the file, on top of the earlier ones; settled writes that came to lie on top are
-- gone.
pub record IsCovered (settled : Numbers) (old new : SeenCache) : Type 0 where
  pub rest : new ≡ record old { fresh = []; covers = new.covers }
  pub uncovered : (position : ℕ) → IsUncovered (is_open settled)
      (filter (is_open settled) (layers_at position old.fresh) ++ stack_in old.covers position) (stack_in new.covers position)
  pub ends : EndsCovered new.covers

-- ---- a read

-- The writes cover the file, which stands at the place; and the bytes are those that are seen, or not.
pub record IsShown (file : SeenFile) (place : ℕ) (settled : Numbers) (bytes : List ℕ) (old new : SeenCache) (same : Bool)
    : Type 0 where
  pub base : Snapshot
  pub covered : IsCovered settled (record old { base = new.base }) new
  pub kept : new.base ≡ Some base
  pub based : IsBasedAt file place old.base base
  pub shown : MatchBool same (Shows base.bytes new.covers bytes) (Shows base.bytes new.covers bytes → ⊥)
