-- The file as it stood after some of its changes, from where it is brought to later places.
use Rattle.std.specs.Prelude.{◌≡◌, ◌⊎◌, ◌≤◌, ◌+◌, ℕ, max, List, [], length, take, unwrap_or, All}
use Rattle.lease_state.specs.Content.{patch, patches}
use Rattle.lease_world.specs.judge.Before.{before, patches_of}
use Rattle.lease_world.specs.judge.Seen.{Change, Snapshot, SeenFile}

-- a snapshot, none of whose changes stands after `until`
pub record Mark : Type 0 where
  pub snapshot : Snapshot
  pub until : ℕ

-- a file that began with these bytes, after as many of the changes as were put onto it
abbrev pub IsAfter : List ℕ → List Change → Snapshot → Type 0
IsAfter first changes snapshot = snapshot.bytes ≡ patches first (patches_of (take snapshot.applied changes))

pub record IsMark (first : List ℕ) (changes : List Change) (mark : Mark) : Type 0 where
  pub after : IsAfter first changes mark.snapshot
  pub inside : mark.snapshot.applied ≤ length changes
  pub until : All (λ change. change.place ≤ mark.until) (take mark.snapshot.applied changes)

-- all of its changes stand before the place
abbrev pub IsEarlier : List ℕ → List Change → ℕ → Snapshot → Type 0
IsEarlier first changes place snapshot =
    IsAfter first changes snapshot × (snapshot.applied ≤ length (before place changes))

-- this snapshot, or another of the file that is earlier than the place
abbrev pub IsNearer : SeenFile → ℕ → Snapshot → Snapshot → Type 0
IsNearer file place base nearer =
    (nearer ≡ base) ⊎ IsEarlier (unwrap_or file.start []) file.changes place nearer

-- with one change more
abbrev pub marked_with : Change → Mark → Mark
marked_with change mark = record {
  snapshot = record { bytes = patch mark.snapshot.bytes change.patch; applied = mark.snapshot.applied + 1 };
  until = max mark.until change.place;
}
