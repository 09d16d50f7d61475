-- The timers of breaks that run, by their numbers.
use Rattle.std.specs.Prelude.{◌≡◌, ◌+◌, ◌≤◌, ℕ, List, Option, Some, None, if◌then◌else◌}
use Rattle.std.specs.BTreeMap.{BTreeMap, get, is_at}
use Rattle.std.specs.Map.{lookup}
use Rattle.std.specs.Ordering.{nat_cmp}
use Rattle.lease_model.specs.values.Keys.{Key, key_eq}
use Rattle.lease_model.specs.values.Tables.{put}
use Rattle.lease_manager.specs.KeyOrder.{key_order}

-- how many have been started, and of those that run, by their numbers, the leases
pub record Timers : Type 0 where
  pub started : ℕ
  pub running : ℕ → Option Key

abbrev pub no_timers : Timers
no_timers = record { started = 0; running = λ number. None }

abbrev pub unless : Key → Option Key → Option Key
unless key None = None
unless key (Some other) = if key_eq key other then None else Some other

-- none runs for the lease
abbrev pub stopped : Key → Timers → Timers
stopped key timers = record timers { running = λ number. unless key (timers.running number) }

-- one more runs, for the lease, under the next number; one that ran for it before is stopped
abbrev pub started : Key → Timers → Timers
started key timers = record {
  started = timers.started + 1;
  running = put (stopped key timers).running (timers.started + 1) (Some key);
}

-- the one of the number has run out, or never ran
abbrev pub run_out : ℕ → Timers → Timers
run_out number timers = record timers { running = put timers.running number None }

-- ---- how they are kept

-- how many have been started, and the leases of those that run, each after its number
pub record Kept : Type 0 where
  pub started : ℕ
  pub entries : List (ℕ × Key)

abbrev pub timers_of : Kept → Timers
timers_of kept = record { started = kept.started; running = λ number. lookup (is_at (nat_cmp number)) kept.entries }

-- The number of a lease leads to its timer, if it runs, and each timer's lease back to its number.
pub record AreTimers (last : ℕ) (numbers : ℕ → Option Key) (keys : Key → Option ℕ) : Type 0 where
  pub back : (n : ℕ) (key : Key) → numbers n ≡ Some key → keys key ≡ Some n
  pub same : (n : ℕ) (key other : Key) → keys key ≡ Some n → numbers n ≡ Some other → other ≡ key
  pub bound : (n : ℕ) (key : Key) → keys key ≡ Some n → n ≤ last

abbrev pub AreKept : ℕ → BTreeMap ℕ Key → BTreeMap Key ℕ → Type 0
AreKept last by_number by_key = AreTimers last (get nat_cmp by_number) (get key_order by_key)
