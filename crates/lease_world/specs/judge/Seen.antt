-- What a judge keeps, as plain data. Places in a record count facts from 1; 0 is no place.
use Rattle.std.specs.Prelude.{ℕ, ◌-◌, Bool, true, false, not, Option, None, List, [], if◌then◌else◌, ◌==◌, ◌&&◌, ◌||◌, nat_lt}
use Rattle.std.specs.Prelude.{nat_le, length, get_or, unwrap_or, slice_get}
use Rattle.std.specs.List.{list_any}
use Rattle.std.specs.BTreeMap.{is_at}
use Rattle.std.specs.Map.{lookup}
use Rattle.std.specs.Ordering.{nat_cmp}
use Rattle.lease_state.specs.State.{State, nothing_cached}
use Rattle.lease_state.specs.declared.patch.Patch.{Patch}
use Rattle.lease_model.specs.values.LeaseStates.{holds_any}
use Rattle.lease_world.specs.declared.judging.covers.Layer.{Layer}
use Rattle.lease_model.specs.values.Patches.{same_patch}

-- a change of a file
pub record Change : Type 0 where
  pub place : ℕ
  pub patch : Patch

-- who opened or changed a file last, and where; and where another client than that one did so last
pub record Touches : Type 0 where
  pub client : ℕ
  pub place : ℕ
  pub by_others : ℕ

-- the bytes with which a file was started, its changes in order, and its touches
pub record SeenFile : Type 0 where
  pub start : Option (List ℕ)
  pub changes : List Change
  pub touches : Touches

-- a write that was given to a client, and whether it was accepted since
pub record SeenWrite : Type 0 where
  pub file : ℕ
  pub place : ℕ
  pub buffered : Bool
  pub patch : Patch
  pub accepted : Bool

-- the writes of a client by their numbers: those whose numbers came one after another, from 1 on, and the rest
pub record SeenWrites : Type 0 where
  pub first : List SeenWrite
  pub rest : List (ℕ × SeenWrite)

-- a set of numbers: whether each number from 0 on is in it, and the rest
pub record Numbers : Type 0 where
  pub first : List Bool
  pub rest : List ℕ

-- a write that may be unanswered
pub record Waiting : Type 0 where
  pub number : ℕ
  pub patch : Patch

-- bytes, with how many patches were put onto them
pub record Snapshot : Type 0 where
  pub bytes : List ℕ
  pub applied : ℕ

-- What is kept of a client and a file: the belief; the writes since a read was looked at last; by the positions of the file the
-- earlier writes that cover them, the last one first, without some that are settled; and the file at the sending place of a
-- message that the client took.
pub record SeenCache : Type 0 where
  pub belief : State
  pub fresh : List Waiting
  pub covers : List (List Layer)
  pub base : Option Snapshot

-- What is kept of a client. `sent` are the places of the messages that were sent since it joined and not taken, `taken` is
-- that of the last one taken, and `has_taken` tells whether it took one since it joined.
pub record SeenClient : Type 0 where
  pub joined : Bool
  pub served : Bool
  pub strayed : Bool
  pub sent : List ℕ
  pub taken : ℕ
  pub has_taken : Bool
  pub writes : SeenWrites
  pub settled : Numbers
  pub caches : List SeenCache

-- How many good clients believe that they may cache something of a file, and how many of these that they may cache writes.
pub record Holders : Type 0 where
  pub any : ℕ
  pub writing : ℕ

-- all that a judge keeps of the facts that it was given
pub record KeptFacts : Type 0 where
  pub files : List SeenFile
  pub clients : List SeenClient
  pub holders : List Holders

-- ---- what nothing is known of

abbrev pub untouched : Touches
untouched = record { client = 0; place = 0; by_others = 0 }

abbrev pub unseen_file : SeenFile
unseen_file = record { start = None; changes = []; touches = untouched }

abbrev pub unseen_cache : SeenCache
unseen_cache = record { belief = nothing_cached; fresh = []; covers = []; base = None }

abbrev pub no_writes : SeenWrites
no_writes = record { first = []; rest = [] }

abbrev pub no_numbers : Numbers
no_numbers = record { first = []; rest = [] }

abbrev pub unseen_client : SeenClient
unseen_client = record {
  joined = false;
  served = false;
  strayed = false;
  sent = [];
  taken = 0;
  has_taken = false;
  writes = no_writes;
  settled = no_numbers;
  caches = [];
}

abbrev pub unheld : Holders
unheld = record { any = 0; writing = 0 }

-- ---- what is in the place of a number

abbrev pub file_in : List SeenFile → ℕ → SeenFile
file_in files n = unwrap_or (slice_get files n) unseen_file

abbrev pub client_in : List SeenClient → ℕ → SeenClient
client_in clients n = unwrap_or (slice_get clients n) unseen_client

abbrev pub cache_in : List SeenCache → ℕ → SeenCache
cache_in caches n = unwrap_or (slice_get caches n) unseen_cache

abbrev pub holders_in : List Holders → ℕ → Holders
holders_in holders n = unwrap_or (slice_get holders n) unheld

-- ---- what is asked of it

-- where another client than this one opened or changed the file last
abbrev pub touched_by_others : ℕ → Touches → ℕ
touched_by_others client touches = if client == touches.client then touches.by_others else touches.place

abbrev pub is_good_client : SeenClient → Bool
is_good_client client = not client.strayed && client.served

-- the two may not be believed of one file by two clients
abbrev pub is_conflict : State → State → Bool
is_conflict one other = (if one.write then holds_any other else other.write && holds_any one)

-- the write of this number in a map
abbrev pub write_by : ℕ → List (ℕ × SeenWrite) → Option SeenWrite
write_by number writes = lookup (is_at (nat_cmp number)) writes

abbrev pub is_first : ℕ → SeenWrites → Bool
is_first number writes = nat_lt 0 number && nat_le number (length writes.first)

unfoldable pub write_at : ℕ → SeenWrites → Option SeenWrite
write_at number writes =
    if is_first number writes then slice_get writes.first (number - 1) else write_by number writes.rest

abbrev pub write_in : SeenClient → ℕ → Option SeenWrite
write_in client number = write_at number client.writes

-- the number is in a set
abbrev pub is_by : ℕ → List ℕ → Bool
is_by number numbers = list_any (is_at (nat_cmp number)) numbers

unfoldable pub is_among : ℕ → Numbers → Bool
is_among number numbers = get_or numbers.first number false || is_by number numbers.rest

-- a write that isn't settled
abbrev pub is_open : Numbers → Layer → Bool
is_open settled layer = not (is_among layer.number settled)

abbrev pub has_settled : SeenClient → ℕ → Bool
has_settled client number = is_among number client.settled

-- ---- how facts change it

abbrev pub touched : Touches → ℕ → ℕ → Touches
touched touches client place =
    if client == touches.client then record touches { place = place }
    else record { client = client; place = place; by_others = touches.place }

abbrev pub joined : SeenClient → SeenClient
joined client = record client { joined = true; served = true; sent = []; has_taken = false }

-- a write is accepted where its file and its patch are changed
abbrev pub accepted_as : ℕ → Patch → SeenWrite → SeenWrite
accepted_as file patch write =
    if write.file == file && same_patch write.patch patch then record write { accepted = true } else write
