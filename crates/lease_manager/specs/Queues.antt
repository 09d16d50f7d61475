-- What waits on each file, as the code keeps it.
use Rattle.std.specs.Prelude.{ℕ, Bool, ◌&&◌, Option, Some, None, List, [], ◌∷◌, map, nat_le}
use Rattle.std.specs.BTreeMap.{get}
use Rattle.lease_model.specs.values.Lists.{without}
use Rattle.lease_model.specs.values.Tables.{put}
use Rattle.manager_model.specs.Handling.{Tagged}
use Rattle.lease_manager.specs.Summaries.{file_order}
use Rattle.lease_manager.specs.Table.{Queue}
use Rattle.lease_manager.specs.declared.values.number.FileNo.{FileNo}
use Rattle.lease_manager.specs.declared.tables.queues.Queues.{Queues}

abbrev pub waiting_or_none : Option (List Tagged) → List Tagged
waiting_or_none None = []
waiting_or_none (Some queue) = queue

-- what waits on a file
abbrev pub queue_in : Queues → ℕ → List Tagged
queue_in queues file = waiting_or_none (get file_order queues.by_file (record { 0 = file }))

-- the queues of the files where something waits
abbrev pub filed : Queues → List Queue
filed queues = map (λ entry. record { file = entry.0.0; waiting = entry.1 }) queues.by_file.entries

-- the number is a file's, where this one is the last
abbrev pub is_file : ℕ → ℕ → Bool
is_file last file = nat_le 1 file && nat_le file last

abbrev pub file_numbers : List FileNo → List ℕ
file_numbers files = map (λ file. file.0) files

-- the queues without the requests on these files that pass the test
unfoldable pub all_without : (Tagged → Bool) → List ℕ → (ℕ → List Tagged) → ℕ → List Tagged
all_without test [] queues = queues
all_without test (file ∷ files) queues = all_without test files (put queues file (without test (queues file)))
