-- Opens of a client whose connection goes: those that end, and those that wait for it.
use Rattle.std.specs.Prelude.{◌≡◌, ℕ, Bool, true, false, not, Option, Some, None, List, map, filter, find, ◌&&◌, ◌==◌}
use Rattle.lease_model.specs.server.Calls.{is_lost_of, is_named, opens_parted, outlives_connection}
use Rattle.lease_model.specs.server.Naming.{key_under}
use Rattle.lease_model.specs.server.Progress.{begun, opens_dropped}
use Rattle.lease_model.specs.server.State.{Lease, Open, Server}
use Rattle.lease_model.specs.values.Keys.{Key}
use Rattle.lease_manager.specs.Closing.{lease_under, outlives_under}
use Rattle.lease_manager.specs.Filed.{has_id}
use Rattle.lease_manager.specs.LeftOpens.{ids_of, numbers}
use Rattle.lease_manager.specs.declared.tables.parting.Parted.{Parted}
use Rattle.lease_manager.specs.declared.values.number.Tag.{Tag}

-- the test on the open found of a FileId
abbrev pub found_by : (Open → Bool) → Option Open → Bool
found_by test None = false
found_by test (Some one) = test one

abbrev pub is_so : (Open → Bool) → List Open → ℕ → Bool
is_so test opens n = found_by test (find (has_id n) opens)

-- a connected open of the client
abbrev pub is_connected_of : ℕ → Open → Bool
is_connected_of client one = one.client == client && one.connected

-- one of those that it names
abbrev pub is_connected_named : ℕ → List ℕ → Open → Bool
is_connected_named client file_ids one = is_named client file_ids one && one.connected

-- it outlives its client's connection under these leases
abbrev pub outlives_by : (Key → Lease) → Open → Bool
outlives_by leases one = outlives_under (lease_under leases (key_under one.client one.lease_key)) one

-- of the opens that pass the test
abbrev pub is_kept_of : Server → (Open → Bool) → Open → Bool
is_kept_of server test one = test one && one.connected && outlives_connection server one

-- it outlives a connection, or doesn't
abbrev pub is_lasting : Bool → Bool → Bool
is_lasting true outlives = outlives
is_lasting false outlives = not outlives

-- Of the connected opens that pass the test those that outlive a connection are kept, the others are closed.
pub record IsParted (test : Open → Bool) (before : Server) (parted : Parted) (after : Server) : Type 0 where
  pub server : after ≡ (opens_parted test (opens_dropped (is_lost_of before test) (begun before))).server
  pub ended : numbers parted.ended.items ≡ ids_of (filter (is_lost_of before test) before.opens)
  pub left : numbers parted.left.items ≡ ids_of (filter (is_kept_of before test) before.opens)

abbrev pub tag_numbers : List Tag → List ℕ
tag_numbers tags = map (λ tag. tag.0) tags
