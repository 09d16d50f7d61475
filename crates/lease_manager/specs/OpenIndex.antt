-- The FileIds of opens, as their manager asks for them.
use Rattle.std.specs.Prelude.{◌≡◌, ◌<◌, Bool, List, filter}
use Rattle.std.specs.declared.cmp.Ordering.{Ordering}
use Rattle.std.specs.Ordering.{nat_cmp, on, then_cmp}
use Rattle.lease_laws.specs.server.Laws.{Among}
use Rattle.lease_model.specs.server.State.{Open, has_key}
use Rattle.lease_manager.specs.LeftOpens.{ids_of, numbers}
use Rattle.lease_manager.specs.KeyOrder.{key_order}
use Rattle.lease_manager.specs.Looks.{is_left_by}
use Rattle.lease_manager.specs.Parting.{is_connected_of}
use Rattle.lease_manager.specs.Multimaps.{listed_at}
use Rattle.lease_manager.specs.Sets.{values_at}
use Rattle.lease_manager.specs.declared.tables.open_index.OpenIndex.{OpenIndex}
use Rattle.lease_manager.specs.declared.values.number.ClientNo.{ClientNo}
use Rattle.lease_manager.specs.declared.values.owner.Owner.{Owner}
use Rattle.lease_state.specs.declared.number.FileId.{FileId}

abbrev pub client_order : ClientNo → ClientNo → Ordering
client_order = on (λ client. client.0) nat_cmp

-- by the clients' numbers, then by the files'
abbrev pub owner_order : Owner → Owner → Ordering
owner_order = then_cmp (on (λ owner. owner.client.0) nat_cmp) (on (λ owner. owner.file.0) nat_cmp)

abbrev pub is_connected : ClientNo → Open → Bool
is_connected client = is_connected_of client.0

abbrev pub is_left : Owner → Open → Bool
is_left owner = is_left_by owner.client.0 owner.file.0

-- the FileIds of a key are those of the opens that pass its test
abbrev pub AreIndexed : {K : Type 0} → (K → Open → Bool) → (K → List FileId) → List Open → Type 0
AreIndexed {K} test ids opens = (key : K) → numbers (ids key) ≡ ids_of (filter (test key) opens)

-- The index has the FileIds of these opens, and no others.
pub record IsIndexOf (opens : List Open) (index : OpenIndex) : Type 0 where
  pub connected : AreIndexed is_connected (values_at client_order index.connected) opens
  pub left : AreIndexed is_left (values_at owner_order index.left) opens
  pub leased : AreIndexed has_key (listed_at key_order index.leased) opens

-- no other has a FileId as high
abbrev pub IsLast : Open → List Open → Type 0
IsLast one opens = (other : Open) → Among other opens → other.file_id < one.file_id
