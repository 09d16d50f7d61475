-- Changes that wait, as C sees them.
use Rattle.std.specs.Prelude.{ℕ, List, [], Option, Some, None, replicate}
use Rattle.lease_manager.specs.declared.values.extent.Extent as code
use Rattle.lease_state.specs.declared.key.LeaseKey.{LeaseKey}
use Rattle.machines_c.specs.Values.{key_coded}
use Rattle.machines_c.specs.declared.manager.changing.ChangeFields.{ChangeFields}
use Rattle.machines_c.specs.declared.manager.managing.Managing.{Managing}
use Rattle.machines_c.specs.declared.values.MaybeKey.{MaybeKey}
use Rattle.waiting_changes.specs.declared.change.Change.{Change}

abbrev pub change_given : ℕ → ℕ → MaybeKey → ℕ → code.Extent → Change
change_given client tag key file extent = record {
  client = record { 0 = client };
  tag = record { 0 = tag };
  key = key_coded key;
  file = record { 0 = file };
  extent = extent;
}

abbrev pub extent_number : code.Extent → ℕ
extent_number code.TheVariants.Handles = 1
extent_number code.TheVariants.All = 2

abbrev pub key_bytes : Option LeaseKey → List ℕ
key_bytes None = replicate 16 0
key_bytes (Some key) = key.0

abbrev pub has_key : Option LeaseKey → ℕ
has_key None = 0
has_key (Some key) = 1

abbrev pub change_fields : Change → ChangeFields
change_fields one = record {
  file = one.file.0;
  client = one.client.0;
  tag = one.tag.0;
  key = key_bytes one.key;
  extent = extent_number one.extent;
  has_key = has_key one.key;
  reserved = replicate 11 0;
}

-- the changes that wait: none, where no manager is held
abbrev pub changes_of : Option Managing → List Change
changes_of None = []
changes_of (Some one) = one.changes
