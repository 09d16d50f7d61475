-- The keys whose break timer ran out since their client joined, as the code keeps them.
use Rattle.std.specs.Prelude.{List, map}
use Rattle.lease_manager.specs.Table.{Expired}
use Rattle.lease_manager.specs.declared.tables.sets.Sets.{Sets}
use Rattle.lease_manager.specs.declared.values.number.ClientNo.{ClientNo}
use Rattle.lease_state.specs.declared.key.LeaseKey.{LeaseKey}

abbrev pub ran_out : Sets ClientNo LeaseKey → List Expired
ran_out sets = map (λ entry. record { client = entry.0.0; keys = map (λ key. key.0) entry.1.keys }) sets.by_key.entries
