use Rattle.lease_laws.proofs.Words.{◌++◌, ◌≡◌}
use Rattle.lease_manager.proofs.tables.sets.listed.Given as goal

abbrev pub invariant-loop-value : goal.invariant-loop-value
invariant-loop-value g l = l.list.items ++ l.value-iterator ≡ l.values.keys
