use Rattle.lease_laws.proofs.Words.{◌≡◌, map, take}
use Rattle.machines_c.proofs.manager.leaving.file_ids_of.Given as goal

abbrev pub invariant-loop-number : goal.invariant-loop-number
invariant-loop-number l = l.ids.items ≡ map (λ n. record { 0 = n }) (take l.number-index l.given)
