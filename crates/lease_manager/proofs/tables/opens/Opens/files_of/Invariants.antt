use Rattle.lease_laws.proofs.Words.{◌≡◌, find, map, take}
use Rattle.lease_manager.specs.Filed.{has_id}
use Rattle.lease_manager.specs.Looks.{file_found}
use Rattle.lease_manager.specs.Queues.{file_numbers}
use Rattle.lease_manager.proofs.tables.opens.Opens.files_of.Given as goal

abbrev pub invariant-loop-fid : goal.invariant-loop-fid
invariant-loop-fid l = file_numbers l.files.items
    ≡ map (λ fid. file_found (find (has_id fid.0) l.self)) (take l.fid-index l.ids)
