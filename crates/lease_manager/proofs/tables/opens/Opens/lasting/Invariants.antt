use Rattle.lease_laws.proofs.Words.{◌≡◌, FileId, filter, take}
use Rattle.lease_manager.specs.Parting.{is_lasting, is_so, outlives_by}
use Rattle.lease_manager.specs.Summaries.{lease_in}
use Rattle.lease_manager.proofs.tables.opens.Opens.lasting.Given as goal

abbrev pub invariant-loop-fid : goal.invariant-loop-fid
invariant-loop-fid l = l.ids.items ≡ filter (λ (fid : FileId). is_lasting l.last
    (is_so (outlives_by (lease_in l.leases)) l.self fid.0)) (take l.fid-index l.named)
