use Rattle.lease_manager.proofs.sums.Hindering.{others_hindering}
use Rattle.lease_manager.proofs.tables.file_summary.FileSummary.is_hindered.Goals as goal

pub returns : goal.returns
returns c = λ file opens leases s.
    rw (c.own_hindering.ensures, c.saturating_sub-hindering.ensures, c.len.ensures.len, c.len-2.ensures.len)
    (others_hindering c.args.own file opens leases c.args.self.now s c.len.ensures.ordered c.len-2.ensures.ordered)
