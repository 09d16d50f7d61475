use Rattle.lease_laws.proofs.Words.{◌≡◌, arith, false, nat_lt, nat_tests}
use Rattle.lease_manager.proofs.sums.Hindering.{breaking_within, others_marked}
use Rattle.lease_manager.proofs.tables.file_summary.FileSummary.are_handlers_breaking.Goals as goal

pub returns : goal.returns
returns c = λ file opens leases s yes key other has.
    let few : nat_lt c.own_remaining.result c.saturating_sub-unbroken.result ≡ false = grind (arith, nat_tests, yes) in
    others_marked c.args.own c.args.self.now.handlers c.args.self.now.breaking
    (breaking_within file opens leases c.args.self.now s) c.len.ensures.ordered c.len-2.ensures.ordered
    (rw (c.own_remaining.ensures, c.saturating_sub-unbroken.ensures, c.len.ensures.len, c.len-2.ensures.len) at few) key other has
