use Rattle.lease_laws.proofs.Words.{arith}
use Rattle.lease_world.proofs.records.Covered.{shows_rest}
use Rattle.lease_world.proofs.judging.covers.Covers.shows.Goals as goal

pub returns : goal.returns
returns c = shows_rest c.args.base.now c.args.bytes.now c.args.self.now c.len-covered.result c.min.result c.eq.result
    (let m = c.max.ensures in let e = c.len-covered.ensures in omega (arith, m, e, c.if-bytes-max.false))
    c.if-not-shows_covered.ensures c.len-covered.ensures c.min.ensures c.eq.ensures
