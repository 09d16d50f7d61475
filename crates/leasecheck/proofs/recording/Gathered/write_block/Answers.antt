use Rattle.lease_laws.proofs.Words.{Appends, List, ℕ, subst}
use Rattle.leasecheck.proofs.Recorded.{wrote_block}
use Rattle.leasecheck.proofs.recording.Gathered.write_block.Goals as goal

pub returns-clause-written : goal.returns-clause-written
returns-clause-written g c = λ first told has.
    let old = g.O.Write.contents c.args.out.now in
    let new = g.O.Write.contents c.put.new.out in
    wrote_block first old new c.args.self.now _ told has
    (subst (λ (t : List ℕ). Appends old new t) c.as_bytes.ensures.value c.in_ok-put.ensures.put) c.clear.ensures.bytes
