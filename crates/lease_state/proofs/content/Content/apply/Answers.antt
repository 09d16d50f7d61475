use Rattle.std.proofs.Common.{◌≤◌, ap, arith, length}
use Rattle.lease_state.specs.Content.{end_of}
use Rattle.lease_state.specs.declared.content.TheConstants.{FILE_LIMIT}
use Rattle.lease_state.proofs.PatchLemmas.{length-patch-le}
use Rattle.lease_state.proofs.content.Content.apply.Goals as goal
use Rattle.lease_state.proofs.content.Content.apply.Goals.{in-Ok, in-Err}

pub invariant_of-self-2 : goal.invariant_of-self-2
invariant_of-self-2 c =
    let held : length c.self.inside.bytes.items ≤ FILE_LIMIT = omega (arith, c.self.inside.bytes.ok.0, c.self.invariant) in
    let fits : end_of c.args.change.now ≤ FILE_LIMIT = search arith in
    elim c.match-apply.branch [
      | in-Ok w ↦
          let long = length-patch-le c.self.inside.bytes.items c.args.change.now FILE_LIMIT held fits in
          omega (arith, long, ap length w.in-Ok.ensures.patched, c.apply.new.bytes.ok.0)
      | in-Err w ↦ omega (arith, held, ap length w.in-Err.ensures.err, c.apply.new.bytes.ok.0)
    ]
