use Rattle.lease_laws.proofs.Words.{◌+◌, ◌-◌, vec_len}
use Rattle.lease_reasons.specs.Beliefs.{HasSameRows}
use Rattle.lease_reasons.proofs.last_beliefs.reach_file.Given as goal

abbrev pub invariant-loop-file : goal.invariant-loop-file
invariant-loop-file l = HasSameRows l.fn.rows.items l.rows.items

abbrev pub decreases-loop-file : goal.decreases-loop-file
decreases-loop-file l = l.file.0 + 1 - vec_len l.rows
