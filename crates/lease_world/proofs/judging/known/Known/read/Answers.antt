use Rattle.lease_laws.proofs.Words.{false, rules, true}
use Rattle.lease_world.proofs.records.Reads.{read_told}
use Rattle.lease_world.proofs.judging.known.Known.read.Goals as goal
use Rattle.lease_world.proofs.judging.known.Known.read.Goals.{then-branch, else-branch}

pub returns : goal.returns
returns c = elim c.if-branch.branch [
  | then-branch w ↦ rw w.result-is (read_told c.args.place c.args.client.0 c.args.file.0 c.in-Some.taken c.args.bytes.now
      c.args.self.now _ true (search rules) (search rules) (search rules) (search rules) (search rules) (search rules)
      (search rules))
  | else-branch w ↦ rw w.result-is (read_told c.args.place c.args.client.0 c.args.file.0 c.in-Some.taken c.args.bytes.now
      c.args.self.now _ false (search rules) (search rules) (search rules) (search rules) (search rules) (search rules)
      (search rules))
]
