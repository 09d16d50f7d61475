use Rattle.lease_laws.proofs.Words.{◌∙◌, sym}
use Rattle.lease_world.specs.judge.Seen.{accepted_as}
use Rattle.lease_world.proofs.Numbered.{write-change}
use Rattle.lease_world.proofs.judging.writes.WritesSeen.accept.Goals as goal

pub returns-then-is_first : goal.returns-then-is_first
returns-then-is_first c = λ n.
    let within = sym c.is_first.ensures ∙ c.if-is_first.true in
    rw (← c.self.view_is, c.accept.ensures) (write-change c.self.inside.first.items c.self.inside.rest.entries c.args.number
    c.index_mut-write.result.now (accepted_as c.args.file.0 c.args.patch.now) (rw (← c.self.view_is) at within)
    c.index_mut-write.ensures.value n)
