use Rattle.lease_laws.proofs.Words.{◌∙◌, arith, sym}
use Rattle.lease_world.proofs.Numbered.{write-put, write-push}
use Rattle.lease_world.proofs.judging.writes.WritesSeen.insert.Goals as goal

pub returns-then-is_first : goal.returns-then-is_first
returns-then-is_first c = λ n.
    let within = sym c.is_first.ensures ∙ c.if-is_first.true in
    rw (← c.self.view_is) (write-put c.self.inside.first.items c.self.inside.rest.entries c.args.number c.args.write
    (rw (← c.self.view_is) at within) n)

pub returns-in_ok-push : goal.returns-in_ok-push
returns-in_ok-push c = λ n. rw (← c.self.view_is, c.in_ok-push.ensures.items)
    (write-push c.self.inside.first.items c.self.inside.rest.entries c.args.number c.args.write (omega arith) n)
