use Rattle.lease_laws.proofs.Words.{◌+◌, ◌∙◌, ◌≡◌, ap, rules}
use Rattle.break_timers.specs.Timers.{timers_of}
use Rattle.break_timers.proofs.Keeping.{known_kept, more_kept, starts}
use Rattle.break_timers.proofs.timers.BreakTimers.start.Goals as goal

pub invariant_of-self-in_err-insert-2 : goal.invariant_of-self-in_err-insert-2
invariant_of-self-in_err-insert-2 c =
    let next : c.in-Some.number ≡ c.self.inside.started + 1 = search rules in
    rw c.in_err-insert-2.ensures.err (known_kept (timers_of c.args.self.now) c.self.inside.started c.in-Some.number
    c.self.inside.by_number c.self.inside.by_key c.insert.new.self c.args.key c.self.invariant next
    (ap timers_of c.self.view_is ∙ c.stop.ensures) c.in_ok-insert.ensures.updates)

pub invariant_of-self-2 : goal.invariant_of-self-2
invariant_of-self-2 c =
    let next : c.in-Some.number ≡ c.self.inside.started + 1 = search rules in
    more_kept (timers_of c.args.self.now) c.self.inside.started c.in-Some.number c.self.inside.by_number
    c.insert-2.new.self c.self.inside.by_key c.insert.new.self c.args.key c.self.invariant next
    (ap timers_of c.self.view_is ∙ c.stop.ensures) c.in_ok-insert-2.ensures.updates c.in_ok-insert.ensures.updates

pub returns-clause-timers : goal.returns-clause-timers
returns-clause-timers c =
    let next : c.in-Some.number ≡ c.self.inside.started + 1 = search rules in
    starts (timers_of c.args.self.now) c.self.inside.started c.in-Some.number c.self.inside.by_number
    c.insert-2.new.self c.args.key next (ap timers_of c.self.view_is ∙ c.stop.ensures) c.in_ok-insert-2.ensures.updates
