use Rattle.lease_laws.proofs.Words.{◌∙◌, sym}
use Rattle.break_timers.proofs.Keeping.{less_kept, stops_none, stops_one}
use Rattle.break_timers.proofs.timers.BreakTimers.stop.Goals as goal

pub invariant_of-self : goal.invariant_of-self
invariant_of-self c = less_kept c.self.inside.started c.self.inside.by_number c.remove-in-Some.new.self c.self.inside.by_key
    c.remove.new.self c.in-Some.number c.args.key c.self.invariant (sym c.remove.ensures.value ∙ c.in-Some.is)
    c.remove-in-Some.ensures.updates c.remove.ensures.updates

pub returns-in-Some : goal.returns-in-Some
returns-in-Some c = rw (← c.self.view_is) (stops_one c.self.inside.started c.self.inside.by_number
    c.remove-in-Some.new.self c.self.inside.by_key c.in-Some.number c.args.key c.self.invariant
    (sym c.remove.ensures.value ∙ c.in-Some.is) c.remove-in-Some.ensures.updates)

pub returns-in_default : goal.returns-in_default
returns-in_default c = rw (← c.self.view_is) (stops_none c.self.inside.started c.self.inside.by_number c.self.inside.by_key
    c.args.key c.self.invariant (λ n at. c.in_default.not-Some n (c.remove.ensures.value ∙ at)))
