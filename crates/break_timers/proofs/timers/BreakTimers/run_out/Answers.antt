use Rattle.lease_laws.proofs.Words.{◌∙◌, sym}
use Rattle.break_timers.proofs.Keeping.{less_kept, ran_out}
use Rattle.break_timers.proofs.timers.BreakTimers.run_out.Goals as goal

pub returns-in_err-key-clause-timers : goal.returns-in_err-key-clause-timers
returns-in_err-key-clause-timers c = rw (← c.self.view_is) (ran_out c.self.inside.started c.self.inside.by_number
    c.remove.new.self c.args.number.0 c.remove.ensures.updates)

pub invariant_of-self-2 : goal.invariant_of-self-2
invariant_of-self-2 c = less_kept c.self.inside.started c.self.inside.by_number c.remove.new.self c.self.inside.by_key
    c.remove-2.new.self c.args.number.0 c.in_ok-key.key c.self.invariant
    (c.self.invariant.back c.args.number.0 c.in_ok-key.key (sym c.remove.ensures.value ∙ c.in_ok-key.was))
    c.remove.ensures.updates c.remove-2.ensures.updates

pub returns-clause-timers : goal.returns-clause-timers
returns-clause-timers c = rw (← c.self.view_is) (ran_out c.self.inside.started c.self.inside.by_number
    c.remove.new.self c.args.number.0 c.remove.ensures.updates)
