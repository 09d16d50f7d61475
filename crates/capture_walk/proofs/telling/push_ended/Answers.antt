use Rattle.std.proofs.Common.{◌∙◌, ◌++◌, ap, append-nil, refl, sym}
use Rattle.capture_walk.proofs.Ends.{ended_none}
use Rattle.capture_walk.proofs.telling.push_ended.Goals as goal

pub returns-then-not-may_end : goal.returns-then-not-may_end
returns-then-not-may_end c = sym (ap (λ events. c.args.events.now.items ++ events)
    (ended_none c.args.made c.args.seen.now c.args.opens.now (c.if-not-may_end.ensures refl) c.args.opens.now)
    ∙ append-nil c.args.events.now.items)
