-- The rules that an order and a rise by their numbers stand for.
use Rattle.std.specs.Prelude.{ℕ, Option, Some, None, if◌then◌else◌, ◌==◌}
use Rattle.lease_state.specs.declared.rules.Order.{Order}
use Rattle.lease_state.specs.declared.rules.Rise.{Rise}
use Rattle.lease_state.specs.declared.rules.Rules.{Rules}

abbrev pub order_given : ℕ → Option Order
order_given number = if number == 0 then Some Order.ByClient else if number == 1 then Some Order.ByKey else None

abbrev pub rise_given : ℕ → Option Rise
rise_given number = if number == 0 then Some Rise.AsFree else if number == 1 then Some Rise.Whole else None

abbrev pub both_given : Option Order → Option Rise → Option Rules
both_given (Some order) (Some rise) = Some (record { order = order; rise = rise })
both_given (Some order) None = None
both_given None rise = None

abbrev pub rules_given : ℕ → ℕ → Option Rules
rules_given order rise = both_given (order_given order) (rise_given rise)
