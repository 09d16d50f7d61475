-- The rules that a server may choose (own).
use Rattle.std.specs.Prelude.{ℕ, Bool, true, false, List, codes}
use Rattle.lease_state.specs.declared.rules.Order.{Order}
use Rattle.lease_state.specs.declared.rules.Rise.{Rise}
use Rattle.lease_state.specs.declared.rules.Rules.{Rules}

-- the profile's
abbrev pub profile_rules : Rules
profile_rules = record { order = Order.ByClient; rise = Rise.AsFree }

-- all requests of a client on a file have one turn
abbrev pub is_by_client : Order → Bool
is_by_client Order.ByClient = true
is_by_client Order.ByKey = false

-- a lease rises as far as it may
abbrev pub is_as_free : Rise → Bool
is_as_free Rise.AsFree = true
is_as_free Rise.Whole = false

abbrev pub order_word : Order → List ℕ
order_word Order.ByClient = codes "by-client"
order_word Order.ByKey = codes "by-key"

abbrev pub rise_word : Rise → List ℕ
rise_word Rise.AsFree = codes "as-free"
rise_word Rise.Whole = codes "whole"
