use Rattle.lease_laws.proofs.Words.{◌++◌, ◌≡◌, filter}
use Rattle.lease_manager.specs.Wanted.{is_wanted_key}
use Rattle.lease_manager.proofs.tables.summaries.Summaries.wanted_among.Given as goal

abbrev pub invariant-loop-key : goal.invariant-loop-key
invariant-loop-key l =
    l.wanted.items ++ filter (is_wanted_key l.self l.demand) l.key-iterator ≡ filter (is_wanted_key l.self l.demand) l.keys.keys
