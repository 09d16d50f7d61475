use Rattle.std.proofs.Common.{◌≡◌, drop, filter, false, None}
use Rattle.capture_walk.specs.Chains.{last_shown, is_known}
use Rattle.capture_walk.proofs.chains.last_shown.Given as goal

-- what is left gives the whole
abbrev pub invariant-loop-place : goal.invariant-loop-place
invariant-loop-place l =
    last_shown l.lease l.sent l.is_live l.found (filter (is_known l.since) (drop l.place l.later))
    ≡ last_shown l.lease l.sent false None (filter (is_known l.since) l.later)
