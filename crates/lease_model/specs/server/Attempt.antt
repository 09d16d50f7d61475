-- A request is tried: in rounds, each of which breaks what the request wants, until it is ready,
-- refused, or has to wait.
use Rattle.std.specs.Prelude.{ℕ, zero, suc, Bool, List, [], ◌∷◌, if◌then◌else◌, ◌&&◌, not}
use Rattle.std.specs.List.{list_any}
use Rattle.lease_state.specs.State.{State, needs_acknowledgment}
use Rattle.lease_state.specs.declared.status.Status.{Status}
use Rattle.lease_model.specs.values.Keys.{Key}
use Rattle.lease_model.specs.server.Progress.{Progress, opens_dropped, lease_lowered, break_begun}
use Rattle.lease_model.specs.server.Ready.{is_ready, waits_for}
use Rattle.lease_model.specs.messages.Requests.{FileRequest}
use Rattle.lease_model.specs.server.State.{Open, has_key, has_lease, is_breaking}
use Rattle.lease_model.specs.server.Wants.{Want}
use Rattle.lease_model.specs.server.Findings.{Finding, finding}

-- an open of the key whose client is away
abbrev pub is_left_open : Key → Open → Bool
is_left_open key one = has_key key one && not one.connected

-- A lease that is still there and not breaking is broken (MS-SMB2 3.3.4.7).
unfoldable pub lease_broken : Key → State → Progress → Progress
lease_broken key lowered progress =
    if has_lease progress.server key && not (is_breaking (progress.server.leases key))
    then (if needs_acknowledgment (progress.server.leases key).state
    then break_begun key lowered progress
    else lease_lowered key lowered progress)
    else progress

-- One want is met as far as it can be at once: the key's disconnected opens are closed (profile), and
-- its lease, if any is left, is broken.
abbrev pub want_met : Want → Progress → Progress
want_met want progress = lease_broken want.key want.lowered (opens_dropped (is_left_open want.key) progress)

unfoldable pub wants_met : List Want → Progress → Progress
wants_met [] progress = progress
wants_met (want ∷ wants) progress = wants_met wants (want_met want progress)

-- how a try ended: the request is refused, waits, or is ready to be answered
pub data Outcome : Type 0 where
  Refused : (status : Status) → Outcome
  Waits : Outcome
  Ready : Outcome

pub record Tried : Type 0 where
  pub progress : Progress
  pub outcome : Outcome

abbrev pub ended : Progress → Outcome → Tried
ended progress outcome = record { progress = progress; outcome = outcome }

-- some lease of the wants keeps the request waiting
abbrev pub must_wait : FileRequest → Progress → List Want → Bool
must_wait request progress wants =
    list_any (λ want. waits_for request (progress.server.leases want.key)) wants

abbrev pub after_breaks : (Progress → Tried) → FileRequest → List Want → Progress → Tried
after_breaks again request wants progress =
    if must_wait request progress wants then ended progress Outcome.Waits else again progress

abbrev pub after_finding : (Progress → Tried) → FileRequest → Progress → Finding → Tried
after_finding again request progress (Finding.Fails status) = ended progress (Outcome.Refused status)
after_finding again request progress (Finding.Needs wants) =
    if is_ready request progress.server.leases wants then ended progress Outcome.Ready
    else after_breaks again request wants (wants_met wants progress)

-- At most so many rounds.
unfoldable pub tried_for : ℕ → ℕ → FileRequest → Progress → Tried
tried_for zero client request progress = ended progress Outcome.Waits
tried_for (suc rounds) client request progress =
    after_finding (tried_for rounds client request) request progress (finding progress.server client request)

-- Three are enough: one may break handles, one writes, and the last finds nothing more.
abbrev pub tried : ℕ → FileRequest → Progress → Tried
tried client request progress = tried_for 3 client request progress
