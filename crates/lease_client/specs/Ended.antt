-- When a call gives up the open of a live entry.
use Rattle.std.specs.Prelude.{Bool, List, ◌&&◌, ◌==◌, ◌||◌, nat_lt, not}
use Rattle.lease_state.specs.State.{State}
use Rattle.lease_model.specs.client.Commanded.{has_unanswered, is_asking}
use Rattle.lease_model.specs.client.Commands.{OpenTerms}
use Rattle.lease_model.specs.client.State.{LiveEntry, Pending}
use Rattle.lease_model.specs.values.Sharing.{same_access, same_share}

-- a parked entry that loses its handles closes its open
abbrev pub is_ended_at : LiveEntry → State → Bool
is_ended_at live new = live.handles == 0 && (live.belief.handle && not new.handle)

-- an Open on these terms gives up an open that is parked on other ones
abbrev pub is_given_up_for : LiveEntry → OpenTerms → Bool
is_given_up_for live terms = not (is_asking live)
    && (not (same_access terms.access live.access && same_share terms.share live.share) && live.handles == 0)

-- a Close ends the open
abbrev pub is_ended_by_close : LiveEntry → List Pending → Bool
is_ended_by_close live sent = not (nat_lt 1 live.handles)
    && (not (is_asking live || has_unanswered live sent) && not live.belief.handle)
