-- What comes to a manager: what a call of it comes to, and whether it does nothing.
use Rattle.std.specs.Prelude.{◌≡◌, ◌&&◌, Bool, true, false, not, Some, None}
use Rattle.std.specs.List.{list_any}
use Rattle.std.specs.Option.{option_map}
use Rattle.break_timers.specs.Timers.{timers_of}
use Rattle.lease_state.specs.State.{state_of}
use Rattle.lease_model.specs.server.Naming.{key_of, key_under}
use Rattle.lease_manager.specs.GivingUp.{extent_of}
use Rattle.lease_manager.specs.Requests.{request_like}
use Rattle.lease_manager.specs.Table.{manager_of}
use Rattle.manager_model.specs.Handling as rules
use Rattle.machines_c.specs.manager.About.{at, at_key, at_open, if_left, if_present, nowhere}
use Rattle.machines_c.specs.manager.Asked.{is_absent, is_answered, is_gone, is_over, is_present, is_settled}
use Rattle.machines_c.specs.manager.Calls.{Asked, ChangeAsked, Cut, Expired, Handled, RunOut, Withdrawn}
use Rattle.machines_c.specs.declared.manager.coming.Coming.{Coming}
use Rattle.machines_c.specs.declared.manager.coming.Coming.TheVariants as coming
use Rattle.machines_c.specs.declared.manager.managing.Managing.{Managing}
use Rattle.waiting_changes.specs.Changes.{asks_as}

abbrev pub Came : Coming → Managing → Managing → Type 0
Came (coming.Joins client) old new = Handled nowhere (λ one. rules.join one client.0) old new
Came (coming.Asks client tag ask) old new = Asked client.0 tag.0 (request_like ask) old new
Came (coming.Acknowledges client key state) old new = Handled (if_present client.0 (at_key (key_of client.0 key.0)))
    (λ one. rules.acknowledge one client.0 (Some (record { key = key.0; state = state_of state }))) old new
Came (coming.IsMalformed client) old new = Handled nowhere (λ one. rules.acknowledge one client.0 None) old new
Came (coming.IsCut client) old new = Cut client.0 old new
Came (coming.Expires client key) old new = Expired (key_of client.0 key.0) old new
Came (coming.RunsOut number) old new = RunOut number.0 old new
Came (coming.Scavenges fid) old new = Handled (if_left fid.0 (at_open fid.0)) (λ one. rules.scavenge one fid.0) old new
Came (coming.Withdraws file client tag) old new = Withdrawn file.0 client.0 tag.0 old new
Came (coming.GivesUp client key file extent) old new = Handled (at file.0) (λ one. rules.give_up one
    (key_under client.0 (option_map (λ bytes. bytes.0) key)) file.0 (extent_of extent)) old new
Came (coming.Changes one) old new = ChangeAsked one old new

abbrev pub is_idle : Coming → Managing → Bool
is_idle (coming.Joins client) old = is_present client.0 (manager_of old.manager)
is_idle (coming.Asks client tag ask) old = is_absent client.0 (manager_of old.manager)
is_idle (coming.Acknowledges client key state) old = is_absent client.0 (manager_of old.manager)
is_idle (coming.IsMalformed client) old = is_absent client.0 (manager_of old.manager)
is_idle (coming.IsCut client) old = is_absent client.0 (manager_of old.manager)
is_idle (coming.Expires client key) old = is_settled client.0 key.0 (manager_of old.manager)
is_idle (coming.RunsOut number) old = is_over number.0 (timers_of old.timers) (manager_of old.manager)
is_idle (coming.Scavenges fid) old = is_gone fid.0 (manager_of old.manager)
is_idle (coming.Withdraws file client tag) old = is_answered client.0 tag.0 file.0 (manager_of old.manager)
    && not (list_any (asks_as file.0 client.0 tag.0) old.changes)
is_idle (coming.GivesUp client key file extent) old = false
is_idle (coming.Changes one) old = false

-- Where a call does nothing, the manager is never lost.
abbrev pub MayBeLostBy : Coming → Managing → Type 0
MayBeLostBy coming old = is_idle coming old ≡ true → ⊥
