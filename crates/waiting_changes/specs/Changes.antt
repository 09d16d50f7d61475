-- Changes of a file that no open of a client asks for, and that wait until other keys gave up what is in their way.
use Rattle.std.specs.Prelude.{ℕ, Bool, true, false, not, Option, Some, None, List, [], ◌∷◌, ◌++◌, map, filter, if◌then◌else◌}
use Rattle.std.specs.Prelude.{◌==◌, ◌&&◌}
use Rattle.std.specs.List.{list_any}
use Rattle.std.specs.Option.{option_map}
use Rattle.lease_manager.specs.GivingUp.{extent_of}
use Rattle.lease_manager.specs.Outs.{decisions}
use Rattle.lease_manager.specs.Table.{Table, manager_of}
use Rattle.lease_manager.specs.declared.values.decision.Decision as code
use Rattle.lease_manager.specs.declared.values.number.ClientNo.{ClientNo}
use Rattle.lease_manager.specs.declared.values.number.Tag.{Tag}
use Rattle.lease_model.specs.server.GivingUp.{is_given_up}
use Rattle.lease_model.specs.server.Naming.{key_under}
use Rattle.lease_model.specs.server.State.{Server}
use Rattle.lease_model.specs.values.Keys.{Key}
use Rattle.lease_model.specs.values.Lists.{without}
use Rattle.manager_model.specs.Decisions.{Decision}
use Rattle.manager_model.specs.Handling.{Handling, Manager, give_up}
use Rattle.waiting_changes.specs.declared.change.Change.{Change}

-- the key that is spared
abbrev pub own_of : Change → Option Key
own_of one = key_under one.client.0 (option_map (λ bytes. bytes.0) one.key)

-- no other key is in its way
abbrev pub is_free : Server → Change → Bool
is_free server one = is_given_up server (own_of one) one.file.0 (extent_of one.extent)

abbrev pub is_on : ℕ → Change → Bool
is_on file one = one.file.0 == file

abbrev pub is_asked_by : ℕ → Change → Bool
is_asked_by client one = one.client.0 == client

-- the client's under the tag, on this file
abbrev pub asks_as : ℕ → ℕ → ℕ → Change → Bool
asks_as file client tag one = is_on file one && one.client.0 == client && one.tag.0 == tag

-- one of the client's under these tags
abbrev pub is_left_of : ℕ → List ℕ → Change → Bool
is_left_of client tags one = is_asked_by client one && list_any (λ tag. one.tag.0 == tag) tags

abbrev pub goes_on : Change → Decision
goes_on one = Decision.GoesOn one.client.0 one.tag.0

abbrev pub waits : Change → Decision
waits one = Decision.Waits one.client.0 one.tag.0

-- A manager, the changes that wait, in order of arrival, and what was told so far of a call under way.
pub record Going : Type 0 where
  pub manager : Manager
  pub waiting : List Change
  pub told : List Decision

-- what a call of the manager comes to, beside these changes
abbrev pub going_with : List Change → Handling → Going
going_with waiting now = record { manager = now.manager; waiting = waiting; told = now.told }

abbrev pub handling_in : Going → Handling
handling_in going = record { manager = going.manager; told = going.told }

-- as they are kept
abbrev pub going_of : List Change → Table → List code.Decision → Going
going_of waiting table told = record { manager = manager_of table; waiting = waiting; told = decisions told }

-- ---- tries

-- Others give up what is in the way of the change. What was told before stands first.
abbrev pub asked_for : Change → Handling → Handling
asked_for one now = record {
  manager = (give_up now.manager (own_of one) one.file.0 (extent_of one.extent)).manager;
  told = now.told ++ (give_up now.manager (own_of one) one.file.0 (extent_of one.extent)).told;
}

unfoldable pub asked_for_all : List Change → Handling → Handling
asked_for_all [] now = now
asked_for_all (one ∷ changes) now = asked_for_all changes (asked_for one now)

-- it goes on at a try on the file
abbrev pub goes : ℕ → Server → Change → Bool
goes file server one = is_on file one && is_free server one

-- those on the file that nothing is in the way of go on, in order of arrival, and wait no longer
abbrev pub freed_on : ℕ → Going → Going
freed_on file going = record {
  manager = going.manager;
  waiting = without (goes file going.manager.server) going.waiting;
  told = going.told ++ map goes_on (filter (goes file going.manager.server) going.waiting);
}

-- What waits on the file is tried again: leases that came since are broken for it too.
abbrev pub tried_on : ℕ → Going → Going
tried_on file going =
    freed_on file (going_with going.waiting (asked_for_all (filter (is_on file) going.waiting) (handling_in going)))

unfoldable pub tried_on_all : List ℕ → Going → Going
tried_on_all [] going = going
tried_on_all (file ∷ files) going = tried_on_all files (tried_on file going)

-- ---- after a call of the manager

-- an open was closed by another request than this one of a client, under a tag
abbrev pub closes_another : Option (ℕ × ℕ) → Decision → Bool
closes_another None (Decision.Closed client tag) = true
closes_another (Some own) (Decision.Closed client tag) = not (client == own.0 && tag == own.1)
closes_another own decision = false

-- Changes are tried that wait on these files, which the call was about; and where another request closed an open, all that wait:
-- one that waited may close an open on any file.
abbrev pub tried_after : Option (ℕ × ℕ) → List ℕ → Going → Going
tried_after own about going = tried_on_all
    (if list_any (closes_another own) going.told then map (λ one. one.file.0) going.waiting else about) going

-- ---- a change is asked for

-- it goes on, or waits after the others
abbrev pub concluded : Change → Going → Going
concluded one going = if is_free going.manager.server one
    then record { manager = going.manager; waiting = going.waiting; told = going.told ++ goes_on one ∷ [] }
    else record { manager = going.manager; waiting = going.waiting ++ one ∷ []; told = going.told ++ waits one ∷ [] }

-- Others give up what is in its way, and it goes on or waits.
unfoldable pub changed : Manager → List Change → Change → Going
changed manager waiting one = concluded one (tried_after None [] (going_with waiting
    (give_up manager (own_of one) one.file.0 (extent_of one.extent))))

-- a client's request under a tag
abbrev pub request_of : ClientNo × Tag → ℕ × ℕ
request_of request = (request.0.0, request.1.0)
