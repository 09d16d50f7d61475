-- What a server may grant, and when two opens conflict.
use Rattle.std.specs.Prelude.{ℕ, Bool, Option, if◌then◌else◌, ◌==◌, ◌&&◌, not}
use Rattle.std.specs.List.{list_any}
use Rattle.lease_state.specs.State.{State, granted_form_of}
use Rattle.lease_state.specs.Access.{conflict}
use Rattle.lease_state.specs.declared.access.Access.{Access}
use Rattle.lease_state.specs.declared.access.Share.{Share}
use Rattle.lease_model.specs.values.Keys.{Key}
use Rattle.lease_model.specs.values.LeaseStates.{without_write}
use Rattle.lease_model.specs.server.State.{Server, Open, has_own_key}

-- an open on the file that has another key than the request; None: the request has no key
abbrev pub is_other_on : Option Key → ℕ → Open → Bool
is_other_on own file one = one.file == file && not (has_own_key own one)

-- Own: the granted form of the want, and no writes to cache where an open on the file has
-- another key.
abbrev pub allowed : Server → Option Key → ℕ → State → State
allowed server own file want =
    if list_any (is_other_on own file) server.opens
    then without_write (granted_form_of want)
    else granted_form_of want

-- an open on the file that conflicts with this access and share (MS-SMB2 3.3.5.9, SHARING_VIOLATION)
abbrev pub conflicts_on : ℕ → Access → Share → Open → Bool
conflicts_on file access share one = one.file == file && conflict access share one.access one.share
