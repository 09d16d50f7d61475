-- What other keys on a file have given up, once they are broken for it.
use Rattle.std.specs.Prelude.{◌≡◌, ℕ, Bool, true, Option}
use Rattle.lease_state.specs.State.{State}
use Rattle.lease_laws.specs.server.Laws.{Among}
use Rattle.lease_model.specs.server.Allowed.{is_other_on}
use Rattle.lease_model.specs.server.GivingUp.{Extent, others_broken}
use Rattle.lease_model.specs.server.State.{Open, Server, has_key, is_breaking}
use Rattle.lease_model.specs.values.Keys.{Key}
use Rattle.lease_model.specs.values.LeaseStates.{holds_any}

-- some of what is to be given up
abbrev pub holds_of : Extent → State → Bool
holds_of Extent.Handles state = state.handle
holds_of Extent.All state = holds_any state

-- What another key with an open on the file still holds of it is breaking.
abbrev pub OthersGiveUp : Type 0
OthersGiveUp = (server : Server) (own : Option Key) (file : ℕ) (extent : Extent) (key : Key) (one : Open)
    → Among one (others_broken server own file extent).server.opens → has_key key one ≡ true
    → is_other_on own file one ≡ true → holds_of extent ((others_broken server own file extent).server.leases key).state ≡ true
    → is_breaking ((others_broken server own file extent).server.leases key) ≡ true
