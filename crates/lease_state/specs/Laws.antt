-- What holds of the definitions, whatever the values are.
use Rattle.std.specs.Prelude.{◌≡◌, ◌↔◌, IsTrue, ℕ, List, ◌∷◌, ◌++◌}
use Rattle.lease_state.specs.Access.{conflict}
use Rattle.lease_state.specs.Content.{patch, patches}
use Rattle.lease_state.specs.State.{state_of}
use Rattle.lease_state.specs.contracts.state.LeaseStatePartialEq.TheImpl as equality
use Rattle.lease_state.specs.declared.access.Access.{Access}
use Rattle.lease_state.specs.declared.access.Share.{Share}
use Rattle.lease_state.specs.declared.patch.Patch.{Patch}
use Rattle.lease_state.specs.declared.state.LeaseState.{LeaseState}

-- `==` of two values is true exactly where both name the same state (MS-SMB2 2.2.13.2)
abbrev pub EqualStatesAreSame : Type 0
EqualStatesAreSame = (a b : LeaseState) → IsTrue (equality.ghosts.eq a b) ↔ (state_of a ≡ state_of b)

-- it doesn't matter which of two opens is asked
abbrev pub ConflictIsMutual : Type 0
ConflictIsMutual =
    (access : Access) (share : Share) (other_access : Access) (other_share : Share) →
    conflict access share other_access other_share ≡ conflict other_access other_share access share

-- Patches that are put on a second time, before more of them, change nothing by that: a list that
-- is sent again after a first part of it was applied gives what the list gives once.
abbrev pub RepeatedPatchesAgree : Type 0
RepeatedPatchesAgree =
    (content : List ℕ) (first more : List Patch) →
    patches (patches content first) (first ++ more) ≡ patches content (first ++ more)

-- the same of one patch
abbrev pub RepeatedPatchAgrees : Type 0
RepeatedPatchAgrees =
    (content : List ℕ) (p : Patch) (more : List Patch) →
    patches (patch content p) (p ∷ more) ≡ patches content (p ∷ more)
