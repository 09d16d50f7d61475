-- What an application asks of a client machine, what it is answered, and what the machine notes
-- (profile).
use Rattle.std.specs.Prelude.{ℕ, Bool, List}
use Rattle.lease_state.specs.State.{State}
use Rattle.lease_state.specs.declared.access.Access.{Access}
use Rattle.lease_state.specs.declared.access.Share.{Share}
use Rattle.lease_state.specs.declared.status.Status.{Status}
use Rattle.lease_state.specs.declared.patch.Patch.{Patch}

-- how a file is to be opened: what is done with it, what others may do, the lease's state that is wanted,
-- and whether the open is to outlive its connection
pub record OpenTerms : Type 0 where
  pub access : Access
  pub share : Share
  pub want : State
  pub durable : Bool

pub data Command : Type 0 where
  Open : (file : ℕ) (terms : OpenTerms) → Command
  Close : (file : ℕ) → Command
  Read : (file : ℕ) → Command
  Write : (file : ℕ) (patch : Patch) → Command
  Flush : (file : ℕ) → Command

-- why a command is refused; it then changes nothing and sends nothing (Differs is never answered any more)
pub data Refusal : Type 0 where
  NotOpen : Refusal
  Busy : Refusal
  Differs : Refusal
  Offline : Refusal
  TooLong : Refusal
  Denied : Refusal
  UsedUp : Refusal

-- `Bytes` says whether they came from the cache; `Failed` is the server's answer; `Quiet` is none
pub data Answer : Type 0 where
  Done : Answer
  Waiting : Answer
  Bytes : (bytes : List ℕ) (cached : Bool) → Answer
  Refused : (refusal : Refusal) → Answer
  Failed : (status : Status) → Answer
  Quiet : Answer

-- What became of a write: the server did it; the server refused it, or it was buffered and can't be sent
-- any more; nobody knows; or it was kept over a lost connection and is given up. A lost one may have been
-- sent before, and even done.
pub data Settlement : Type 0 where
  Done : Settlement
  Failed : Settlement
  Unknown : Settlement
  Lost : Settlement

pub data Note : Type 0 where
  Settled : (number : ℕ) (outcome : Settlement) → Note
  Wrote : (file : ℕ) (number : ℕ) (patch : Patch) (buffered : Bool) → Note
  Believes : (file : ℕ) (state : State) → Note
  CachedRead : (file : ℕ) (bytes : List ℕ) → Note
