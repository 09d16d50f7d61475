-- Facts, and records of them. A record tells what happened, in order, and names no table, no queue
-- and no lease (profile).
use Rattle.std.specs.Prelude.{ℕ, Bool, List}
use Rattle.lease_state.specs.State.{State}
use Rattle.lease_model.specs.client.Commands.{Settlement}
use Rattle.lease_state.specs.declared.patch.Patch.{Patch}

-- Start: a file with its first bytes. Joined, Dropped: a client's connection came, or was lost.
-- Expired: the timer of a client's broken lease ran out. Sent, Took: a message was sent to a
-- client, and the client took one. Opened, Changed: the server opened or changed a file for a
-- client. Wrote, Settled: a client was given a write, and told what became of it. Believes: a
-- client's belief of a file's lease changed. CachedRead: a client answered a read from its cache.
-- Strayed: a request was sent in a client's name that its machine didn't make.
pub data Fact : Type 0 where
  Start : (file : ℕ) (bytes : List ℕ) → Fact
  Joined : (client : ℕ) → Fact
  Dropped : (client : ℕ) → Fact
  Expired : (client : ℕ) (file : ℕ) → Fact
  Sent : (client : ℕ) → Fact
  Took : (client : ℕ) → Fact
  Opened : (file : ℕ) (client : ℕ) → Fact
  Changed : (file : ℕ) (client : ℕ) (number : ℕ) (patch : Patch) → Fact
  Wrote : (client : ℕ) (file : ℕ) (number : ℕ) (patch : Patch) (buffered : Bool) → Fact
  Settled : (client : ℕ) (number : ℕ) (outcome : Settlement) → Fact
  Believes : (client : ℕ) (file : ℕ) (state : State) → Fact
  CachedRead : (client : ℕ) (file : ℕ) (bytes : List ℕ) → Fact
  Strayed : (client : ℕ) → Fact
