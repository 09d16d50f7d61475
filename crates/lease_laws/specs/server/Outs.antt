-- The laws of what a call of the server gives out.
use Rattle.std.specs.Prelude.{◌≡◌, ◌⊎◌, ℕ, true, false, Option, Some, None, List, [], ◌∷◌, ◌++◌, ⊤}
use Rattle.lease_state.specs.State.{nothing_cached, needs_acknowledgment}
use Rattle.lease_model.specs.values.Keys.{Key}
use Rattle.lease_model.specs.messages.Replies.{Reply, Out}
use Rattle.lease_model.specs.messages.Requests.{FileRequest}
use Rattle.lease_laws.specs.server.Laws.{Among}
use Rattle.lease_model.specs.server.State.{Server, Open, Lease, has_key, has_own_key}
use Rattle.lease_model.specs.server.Naming.{key_of_open}

-- what holds of each out
abbrev pub EachOut : (Out → Type 0) → List Out → Type 0
EachOut Holds [] = ⊤
EachOut Holds (out ∷ outs) = Holds out × EachOut Holds outs

-- A break can be read, and asks for an acknowledgment exactly where the state that it breaks needs
-- one.
abbrev pub IsFlaggedRightly : Out → Type 0
IsFlaggedRightly (Out.Sent client (Reply.Break None)) = ⊥
IsFlaggedRightly (Out.Sent client (Reply.Break (Some notice))) =
    notice.ack_required ≡ needs_acknowledgment notice.current
IsFlaggedRightly out = ⊤

-- a write that was done by the out just before: its client and its number
pub record Done : Type 0 where
  pub client : ℕ
  pub number : ℕ

-- Each Changed stands directly before the WriteDone of its client and number, and each WriteDone
-- directly after its Changed. `before` is the write of a Changed that stands just before these outs.
abbrev pub ArePaired : Option Done → List Out → Type 0
ArePaired None [] = ⊤
ArePaired (Some done) [] = ⊥
ArePaired None (Out.Changed file client number patch ∷ outs) =
    ArePaired (Some (record { client = client; number = number })) outs
ArePaired None (Out.Sent client (Reply.WriteDone file_id number) ∷ outs) = ⊥
ArePaired None (out ∷ outs) = ArePaired None outs
ArePaired (Some done) (Out.Sent client (Reply.WriteDone file_id number) ∷ outs) =
    (client ≡ done.client) × (number ≡ done.number) × ArePaired None outs
ArePaired (Some done) (out ∷ outs) = ⊥

abbrev pub IsBreak : Out → Type 0
IsBreak (Out.Sent client (Reply.Break notice)) = ⊤
IsBreak out = ⊥

abbrev pub IsNoBreak : Out → Type 0
IsNoBreak (Out.Sent client (Reply.Break notice)) = ⊥
IsNoBreak out = ⊤

-- the outs have gone on from those before by such ones
pub record GoOn (Holds : Out → Type 0) (before : List Out) (after : List Out) : Type 0 where
  pub more : List Out
  pub are_more : after ≡ before ++ more
  pub each : EachOut Holds more

-- The outs are Breaks and then an answer without a Break, each of the two perhaps empty.
pub record AreBreaksFirst (outs : List Out) : Type 0 where
  pub breaks : List Out
  pub answer : List Out
  pub are_both : outs ≡ breaks ++ answer
  pub are_breaks : EachOut IsBreak breaks
  pub is_answer : EachOut IsNoBreak answer

-- a request after which no held request is tried again
abbrev pub IsAlone : FileRequest → Type 0
IsAlone (FileRequest.Close file_id) = ⊥
IsAlone request = ⊤

-- the lease holds nothing, or is breaking to nothing
abbrev pub IsGivenUp : Lease → Type 0
IsGivenUp lease = (lease.state ≡ nothing_cached) ⊎ (lease.broken_to ≡ Some nothing_cached)

-- each other key with an open on the file of this one holds nothing, or is breaking to nothing
abbrev pub CachesAlone : Server → Open → Type 0
CachesAlone server one = (key : Key) (other : Open) → Among other server.opens → other.file ≡ one.file
    → has_own_key (key_of_open one) other ≡ false → has_key key other ≡ true
    → IsGivenUp (server.leases key)
