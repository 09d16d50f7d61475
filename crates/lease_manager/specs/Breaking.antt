-- A Break stands before the GoesOn that needed it, in the whole list of what a call of a manager tells.
use Rattle.std.specs.Prelude.{◌≡◌, ◌⊎◌, ℕ, false, true, List, ◌∷◌, ◌++◌}
use Rattle.lease_state.specs.State.{State, needs_acknowledgment, nothing_cached}
use Rattle.lease_state.specs.declared.patch.Patch.{Patch}
use Rattle.lease_model.specs.messages.Replies.{Out, Reply}
use Rattle.lease_model.specs.server.Calls.{Call, called}
use Rattle.lease_model.specs.server.Naming.{key_of_open}
use Rattle.lease_model.specs.server.Progress.{Progress}
use Rattle.lease_model.specs.server.State.{Open, Server, has_key, has_own_key}
use Rattle.lease_model.specs.values.Keys.{Key}
use Rattle.lease_laws.specs.server.Changes.{ComesBehindBreaks, GivesUp, IsCaching, WasClosed}
use Rattle.lease_laws.specs.server.Laws.{Among}
use Rattle.lease_laws.specs.server.SmallSteps.{SmallStep, call_begun, steps_taken}
use Rattle.manager_model.specs.Decisions.{Decision, told_of}
use Rattle.manager_model.specs.Hosting.{Coming, call_of}
use Rattle.lease_manager.specs.Calls.{handled_by, untagged}
use Rattle.lease_manager.specs.Table.{Table, manager_of, server_of}

-- the notice of a break of the key to this state is among these
pub record IsNoticeTold (key : Key) (lowered : State) (told : List Decision) : Type 0 where
  pub current : State
  pub is_told : Among (Decision.Breaks key.client (record {
    ack_required = needs_acknowledgment current;
    key = key.bytes;
    current = current;
    lowered = lowered;
  })) told

-- What is so where a read goes on after this was told: the server sends what was read there.
pub record IsReadThere (server : Server) (call : Call) (client : ℕ) (said : List Decision) : Type 0 where
  pub before : List Out
  pub behind : List Out
  pub file_id : ℕ
  pub bytes : List ℕ
  pub stands : (called server call).outs ≡ before ++ Out.Sent client (Reply.ReadDone file_id bytes) ∷ behind
  pub told : told_of 0 before ≡ said

-- Why a key that cached something at a point of a call has given it up some steps later: the notice of its Break to nothing
-- was told before, or its opens were closed meanwhile, or the call is its own acknowledgment.
abbrev pub HasGivenUpAsTold : Call → Key → List SmallStep → Progress → List Decision → Type 0
HasGivenUpAsTold call key steps progress said =
    IsNoticeTold key nothing_cached said ⊎ (WasClosed key steps progress ⊎ GivesUp call key)

-- What is so where a write goes on after this was told. The server changes a file there, and each other key with an open on
-- it has given up what it cached; and one that cached something at an earlier point of the call had the notice of its Break to
-- nothing told before, or its opens were closed since, or the call is its own acknowledgment of nothing.
pub record GoesBehindBreaks (server : Server) (call : Call) (client : ℕ) (said : List Decision) : Type 0 where
  pub before : List Out
  pub behind : List Out
  pub file : ℕ
  pub number : ℕ
  pub patch : Patch
  pub stands : (called server call).outs ≡ before ++ Out.Changed file client number patch ∷ behind
  pub told : told_of 0 before ≡ said
  pub comes_behind : ComesBehindBreaks server call file client before
  pub given_up : (first second : List SmallStep) → comes_behind.steps ≡ first ++ second → (key : Key) (other : Open)
      → Among other (steps_taken comes_behind.steps (call_begun server call)).server.opens → other.file ≡ file
      → has_own_key (key_of_open comes_behind.one) other ≡ false → has_key key other ≡ true
      → IsCaching ((steps_taken first (call_begun server call)).server.leases key)
      → HasGivenUpAsTold call key second (steps_taken first (call_begun server call)) said

-- Wherever it is told that a request goes on, whatever comes: it is a read, or the Breaks that the write needed stand before it.
abbrev pub BreaksStandFirst : Table → Type 0
BreaksStandFirst table = (coming : Coming) (first later : List Decision) (client : ℕ)
    → untagged (handled_by (manager_of table) coming).told ≡ first ++ Decision.GoesOn client 0 ∷ later
    → IsReadThere (server_of table) (call_of (manager_of table) coming) client first
    ⊎ GoesBehindBreaks (server_of table) (call_of (manager_of table) coming) client first
