-- A Break stands before the Changed that needed it, in the whole list of what a call gives out.
use Rattle.std.specs.Prelude.{◌≡◌, ◌⊎◌, ℕ, true, false, Some, List, ◌∷◌, ◌++◌}
use Rattle.lease_state.specs.State.{nothing_cached, granted_form_of}
use Rattle.lease_state.specs.declared.patch.Patch.{Patch}
use Rattle.lease_model.specs.messages.Replies.{Out}
use Rattle.lease_model.specs.messages.Requests.{Request, LeaseOf}
use Rattle.lease_model.specs.server.Calls.{Call, called}
use Rattle.lease_model.specs.server.Naming.{key_of_open}
use Rattle.lease_model.specs.server.Progress.{Progress}
use Rattle.lease_model.specs.server.State.{Server, Open, Lease, has_key, has_lease, has_own_key}
use Rattle.lease_model.specs.values.Keys.{Key}
use Rattle.lease_laws.specs.server.Laws.{Among, IsSound}
use Rattle.lease_laws.specs.server.Outs.{IsGivenUp, CachesAlone}
use Rattle.lease_laws.specs.server.SmallSteps.{SmallStep, steps_taken, AreGuarded, AreOf, call_begun}
use Rattle.lease_laws.specs.server.StepLaws.{IsBreakTold}
use Rattle.lease_laws.specs.server.Waiting.{WaitsWell}

-- the lease holds something, and isn't breaking to nothing
abbrev pub IsCaching : Lease → Type 0
IsCaching lease = IsGivenUp lease → ⊥

-- between two points of a call the Break of the key to nothing was given out
pub record IsBrokenBetween (key : Key) (earlier : List Out) (later : List Out) : Type 0 where
  pub since : List Out
  pub are_more : later ≡ earlier ++ since
  pub told : IsBreakTold key nothing_cached since

-- on the way all opens of the key were closed
pub record WasClosed (key : Key) (steps : List SmallStep) (progress : Progress) : Type 0 where
  pub first : List SmallStep
  pub rest : List SmallStep
  pub are_both : steps ≡ first ++ rest
  pub is_gone : has_lease (steps_taken first progress).server key ≡ false

-- the call is the key's acknowledgment, of nothing
pub record GivesUp (call : Call) (key : Key) : Type 0 where
  pub given : LeaseOf
  pub is_call : call ≡ Call.Receive key.client (Request.Acknowledge (Some given))
  pub is_of_key : given.key ≡ key.bytes
  pub is_of_nothing : granted_form_of given.state ≡ nothing_cached

-- Why a key that cached something at a point of a call has given it up some steps later: its Break to nothing was
-- given out meanwhile, or its opens were closed, or the call is its own acknowledgment.
abbrev pub HasGivenUp : Call → Key → List SmallStep → Progress → Type 0
HasGivenUp call key steps progress = IsBrokenBetween key progress.outs (steps_taken steps progress).outs
    ⊎ (WasClosed key steps progress ⊎ GivesUp call key)

-- What is so where a change of a file by a client stands after these outs. The call had come so far by the first of
-- its guarded steps, where the client has an open on the file, and every other key with an open there has given up
-- what it cached. And each of them that cached something at an earlier point of the call, where these steps begin or behind
-- some of them, had its Break to nothing given out since, before the change; or its opens were all closed since, or
-- the call is its own acknowledgment of nothing.
pub record ComesBehindBreaks (server : Server) (call : Call) (file client : ℕ) (before : List Out) : Type 0 where
  pub steps : List SmallStep
  pub rest : List SmallStep
  pub are_guarded : AreGuarded (steps ++ rest) (call_begun server call)
  pub are_of : AreOf call (steps ++ rest)
  pub are_whole : called server call ≡ steps_taken (steps ++ rest) (call_begun server call)
  pub lead : (steps_taken steps (call_begun server call)).outs ≡ before
  pub one : Open
  pub is_there : Among one (steps_taken steps (call_begun server call)).server.opens
  pub is_by : one.client ≡ client
  pub is_on : one.file ≡ file
  pub alone : CachesAlone (steps_taken steps (call_begun server call)).server one
  pub broken : (first second : List SmallStep) → steps ≡ first ++ second → (key : Key) (other : Open)
      → Among other (steps_taken steps (call_begun server call)).server.opens → other.file ≡ file
      → has_own_key (key_of_open one) other ≡ false → has_key key other ≡ true
      → IsCaching ((steps_taken first (call_begun server call)).server.leases key)
      → HasGivenUp call key second (steps_taken first (call_begun server call))

-- So it is of every change among the outs of any call, those of its passes too.
abbrev pub BreaksComeFirst : Type 0
BreaksComeFirst = (server : Server) (call : Call) → IsSound server → WaitsWell server → (before behind : List Out)
    (file client number : ℕ) (patch : Patch)
    → (called server call).outs ≡ before ++ Out.Changed file client number patch ∷ behind
    → ComesBehindBreaks server call file client before
