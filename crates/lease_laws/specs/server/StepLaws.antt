-- What small steps give out, and what they make of leases; and what follows for calls.
use Rattle.std.specs.Prelude.{◌≡◌, ◌⊎◌, ⊤, true, false, Some, None, List, [], ◌∷◌, ◌++◌}
use Rattle.lease_state.specs.State.{State, is_state_within}
use Rattle.lease_model.specs.messages.Replies.{Out}
use Rattle.lease_model.specs.server.Calls.{Call, called}
use Rattle.lease_model.specs.server.Progress.{Progress, break_notice}
use Rattle.lease_model.specs.server.State.{Server, Lease, has_lease, is_breaking}
use Rattle.lease_model.specs.values.Keys.{Key}
use Rattle.lease_model.specs.values.Patches.{is_within_limit}
use Rattle.lease_laws.specs.server.Laws.{Among, IsSound}
use Rattle.lease_laws.specs.server.Outs.{EachOut, IsNoBreak, GoOn}
use Rattle.lease_laws.specs.server.SmallSteps.{SmallStep, step_taken, steps_taken, IsGuarded, AreGuarded}
use Rattle.lease_laws.specs.server.Waiting.{WaitsWell}

-- ---- leases

-- a lease rises: it wasn't breaking, isn't, and holds all that it held
pub record IsRaised (before : Lease) (after : Lease) : Type 0 where
  pub was_settled : is_breaking before ≡ false
  pub is_settled : is_breaking after ≡ false
  pub is_more : is_state_within before.state after.state ≡ true

-- a break ends: what is left is a part of the state broken to
pub record IsEnded (before : Lease) (after : Lease) : Type 0 where
  pub lowered : State
  pub was_breaking : before.broken_to ≡ Some lowered
  pub is_settled : is_breaking after ≡ false
  pub is_part : is_state_within after.state lowered ≡ true

-- Where a request is answered, the lease of a key stays, or is gone with its last open, or rises.
abbrev pub StaysOrRises : Server → Server → Key → Type 0
StaysOrRises before after key = (after.leases key ≡ before.leases key)
    ⊎ ((has_lease after key ≡ false) ⊎ IsRaised (before.leases key) (after.leases key))

-- What a step makes of the lease of a key. A lease is lowered, or begins to break, by Lower and Begin
-- alone, and only the one that they name.
abbrev pub BecomesBy : SmallStep → Server → Server → Key → Type 0
BecomesBy (SmallStep.Answer client request outcome) before after key = StaysOrRises before after key
BecomesBy (SmallStep.AnswerHeld file earlier one behind outcome) before after key = StaysOrRises before after key
BecomesBy (SmallStep.Acknowledge client given) before after key =
    (after.leases key ≡ before.leases key) ⊎ IsEnded (before.leases key) (after.leases key)
BecomesBy (SmallStep.Hold file one) before after key = after.leases key ≡ before.leases key
BecomesBy (SmallStep.Drop other) before after key =
    (after.leases key ≡ before.leases key) ⊎ (has_lease after key ≡ false)
BecomesBy (SmallStep.Lower other lowered) before after key = (after.leases key ≡ before.leases key)
    ⊎ ((key ≡ other) × (after.leases key ≡ record { state = lowered; broken_to = None }))
BecomesBy (SmallStep.Begin other lowered) before after key = (after.leases key ≡ before.leases key)
    ⊎ ((key ≡ other)
    × (after.leases key ≡ record { state = (before.leases key).state; broken_to = Some lowered }))

abbrev pub LeasesOfSteps : Type 0
LeasesOfSteps = (step : SmallStep) (progress : Progress) → IsSound progress.server
    → IsGuarded step progress.server
    → (key : Key) → BecomesBy step progress.server (step_taken step progress).server key

-- ---- breaks

-- Lower and Begin tell their Break, with the state that the lease had and the one that it is lowered to; no
-- other step gives out a Break.
abbrev pub TellsBreaks : SmallStep → Progress → Type 0
TellsBreaks (SmallStep.Lower key lowered) progress = (step_taken (SmallStep.Lower key lowered) progress).outs
    ≡ progress.outs ++ Out.Sent key.client (break_notice key (progress.server.leases key).state lowered) ∷ []
TellsBreaks (SmallStep.Begin key lowered) progress = (step_taken (SmallStep.Begin key lowered) progress).outs
    ≡ progress.outs ++ Out.Sent key.client (break_notice key (progress.server.leases key).state lowered) ∷ []
TellsBreaks step progress = GoOn IsNoBreak progress.outs (step_taken step progress).outs

abbrev pub BreaksOfSteps : Type 0
BreaksOfSteps = (step : SmallStep) (progress : Progress) → TellsBreaks step progress

-- A Break of the key to this state is among the outs.
pub record IsBreakTold (key : Key) (lowered : State) (outs : List Out) : Type 0 where
  pub current : State
  pub is_told : Among (Out.Sent key.client (break_notice key current lowered)) outs

-- Wherever a call has come, what is breaking was breaking so when the steps began, or its Break was told.
-- (So it stands before the Changed that needed it: see the guard of a write.)
abbrev pub BreaksAreTold : Type 0
BreaksAreTold = (steps : List SmallStep) (progress : Progress) → IsSound progress.server
    → AreGuarded steps progress → (key : Key) (lowered : State)
    → ((steps_taken steps progress).server.leases key).broken_to ≡ Some lowered
    → ((progress.server.leases key).broken_to ≡ Some lowered)
    ⊎ IsBreakTold key lowered (steps_taken steps progress).outs

-- ---- outs of calls

-- each reply goes to a client whose connection the server has after the call,
abbrev pub IsToPresent : Server → Out → Type 0
IsToPresent server (Out.Sent client reply) = server.present client ≡ true
IsToPresent server out = ⊤

abbrev pub RepliesFindTheirClients : Type 0
RepliesFindTheirClients = (server : Server) (call : Call) → IsSound server → WaitsWell server
    → EachOut (IsToPresent (called server call).server) (called server call).outs

-- and each change ends within the limit of a file.
abbrev pub IsShort : Out → Type 0
IsShort (Out.Changed file client number patch) = is_within_limit patch ≡ true
IsShort out = ⊤

abbrev pub ChangesAreShort : Type 0
ChangesAreShort = (server : Server) (call : Call) → IsSound server → WaitsWell server
    → EachOut IsShort (called server call).outs

-- Steps keep the laws of every server.
abbrev pub StepsKeepTheLaws : Type 0
StepsKeepTheLaws = (step : SmallStep) (progress : Progress) → IsSound progress.server
    → IsGuarded step progress.server → IsSound (step_taken step progress).server
