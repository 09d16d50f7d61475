-- The small steps of a server, each with its guard, that is what must hold for it to be taken; and calls
-- as lists of them.
use Rattle.std.specs.Prelude.{◌≡◌, ◌⊎◌, ⊤, ℕ, suc, true, false, Option, Some, None, Ok, List, [], ◌∷◌, ◌++◌, if◌then◌else◌}
use Rattle.std.specs.List.{list_any}
use Rattle.lease_state.specs.Access.{conflict}
use Rattle.lease_state.specs.State.{State, needs_acknowledgment, granted_form_of, is_state_within}
use Rattle.lease_state.specs.declared.access.Access.{Access}
use Rattle.lease_state.specs.declared.access.Share.{Share}
use Rattle.lease_state.specs.declared.patch.Patch.{Patch}
use Rattle.lease_state.specs.declared.status.Status.{Status}
use Rattle.lease_model.specs.messages.Requests.{FileRequest, Request, LeaseOf}
use Rattle.lease_model.specs.server.Acknowledge.{acknowledged}
use Rattle.lease_model.specs.server.Answers.{concluded}
use Rattle.lease_model.specs.server.Attempt.{Outcome, is_left_open}
use Rattle.lease_model.specs.server.Calls.{Call, called, join, file_asked, is_lost, opens_disconnected, client_forgotten}
use Rattle.lease_model.specs.server.Calls.{is_left_behind, is_lost_of, is_named, key_expired, opens_parted, requests_left}
use Rattle.lease_model.specs.server.Findings.{awaits, connected_open}
use Rattle.lease_model.specs.server.Naming.{own_key}
use Rattle.lease_model.specs.server.Progress.{Progress, begun, opens_dropped, lease_lowered, break_begun, request_held, held_left}
use Rattle.lease_model.specs.values.Lists.{unmarked, has_marked}
use Rattle.lease_model.specs.server.State.{Server, Open, Lease, Held, has_file, has_key, has_own_key, has_lease, is_breaking}
use Rattle.lease_model.specs.server.Lanes.{as_held, is_behind, lane_of}
use Rattle.lease_model.specs.values.Keys.{Key}
use Rattle.lease_model.specs.values.LeaseStates.{same_state}
use Rattle.lease_model.specs.values.Patches.{is_within_limit}
use Rattle.lease_model.specs.values.Sharing.{may_read, may_write}
use Rattle.lease_laws.specs.server.Laws.{Among, IsSound, HasToWait}
use Rattle.lease_laws.specs.server.Outs.{CachesAlone}
use Rattle.lease_laws.specs.server.Waiting.{WaitsWell}

-- Answer: a request that has come is answered or refused. AnswerHeld: so is one that was held on a file,
-- between these before it and after it. Acknowledge: an acknowledgment is judged. Hold: a request is held.
-- Drop: the disconnected opens of a key are closed. Lower: a lease is lowered at once. Begin: its break
-- begins.
pub data SmallStep : Type 0 where
  Answer : (client : ℕ) (request : FileRequest) (outcome : Outcome) → SmallStep
  AnswerHeld : (file : ℕ) (before : List Held) (one : Held) (behind : List Held) (outcome : Outcome) → SmallStep
  Acknowledge : (client : ℕ) (given : Option LeaseOf) → SmallStep
  Hold : (file : ℕ) (one : Held) → SmallStep
  Drop : (key : Key) → SmallStep
  Lower : (key : Key) (lowered : State) → SmallStep
  Begin : (key : Key) (lowered : State) → SmallStep

-- what a step does; a held request leaves the held ones with its answer
abbrev pub step_taken : SmallStep → Progress → Progress
step_taken (SmallStep.Answer client request outcome) progress = concluded client request progress outcome
step_taken (SmallStep.AnswerHeld file before one behind outcome) progress =
    concluded one.client one.request (held_left file (before ++ behind) progress) outcome
step_taken (SmallStep.Acknowledge client given) progress = acknowledged client given progress
step_taken (SmallStep.Hold file one) progress = request_held file one progress
step_taken (SmallStep.Drop key) progress = opens_dropped (is_left_open key) progress
step_taken (SmallStep.Lower key lowered) progress = lease_lowered key lowered progress
step_taken (SmallStep.Begin key lowered) progress = break_begun key lowered progress

-- ---- guards of answers

-- A create that makes a new open: the key is at home on the file, no open there conflicts, and no other
-- key there holds W.
pub record IsFree (opens : List Open) (leases : Key → Lease) (own : Option Key) (file : ℕ) (access : Access)
    (share : Share) : Type 0 where
  pub at_home : (one : Open) → Among one opens → has_own_key own one ≡ true → one.file ≡ file
  pub peaceful : (one : Open) → Among one opens → one.file ≡ file
      → conflict access share one.access one.share ≡ false
  pub unwritten : (key : Key) (one : Open) → Among one opens → one.file ≡ file → has_own_key own one ≡ false
      → has_key key one ≡ true → (leases key).state.write ≡ false

-- a create that connects an open again: such an open waits for its client
pub record IsAwaitedAt (server : Server) (client : ℕ) (file : ℕ) (own : Option Key) (file_id : ℕ) : Type 0 where
  pub one : Open
  pub is_there : Among one server.opens
  pub waits : awaits client file own file_id one ≡ true

abbrev pub MayCreate : Server → ℕ → ℕ → Access → Share → Option LeaseOf → Option ℕ → Type 0
MayCreate server client file access share lease None =
    IsFree server.opens server.leases (own_key client lease) file access share
MayCreate server client file access share lease (Some file_id) =
    IsAwaitedAt server client file (own_key client lease) file_id

-- a request by an open of its client
pub record HasOpen (server : Server) (client : ℕ) (file_id : ℕ) (may : Open → Type 0) : Type 0 where
  pub one : Open
  pub found : connected_open server client file_id ≡ Some one
  pub allowed : may one

-- a write may be done: it is allowed, ends within the limit, and all other keys on the file are given up
pub record MayChange (server : Server) (patch : Patch) (one : Open) : Type 0 where
  pub may : may_write one.access ≡ true
  pub fits : is_within_limit patch ≡ true
  pub alone : CachesAlone server one

-- a request may be served
abbrev pub MayServe : Server → ℕ → FileRequest → Type 0
MayServe server client (FileRequest.Create file access share None) = ⊥
MayServe server client (FileRequest.Create file access share (Some ask)) =
    (has_file server file ≡ true) × MayCreate server client file access share ask.lease ask.reconnect
MayServe server client (FileRequest.Read file_id) =
    HasOpen server client file_id (λ one. may_read one.access ≡ true)
MayServe server client (FileRequest.Write file_id number patch) =
    HasOpen server client file_id (MayChange server patch)
MayServe server client (FileRequest.Close file_id) = HasOpen server client file_id (λ one. ⊤)

-- FILE_CLOSED is told only of a FileId that is no connected open of the client
abbrev pub IsGone : Server → ℕ → ℕ → Status → Type 0
IsGone server client file_id status = status ≡ Status.FileClosed → connected_open server client file_id ≡ None

-- A Close is refused only there.
abbrev pub MayRefuse : Server → ℕ → FileRequest → Status → Type 0
MayRefuse server client (FileRequest.Create file access share contexts) status = ⊤
MayRefuse server client (FileRequest.Read file_id) status = IsGone server client file_id status
MayRefuse server client (FileRequest.Write file_id number patch) status = IsGone server client file_id status
MayRefuse server client (FileRequest.Close file_id) status = connected_open server client file_id ≡ None

-- A request of a connected client is refused or served.
abbrev pub MayEnd : Server → ℕ → FileRequest → Outcome → Type 0
MayEnd server client request (Outcome.Refused status) =
    (server.present client ≡ true) × MayRefuse server client request status
MayEnd server client request Outcome.Waits = ⊥
MayEnd server client request Outcome.Ready = (server.present client ≡ true) × MayServe server client request

-- ---- guards of the other steps

-- A state that a lease may be lowered to: a granted form, and a proper part of the lease's state.
pub record IsLowered (state : State) (lowered : State) : Type 0 where
  pub is_part : is_state_within lowered state ≡ true
  pub is_granted_form : granted_form_of lowered ≡ lowered
  pub is_less : same_state lowered state ≡ false

-- A lease may be broken: it is there, all its opens are connected, it isn't breaking, and the new state is
-- a part of its state.
pub record MayLower (server : Server) (key : Key) (lowered : State) : Type 0 where
  pub is_there : has_lease server key ≡ true
  pub are_connected : (one : Open) → Among one server.opens → has_key key one ≡ true → one.connected ≡ true
  pub is_settled : is_breaking (server.leases key) ≡ false
  pub is_lowered : IsLowered (server.leases key).state lowered

-- A held request has to wait itself, or waits behind an earlier one, where requests wait well.
abbrev pub MayHold : Server → ℕ → Held → Type 0
MayHold server file one = (server.present one.client ≡ true)
    × (HasToWait server one.client one.request
    ⊎ (WaitsWell server × (is_behind server.rules one (server.held file) ≡ true)))

abbrev pub IsGuarded : SmallStep → Server → Type 0
IsGuarded (SmallStep.Answer client request outcome) server = MayEnd server client request outcome
IsGuarded (SmallStep.AnswerHeld file before one behind outcome) server =
    (server.held file ≡ before ++ one ∷ behind) × MayEnd server one.client one.request outcome
IsGuarded (SmallStep.Acknowledge client given) server = server.present client ≡ true
IsGuarded (SmallStep.Hold file one) server = MayHold server file one
IsGuarded (SmallStep.Drop key) server = ⊤
IsGuarded (SmallStep.Lower key lowered) server =
    MayLower server key lowered × (needs_acknowledgment (server.leases key).state ≡ false)
IsGuarded (SmallStep.Begin key lowered) server =
    MayLower server key lowered × (needs_acknowledgment (server.leases key).state ≡ true)

-- ---- calls by small steps

abbrev pub steps_taken : List SmallStep → Progress → Progress
steps_taken [] progress = progress
steps_taken (step ∷ steps) progress = steps_taken steps (step_taken step progress)

-- each step is guarded where it is taken
abbrev pub AreGuarded : List SmallStep → Progress → Type 0
AreGuarded [] progress = ⊤
AreGuarded (step ∷ steps) progress = IsGuarded step progress.server × AreGuarded steps (step_taken step progress)

-- The request that is answered, held or judged as it comes is that of the call.
abbrev pub IsOfCall : Call → SmallStep → Type 0
IsOfCall call (SmallStep.Answer client request outcome) = call ≡ Call.Receive client (Request.OnFile request)
IsOfCall call (SmallStep.Hold file one) = call ≡ Call.Receive one.client (Request.OnFile one.request)
IsOfCall call (SmallStep.Acknowledge client given) = call ≡ Call.Receive client (Request.Acknowledge given)
IsOfCall call step = ⊤

abbrev pub AreOf : Call → List SmallStep → Type 0
AreOf call [] = ⊤
AreOf call (step ∷ steps) = IsOfCall call step × AreOf call steps

-- Requests have their turn. One that is answered as it comes waits behind none that is held on its file, nor
-- does one that was held; and one is held on its own file, with its lane.
abbrev pub IsInTurn : SmallStep → Server → Type 0
IsInTurn (SmallStep.Answer client request outcome) server = (file : ℕ)
    → file_asked server client request ≡ Ok file
    → is_behind server.rules (as_held server client request) (server.held file) ≡ false
IsInTurn (SmallStep.AnswerHeld file before one behind outcome) server =
    is_behind server.rules one before ≡ false
IsInTurn (SmallStep.Hold file one) server = (file_asked server one.client one.request ≡ Ok file)
    × (one.lane ≡ lane_of server one.client one.request)
IsInTurn step server = ⊤

abbrev pub AreInTurn : List SmallStep → Progress → Type 0
AreInTurn [] progress = ⊤
AreInTurn (step ∷ steps) progress = IsInTurn step progress.server × AreInTurn steps (step_taken step progress)

-- how many steps answer, hold or judge what comes
abbrev pub own_count : List SmallStep → ℕ
own_count [] = 0
own_count (SmallStep.Answer client request outcome ∷ steps) = suc (own_count steps)
own_count (SmallStep.Hold file one ∷ steps) = suc (own_count steps)
own_count (SmallStep.Acknowledge client given ∷ steps) = suc (own_count steps)
own_count (_ ∷ steps) = own_count steps

-- a call under way goes on by guarded steps, so many of which answer, hold or judge what comes
pub record GoesBySteps (call : Call) (own : ℕ) (before : Progress) (after : Progress) : Type 0 where
  pub steps : List SmallStep
  pub are_guarded : AreGuarded steps before
  pub are_in_turn : AreInTurn steps before
  pub are_of : AreOf call steps
  pub are_own : own_count steps ≡ own
  pub lead : after ≡ steps_taken steps before

-- what comes is answered, held or judged once
abbrev pub own_steps : Server → Call → ℕ
own_steps server (Call.Receive client request) = if server.present client then 1 else 0
own_steps server call = 0

-- The part of a call that comes before any request is looked at. It gives nothing out.
abbrev pub call_begun : Server → Call → Progress
call_begun server (Call.Join client) = join server client
call_begun server (Call.Receive client request) = begun server
call_begun server (Call.Cut client) =
    if server.present client
    then client_forgotten client (opens_disconnected client (opens_dropped (is_lost server client) (begun server)))
    else begun server
call_begun server (Call.Expire key) =
    if is_breaking (server.leases key)
    then key_expired key (opens_dropped (has_key key) (begun server))
    else begun server
call_begun server (Call.Scavenge file_id) =
    if list_any (is_left_behind file_id) server.opens
    then opens_dropped (is_left_behind file_id) (begun server)
    else begun server
call_begun server (Call.Withdraw file marks) =
    if has_marked marks (server.held file)
    then held_left file (unmarked marks (server.held file)) (begun server)
    else begun server
call_begun server (Call.GiveUp own file extent) = begun server
call_begun server (Call.Leave client file_ids marks) =
    if server.present client
    then requests_left marks (opens_parted (is_named client file_ids)
    (opens_dropped (is_lost_of server (is_named client file_ids)) (begun server)))
    else begun server

-- Every call goes by guarded small steps.
abbrev pub CallsGoBySteps : Type 0
CallsGoBySteps = (server : Server) (call : Call) → IsSound server → WaitsWell server
    → GoesBySteps call (own_steps server call) (call_begun server call) (called server call)

-- and its first part gives nothing out
abbrev pub CallsBeginInSilence : Type 0
CallsBeginInSilence = (server : Server) (call : Call) → (call_begun server call).outs ≡ []
