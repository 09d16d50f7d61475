-- What a refused request leaves alone: every content, and every open but those that its own breaks closed.
use Rattle.std.specs.Prelude.{◌≡◌, ◌⊎◌, ⊤, ℕ, zero, suc, true, false, Option, Some, Ok, Err, List, [], ◌∷◌, ◌++◌}
use Rattle.lease_model.specs.messages.Replies.{Reply, Out}
use Rattle.lease_model.specs.messages.Requests.{FileRequest, Request, LeaseOf}
use Rattle.lease_model.specs.server.Acknowledge.{acknowledged}
use Rattle.lease_model.specs.server.Answers.{concluded}
use Rattle.lease_model.specs.server.Attempt.{Outcome, must_wait, tried, wants_met}
use Rattle.lease_model.specs.server.Calls.{file_asked, first_tried, receive}
use Rattle.lease_model.specs.server.Findings.{Finding, connected_open, finding}
use Rattle.lease_model.specs.server.Lanes.{as_held, is_behind}
use Rattle.lease_model.specs.server.Passes.{Pass, all_passes, tried_again}
use Rattle.lease_model.specs.server.Progress.{Progress, begun, refusal_of, replied}
use Rattle.lease_model.specs.server.Ready.{is_ready}
use Rattle.lease_model.specs.server.State.{Server, Open, Held, has_key}
use Rattle.lease_model.specs.server.Wants.{Want}
use Rattle.lease_laws.specs.server.Laws.{Among}
use Rattle.lease_state.specs.declared.patch.Patch.{Patch}
use Rattle.lease_state.specs.declared.status.Status.{Status}

-- ---- opens that a break closes

-- the request needs leases broken, and isn't ready: a round is made
pub record NeedsRound (client : ℕ) (request : FileRequest) (progress : Progress) (wants : List Want) : Type 0 where
  pub found : finding progress.server client request ≡ Finding.Needs wants
  pub not_ready : is_ready request progress.server.leases wants ≡ false

-- so many rounds of a try lead from one point of it to another
abbrev pub AreRounds : ℕ → ℕ → FileRequest → Progress → Progress → Type 0
AreRounds zero client request progress at = at ≡ progress
AreRounds (suc rounds) client request progress at = (wants : List Want) × NeedsRound client request progress wants
    × (must_wait request (wants_met wants progress) wants ≡ false)
    × AreRounds rounds client request (wants_met wants progress) at

-- A break of a try closed the open: it isn't connected, and in a round of the try its key is wanted.
pub record IsClosedByBreak (client : ℕ) (request : FileRequest) (progress : Progress) (one : Open) : Type 0 where
  pub rounds : ℕ
  pub at : Progress
  pub are_rounds : AreRounds rounds client request progress at
  pub wants : List Want
  pub needs : NeedsRound client request at wants
  pub want : Want
  pub is_wanted : Among want wants
  pub has_the_key : has_key want.key one ≡ true
  pub is_left : one.connected ≡ false

-- No content changes, no open comes, and none goes but such as these.
pub record IsLeftAlone (MayGo : Open → Type 0) (before : Server) (after : Server) : Type 0 where
  pub contents : after.contents ≡ before.contents
  pub were : (one : Open) → Among one after.opens → Among one before.opens
  pub stay : (one : Open) → Among one before.opens → Among one after.opens ⊎ MayGo one

-- ---- requests

-- A request that is refused as it comes changes nothing.
abbrev pub RefusedAsTheyCome : Type 0
RefusedAsTheyCome = (client : ℕ) (request : FileRequest) (progress : Progress) (status : Status)
    → file_asked progress.server client request ≡ Err status
    → (first_tried client request progress).server ≡ progress.server

-- One that was tried and is refused leaves all alone but what its breaks closed.
abbrev pub RefusedOnceTried : Type 0
RefusedOnceTried = (client : ℕ) (request : FileRequest) (progress : Progress) (status : Status)
    → (tried client request progress).outcome ≡ Outcome.Refused status
    → IsLeftAlone (IsClosedByBreak client request progress) progress.server
    (concluded client request (tried client request progress).progress (Outcome.Refused status)).server

-- Between these points of a call the client was sent that its request is refused.
abbrev pub IsRefused : ℕ → FileRequest → Status → Progress → Progress → Type 0
IsRefused client request status before after = (sent : List Out) × (after.outs ≡ before.outs ++ sent)
    × Among (Out.Sent client (refusal_of request status)) sent

-- Wherever in its first try a request is refused, also as it is granted, all is left alone but what its breaks closed.
abbrev pub RefusedByReply : Type 0
RefusedByReply = (client : ℕ) (request : FileRequest) (progress : Progress) (status : Status)
    → IsRefused client request status progress (first_tried client request progress)
    → IsLeftAlone (IsClosedByBreak client request progress) progress.server (first_tried client request progress).server

-- So it is where one that was held is tried again.
abbrev pub HeldAreRefusedByReply : Type 0
HeldAreRefusedByReply = (file : ℕ) (one : Held) (waiting : List Held) (pass : Pass) (status : Status)
    → IsRefused one.client one.request status pass.progress (tried_again file one waiting pass).progress
    → IsLeftAlone (IsClosedByBreak one.client one.request pass.progress) pass.progress.server
    (tried_again file one waiting pass).progress.server

-- Only a Close that is refused as it comes is refused.
abbrev pub ClosesAreRefusedAsTheyCome : Type 0
ClosesAreRefusedAsTheyCome = (client file_id : ℕ) (progress : Progress) (status : Status)
    → (tried client (FileRequest.Close file_id) progress).outcome ≡ Outcome.Refused status
    → file_asked progress.server client (FileRequest.Close file_id) ≡ Err status

-- An acknowledgment that is refused changes nothing.
abbrev pub RefusedAcknowledgments : Type 0
RefusedAcknowledgments = (client : ℕ) (given : Option LeaseOf) (progress : Progress) (status : Status)
    → (acknowledged client given progress).outs ≡ progress.outs ++ Out.Sent client (Reply.AckFailed status) ∷ []
    → (acknowledged client given progress).server ≡ progress.server

-- ---- whole calls

-- after a Close come the passes over held requests, whatever became of it
abbrev pub passes_behind : FileRequest → Progress → Progress
passes_behind (FileRequest.Close file_id) progress = all_passes progress
passes_behind request progress = progress

-- A call whose request is refused as it comes tells the refusal, and else makes the passes alone, over the server as
-- it was.
abbrev pub CallsRefusedAsTheyCome : Type 0
CallsRefusedAsTheyCome = (server : Server) (client : ℕ) (request : FileRequest) (status : Status)
    → server.present client ≡ true → file_asked server client request ≡ Err status
    → receive server client (Request.OnFile request)
    ≡ passes_behind request (replied client (refusal_of request status) (begun server))

-- So does one whose acknowledgment is refused.
abbrev pub CallsOfRefusedAcknowledgments : Type 0
CallsOfRefusedAcknowledgments = (server : Server) (client : ℕ) (given : Option LeaseOf) (status : Status)
    → server.present client ≡ true
    → (acknowledged client given (begun server)).outs ≡ Out.Sent client (Reply.AckFailed status) ∷ []
    → receive server client (Request.Acknowledge given)
    ≡ all_passes (replied client (Reply.AckFailed status) (begun server))

-- A call whose request is tried and refused leaves all alone but what its breaks closed.
abbrev pub CallsRefusedOnceTried : Type 0
CallsRefusedOnceTried = (server : Server) (client file : ℕ) (request : FileRequest) (status : Status)
    → server.present client ≡ true → file_asked server client request ≡ Ok file
    → is_behind server.rules (as_held server client request) (server.held file) ≡ false
    → (tried client request (begun server)).outcome ≡ Outcome.Refused status
    → IsLeftAlone (IsClosedByBreak client request (begun server)) server
    (receive server client (Request.OnFile request)).server

-- passes come only after a Close
abbrev pub IsClose : FileRequest → Type 0
IsClose (FileRequest.Close file_id) = ⊤
IsClose request = ⊥

-- So does one whose request is refused by whatever it sends.
abbrev pub CallsRefusedByReply : Type 0
CallsRefusedByReply = (server : Server) (client : ℕ) (request : FileRequest) (status : Status) → (IsClose request → ⊥)
    → IsRefused client request status (begun server) (receive server client (Request.OnFile request))
    → IsLeftAlone (IsClosedByBreak client request (begun server)) server
    (receive server client (Request.OnFile request)).server

-- ---- passes

-- the same open, to which its client may have come back since
pub record IsSameOpen (one : Open) (other : Open) : Type 0 where
  pub file_id : other.file_id ≡ one.file_id
  pub client : other.client ≡ one.client
  pub file : other.file ≡ one.file
  pub lease_key : other.lease_key ≡ one.lease_key

-- A break of a try of the held request closed the open, at a point where the request was still held.
pub record IsClosedForHeld (file : ℕ) (held : Held) (one : Open) : Type 0 where
  pub at : Progress
  pub still_held : Among held (at.server.held file)
  pub now : Open
  pub same : IsSameOpen one now
  pub still_there : Among now at.server.opens
  pub closed : IsClosedByBreak held.client held.request at now

-- A held request took the open away: it closes it, or a break of one of its tries did.
pub record IsTakenByHeld (requests : ℕ → List Held) (one : Open) : Type 0 where
  pub file : ℕ
  pub held : Held
  pub was_held : Among held (requests file)
  pub why : (held.request ≡ FileRequest.Close one.file_id) ⊎ IsClosedForHeld file held one

-- A held write changed the file, by an open of its client on that.
pub record IsChangedByHeld (requests : ℕ → List Held) (file : ℕ) : Type 0 where
  pub held_on : ℕ
  pub held : Held
  pub was_held : Among held (requests held_on)
  pub file_id : ℕ
  pub number : ℕ
  pub patch : Patch
  pub is_write : held.request ≡ FileRequest.Write file_id number patch
  pub at : Progress
  pub one : Open
  pub found : connected_open at.server held.client file_id ≡ Some one
  pub is_on : one.file ≡ file

-- What changes is the doing of held requests: a content changes only where a held write changed it, and an open goes
-- only where a held request took it away.
pub record IsLeftToHeld (requests : ℕ → List Held) (before : Server) (after : Server) : Type 0 where
  pub contents : (file : ℕ) → (after.contents file ≡ before.contents file) ⊎ IsChangedByHeld requests file
  pub stay : (one : Open) → Among one before.opens
      → ((now : Open) × IsSameOpen one now × Among now after.opens) ⊎ IsTakenByHeld requests one

-- So it is of all passes, also of those after a Close or an acknowledgment that is refused.
abbrev pub PassesAreOfHeld : Type 0
PassesAreOfHeld = (progress : Progress)
    → IsLeftToHeld progress.server.held progress.server (all_passes progress).server
