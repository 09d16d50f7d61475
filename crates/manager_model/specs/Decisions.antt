-- What a manager of leases tells the server that it stands in.
use Rattle.std.specs.Prelude.{ℕ, Some, None, List, [], ◌∷◌, flat_map}
use Rattle.lease_state.specs.declared.status.Status.{Status}
use Rattle.lease_model.specs.messages.Replies.{Reply, Out, BreakNotice, CreateAnswer}
use Rattle.lease_model.specs.messages.Requests.{LeaseOf}

-- Opened answers a create under its tag, GoesOn says that a read or a write is to be done now, Closed answers a close, and
-- Refused any of them by a status. Waits: the request waits for a break, and another decision under its tag follows.
-- Withdrawn: it was taken back. Breaks: the client is sent the notice of a break. Acknowledged and NotAcknowledged answer an
-- acknowledgment. Ended: an open is no more though its client didn't close it, and its host lets go of what it opened.
-- LeftBehind: an open waits for its client from now on, and its host starts its timer.
pub data Decision : Type 0 where
  Opened : (client tag file_id : ℕ) (answer : CreateAnswer) → Decision
  GoesOn : (client tag : ℕ) → Decision
  Closed : (client tag : ℕ) → Decision
  Refused : (client tag : ℕ) (status : Status) → Decision
  Waits : (client tag : ℕ) → Decision
  Withdrawn : (client tag : ℕ) → Decision
  Breaks : (client : ℕ) (notice : BreakNotice) → Decision
  Acknowledged : (client : ℕ) (given : LeaseOf) → Decision
  NotAcknowledged : (client : ℕ) (status : Status) → Decision
  Ended : (file_id : ℕ) → Decision
  LeftBehind : (file_id : ℕ) → Decision

-- What is told in place of a reply that the server of the rules sends for the request under a tag.
abbrev pub told_of_reply : ℕ → ℕ → Reply → List Decision
told_of_reply tag client (Reply.Created file file_id None) = []
told_of_reply tag client (Reply.Created file file_id (Some answer)) = Decision.Opened client tag file_id answer ∷ []
told_of_reply tag client (Reply.CreateFailed file status) = Decision.Refused client tag status ∷ []
told_of_reply tag client (Reply.ReadDone file_id bytes) = Decision.GoesOn client tag ∷ []
told_of_reply tag client (Reply.ReadFailed file_id status) = Decision.Refused client tag status ∷ []
told_of_reply tag client (Reply.WriteDone file_id number) = Decision.GoesOn client tag ∷ []
told_of_reply tag client (Reply.WriteFailed file_id number status) = Decision.Refused client tag status ∷ []
told_of_reply tag client (Reply.Closed file_id) = Decision.Closed client tag ∷ []
told_of_reply tag client (Reply.CloseFailed file_id status) = Decision.Refused client tag status ∷ []
told_of_reply tag client (Reply.Break None) = []
told_of_reply tag client (Reply.Break (Some notice)) = Decision.Breaks client notice ∷ []
told_of_reply tag client (Reply.AckDone None) = []
told_of_reply tag client (Reply.AckDone (Some given)) = Decision.Acknowledged client given ∷ []
told_of_reply tag client (Reply.AckFailed status) = Decision.NotAcknowledged client status ∷ []

-- That a file is opened or changed is told by the answer that goes with it.
abbrev pub told_of_out : ℕ → Out → List Decision
told_of_out tag (Out.Sent client reply) = told_of_reply tag client reply
told_of_out tag (Out.Opened file client) = []
told_of_out tag (Out.Changed file client number patch) = []

abbrev pub told_of : ℕ → List Out → List Decision
told_of tag outs = flat_map (told_of_out tag) outs
