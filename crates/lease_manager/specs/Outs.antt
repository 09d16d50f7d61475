-- A call under way, and what it comes to.
use Rattle.std.specs.Prelude.{◌≡◌, Some, None, Option, Bool, true, List, [], ◌∷◌, map}
use Rattle.std.specs.Option.{option_map}
use Rattle.lease_state.specs.State.{state_of}
use Rattle.lease_state.specs.declared.key.LeaseKey.{LeaseKey}
use Rattle.lease_state.specs.declared.state.LeaseState.{LeaseState}
use Rattle.lease_model.specs.messages.Replies as model
use Rattle.lease_model.specs.server.Progress.{Progress, break_notice, refusal_of}
use Rattle.manager_model.specs.Decisions as told
use Rattle.manager_model.specs.Handling.{Handling}
use Rattle.lease_manager.specs.Requests.{patch_like, request_like}
use Rattle.lease_manager.specs.Table.{Table, manager_of, server_of}
use Rattle.lease_manager.specs.declared.values.decision.BreakNotice as notice
use Rattle.lease_manager.specs.declared.values.decision.CreateAnswer as answer
use Rattle.lease_manager.specs.declared.values.decision.Decision as decision
use Rattle.lease_manager.specs.declared.values.out.Out as code

-- the server that the tables stand for, and what was given out so far
abbrev pub progress_of : Table → List model.Out → Progress
progress_of table outs = record { server = server_of table; outs = outs }

-- the manager that the tables stand for, and what was told so far
abbrev pub handling_of : Table → List told.Decision → Handling
handling_of table decisions = record { manager = manager_of table; told = decisions }

abbrev pub lease_told : LeaseKey × LeaseState × Bool → model.LeaseGiven
lease_told lease = record { key = lease.0.0; state = state_of lease.1; in_progress = lease.2 }

abbrev pub answer_told : answer.CreateAnswer → model.CreateAnswer
answer_told given = record { lease = option_map lease_told given.lease; durable = given.durable }

abbrev pub out_of : code.Out → model.Out
out_of (code.TheVariants.Opened file client) = model.Out.Opened file.0 client.0
out_of (code.TheVariants.Changed file client) = model.Out.Changed file.0 client.0 0 (patch_like true)
out_of (code.TheVariants.Created client file file_id given) =
    model.Out.Sent client.0 (model.Reply.Created file.0 file_id.0 (Some (answer_told given)))
out_of (code.TheVariants.Refused client ask status) = model.Out.Sent client.0 (refusal_of (request_like ask) status)
out_of (code.TheVariants.ReadDone client file_id) = model.Out.Sent client.0 (model.Reply.ReadDone file_id.0 [])
out_of (code.TheVariants.WriteDone client file_id) = model.Out.Sent client.0 (model.Reply.WriteDone file_id.0 0)
out_of (code.TheVariants.Closed client file_id) = model.Out.Sent client.0 (model.Reply.Closed file_id.0)
out_of (code.TheVariants.Broken key current lowered) =
    model.Out.Sent key.client (break_notice key (state_of current) (state_of lowered))
out_of (code.TheVariants.Acknowledged key state) =
    model.Out.Sent key.client (model.Reply.AckDone (Some (record { key = key.bytes; state = state_of state })))
out_of (code.TheVariants.NotAcknowledged client status) = model.Out.Sent client.0 (model.Reply.AckFailed status)

abbrev pub notice_of : notice.BreakNotice → model.BreakNotice
notice_of given = record {
  ack_required = given.ack_required;
  key = given.key.0;
  current = state_of given.current;
  lowered = state_of given.lowered;
}

-- what is told, as the definitions see it
abbrev pub decision_of : decision.Decision → told.Decision
decision_of (decision.TheVariants.Opened client tag file_id given) =
    told.Decision.Opened client.0 tag.0 file_id.0 (answer_told given)
decision_of (decision.TheVariants.GoesOn client tag) = told.Decision.GoesOn client.0 tag.0
decision_of (decision.TheVariants.Closed client tag) = told.Decision.Closed client.0 tag.0
decision_of (decision.TheVariants.Refused client tag status) = told.Decision.Refused client.0 tag.0 status
decision_of (decision.TheVariants.Waits client tag) = told.Decision.Waits client.0 tag.0
decision_of (decision.TheVariants.Withdrawn client tag) = told.Decision.Withdrawn client.0 tag.0
decision_of (decision.TheVariants.Breaks client given) = told.Decision.Breaks client.0 (notice_of given)
decision_of (decision.TheVariants.Acknowledged client key state) =
    told.Decision.Acknowledged client.0 (record { key = key.0; state = state_of state })
decision_of (decision.TheVariants.NotAcknowledged client status) = told.Decision.NotAcknowledged client.0 status
decision_of (decision.TheVariants.Ended file_id) = told.Decision.Ended file_id.0
decision_of (decision.TheVariants.LeftBehind file_id) = told.Decision.LeftBehind file_id.0

abbrev pub decisions : List decision.Decision → List told.Decision
decisions items = map decision_of items

abbrev pub option_list : Option told.Decision → List told.Decision
option_list None = []
option_list (Some decision) = decision ∷ []

-- The tables stand for the manager after a call of the rules, and the list is what it tells, in order.
pub record IsAfter (table : Table) (given : List decision.Decision) (after : Handling) : Type 0 where
  pub manager : manager_of table ≡ after.manager
  pub told : decisions given ≡ after.told
