use Rattle.lease_laws.proofs.Words.{◌++◌, ◌∙◌, ◌∷◌, ap, ap₂, arith, numbered, refl, [], Out, Reply, Some, refusal_of, LeaseOf}
use Rattle.lease_manager.specs.Outs.{answer_told, notice_of}
use Rattle.lease_state.specs.State.{state_of}
use Rattle.manager_model.specs.Decisions.{Decision}
use Rattle.manager_model.specs.Hosting.{closed_as, gone_on_with, opened_as}
use Rattle.share_server.specs.Table.{handles_in, hosted, no_request}
use Rattle.share_server.specs.contracts.host.Host.{the_view}
use Rattle.share_server.proofs.Carrying.{answered, noted, other_tag}
use Rattle.share_server.proofs.host.Host.carry_out.Goals as goal

pub returns-in_ok-open-in-Opened : goal.returns-in_ok-open-in-Opened
returns-in_ok-open-in-Opened c =
    let old = the_view c.self.inside in
    rw (c.in-Opened.is, ← c.self.view_is) (answered
    (Decision.Opened c.in-Opened.client.0 c.in-Opened.tag.0 c.in-Opened.file_id.0 (answer_told c.in-Opened.answer))
    c.in-Opened.tag.0 no_request old _ c.args.outs.now c.open.new.outs
    (λ at none. other_tag c.in-Opened.tag.0 at (omega (arith, none))) c.take-request.ensures.left
    (c.in_ok-open-in-Opened.ensures (numbered [] old.contents)
    ∙ ap₂ (λ n request. opened_as n c.in-Opened.file_id.0 (answer_told c.in-Opened.answer) request
    (hosted (numbered [] old.contents) (handles_in old.handles) c.args.outs.now))
    c.in_ok-client-in-Opened.ensures c.take-request.ensures.taken) refl)

pub returns-in_ok-go_on-in-GoesOn : goal.returns-in_ok-go_on-in-GoesOn
returns-in_ok-go_on-in-GoesOn c =
    let old = the_view c.self.inside in
    rw (c.in-GoesOn.is, ← c.self.view_is) (answered (Decision.GoesOn c.in-GoesOn.client.0 c.in-GoesOn.tag.0)
    c.in-GoesOn.tag.0 no_request old _ c.args.outs.now c.go_on.new.outs
    (λ at none. other_tag c.in-GoesOn.tag.0 at (omega (arith, none))) c.take-request-in-GoesOn.ensures.left
    (c.in_ok-go_on-in-GoesOn.ensures
    ∙ ap₂ (λ n request. gone_on_with n request (hosted (numbered [] old.contents) (handles_in old.handles) c.args.outs.now))
    c.in_ok-client-in-GoesOn.ensures c.take-request-in-GoesOn.ensures.taken) refl)

pub returns-in_ok-close-in-Closed : goal.returns-in_ok-close-in-Closed
returns-in_ok-close-in-Closed c =
    let old = the_view c.self.inside in
    rw (c.in-Closed.is, ← c.self.view_is) (answered (Decision.Closed c.in-Closed.client.0 c.in-Closed.tag.0)
    c.in-Closed.tag.0 no_request old _ c.args.outs.now c.close.new.outs
    (λ at none. other_tag c.in-Closed.tag.0 at (omega (arith, none))) c.take-request-in-Closed.ensures.left
    (c.in_ok-close-in-Closed.ensures (numbered [] old.contents) (handles_in old.handles)
    ∙ ap₂ (λ n request. closed_as n request (hosted (numbered [] old.contents) (handles_in old.handles) c.args.outs.now))
    c.in_ok-client-in-Closed.ensures c.take-request-in-Closed.ensures.taken) refl)

pub returns-in_ok-refuse-in-Refused : goal.returns-in_ok-refuse-in-Refused
returns-in_ok-refuse-in-Refused c =
    let old = the_view c.self.inside in
    rw (c.in-Refused.is, ← c.self.view_is) (answered
    (Decision.Refused c.in-Refused.client.0 c.in-Refused.tag.0 c.in-Refused.status)
    c.in-Refused.tag.0 no_request old _ c.args.outs.now c.refuse.new.outs
    (λ at none. other_tag c.in-Refused.tag.0 at (omega (arith, none))) c.take-request-in-Refused.ensures.left
    (ap (hosted (numbered [] old.contents) (handles_in old.handles)) (c.in_ok-refuse-in-Refused.ensures
    ∙ ap₂ (λ n request. c.args.outs.now ++ Out.Sent n (refusal_of request c.in-Refused.status) ∷ [])
    c.in_ok-client-in-Refused.ensures c.take-request-in-Refused.ensures.taken)) refl)

pub returns-in_ok-lease_broken-in-Breaks : goal.returns-in_ok-lease_broken-in-Breaks
returns-in_ok-lease_broken-in-Breaks c =
    rw (c.in-Breaks.is) (noted (Decision.Breaks c.in-Breaks.client.0 (notice_of c.in-Breaks.notice)) c.args.self.now
    c.args.outs.now c.lease_broken.new.self
    (ap (hosted (numbered [] c.args.self.now.contents) (handles_in c.args.self.now.handles))
    (c.in_ok-lease_broken-in-Breaks.ensures
    ∙ ap (λ n. c.args.outs.now ++ Out.Sent n (Reply.Break (Some (notice_of c.in-Breaks.notice))) ∷ [])
    c.in_ok-client_of-in-Breaks.ensures)))

pub returns-in_ok-ack_done-in-Acknowledged : goal.returns-in_ok-ack_done-in-Acknowledged
returns-in_ok-ack_done-in-Acknowledged c =
    let given : LeaseOf = record { key = c.in-Acknowledged.key.0; state = state_of c.in-Acknowledged.state } in
    rw (c.in-Acknowledged.is) (noted (Decision.Acknowledged c.in-Acknowledged.client.0 given) c.args.self.now
    c.args.outs.now c.ack_done.new.self
    (ap (hosted (numbered [] c.args.self.now.contents) (handles_in c.args.self.now.handles))
    (c.in_ok-ack_done-in-Acknowledged.ensures
    ∙ ap (λ n. c.args.outs.now ++ Out.Sent n (Reply.AckDone (Some given)) ∷ []) c.in_ok-client_of-in-Acknowledged.ensures)))

pub returns-in_ok-refuse_ack-in-NotAcknowledged : goal.returns-in_ok-refuse_ack-in-NotAcknowledged
returns-in_ok-refuse_ack-in-NotAcknowledged c =
    rw (c.in-NotAcknowledged.is) (noted (Decision.NotAcknowledged c.in-NotAcknowledged.client.0 c.in-NotAcknowledged.status)
    c.args.self.now c.args.outs.now c.refuse_ack.new.self
    (ap (hosted (numbered [] c.args.self.now.contents) (handles_in c.args.self.now.handles))
    (c.in_ok-refuse_ack-in-NotAcknowledged.ensures
    ∙ ap (λ n. c.args.outs.now ++ Out.Sent n (Reply.AckFailed c.in-NotAcknowledged.status) ∷ [])
    c.in_ok-client_of-in-NotAcknowledged.ensures)))

pub returns-in-Waits : goal.returns-in-Waits
returns-in-Waits c = rw (c.in-Waits.is) (noted _ c.args.self.now c.args.outs.now c.args.outs.now refl)

pub returns-in-Withdrawn : goal.returns-in-Withdrawn
returns-in-Withdrawn c = rw (c.in-Withdrawn.is) (noted _ c.args.self.now c.args.outs.now c.args.outs.now refl)

pub returns-in-Ended : goal.returns-in-Ended
returns-in-Ended c = rw (c.in-Ended.is) (noted _ c.args.self.now c.args.outs.now c.args.outs.now refl)

pub returns-in-LeftBehind : goal.returns-in-LeftBehind
returns-in-LeftBehind c = rw (c.in-LeftBehind.is) (noted _ c.args.self.now c.args.outs.now c.args.outs.now refl)
