use Rattle.leasecheck.proofs.Headers.{shown_behind}
use Rattle.leasecheck.proofs.wire.render.render_message.Goals as goal

pub returns-in-Break-clause-shown : goal.returns-in-Break-clause-shown
returns-in-Break-clause-shown c = rw (c.in-Break.is) (shown_behind _ c.render_break.result c.behind_header.result
    (rw (c.body_of-body.ensures) at c.render_break.ensures.shown) c.behind_header.ensures.shown)

pub returns-in-Break-clause-refused : goal.returns-in-Break-clause-refused
returns-in-Break-clause-refused c = rw (c.in-Break.is)
    (c.behind_header.ensures.refused _ (rw (c.body_of-body.ensures) at c.render_break.ensures.refused))

pub returns-in-Ack-clause-shown : goal.returns-in-Ack-clause-shown
returns-in-Ack-clause-shown c = rw (c.in-Ack.is) (shown_behind _ c.render_acknowledgment.result c.behind_header-in-Ack.result
    (rw (c.body_of-body.ensures) at c.render_acknowledgment.ensures.shown) c.behind_header-in-Ack.ensures.shown)

pub returns-in-Ack-clause-refused : goal.returns-in-Ack-clause-refused
returns-in-Ack-clause-refused c = rw (c.in-Ack.is)
    (c.behind_header-in-Ack.ensures.refused _ (rw (c.body_of-body.ensures) at c.render_acknowledgment.ensures.refused))

pub returns-in-Response-clause-shown : goal.returns-in-Response-clause-shown
returns-in-Response-clause-shown c = rw (c.in-Response.is) (shown_behind _ c.render_response.result
    c.behind_header-in-Response.result
    (rw (c.body_of-body.ensures) at c.render_response.ensures.shown) c.behind_header-in-Response.ensures.shown)

pub returns-in-Response-clause-refused : goal.returns-in-Response-clause-refused
returns-in-Response-clause-refused c = rw (c.in-Response.is)
    (c.behind_header-in-Response.ensures.refused _ (rw (c.body_of-body.ensures) at c.render_response.ensures.refused))
