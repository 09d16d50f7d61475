use Rattle.lease_laws.proofs.Words.{ap}
use Rattle.lease_state.specs.declared.reply.Reply.TheVariants.{AckDone}
use Rattle.share_server.proofs.Sending.{acknowledgment_found, acknowledgment_back}
use Rattle.share_server.proofs.outs.Outs.ack_done.Goals as goal

pub send-requires : goal.send-requires
send-requires c = ap AckDone
    (acknowledgment_back c.encode.result _ c.bytes_laws.ensures.acknowledgment c.encode.ensures.layout c.encode.ensures.text)

pub returns : goal.returns
returns c =
    let found = acknowledgment_found c.encode.result _ c.bytes_laws.ensures.acknowledgment c.encode.ensures.layout in
    rw found at c.in_ok-send.ensures
