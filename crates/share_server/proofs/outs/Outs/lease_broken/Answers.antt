use Rattle.lease_laws.proofs.Words.{ap}
use Rattle.lease_state.specs.declared.reply.Reply.TheVariants.{Break}
use Rattle.share_server.proofs.Sending.{notice_found, notice_back}
use Rattle.share_server.proofs.outs.Outs.lease_broken.Goals as goal

pub send-requires : goal.send-requires
send-requires c =
    ap Break (notice_back c.encode.result _ c.bytes_laws.ensures.notification c.encode.ensures.layout c.encode.ensures.text)

pub returns : goal.returns
returns c =
    let found = notice_found c.encode.result _ c.bytes_laws.ensures.notification c.encode.ensures.layout in
    rw found at c.in_ok-send.ensures
