use Rattle.lease_laws.proofs.Words.{take}
use Rattle.lease_reasons.specs.Places.{past_of}
use Rattle.lease_reasons.proofs.Standings.{strayed-are, unjoined-are}
use Rattle.lease_reasons.proofs.extent.extent_of.Goals as goal

pub returns : goal.returns
returns c =
    let past = past_of (take c.judged_count-count.result c.args.facts.now) in
    record {
      facts_are = c.judged_count-count.ensures;
      clients = c.in_ok-clients.ensures.named;
      unjoined = unjoined-are past c.in_ok-clients.clients c.in_ok-unjoined.unjoined.items c.in_ok-clients.ensures
          c.in_ok-unjoined.ensures;
      strayed = strayed-are past c.in_ok-clients.clients c.in_ok-strayed.strayed.items c.in_ok-clients.ensures
          c.in_ok-strayed.ensures;
    }
