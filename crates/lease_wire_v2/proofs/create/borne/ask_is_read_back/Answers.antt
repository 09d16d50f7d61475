use Rattle.lease_wire.specs.declared.create.Direction.TheVariants.{Request}
use Rattle.lease_wire_v2.specs.Views.{ask_of}
use Rattle.lease_wire_v2.proofs.CanonicalLaws.{written_reads_back}
use Rattle.lease_wire_v2.proofs.create.borne.ask_is_read_back.Goals as goal

pub returns : goal.returns
returns c = λ together. written_reads_back Request (ask_of c.args.ask) (record {
  lease = c.any_lease_ask_is_borne.ensures;
  durable = c.durable_ask_is_borne.ensures.borne;
  directed = c.durable_ask_is_borne.ensures.directed;
  reconnect = c.reconnect_is_borne.ensures;
  reconnects = tt;
  together = together;
})
