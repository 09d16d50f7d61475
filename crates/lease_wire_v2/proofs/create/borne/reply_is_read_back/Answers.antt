use Rattle.std.proofs.Common.{refl}
use Rattle.lease_wire.specs.declared.create.Direction.TheVariants.{Reply}
use Rattle.lease_wire_v2.specs.Views.{answer_of}
use Rattle.lease_wire_v2.proofs.CanonicalLaws.{written_reads_back, reply_together}
use Rattle.lease_wire_v2.proofs.create.borne.reply_is_read_back.Goals as goal

pub returns : goal.returns
returns c = written_reads_back Reply (answer_of c.args.answer) (record {
  lease = c.any_lease_answer_is_borne.ensures;
  durable = c.durable_answer_is_borne.ensures.borne;
  directed = c.durable_answer_is_borne.ensures.directed;
  reconnect = tt;
  reconnects = refl;
  together = reply_together (answer_of c.args.answer).durable;
})
