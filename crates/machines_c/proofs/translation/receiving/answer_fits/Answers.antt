use Rattle.std.proofs.Common.{refl}
use Rattle.lease_wire.specs.Create.{answer_of}
use Rattle.machines_c.proofs.Answered.{short}
use Rattle.machines_c.proofs.translation.receiving.answer_fits.Goals as goal

pub returns : goal.returns
returns c = short (answer_of c.args.answer.now) c.lease_is_whole.ensures refl
