use Rattle.lease_laws.proofs.Words.{arith}
use Rattle.text_laws.proofs.typing.are_bytes.Goals as goal

pub returns : goal.returns
returns c = λ i. let f = c.type_inv.items i in omega arith
