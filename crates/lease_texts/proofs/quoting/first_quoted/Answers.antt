use Rattle.std.proofs.Common.{sym, arith}
use Rattle.std.proofs.lemmas.List.{take_all}
use Rattle.lease_texts.proofs.quoting.first_quoted.Goals as goal

pub returns-else-bytes-gt40 : goal.returns-else-bytes-gt40
returns-else-bytes-gt40 c = sym (take_all 40 c.args.bytes.now (omega (arith, c.if-bytes-gt40.false)))
