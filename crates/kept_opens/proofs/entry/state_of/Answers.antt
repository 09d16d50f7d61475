use Rattle.std.proofs.Common.{◌≡◌, ◌∙◌, ap, rules, arith}
use Rattle.lease_state.specs.State.{state_of_bits, bits_of_state}
use Rattle.lease_state.proofs.StateLemmas.{bits_of_state-small}
use Rattle.kept_opens.proofs.entry.state_of.Goals as goal

pub returns-then-byte-lt8-clause-some : goal.returns-then-byte-lt8-clause-some
returns-then-byte-lt8-clause-some c =
    let same : c.from.result ≡ c.args.byte = search rules in
    ap bits_of_state c.from_wire.ensures.state ∙ ap (λ bits. bits_of_state (state_of_bits bits)) same
    ∙ bits_of_state-small c.args.byte (omega arith)
