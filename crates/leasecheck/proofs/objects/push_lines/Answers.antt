use Rattle.std.proofs.Common.{◌++◌, ◌∙◌, List, ap, sym}
use Rattle.std.proofs.lemmas.List.{append-nil}
use Rattle.json.specs.Token.{Token}
use Rattle.leasecheck.proofs.Members.{none_left}
use Rattle.leasecheck.proofs.objects.push_lines.Goals as goal

pub returns-clause-tokens : goal.returns-clause-tokens
returns-clause-tokens c =
    let empty = sym c.is_empty.ensures ∙ c.loop-rest-test.false in
    sym (append-nil c.loop-rest.object.tokens) ∙ (ap (λ (said : List Token). c.loop-rest.object.tokens ++ said)
    (sym (none_left c.loop-rest.rest.now empty)) ∙ c.loop-rest.invariant.1)
