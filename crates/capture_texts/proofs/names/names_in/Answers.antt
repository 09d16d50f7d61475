use Rattle.std.proofs.Common.{List, subst, sym}
use Rattle.capture_texts.proofs.Remaining.{Left, at_first, none_left, with_one}
use Rattle.capture_texts.specs.Names.{names_in}
use Rattle.capture_texts.specs.declared.names.MessageName.{MessageName}
use Rattle.capture_texts.proofs.names.names_in.Goals as goal

pub loop-name-init : goal.loop-name-init
loop-name-init c = subst (λ (names : List MessageName). Left names c.args.bytes.now (names_in c.args.bytes.now))
    (sym c.new-items.ensures.items) (at_first c.args.bytes.now)

pub loop-name-preserved : goal.loop-name-preserved
loop-name-preserved c =
    subst (λ (names : List MessageName). Left names c.split_at.result.1.now (names_in c.args.bytes.now))
    (sym c.in_ok-push.ensures.items)
    (with_one c.loop-name.items.items c.loop-name.rest.now c.split_at.result.1.now c.in-Some.name c.in-Some.size
    (names_in c.args.bytes.now) (sym c.in-Some.ensures.found) c.in-Some.ensures.name c.in-Some.ensures.size
    c.in-Some.ensures.within.0 c.in-Some.ensures.within.1 c.split_at.ensures.back c.loop-name.invariant)

pub returns : goal.returns
returns c = none_left c.loop-name.items.items c.loop-name.rest.now (names_in c.args.bytes.now) (sym c.in_default.ensures.found)
    c.loop-name.invariant
