use Rattle.std.proofs.Common.{◌∷◌, ℕ, List, drop, ap, sym, subst, ◌∙◌, ◌++◌, []}
use Rattle.capture_wire.specs.declared.message.Message.{Message}
use Rattle.capture_walk.specs.Compounds.{HoldsMessages}
use Rattle.capture_walk.proofs.Compounds.{holds_next, fails_next}
use Rattle.capture_walk.proofs.compound.read_frame.Goals as goal

pub returns-in-Err-clause-fault : goal.returns-in-Err-clause-fault
returns-in-Err-clause-fault c =
    (c.loop-first.messages.items ++ [], c.loop-first.invariant.fails [] c.in-Err.fault c.in-Err.ensures.fault)

pub returns-then-is_last-clause-read : goal.returns-then-is_last-clause-read
returns-then-is_last-clause-read c =
    subst (λ (xs : List Message). HoldsMessages c.args.bytes.now xs) (sym c.in_ok-push.ensures)
    (c.loop-first.invariant.holds (c.in-Ok.first.0 ∷ [])
    (sym c.is_last.ensures ∙ c.if-is_last.true, c.in-Ok.ensures.read))

pub loop-first-preserved : goal.loop-first-preserved
loop-first-preserved c =
    let whole = c.args.bytes.now in
    let rest = c.loop-first.rest.now in
    let behind = c.split_at.result.1.now in
    let more = sym c.is_last.ensures ∙ c.if-is_last.false in
    let at = c.split_at.ensures.back ∙ ap (λ (n : ℕ). drop n rest) c.in-Ok.ensures.size in
    record {
      holds = holds_next whole rest behind c.loop-first.messages.items c.push.new.messages.items c.in-Ok.first.0
          c.loop-first.invariant.holds more c.in-Ok.ensures.read at c.in_ok-push.ensures;
      fails = fails_next whole rest behind c.loop-first.messages.items c.push.new.messages.items c.in-Ok.first.0
          c.loop-first.invariant.fails more c.in-Ok.ensures.read at c.in_ok-push.ensures;
    }
