use Rattle.lease_laws.proofs.Words.{refl}
use Rattle.leasecheck.proofs.Puts.{none_left, puts_more}
use Rattle.leasecheck.proofs.printing.put.Goals as goal

pub loop-turn-preserved : goal.loop-turn-preserved
loop-turn-preserved g c =
    let so_far = c.loop-turn.invariant in
    let more = puts_more (g.W.Write.contents c.args.out.now) (g.W.Write.contents c.loop-turn.out)
    (g.W.Write.contents c.put_some.new.out) c.args.text.now c.loop-turn.left.now so_far.0 c.in-Ok.count _ so_far.1 refl so_far.2
    c.in-Ok.ensures.written in (
      more.0,
      more.1,
      more.2,
      λ empty. none_left so_far.0 c.loop-turn.left.now c.args.text.now so_far.1 empty c.if-is_empty.ensures,
    )
