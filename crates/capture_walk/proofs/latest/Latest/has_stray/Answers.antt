use Rattle.capture_walk.proofs.Later.{strays_now}
use Rattle.capture_walk.proofs.latest.Latest.has_stray.Goals as goal

pub returns : goal.returns
returns c = λ before knows. search (
  c.has_stray.ensures,
  c.deref.ensures.value,
  strays_now before c.args.self.now knows c.args.lease c.args.connection c.args.asked,
)
