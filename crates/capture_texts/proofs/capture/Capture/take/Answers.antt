use Rattle.std.proofs.Common.{refl}
use Rattle.capture_texts.proofs.Taken.{knows_more}
use Rattle.capture_texts.proofs.capture.Capture.take.Goals as goal

pub returns-clause-taken : goal.returns-clause-taken
returns-clause-taken c = λ past knows.
    let taken = c.in_ok-is_read.ensures.taken past knows.seen knows.has in
    knows_more c.args.line past taken.0 c.args.self.now c.take_said.new.self
    (record {
      at = c.take_said.new.self.at;
      kept = c.push.new.self;
      connections = c.take_said.new.self.connections;
      servers = c.take_said.new.self.servers;
      walking = c.take_said.new.self.walking;
    })
    _ c.in_ok-is_read.is_read knows taken.1 taken.2 refl refl refl refl c.in_ok-push.ensures.items refl
    c.is_frame-is_frame.ensures refl
