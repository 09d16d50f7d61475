use Rattle.lease_laws.proofs.Words.{None}
use Rattle.share_server.proofs.Maps.{changes}
use Rattle.share_server.proofs.handles.Handles.remove.Goals as goal

pub returns : goal.returns
returns c = rw (← c.self.view_is) (changes (λ n. n) 0 c.self.inside.files c.remove.new.self c.args.fid.0 None
    c.remove.ensures.updates)
