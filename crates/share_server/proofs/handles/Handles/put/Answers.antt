use Rattle.lease_laws.proofs.Words.{Some}
use Rattle.share_server.proofs.Maps.{changes}
use Rattle.share_server.proofs.handles.Handles.put.Goals as goal

pub returns : goal.returns
returns c = rw (← c.self.view_is) (changes (λ n. n) 0 c.self.inside.files c.insert.new.self c.args.fid.0
    (Some c.args.file.0) c.in_ok-insert.ensures.updates)
