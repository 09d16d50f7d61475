use Rattle.lease_laws.proofs.Words.{◌∙◌, ap, sym}
use Rattle.share_server.proofs.Maps.{gets, or_else}
use Rattle.share_server.proofs.handles.Handles.file.Goals as goal

pub returns-in-Some : goal.returns-in-Some
returns-in-Some c = rw (← c.self.view_is)
    (ap (or_else (λ n. n) 0) c.in-Some.ensures.value ∙ sym (gets (λ n. n) 0 c.self.inside.files c.args.fid.0))

pub returns-in-None : goal.returns-in-None
returns-in-None c = rw (← c.self.view_is)
    (ap (or_else (λ n. n) 0) c.in-None.ensures.value ∙ sym (gets (λ n. n) 0 c.self.inside.files c.args.fid.0))
