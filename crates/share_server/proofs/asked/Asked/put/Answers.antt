use Rattle.lease_laws.proofs.Words.{◌∙◌, ap, put}
use Rattle.share_server.specs.Requests.{file_request_of, requests_of}
use Rattle.share_server.proofs.Asking.{asked_last}
use Rattle.share_server.proofs.asked.Asked.put.Goals as goal

pub returns : goal.returns
returns c = rw (← c.self.view_is) (asked_last (requests_of c.file_away.new.by_tag) c.args.tag c.args.request
    ∙ ap (λ r. put r c.args.tag (file_request_of c.args.request)) (rw c.take-last.ensures.value at c.in_ok-file_away.ensures))
