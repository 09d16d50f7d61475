use Rattle.lease_laws.proofs.Words.{Some}
use Rattle.share_server.specs.Requests.{file_request_of, requests_of}
use Rattle.share_server.specs.Table.{no_request}
use Rattle.share_server.proofs.Asking.{filed}
use Rattle.share_server.proofs.Maps.{changes}
use Rattle.share_server.proofs.asked.file_away.Goals as goal

pub returns-in_ok-insert-in-Some : goal.returns-in_ok-insert-in-Some
returns-in_ok-insert-in-Some c = rw (c.in-Some.is) (filed (requests_of c.args.by_tag.now) (requests_of c.insert.new.self)
    c.in-Some.tag
    c.in-Some.request (changes file_request_of no_request c.args.by_tag.now c.insert.new.self c.in-Some.tag
    (Some c.in-Some.request) c.in_ok-insert-in-Some.ensures.updates))
