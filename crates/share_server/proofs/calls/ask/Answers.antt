use Rattle.manager_model.specs.Hosting.{Coming}
use Rattle.share_server.specs.Requests.{file_request_of}
use Rattle.share_server.proofs.Calling.{comes_asked, way}
use Rattle.share_server.proofs.calls.ask.Goals as goal

pub settle-requires-clause-way : goal.settle-requires-clause-way
settle-requires-clause-way c = way _ (Coming.Asks c.args.client.0 c.args.host.now.next (file_request_of c.args.request)) _ _ _ _
    c.requires.server (comes_asked _ _ c.args.client.0 _ c.requires.server c.in_ok-tag.ensures.asked) c.deref.ensures.value
    (rw (c.client_no.ensures, c.in_ok-tag.ensures.tag, c.ask-asked.ensures) at c.in_ok-ask.ensures.after)

pub returns : goal.returns
returns c = c.in_ok-settle.ensures
    (way _ (Coming.Asks c.args.client.0 c.args.host.now.next (file_request_of c.args.request)) _ _ _ _
    c.requires.server (comes_asked _ _ c.args.client.0 _ c.requires.server c.in_ok-tag.ensures.asked) c.deref.ensures.value
    (rw (c.client_no.ensures, c.in_ok-tag.ensures.tag, c.ask-asked.ensures) at c.in_ok-ask.ensures.after))
