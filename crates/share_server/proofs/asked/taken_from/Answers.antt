use Rattle.lease_laws.proofs.Words.{◌∙◌, None, ap, sym}
use Rattle.share_server.specs.Requests.{file_request_of}
use Rattle.share_server.specs.Table.{no_request}
use Rattle.share_server.proofs.Maps.{changes, gets, or_else}
use Rattle.share_server.proofs.asked.taken_from.Goals as goal

pub returns-in-Some-clause-taken : goal.returns-in-Some-clause-taken
returns-in-Some-clause-taken c = ap (or_else file_request_of no_request) c.in-Some.ensures.value
    ∙ sym (gets file_request_of no_request c.args.by_tag.now c.args.tag)

pub returns-in-Some-clause-left : goal.returns-in-Some-clause-left
returns-in-Some-clause-left c =
    changes file_request_of no_request c.args.by_tag.now c.remove.new.self c.args.tag None c.in-Some.ensures.updates

pub returns-clause-taken : goal.returns-clause-taken
returns-clause-taken c = ap (or_else file_request_of no_request) (sym c.in_default.is ∙ c.remove.ensures.value)
    ∙ sym (gets file_request_of no_request c.args.by_tag.now c.args.tag)

pub returns-clause-left : goal.returns-clause-left
returns-clause-left c =
    changes file_request_of no_request c.args.by_tag.now c.remove.new.self c.args.tag None c.remove.ensures.updates
