use Rattle.share_server.specs.Requests.{requests_of}
use Rattle.lease_laws.proofs.Words.{Decides-eqb}
use Rattle.share_server.proofs.Asking.{last_stays, last_taken, other_number}
use Rattle.share_server.proofs.asked.Asked.take.Goals as goal

pub returns-then-last-tag-clause-left : goal.returns-then-last-tag-clause-left
returns-then-last-tag-clause-left c = rw (← c.self.view_is, ← c.in-Some.ensures.value, c.in-Some.ensures.after)
    (last_taken (requests_of c.self.inside.by_tag) (requests_of c.taken_from-found.new.by_tag) c.in-Some.last c.args.tag
    c.in-Some.request ((Decides-eqb c.in-Some.last c.args.tag).1 c.if-last-tag.true) c.taken_from-found.ensures.left)

pub returns-else-last-tag-clause-left : goal.returns-else-last-tag-clause-left
returns-else-last-tag-clause-left c = rw (← c.self.view_is, ← c.in-Some.ensures.value)
    (last_stays (requests_of c.self.inside.by_tag) (requests_of c.taken_from-found.new.by_tag) c.in-Some.last c.args.tag
    c.in-Some.request (other_number c.in-Some.last c.args.tag c.if-last-tag.false) c.taken_from-found.ensures.left)
