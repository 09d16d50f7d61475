use Rattle.lease_laws.proofs.Words.{arith, nat_tests, rules}
use Rattle.std.proofs.lemmas.List.Sorted.{IsNonDecreasingBy-push}
use Rattle.lease_client.proofs.Queued.{last_below}
use Rattle.lease_client.proofs.writes.queue.Writes.rises_to.Goals as goal

pub returns-in-Some : goal.returns-in-Some
returns-in-Some c = λ le. rw (← c.self.view_is) (IsNonDecreasingBy-push (λ w. w.number) c.self.inside.items.items c.args.write.now
    (c.self.invariant.rising (grind (arith, c.if-not-self.false)))
    (λ d filled. last_below c.self.inside.items.items c.in-Some.last.now c.args.write.now _ d (search rules)
    c.in-Some.ensures.lookup filled (rw (← c.last.view_is, ← c.write.view_is) (grind (arith, nat_tests, le)))))
