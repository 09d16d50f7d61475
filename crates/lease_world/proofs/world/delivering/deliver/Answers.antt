use Rattle.lease_laws.proofs.Words.{◌∙◌, ◌∷◌, [], append_assoc, map, map-append}
use Rattle.lease_facts.specs.Facts.{fact_of}
use Rattle.lease_world.specs.world.Seats.{fact_given}
use Rattle.lease_world.proofs.worlds.Replies.{more_replies, more_kept}
use Rattle.lease_world.proofs.world.delivering.deliver.Goals as goal

pub loop-out-preserved : goal.loop-out-preserved
loop-out-preserved c =
    let held = c.loop-out.invariant in
    let one = c.in_ok-deliver_one.ensures in
    record {
      replies = more_replies _ _ _ c.loop-out.yielded (c.in-Some.out ∷ []) held.replies one.replies;
      count = one.count ∙ held.count;
      facts = rw (one.facts, held.facts, map-append fact_given c.loop-out.yielded (c.in-Some.out ∷ []))
          (append_assoc (map fact_of c.args.facts.now.items) (map fact_given c.loop-out.yielded) (fact_given c.in-Some.out ∷ []));
      kept = more_kept c.args.messages.now _ _ c.loop-out.yielded (c.in-Some.out ∷ []) held.kept one.kept;
    }
