use Rattle.lease_laws.proofs.Words.{◌++◌, ◌∙◌, List, None, Option, Some, World, [], after, ap, first_world_under}
use Rattle.lease_laws.proofs.Words.{if◌then◌else◌}
use Rattle.lease_laws.proofs.Words.{length, map, subst, take}
use Rattle.lease_facts.specs.Setups.{event_client, setup_of, event_of}
use Rattle.lease_facts.specs.declared.setup.Event.{Event}
use Rattle.lease_state.specs.declared.number.ClientNo.{ClientNo}
use Rattle.lease_state.specs.declared.reply.Reply.{Reply}
use Rattle.lease_world.specs.world.Obstacles.{Meets, idle_noted}
use Rattle.lease_world.specs.world.Passages.{passages_noted}
use Rattle.lease_world.specs.world.Seats.{seat_in}
use Rattle.lease_world.specs.world.Worlds.{Happens}
use Rattle.lease_world.proofs.worlds.First.{no_event, no_event_left, one_more_event}
use Rattle.lease_world.proofs.worlds.Kept.{kept_more, kept_none, kept_so}
use Rattle.lease_world.proofs.worlds.Obstacles.{no_idle, no_idle_left, one_more_idle}
use Rattle.lease_world.proofs.worlds.Passages.{all_passed, none_passed, one_more_passed}
use Rattle.lease_world.proofs.running.play.Goals as goal

pub loop-place-init : goal.loop-place-init
loop-place-init c =
    let first : World = first_world_under c.args.rules (setup_of c.args.setup.now) in
    let kept : Option (List Reply) = if c.args.kept.messages then Some [] else None in (
      no_event c.in_ok-world.world first kept (map event_of c.args.events.now) c.in_ok-world.ensures.stands
          (c.in_ok-world.ensures.messages ∙ c.messages_before-messages.ensures),
      kept_none c.args.kept.idle c.args.idle.now.items _ c.requires.none
          (no_idle first c.args.idle.now.items (map event_of c.args.events.now) c.requires.none),
      kept_none c.args.kept.passages c.args.passages.now.items _ c.requires.none_sent
          (none_passed first c.args.passages.now.items (map event_of c.args.events.now) c.requires.none_sent),
    )

pub loop-place-preserved : goal.loop-place-preserved
loop-place-preserved c =
    let first : World = first_world_under c.args.rules (setup_of c.args.setup.now) in
    let kept : Option (List Reply) = if c.args.kept.messages then Some [] else None in (
      one_more_event c.loop-place.world c.happen_explained.new.self first kept c.args.events.now c.loop-place.place
          c.index-events-place.result c.loop-place-test.true c.loop-place.invariant.0
          (subst (λ (event : Event). Happens (event_of event) c.loop-place.world c.happen_explained.new.self)
          c.index-events-place.is c.in_ok-obstacle.ensures.happens),
      kept_more c.args.kept.idle c.loop-place.idle.items c.note_idle.new.idle.items
          (idle_noted c.loop-place.place c.count-facts.result c.in_ok-obstacle.obstacle) _ _ c.loop-place.invariant.1
          c.in_ok-note_idle.ensures (λ so_far is. one_more_idle c.loop-place.world first c.args.events.now c.loop-place.place
          c.index-events-place.result c.count-facts.result c.in_ok-obstacle.obstacle c.loop-place.idle.items
          c.note_idle.new.idle.items c.loop-place-test.true c.loop-place.invariant.0.0 c.count-facts.ensures
          (subst (λ (event : Event). Meets (event_of event) c.loop-place.world c.in_ok-obstacle.obstacle)
          c.index-events-place.is c.in_ok-obstacle.ensures.meets) is so_far),
      kept_more c.args.kept.passages c.loop-place.passages.items c.note_passages.new.passages.items
          _ _ _ c.loop-place.invariant.2
          (c.in_ok-note_passages.ensures ∙ ap (λ (event : Event). c.loop-place.passages.items ++ (if c.args.kept.passages
          then passages_noted event c.count-facts.result c.waiting-waiting.result c.happen_explained.new.self else []))
          c.index-events-place.is)
          (λ so_far is. one_more_passed c.loop-place.world c.happen_explained.new.self first c.args.events.now c.loop-place.place
          c.index-events-place.result c.count-facts.result c.waiting-waiting.result c.loop-place.passages.items
          c.note_passages.new.passages.items c.loop-place-test.true c.loop-place.invariant.0.0
          (subst (λ (event : Event). Happens (event_of event) c.loop-place.world c.happen_explained.new.self)
          c.index-events-place.is c.in_ok-obstacle.ensures.happens
          (after first (take c.loop-place.place (map event_of c.args.events.now))) c.loop-place.invariant.0.0).0
          c.count-facts.ensures
          (c.waiting-waiting.ensures ∙ ap (λ (n : ClientNo). length (seat_in c.loop-place.world.seats n.0).requests)
          (c.client.ensures.value ∙ ap event_client c.index-events-place.is)) is so_far),
    )

pub returns-clause-stands : goal.returns-clause-stands
returns-clause-stands c = no_event_left c.loop-place.world (first_world_under c.args.rules (setup_of c.args.setup.now))
    c.args.events.now c.loop-place.place c.loop-place-test.false c.loop-place.invariant.0.0

pub returns-clause-idle : goal.returns-clause-idle
returns-clause-idle c = kept_so c.args.kept.idle c.loop-place.idle.items _ _ c.loop-place.invariant.1
    (no_idle_left (first_world_under c.args.rules (setup_of c.args.setup.now)) c.loop-place.idle.items c.args.events.now
    c.loop-place.place c.loop-place-test.false)

pub returns-clause-passages : goal.returns-clause-passages
returns-clause-passages c = kept_so c.args.kept.passages c.loop-place.passages.items _ _ c.loop-place.invariant.2
    (all_passed (first_world_under c.args.rules (setup_of c.args.setup.now)) c.loop-place.passages.items c.args.events.now
    c.loop-place.place c.loop-place-test.false)
