use Rattle.lease_laws.proofs.Words.{◌≡◌, List, None, Some, World, [], after, first_world_under, if◌then◌else◌, map, take}
use Rattle.lease_facts.specs.Passages.{passage_meant}
use Rattle.lease_facts.specs.Setups.{setup_of, event_of}
use Rattle.lease_facts.specs.declared.passage.Passage.{Passage}
use Rattle.lease_world.specs.declared.obstacle.Idle.{Idle}
use Rattle.lease_world.specs.declared.running.Kept.{Kept}
use Rattle.lease_world.specs.world.Kept.{IfKept}
use Rattle.lease_world.specs.world.Messages.{messages_from}
use Rattle.lease_world.specs.world.Obstacles.{idle_from, idle_meant}
use Rattle.lease_world.specs.world.Passages.{passages_from}
use Rattle.lease_world.specs.world.Stands.{CodeWorld, Stands}
use Rattle.lease_world.specs.world.Worlds.{KeepsBehind}
use Rattle.lease_model.specs.world.Events as model
use Rattle.lease_world.proofs.running.play.Given as goal

-- after these events, from this world on
abbrev pub So : Kept → World → List model.Event → CodeWorld → List Idle → List Passage → Type 0
So kept first events world idle passages =
    (Stands world (after first events) × KeepsBehind (if kept.messages then Some [] else None) (messages_from first events) world)
    × IfKept kept.idle idle (map idle_meant idle ≡ idle_from 0 first events)
    × IfKept kept.passages passages (map passage_meant passages ≡ passages_from first events)

abbrev pub invariant-loop-place : goal.invariant-loop-place
invariant-loop-place l =
    So l.kept (first_world_under l.fn.rules (setup_of l.setup)) (take l.place (map event_of l.events)) l.world l.idle.items
    l.passages.items
