use Rattle.lease_laws.proofs.Words.{subst, sym}
use Rattle.lease_laws.specs.client.Laws.{IsSoundClient}
use Rattle.lease_client.specs.Known.{client_of}
use Rattle.lease_client.proofs.Rising.{none_rose, links_raise_none}
use Rattle.lease_client.proofs.Sound.{sound_linked}
use Rattle.lease_client.proofs.client.Client.link.Goals as goal

pub invariant_of-self : goal.invariant_of-self
invariant_of-self c = sound_linked c.clients_are_sound.ensures.kept (client_of c.self.inside.machine) c.args.link _
    c.self.invariant c.in-Ok.ensures.client

pub invariant_of-self-in-Err : goal.invariant_of-self-in-Err
invariant_of-self-in-Err c = subst IsSoundClient (sym c.forget.ensures) (c.clients_are_sound.ensures.first c.guid-guid.result 0)

pub returns-in-Ok-clause-beliefs : goal.returns-in-Ok-clause-beliefs
returns-in-Ok-clause-beliefs c = rw (← c.self.view_is) (none_rose (client_of c.self.inside.machine) _ _
    c.in-Ok.ensures.client (links_raise_none (client_of c.self.inside.machine) c.args.link))
