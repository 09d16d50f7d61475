use Rattle.lease_laws.proofs.Words.{subst, sym, ClientCall}
use Rattle.lease_client.specs.Answers.{command_of}
use Rattle.lease_laws.specs.client.Laws.{IsSoundClient}
use Rattle.lease_client.specs.Known.{client_of}
use Rattle.lease_client.proofs.Rising.{none_rose}
use Rattle.lease_client.proofs.Rising.{commands_raise_none}
use Rattle.lease_client.proofs.Sound.{sound_after}
use Rattle.lease_client.proofs.client.Client.app_in_place.Goals as goal

pub invariant_of-self : goal.invariant_of-self
invariant_of-self c = sound_after c.clients_are_sound.ensures.kept (client_of c.self.inside.machine)
    (ClientCall.Commanded (command_of c.args.command)) _ c.self.invariant c.in-Ok.ensures.after.client

pub invariant_of-self-in-Err : goal.invariant_of-self-in-Err
invariant_of-self-in-Err c = subst IsSoundClient (sym c.forget.ensures) (c.clients_are_sound.ensures.first c.guid-guid.result 0)

pub returns-in-Ok-clause-beliefs : goal.returns-in-Ok-clause-beliefs
returns-in-Ok-clause-beliefs c = rw (← c.self.view_is) (none_rose (client_of c.self.inside.machine) _ _
    c.in-Ok.ensures.after.client (commands_raise_none (client_of c.self.inside.machine) (command_of c.args.command)))
