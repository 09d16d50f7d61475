use Rattle.lease_laws.proofs.Words.{subst, sym, ClientCall, reply_of}
use Rattle.lease_laws.specs.client.Laws.{IsSoundClient}
use Rattle.lease_client.specs.Known.{client_of}
use Rattle.lease_client.proofs.Rising.{replies_raise, rose_by}
use Rattle.lease_client.proofs.Sound.{sound_after}
use Rattle.lease_client.proofs.client.Client.take_in_place.Goals as goal

pub invariant_of-self : goal.invariant_of-self
invariant_of-self c = sound_after c.clients_are_sound.ensures.kept (client_of c.self.inside.machine)
    (ClientCall.Taken (reply_of c.args.reply)) _ c.self.invariant c.in-Ok.ensures.after.client

pub invariant_of-self-in-Err : goal.invariant_of-self-in-Err
invariant_of-self-in-Err c = subst IsSoundClient (sym c.forget.ensures) (c.clients_are_sound.ensures.first c.guid-guid.result 0)

pub returns-in-Ok-clause-beliefs : goal.returns-in-Ok-clause-beliefs
returns-in-Ok-clause-beliefs c = rw (← c.self.view_is)
    (rose_by (reply_of c.args.reply) (client_of c.self.inside.machine) _ _ c.in-Ok.ensures.after.client
    (replies_raise (client_of c.self.inside.machine) (reply_of c.args.reply)))
