use Rattle.lease_client.specs.Known.{client_of}
use Rattle.lease_client.specs.Messages.{message_turn}
use Rattle.lease_client.proofs.Steps.{told_after}
use Rattle.lease_client.proofs.machine.Machine.tell.Goals as goal

pub returns : goal.returns
returns c =
    let known = c.args.self.now in
    let n = c.args.file.0 in
    rw (← c.key-key.ensures) (told_after known n (message_turn c.key-key.result.0 c.args.message ((client_of known).entries n))
    _ _ _ _ _ c.requires c.belief-old.ensures c.in_ok-tell_entry.ensures.machine c.in_ok-tell_entry.ensures.given
    c.belief.ensures c.in_ok-note_belief.ensures.note)
