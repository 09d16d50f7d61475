use Rattle.lease_client.specs.Known.{client_of}
use Rattle.lease_client.specs.Links.{keyed_turn}
use Rattle.lease_client.proofs.Turned.{noted_by}
use Rattle.lease_client.proofs.machine.Machine.link_file.Goals as goal

pub returns-clause-given : goal.returns-clause-given
returns-clause-given c =
    let known = c.args.self.now in
    let n = c.args.file.0 in
    rw (← c.key-key.ensures)
    (noted_by known n known.last_number (keyed_turn c.args.link c.key-key.result.0 n ((client_of known).entries n))
    _ _ _ _ _ c.requires c.belief-old.ensures c.in_ok-link_entry.ensures.machine c.in_ok-link_entry.ensures.given
    c.belief.ensures c.in_ok-note_belief.ensures.note)
