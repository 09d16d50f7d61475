use Rattle.lease_client.specs.Answers.{command_of}
use Rattle.lease_client.proofs.Steps.{command_after, turn_refused, belief_stays}
use Rattle.lease_client.proofs.machine.Machine.command.Goals as goal

pub returns-in_err-command_entry-clause-refused : goal.returns-in_err-command_entry-clause-refused
returns-in_err-command_entry-clause-refused c = λ refused.
    let found = c.in_err-command_entry.ensures.refused
    (turn_refused c.args.self.now (command_of c.args.command) c.args.file.0 _ c.requires.known c.requires.of_file
    c.key-key.ensures refused) in
    absurd (cc found)

pub returns-in_err-note_belief-clause-refused : goal.returns-in_err-note_belief-clause-refused
returns-in_err-note_belief-clause-refused c = λ refused.
    let found = c.in_err-note_belief.ensures.same
    (belief_stays c.clients_are_sound.ensures.refused c.args.self.now (command_of c.args.command) c.args.file.0
    _ _ _ _ c.requires.known c.requires.of_file c.key-key.ensures c.belief-old.ensures
    c.in_ok-command_entry.ensures.machine c.belief.ensures refused) in
    absurd (cc found)

pub returns-clause-after : goal.returns-clause-after
returns-clause-after c = command_after c.args.self.now (command_of c.args.command) c.args.file.0 _ _ _ _ _ _
    c.requires.known c.requires.of_file c.key-key.ensures c.belief-old.ensures
    c.in_ok-command_entry.ensures.machine c.in_ok-command_entry.ensures.given c.belief.ensures c.in_ok-note_belief.ensures.note
