use Rattle.lease_laws.proofs.Words.{◌∙◌, ◌≡◌, Answer, Refusal, false, file_of, knows_file, sym}
use Rattle.lease_client.specs.Answers.{command_of}
use Rattle.lease_client.specs.Known.{client_of}
use Rattle.lease_laws.proofs.client.cases.Commands.{commanded_nowhere}
use Rattle.lease_client.proofs.Turned.{nothing_after}
use Rattle.lease_client.proofs.machine.Machine.app.Goals as goal

pub returns-then-not-knows-clause-after : goal.returns-then-not-knows-clause-after
returns-then-not-knows-clause-after c =
    let known = c.args.self.now in
    let command = command_of c.args.command in
    let nowhere : knows_file (client_of known) (file_of command) ≡ false =
    rw (← c.file-file.ensures) (sym c.knows.ensures ∙ c.if-not-knows.true) in
    rw (commanded_nowhere (client_of known) command nowhere)
    (nothing_after known (Answer.Refused Refusal.NotOpen) _ c.begin.ensures)
