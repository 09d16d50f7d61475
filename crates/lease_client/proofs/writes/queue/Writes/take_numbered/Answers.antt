use Rattle.lease_laws.proofs.Words.{◌∙◌, sym}
use Rattle.lease_client.proofs.Numbered.{nobody, none_numbered, one_numbered}
use Rattle.lease_client.proofs.Queued.{is_within}
use Rattle.lease_client.proofs.writes.queue.Writes.take_numbered.Goals as goal

pub take_at-requires : goal.take_at-requires
take_at-requires c = is_within c.args.number c.args.self.now c.in-Some.place (sym c.in-Some.ensures)

pub returns-in-Some-clause-found : goal.returns-in-Some-clause-found
returns-in-Some-clause-found c =
    let found = one_numbered c.args.number c.args.self.now c.in-Some.place nobody (sym c.in-Some.ensures) in
    c.take_at.ensures.write nobody ∙ sym found.0

pub returns-in-Some-clause-rest : goal.returns-in-Some-clause-rest
returns-in-Some-clause-rest c =
    let found = one_numbered c.args.number c.args.self.now c.in-Some.place nobody (sym c.in-Some.ensures) in
    c.take_at.ensures.rest ∙ sym found.1

pub returns-in-None-clause-found : goal.returns-in-None-clause-found
returns-in-None-clause-found c = sym (none_numbered c.args.number c.args.self.now (sym c.in-None.ensures)).0

pub returns-in-None-clause-rest : goal.returns-in-None-clause-rest
returns-in-None-clause-rest c = sym (none_numbered c.args.number c.args.self.now (sym c.in-None.ensures)).1
