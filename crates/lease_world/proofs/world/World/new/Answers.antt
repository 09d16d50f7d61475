use Rattle.lease_laws.proofs.Words.{◌∙◌, ap, new_server_under, starts_from}
use Rattle.lease_facts.specs.Setups.{setup_of}
use Rattle.lease_world.proofs.worlds.First.{first_stands}
use Rattle.lease_world.proofs.world.World.new.Goals as goal

pub returns-clause-stands : goal.returns-clause-stands
returns-clause-stands c = first_stands c.args.rules _ (setup_of c.args.setup.now)
    (c.in_ok-server.ensures ∙ ap (new_server_under c.args.rules)
    (c.in_ok-copy_contents.ensures ∙ c.as_slice-contents.ensures.value))
    (rw (c.as_slice-contents.ensures.value, c.deref.ensures.value) at c.in_ok-seats.ensures)
    (c.in_ok-facts.ensures ∙ ap (starts_from 1) c.as_slice-contents.ensures.value)
