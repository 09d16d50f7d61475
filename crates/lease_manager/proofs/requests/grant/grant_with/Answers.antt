use Rattle.lease_laws.proofs.Words.{option_map}
use Rattle.lease_manager.specs.Requests.{lease_asked}
use Rattle.lease_manager.specs.Table.{server_of}
use Rattle.lease_manager.proofs.tries.Homing.{home_asked}
use Rattle.lease_manager.proofs.requests.grant.grant_with.Goals as goal

pub open-requires-clause-home : goal.open-requires-clause-home
open-requires-clause-home c = home_asked (server_of c.args.tables.now) c.args.opening.client.0 c.args.opening.file.0
    (option_map lease_asked c.args.opening.ask.lease) _ c.key_bytes.ensures c.requires.home
