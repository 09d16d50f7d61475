-- To unfold `the_world` is to unfold every definition of the model, so that a worked run computes.
use Rattle.std.specs.Prelude.{⊤}
use Rattle.lease_model.specs.world.Allowed.{are_apart, is_allowed_setup, are_too_many}
use Rattle.lease_model.specs.world.Events.{after}
use Rattle.lease_model.specs.world.World.{starts_from, first_world_under, all_delivered, noted}
use Rattle.lease_model.proofs.ServerComputes.{the_server}
use Rattle.lease_model.proofs.ClientComputes.{the_client}
use Rattle.lease_model.proofs.RecordsCompute.{the_records}

unfoldable pub the_world : ⊤
unfolding the_server the_client the_records are_apart is_allowed_setup are_too_many after starts_from first_world_under
    all_delivered noted
the_world = tt
