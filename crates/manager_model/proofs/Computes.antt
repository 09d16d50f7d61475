-- To unfold `the_manager` is to unfold every definition of the manager and of the server, so that a worked example computes.
use Rattle.std.specs.Prelude.{⊤}
use Rattle.lease_model.proofs.ServerComputes.{the_server}
use Rattle.manager_model.specs.Handling.{acknowledge, all_passes, cut, ended_between, expire, join, pass_over, passes_for}
use Rattle.manager_model.specs.Handling.{passes_over, receive}
use Rattle.manager_model.specs.Handling.{give_up, leave, left_behind, scavenge, tried_again, withdraw}
use Rattle.manager_model.specs.Hosting.{does_all}
use Rattle.manager_model.specs.Worked.{host_after, manager_after, told_along}

unfoldable pub the_manager : ⊤
unfolding the_server acknowledge all_passes cut ended_between expire join pass_over passes_for passes_over receive scavenge
    tried_again withdraw give_up leave left_behind does_all host_after manager_after told_along
the_manager = tt
