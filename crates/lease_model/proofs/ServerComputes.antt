-- To unfold `the_server` is to unfold every definition of the server, so that a worked example computes.
use Rattle.std.specs.Prelude.{⊤}
use Rattle.lease_model.specs.server.Acknowledge.{acknowledged}
use Rattle.lease_model.specs.server.Answers.{answered}
use Rattle.lease_model.specs.server.Attempt.{lease_broken, wants_met, tried_for}
use Rattle.lease_model.specs.server.Calls.{arrived, receive, join}
use Rattle.lease_model.specs.server.Calls.{cut, expire, give_up, leave, scavenge, withdraw}
use Rattle.lease_model.specs.server.Findings.{finding}
use Rattle.lease_model.specs.server.KeyOrder.{key_added, keys_of}
use Rattle.lease_model.specs.server.Passes.{tried_again, pass_over, passes_for, passes_over, all_passes}
use Rattle.lease_model.specs.server.State.{new_server_under}
use Rattle.lease_model.specs.worked.ServerWords.{server_after, outs_along}
use Rattle.lease_model.proofs.ValuesCompute.{the_values}

unfoldable pub the_server : ⊤
unfolding the_values acknowledged answered lease_broken wants_met tried_for arrived receive join cut expire scavenge withdraw
    give_up leave finding key_added keys_of tried_again pass_over passes_for passes_over all_passes new_server_under server_after
    outs_along
the_server = tt
