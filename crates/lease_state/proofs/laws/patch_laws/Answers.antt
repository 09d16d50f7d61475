use Rattle.lease_state.proofs.PatchLemmas.{patches-first_again, patches-one_again}
use Rattle.lease_state.proofs.laws.patch_laws.Goals as goal

pub returns-clause-list : goal.returns-clause-list
returns-clause-list c = patches-first_again

pub returns-clause-one : goal.returns-clause-one
returns-clause-one c = patches-one_again
