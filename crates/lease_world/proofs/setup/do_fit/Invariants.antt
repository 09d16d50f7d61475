use Rattle.lease_laws.proofs.Words.{◌≡◌, is_content, list_all, take, true}
use Rattle.lease_world.proofs.setup.do_fit.Given as goal

abbrev pub invariant-loop-place : goal.invariant-loop-place
invariant-loop-place l = list_all is_content (take l.place l.files) ≡ true
