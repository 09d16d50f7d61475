use Rattle.std.proofs.Common.{◌≡◌, ℕ, ◌<◌, false, nat_le, length, arith}
use Rattle.std.proofs.lemmas.Bool.Decides.{nat_tests}
use Rattle.lease_state.specs.declared.content.TheConstants.{FILE_LIMIT}
use Rattle.lease_model.specs.client.Taken.{read_answered}
use Rattle.lease_model.proofs.worked_client.client_passes_long_reads_over.Goals as goal

beyond : (m n : ℕ) → n < m → nat_le m n ≡ false
beyond m n h = grind (arith, nat_tests)

pub returns : goal.returns
unfolding read_answered
returns c = λ client file_id bytes h. rw (beyond (length bytes) FILE_LIMIT h)
