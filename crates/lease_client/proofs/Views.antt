-- A file with the unanswered writes.
use Rattle.lease_laws.proofs.Words.{◌++◌, ◌∷◌, ◌≡◌, List, Pending, ℕ, [], arith, patch}
use Rattle.lease_laws.proofs.Words.{Settlement, map, patches, patches_of, refl, request_written, settled_as, write_requests}

-- the sent writes first, and then those that aren't sent
pub patched_on : (base : List ℕ) (sent unsent : List Pending)
    → patches base (patches_of (sent ++ unsent)) ≡ patches (patches base (patches_of sent)) (patches_of unsent)
patched_on base [] unsent = refl
patched_on base (write ∷ sent) unsent = patched_on (patch base write.patch) sent unsent

-- two parts of writes, as requests and as settled
pub requested_more : (file_id : ℕ) (first rest : List Pending) → map request_written (write_requests file_id (first ++ rest))
    ≡ map request_written (write_requests file_id first) ++ map request_written (write_requests file_id rest)
requested_more file_id [] rest = refl
requested_more file_id (write ∷ first) rest = let e = requested_more file_id first rest in grind (arith, e)

pub settled_more : (outcome : Settlement) (first rest : List Pending)
    → settled_as outcome (first ++ rest) ≡ settled_as outcome first ++ settled_as outcome rest
settled_more outcome [] rest = refl
settled_more outcome (write ∷ first) rest = let e = settled_more outcome first rest in grind (arith, e)
