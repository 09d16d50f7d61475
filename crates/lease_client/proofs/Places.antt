-- Entries by the number of their file, from 1.
use Rattle.lease_laws.proofs.Words.{◌≡◌, Entry, List, ℕ, [], closed_entry, numbered, refl, suc, unwrap_or, zero}
use Rattle.lease_client.specs.Known.{entry_at}

pub entry_numbered : (entries : List Entry) (n : ℕ)
    → numbered (closed_entry []) entries n ≡ unwrap_or (entry_at entries n) (closed_entry [])
unfolding numbered
entry_numbered entries zero = refl
entry_numbered entries (suc n) = refl
