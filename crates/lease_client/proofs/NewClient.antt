-- The entries of a new client stand for the client that is new.
use Rattle.lease_laws.proofs.Words.{◌++◌, ◌+◌, ◌∷◌, ◌≡◌, Client, Entry, List, ℕ, [], arith, closed_entry, false, fun_ext}
use Rattle.lease_laws.proofs.Words.{length, new_client, numbered, refl, suc, unwrap_or, zero}
use Rattle.std.proofs.Common.{replicate}
use Rattle.std.proofs.lemmas.List.{length-replicate, replicate-append-replicate}
use Rattle.std.specs.List.{slice_get}

pub closed_more : (files : ℕ)
    → replicate files (closed_entry []) ++ closed_entry [] ∷ [] ≡ replicate (files + 1) (closed_entry [])
closed_more files = replicate-append-replicate files 1 (closed_entry [])

closed_place : (files n : ℕ) → unwrap_or (slice_get (replicate files (closed_entry [])) n) (closed_entry []) ≡ closed_entry []
closed_place zero n = refl
closed_place (suc files) zero = refl
closed_place (suc files) (suc n) = closed_place files n

pub closed_number : (files n : ℕ) → numbered (closed_entry []) (replicate files (closed_entry [])) n ≡ closed_entry []
unfolding numbered
closed_number files zero = refl
closed_number files (suc n) = closed_place files n

-- a client that was never connected, by what its files are
abbrev unconnected : List ℕ → ℕ → (ℕ → Entry) → Client
unconnected guid files entries =
    record { guid = guid; files = files; is_online = false; last_number = 0; entries = entries }

unconnected_same : (guid : List ℕ) (files more : ℕ) (entries others : ℕ → Entry) → files ≡ more → entries ≡ others
    → unconnected guid files entries ≡ unconnected guid more others
unconnected_same guid files more entries others a b = grind arith

pub closed_entries_are_new : (guid : List ℕ) (files : ℕ) → unconnected guid (length (replicate files (closed_entry [])))
    (numbered (closed_entry []) (replicate files (closed_entry []))) ≡ new_client guid files
unfolding new_client
closed_entries_are_new guid files =
    unconnected_same _ _ _ _ _ (length-replicate files (closed_entry [])) (fun_ext (closed_number files))
