-- An entry that is put in the place of its file: the other files have what they had.
use Rattle.lease_laws.proofs.Words.{◌-◌, ◌<◌, ◌∙◌, ◌∷◌, ◌≡◌, ◌≤◌, Client, Entry, List, ℕ, [], ap, arith, closed_entry, cond}
use Rattle.lease_laws.proofs.Words.{false, fun_ext, get_or, knows_file, length, length-set, nat_tests, numbered, put, refl, suc}
use Rattle.lease_laws.proofs.Words.{sym, true, unwrap_or, zero}
use Rattle.std.proofs.Common.{eqb}
use Rattle.std.proofs.lemmas.Option.{slice_get_cases}
use Rattle.std.proofs.Math.ListN.{set}
use Rattle.std.specs.List.{slice_get}
use Rattle.lease_client.specs.Known.{Known, client_of}

place_set : (entries : List Entry) (i n : ℕ) (entry : Entry) → i < length entries
    → unwrap_or (slice_get (set entries i entry) n) (closed_entry [])
    ≡ cond (eqb n i) entry (unwrap_or (slice_get entries n) (closed_entry []))
place_set [] i n entry inside = absurd (omega arith)
place_set (one ∷ entries) zero zero entry inside = refl
place_set (one ∷ entries) zero (suc n) entry inside = grind (arith, nat_tests)
place_set (one ∷ entries) (suc i) zero entry inside = grind (arith, nat_tests)
place_set (one ∷ entries) (suc i) (suc n) entry inside =
    let e = place_set entries i n entry (omega arith) in grind (arith, nat_tests, e)

pub number_set : (entries : List Entry) (i n : ℕ) (entry : Entry) → i < length entries
    → numbered (closed_entry []) (set entries i entry) n ≡ cond (eqb n (suc i)) entry (numbered (closed_entry []) entries n)
unfolding numbered
number_set entries i zero entry inside = grind (arith, nat_tests)
number_set entries i (suc n) entry inside =
    let e = place_set entries i n entry inside in grind (arith, nat_tests, e)

-- the entry of a number is the one at its place
pub entry_numbered : (entries : List Entry) (i : ℕ) (entry : Entry) → i < length entries
    → entry ≡ get_or entries i entry → numbered (closed_entry []) entries (suc i) ≡ entry
unfolding numbered
entry_numbered [] i entry inside is = absurd (omega arith)
entry_numbered (one ∷ entries) zero entry inside is = sym is
entry_numbered (one ∷ entries) (suc i) entry inside is = entry_numbered entries i entry (omega arith) is

table_set : (entries : List Entry) (i : ℕ) (entry : Entry) → i < length entries → numbered (closed_entry []) (set entries i entry)
    ≡ put (numbered (closed_entry []) entries) (suc i) entry
unfolding put
table_set entries i entry inside =
    fun_ext (λ n. let e = number_set entries i n entry inside in grind (arith, nat_tests, e))

abbrev with_entries : Client → ℕ → (ℕ → Entry) → Client
with_entries client files entries = record client { files = files; entries = entries }

pub client_set : (known : Known) (i : ℕ) (entry : Entry) → i < length known.entries
    → client_of (record known { entries = set known.entries i entry })
    ≡ record (client_of known) { entries = put (client_of known).entries (suc i) entry }
client_set known i entry inside =
    ap (λ n. with_entries (client_of known) n (numbered (closed_entry []) (set known.entries i entry)))
    (length-set known.entries i entry)
    ∙ ap (λ (t : ℕ → Entry). with_entries (client_of known) (length known.entries) t) (table_set known.entries i entry inside)

pub file_there : (known : Known) (n : ℕ) → knows_file (client_of known) n ≡ true → (1 ≤ n) × (n ≤ length known.entries)
file_there known n is = grind (arith, nat_tests, is)

pub entry_of_file : (known : Known) (n : ℕ) (entry : Entry) → knows_file (client_of known) n ≡ true
    → entry ≡ get_or known.entries (n - 1) entry → (client_of known).entries n ≡ entry
entry_of_file known zero entry is at = absurd (omega (arith, file_there known zero is))
entry_of_file known (suc i) entry is at =
    let e : suc i - 1 ≡ i = omega arith in
    let there = file_there known (suc i) is in
    entry_numbered known.entries i entry (omega (arith, there)) (rw e at at)

-- a number without a file has a closed entry
pub unknown_file : (known : Known) (n : ℕ) → knows_file (client_of known) n ≡ false
    → (client_of known).entries n ≡ closed_entry []
unfolding numbered
unknown_file known zero is = refl
unknown_file known (suc n) is = grind (arith, nat_tests, slice_get_cases known.entries n, is)
