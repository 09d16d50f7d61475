-- The changes of files, one file after the other.
use Rattle.std.proofs.Common.{◌≡◌, ◌+◌, ◌<◌, ◌≤◌, ℕ, zero, suc, List, [], ◌∷◌, ◌++◌, Some}
use Rattle.std.proofs.Common.{refl, sym, ap, ◌∙◌, arith, length, take, slice_get, slice_index_or}
use Rattle.std.proofs.lemmas.List.{append_assoc, append-nil, take_all}
use Rattle.std.proofs.lemmas.Option.{same_Some}
use Rattle.std.specs.List.{AllZip}
use Rattle.capture_texts.specs.declared.finding.FileFinding.{FileFinding}
use Rattle.capture_texts.specs.records.Casts.{IsAt}
use Rattle.capture_texts.specs.records.Changes.{Shown, changes_in, changes_after, changes_of}

-- a place of which a file is known has it
pub at-place : (files : List FileFinding) (places : List ℕ) (chosen : List FileFinding) (k d : ℕ)
    → AllZip (IsAt files) places chosen → k < length places
    → (file : FileFinding) × (slice_get files (slice_index_or places k d) ≡ Some file)
at-place files [] [] k d all inside = absurd (omega (arith, inside))
at-place files [] (file ∷ chosen) k d all inside = absurd all
at-place files (place ∷ places) [] k d all inside = absurd all
at-place files (place ∷ places) (file ∷ chosen) zero d all inside = (file, all.0)
at-place files (place ∷ places) (file ∷ chosen) (suc k) d all inside =
    at-place files places chosen k d all.1 (omega (arith, inside))

pub same-length : (files : List FileFinding) (places : List ℕ) (chosen : List FileFinding) → AllZip (IsAt files) places chosen
    → length chosen ≡ length places
same-length files [] [] all = refl
same-length files [] (file ∷ chosen) all = absurd all
same-length files (place ∷ places) [] all = absurd all
same-length files (place ∷ places) (file ∷ chosen) all = ap suc (same-length files places chosen all.1)

later : (files : List FileFinding) (clients : List ℕ) (n : ℕ) (places : List ℕ) (chosen : List FileFinding) (k d : ℕ)
    (file : FileFinding) → AllZip (IsAt files) places chosen → k < length places
    → slice_get files (slice_index_or places k d) ≡ Some file
    → changes_after clients n (take (suc k) chosen) places
    ≡ changes_after clients n (take k chosen) places
    ++ changes_in clients (n + k + 1) (slice_index_or places k d) 0 file.beliefs.items
later files clients n [] [] k d file all inside at = absurd (omega (arith, inside))
later files clients n [] (one ∷ chosen) k d file all inside at = absurd all
later files clients n (place ∷ places) [] k d file all inside at = absurd all
later files clients n (place ∷ places) (one ∷ chosen) zero d file all inside at =
    let same = same_Some one file (sym all.0 ∙ at) in let count : n + 1 ≡ n + 0 + 1 = omega arith
    in append-nil (changes_in clients (n + 1) place 0 one.beliefs.items)
    ∙ (ap (λ (f : FileFinding). changes_in clients (n + 1) place 0 f.beliefs.items) same
    ∙ ap (λ m. changes_in clients m place 0 file.beliefs.items) count)
later files clients n (place ∷ places) (one ∷ chosen) (suc k) d file all inside at =
    let rest = later files clients (n + 1) places chosen k d file all.1 (omega (arith, inside)) at
    in let count : n + 1 + k + 1 ≡ n + suc k + 1 = omega arith
    in let found = slice_index_or places k d
    in ap (λ cs. changes_in clients (n + 1) place 0 one.beliefs.items ++ cs) (rest
    ∙ ap (λ m. changes_after clients (n + 1) (take k chosen) places ++ changes_in clients m found 0 file.beliefs.items) count)
    ∙ sym (append_assoc (changes_in clients (n + 1) place 0 one.beliefs.items) (changes_after clients (n + 1) (take k chosen) places)
    (changes_in clients (n + suc k + 1) found 0 file.beliefs.items))

pub changes-more : (files : List FileFinding) (clients places : List ℕ) (chosen : List FileFinding) (k d : ℕ) (file : FileFinding)
    (old new : List Shown) → AllZip (IsAt files) places chosen → k < length places
    → slice_get files (slice_index_or places k d) ≡ Some file
    → new ≡ old ++ changes_in clients (k + 1) (slice_index_or places k d) 0 file.beliefs.items
    → old ≡ changes_of clients places (take k chosen) → new ≡ changes_of clients places (take (k + 1) chosen)
changes-more files clients places chosen k d file old new all inside at is before =
    let count : k + 1 ≡ 0 + k + 1 = omega arith
    in let found = slice_index_or places k d
    in is ∙ (ap (λ cs. cs ++ changes_in clients (k + 1) found 0 file.beliefs.items) before
    ∙ (ap (λ m. changes_of clients places (take k chosen) ++ changes_in clients m found 0 file.beliefs.items) count
    ∙ sym (later files clients 0 places chosen k d file all inside at)
    ∙ ap (λ m. changes_after clients 0 (take m chosen) places) (let more : suc k ≡ k + 1 = omega arith in more)))

pub changes-all : (files : List FileFinding) (clients places : List ℕ) (chosen : List FileFinding) (k : ℕ) (told : List Shown)
    → AllZip (IsAt files) places chosen → length places ≤ k → told ≡ changes_of clients places (take k chosen)
    → told ≡ changes_of clients places chosen
changes-all files clients places chosen k told all end is =
    let count = same-length files places chosen all
    in is ∙ ap (changes_of clients places) (take_all k chosen (omega (arith, count, end)))
