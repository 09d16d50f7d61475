-- The names of messages that are left to tell.
use Rattle.std.proofs.Common.{◌≡◌, ◌≤◌, ◌-◌, ◌++◌, ◌∙◌, ℕ, zero, suc, List, [], ◌∷◌, drop, length, true, false, inl, inr}
use Rattle.std.proofs.Common.{if◌then◌else◌, ◌==◌, take, refl, ap, sym, arith}
use Rattle.std.proofs.lemmas.Bool.{cases_Bool}
use Rattle.std.proofs.lemmas.List.{append_assoc, append-nil, length-drop, length-take}
use Rattle.lease_wire.specs.Message.{first_message, next_command_of}
use Rattle.capture_walk.specs.Compounds.{behind_first}
use Rattle.capture_texts.specs.Names.{begins_readably, name_of, names_within, names_in}
use Rattle.capture_texts.specs.declared.names.MessageName.{MessageName}

pub first_within : (bytes : List ℕ) → length (first_message bytes) ≤ length bytes
unfolding first_message
first_within bytes = elim (cases_Bool (next_command_of bytes == 0))
    as (λ _. length (if next_command_of bytes == 0 then bytes else take (next_command_of bytes) bytes) ≤ length bytes) [
      | inl last ↦ rw last (omega arith)
      | inr other ↦ rw (other, length-take (next_command_of bytes) bytes) (omega arith)
    ]

-- these names, and then those of the rest, are all
abbrev pub Left : List MessageName → List ℕ → List MessageName → Type 0
Left before rest all = (count : ℕ) × (length rest ≤ count) × (before ++ names_within count rest ≡ all)

pub at_first : (bytes : List ℕ) → Left [] bytes (names_in bytes)
unfolding names_in
at_first bytes = (length bytes, omega arith, refl)

pub with_one : (before : List MessageName) (rest behind : List ℕ) (name : MessageName) (size : ℕ) (all : List MessageName)
    → begins_readably rest ≡ true → name ≡ name_of rest → size ≡ length (first_message rest) → 64 ≤ size → size ≤ length rest
    → behind ≡ drop size rest → Left before rest all → Left (before ++ name ∷ []) behind all
unfolding names_within
with_one before rest behind name size all readable is size_is some within behind_is (zero, fits, whole) =
    absurd (omega (arith, some, within, fits))
with_one before rest behind name size all readable is size_is some within behind_is (suc count, fits, whole) =
    let less : length behind ≡ length rest - size = ap (λ (bytes : List ℕ). length bytes) behind_is ∙ length-drop size rest in
    let same : behind ≡ behind_first rest = behind_is ∙ ap (λ (n : ℕ). drop n rest) size_is in (
      count,
      omega (arith, less, some, within, fits),
      append_assoc before (name ∷ []) (names_within count behind) ∙ (rw (is, same) (rw readable at whole)),
    )

pub none_left : (before : List MessageName) (rest : List ℕ) (all : List MessageName) → begins_readably rest ≡ false
    → Left before rest all → before ≡ all
unfolding names_within
none_left before rest all unreadable (zero, fits, whole) = sym (append-nil before) ∙ whole
none_left before rest all unreadable (suc count, fits, whole) = sym (append-nil before) ∙ rw unreadable at whole
