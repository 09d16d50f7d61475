-- Bytes that an argument gives, or the file that it names.
use Rattle.lease_laws.proofs.Words.{◌∙◌, ◌≡◌, ◌⊎◌, Err, List, None, Ok, Option, Result, Some, ℕ, ap, inl, inr}
use Rattle.lease_laws.proofs.Words.{option_map, refl, subst, sym}
use Rattle.lease_laws.proofs.Words.{◌∷◌, ◌≢◌, [], bytes_eq, bytes_eq-Decides}
use Rattle.lease_laws.proofs.server.Lists.{if_cases}
use Rattle.std.proofs.Common.{Bor}
use Rattle.std.specs.Prelude.{IsErr, MatchOption}
use Rattle.leasecheck.specs.Paths.{file_named}
use Rattle.hex.specs.declared.error.FromHexError.{FromHexError}
use Rattle.lease_wire.specs.declared.fault.WireFault.{WireFault}
use Rattle.leasecheck.specs.Arguments.{GivesBy, argument_bytes}
use Rattle.leasecheck.specs.Refusals.{MayEndBy, argument_refusal, given_refusal}
use Rattle.leasecheck.specs.declared.failure.Failure.{Failure}
use Rattle.leasecheck.specs.declared.failure.Failure.TheVariants.{Hex, Memory, Wire}

-- bytes without a fault are accepted
pub given_accepted : (fault : List ℕ → Option WireFault) (argument : List ℕ) (path : Option (List ℕ)) (file bytes : List ℕ)
    → GivesBy path argument file bytes → fault bytes ≡ None → given_refusal fault argument path file ≡ None
given_accepted fault argument None file bytes gives none =
    ap (argument_refusal fault) gives ∙ ap (option_map Wire) none
given_accepted fault argument (Some path) file bytes gives none =
    ap (λ (bs : List ℕ). option_map Wire (fault bs)) (sym gives) ∙ ap (option_map Wire) none

-- and others are refused as their fault
pub given_refused : (fault : List ℕ → Option WireFault) (argument : List ℕ) (path : Option (List ℕ)) (file bytes : List ℕ)
    (failure : Failure) → GivesBy path argument file bytes
    → ((failure ≡ Memory) × (fault bytes ≡ None)) ⊎ (option_map Wire (fault bytes) ≡ Some failure)
    → MayEndBy fault argument path file failure
given_refused fault argument None file bytes failure gives (inl memory) = inl memory.0
given_refused fault argument (Some path) file bytes failure gives (inl memory) = inl memory.0
given_refused fault argument None file bytes failure gives (inr refused) = inr (ap (argument_refusal fault) gives ∙ refused)
given_refused fault argument (Some path) file bytes failure gives (inr refused) =
    inr (inr (subst (λ (bs : List ℕ). option_map Wire (fault bs) ≡ Some failure) gives refused))

-- ---- where there are no bytes

no_digits : (fault : List ℕ → Option WireFault) (read : Result (List ℕ) FromHexError) → IsErr read
    → argument_refusal fault read ≡ Some Hex
no_digits fault (Ok bytes) bad = let no : ⊥ = cc in absurd no
no_digits fault (Err e) bad = refl

pub digits_refused : (fault : List ℕ → Option WireFault) (argument file : List ℕ) (failure : Failure)
    → (failure ≡ Memory) ⊎ ((failure ≡ Hex) × IsErr (argument_bytes argument)) → MayEndBy fault argument None file failure
digits_refused fault argument file failure (inl memory) = inl memory
digits_refused fault argument file failure (inr bad) =
    inr (no_digits fault (argument_bytes argument) bad.1 ∙ ap (λ (f : Failure). Some f) (sym bad.0))

-- ---- the file that an argument names

at_sign : (b : ℕ) → b ∷ [] ≡ 64 ∷ [] → b ≡ 64
at_sign b same = cc

without_sign : (b : ℕ) (rest : List ℕ) → (b ∷ rest ≡ 64 ∷ rest → ⊥) → file_named (b ∷ rest) ≡ None
without_sign b rest other = if_cases (λ (o : Option (List ℕ)). o ≡ None) (bytes_eq (b ∷ []) (64 ∷ [])) (Some rest) None
    (λ same. absurd (other (ap (λ (c : ℕ). c ∷ rest) (at_sign b ((bytes_eq-Decides (b ∷ []) (64 ∷ [])).0 same)))))
    (λ differs. refl)

not_named : (bytes : List ℕ) → ((rest : List ℕ) → bytes ≢ 64 ∷ rest) → file_named bytes ≡ None
not_named [] none = refl
not_named (b ∷ rest) none = without_sign b rest (none rest)

pub named_by : (found : Option (Bor (List ℕ))) (bytes : List ℕ)
    → MatchOption found ((rest : List ℕ) → bytes ≢ 64 ∷ rest) (λ path. bytes ≡ 64 ∷ path.now)
    → option_map (λ path. path.now) found ≡ file_named bytes
named_by None bytes none = sym (not_named bytes none)
named_by (Some path) bytes is = sym (ap file_named is)
