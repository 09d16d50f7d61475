-- Bytes that a reader may have.
use Rattle.lease_laws.proofs.Words.{◌≡◌, List, None, Option, Some, ℕ, [], refl, subst, sym}
use Rattle.leasecheck.specs.Known.{MayHave, OfBytes}

some_bytes : (known : Option (List ℕ)) → (bytes : List ℕ) × MayHave known bytes
some_bytes None = ([], tt)
some_bytes (Some all) = (all, refl)

-- what is so of all bytes is so of those
pub of_any : (known : Option (List ℕ)) (P : List ℕ → Type 0) → ((bytes : List ℕ) → P bytes) → OfBytes known P
of_any known P every = let has = some_bytes known in (has.0, has.1, every has.0)

-- and what is so of the bytes that were read
pub of_read : (known : Option (List ℕ)) (P : List ℕ → Type 0) (text items : List ℕ) → text ≡ items → MayHave known items → P text
    → OfBytes known P
of_read known P text items is has holds = (text, subst (MayHave known) (sym is) has, holds)

-- What follows of them is so, too.
pub of_more : (known : Option (List ℕ)) (P Q : List ℕ → Type 0) → ((bytes : List ℕ) → MayHave known bytes → P bytes → Q bytes)
    → OfBytes known P → OfBytes known Q
of_more known P Q more (bytes, has, holds) = (bytes, has, more bytes has holds)
