-- What names a lease (MS-SMB2 3.3.1.4, 3.3.5.9.8): the client and the client's LeaseKey.
use Rattle.std.specs.Prelude.{ℕ, Bool, true, false, List, [], ◌∷◌, ◌&&◌, ◌||◌, ◌==◌, nat_lt, bytes_eq}

-- the client's number stands for its ClientGuid
pub record Key : Type 0 where
  pub client : ℕ
  pub bytes : List ℕ

unfoldable pub key_eq : Key → Key → Bool
key_eq one other = one.client == other.client && bytes_eq one.bytes other.bytes

-- the order of bytes, as that of words in a dictionary
unfoldable pub bytes_before : List ℕ → List ℕ → Bool
bytes_before [] [] = false
bytes_before [] (y ∷ ys) = true
bytes_before (x ∷ xs) [] = false
bytes_before (x ∷ xs) (y ∷ ys) = nat_lt x y || (x == y && bytes_before xs ys)

-- own: leases are broken in the order of their clients' numbers, then of their keys' bytes
unfoldable pub key_before : Key → Key → Bool
key_before one other =
    nat_lt one.client other.client || (one.client == other.client && bytes_before one.bytes other.bytes)
