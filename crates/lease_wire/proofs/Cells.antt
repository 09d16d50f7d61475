-- A list of known length, cell by cell.
use Rattle.std.proofs.Common.{◌≡◌, ℕ, suc, List, [], ◌∷◌, length, arith}

-- what holds of every first cell with n cells behind it holds of every list of one cell more
first_cell : (P : List ℕ → Type 0) (n : ℕ) → ((x : ℕ) (xs : List ℕ) → length xs ≡ n → P (x ∷ xs)) → (xs : List ℕ)
    → length xs ≡ suc n → P xs
first_cell P n here [] long = absurd (omega arith)
first_cell P n here (x ∷ xs) long = here x xs (omega arith)

no_cell : (P : List ℕ → Type 0) → P [] → (xs : List ℕ) → length xs ≡ 0 → P xs
no_cell P here [] long = here
no_cell P here (x ∷ xs) long = absurd (omega arith)

-- what holds of sixteen cells holds of every list of that length
pub sixteen_cells : (P : List ℕ → Type 0)
    → ((a b c d e f g h i j k l m n o p : ℕ) → P (a ∷ b ∷ c ∷ d ∷ e ∷ f ∷ g ∷ h ∷ i ∷ j ∷ k ∷ l ∷ m ∷ n ∷ o ∷ p ∷ []))
    → (xs : List ℕ) → length xs ≡ 16 → P xs
sixteen_cells P here = first_cell (λ xs. P (xs)) 15 (λ a. first_cell (λ xs. P (a ∷ xs)) 14 (λ b.
    first_cell (λ xs. P (a ∷ b ∷ xs)) 13 (λ c. first_cell (λ xs. P (a ∷ b ∷ c ∷ xs)) 12 (λ d.
    first_cell (λ xs. P (a ∷ b ∷ c ∷ d ∷ xs)) 11 (λ e. first_cell (λ xs. P (a ∷ b ∷ c ∷ d ∷ e ∷ xs)) 10 (λ f.
    first_cell (λ xs. P (a ∷ b ∷ c ∷ d ∷ e ∷ f ∷ xs)) 9 (λ g. first_cell (λ xs. P (a ∷ b ∷ c ∷ d ∷ e ∷ f ∷ g ∷ xs)) 8 (λ h.
    first_cell (λ xs. P (a ∷ b ∷ c ∷ d ∷ e ∷ f ∷ g ∷ h ∷ xs)) 7 (λ i.
    first_cell (λ xs. P (a ∷ b ∷ c ∷ d ∷ e ∷ f ∷ g ∷ h ∷ i ∷ xs)) 6 (λ j.
    first_cell (λ xs. P (a ∷ b ∷ c ∷ d ∷ e ∷ f ∷ g ∷ h ∷ i ∷ j ∷ xs)) 5 (λ k.
    first_cell (λ xs. P (a ∷ b ∷ c ∷ d ∷ e ∷ f ∷ g ∷ h ∷ i ∷ j ∷ k ∷ xs)) 4 (λ l.
    first_cell (λ xs. P (a ∷ b ∷ c ∷ d ∷ e ∷ f ∷ g ∷ h ∷ i ∷ j ∷ k ∷ l ∷ xs)) 3 (λ m.
    first_cell (λ xs. P (a ∷ b ∷ c ∷ d ∷ e ∷ f ∷ g ∷ h ∷ i ∷ j ∷ k ∷ l ∷ m ∷ xs)) 2 (λ n.
    first_cell (λ xs. P (a ∷ b ∷ c ∷ d ∷ e ∷ f ∷ g ∷ h ∷ i ∷ j ∷ k ∷ l ∷ m ∷ n ∷ xs)) 1 (λ o.
    first_cell (λ xs. P (a ∷ b ∷ c ∷ d ∷ e ∷ f ∷ g ∷ h ∷ i ∷ j ∷ k ∷ l ∷ m ∷ n ∷ o ∷ xs)) 0 (λ p.
    no_cell (λ xs. P (a ∷ b ∷ c ∷ d ∷ e ∷ f ∷ g ∷ h ∷ i ∷ j ∷ k ∷ l ∷ m ∷ n ∷ o ∷ p ∷ xs))
    (here a b c d e f g h i j k l m n o p)))))))))))))))))
