-- Texts to which one part after the other was added.
use Rattle.std.proofs.Common.{◌≡◌, ◌++◌, List, ℕ, Result, Ok, Err, OnOk, ap, ◌∙◌, append_assoc}

pub on_ok : {A E P Q : Type 0} (r : Result A E) → (P → Q) → OnOk r P → OnOk r Q
on_ok (Ok a) f p = f p
on_ok (Err e) f p = p

-- what is put behind one part is put behind both
pub behind : (old mid all first second : List ℕ) → mid ≡ old ++ first → all ≡ mid ++ second → all ≡ old ++ (first ++ second)
behind old mid all first second is whole = whole ∙ (ap (λ t. t ++ second) is ∙ append_assoc old first second)

pub four_parts : (t0 t1 t2 t3 t4 : List ℕ) (w1 w2 w3 w4 : List ℕ) → t1 ≡ t0 ++ w1 → t2 ≡ t1 ++ w2 → t3 ≡ t2 ++ w3 → t4 ≡ t3 ++ w4
    → t4 ≡ t0 ++ (w1 ++ (w2 ++ (w3 ++ w4)))
four_parts t0 t1 t2 t3 t4 w1 w2 w3 w4 e1 e2 e3 e4 = behind t0 t1 t4 w1 (w2 ++ (w3 ++ w4)) e1 (behind t1 t2 t4 w2 (w3 ++ w4)
    e2 (behind t2 t3 t4 w3 (w4) e3 (e4)))

pub eight_parts : (t0 t1 t2 t3 t4 t5 t6 t7 t8 : List ℕ) (w1 w2 w3 w4 w5 w6 w7 w8 : List ℕ)
    → t1 ≡ t0 ++ w1 → t2 ≡ t1 ++ w2 → t3 ≡ t2 ++ w3 → t4 ≡ t3 ++ w4 → t5 ≡ t4 ++ w5 → t6 ≡ t5 ++ w6 → t7 ≡ t6 ++ w7 → t8 ≡ t7 ++
    w8 → t8 ≡ t0 ++ (w1 ++ (w2 ++ (w3 ++ (w4 ++ (w5 ++ (w6 ++ (w7 ++ w8)))))))
eight_parts t0 t1 t2 t3 t4 t5 t6 t7 t8 w1 w2 w3 w4 w5 w6 w7 w8 e1 e2 e3 e4 e5 e6 e7 e8 =
    behind t0 t1 t8 w1 (w2 ++ (w3 ++ (w4 ++ (w5 ++ (w6 ++ (w7 ++ w8))))))
    e1 (behind t1 t2 t8 w2 (w3 ++ (w4 ++ (w5 ++ (w6 ++ (w7 ++ w8))))) e2 (behind t2 t3 t8 w3 (w4 ++ (w5 ++ (w6 ++ (w7 ++ w8))))
    e3 (behind t3 t4 t8 w4 (w5 ++ (w6 ++ (w7 ++ w8))) e4 (behind t4 t5 t8 w5 (w6 ++ (w7 ++ w8)) e5 (behind t5 t6 t8 w6 (w7 ++ w8)
    e6 (behind t6 t7 t8 w7 (w8) e7 (e8)))))))
