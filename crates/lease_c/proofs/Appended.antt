-- What writes one after another come to, and where a text's last context may begin.
use Rattle.std.proofs.Common.{◌≡◌, ◌≢◌, ℕ, zero, suc, ◌+◌, ◌-◌, ◌≤◌, ◌++◌, List, [], ◌∷◌, length, drop, take, Option}
use Rattle.std.proofs.Common.{refl, arith, sym, ap, subst, replicate, ◌∙◌, IfSome}
use Rattle.std.proofs.lemmas.List.{drop-drop, append_assoc}
use Rattle.std.proofs.Math.Seq.{take-append_seam, drop-append-add}
use Rattle.std.proofs.lemmas.List.{length-append, length-take-le, length-drop, length-replicate}
use Rattle.lease_wire.specs.Chain.{next_of}
use Rattle.lease_wire.specs.Reading.{item_before, items_behind, layout_fault, context_at}
use Rattle.lease_wire.specs.declared.fault.WireFault.{WireFault}
use Rattle.lease_c.specs.Appended.{put, last_among, last_of}

-- a write that begins where another one ended is one write of both parts
pub put_put : (place : ℕ) (first second bytes : List ℕ) → place + length first ≤ length bytes
    → put (place + length first) second (put place first bytes) ≡ put place (first ++ second) bytes
put_put place first second bytes fits =
    let begin : List ℕ = take place bytes in
    let rest : List ℕ = drop (place + length first) bytes in
    let whole : put place first bytes ≡ (begin ++ first) ++ rest = sym (append_assoc begin first rest) in
    let seam : length (begin ++ first)
    ≡ place + length first = length-append begin first
    ∙ ap (λ n. n + length first) (length-take-le place bytes (omega (arith, fits))) in
    let front : take (place + length first) (put place first bytes) ≡ begin ++ first =
    ap (take (place + length first)) whole ∙ ap (λ n. take n ((begin ++ first) ++ rest)) (sym seam)
    ∙ take-append_seam (begin ++ first) rest in
    let back : drop (place + length first + length second) (put place first bytes)
    ≡ drop (place + length (first ++ second)) bytes = ap (drop (place + length first + length second)) whole
    ∙ ap (λ n. drop (n + length second) ((begin ++ first) ++ rest)) (sym seam)
    ∙ drop-append-add (begin ++ first) rest (length second) ∙ drop-drop (length second) (place + length first) bytes
    ∙ ap (λ n. drop n bytes) (omega (arith, length-append first second)) in
    rw (front, back) (append_assoc begin first (second ++ drop (place + length (first ++ second)) bytes)
    ∙ ap (λ l. begin ++ l) (sym (append_assoc first second (drop (place + length (first ++ second)) bytes))))

-- a write that begins where another one ended, by that one's length
pub put_after : (place : ℕ) (first second bytes : List ℕ) (count : ℕ) → length first ≡ count → place + count ≤ length bytes
    → put (place + count) second (put place first bytes) ≡ put place (first ++ second) bytes
put_after place first second bytes count e fits =
    ap (λ n. put (place + n) second (put place first bytes)) (sym e) ∙ put_put place first second bytes (omega (arith, e, fits))

pub length_put : (place : ℕ) (part bytes : List ℕ) → place + length part ≤ length bytes
    → length (put place part bytes) ≡ length bytes
length_put place part bytes fits = omega (
  arith,
  fits,
  length-append (take place bytes) (part ++ drop (place + length part) bytes),
  length-append part (drop (place + length part) bytes),
  length-take-le place bytes (omega (arith, fits)),
  length-drop (place + length part) bytes,
)

-- four writes, one after another
pub put_four : (place : ℕ) (a b c d bytes : List ℕ) → place + (length a + length b + length c + length d) ≤ length bytes
    → put (place + (length a + length b + length c)) d (put (place + (length a + length b)) c
    (put (place + length a) b (put place a bytes))) ≡ put place (a ++ (b ++ (c ++ d))) bytes
put_four place a b c d bytes fits =
    let two : length (a ++ b) ≡ length a + length b = length-append a b in
    let three : length ((a ++ b) ++ c) ≡ length a + length b + length c = length-append (a ++ b) c ∙ ap (λ n. n + length c) two in
    rw (
      put_after place a b bytes (length a) refl (omega (arith, fits)),
      put_after place (a ++ b) c bytes (length a + length b) two (omega (arith, fits)),
      put_after place ((a ++ b) ++ c) d bytes (length a + length b + length c) three (omega (arith, fits)),
    ) (ap (λ l. put place l bytes) (append_assoc (a ++ b) c d ∙ append_assoc a b (c ++ d)))

-- the last context begins within the text
last_within : (end place last skipped : ℕ) (bytes : List ℕ) → last ≤ end → place + length bytes ≤ end + skipped
    → IfSome (last_among last (items_behind place skipped bytes)) (λ found. found ≤ end)
unfolding items_behind context_at
last_within end place last zero [] before ends = tt
last_within end place last (suc skipped) [] before ends = before
last_within end place last zero (byte ∷ bytes) before ends =
    due (layout_fault place (byte ∷ bytes)) (λ some. last_within end (place + next_of (byte ∷ bytes)) place
    (next_of (byte ∷ bytes) - 1) bytes (omega (arith, ends)) (omega (arith, ends, some)))
  where
    next : ℕ
    next = next_of (byte ∷ bytes)

    due : (fault : Option WireFault)
        → (next ≢ 0 → IfSome (last_among place (items_behind (place + next) (next - 1) bytes)) (λ found. found ≤ end))
        → IfSome (last_among last (item_before fault (context_at place (byte ∷ bytes)) next
        (items_behind (place + next) (next - 1) bytes))) (λ found. found ≤ end)
    due fault later = grind arith
last_within end place last (suc skipped) (byte ∷ bytes) before ends = last_within end place last skipped bytes before
    (omega (arith, ends))

pub last_is_within : (text : List ℕ) → IfSome (last_of text) (λ last. last ≤ length text)
last_is_within [] = omega arith
last_is_within (byte ∷ bytes) = last_within (length (byte ∷ bytes)) 0 0 0 (byte ∷ bytes) (omega arith) (omega arith)

-- the four parts of a context, the third of them so many zeros
pub put_parts : (place : ℕ) (head name : List ℕ) (zeros : ℕ) (body bytes : List ℕ)
    → place + (length head + length name + zeros + length body) ≤ length bytes
    → put (place + (length head + length name + zeros)) body (put (place + (length head + length name)) (replicate zeros 0)
    (put (place + length head) name (put place head bytes))) ≡ put place (head ++ (name ++ (replicate zeros 0 ++ body))) bytes
put_parts place head name zeros body bytes fits =
    let count : length (replicate zeros 0) ≡ zeros = length-replicate {A = ℕ} zeros 0 in
    subst (λ (n : ℕ). put (place + (length head + length name + n)) body
    (put (place + (length head + length name)) (replicate zeros 0) (put (place + length head) name (put place head bytes)))
    ≡ put place (head ++ (name ++ (replicate zeros 0 ++ body))) bytes) count
    (put_four place head name (replicate zeros 0) body bytes (omega (arith, fits, count)))
