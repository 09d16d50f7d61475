-- The keys of opens stand strictly in order, and so do wants.
use Rattle.lease_laws.proofs.Words.{◌&&◌, ◌==◌, ◌||◌, ◌∙◌, ◌∷◌, ◌≡◌, ◌⊎◌, Among, AreInKeyOrder, AreWanted, Bool, Key, List, None}
use Rattle.lease_laws.proofs.Words.{Open, Option, Server, Some, State, ℕ, ⊎_elim, [], ap, arith, bytes_before, false, filter}
use Rattle.lease_laws.proofs.Words.{has_key, if◌then◌else◌, inl, inr, key_added, key_before, key_eq, key_of, keys_of, map, nat_lt}
use Rattle.lease_laws.proofs.Words.{open_key_added, refl, subst, sym, true, true≢false, wants_where}
use Rattle.lease_laws.proofs.server.KeyOrder.{wants_where-has}
use Rattle.lease_laws.proofs.server.Keys.{key_eq-refl, key_of_parts}
use Rattle.lease_laws.proofs.server.Lists.{if_cases, clash, not_false, among_map, among_filter}
use Rattle.lease_laws.proofs.server.Wants.{keys_of-has}

-- ---- the order of keys

-- first by the one number, then by what follows
in_turn : (x y z : ℕ) (a b c : Bool) → (a ≡ true → b ≡ true → c ≡ true)
    → (nat_lt x y || (x == y && a)) ≡ true → (nat_lt y z || (y == z && b)) ≡ true → (nat_lt x z || (x == z && c)) ≡ true
in_turn x y z a b c next h k = grind arith

-- bytes before others, and these before others
bytes_before-then : (xs ys zs : List ℕ) → bytes_before xs ys ≡ true → bytes_before ys zs ≡ true → bytes_before xs zs ≡ true
unfolding bytes_before
bytes_before-then [] [] zs h k = absurd (true≢false (sym h))
bytes_before-then [] (y ∷ ys) [] h k = absurd (true≢false (sym k))
bytes_before-then [] (y ∷ ys) (z ∷ zs) h k = refl
bytes_before-then (x ∷ xs) [] zs h k = absurd (true≢false (sym h))
bytes_before-then (x ∷ xs) (y ∷ ys) [] h k = absurd (true≢false (sym k))
bytes_before-then (x ∷ xs) (y ∷ ys) (z ∷ zs) h k = in_turn x y z (bytes_before xs ys) (bytes_before ys zs)
    (bytes_before xs zs) (bytes_before-then xs ys zs) h k

-- so it is with keys
pub key_before-then : (one other third : Key) → key_before one other ≡ true → key_before other third ≡ true
    → key_before one third ≡ true
unfolding key_before
key_before-then one other third h k = in_turn one.client other.client third.client
    (bytes_before one.bytes other.bytes) (bytes_before other.bytes third.bytes) (bytes_before one.bytes third.bytes)
    (bytes_before-then one.bytes other.bytes third.bytes) h k

-- where neither number is below the other they are one, and neither of what follows stands before the other
neither_first : (x y : ℕ) (a b : Bool) → (nat_lt x y || (x == y && a)) ≡ false
    → (nat_lt y x || (y == x && b)) ≡ false → (x ≡ y) × (a ≡ false) × (b ≡ false)
neither_first x y a b h k = (grind arith, grind arith, grind arith)

-- bytes neither of which stand before the other are one
bytes_before-one : (xs ys : List ℕ) → bytes_before xs ys ≡ false → bytes_before ys xs ≡ false → xs ≡ ys
unfolding bytes_before
bytes_before-one [] [] h k = refl
bytes_before-one [] (y ∷ ys) h k = absurd (true≢false h)
bytes_before-one (x ∷ xs) [] h k = absurd (true≢false k)
bytes_before-one (x ∷ xs) (y ∷ ys) h k =
    let e = neither_first x y (bytes_before xs ys) (bytes_before ys xs) h k in
    let rest = bytes_before-one xs ys e.1 e.2 in
    rw (e.0, rest) refl

-- keys that aren't one stand before one another
pub key_before-other : (one other : Key) → key_eq one other ≡ false → key_before one other ≡ false → key_before other one ≡ true
unfolding key_before
key_before-other one other differ h = not_false (key_before other one) (λ k.
    let e = neither_first one.client other.client (bytes_before one.bytes other.bytes) (bytes_before other.bytes one.bytes) h k in
    let same : one ≡ other = key_of_parts one other e.0 (bytes_before-one one.bytes other.bytes e.1 e.2) in
    clash (key_eq one other) (subst (λ x. key_eq one x ≡ true) same (key_eq-refl one)) differ)

-- no bytes stand before themselves
bytes_before-self : (xs : List ℕ) → bytes_before xs xs ≡ false
unfolding bytes_before
bytes_before-self [] = refl
bytes_before-self (x ∷ xs) = let later = bytes_before-self xs in never_first x (bytes_before xs xs) later
  where
    never_first : (x : ℕ) (b : Bool) → b ≡ false → (nat_lt x x || (x == x && b)) ≡ false
    never_first x b e = grind arith

-- nor does a key
pub key_before-self : (key : Key) → key_before key key ≡ false
unfolding key_before
key_before-self key = never_first key.client (bytes_before key.bytes key.bytes) (bytes_before-self key.bytes)
  where
    never_first : (x : ℕ) (b : Bool) → b ≡ false → (nat_lt x x || (x == x && b)) ≡ false
    never_first x b e = grind arith

-- ---- the keys of opens

-- each key stands before all behind it
abbrev AreOrdered : List Key → Type 0
AreOrdered [] = Unit {0}
AreOrdered (key ∷ keys) = ((other : Key) → Among other keys → key_before key other ≡ true) × AreOrdered keys

-- an added key, or one that was there
key_added-from : (x new : Key) (keys : List Key) → Among x (key_added new keys) → (x ≡ new) ⊎ Among x keys
unfolding key_added
key_added-from x new [] (inl same) = inl same
key_added-from x new [] (inr never) = absurd never
key_added-from x new (other ∷ keys) among =
    if_cases (λ l. Among x l → (x ≡ new) ⊎ Among x (other ∷ keys)) (key_eq new other) (other ∷ keys)
    (if key_before new other then new ∷ other ∷ keys else other ∷ key_added new keys)
    (λ e a. inr a)
    (λ e. if_cases (λ l. Among x l → (x ≡ new) ⊎ Among x (other ∷ keys)) (key_before new other)
    (new ∷ other ∷ keys) (other ∷ key_added new keys)
    (λ b a. a)
    (λ b a. ⊎_elim (λ same. inr (inl same))
    (λ later. ⊎_elim (λ same. inl same) (λ old. inr (inr old)) (key_added-from x new keys later)) a)) among

-- an added key leaves them in order
key_added-ordered : (new : Key) (keys : List Key) → AreOrdered keys → AreOrdered (key_added new keys)
unfolding key_added
key_added-ordered new [] o = (λ other a. absurd a, tt)
key_added-ordered new (first ∷ keys) o = if_cases AreOrdered (key_eq new first) (first ∷ keys)
    (if key_before new first then new ∷ first ∷ keys else first ∷ key_added new keys)
    (λ e. o)
    (λ e. if_cases AreOrdered (key_before new first) (new ∷ first ∷ keys) (first ∷ key_added new keys)
    (λ b. (
      λ other a. ⊎_elim (λ same. ap (λ x. key_before new x) same ∙ b)
          (λ later. key_before-then new first other b (o.0 other later)) a,
      o,
    ))
    (λ b. (
      λ other a. ⊎_elim
          (λ same. ap (λ x. key_before first x) same ∙ key_before-other new first e b)
          (λ old. o.0 other old) (key_added-from other new keys a),
      key_added-ordered new keys o.1,
    )))

-- so do the keys of opens
keys_of-ordered : (opens : List Open) → AreOrdered (keys_of opens)
unfolding keys_of
keys_of-ordered [] = tt
keys_of-ordered (one ∷ opens) = added one.client one.lease_key (keys_of opens) (keys_of-ordered opens)
  where
    added : (client : ℕ) (bytes : Option (List ℕ)) (keys : List Key) → AreOrdered keys
        → AreOrdered (open_key_added client bytes keys)
    added client None keys o = o
    added client (Some bytes) keys o = key_added-ordered (key_of client bytes) keys o

-- ---- wants

-- wants by keys that stand in order do
wants-ordered : (lowering : Key → State) (keys : List Key) → AreOrdered keys
    → AreInKeyOrder (map (λ key. record { key = key; lowered = lowering key }) keys)
wants-ordered lowering [] o = tt
wants-ordered lowering (key ∷ keys) o = (
  λ other a. let x = among_map (λ key. record { key = key; lowered = lowering key }) other keys a in
      ap (λ w. key_before key w.key) x.2 ∙ o.0 x.0 x.1,
  wants-ordered lowering keys o.1,
)

-- the wants of a test are those of the opens that pass it
pub wants_where-exact : (server : Server) (test : Open → Bool) (lowering : State → State)
    → AreWanted server test lowering (wants_where server test lowering)
wants_where-exact server test lowering = record {
  in_order = wants-ordered (λ key. lowering (server.leases key).state) (keys_of (filter test server.opens))
      (keys_of-ordered (filter test server.opens));
  only = λ want a.
      let x = among_map (λ key. record { key = key; lowered = lowering (server.leases key).state }) want
      (keys_of (filter test server.opens)) a in
      let y = keys_of-has x.0 (filter test server.opens) x.1 in
      let z = among_filter test y.0 server.opens y.1 in
      record {
        one = y.0;
        is_there = z.0;
        passes = z.1;
        has_the_key = ap (λ w. has_key w.key y.0) x.2 ∙ y.2;
        is_lowered_so = ap (λ w. w.lowered) x.2 ∙ ap (λ k. lowering (server.leases k).state) (sym (ap (λ w. w.key) x.2));
      };
  all = λ want w. subst (λ state. Among (record { key = want.key; lowered = state }) (wants_where server test lowering))
      (sym w.is_lowered_so) (wants_where-has server test lowering want.key w.one w.is_there w.passes w.has_the_key);
}
