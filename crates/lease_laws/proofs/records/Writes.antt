-- Where no write is settled before it is given, unanswered writes are found fact by fact.
use Rattle.lease_laws.proofs.Words.{◌&&◌, ◌++◌, ◌==◌, ◌||◌, ◌∙◌, ◌∷◌, ◌≡◌, Bool, Fact, List, Patch, Pending, WritesNow, ℕ, [], ap}
use Rattle.lease_laws.proofs.Words.{arith, false, filter, gives_first, if◌then◌else◌, is_numbered, is_settled, not, open_writes}
use Rattle.lease_laws.proofs.Words.{patches_of, refl, sym, true, unsettled, without}
use Rattle.lease_laws.proofs.server.Lists.{either, and_parts, and_both}

-- ---- filters

-- a last element that passes stays last, and one that doesn't is left out
filter_in : {X : Type 0} (test : X → Bool) (xs : List X) (x : X) → test x ≡ true
    → filter test (xs ++ x ∷ []) ≡ filter test xs ++ x ∷ []
filter_in test [] x e = rw e refl
filter_in test (y ∷ xs) x e =
    either (test y) (λ t. rw t (ap (λ l. y ∷ l) (filter_in test xs x e))) (λ t. rw t (filter_in test xs x e))

-- a last element that fails is left out
filter_out : {X : Type 0} (test : X → Bool) (xs : List X) (x : X) → test x ≡ false → filter test (xs ++ x ∷ []) ≡ filter test xs
filter_out test [] x e = rw e refl
filter_out test (y ∷ xs) x e =
    either (test y) (λ t. rw t (ap (λ l. y ∷ l) (filter_out test xs x e))) (λ t. rw t (filter_out test xs x e))

-- where the first of two tests fails, not both pass
first_fails : (a b : Bool) → a ≡ false → (a && b) ≡ false
first_fails a b e = rw e refl

-- nor where the second does
second_fails : (a b : Bool) → b ≡ false → (a && b) ≡ false
second_fails a b e = grind arith

-- to filter by one test and then by another is to filter by both
filter_twice : {X : Type 0} (first second both : X → Bool) → ((x : X) → both x ≡ (first x && second x)) → (xs : List X)
    → filter second (filter first xs) ≡ filter both xs
filter_twice first second both is [] = refl
filter_twice first second both is (y ∷ xs) = either (first y)
    (λ f. either (second y)
    (λ s. let b : both y ≡ true = is y ∙ and_both (first y) (second y) f s in
    rw (f, s, b) (ap (λ l. y ∷ l) (filter_twice first second both is xs)))
    (λ s. let b : both y ≡ false = is y ∙ second_fails (first y) (second y) s in
    rw (f, s, b) (filter_twice first second both is xs)))
    (λ f. let b : both y ≡ false = is y ∙ first_fails (first y) (second y) f in
    rw (f, b) (filter_twice first second both is xs))

-- tests that agree leave the same
filter_same : {X : Type 0} (one other : X → Bool) → ((x : X) → one x ≡ other x) → (xs : List X) → filter one xs ≡ filter other xs
filter_same one other is [] = refl
filter_same one other is (y ∷ xs) = either (other y)
    (λ o. rw (is y, o) (ap (λ l. y ∷ l) (filter_same one other is xs)))
    (λ o. rw (is y, o) (filter_same one other is xs))

-- the patch of a last write is the last
patches_last : (writes : List Pending) (write : Pending)
    → patches_of (writes ++ write ∷ []) ≡ patches_of writes ++ write.patch ∷ []
patches_last [] write = refl
patches_last (first ∷ writes) write = ap (λ (l : List Patch). first.patch ∷ l) (patches_last writes write)

-- ---- all writes, and those that aren't settled

-- all writes of a client on a file
writes_of : ℕ → ℕ → List Fact → List Pending
writes_of client file [] = []
writes_of client file (Fact.Wrote writer other number patch buffered ∷ past) = if writer == client && other == file
    then writes_of client file past ++ record { number = number; patch = patch; buffered = buffered } ∷ []
    else writes_of client file past
writes_of client file (_ ∷ past) = writes_of client file past

-- a write that isn't settled
abbrev is_open : ℕ → List Fact → Pending → Bool
is_open client whole write = not (is_settled client write.number whole)

-- the patches of the writes that aren't settled are those of all writes but the settled ones
unsettled-open : (client file : ℕ) (whole past : List Fact)
    → unsettled client file whole past ≡ patches_of (filter (is_open client whole) (writes_of client file past))
unfolding unsettled writes_of
unsettled-open client file whole [] = refl
unsettled-open client file whole (Fact.Wrote writer other number patch buffered ∷ past) =
    let write : Pending = record { number = number; patch = patch; buffered = buffered } in
    let rest : unsettled client file whole past ≡ patches_of (filter (is_open client whole) (writes_of client file past)) =
    unsettled-open client file whole past in
    either (writer == client && other == file)
    (λ mine. either (not (is_settled client number whole))
    (λ unsettled_yet. rw (mine, unsettled_yet) (ap (λ (l : List Patch). l ++ patch ∷ []) rest
    ∙ sym (patches_last (filter (is_open client whole) (writes_of client file past)) write)
    ∙ ap (λ (l : List Pending). patches_of l)
    (sym (filter_in (is_open client whole) (writes_of client file past) write unsettled_yet))))
    (λ settled_so. rw (mine, settled_so) (rest ∙ ap (λ (l : List Pending). patches_of l)
    (sym (filter_out (is_open client whole) (writes_of client file past) write settled_so)))))
    (λ foreign. rw foreign rest)
unsettled-open client file whole (_ ∷ past) = unsettled-open client file whole past

-- found fact by fact, they are the same
open_writes-open : (client file : ℕ) (past : List Fact) → gives_first client past ≡ true
    → open_writes client file past ≡ filter (is_open client past) (writes_of client file past)
unfolding open_writes writes_of gives_first is_settled
open_writes-open client file [] gives = refl
open_writes-open client file (Fact.Wrote writer other number patch buffered ∷ past) gives =
    let write : Pending = record { number = number; patch = patch; buffered = buffered } in
    let parts = and_parts (not (writer == client && is_settled client number past)) (gives_first client past) gives in
    let rest : open_writes client file past ≡ filter (is_open client past) (writes_of client file past) =
    open_writes-open client file past parts.1 in
    either (writer == client && other == file)
    (λ mine. rw mine (ap (λ (l : List Pending). l ++ write ∷ []) rest
    ∙ sym (filter_in (is_open client past) (writes_of client file past) write
    (yet (writer == client) (is_settled client number past) (and_parts (writer == client) (other == file) mine).0 parts.0))))
    (λ foreign. rw foreign rest)
  where
    yet : (a b : Bool) → a ≡ true → not (a && b) ≡ true → not b ≡ true
    yet a b e n = grind arith
open_writes-open client file (Fact.Settled other number outcome ∷ past) gives =
    let rest : open_writes client file past ≡ filter (is_open client past) (writes_of client file past) =
    open_writes-open client file past gives in
    either (other == client)
    (λ mine. rw mine (ap (λ (l : List Pending). without (is_numbered number) l) rest
    ∙ filter_twice (is_open client past) (λ write. not (is_numbered number write))
    (is_open client (Fact.Settled other number outcome ∷ past))
    (λ write. both_tests (other == client) number write.number (is_settled client write.number past) mine)
    (writes_of client file past)))
    (λ foreign. rw foreign (rest ∙ filter_same (is_open client past) (is_open client (Fact.Settled other number outcome ∷ past))
    (λ write. other_test (other == client) (number == write.number) (is_settled client write.number past) foreign)
    (writes_of client file past)))
  where
    both_tests : (a : Bool) (s n : ℕ) (t : Bool) → a ≡ true → not ((a && s == n) || t) ≡ (not t && not (n == s))
    both_tests a s n t e = grind arith

    other_test : (a b t : Bool) → a ≡ false → not t ≡ not ((a && b) || t)
    other_test a b t e = rw e refl
open_writes-open client file (_ ∷ past) gives = open_writes-open client file past gives

-- so the unanswered writes are found fact by fact
pub writes_now : WritesNow
writes_now client file past gives = unsettled-open client file past past
    ∙ ap (λ (l : List Pending). patches_of l) (sym (open_writes-open client file past gives))
