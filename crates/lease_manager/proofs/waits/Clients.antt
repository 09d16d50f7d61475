-- The clients of what waits on a file, as requests come and go.
use Rattle.lease_laws.proofs.Words.{◌+◌, ◌++◌, ◌<◌, ◌∙◌, ◌∷◌, ◌≡◌, ◌≤◌, ◌⊎◌, Among, Bool, Decides-eqb, List, ℕ, [], ap, arith}
use Rattle.lease_laws.proofs.Words.{drop}
use Rattle.lease_laws.proofs.Words.{false, inl, inr, length, list_any, not, put, refl, suc, sym, take, true, true≢false}
use Rattle.lease_laws.proofs.Words.{without, zero}
use Rattle.std.specs.List.{remove}
use Rattle.std.proofs.lemmas.List.Edits.{length-remove}
use Rattle.manager_model.specs.Handling.{Tagged, is_of}
use Rattle.lease_laws.proofs.server.Lists.{among_append, among_filter, either}
use Rattle.lease_manager.specs.Table.{AreOf, is_among}
use Rattle.lease_manager.specs.declared.values.number.ClientNo.{ClientNo}

-- none waits of a client that isn't one of these
pub none_of : (clients : List ClientNo) (client : ℕ) (queue : List Tagged) → AreOf clients queue
    → is_among clients client ≡ false → list_any (is_of client) queue ≡ false
none_of clients client [] all none = refl
none_of clients client (one ∷ queue) all none = either (is_of client one)
    (λ its. absurd (true≢false (sym (all one (inl refl)) ∙ (ap (is_among clients) ((Decides-eqb one.held.client client).0 its)
    ∙ none))))
    (λ its. rw its (none_of clients client queue (λ other a. all other (inr a)) none))

-- fewer wait
pub less_of : (clients : List ClientNo) (queue left : List Tagged) → AreOf clients queue
    → ((one : Tagged) → Among one left → Among one queue) → AreOf clients left
less_of clients queue left all among = λ one a. all one (among one a)

pub among_without : (test : Tagged → Bool) (queue : List Tagged) (one : Tagged) → Among one (without test queue) → Among one queue
among_without test queue one a = (among_filter (λ x. not (test x)) one queue a).0

among_take : (n : ℕ) (queue : List Tagged) (one : Tagged) → Among one (take n queue) → Among one queue
among_take zero queue one a = absurd a
among_take (suc n) [] one a = absurd a
among_take (suc n) (x ∷ queue) one (inl is) = inl is
among_take (suc n) (x ∷ queue) one (inr a) = inr (among_take n queue one a)

pub among_drop : (n : ℕ) (queue : List Tagged) (one : Tagged) → Among one (drop n queue) → Among one queue
among_drop zero queue one a = a
among_drop (suc n) [] one a = absurd a
among_drop (suc n) (x ∷ queue) one a = inr (among_drop n queue one a)

pub among_remove : (queue : List Tagged) (place : ℕ) (one : Tagged) → Among one (remove queue place) → Among one queue
among_remove queue place one a = either_of (among_append one (take place queue) (drop (suc place) queue) a)
  where
    either_of : Among one (take place queue) ⊎ Among one (drop (suc place) queue) → Among one queue
    either_of (inl before) = among_take place queue one before
    either_of (inr after) = among_drop (suc place) queue one after

-- those of one client no longer wait
pub left_of : (clients left : List ClientNo) (client : ℕ) (queue : List Tagged) → AreOf clients queue
    → ((n : ℕ) → is_among left n ≡ put (is_among clients) client false n) → AreOf left (without (is_of client) queue)
unfolding put
left_of clients left client queue all gone = λ one a.
    let among = among_filter (λ x. not (is_of client x)) one queue a in
    let there = all one among.0 in
    let passes = among.1 in
    let after = gone one.held.client in
    grind (arith, there, passes, after)

-- one more waits
pub more_of : (clients more : List ClientNo) (queue : List Tagged) (one : Tagged) → AreOf clients queue
    → ((n : ℕ) → is_among more n ≡ put (is_among clients) one.held.client true n) → AreOf more (queue ++ one ∷ [])
unfolding put
more_of clients more queue one all come = λ other a. either_of other (among_append other queue (one ∷ []) a)
  where
    either_of : (other : Tagged) → Among other queue ⊎ Among other (one ∷ []) → is_among more other.held.client ≡ true
    either_of other (inl before) =
        let there = all other before in
        let after = come other.held.client in
        grind (arith, there, after)
    either_of other (inr (inl is)) =
        let after = come other.held.client in
        grind (arith, is, after)
    either_of other (inr (inr none)) = absurd none

-- so it is of what was known, where the list has one more
pub kept_of : (clients more : List ClientNo) (queue : List Tagged) (client : ℕ) → AreOf clients queue
    → ((n : ℕ) → is_among more n ≡ put (is_among clients) client true n) → AreOf more queue
unfolding put
kept_of clients more queue client all come = λ one a.
    let there = all one a in
    let after = come one.held.client in
    grind (arith, there, after)

pub drop_more : (gone : ℕ) (queue : List Tagged) (one : Tagged) → gone ≤ length queue
    → drop gone (queue ++ one ∷ []) ≡ drop gone queue ++ one ∷ []
drop_more zero queue one less = refl
drop_more (suc gone) [] one less = absurd (omega (arith, less))
drop_more (suc gone) (x ∷ queue) one less = drop_more gone queue one (omega (arith, less))

-- where a place is taken, the front doesn't reach the end
pub room_after : (queue : List Tagged) (gone place : ℕ) → place < length (drop gone queue)
    → gone ≤ length (remove queue (gone + place))
room_after queue gone place less =
    let there = stands queue gone place less in
    let shorter = length-remove queue (gone + place) there in
    omega (arith, there, shorter)
  where
    stands : (queue : List Tagged) (gone place : ℕ) → place < length (drop gone queue) → gone + place < length queue
    stands [] zero place less = absurd (omega (arith, less))
    stands [] (suc gone) place less = absurd (omega (arith, less))
    stands (x ∷ queue) zero place less = omega (arith, less)
    stands (x ∷ queue) (suc gone) place less = let later = stands queue gone place less in omega (arith, later)
