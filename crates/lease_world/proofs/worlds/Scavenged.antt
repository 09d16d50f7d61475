-- Where the timer of a kept open runs out, no disconnected open of its FileId is left.
use Rattle.lease_laws.proofs.Words.{◌&&◌, ◌++◌, ◌==◌, ◌||◌, ◌∷◌, ◌≡◌, Bool, FileRequest, Held, List, None, Open, Option}
use Rattle.lease_laws.proofs.Words.{Outcome, Pass}
use Rattle.lease_laws.proofs.Words.{Progress, Server, Some, ℕ, [], all_passes, arith, begun, concluded, false, filter, find}
use Rattle.lease_laws.proofs.Words.{held_left}
use Rattle.lease_laws.proofs.Words.{is_left_behind, kept, list_any, map, not, opens_dropped, option_map, refl, scavenge}
use Rattle.lease_laws.proofs.Words.{if◌then◌else◌, tried, tried_again, true}
use Rattle.lease_laws.proofs.server.Lists.{and_parts, find_has, has_any, if_cases}
use Rattle.lease_laws.proofs.server.cases.Ends.{any_end}
use Rattle.lease_laws.proofs.server.cases.Passes.{any_try_again, passes_keep}
use Rattle.lease_laws.proofs.server.cases.Tries.{any_try}

abbrev pub IsGone : ℕ → Progress → Type 0
IsGone file_id progress = list_any (is_left_behind file_id) progress.server.opens ≡ false

-- ---- lists

or_parts : (a b : Bool) → (a || b) ≡ false → (a ≡ false) × (b ≡ false)
or_parts a b e = grind arith

neither : (a b : Bool) → a ≡ false → b ≡ false → (a || b) ≡ false
neither a b e f = rw (e, f) refl

any_filtered : {X : Type 0} (test keep : X → Bool) (xs : List X) → list_any test xs ≡ false
    → list_any test (filter keep xs) ≡ false
any_filtered test keep [] none = refl
any_filtered {X} test keep (x ∷ xs) none =
    let parts = or_parts (test x) (list_any test xs) none in
    let rest = any_filtered test keep xs parts.1 in
    if_cases (λ (ys : List X). list_any test ys ≡ false) (keep x) (x ∷ filter keep xs) (filter keep xs)
    (λ stays. neither (test x) (list_any test (filter keep xs)) parts.0 rest) (λ goes. rest)

any_mapped : {X : Type 0} (test : X → Bool) (f : X → X) (xs : List X) → ((x : X) → test x ≡ false → test (f x) ≡ false)
    → list_any test xs ≡ false → list_any test (map f xs) ≡ false
any_mapped test f [] each none = refl
any_mapped test f (x ∷ xs) each none =
    let parts = or_parts (test x) (list_any test xs) none in
    neither (test (f x)) (list_any test (map f xs)) (each x parts.0) (any_mapped test f xs each parts.1)

any_and_one : {X : Type 0} (test : X → Bool) (xs : List X) (x : X) → list_any test xs ≡ false → test x ≡ false
    → list_any test (xs ++ x ∷ []) ≡ false
any_and_one test [] x none isnt = neither (test x) false isnt refl
any_and_one test (y ∷ xs) x none isnt =
    let parts = or_parts (test y) (list_any test xs) none in
    neither (test y) (list_any test (xs ++ x ∷ [])) parts.0 (any_and_one test xs x parts.1 isnt)

none_without : {X : Type 0} (test : X → Bool) (xs : List X) → list_any test (filter (λ x. not (test x)) xs) ≡ false
none_without test [] = refl
none_without {X} test (x ∷ xs) =
    let rest = none_without test xs in
    if_cases (λ (ys : List X). list_any test ys ≡ false) (not (test x)) (x ∷ filter (λ y. not (test y)) xs)
    (filter (λ y. not (test y)) xs)
    (λ stays. neither (test x) (list_any test (filter (λ y. not (test y)) xs)) (not_so (test x) stays) rest) (λ goes. rest)
  where
    not_so : (b : Bool) → not b ≡ true → b ≡ false
    not_so b e = grind arith

-- ---- calls under way

up_is_none : (a : Bool) → (a && not true) ≡ false
up_is_none a = grind arith

again_is_none : (file_id again : ℕ) (one : Open) → is_left_behind file_id one ≡ false
    → is_left_behind file_id (if one.file_id == again then record one { connected = true } else one) ≡ false
again_is_none file_id again one none =
    if_cases (λ (o : Open). is_left_behind file_id o ≡ false) (one.file_id == again) (record one { connected = true }) one
    (λ same. up_is_none (one.file_id == file_id)) (λ other. none)

ends_keep : (file_id client : ℕ) (request : FileRequest) (progress : Progress) (outcome : Outcome) → IsGone file_id progress
    → IsGone file_id (concluded client request progress outcome)
ends_keep file_id client request progress outcome =
    any_end client progress (λ request outcome after. IsGone file_id progress → IsGone file_id after) (record {
      refused = λ request status gone. gone;
      left = λ request outcome why gone. gone;
      full = λ file access share ask none out gone. gone;
      granted = λ file access share ask none room gone.
          any_and_one (is_left_behind file_id) progress.server.opens _ gone (up_is_none _);
      again = λ file access share ask again some gone.
          any_mapped (is_left_behind file_id) _ progress.server.opens (again_is_none file_id again) gone;
      read = λ read one own gone. gone;
      changed = λ written number patch one own gone. gone;
      closed = λ closed one own gone. any_filtered (is_left_behind file_id) _ progress.server.opens gone;
    }) request outcome

tries_keep : (file_id client : ℕ) (request : FileRequest) (progress : Progress) → IsGone file_id progress
    → IsGone file_id (tried client request progress).progress
tries_keep file_id client request progress =
    any_try (λ before after. IsGone file_id before → IsGone file_id after) (record {
      same = λ progress gone. gone;
      behind = λ before next after first rest gone. rest (first gone);
      drop = λ key progress gone. any_filtered (is_left_behind file_id) _ progress.server.opens gone;
      lower = λ key lowered progress settled gone. gone;
      begin = λ key lowered progress settled gone. gone;
    }) 3 client request progress

again_keeps : (file_id file : ℕ) (one : Held) (waiting : List Held) (pass : Pass) → IsGone file_id pass.progress
    → IsGone file_id (tried_again file one waiting pass).progress
again_keeps file_id file one waiting pass gone =
    let done = tries_keep file_id one.client one.request pass.progress gone in
    any_try_again file one waiting pass (λ after. IsGone file_id after.progress) (record {
      behind = λ behind. gone;
      waits = λ first waits. done;
      answers = λ first ends. ends_keep file_id one.client one.request
          (held_left file (pass.passed ++ waiting) (tried one.client one.request pass.progress).progress)
          (tried one.client one.request pass.progress).outcome done;
    })

pub scavenged_leaves_none : (server : Server) (file_id : ℕ)
    → list_any (is_left_behind file_id) (scavenge server file_id).server.opens ≡ false
unfolding scavenge
scavenged_leaves_none server file_id =
    if_cases (IsGone file_id) (list_any (is_left_behind file_id) server.opens)
    (all_passes (opens_dropped (is_left_behind file_id) (begun server))) (begun server)
    (λ some. passes_keep (IsGone file_id) (again_keeps file_id) (opens_dropped (is_left_behind file_id) (begun server))
    (none_without (is_left_behind file_id) server.opens))
    (λ none. none)

-- ---- the open that is kept

abbrev is_kept : ℕ → ℕ → Open → Bool
is_kept client file one = one.client == client && one.file == file && not one.connected

found_is_left : (server : Server) (client file file_id : ℕ) (found : Option Open)
    → find (is_kept client file) server.opens ≡ found → option_map (λ one. one.file_id) found ≡ Some file_id
    → list_any (is_left_behind file_id) server.opens ≡ true
found_is_left server client file file_id None is same = let c : ⊥ = cc in absurd c
found_is_left server client file file_id (Some one) is same =
    let has = find_has (is_kept client file) one server.opens is in
    let parts = and_parts (one.client == client && one.file == file) (not one.connected) has.1 in
    let id : one.file_id ≡ file_id = cc in
    has_any (is_left_behind file_id) one server.opens has.0 (left one.file_id file_id (not one.connected) id parts.1)
  where
    left : (a b : ℕ) (c : Bool) → a ≡ b → c ≡ true → (a == b && c) ≡ true
    left a b c e f = grind arith

pub kept_is_left : (server : Server) (client file file_id : ℕ) → kept server client file ≡ Some file_id
    → list_any (is_left_behind file_id) server.opens ≡ true
kept_is_left server client file file_id is =
    found_is_left server client file file_id (find (is_kept client file) server.opens) refl is
