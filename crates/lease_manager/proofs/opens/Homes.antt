-- The files of opens: of a key, and of a client.
use Rattle.lease_laws.proofs.Words.{◌==◌, ◌∙◌, ◌∷◌, ◌≡◌, Among, AreInOrder, Bool, Decides-eqb, FileId, Key, List, None, Open, Option}
use Rattle.lease_laws.proofs.Words.{Some, ℕ, [], ap, ap₂, arith, false, filter, find, has_key, inl, inr, list_any, map, nat_tests}
use Rattle.lease_laws.proofs.Words.{not, option_map, refl, sym, true}
use Rattle.lease_laws.proofs.server.Lists.{among_filter, either, none_has}
use Rattle.lease_manager.proofs.opens.LeftOpens.{at_head, behind_head, found_itself}
use Rattle.lease_manager.specs.Filed.{has_id}
use Rattle.lease_manager.specs.LeftOpens.{ids_of, numbers}
use Rattle.lease_manager.specs.Looks.{file_found, is_elsewhere}
use Rattle.lease_manager.specs.Summaries.{IsHome}

-- the opens of a key are where the first of them is
pub home_is : (key : Key) (opens : List Open) (home : Option ℕ) → IsHome key opens home → list_any (has_key key) opens ≡ true
    → home ≡ option_map (λ one. one.file) (find (has_key key) opens)
home_is key opens None none has = absurd (cc (sym none ∙ has))
home_is key [] (Some file) home has = absurd (cc has)
home_is key (x ∷ opens) (Some file) home has =
    let here : is_elsewhere key file x ≡ false = none_has (is_elsewhere key file) x (x ∷ opens) home (inl refl) in
    either (has_key key x)
    (λ its. rw its (ap Some (sym (at_home (rw its at here)))))
    (λ off. rw off (home_is key opens (Some file) (rw here at home) (rw off at has)))
  where
    at_home : not (x.file == file) ≡ false → x.file ≡ file
    at_home there = grind (arith, nat_tests, there)

-- a key that no open has is on no file
pub none_found : (key : Key) (opens : List Open) → list_any (has_key key) opens ≡ false
    → find (has_key key) opens ≡ None
none_found key [] none = refl
none_found key (x ∷ opens) none = either (has_key key x)
    (λ its. absurd (cc (rw its at none)))
    (λ off. rw off (none_found key opens (rw off at none)))

-- opens that are found by their FileIds have their files
pub files_found : (opens : List Open) → AreInOrder opens → (ids : List FileId) (some : List Open) → numbers ids ≡ ids_of some
    → ((one : Open) → Among one some → Among one opens)
    → map (λ (fid : FileId). file_found (find (has_id fid.0) opens)) ids ≡ map (λ one. one.file) some
files_found opens order [] [] same there = refl
files_found opens order [] (one ∷ some) same there = absurd (cc same)
files_found opens order (x ∷ ids) [] same there = absurd (cc same)
files_found opens order (x ∷ ids) (one ∷ some) same there =
    let found : find (has_id x.0) opens ≡ Some one =
    ap (λ n. find (has_id n) opens) (at_head x ids one some same) ∙ found_itself opens one order (there one (inl refl)) in
    ap₂ (λ n l. n ∷ l) (ap file_found found)
    (files_found opens order ids some (behind_head x ids one some same) (λ other a. there other (inr a)))
