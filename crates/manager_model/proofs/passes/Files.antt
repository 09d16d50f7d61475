-- Only files where requests wait need passes.
use Rattle.lease_laws.proofs.Words.{◌+◌, ◌++◌, ◌<◌, ◌==◌, ◌∙◌, ◌∷◌, ◌≡◌, ◌≢◌, ◌≤◌, ◌⊎◌, Among, Bool, Decides-eqb, List, ℕ}
use Rattle.lease_laws.proofs.Words.{⊎_elim, [], ap}
use Rattle.lease_laws.proofs.Words.{arith, eqb-true, false, if◌then◌else◌, inl, inr, length, numbers_to, refl, subst, suc, sym}
use Rattle.lease_laws.proofs.Words.{nat_tests, true, zero}
use Rattle.lease_laws.proofs.server.Lists.{clash, either}
use Rattle.manager_model.specs.Handling.{Handling, Pass, Tagged, one_pass}
use Rattle.manager_model.specs.Handling as rules
use Rattle.manager_model.specs.Laws.{FilesAreEnough}
use Rattle.manager_model.specs.Waiting.{AreAbove}
use Rattle.manager_model.proofs.passes.Tables.{put_apart}
use Rattle.manager_model.proofs.passes.Ways.{any_pass, any_try, file_by_file, is_over, passes_stop}

-- ---- a file where nothing waits

nothing_to_pass : (file : ℕ) (now : Handling) → now.manager.queues file ≡ [] → rules.passes file now ≡ now
nothing_to_pass file now none =
    let one : one_pass file now ≡ record { passed = []; now = now; has_answered = false } =
    ap (λ queue. rules.pass_over file queue (record { passed = []; now = now; has_answered = false })) none
    ∙ is_over file (record { passed = []; now = now; has_answered = false }) in
    ap (λ queue. rules.passes_for (length queue + 1) file now) none
    ∙ passes_stop 0 file now (ap (λ (p : Pass). p.has_answered) one)
    ∙ ap (λ (p : Pass). p.now) one

-- ---- passes over a file leave what waits on others

others_wait : (file other : ℕ) → (other == file) ≡ false → (one : Tagged) (waiting : List Tagged) (pass : Pass)
    (queue : List Tagged)
    → pass.now.manager.queues other ≡ queue → (rules.tried_again file one waiting pass).now.manager.queues other ≡ queue
others_wait file other apart one waiting pass queue same =
    any_try file one waiting pass (λ after. after.now.manager.queues other ≡ queue) (record {
      behind = same;
      waits = same;
      answers = λ outcome is ends. put_apart pass.now.manager.queues file other (pass.passed ++ waiting) apart ∙ same;
    })

pass_apart : (file other : ℕ) (now : Handling) → (other == file) ≡ false
    → (one_pass file now).now.manager.queues other ≡ now.manager.queues other
pass_apart file other now apart = any_pass file (λ waiting pass. pass.now.manager.queues other ≡ now.manager.queues other)
    (λ one waiting pass same. others_wait file other apart one waiting pass (now.manager.queues other) same)
    (now.manager.queues file) (record { passed = []; now = now; has_answered = false }) refl

count_apart : (count file other : ℕ) (now : Handling) → (other == file) ≡ false
    → (rules.passes_for count file now).manager.queues other ≡ now.manager.queues other
unfolding rules.passes_for
count_apart zero file other now apart = refl
count_apart (suc count) file other now apart =
    let here = pass_apart file other now apart in
    both (one_pass file now).has_answered (count_apart count file other (one_pass file now).now apart ∙ here) here
  where
    both : (b : Bool) → (rules.passes_for count file (one_pass file now).now).manager.queues other ≡ now.manager.queues other
        → (one_pass file now).now.manager.queues other ≡ now.manager.queues other
        → (if b then rules.passes_for count file (one_pass file now).now else (one_pass file now).now).manager.queues other
        ≡ now.manager.queues other
    both true more last = more
    both false more last = last

passes_apart : (file other : ℕ) (now : Handling) → (other == file) ≡ false
    → (rules.passes file now).manager.queues other ≡ now.manager.queues other
passes_apart file other now apart = count_apart (length (now.manager.queues file) + 1) file other now apart

-- ---- all files, and those of the list

-- so many numbers, from one above this on
numbers_above : ℕ → ℕ → List ℕ
numbers_above n zero = []
numbers_above n (suc count) = suc n ∷ numbers_above (suc n) count

one_more : (n count : ℕ) → numbers_above n (suc count) ≡ numbers_above n count ++ suc (n + count) ∷ []
unfolding numbers_above
one_more n zero = ap (λ m. suc m ∷ []) (omega arith)
one_more n (suc count) = ap (λ l. suc n ∷ l) (one_more (suc n) count
    ∙ ap (λ m. numbers_above (suc n) count ++ suc m ∷ []) (omega arith))

numbers_are : (count : ℕ) → numbers_to count ≡ numbers_above 0 count
unfolding numbers_above
numbers_are zero = refl
numbers_are (suc count) = ap (λ l. l ++ suc count ∷ []) (numbers_are count)
    ∙ (ap (λ m. numbers_above 0 count ++ suc m ∷ []) (omega arith) ∙ sym (one_more 0 count))

-- the list has each number above the bound where requests wait, up to the last
record HasRest (bound last : ℕ) (queues : ℕ → List Tagged) (files : List ℕ) : Type 0 where
  rising : AreAbove bound files
  within : (file : ℕ) → Among file files → file ≤ last
  others : (file : ℕ) → bound < file → file ≤ last → Among file files ⊎ (queues file ≡ [])

not_below : (bound n : ℕ) (files : List ℕ) → AreAbove bound files → Among n files → n ≤ bound → ⊥
not_below bound n [] above among low = among
not_below bound n (file ∷ files) above (inl is) low = omega (arith, above.0, is, low)
not_below bound n (file ∷ files) above (inr later) low =
    not_below file n files above.1 later (let more = above.0 in omega (arith, more, low))

apart_above : (n m : ℕ) → m < n → (n == m) ≡ false
apart_above n m above = grind (arith, nat_tests)

above_more : (bound file : ℕ) → bound < file → (file == suc bound) ≡ false → suc bound < file
above_more bound file above apart =
    let other : file ≢ suc bound = λ is. clash (file == suc bound) ((Decides-eqb file (suc bound)).1 is) apart in
    omega (arith, above, other)

over_rest : (count bound last : ℕ) (files : List ℕ) (now : Handling) → bound + count ≡ last
    → HasRest bound last now.manager.queues files
    → rules.passes_over (numbers_above bound count) now ≡ rules.passes_over files now
unfolding numbers_above
over_rest zero bound last [] now at rest = refl
over_rest zero bound last (file ∷ files) now at rest =
    absurd (let low = rest.within file (inl refl) in let high = rest.rising.0 in omega (arith, low, high, at))
over_rest (suc count) bound last [] now at rest =
    file_by_file (suc bound) (numbers_above (suc bound) count) now
    ∙ ap (rules.passes_over (numbers_above (suc bound) count))
    (nothing_to_pass (suc bound) now (⊎_elim (λ never. absurd never) (λ e. e)
    (rest.others (suc bound) (omega arith) (omega (arith, at)))))
    ∙ over_rest count (suc bound) last [] now (omega (arith, at)) (record {
      rising = tt;
      within = rest.within;
      others = λ file above within. rest.others file (omega (arith, above)) within;
    })
over_rest (suc count) bound last (file ∷ files) now at rest = either (file == suc bound)
    (λ its.
    let is : file ≡ suc bound = eqb-true file (suc bound) its in
    let after = rules.passes (suc bound) now in
    file_by_file (suc bound) (numbers_above (suc bound) count) now
    ∙ over_rest count (suc bound) last files after (omega (arith, at)) (record {
      rising = subst (λ n. AreAbove n files) is rest.rising.1;
      within = λ other among. rest.within other (inr among);
      others = λ other above within. ⊎_elim
          (λ among. ⊎_elim (λ same. absurd (omega (arith, same, is, above))) (λ later. inl later) among)
          (λ none. inr (passes_apart (suc bound) other now (apart_above other (suc bound) above)
          ∙ none)) (rest.others other (omega (arith, above)) within);
    })
    ∙ ap (λ n. rules.passes_over files (rules.passes n now)) (sym is)
    ∙ sym (file_by_file file files now))
    (λ apart.
    let more = above_more bound file rest.rising.0 apart in
    file_by_file (suc bound) (numbers_above (suc bound) count) now
    ∙ ap (rules.passes_over (numbers_above (suc bound) count))
    (nothing_to_pass (suc bound) now (⊎_elim
    (λ among. absurd (not_below (suc bound) (suc bound) (file ∷ files) (more, rest.rising.1) among (omega arith)))
    (λ none. none) (rest.others (suc bound) (omega arith) (omega (arith, at)))))
    ∙ over_rest count (suc bound) last (file ∷ files) now (omega (arith, at)) (record {
      rising = (more, rest.rising.1);
      within = rest.within;
      others = λ other above within. rest.others other (omega (arith, above)) within;
    }))

pub files_are_enough : FilesAreEnough
unfolding rules.all_passes
files_are_enough files now waiting =
    let last = now.manager.server.files in
    ap (λ numbers. rules.passes_over numbers now) (numbers_are last)
    ∙ over_rest last 0 last files now (omega arith) (record {
      rising = waiting.rising;
      within = waiting.within;
      others = waiting.others;
    })
