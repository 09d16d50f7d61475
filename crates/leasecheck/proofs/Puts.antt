-- Texts of which a beginning was written.
use Rattle.lease_laws.proofs.Words.{◌++◌, ◌-◌, ◌∙◌, ◌∷◌, ◌≡◌, ◌==◌, [], ℕ, Appends, Bool, Err, List, None, Ok}
use Rattle.lease_laws.proofs.Words.{Option, Result, Some, ap, append-nil, append_assoc, arith, drop, false, inl, inr, length}
use Rattle.lease_laws.proofs.Words.{length-drop, refl, string_bytes, subst, sym, take, take_all, true, true≢false}
use Rattle.std.proofs.lemmas.List.{take-append-drop}
use Rattle.lease_wire.specs.WireFaults.{message_fault}
use Rattle.std.proofs.KnownBytes.{Keeps-refl}
use Rattle.leasecheck.specs.FileFaults.{FailsReading}
use Rattle.leasecheck.specs.Known.{OfBytes}
use Rattle.leasecheck.specs.Made.{PrintsOrEnds}
use Rattle.leasecheck.specs.Paths.{path_of}
use Rattle.leasecheck.specs.Refusals.{Begins, Ends, EndsOf, MayEnd, MayEndBy, Puts, failure_line, second_of, shown_fault}
use Rattle.leasecheck.specs.declared.failure.Failure.{Failure}
use Rattle.leasecheck.specs.declared.refusal.Refusal.{Refusal}
use Rattle.leasecheck.specs.declared.tasks.Task.{Task}
use Rattle.leasecheck.specs.declared.tasks.Task.TheVariants as task

pub appends_more : (first old new : Option (List ℕ)) (part more : List ℕ) → Appends first old part → Appends old new more
    → Appends first new (part ++ more)
appends_more None old new part more had has = tt
appends_more (Some xs) None new part more had has = absurd had
appends_more (Some xs) (Some ys) None part more had has = absurd has
appends_more (Some xs) (Some ys) (Some zs) part more had has = has ∙ (ap (λ t. t ++ more) had ∙ append_assoc xs part more)

-- a part more was written
pub puts_more : (first old new : Option (List ℕ)) (text left part : List ℕ) (count n : ℕ) → part ++ left ≡ text
    → n ≡ length left - count → Appends first old part → Appends old new (take count left)
    → (more : List ℕ) × (more ++ take n (drop count left) ≡ text) × Appends first new more
puts_more first old new text left part count n is cut had has = (
  part ++ take count left,
  append_assoc part (take count left) (take n (drop count left)) ∙ (ap (λ t. part ++ t)
      (ap (λ t. take count left ++ t) (take_all n (drop count left) (omega (arith, cut, length-drop {A = ℕ})))
      ∙ take-append-drop count left) ∙ is),
  appends_more first old new part (take count left) had has,
)

abbrev is_nothing : List ℕ → Bool
is_nothing [] = true
is_nothing (x ∷ xs) = false

nothing_left : (part left text : List ℕ) → part ++ left ≡ text → text ≡ [] → true ≡ is_nothing left
nothing_left [] left text is empty = ap is_nothing (sym (is ∙ empty))
nothing_left (x ∷ xs) left text is empty = absurd (true≢false (ap is_nothing (sym (is ∙ empty))))

something_left : (left : List ℕ) → false ≡ (length left == 0) → is_nothing left ≡ false
something_left [] more = absurd (true≢false (sym more))
something_left (x ∷ xs) more = refl

-- of an empty text nothing is left
pub none_left : {X : Type 0} (part left text : List ℕ) → part ++ left ≡ text → text ≡ [] → false ≡ (length left == 0) → X
none_left part left text is empty more = absurd (true≢false (nothing_left part left text is empty ∙ something_left left more))

-- a text that is put after another one
pub puts_behind : {T E : Type 0} (first old new : Option (List ℕ)) (line second : List ℕ) (answer : Result T E)
    → Appends first old line → Puts old new second answer → Puts first new (line ++ second) answer
puts_behind first old new line second (Ok value) had has = appends_more first old new line second had has
puts_behind first old new line second (Err e) had (part, rest, is, has) =
    (line ++ part, rest, ap (λ t. line ++ t) is ∙ sym (append_assoc line part rest), appends_more first old new line part had has)

-- what was put is written whole or a beginning of it
pub begins_of : {T E : Type 0} (old new : Option (List ℕ)) (text : List ℕ) (answer : Result T E) → Puts old new text answer
    → Begins old new text
begins_of old new text (Ok value) has = (text, [], sym (append-nil text), has)
begins_of old new text (Err e) begins = begins

pub begins_longer : (old new : Option (List ℕ)) (line second : List ℕ) → Begins old new line → Begins old new (line ++ second)
begins_longer old new line second (part, rest, is, has) =
    (part, rest ++ second, ap (λ t. t ++ second) is ∙ append_assoc part rest second, has)

-- ---- tasks that end with status 1

pub ended_of : (asked : Task) (known old new faults told : Option (List ℕ)) (refusal full : Refusal)
    → OfBytes known (λ file. PrintsOrEnds asked file old new (Err refusal)) → full.failure ≡ refusal.failure
    → Begins faults told (failure_line full.failure ++ second_of full) → Ends asked known old new faults told
ended_of asked known old new faults told refusal full (file, has, ended) same begins = (
  file,
  has,
  inr (
    refusal.failure,
    second_of full,
    ended,
    subst (λ (f : Failure). Begins faults told (failure_line f ++ second_of full)) same begins,
  ),
)

-- A file that can't be opened ends any task that reads one.
pub may_end_unread : (asked : Task) (path file : List ℕ) (failed : Failure) → path_of asked ≡ Some path → FailsReading failed
    → MayEnd asked file failed
may_end_unread (task.Ack argument) path file failed is fails =
    subst (λ (p : Option (List ℕ)). MayEndBy (message_fault 44) (string_bytes argument) p file failed) (sym is) (inr (inl fails))
may_end_unread (task.Show kind argument) path file failed is fails =
    subst (λ (p : Option (List ℕ)). MayEndBy (shown_fault kind) (string_bytes argument) p file failed) (sym is) (inr (inl fails))
may_end_unread (task.Replay name telling rules) path file failed is fails = inr (inl fails)
may_end_unread (task.Judge name) path file failed is fails = inl (inr (inl fails))
may_end_unread (task.Explain name told) path file failed is fails = inr (inl fails)
may_end_unread (task.Draw name) path file failed is fails = inr (inl fails)
may_end_unread (task.Capture name side form told) path file failed is fails = inr (inl fails)
may_end_unread task.Version path file failed is fails = let no : ⊥ = cc in absurd no

pub unopened : (asked : Task) (path : List ℕ) (old faults told : Option (List ℕ)) (refusal full : Refusal)
    → path_of asked ≡ Some path → FailsReading refusal.failure → full.failure ≡ refusal.failure
    → Begins faults told (failure_line full.failure ++ second_of full) → EndsOf asked [] old old faults told
unopened asked path old faults told refusal full is fails same begins = inr (
  refusal.failure,
  second_of full,
  inr (Keeps-refl old, may_end_unread asked path [] refusal.failure is fails),
  subst (λ (f : Failure). Begins faults told (failure_line f ++ second_of full)) same begins,
)
