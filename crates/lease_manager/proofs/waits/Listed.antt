-- What waits on the files, as it is listed.
use Rattle.lease_laws.proofs.Words.{◌++◌, ◌<◌, ◌==◌, ◌∙◌, ◌∷◌, ◌≡◌, ◌≤◌, Among, Bool, Decides-eqb, Less, List, ℕ, ⊎_elim, ⊤}
use Rattle.lease_laws.proofs.Words.{[], ap}
use Rattle.lease_laws.proofs.Words.{ap₂, append-nil, arith, false, filter, filter-append, inl, inr, map, nat_tests, refl, subst}
use Rattle.lease_laws.proofs.Words.{sym, true}
use Rattle.lease_laws.proofs.server.KeyOrder.{among_mapped}
use Rattle.lease_laws.proofs.server.Lists.{among_append, among_map, either, not_true}
use Rattle.manager_model.specs.Handling.{Tagged}
use Rattle.std.specs.BTreeMap.{IsOrdered}
use Rattle.std.specs.List.Sorted.{IsStrictlySortedBy}
use Rattle.std.specs.List.{AllByRecursion}
use Rattle.lease_manager.specs.Listings.{AreInOrderOfFiles, AreWaiting, Waiting, queues_of, waiting_in, waiting_on}
use Rattle.lease_manager.specs.Queues.{filed}
use Rattle.lease_manager.specs.Summaries.{file_order}
use Rattle.lease_manager.specs.Table.{Queue, Table, queue_at}
use Rattle.lease_manager.specs.declared.tables.queues.Queues.{Queues}
use Rattle.lease_manager.specs.declared.values.number.FileNo.{FileNo}

-- each file's number is below those of all after it
abbrev AreRising : List Queue → Type 0
AreRising [] = ⊤
AreRising (queue ∷ queues) = ((other : Queue) → Among other queues → queue.file < other.file) × AreRising queues

files_above : (file : FileNo) (files : List FileNo) → AllByRecursion (λ y. file_order file y ≡ Less) files
    → (other : FileNo) → Among other files → file_order file other ≡ Less
files_above file [] all other there = absurd there
files_above file (one ∷ files) all other (inl same) = ap (file_order file) same ∙ all.0
files_above file (one ∷ files) all other (inr later) = files_above file files all.1 other later

less_below : (file other : FileNo) → file_order file other ≡ Less → file.0 < other.0
less_below file other less = grind (arith, nat_tests)

abbrev queue_entry : FileNo × List Tagged → Queue
queue_entry entry = record { file = entry.0.0; waiting = entry.1 }

rising_of : (entries : List (FileNo × List Tagged))
    → IsStrictlySortedBy file_order (map (λ (e : FileNo × List Tagged). e.0) entries) → AreRising (queues_of entries)
unfolding IsStrictlySortedBy
rising_of [] sorted = tt
rising_of (entry ∷ entries) sorted = (
  λ other there.
      let from = among_map queue_entry other entries there in
      subst (λ n. entry.0.0 < n) (sym (ap (λ (q : Queue). q.file) from.2))
      (less_below entry.0 from.0.0 (files_above entry.0 (map (λ (e : FileNo × List Tagged). e.0) entries) sorted.0 from.0.0
      (among_mapped (λ (e : FileNo × List Tagged). e.0) from.0 entries from.1))),
  rising_of entries sorted.1,
)

-- ---- in order

in_order_both : (first later : List Waiting) → AreInOrderOfFiles first → AreInOrderOfFiles later
    → ((one other : Waiting) → Among one first → Among other later → one.file ≤ other.file) → AreInOrderOfFiles (first ++ later)
in_order_both [] later a b between = b
in_order_both (one ∷ first) later a b between = (
  λ other there. ⊎_elim (λ in_first. a.0 other in_first) (λ in_later. between one other (inl refl) in_later)
      (among_append other first later there),
  in_order_both first later a.1 b (λ x y x_there y_there. between x y (inr x_there) y_there),
)

on_one : (file : ℕ) (queue : List Tagged) (one : Waiting) → Among one (map (waiting_on file) queue) → one.file ≡ file
on_one file queue one there = ap (λ (w : Waiting). w.file) (among_map (waiting_on file) one queue there).2

same_most : (n m : ℕ) → m ≡ n → n ≤ m
same_most n m same = omega (arith, same)

in_order_on : (file : ℕ) (queue : List Tagged) → AreInOrderOfFiles (map (waiting_on file) queue)
in_order_on file [] = tt
in_order_on file (one ∷ queue) = (
  λ other there. same_most file other.file (on_one file queue other there),
  in_order_on file queue,
)

-- the file is one of these
record IsOnOne (queues : List Queue) (one : Waiting) : Type 0 where
  pub queue : Queue
  pub is_there : Among queue queues
  pub is_on : one.file ≡ queue.file

on_some : (queues : List Queue) (one : Waiting) → Among one (waiting_in queues) → IsOnOne queues one
on_some [] one there = absurd there
on_some (queue ∷ queues) one there = ⊎_elim
    (λ here. record { queue = queue; is_there = inl refl; is_on = on_one queue.file queue.waiting one here })
    (λ later. let rest = on_some queues one later in
    record { queue = rest.queue; is_there = inr rest.is_there; is_on = rest.is_on })
    (among_append one (map (waiting_on queue.file) queue.waiting) (waiting_in queues) there)

most_of_below : (a b c d : ℕ) → a ≡ b → c ≡ d → b < d → a ≤ c
most_of_below a b c d one other below = omega (arith, one, other, below)

listed_in_order : (queues : List Queue) → AreRising queues → AreInOrderOfFiles (waiting_in queues)
listed_in_order [] rising = tt
listed_in_order (queue ∷ queues) rising = in_order_both (map (waiting_on queue.file) queue.waiting) (waiting_in queues)
    (in_order_on queue.file queue.waiting) (listed_in_order queues rising.1)
    (λ one other here later.
    let rest = on_some queues other later in
    most_of_below one.file queue.file other.file rest.queue.file (on_one queue.file queue.waiting one here) rest.is_on
    (rising.0 rest.queue rest.is_there))

-- ---- on a file

abbrev is_at_file : ℕ → Waiting → Bool
is_at_file file one = one.file == file

filter_here : (at file : ℕ) (queue : List Tagged) → (at == file) ≡ true
    → filter (is_at_file file) (map (waiting_on at) queue) ≡ map (waiting_on at) queue
filter_here at file [] same = refl
filter_here at file (one ∷ queue) same = rw (same) (ap (λ l. waiting_on at one ∷ l) (filter_here at file queue same))

filter_apart : (at file : ℕ) (queue : List Tagged) → (at == file) ≡ false
    → filter (is_at_file file) (map (waiting_on at) queue) ≡ []
filter_apart at file [] apart = refl
filter_apart at file (one ∷ queue) apart = rw (apart) (filter_apart at file queue apart)

filter_none : (file : ℕ) (requests : List Waiting) → ((one : Waiting) → Among one requests → (one.file == file) ≡ false)
    → filter (is_at_file file) requests ≡ []
filter_none file [] none = refl
filter_none file (one ∷ requests) none =
    rw (none one (inl refl)) (filter_none file requests (λ other there. none other (inr there)))

above_apart : (n at other file : ℕ) → n ≡ other → at < other → at ≡ file → (n == file) ≡ false
above_apart n at other file one below same = not_true (n == file) (λ equal.
    let its : n ≡ file = (Decides-eqb n file).0 equal in omega (arith, one, below, same, its))

turned : (n m : ℕ) (b : Bool) → (n == m) ≡ b → (m == n) ≡ b
turned n m b e = grind (arith, nat_tests)

listed_on : (queues : List Queue) (file : ℕ) → AreRising queues
    → filter (is_at_file file) (waiting_in queues) ≡ map (waiting_on file) (queue_at queues file)
listed_on [] file rising = refl
listed_on (queue ∷ queues) file rising =
    filter-append (is_at_file file) (map (waiting_on queue.file) queue.waiting) (waiting_in queues)
    ∙ either (file == queue.file)
    (λ here.
    let same : queue.file ≡ file = sym ((Decides-eqb file queue.file).0 here) in
    rw (here) (ap₂ (λ a b. a ++ b)
    (filter_here queue.file file queue.waiting (turned file queue.file true here)
    ∙ ap (λ n. map (waiting_on n) queue.waiting) same)
    (filter_none file (waiting_in queues) (λ one there.
    let rest = on_some queues one there in
    above_apart one.file queue.file rest.queue.file file rest.is_on (rising.0 rest.queue rest.is_there) same))
    ∙ append-nil (map (waiting_on file) queue.waiting)))
    (λ apart. rw (apart) (ap₂ (λ a b. a ++ b)
    (filter_apart queue.file file queue.waiting (turned file queue.file false apart)) (listed_on queues file rising.1)))

pub waiting_are : (table : Table) (queues : Queues) → table.queues ≡ filed queues → IsOrdered file_order queues.by_file
    → AreWaiting table (waiting_in (filed queues))
waiting_are table queues same sorted =
    let rising = rising_of queues.by_file.entries sorted in record {
      in_order = listed_in_order (filed queues) rising;
      on_file = λ file. listed_on (filed queues) file rising
          ∙ ap (λ (l : List Queue). map (waiting_on file) (queue_at l file)) (sym same);
    }
