-- What waits on each file, as queues change.
use Rattle.lease_laws.proofs.Words.{◌++◌, ◌==◌, ◌∙◌, ◌∷◌, ◌≡◌, List, None, Option, Some, Updates, ℕ, [], ap, arith, fun_ext, get}
use Rattle.lease_laws.proofs.Words.{Among, Bool, Decides-eqb, Held, Open, false, if◌then◌else◌, is_at, length, list_any, map}
use Rattle.lease_laws.proofs.Words.{nat_tests, refl, sym, true, without, ⊎_elim, ◌<◌, ◌≤◌, Rules, Server, get_or, ◌⊎◌, ◌+◌}
use Rattle.lease_laws.proofs.Words.{append_assoc, drop, Less, inl, inr, last_file_number, map-append, new_server_under, no_lease}
use Rattle.lease_laws.proofs.Words.{numbered, put, subst, filter, suc, zero, with_number}
use Rattle.std.specs.BTreeMap.{IsOrdered, keys, values, BTreeMap}
use Rattle.std.specs.List.Sorted.{IsStrictlySortedBy}
use Rattle.std.specs.List.{AllByRecursion}
use Rattle.manager_model.specs.Waiting.{AreAbove, AreWaitingFiles}
use Rattle.lease_manager.specs.Laws.{FirstIsOfHosts}
use Rattle.lease_manager.specs.OneFile.{asks_with}
use Rattle.std.specs.Map.{lookup}
use Rattle.lease_laws.proofs.server.Lists.{among_filter, among_filtered, either}
use Rattle.manager_model.specs.Handling.{Manager, Tagged, held_in, is_left, is_of, last_file}
use Rattle.manager_model.specs.Hosting.{fresh_manager}
use Rattle.lease_manager.specs.Queues.{all_without, file_numbers, filed, is_file, queue_in, waiting_or_none}
use Rattle.lease_manager.specs.Summaries.{file_order}
use Rattle.lease_manager.specs.Table.{Queue, Table, client_gone, held_at, is_among, manager_of, queue_at, requeued, server_of}
use Rattle.lease_manager.specs.Table.{requests_gone}
use Rattle.lease_manager.specs.StillWaiting.{AreCounted, HaveForgottenQueues, count_in}
use Rattle.lease_manager.proofs.waits.Counted.{IsQueuePut, Known}
use Rattle.lease_manager.proofs.waits.StillWaiting.{none_counted}
use Rattle.lease_manager.specs.declared.tables.waiting.Waiting.{Waiting}
use Rattle.lease_manager.specs.declared.tables.queues.Queues.{Queues}
use Rattle.lease_manager.specs.declared.values.number.ClientNo.{ClientNo}
use Rattle.lease_manager.specs.declared.values.number.FileNo.{FileNo}
use Rattle.std.proofs.lemmas.List.Kept.{IsStrictlySortedBy-filter}
use Rattle.std.proofs.lemmas.List.{drop_all, length-map}
use Rattle.manager_model.proofs.bytes.Steps.{map_put}
use Rattle.std.proofs.Math.Seq.{drop-cons}

at_file : (file : ℕ) (other : FileNo) → is_at (file_order (record { 0 = file })) other ≡ (file == other.0)
at_file file other = grind (arith, nat_tests)

abbrev filed_entry : FileNo × List Tagged → Queue
filed_entry entry = record { file = entry.0.0; waiting = entry.1 }

filed_at : (entries : List (FileNo × List Tagged)) (file : ℕ)
    → queue_at (map filed_entry entries) file ≡ waiting_or_none (lookup (is_at (file_order (record { 0 = file }))) entries)
filed_at [] file = refl
filed_at (e ∷ entries) file = either (file == e.0.0)
    (λ at. rw (at_file file e.0, at) refl)
    (λ at. rw (at_file file e.0, at) (filed_at entries file))

-- the queues as lists have what the map has
pub queue_filed : (queues : Queues) (file : ℕ) → queue_at (filed queues) file ≡ queue_in queues file
queue_filed queues file = filed_at queues.by_file.entries file

pub queues_are : (queues : Queues) → queue_at (filed queues) ≡ queue_in queues
queues_are queues = fun_ext (queue_filed queues)

-- ---- one file's queue changes

-- it is another
pub queue_changed : (before after : BTreeMap FileNo (List Tagged)) (file : FileNo) (queue : Option (List Tagged))
    → Updates file_order before after file queue → (other : ℕ)
    → waiting_or_none (get file_order after (record { 0 = other }))
    ≡ (if other == file.0 then waiting_or_none queue else waiting_or_none (get file_order before (record { 0 = other })))
queue_changed before after file queue updates other = grind (arith, nat_tests)

pub no_items : (queue : List Tagged) → (length queue == 0) ≡ true → queue ≡ []
no_items [] none = refl
no_items (one ∷ queue) none = let e = (Decides-eqb (length (one ∷ queue)) 0).0 none in absurd (omega (arith, e))

-- the queue that is there is edited
pub edited_at : (edit : List Tagged → List Tagged) (before after : BTreeMap FileNo (List Tagged)) (file : FileNo)
    (queue written : List Tagged) → get file_order before file ≡ Some queue
    → Updates file_order before after file (Some written) → written ≡ edit queue → (other : ℕ)
    → waiting_or_none (get file_order after (record { 0 = other }))
    ≡ (if other == file.0 then edit (waiting_or_none (get file_order before (record { 0 = file.0 })))
    else waiting_or_none (get file_order before (record { 0 = other })))
edited_at edit before after file queue written there updates is other =
    queue_changed before after file (Some written) updates other
    ∙ ap (λ q. if other == file.0 then q else waiting_or_none (get file_order before (record { 0 = other })))
    (is ∙ ap (λ found. edit (waiting_or_none found)) (sym there))

-- a queue comes where there was none
pub first_at : (edit : List Tagged → List Tagged) (before after : BTreeMap FileNo (List Tagged)) (file : FileNo)
    (written : List Tagged) → get file_order before file ≡ None
    → Updates file_order before after file (Some written) → written ≡ edit [] → (other : ℕ)
    → waiting_or_none (get file_order after (record { 0 = other }))
    ≡ (if other == file.0 then edit (waiting_or_none (get file_order before (record { 0 = file.0 })))
    else waiting_or_none (get file_order before (record { 0 = other })))
first_at edit before after file written there updates is other =
    queue_changed before after file (Some written) updates other
    ∙ ap (λ q. if other == file.0 then q else waiting_or_none (get file_order before (record { 0 = other })))
    (is ∙ ap (λ found. edit (waiting_or_none found)) (sym there))

same_either : (queues : ℕ → List Tagged) (file other : ℕ) → (if other == file then queues file else queues other) ≡ queues other
same_either queues file other = either (other == file)
    (λ its. rw its (ap queues (sym ((Decides-eqb other file).0 its))))
    (λ off. rw off refl)

-- the queue that is there stays
pub kept_at : (before after : BTreeMap FileNo (List Tagged)) (file : FileNo) (queue written : List Tagged)
    → get file_order before file ≡ Some queue → Updates file_order before after file (Some written)
    → written ≡ queue → (other : ℕ) → waiting_or_none (get file_order after (record { 0 = other }))
    ≡ waiting_or_none (get file_order before (record { 0 = other }))
kept_at before after file queue written there updates is other =
    edited_at (λ q. q) before after file queue written there updates is other
    ∙ same_either (λ n. waiting_or_none (get file_order before (record { 0 = n }))) file.0 other

-- an empty queue is taken out
pub dropped_at : (before after : BTreeMap FileNo (List Tagged)) (file : FileNo) → Updates file_order before after file None
    → waiting_or_none (get file_order before (record { 0 = file.0 })) ≡ [] → (other : ℕ)
    → waiting_or_none (get file_order after (record { 0 = other }))
    ≡ waiting_or_none (get file_order before (record { 0 = other }))
dropped_at before after file updates none other = queue_changed before after file None updates other
    ∙ (ap (λ q. if other == file.0 then q else waiting_or_none (get file_order before (record { 0 = other }))) (sym none)
    ∙ same_either (λ n. waiting_or_none (get file_order before (record { 0 = n }))) file.0 other)

-- no request is taken from a file where none waits
pub unfound_at : (test : Tagged → Bool) (before : BTreeMap FileNo (List Tagged)) (file : FileNo)
    → get file_order before file ≡ None → (other : ℕ) → waiting_or_none (get file_order before (record { 0 = other }))
    ≡ (if other == file.0 then without test (waiting_or_none (get file_order before (record { 0 = file.0 })))
    else waiting_or_none (get file_order before (record { 0 = other })))
unfound_at test before file none other =
    let e : waiting_or_none (get file_order before (record { 0 = file.0 }))
    ≡ without test (waiting_or_none (get file_order before (record { 0 = file.0 }))) =
    ap waiting_or_none none ∙ sym (ap (λ found. without test (waiting_or_none found)) none) in
    sym (same_either (λ n. waiting_or_none (get file_order before (record { 0 = n }))) file.0 other)
    ∙ ap (λ q. if other == file.0 then q else waiting_or_none (get file_order before (record { 0 = other }))) e

-- ---- creates that wait under the key of an open

abbrev pub asks_in : Open → List Tagged → Bool
asks_in one queue = list_any (λ waiting. asks_with one waiting.held) queue

held_asks : (one : Open) (queue : List Tagged) (held : Held) → list_any (λ waiting. asks_with one waiting.held) queue ≡ false
    → Among held (held_in queue) → asks_with one held ≡ false
held_asks one [] held none among = absurd among
held_asks one (first ∷ queue) held none among = either (asks_with one first.held)
    (λ t. absurd (cc (rw t at none)))
    (λ f. ⊎_elim (λ same. ap (asks_with one) same ∙ f) (λ later. held_asks one queue held (rw f at none) later) among)

none_found : (one : Open) (entries : List (FileNo × List Tagged)) (compare : FileNo → Bool) (held : Held)
    → list_any (asks_in one) (map (λ entry. entry.1) entries) ≡ false
    → Among held (held_in (waiting_or_none (lookup compare entries))) → asks_with one held ≡ false
none_found one [] compare held none among = absurd among
none_found one (entry ∷ entries) compare held none among = either (asks_in one entry.1)
    (λ t. absurd (cc (rw t at none)))
    (λ f. either (compare entry.0)
    (λ at. held_asks one entry.1 held f (rw at at among))
    (λ at. none_found one entries compare held (rw f at none) (rw at at among)))

pub none_asks : (one : Open) (queues : Queues) (file : ℕ) (held : Held)
    → list_any (asks_in one) (values queues.by_file) ≡ false → Among held (held_at (filed queues) file)
    → asks_with one held ≡ false
none_asks one queues file held none among =
    none_found one queues.by_file.entries (is_at (file_order (record { 0 = file }))) held none
    (subst (λ queue. Among held (held_in queue)) (queue_filed queues file) among)

-- ---- the queues of the tables

-- one file's queue is edited
pub edited : (edit : List Tagged → List Tagged) (before after : Queues) (file : ℕ)
    → ((other : ℕ) → queue_in after other ≡ (if other == file then edit (queue_in before file) else queue_in before other))
    → queue_at (filed after) ≡ put (queue_at (filed before)) file (edit (queue_at (filed before) file))
unfolding put
edited edit before after file changed = fun_ext (λ other. queue_filed after other ∙ (changed other
    ∙ (ap (λ q. if other == file then edit q else queue_in before other) (sym (queue_filed before file))
    ∙ ap (λ q. if other == file then edit (queue_at (filed before) file) else q) (sym (queue_filed before other)))))

abbrev with_queues : Server → (ℕ → List Tagged) → (ℕ → List Held) → Manager
with_queues server queues held = record { server = record server { held = held }; queues = queues }

pub table_requeued : (table : Table) (queues : List Queue) (file : ℕ) (queue : List Tagged)
    → queue_at queues ≡ put (queue_at table.queues) file queue
    → manager_of (record table { queues = queues }) ≡ requeued (manager_of table) file queue
table_requeued table queues file queue changed =
    ap (λ (q : ℕ → List Tagged). with_queues (server_of table) q (λ n. held_in (q n))) changed
    ∙ ap (with_queues (server_of table) (put (queue_at table.queues) file queue))
    (sym (map_put held_in (queue_at table.queues) file queue))

pub held_changed : (before after : List Queue) (file : ℕ) (queue : List Tagged)
    → queue_at after ≡ put (queue_at before) file queue
    → IsQueuePut (held_at before) (held_at after) file (held_in queue)
unfolding put
held_changed before after file queue changed n =
    ap (λ (q : ℕ → List Tagged). held_in (q n)) changed ∙ either (n == file) (λ t. rw t refl) (λ t. rw t refl)

pub held_more : (before after : List Queue) (file : ℕ) (one : Tagged)
    → queue_at after ≡ put (queue_at before) file (queue_at before file ++ one ∷ [])
    → IsQueuePut (held_at before) (held_at after) file (held_at before file ++ one.held ∷ [])
held_more before after file one changed n = held_changed before after file (queue_at before file ++ one ∷ []) changed n
    ∙ ap (λ q. if n == file then q else held_at before n)
    (map-append (λ (waiting : Tagged). waiting.held) (queue_at before file) (one ∷ []))

-- ---- tables where nothing is open

no_content : (n : ℕ) → (let none : List ℕ = [] in none) ≡ numbered [] (with_number []) n
unfolding numbered last_file_number
no_content zero = refl
no_content (suc n) = refl

abbrev of_contents : Rules → ℕ → (ℕ → List ℕ) → Manager
of_contents rules files contents = record {
  server = record {
    rules = rules;
    files = files;
    contents = contents;
    opens = [];
    leases = λ key. no_lease;
    held = λ file. [];
    present = λ client. false;
    expired = λ key. false;
    last_id = 0;
  };
  queues = λ file. [];
}

pub first_is_of_hosts : FirstIsOfHosts
unfolding new_server_under
first_is_of_hosts rules = sym (ap (of_contents rules last_file) (fun_ext no_content))

pub new_is_new : (rules : Rules) (files : ℕ) → manager_of (record {
  rules = rules;
  files = files;
  queues = [];
  opens = [];
  leases = [];
  present = [];
  expired = [];
  last_id = 0;
}) ≡ fresh_manager rules files
unfolding new_server_under
new_is_new rules files = refl

pub held_inside : (queue : List Tagged) (place : ℕ) → place < length queue → place < length (held_in queue)
held_inside queue place inside = rw (length-map queue (λ (one : Tagged). one.held)) inside

pub unchanged : (before after : Queues) → ((other : ℕ) → queue_in after other ≡ queue_in before other)
    → queue_at (filed after) ≡ queue_at (filed before)
unchanged before after same = fun_ext (λ other. queue_filed after other ∙ (same other ∙ sym (queue_filed before other)))

pub known_same : (server : Server) (before after : List Queue) (waiting : Waiting) → queue_at after ≡ queue_at before
    → Known server (held_at before) waiting → Known server (held_at after) waiting
known_same server before after waiting same known =
    subst (λ (q : ℕ → List Tagged). Known server (λ n. held_in (q n)) waiting) (sym same) known

-- ---- the files where something waits

rising : (bound : ℕ) (files : List FileNo) → ((file : FileNo) → Among file files → bound < file.0)
    → IsStrictlySortedBy file_order files → AreAbove bound (file_numbers files)
unfolding IsStrictlySortedBy
rising bound [] above sorted = tt
rising bound (file ∷ files) above sorted = (above file (inl refl), rising file.0 files (each_below file files sorted.0) sorted.1)
  where
    each_below : (one : FileNo) (files : List FileNo) → AllByRecursion (λ other. file_order one other ≡ Less) files
        → (other : FileNo) → Among other files → one.0 < other.0
    each_below one [] all other among = absurd among
    each_below one (file ∷ files) all other (inl same) =
        let less = all.0 in grind (arith, nat_tests, less, same)
    each_below one (file ∷ files) all other (inr later) = each_below one files all.1 other later

abbrev is_file_below : ℕ → FileNo → Bool
is_file_below last file = is_file last file.0

number_of : (n : ℕ) (files : List FileNo) → Among n (file_numbers files) → (file : FileNo) × Among file files × (n ≡ file.0)
number_of n [] among = absurd among
number_of n (file ∷ files) (inl same) = (file, inl refl, same)
number_of n (file ∷ files) (inr later) = let it = number_of n files later in (it.0, inr it.1, it.2)

numbered_too : (file : FileNo) (files : List FileNo) → Among file files → Among file.0 (file_numbers files)
numbered_too file [] among = absurd among
numbered_too file (one ∷ files) (inl same) = inl (ap (λ (f : FileNo). f.0) same)
numbered_too file (one ∷ files) (inr later) = inr (numbered_too file files later)

key_or_empty : (entries : List (FileNo × List Tagged)) (n : ℕ)
    → Among n (map (λ f. f.0) (map (λ entry. entry.0) entries)) ⊎ (queue_at (map filed_entry entries) n ≡ [])
key_or_empty [] n = inr refl
key_or_empty (entry ∷ entries) n = either (n == entry.0.0)
    (λ its. inl (inl ((Decides-eqb n entry.0.0).0 its)))
    (λ off. rw off (⊎_elim (λ later. inl (inr later)) (λ none. inr none) (key_or_empty entries n)))

pub waiting_files_are : (queues : Queues) (files : List FileNo) (last : ℕ)
    → files ≡ filter (is_file_below last) (keys queues.by_file) → IsOrdered file_order queues.by_file
    → AreWaitingFiles last (queue_at (filed queues)) (file_numbers files)
waiting_files_are queues files last are ordered =
    subst (λ fs. AreWaitingFiles last (queue_at (filed queues)) (file_numbers fs)) (sym are) (record {
      rising = rising 0 (filter (is_file_below last) (keys queues.by_file))
          (λ file a. let is = (among_filter (is_file_below last) file (keys queues.by_file) a).1 in grind (arith, nat_tests, is))
          (IsStrictlySortedBy-filter file_order (is_file_below last) (keys queues.by_file) ordered);
      within = λ n a.
          let it = number_of n _ a in
          let is = (among_filter (is_file_below last) it.0 (keys queues.by_file) it.1).1 in
          let same = it.2 in grind (arith, nat_tests, is, same);
      others = λ n more within. ⊎_elim
          (λ a. let it = number_of n (keys queues.by_file) a in
          let same = it.2 in
          let is : is_file_below last it.0 ≡ true = grind (arith, nat_tests, same, more, within) in
          inl (subst (λ m. Among m (file_numbers (filter (is_file_below last) (keys queues.by_file)))) (sym it.2)
          (numbered_too it.0 _ (among_filtered (is_file_below last) it.0 (keys queues.by_file) it.1 is))))
          (λ none. inr none) (key_or_empty queues.by_file.entries n);
    })

pub one_on : (files more left rest all : List FileNo) (file : FileNo) → more ≡ files ++ file ∷ [] → left ≡ file ∷ rest
    → files ++ left ≡ all → more ++ rest ≡ all
one_on files more left rest all file is next so_far = ap (λ l. l ++ rest) is
    ∙ (append_assoc files (file ∷ []) rest ∙ (ap (λ l. files ++ l) (sym next) ∙ so_far))

-- ---- requests that are forgotten

forgotten_at : (before after : Queues) (test : Tagged → Bool) (file : ℕ)
    → ((other : ℕ) → queue_in after other
    ≡ (if other == file then without test (queue_in before file) else queue_in before other))
    → queue_in after ≡ put (queue_in before) file (without test (queue_in before file))
unfolding put
forgotten_at before after test file changed = fun_ext changed

pub next_forgotten : (files : List FileNo) (i : ℕ) (file : FileNo) (test : Tagged → Bool) (before after : Queues)
    (whole : ℕ → List Tagged)
    → i < length files → file ≡ get_or files i file
    → ((other : ℕ) → queue_in after other
    ≡ (if other == file.0 then without test (queue_in before file.0) else queue_in before other))
    → all_without test (map (λ f. f.0) (drop i files)) (queue_in before) ≡ whole
    → all_without test (map (λ f. f.0) (drop (i + 1) files)) (queue_in after) ≡ whole
unfolding all_without
next_forgotten files i file test before after whole inside is changed so_on =
    let e : suc i ≡ i + 1 = omega arith in
    let rest : drop i files ≡ file ∷ drop (i + 1) files =
    drop-cons files i file inside ∙ (ap (λ x. x ∷ drop (suc i) files) (sym is) ∙ ap (λ n. file ∷ drop n files) e) in
    ap (all_without test (map (λ f. f.0) (drop (i + 1) files))) (forgotten_at before after test file.0 changed)
    ∙ (ap (λ (fs : List FileNo). all_without test (map (λ f. f.0) fs) (queue_in before)) (sym rest) ∙ so_on)

pub none_forgotten : (files : List FileNo) (i : ℕ) (test : Tagged → Bool) (queues : ℕ → List Tagged) (whole : ℕ → List Tagged)
    → length files ≤ i
    → all_without test (map (λ f. f.0) (drop i files)) queues ≡ whole → whole ≡ queues
unfolding all_without
none_forgotten files i test queues whole over so_on =
    sym so_on ∙ ap (λ (fs : List FileNo). all_without test (map (λ f. f.0) fs) queues) (drop_all i files over)

without_twice : (test : Tagged → Bool) (queue : List Tagged) → without test (without test queue) ≡ without test queue
without_twice test [] = refl
without_twice test (one ∷ queue) = let later = without_twice test queue in either (test one)
    (λ t. rw t later)
    (λ t. rw (t, t) (ap (λ l. one ∷ l) later))

-- each queue is on one of the files, or has nothing that passes the test
all_gone : (test : Tagged → Bool) (files : List ℕ) (queues : ℕ → List Tagged)
    → ((n : ℕ) → Among n files ⊎ (without test (queues n) ≡ queues n))
    → (n : ℕ) → all_without test files queues n ≡ without test (queues n)
unfolding all_without put
all_gone test [] queues covered n = ⊎_elim (λ never. absurd never) (λ same. sym same) (covered n)
all_gone test (file ∷ files) queues covered n =
    all_gone test files (put queues file (without test (queues file))) (λ m. either (m == file)
    (λ its. inr (rw its (without_twice test (queues file))))
    (λ off. ⊎_elim
    (λ among. ⊎_elim
    (λ same. absurd (cc (sym ((Decides-eqb m file).1 same) ∙ off)))
    (λ later. inl later) among)
    (λ same. inr (rw off same)) (covered m))) n
    ∙ either (n == file)
    (λ its. rw its (without_twice test (queues file)
    ∙ ap (λ m. without test (queues m)) (sym ((Decides-eqb n file).0 its))))
    (λ off. rw off refl)

pub forgotten_in : (before after : Queues) (files : List FileNo) (test : Tagged → Bool) → files ≡ keys before.by_file
    → all_without test (map (λ f. f.0) files) (queue_in before) ≡ queue_in after
    → queue_at (filed after) ≡ (λ file. without test (queue_at (filed before) file))
forgotten_in before after files test are gone = queues_are after ∙ (sym gone
    ∙ (fun_ext (all_gone test (map (λ f. f.0) files) (queue_in before) (λ n. ⊎_elim
    (λ among. inl (subst (λ (fs : List FileNo). Among n (map (λ f. f.0) fs)) (sym are) among))
    (λ none. inr (ap (without test) (sym (queue_filed before n) ∙ none)
    ∙ sym (sym (queue_filed before n) ∙ none))) (key_or_empty before.by_file.entries n)))
    ∙ ap (λ (q : ℕ → List Tagged). λ file. without test (q file)) (sym (queues_are before))))

-- a queue that loses none is as it was
pub loses_none : (test : Tagged → Bool) (queue : List Tagged) → list_any test queue ≡ false → without test queue ≡ queue
loses_none test [] none = refl
loses_none test (one ∷ queue) none = either (test one)
    (λ t. absurd (cc (rw t at none)))
    (λ t. rw t (ap (λ l. one ∷ l) (loses_none test queue (rw t at none))))

pub none_lost : (test : Tagged → Bool) (queues : ℕ → List Tagged) (file : ℕ) → list_any test (queues file) ≡ false
    → (other : ℕ) → queues other ≡ (if other == file then without test (queues file) else queues other)
none_lost test queues file none other = either (other == file)
    (λ its. rw its (ap queues ((Decides-eqb other file).0 its) ∙ sym (loses_none test (queues file) none)))
    (λ off. rw off refl)

pub none_of_client : (client : ℕ) (tags : List ℕ) (queue : List Tagged) → list_any (is_of client) queue ≡ false
    → list_any (is_left client tags) queue ≡ false
none_of_client client tags [] none = refl
none_of_client client tags (one ∷ queue) none = either (is_of client one)
    (λ its. absurd (cc (rw its at none)))
    (λ its. rw its (none_of_client client tags queue (rw its at none)))

pub forgotten_queue : (file : ℕ) (queue : List Tagged) (queues left : ℕ → List Tagged) (before after : Waiting)
    → ((other : ℕ) → left other ≡ (if other == file then queue else queues other))
    → ((other : ℕ) → count_in after other ≡ (if other == file then 0 else count_in before other))
    → HaveForgottenQueues queues left before after
forgotten_queue file queue queues left before after changed put = λ other. either (other == file)
    (λ its. inl (put other ∙ ap (λ b. if b then 0 else count_in before other) its))
    (λ off. inr (
      put other ∙ ap (λ b. if b then 0 else count_in before other) off,
      changed other ∙ ap (λ b. if b then queue else queues other) off,
    ))

pub forgotten_twice : (queues middle left : ℕ → List Tagged) (before during after : Waiting)
    → HaveForgottenQueues queues middle before during → HaveForgottenQueues middle left during after
    → HaveForgottenQueues queues left before after
forgotten_twice queues middle left before during after first last = λ file. ⊎_elim
    (λ none. inl none)
    (λ same. ⊎_elim
    (λ none. inl (same.0 ∙ none))
    (λ was. inr (same.0 ∙ was.0, same.1 ∙ was.1)) (first file)) (last file)

pub known_left : (server : Server) (before after : Queues) (waiting now : Waiting)
    → HaveForgottenQueues (queue_in before) (queue_in after) waiting now
    → Known server (held_at (filed before)) waiting → Known server (held_at (filed after)) now
known_left server before after waiting now forgotten known = λ file. ⊎_elim
    (λ none. none_counted server file (held_at (filed after) file) (count_in now file) none)
    (λ same. subst (λ q. AreCounted server file (held_in q) (count_in now file))
    (sym (queue_filed after file ∙ (same.1 ∙ sym (queue_filed before file))))
    (subst (AreCounted server file (held_at (filed before) file)) (sym same.0) (known file))) (forgotten file)

abbrev with_clients : Server → (ℕ → List Tagged) → (ℕ → Bool) → Manager
with_clients server queues present = record {
  server = record server { held = λ file. held_in (queues file); present = present };
  queues = queues;
}

pub table_gone : (table : Table) (queues : List Queue) (clients : List ClientNo) (client : ClientNo)
    → queue_at queues ≡ (λ file. without (is_of client.0) (queue_at table.queues file))
    → ((n : ℕ) → is_among clients n ≡ put (is_among table.present) client.0 false n)
    → manager_of (record table { queues = queues; present = clients }) ≡ client_gone client.0 (manager_of table)
table_gone table queues clients client is are =
    ap (λ (q : ℕ → List Tagged). with_clients (server_of table) q (is_among clients)) is
    ∙ ap (with_clients (server_of table) (λ file. without (is_of client.0) (queue_at table.queues file))) (fun_ext are)

abbrev at_queues : Server → (ℕ → List Tagged) → Manager
at_queues server queues = record { server = record server { held = λ file. held_in (queues file) }; queues = queues }

pub table_left : (table : Table) (queues : List Queue) (test : Tagged → Bool)
    → queue_at queues ≡ (λ file. without test (queue_at table.queues file))
    → manager_of (record table { queues = queues }) ≡ requests_gone test (manager_of table)
table_left table queues test is = ap (at_queues (server_of table)) is
