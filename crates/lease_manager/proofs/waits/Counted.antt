-- The counts of requests that wait still, as the tables change.
use Rattle.lease_laws.proofs.Words.{◌&&◌, ◌++◌, ◌+◌, ◌<◌, ◌==◌, ◌||◌, ◌∙◌, ◌∷◌, ◌≡◌, Among, AreInOrder, Bool, Decides-eqb, FileId}
use Rattle.lease_laws.proofs.Words.{FileRequest, Held, Key, List, None, Open, Option, Server, Some, ℕ, ⊎_elim, [], ap}
use Rattle.lease_laws.proofs.Words.{arith, false, filter, find, has_key, if◌then◌else◌, inl, inr, is_at}
use Rattle.lease_laws.proofs.Words.{is_leased_elsewhere, length, list_any, map, nat_tests, not, refl, subst, sym, take, true}
use Rattle.lease_manager.specs.declared.values.number.FileNo.{FileNo}
use Rattle.std.specs.Map.{lookup}
use Rattle.std.specs.List.{slice_get}
use Rattle.lease_laws.proofs.server.Goes.{one_id}
use Rattle.lease_laws.proofs.server.Lists.{either, clash, and_both, not_true, any_has, has_any, none_has, find_has, among_filter}
use Rattle.lease_laws.proofs.server.Lists.{among_filtered}
use Rattle.lease_manager.specs.Filed.{has_id}
use Rattle.lease_manager.specs.Kept.{AreKept, listed, is_one_of}
use Rattle.lease_manager.specs.Looks.{is_elsewhere}
use Rattle.lease_manager.specs.OneFile.{on_file, asks_with}
use Rattle.lease_manager.specs.declared.tables.summaries.LeaseRecord.{LeaseRecord}
use Rattle.lease_manager.specs.StillWaiting.{counted, IsTriedInVain, WaitStill, HasOnlyToWait, deciding, count_in, StaysAt}
use Rattle.lease_manager.specs.StillWaiting.{StaysLocally, AreCounted, HaveForgotten, HaveForgottenFor}
use Rattle.lease_manager.specs.Summaries.{Agrees, RecordFits, file_order, record_at, lease_in, is_on}
use Rattle.lease_manager.specs.Table.{Table, held_at, lease_at, server_of}
use Rattle.lease_manager.specs.declared.tables.summaries.Summaries.{Summaries}
use Rattle.lease_manager.specs.declared.tables.waiting.Waiting.{Waiting}
use Rattle.lease_manager.proofs.sums.Recording.{lease_unused}
use Rattle.lease_manager.proofs.waits.StillWaiting.{HasNoSpare, in_vain, decider, waits_decided, waits_really, about_same}
use Rattle.lease_manager.proofs.waits.StillWaiting.{none_counted}
use Rattle.lease_manager.proofs.waits.StillWaiting.{counted_before}
use Rattle.lease_manager.proofs.waits.OneFile.{none_within, waits_here_only, waits_there_too}
use Rattle.lease_manager.proofs.opens.Tabling.{leases_are, listed_lease, one_more}

-- without an open there is nothing to agree with
pub kept_empty : (opens : List Open) (summaries : Summaries) (last_id : ℕ) → opens ≡ [] → Agrees summaries []
    → AreKept opens summaries last_id
kept_empty opens summaries last_id none agree = grind arith

-- ---- one file's queue, and one file's count

-- one file's count becomes this one
abbrev pub IsCountPut : Waiting → Waiting → ℕ → ℕ → Type 0
IsCountPut before after i count = (n : ℕ) → count_in after n ≡ (if n == i then count else count_in before n)

abbrev pub Known : Server → (ℕ → List Held) → Waiting → Type 0
Known server queues waiting = (n : ℕ) → AreCounted server n (queues n) (count_in waiting n)

-- the queues before and after a change at one file
abbrev pub IsQueuePut : (ℕ → List Held) → (ℕ → List Held) → ℕ → List Held → Type 0
IsQueuePut before after i queue = (n : ℕ) → after n ≡ (if n == i then queue else before n)

queue_here : (before after : ℕ → List Held) (i : ℕ) (queue : List Held) → IsQueuePut before after i queue
    → (n : ℕ) → (n == i) ≡ true → after n ≡ queue
queue_here before after i queue put n its = put n ∙ ap (λ b. if b then queue else before n) its

queue_apart : (before after : ℕ → List Held) (i : ℕ) (queue : List Held) → IsQueuePut before after i queue
    → (n : ℕ) → (n == i) ≡ false → after n ≡ before n
queue_apart before after i queue put n off = put n ∙ ap (λ b. if b then queue else before n) off

pub known_released : (server : Server) (queues later : ℕ → List Held) (i : ℕ) (queue : List Held) (before after : Waiting)
    → IsQueuePut queues later i queue → IsCountPut before after i 0 → Known server queues before → Known server later after
known_released server queues later i queue before after changed put known = λ n. either (n == i)
    (λ its. none_counted server n (later n) (count_in after n) (put n ∙ ap (λ b. if b then 0 else count_in before n) its))
    (λ off. subst (λ q. AreCounted server n q (count_in after n)) (sym (queue_apart queues later i queue changed n off))
    (subst (AreCounted server n (queues n)) (sym (put n ∙ ap (λ b. if b then 0 else count_in before n) off)) (known n)))

pub known_held : (server : Server) (queues later : ℕ → List Held) (i : ℕ) (one : Held) (waiting : Waiting)
    → IsQueuePut queues later i (queues i ++ one ∷ []) → Known server queues waiting → Known server later waiting
known_held server queues later i one waiting changed known = λ n. either (n == i)
    (λ its.
    let is = (Decides-eqb n i).0 its in
    subst (λ q. AreCounted server n q (count_in waiting n))
    (sym (queue_here queues later i (queues i ++ one ∷ []) changed n its
    ∙ ap (λ m. queues m ++ one ∷ []) (sym is)))
    (counted_before server n (queues n) one (count_in waiting n) (known n)))
    (λ off. subst (λ q. AreCounted server n q (count_in waiting n))
    (sym (queue_apart queues later i (queues i ++ one ∷ []) changed n off)) (known n))

pub known_counted : (server : Server) (queues : ℕ → List Held) (i place : ℕ) (before after : Waiting)
    → IsCountPut before after i (place + 1) → count_in before i ≡ place → place < length (queues i)
    → ((one : Held) → slice_get (queues i) place ≡ Some one
    → StaysLocally server i (take place (queues i)) one) → Known server queues before → Known server queues after
known_counted server queues i place before after put is inside stays known = grind arith

-- ---- what is known of the server

server_decides : (table : Table) (summaries : Summaries) → table.leases ≡ listed summaries
    → deciding table.rules table.files table.opens (lease_in summaries) ≡ decider (server_of table)
server_decides table summaries same = ap (deciding table.rules table.files table.opens)
    (sym (leases_are summaries) ∙ ap lease_at (sym same))

no_spare : (table : Table) (summaries : Summaries) → AreKept table.opens summaries table.last_id
    → table.leases ≡ listed summaries → HasNoSpare (server_of table)
no_spare table summaries kept same = λ key none. ap (λ leases. lease_at leases key) same
    ∙ (listed_lease summaries key ∙ lease_unused key table.opens (record_at summaries key) (kept.agree.records key) none)

pub in_vain_now : (table : Table) (summaries : Summaries) (file client : ℕ) (request : FileRequest)
    → AreKept table.opens summaries table.last_id → table.leases ≡ listed summaries
    → HasOnlyToWait (server_of table) file client request → IsTriedInVain (server_of table) client request
in_vain_now table summaries file client request kept same has =
    in_vain (server_of table) file client request (no_spare table summaries kept same) has

-- the opens of a key that has one on the file are all on the file
pub home_of : (opens : List Open) (summaries : Summaries) (file : ℕ) (key : Key) → Agrees summaries opens
    → list_any (has_key key) (on_file file opens) ≡ true → list_any (is_elsewhere key file) opens ≡ false
home_of opens summaries file key agree some =
    let known = any_has (has_key key) (on_file file opens) some in
    let there = among_filter (is_on file) known.0 opens known.1 in
    go known.0 there.0 known.2 ((Decides-eqb (known.0).file file).0 there.1) (record_at summaries key) (agree.records key)
  where
    go : (one : Open) → Among one opens → has_key key one ≡ true → one.file ≡ file → (found : Option LeaseRecord)
        → RecordFits key opens found → list_any (is_elsewhere key file) opens ≡ false
    go one among has at None fits = clash (list_any (has_key key) opens) (has_any (has_key key) one opens among has) fits
    go one among has at (Some found) fits =
        let away = none_has (is_elsewhere key found.file.0) one opens fits.one_file among in
        either (one.file == found.file.0)
        (λ t. subst (λ n. list_any (is_elsewhere key n) opens ≡ false)
        (sym ((Decides-eqb one.file found.file.0).0 t) ∙ at) fits.one_file)
        (λ f. clash (is_elsewhere key found.file.0 one) (and_both (has_key key one) _ has (ap not f)) away)

pub wait_still : (table : Table) (summaries : Summaries) (file count : ℕ) → AreKept table.opens summaries table.last_id
    → table.leases ≡ listed summaries
    → AreCounted (deciding table.rules table.files table.opens (lease_in summaries)) file (held_at table.queues file) count
    → WaitStill (server_of table) file count
wait_still table summaries file count kept same known = record {
  within = known.within;
  each = λ place one less is. ⊎_elim
      (λ behind. inl behind)
      (λ has. inr (in_vain (server_of table) file one.client one.request (no_spare table summaries kept same)
      (waits_really (server_of table) file one.client one.request
      (subst (λ server. HasOnlyToWait server file one.client one.request) (server_decides table summaries same)
      (waits_there_too file (deciding table.rules table.files table.opens (lease_in summaries)) one.client one.request
      (λ key some. home_of table.opens summaries file key kept.agree some) has.1 has.0))))) (known.each place one less is);
}

pub stays_decided : (table : Table) (summaries : Summaries) (file : ℕ) (queue : List Held) (place : ℕ)
    → table.leases ≡ listed summaries → StaysAt (server_of table) file queue place
    → (one : Held) → slice_get queue place ≡ Some one
    → StaysLocally (deciding table.rules table.files table.opens (lease_in summaries)) file (take place queue) one
stays_decided table summaries file queue place same stays = λ one is. ⊎_elim
    (λ behind. inl behind)
    (λ has.
    let about = about_same (server_of table) (deciding table.rules table.files table.opens (lease_in summaries)) file one.client
    one.request refl has.1 in
    inr (
      waits_here_only file (deciding table.rules table.files table.opens (lease_in summaries)) one.client one.request about
          (subst (λ server. HasOnlyToWait server file one.client one.request) (sym (server_decides table summaries same))
          (waits_decided (server_of table) file one.client one.request has.0)),
      about,
    )) (stays one is)

-- ---- what is forgotten

forgotten_at : (test : Open → Bool) (opens : List Open) (before after : Waiting) (i : ℕ) → IsCountPut before after i 0
    → ((one : Open) → Among one opens → test one ≡ true → one.file ≡ i) → HaveForgotten test opens before after
forgotten_at test opens before after i put only = grind arith

pub forgotten_none : (test : Open → Bool) (opens : List Open) (before after : Waiting) → before ≡ after
    → list_any test opens ≡ false → HaveForgotten test opens before after
forgotten_none test opens before after same none = λ file.
    inr (ap (λ (w : Waiting). count_in w file) (sym same), λ one a on. none_has test one opens none a)

pub forgotten_home : (key : Key) (opens : List Open) (before after : Waiting) (home : ℕ) → IsCountPut before after home 0
    → list_any (is_elsewhere key home) opens ≡ false → HaveForgotten (has_key key) opens before after
forgotten_home key opens before after home put none = forgotten_at (has_key key) opens before after home put
    (λ one a has. either (one.file == home)
    (λ t. (Decides-eqb one.file home).0 t)
    (λ f. clash (is_elsewhere key home one) (and_both (has_key key one) _ has (ap not f))
    (none_has (is_elsewhere key home) one opens none a)))

pub forgotten_id : (id : ℕ) (opens : List Open) (one : Open) (before after : Waiting) → AreInOrder opens
    → Some one ≡ find (has_id id) opens → IsCountPut before after one.file 0 → HaveForgotten (has_id id) opens before after
forgotten_id id opens one before after order found put = forgotten_at (has_id id) opens before after one.file put
    (λ other a has.
    let there = find_has (has_id id) one opens (sym found) in
    ap (λ (o : Open). o.file) (one_id opens other one order a there.0
    ((Decides-eqb other.file_id id).0 has ∙ sym ((Decides-eqb one.file_id id).0 there.1))))

pub none_found : (test : Open → Bool) (opens : List Open) → None ≡ find test opens → list_any test opens ≡ false
none_found test [] none = refl
none_found test (one ∷ opens) none = either (test one)
    (λ t. absurd (cc (rw t at none)))
    (λ t. rw t (none_found test opens (rw t at none)))

pub forgotten_first : (opens : List Open) (waiting : Waiting) → HaveForgotten (is_one_of []) opens waiting waiting
forgotten_first opens waiting = λ file. inr (refl, λ one a on. refl)

pub forgotten_more : (ids : List ℕ) (id : ℕ) (opens : List Open) (before during after : Waiting)
    → HaveForgotten (is_one_of ids) opens before during → HaveForgotten (has_id id) opens during after
    → HaveForgotten (is_one_of (ids ++ id ∷ [])) opens before after
forgotten_more ids id opens before during after first last = λ file. ⊎_elim
    (λ none. inl none)
    (λ same. ⊎_elim
    (λ none. inl (same.0 ∙ none))
    (λ was. inr (
      same.0 ∙ was.0,
      λ one a on. one_more ids id one ∙ (ap (λ b. b || has_id id one) (was.1 one a on) ∙ same.1 one a on),
    )) (first file)) (last file)

pub forgotten_for : (one : Open) (queues : ℕ → List Held) (before after : Waiting) → IsCountPut before after one.file 0
    → ((file : ℕ) (held : Held) → Among held (queues file) → asks_with one held ≡ false)
    → HaveForgottenFor one queues before after
forgotten_for one queues before after put none = λ file. either (file == one.file)
    (λ its. inl (put file ∙ ap (λ b. if b then 0 else count_in before file) its))
    (λ off. inr (
      put file ∙ ap (λ b. if b then 0 else count_in before file) off,
      not_true (is_on file one) (λ on. clash (file == one.file)
          ((Decides-eqb file one.file).1 (sym ((Decides-eqb one.file file).0 on))) off),
      λ held a. none file held a,
    ))

-- ---- an open on the file

pub at_home_here : (file : ℕ) (key : Key) (opens : List Open) (summaries : Summaries) → Agrees summaries opens
    → list_any (has_key key) opens ≡ true
    → not (list_any (is_elsewhere key file) opens) ≡ list_any (has_key key) (on_file file opens)
at_home_here file key opens summaries agree some = either (list_any (has_key key) (on_file file opens))
    (λ on. let home = home_of opens summaries file key agree on in rw (home, on) refl)
    (λ off.
    let known = any_has (has_key key) opens some in
    let away : list_any (is_elsewhere key file) opens ≡ true =
    has_any (is_elsewhere key file) known.0 opens known.1 (and_both (has_key key known.0) _ known.2
    (ap not (not_true (is_on file known.0) (λ on. clash (list_any (has_key key) (on_file file opens))
    (has_any (has_key key) known.0 (on_file file opens) (among_filtered (is_on file) known.0 opens known.1 on) known.2) off)))) in
    rw (away, off) refl)

pub not_at_home : (file : ℕ) (key : Key) (opens : List Open) → list_any (has_key key) opens ≡ false
    → false ≡ list_any (has_key key) (on_file file opens)
not_at_home file key opens none = sym (none_within (has_key key) (is_on file) opens none)

-- ---- opens that are left

pub no_ids : (ids : List FileId) → (length ids == 0) ≡ true → ids ≡ []
no_ids [] none = refl
no_ids (id ∷ ids) none = let e = (Decides-eqb (length (id ∷ ids)) 0).0 none in absurd (omega (arith, e))

-- no open passes the test where there is no FileId of one that does
pub none_left : (test : Open → Bool) (opens : List Open) (ids : List FileId)
    → map (λ id. id.0) ids ≡ map (λ one. one.file_id) (filter test opens) → (length ids == 0) ≡ not (list_any test opens)
none_left test opens ids same = lengths ids (filter test opens) same ∙ none_passes opens
  where
    lengths : (xs : List FileId) (ys : List Open) → map (λ id. id.0) xs ≡ map (λ one. one.file_id) ys
        → (length xs == 0) ≡ (length ys == 0)
    lengths [] [] e = refl
    lengths [] (y ∷ ys) e = absurd (cc e)
    lengths (x ∷ xs) [] e = absurd (cc e)
    lengths (x ∷ xs) (y ∷ ys) e = grind (arith, nat_tests)

    none_passes : (xs : List Open) → (length (filter test xs) == 0) ≡ not (list_any test xs)
    none_passes [] = refl
    none_passes (x ∷ xs) = let e = none_passes xs in either (test x) (λ t. rw t (grind (arith, nat_tests))) (λ t. rw t e)

pub both_so : (a b c d : Bool) → a ≡ true → b ≡ true → d ≡ c → d ≡ (a && (b && c))
both_so a b c d t u same = rw (t, u) same

pub second_not : (a b c : Bool) → b ≡ false → false ≡ (a && (b && c))
second_not a b c e = grind arith

pub none_in : (waiting : Waiting) (file : ℕ) → length waiting.counts.entries ≡ 0 → count_in waiting file ≡ 0
none_in waiting file none = go waiting.counts.entries none
  where
    go : (entries : List (FileNo × ℕ)) → length entries ≡ 0
        → counted (lookup (is_at (file_order (record { 0 = file }))) entries) ≡ 0
    go [] none = refl
    go (entry ∷ entries) none = absurd (omega (arith, none))

pub home_by : (server : Server) (file : ℕ) (key : Key) (summaries : Summaries) → Agrees summaries server.opens
    → list_any (has_key key) server.opens ≡ true
    → not (is_leased_elsewhere server (Some key) file) ≡ list_any (has_key key) (on_file file server.opens)
home_by server file key summaries agree some = at_home_here file key server.opens summaries agree some
