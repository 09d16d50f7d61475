-- Files that a change of opens or leases elsewhere leaves as they were: what is known of their requests stays known.
use Rattle.lease_laws.proofs.Words.{◌&&◌, ◌++◌, ◌==◌, ◌∙◌, ◌∷◌, ◌≡◌, ◌⊎◌, Among, Bool, Decides-eqb, FileRequest, Held, Key, Lease}
use Rattle.lease_laws.proofs.Words.{List, None, Open, Option, Server, Some, ℕ, ⊎_elim, [], ap, arith, false, find, fun_ext}
use Rattle.lease_laws.proofs.Words.{has_key, has_own_key, if◌then◌else◌, inl, inr, is_key, is_leased_elsewhere, key_eq}
use Rattle.lease_laws.proofs.Words.{key_of_open, key_under, list_any, no_lease, not, option_map, own_key, refl, subst, suc, sym}
use Rattle.lease_laws.proofs.Words.{true, without, zero}
use Rattle.lease_laws.proofs.Words.{Rules, is_behind}
use Rattle.lease_laws.proofs.Words.{take}
use Rattle.std.specs.List.{slice_get}
use Rattle.lease_laws.proofs.server.Keys.{key_eq-same}
use Rattle.lease_laws.proofs.server.Lists.{either, clash, and_both, not_true, any_has, none_has, has_none, find_has, among_filter}
use Rattle.lease_laws.proofs.Words.{FileId, filter, map}
use Rattle.lease_manager.specs.Kept.{HaveClosed, disconnected_where, is_one_of}
use Rattle.lease_manager.specs.LeftOpens.{numbers}
use Rattle.lease_manager.specs.Looks.{is_elsewhere}
use Rattle.lease_manager.specs.OneFile.{on_file, local, IsOnlyAbout, own_asked, asks_with}
use Rattle.lease_manager.specs.StillWaiting.{HasOnlyToWait, deciding, count_in, AreCounted, HaveForgotten, HaveForgottenFor}
use Rattle.lease_manager.specs.Summaries.{IsAtHome, lease_in, is_on}
use Rattle.lease_manager.specs.declared.tables.summaries.Summaries.{Summaries}
use Rattle.lease_manager.specs.declared.tables.waiting.Waiting.{Waiting}
use Rattle.lease_manager.proofs.waits.StillWaiting.{about_same, none_counted}
use Rattle.lease_manager.proofs.waits.OneFile.{any_once, none_within, found_on, some_same}
use Rattle.lease_manager.proofs.waits.Counted.{Known}

-- ---- files that a change leaves as they were

-- A file's count is forgotten, or what decides the tries of its requests is as it was.
abbrev pub IsSettled : (ℕ → List Held) → Waiting → Waiting → Server → Server → Type 0
IsSettled queues waiting now before after = (file : ℕ) → (count_in now file ≡ 0)
    ⊎ ((count_in now file ≡ count_in waiting file) × (local file after ≡ local file before)
    × ((one : Held) → Among one (queues file) → IsOnlyAbout before file one.client one.request
    → IsOnlyAbout after file one.client one.request))

among_got : (queue : List Held) (place : ℕ) (one : Held) → slice_get queue place ≡ Some one → Among one queue
among_got [] place one is = absurd (cc is)
among_got (first ∷ queue) zero one is = inl (cc is)
among_got (first ∷ queue) (suc place) one is = inr (among_got queue place one is)

pub known_settled : (queues : ℕ → List Held) (waiting now : Waiting) (before after : Server)
    → IsSettled queues waiting now before after → Known before queues waiting → Known after queues now
known_settled queues waiting now before after settled known = λ file. ⊎_elim
    (λ none. none_counted after file (queues file) (count_in now file) none)
    (λ same. subst (AreCounted after file (queues file)) (sym same.0) (record {
      within = (known file).within;
      each = λ place one less is. ⊎_elim
          (λ behind. inl (ap (λ (server : Server). is_behind server.rules one (take place (queues file))) same.1 ∙ behind))
          (λ has. inr (
            subst (λ server. HasOnlyToWait server file one.client one.request) (sym same.1) has.0,
            same.2 one (among_got (queues file) place one is) has.1,
          )) ((known file).each place one less is);
    })) (settled file)

-- another lease for a key that has no open on the file
lease_apart : (key other : Key) (lease was : Lease) (some : Bool) → some ≡ true → (key_eq other key ≡ true → some ≡ false)
    → (if key_eq other key then lease else was) ≡ was
lease_apart key other lease was some there none = grind arith

leases_put : (opens : List Open) (key : Key) (lease : Lease) (leases later : Key → Lease)
    → ((other : Key) → later other ≡ (if key_eq other key then lease else leases other))
    → list_any (has_key key) opens ≡ false → (other : Key) → (if list_any (has_key other) opens then later other else no_lease)
    ≡ (if list_any (has_key other) opens then leases other else no_lease)
leases_put opens key lease leases later put none other = either (list_any (has_key other) opens)
    (λ some. rw some (put other ∙ lease_apart key other lease (leases other) (list_any (has_key other) opens) some
    (λ same. ap (λ k. list_any (has_key k) opens) (key_eq-same other key same) ∙ none)))
    (λ some. rw some refl)

none_on : (file : ℕ) (test : Open → Bool) (opens : List Open)
    → ((one : Open) → Among one opens → is_on file one ≡ true → test one ≡ false) → list_any test (on_file file opens) ≡ false
none_on file test opens none = has_none test (on_file file opens)
    (λ one a. let there = among_filter (is_on file) one opens a in none one there.0 there.1)

pub settled_put : (queues : ℕ → List Held) (waiting now : Waiting) (rules : Rules) (count : ℕ) (opens : List Open) (key : Key)
    (lease : Lease)
    (leases later : Key → Lease) → ((other : Key) → later other ≡ (if key_eq other key then lease else leases other))
    → HaveForgotten (has_key key) opens waiting now
    → IsSettled queues waiting now (deciding rules count opens leases) (deciding rules count opens later)
settled_put queues waiting now rules count opens key lease leases later put forgotten = λ file. ⊎_elim
    (λ none. inl none)
    (λ same. inr (
      same.0,
      ap (deciding rules count (on_file file opens)) (fun_ext (leases_put (on_file file opens) key lease leases later put
          (none_on file (has_key key) opens same.1))),
      λ one a about. about_same (deciding rules count opens leases) (deciding rules count opens later) file one.client
          one.request refl about,
    )) (forgotten file)

-- opens that are closed, none of them on the file
on_left : (file : ℕ) (test : Open → Bool) (opens : List Open)
    → ((one : Open) → Among one opens → is_on file one ≡ true → test one ≡ false)
    → on_file file (without test opens) ≡ on_file file opens
on_left file test [] none = refl
on_left file test (one ∷ opens) none = let later = on_left file test opens (λ other a. none other (inr a)) in grind arith

about_left : (file : ℕ) (test : Open → Bool) (rules : Rules) (count : ℕ) (opens : List Open) (leases later : Key → Lease)
    (client : ℕ)
    (request : FileRequest) → ((one : Open) → Among one opens → is_on file one ≡ true → test one ≡ false)
    → IsOnlyAbout (deciding rules count opens leases) file client request
    → IsOnlyAbout (deciding rules count (without test opens) later) file client request
about_left file test rules count opens leases later client (FileRequest.Create other access share None) none about = absurd about
about_left file test rules count opens leases later client (FileRequest.Create other access share (Some ask)) none about =
    (about.0, away (own_key client ask.lease) about.1)
  where
    away : (own : Option Key) → is_leased_elsewhere (deciding rules count opens leases) own file ≡ false
        → is_leased_elsewhere (deciding rules count (without test opens) later) own file ≡ false
    away None e = refl
    away (Some key) e = none_within (λ one. has_key key one && not (one.file == file)) (λ x. not (test x)) opens e
about_left file test rules count opens leases later client (FileRequest.Read file_id) none about = absurd about
about_left file test rules count opens leases later client (FileRequest.Write file_id number patch) none about =
    go (find (λ one. one.file_id == file_id && one.client == client && one.connected) opens) refl about
  where
    go : (found : Option Open) → find (λ one. one.file_id == file_id && one.client == client && one.connected) opens ≡ found
        → option_map (λ one. one.file) found ≡ Some file
        → option_map (λ one. one.file) (find (λ one. one.file_id == file_id && one.client == client && one.connected)
        (without test opens)) ≡ Some file
    go None is there = absurd (cc there)
    go (Some one) is there =
        let among = (find_has (λ x. x.file_id == file_id && x.client == client && x.connected) one opens is).0 in
        let same = some_same one.file file there in
        let stays = none one among ((Decides-eqb one.file file).1 same) in
        ap (option_map (λ x. x.file)) (found_on (λ x. x.file_id == file_id && x.client == client && x.connected)
        (λ x. not (test x)) opens one is (ap not stays)) ∙ there
about_left file test rules count opens leases later client (FileRequest.Close file_id) none about = absurd about

pub settled_closed : (queues : ℕ → List Held) (waiting now : Waiting) (rules : Rules) (count : ℕ) (opens left : List Open)
    (ids : List ℕ)
    (summaries after : Summaries) → HaveClosed opens ids summaries left after → HaveForgotten (is_one_of ids) opens waiting now
    → IsSettled queues waiting now (deciding rules count opens (lease_in summaries)) (deciding rules count left (lease_in after))
settled_closed queues waiting now rules count opens left ids summaries after closed forgotten = λ file. ⊎_elim
    (λ none. inl none)
    (λ same.
    let kept : on_file file left ≡ on_file file opens =
    ap (on_file file) closed.opens_left ∙ on_left file (is_one_of ids) opens same.1 in
    inr (
      same.0,
      ap (λ os. deciding rules count os (λ key. if list_any (has_key key) os then lease_in after key else no_lease)) kept
          ∙ ap (deciding rules count (on_file file opens)) (fun_ext (λ key. either (list_any (has_key key) (on_file file opens))
          (λ some.
          let there = any_once (is_on file) (has_key key) left (ap (list_any (has_key key)) kept ∙ some) in
          rw some (closed.leases key ∙ ap (λ b. if b then lease_in summaries key else no_lease) there))
          (λ some. rw some refl))),
      λ one a about. subst (λ os. IsOnlyAbout (deciding rules count os (lease_in after)) file one.client one.request)
          (sym closed.opens_left)
          (about_left file (is_one_of ids) rules count opens (lease_in summaries) (lease_in after) one.client one.request
          same.1 about),
    )) (forgotten file)

-- opens that are disconnected, none of them on the file
on_kept : (file : ℕ) (test : Open → Bool) (opens : List Open)
    → ((one : Open) → Among one opens → is_on file one ≡ true → test one ≡ false)
    → on_file file (map (disconnected_where test) opens) ≡ on_file file opens
on_kept file test [] none = refl
on_kept file test (one ∷ opens) none =
    let later = on_kept file test opens (λ other a. none other (inr a)) in either (is_on file one)
    (λ on. rw (none one (inl refl) on, on) (ap (λ l. one ∷ l) later))
    (λ off. rw (off_still file test one off, off) later)
  where
    off_still : (file : ℕ) (test : Open → Bool) (one : Open) → is_on file one ≡ false
        → is_on file (disconnected_where test one) ≡ false
    off_still file test one off = either (test one) (λ t. rw t off) (λ t. rw t off)

abbrev by_id : ℕ → ℕ → Open → Bool
by_id file_id client one = one.file_id == file_id && one.client == client && one.connected

found_kept : (file_id client : ℕ) (test : Open → Bool) (opens : List Open) (one : Open)
    → find (by_id file_id client) opens ≡ Some one → test one ≡ false
    → find (by_id file_id client) (map (disconnected_where test) opens) ≡ Some one
found_kept file_id client test [] one found spared = absurd (cc found)
found_kept file_id client test (x ∷ opens) one found spared = either (by_id file_id client x)
    (λ t.
    let is = some_same x one (rw t at found) in
    let here : test x ≡ false = ap test is ∙ spared in
    rw (here, t) (ap Some is))
    (λ t. rw (still_not file_id client test x t) (found_kept file_id client test opens one (rw t at found) spared))
  where
    away : (a b : Bool) → (a && b && false) ≡ false
    away a b = grind arith

    still_not : (file_id client : ℕ) (test : Open → Bool) (x : Open) → by_id file_id client x ≡ false
        → by_id file_id client (disconnected_where test x) ≡ false
    still_not file_id client test x t = either (test x)
        (λ d. rw d (away (x.file_id == file_id) (x.client == client)))
        (λ d. rw d t)

elsewhere_kept : (key : Key) (file : ℕ) (test : Open → Bool) (opens : List Open)
    → list_any (λ one. has_key key one && not (one.file == file)) (map (disconnected_where test) opens)
    ≡ list_any (λ one. has_key key one && not (one.file == file)) opens
elsewhere_kept key file test [] = refl
elsewhere_kept key file test (one ∷ opens) = let later = elsewhere_kept key file test opens in either (test one)
    (λ t. rw (t, later) refl)
    (λ t. rw (t, later) refl)

about_kept : (file : ℕ) (test : Open → Bool) (rules : Rules) (count : ℕ) (opens : List Open) (leases : Key → Lease)
    (client : ℕ)
    (request : FileRequest) → ((one : Open) → Among one opens → is_on file one ≡ true → test one ≡ false)
    → IsOnlyAbout (deciding rules count opens leases) file client request
    → IsOnlyAbout (deciding rules count (map (disconnected_where test) opens) leases) file client request
about_kept file test rules count opens leases client (FileRequest.Create other access share None) none about = absurd about
about_kept file test rules count opens leases client (FileRequest.Create other access share (Some ask)) none about =
    (about.0, away (own_key client ask.lease) about.1)
  where
    away : (own : Option Key) → is_leased_elsewhere (deciding rules count opens leases) own file ≡ false
        → is_leased_elsewhere (deciding rules count (map (disconnected_where test) opens) leases) own file ≡ false
    away None e = refl
    away (Some key) e = elsewhere_kept key file test opens ∙ e
about_kept file test rules count opens leases client (FileRequest.Read file_id) none about = absurd about
about_kept file test rules count opens leases client (FileRequest.Write file_id number patch) none about =
    go (find (by_id file_id client) opens) refl about
  where
    go : (found : Option Open) → find (by_id file_id client) opens ≡ found
        → option_map (λ one. one.file) found ≡ Some file
        → option_map (λ one. one.file) (find (by_id file_id client) (map (disconnected_where test) opens)) ≡ Some file
    go None is there = absurd (cc there)
    go (Some one) is there =
        let among = (find_has (by_id file_id client) one opens is).0 in
        let stays = none one among ((Decides-eqb one.file file).1 (some_same one.file file there)) in
        ap (option_map (λ x. x.file)) (found_kept file_id client test opens one is stays) ∙ there
about_kept file test rules count opens leases client (FileRequest.Close file_id) none about = absurd about

-- A file's count is forgotten, or none of these opens is on it.
abbrev pub AreElsewhere : List ℕ → List Open → Waiting → Type 0
AreElsewhere ids opens waiting = (file : ℕ) → (count_in waiting file ≡ 0)
    ⊎ ((one : Open) → Among one opens → is_on file one ≡ true → is_one_of ids one ≡ false)

pub settled_disconnected : (queues : ℕ → List Held) (waiting : Waiting) (rules : Rules) (count : ℕ) (opens now : List Open)
    (ids : List ℕ) (leases : Key → Lease) → now ≡ map (disconnected_where (is_one_of ids)) opens
    → AreElsewhere ids opens waiting
    → IsSettled queues waiting waiting (deciding rules count opens leases) (deciding rules count now leases)
settled_disconnected queues waiting rules count opens now ids leases is elsewhere = λ file. ⊎_elim
    (λ none. inl none)
    (λ apart.
    let kept : on_file file now ≡ on_file file opens =
    ap (on_file file) is ∙ on_kept file (is_one_of ids) opens apart in
    inr (
      refl,
      ap (λ os. deciding rules count os (λ key. if list_any (has_key key) os then leases key else no_lease)) kept,
      λ one a about. subst (λ os. IsOnlyAbout (deciding rules count os leases) file one.client one.request) (sym is)
          (about_kept file (is_one_of ids) rules count opens leases one.client one.request apart about),
    )) (elsewhere file)

-- of some FileIds none is the open's where it is none of them all
fewer : (pick : FileId → Bool) (named : List FileId) (one : Open) → is_one_of (numbers named) one ≡ false
    → is_one_of (numbers (filter pick named)) one ≡ false
fewer pick [] one none = refl
fewer pick (fid ∷ named) one none = either (one.file_id == fid.0)
    (λ its. absurd (cc (rw its at none)))
    (λ its.
    let later = fewer pick named one (rw its at none) in
    either (pick fid) (λ t. rw (t, its) later) (λ t. rw t later))

pub forgotten_fewer : (pick : FileId → Bool) (named picked : List FileId) (opens : List Open) (before after : Waiting)
    → picked ≡ filter pick named → HaveForgotten (is_one_of (numbers named)) opens before after
    → HaveForgotten (is_one_of (numbers picked)) opens before after
forgotten_fewer pick named picked opens before after are forgotten = λ file. ⊎_elim
    (λ none. inl none)
    (λ same. inr (
      same.0,
      λ one a on.
          ap (λ ids. is_one_of (numbers ids) one) are ∙ fewer pick named one (same.1 one a on),
    )) (forgotten file)

pub elsewhere_left : (pick : FileId → Bool) (named picked : List FileId) (ended : List ℕ) (opens left : List Open)
    (before after : Waiting) → picked ≡ filter pick named → left ≡ without (is_one_of ended) opens
    → HaveForgotten (is_one_of (numbers named)) opens before after → AreElsewhere (numbers picked) left after
elsewhere_left pick named picked ended opens left before after are is forgotten = λ file. ⊎_elim
    (λ none. inl none)
    (λ same. inr (λ one a on. ap (λ ids. is_one_of (numbers ids) one) are ∙ fewer pick named one (same.1 one
    (among_filter (λ o. not (is_one_of ended o)) one opens (subst (Among one) is a)).0 on))) (forgotten file)

-- an open that comes on another file
on_more : (file : ℕ) (one : Open) (opens : List Open) → is_on file one ≡ false
    → on_file file (opens ++ one ∷ []) ≡ on_file file opens
on_more file one [] off = rw off refl
on_more file one (first ∷ opens) off = let later = on_more file one opens off in grind arith

home_key : (one : Open) (bytes : Option (List ℕ)) (opens : List Open) (key : Key)
    → IsAtHome (key_under one.client bytes) one.file opens → is_key key one.client bytes ≡ true
    → list_any (is_elsewhere key one.file) opens ≡ false
unfolding key_eq
home_key one None opens key home has = absurd (cc has)
home_key one (Some bytes) opens key home has = subst (λ k. list_any (is_elsewhere k one.file) opens ≡ false)
    (sym (key_eq-same key (record { client = one.client; bytes = bytes }) has)) home

apart_here : (file : ℕ) (one : Open) (opens : List Open) (key : Key) → is_on file one ≡ false
    → IsAtHome (key_of_open one) one.file opens → list_any (has_key key) (on_file file opens) ≡ true → has_key key one ≡ false
apart_here file one opens key off home some = not_true (has_key key one) (λ has.
    let known = any_has (has_key key) (on_file file opens) some in
    let there = among_filter (is_on file) known.0 opens known.1 in
    let none = none_has (is_elsewhere key one.file) known.0 opens (home_key one one.lease_key opens key home has) there.0 in
    either ((known.0).file == one.file)
    (λ t. clash (is_on file one) ((Decides-eqb one.file file).1
    (sym ((Decides-eqb (known.0).file one.file).0 t) ∙ (Decides-eqb (known.0).file file).0 there.1)) off)
    (λ f. clash (is_elsewhere key one.file known.0) (and_both (has_key key known.0) _ known.2 (ap not f)) none))

pub any_more : (test : Open → Bool) (opens : List Open) (one : Open) → list_any test opens ≡ false → test one ≡ false
    → list_any test (opens ++ one ∷ []) ≡ false
any_more test [] one none last = rw last refl
any_more test (first ∷ opens) one none last = either (test first)
    (λ t. absurd (cc (rw t at none)))
    (λ t. rw t (any_more test opens one (rw t at none) last))

found_before : (test : Open → Bool) (opens : List Open) (one found : Open) → find test opens ≡ Some found
    → find test (opens ++ one ∷ []) ≡ Some found
found_before test [] one found is = absurd (cc is)
found_before test (first ∷ opens) one found is = either (test first)
    (λ t. rw t (rw t at is))
    (λ t. rw t (found_before test opens one found (rw t at is)))

about_more : (file : ℕ) (rules : Rules) (count : ℕ) (opens : List Open) (one : Open) (leases later : Key → Lease) (held : Held)
    → asks_with one held ≡ false → IsOnlyAbout (deciding rules count opens leases) file held.client held.request
    → IsOnlyAbout (deciding rules count (opens ++ one ∷ []) later) file held.client held.request
about_more file rules count opens one leases later held apart about = go held.client held.request apart about
  where
    away : (own : Option Key) → has_own_key own one ≡ false → is_leased_elsewhere (deciding rules count opens leases) own file
        ≡ false
        → is_leased_elsewhere (deciding rules count (opens ++ one ∷ []) later) own file ≡ false
    away None none e = refl
    away (Some key) none e = any_more (λ x. has_key key x && not (x.file == file)) opens one e (rw none refl)

    go : (client : ℕ) (request : FileRequest) → has_own_key (own_asked client request) one ≡ false
        → IsOnlyAbout (deciding rules count opens leases) file client request
        → IsOnlyAbout (deciding rules count (opens ++ one ∷ []) later) file client request
    go client (FileRequest.Create other access share None) none told = absurd told
    go client (FileRequest.Create other access share (Some ask)) none told = (told.0, away (own_key client ask.lease) none told.1)
    go client (FileRequest.Read file_id) none told = absurd told
    go client (FileRequest.Write file_id number patch) none told =
        write (find (λ x. x.file_id == file_id && x.client == client && x.connected) opens) refl told
      where
        write : (found : Option Open) → find (λ x. x.file_id == file_id && x.client == client && x.connected) opens ≡ found
            → option_map (λ x. x.file) found ≡ Some file
            → option_map (λ x. x.file) (find (λ x. x.file_id == file_id && x.client == client && x.connected)
            (opens ++ one ∷ [])) ≡ Some file
        write None is there = absurd (cc there)
        write (Some found) is there = ap (option_map (λ x. x.file))
            (found_before (λ x. x.file_id == file_id && x.client == client && x.connected) opens one found is) ∙ there
    go client (FileRequest.Close file_id) none told = absurd told

pub settled_opened : (queues : ℕ → List Held) (waiting now : Waiting) (rules : Rules) (count : ℕ) (opens more : List Open)
    (one : Open)
    (lease : Lease) (leases later : Key → Lease) → more ≡ opens ++ one ∷ []
    → ((key : Key) → later key ≡ (if has_key key one then lease else leases key))
    → IsAtHome (key_of_open one) one.file opens → HaveForgottenFor one queues waiting now
    → IsSettled queues waiting now (deciding rules count opens leases) (deciding rules count more later)
settled_opened queues waiting now rules count opens more one lease leases later is put home forgotten = λ file. ⊎_elim
    (λ none. inl none)
    (λ same.
    let kept : on_file file more ≡ on_file file opens = ap (on_file file) is ∙ on_more file one opens same.1 in
    inr (
      same.0,
      ap (λ os. deciding rules count os (λ key. if list_any (has_key key) os then later key else no_lease)) kept
          ∙ ap (deciding rules count (on_file file opens)) (fun_ext (λ key. either (list_any (has_key key) (on_file file opens))
          (λ some.
          let apart = apart_here file one opens key same.1 home some in
          rw some (put key ∙ rw apart refl))
          (λ some. rw some refl))),
      λ held a about. subst (λ os. IsOnlyAbout (deciding rules count os later) file held.client held.request) (sym is)
          (about_more file rules count opens one leases later held (same.2 held a) about),
    )) (forgotten file)
