-- Where a run begins, and its events one after another.
use Rattle.lease_laws.proofs.Words.{◌&&◌, ◌++◌, ◌+◌, ◌-◌, ◌<◌, ◌∙◌, ◌∷◌, ◌≡◌, ◌≤◌, Bool, Event, FILE_LIMIT, Fact, HaveFullKeys}
use Rattle.lease_laws.proofs.Words.{List, Option, Reply, Setup, World, ℕ, [], after, ap, append-nil, append_assoc, arith}
use Rattle.lease_laws.proofs.Words.{bytes_eq, drop, false, files_limit, first_world_under, get_or, happens, is_allowed_setup}
use Rattle.lease_laws.proofs.Words.{is_content, length, length-drop, length-map, list_all, list_any, map, map-append, nat_le}
use Rattle.lease_laws.proofs.Words.{nat_lt, nat_tests, new_client, new_server_under, Rules, numbered, refl, reply_of, request_of}
use Rattle.lease_laws.proofs.Words.{reverse-reverse, slice_get, starts_from, subst, suc, sym, take, true, unwrap_or, zero}
use Rattle.std.proofs.Math.Seq.{take-suc}
use Rattle.std.proofs.lemmas.Bool.{le-leb}
use Rattle.lease_laws.proofs.server.Calls.{new_server-sound}
use Rattle.lease_laws.proofs.server.WaitCalls.{first-waits-well}
use Rattle.lease_state.specs.declared.reply.Reply as code_reply
use Rattle.lease_model.specs.world.Allowed.{are_apart, are_too_many}
use Rattle.lease_model.specs.values.Limits.{clients_limit, events_limit}
use Rattle.lease_world.specs.world.First.{IsNew, AreNew}
use Rattle.lease_facts.proofs.Places.{drop_rest}
use Rattle.lease_facts.specs.Facts.{fact_of}
use Rattle.lease_facts.specs.Setups.{event_of}
use Rattle.lease_facts.specs.declared.setup.Event as code_event
use Rattle.lease_world.specs.world.Messages.{messages_in, messages_from}
use Rattle.lease_world.specs.world.Seats.{Seat, seat_in, no_seat, IsPresent}
use Rattle.lease_world.specs.world.Stands.{CodeWorld, link_of, Stands}
use Rattle.lease_world.specs.world.Worlds.{Happens, KeepsBehind}
use Rattle.lease_world.proofs.worlds.Kept.{behind_none, behind_more}
use Rattle.share_server.specs.Table.{server_of}

-- one more of a list
pub take_next : {X : Type 0} (xs : List X) (n : ℕ) (d : X) → n < length xs → take (n + 1) xs ≡ take n xs ++ get_or xs n d ∷ []
take_next xs n d lt =
    let e : suc n ≡ n + 1 = omega arith in
    subst (λ (m : ℕ). take m xs ≡ take n xs ++ get_or xs n d ∷ []) e (take-suc xs n d lt)

drop_all : {X : Type 0} (xs : List X) (n : ℕ) → length xs ≤ n → drop n xs ≡ []
drop_all [] zero le = refl
drop_all [] (suc n) le = refl
drop_all (x ∷ xs) zero le = absurd (omega arith)
drop_all (x ∷ xs) (suc n) le = drop_all xs n (omega arith)

pub take_all : {X : Type 0} (xs : List X) (n : ℕ) → length xs ≤ n → take n xs ≡ xs
take_all [] zero le = refl
take_all [] (suc n) le = refl
take_all (x ∷ xs) zero le = absurd (omega arith)
take_all (x ∷ xs) (suc n) le = ap (λ ys. x ∷ ys) (take_all xs n (omega arith))

-- ---- setups

both_so : (a b : Bool) → a ≡ true → b ≡ true → (a && b) ≡ true
both_so a b x3 e = grind arith

all_and_one : {X : Type 0} (p : X → Bool) (xs : List X) (x : X) → p x ≡ true → list_all p xs ≡ true
    → list_all p (xs ++ x ∷ []) ≡ true
all_and_one p [] x f e = both_so (p x) true f refl
all_and_one p (y ∷ xs) x f e = let later = all_and_one p xs x f in grind arith

pub fit_one_more : (files : List (List ℕ)) (n : ℕ) (d : List ℕ) → n < length files → list_all is_content (take n files) ≡ true
    → length (get_or files n d) ≤ FILE_LIMIT → list_all is_content (take (n + 1) files) ≡ true
fit_one_more files n d lt all le = rw (take_next files n d lt) (all_and_one is_content (take n files) (get_or files n d)
    (le-leb (length (get_or files n d)) FILE_LIMIT le) all)

pub all_fit : (files : List (List ℕ)) (n : ℕ) → length files ≤ n → list_all is_content (take n files) ≡ true
    → list_all is_content files ≡ true
all_fit files n le all = rw (take_all files n le) at all

-- what a slice to the end has
pub to_the_end : {X : Type 0} (xs : List X) (m : ℕ) → take (length xs - m) (drop m xs) ≡ drop m xs
to_the_end xs m = take_all (drop m xs) (length xs - m) (omega (arith, length-drop m xs))

pub not_apart : (guids : List (List ℕ)) (n : ℕ) (d : List ℕ) → n < length guids → are_apart guids ≡ are_apart (drop n guids)
    → list_any (bytes_eq (get_or guids n d)) (drop (n + 1) guids) ≡ true → false ≡ are_apart guids
unfolding are_apart
not_apart guids n d lt same any = sym (same ∙ (rw (drop_rest guids n d lt, any) refl))

pub still_apart : (guids : List (List ℕ)) (n : ℕ) (d : List ℕ) → n < length guids → are_apart guids ≡ are_apart (drop n guids)
    → list_any (bytes_eq (get_or guids n d)) (drop (n + 1) guids) ≡ false → are_apart guids ≡ are_apart (drop (n + 1) guids)
unfolding are_apart
still_apart guids n d lt same any = same ∙ (rw (drop_rest guids n d lt, any) refl)

pub all_apart : (guids : List (List ℕ)) (n : ℕ) → length guids ≤ n → are_apart guids ≡ are_apart (drop n guids)
    → true ≡ are_apart guids
unfolding are_apart
all_apart guids n le same = sym (same ∙ ap are_apart (drop_all guids n le))

beyond : (m n : ℕ) → n < m → nat_le m n ≡ false
beyond m n h = grind (arith, nat_tests)

pub is_allowed_by : (setup : Setup) (b : Bool) → length setup.files ≤ 8 → list_all is_content setup.files ≡ true
    → length setup.clients ≤ 16 → b ≡ are_apart setup.clients → b ≡ is_allowed_setup setup
unfolding is_allowed_setup files_limit clients_limit
is_allowed_by setup b files fit clients e = grind arith

pub has_many_clients : (setup : Setup) → 16 < length setup.clients → false ≡ is_allowed_setup setup
unfolding is_allowed_setup clients_limit
has_many_clients setup many = grind arith

pub has_many_files : (setup : Setup) → 8 < length setup.files → false ≡ is_allowed_setup setup
unfolding is_allowed_setup files_limit
has_many_files setup many = rw (beyond (length setup.files) 8 many) refl

pub as_many : (events : List code_event.Event) → nat_lt 10000 (length events) ≡ are_too_many (map event_of events)
unfolding are_too_many events_limit
as_many events = ap (λ (n : ℕ). nat_lt 10000 n) (sym (length-map events event_of))

-- ---- files

start_at : (files : List (List ℕ)) (first n : ℕ) (d : List ℕ) → n < length files
    → take (suc n) (starts_from first files) ≡ take n (starts_from first files) ++ Fact.Start (n + first) (get_or files n d) ∷ []
unfolding starts_from
start_at [] first n d lt = absurd (omega arith)
start_at (file ∷ files) first zero d lt = grind arith
start_at (file ∷ files) first (suc n) d lt = let later = start_at files (first + 1) n d (omega arith) in grind arith

pub one_more_start : (files : List (List ℕ)) (n : ℕ) (d : List ℕ) → n < length files
    → take (n + 1) (starts_from 1 files) ≡ take n (starts_from 1 files) ++ Fact.Start (n + 1) (get_or files n d) ∷ []
one_more_start files n d lt =
    let e : suc n ≡ n + 1 = omega arith in
    subst (λ (m : ℕ). take m (starts_from 1 files) ≡ take n (starts_from 1 files) ++ Fact.Start (n + 1) (get_or files n d) ∷ [])
    e (start_at files 1 n d lt)

count_starts : (files : List (List ℕ)) (first : ℕ) → length (starts_from first files) ≡ length files
unfolding starts_from
count_starts [] first = refl
count_starts (file ∷ files) first = ap suc (count_starts files (first + 1))

pub all_starts : (files : List (List ℕ)) (n : ℕ) → length files ≤ n → take n (starts_from 1 files) ≡ starts_from 1 files
all_starts files n le = take_all (starts_from 1 files) n (omega (arith, le, count_starts files 1))

-- ---- clients

new_and_one : (files : ℕ) (guids : List (List ℕ)) (seats : List Seat) (guid : List ℕ) (seat : Seat)
    → AreNew files guids seats → IsNew files guid seat → AreNew files (guids ++ guid ∷ []) (seats ++ seat ∷ [])
new_and_one files [] [] guid seat all one = (one, tt)
new_and_one files [] (s ∷ seats) guid seat all one = absurd all
new_and_one files (g ∷ guids) [] guid seat all one = absurd all
new_and_one files (g ∷ guids) (s ∷ seats) guid seat all one = (all.0, new_and_one files guids seats guid seat all.1 one)

pub one_more_new : (files : ℕ) (guids : List (List ℕ)) (n : ℕ) (d : List ℕ) (seats : List Seat) (seat : Seat)
    → n < length guids → AreNew files (take n guids) seats → IsNew files (get_or guids n d) seat
    → AreNew files (take (n + 1) guids) (seats ++ seat ∷ [])
one_more_new files guids n d seats seat lt all one =
    rw (take_next guids n d lt) (new_and_one files (take n guids) seats (get_or guids n d) seat all one)

pub all_new : (files : ℕ) (guids : List (List ℕ)) (n : ℕ) (seats : List Seat) → length guids ≤ n
    → AreNew files (take n guids) seats → AreNew files guids seats
all_new files guids n seats le all = subst (λ (gs : List (List ℕ)). AreNew files gs seats) (take_all guids n le) all

new_there : (files : ℕ) (guids : List (List ℕ)) (seats : List Seat) → AreNew files guids seats → (k : ℕ) → k < length seats
    → IsNew files (unwrap_or (slice_get guids k) []) (unwrap_or (slice_get seats k) no_seat)
new_there files [] [] all k lt = absurd (omega arith)
new_there files [] (s ∷ seats) all k lt = absurd all
new_there files (g ∷ guids) [] all k lt = absurd (omega arith)
new_there files (g ∷ guids) (s ∷ seats) all zero lt = all.0
new_there files (g ∷ guids) (s ∷ seats) all (suc k) lt = new_there files guids seats all.1 k (omega arith)

new_seat : (files : ℕ) (guids : List (List ℕ)) (seats : List Seat) → AreNew files guids seats → (n : ℕ) → IsPresent n seats
    → IsNew files (numbered [] guids n) (seat_in seats n)
unfolding numbered
new_seat files guids seats all zero p = absurd (omega (arith, p.0))
new_seat files guids seats all (suc n) p = new_there files guids seats all n (omega (arith, p.1))

new_count : (files : ℕ) (guids : List (List ℕ)) (seats : List Seat) → AreNew files guids seats → length guids ≡ length seats
new_count files [] [] all = refl
new_count files [] (s ∷ seats) all = absurd all
new_count files (g ∷ guids) [] all = absurd all
new_count files (g ∷ guids) (s ∷ seats) all = ap suc (new_count files guids seats all.1)

new_keys : (rules : Rules) (contents : List (List ℕ)) → HaveFullKeys (new_server_under rules contents)
unfolding new_server_under
new_keys rules contents = record { opens = λ one bytes a e. absurd a; held = λ file one a. absurd a }

pub first_stands : (rules : Rules) (new : CodeWorld) (setup : Setup) → server_of new.server ≡ new_server_under rules setup.files
    → AreNew (length setup.files) setup.clients new.seats → map fact_of new.facts ≡ starts_from 1 setup.files
    → Stands new (first_world_under rules setup)
unfolding first_world_under new_client
first_stands rules new setup server all facts =
    let is_new : (n : ℕ) → IsPresent n new.seats
    → IsNew (length setup.files) (numbered [] setup.clients n) (seat_in new.seats n) =
    λ n p. new_seat (length setup.files) setup.clients new.seats all n p in
    record {
      count = new_count (length setup.files) setup.clients new.seats all;
      server = server;
      seats = λ n p. let one = is_new n p in record {
        guid = one.guid;
        client = one.client;
        link = ap link_of one.link;
        requests = ap (map request_of) one.requests;
        replies = ap (map reply_of) one.replies;
      };
      facts = facts ∙ sym (reverse-reverse (starts_from 1 setup.files));
      sound = new_server-sound rules setup.files;
      waiting = first-waits-well rules setup.files;
      keys = new_keys rules setup.files;
      writing = λ n p. record { guid = (is_new n p).full; file_ids = λ file. tt };
    }

-- ---- events

after_one_more : (world : World) (events : List Event) (event : Event)
    → after world (events ++ event ∷ []) ≡ happens (after world events) event
unfolding after
after_one_more world [] event = refl
after_one_more world (e ∷ events) event = after_one_more (happens world e) events event

pub take_map : {X Y : Type 0} (f : X → Y) (xs : List X) (n : ℕ) → take n (map f xs) ≡ map f (take n xs)
take_map f [] zero = refl
take_map f [] (suc n) = refl
take_map f (x ∷ xs) zero = refl
take_map f (x ∷ xs) (suc n) = ap (λ ys. f x ∷ ys) (take_map f xs n)

messages_one_more : (first : World) (events : List Event) (event : Event)
    → messages_from first (events ++ event ∷ []) ≡ messages_from first events ++ messages_in (after first events) event
unfolding messages_from after
messages_one_more first [] event = append-nil (messages_in first event)
messages_one_more first (e ∷ events) event =
    ap (λ rs. messages_in first e ++ rs) (messages_one_more (happens first e) events event)
    ∙ sym (append_assoc (messages_in first e) (messages_from (happens first e) events)
    (messages_in (after (happens first e) events) event))

pub no_event : (old : CodeWorld) (first : World) (kept : Option (List code_reply.Reply)) (events : List Event) → Stands old first
    → old.messages ≡ kept → Stands old (after first (take 0 events)) × KeepsBehind kept (messages_from first (take 0 events)) old
unfolding after messages_from
no_event old first kept events s e = (s, behind_none old kept e)

pub next_event : (events : List code_event.Event) (n : ℕ) (d : code_event.Event) → n < length events
    → take (n + 1) (map event_of events) ≡ take n (map event_of events) ++ event_of (get_or events n d) ∷ []
next_event events n d lt =
    take_map event_of events (n + 1) ∙ ap (map event_of) (take_next events n d lt)
    ∙ map-append event_of (take n events) (get_or events n d ∷ [])
    ∙ ap (λ es. es ++ event_of (get_or events n d) ∷ []) (sym (take_map event_of events n))

pub one_more_event : (old new : CodeWorld) (first : World) (kept : Option (List code_reply.Reply))
    (events : List code_event.Event)
    → (n : ℕ) (d : code_event.Event) → n < length events → Stands old (after first (take n (map event_of events)))
    × KeepsBehind kept (messages_from first (take n (map event_of events))) old → Happens (event_of (get_or events n d)) old new
    → Stands new (after first (take (n + 1) (map event_of events)))
    × KeepsBehind kept (messages_from first (take (n + 1) (map event_of events))) new
one_more_event old new first kept events n d lt held happens =
    let event : Event = event_of (get_or events n d) in
    let before : List Event = take n (map event_of events) in
    let next : take (n + 1) (map event_of events) ≡ before ++ event ∷ [] = next_event events n d lt in
    let one = happens (after first before) held.0 in
    subst (λ (es : List Event). Stands new (after first es) × KeepsBehind kept (messages_from first es) new) (sym next) (
      subst (λ (w : World). Stands new w) (sym (after_one_more first before event)) one.0,
      subst (λ (rs : List Reply). KeepsBehind kept rs new) (sym (messages_one_more first before event))
          (behind_more old new kept (messages_from first before) (messages_in (after first before) event) held.1 one.1),
    )

-- a run ends where no event is left
pub no_event_left : (code : CodeWorld) (first : World) (events : List code_event.Event) (index : ℕ) → length events ≤ index
    → Stands code (after first (take index (map event_of events))) → Stands code (after first (map event_of events))
no_event_left code first events index end stands =
    rw (take_all (map event_of events) index (omega (arith, end, length-map events event_of))) at stands
