-- Creates that wait for handles: what is known of opens that are left to be closed, and that a create has only to wait.
use Rattle.lease_laws.proofs.Words.{◌&&◌, ◌++◌, ◌∙◌, ◌∷◌, ◌≡◌, Access, Among, AreInOrder, Bool, Decides-eqb, FileId}
use Rattle.lease_laws.proofs.Words.{FileRequest, Key, Lease, List, None, Open, Option, Server, Share, Some, Want, ℕ, []}
use Rattle.lease_laws.proofs.Words.{ap, arith, conflicts_on, connected_again, false, filter, finding, handle_wants, has_file}
use Rattle.lease_laws.proofs.Words.{has_key, if◌then◌else◌, is_breaking, is_empty, is_key, is_leased_elsewhere, is_left_open}
use Rattle.lease_laws.proofs.Words.{is_other_on, key_eq, key_under, keys_of, lease_of_open, list_any}
use Rattle.lease_laws.proofs.Words.{map, no_lease, not, own_key, refl, subst, sym, true, without_handle}
use Rattle.lease_model.specs.messages.Requests.{CreateAsk}
use Rattle.lease_laws.proofs.server.Goes.{one_id}
use Rattle.lease_laws.proofs.server.KeyOrder.{wants_where-has}
use Rattle.lease_laws.proofs.server.Keys.{key_eq-same, lease_by-key}
use Rattle.lease_laws.proofs.server.Lists.{among_filter, among_filtered, among_map, and_both, and_parts, any_has, clash, each_all}
use Rattle.lease_laws.proofs.server.Lists.{either, has_any, has_none, none_has, not_true}
use Rattle.lease_laws.proofs.server.Wants.{keys_of-has}
use Rattle.lease_manager.specs.Closing.{lease_under}
use Rattle.lease_manager.specs.Filed.{has_id}
use Rattle.lease_manager.specs.Kept.{HaveClosed, disconnected_where, is_one_of}
use Rattle.lease_manager.specs.LeftOpens.{numbers}
use Rattle.lease_manager.specs.OneFile.{on_file}
use Rattle.lease_manager.specs.Parting.{is_so, outlives_by}
use Rattle.lease_manager.specs.StillWaiting.{AreSettled, AwaitsHandles, HasOnlyToWait, is_under_way}
use Rattle.lease_manager.specs.Summaries.{is_on, lease_in}
use Rattle.lease_manager.specs.Wishes.{is_wanted}
use Rattle.lease_manager.specs.declared.tables.summaries.Summaries.{Summaries}
use Rattle.lease_manager.specs.declared.values.want.Wish.TheVariants.{NoHandles}
use Rattle.lease_manager.proofs.opens.Parting.{found_is}
use Rattle.lease_manager.proofs.sums.Demanding.{key_there, other_here}
use Rattle.lease_manager.proofs.sums.Hindering.{handler_keyed}
use Rattle.lease_manager.proofs.waits.OneFile.{none_within}
use Rattle.lease_manager.proofs.waits.Settled.{any_more}

-- ---- no open of a lease that is breaking is left to be closed

pub empty_settled : (known : Bool) (opens : List Open) (leases : Key → Lease) → opens ≡ [] → AreSettled known opens leases
empty_settled known opens leases none = λ yes key breaks. ap (list_any (is_left_open key)) none

was_breaking : (has : Bool) (was now : Lease) → now ≡ (if has then was else no_lease) → is_breaking now ≡ true
    → is_breaking was ≡ true
was_breaking has was now is breaks = grind arith

pub closed_settled : (known : Bool) (opens left : List Open) (ids : List ℕ) (summaries after : Summaries)
    → HaveClosed opens ids summaries left after → AreSettled known opens (lease_in summaries)
    → AreSettled known left (lease_in after)
closed_settled known opens left ids summaries after closed settled = λ yes key breaks.
    let was = was_breaking (list_any (has_key key) left) (lease_in summaries key) (lease_in after key) (closed.leases key)
    breaks in
    ap (list_any (is_left_open key)) closed.opens_left
    ∙ none_within (is_left_open key) (λ x. not (is_one_of ids x)) opens (settled yes key was)

pub put_settled : (known now : Bool) (opens : List Open) (key : Key) (lease : Lease) (leases later : Key → Lease)
    → ((other : Key) → later other ≡ (if key_eq other key then lease else leases other))
    → (now ≡ true → (known ≡ true) × (is_breaking lease ≡ true → list_any (is_left_open key) opens ≡ false))
    → AreSettled known opens leases → AreSettled now opens later
put_settled known now opens key lease leases later put may settled = λ yes other breaks. either (key_eq other key)
    (λ e.
    let is : later other ≡ lease = put other ∙ rw e refl in
    ap (λ k. list_any (is_left_open k) opens) (key_eq-same other key e) ∙ (may yes).1 (sym (ap is_breaking is) ∙ breaks))
    (λ e.
    let is : later other ≡ leases other = put other ∙ rw e refl in
    settled (may yes).0 other (sym (ap is_breaking is) ∙ breaks))

here_now : (key : Key) (one : Open) → one.connected ≡ true → is_left_open key one ≡ false
here_now key one here = grind arith

pub opened_settled : (known now : Bool) (opens more : List Open) (one : Open) (lease : Lease) (leases later : Key → Lease)
    → more ≡ opens ++ one ∷ [] → one.connected ≡ true
    → ((key : Key) → later key ≡ (if has_key key one then lease else leases key))
    → (now ≡ true → (known ≡ true) × ((key : Key) → has_key key one ≡ true → is_breaking lease ≡ true
    → list_any (is_left_open key) opens ≡ false))
    → AreSettled known opens leases → AreSettled now more later
opened_settled known now opens more one lease leases later is here put may settled = λ yes key breaks.
    ap (list_any (is_left_open key)) is ∙ any_more (is_left_open key) opens one (either (has_key key one)
    (λ e.
    let same : later key ≡ lease = put key ∙ rw e refl in
    (may yes).1 key e (sym (ap is_breaking same) ∙ breaks))
    (λ e.
    let same : later key ≡ leases key = put key ∙ rw e refl in
    settled (may yes).0 key (sym (ap is_breaking same) ∙ breaks))) (here_now key one here)

none_again : (key : Key) (file_id : ℕ) (opens : List Open) → list_any (is_left_open key) opens ≡ false
    → list_any (is_left_open key) (map (connected_again file_id) opens) ≡ false
none_again key file_id [] none = none
none_again key file_id (one ∷ opens) none = let later = none_again key file_id opens in grind arith

pub again_settled : (known : Bool) (file_id : ℕ) (opens : List Open) (leases : Key → Lease) → AreSettled known opens leases
    → AreSettled known (map (connected_again file_id) opens) leases
again_settled known file_id opens leases settled = λ yes key breaks. none_again key file_id opens (settled yes key breaks)

-- an open that is disconnected outlives its connection, and so its lease isn't breaking
under_key : (leases : Key → Lease) (key : Key) (client : ℕ) (bytes : Option (List ℕ)) → is_key key client bytes ≡ true
    → lease_under leases (key_under client bytes) ≡ leases key
unfolding key_eq
under_key leases key client None has = absurd (cc has)
under_key leases key client (Some bytes) has =
    ap leases (sym (key_eq-same key (record { client = client; bytes = bytes }) has))

lasts_unbroken : (durable handles breaks : Bool) → (durable && handles && not breaks) ≡ true → breaks ≡ false
lasts_unbroken durable handles breaks lasts = grind arith

unbroken : (leases : Key → Lease) (key : Key) (one : Open) → outlives_by leases one ≡ true → has_key key one ≡ true
    → is_breaking (leases key) ≡ false
unbroken leases key one lasts has =
    let lease = lease_under leases (key_under one.client one.lease_key) in
    ap is_breaking (sym (under_key leases key one.client one.lease_key has))
    ∙ lasts_unbroken one.durable lease.state.handle (is_breaking lease) lasts

-- an open of these FileIds, which are of opens that outlive their connection
lasting : (leases : Key → Lease) (opens : List Open) (named left : List FileId) (one : Open) → AreInOrder opens
    → left ≡ filter (λ (fid : FileId). is_so (outlives_by leases) opens fid.0) named → Among one opens
    → is_one_of (numbers left) one ≡ true → outlives_by leases one ≡ true
lasting leases opens named left one order are there is =
    let n = any_has (λ id. has_id id one) (numbers left) is in
    let fid = among_map (λ (file_id : FileId). file_id.0) n.0 left n.1 in
    let so = (among_filter (λ (file_id : FileId). is_so (outlives_by leases) opens file_id.0) fid.0 named
    (subst (λ ids. Among fid.0 ids) are fid.1)).1 in
    let found = found_is (fid.0).0 (outlives_by leases) opens so in
    let same : one ≡ found.0 = one_id opens one found.0 order there found.1
    ((Decides-eqb one.file_id n.0).0 n.2 ∙ (fid.2 ∙ sym found.2)) in
    ap (outlives_by leases) same ∙ found.3

pub parted_settled : (known : Bool) (opens middle now : List Open) (ended : List ℕ) (named left : List FileId)
    (summaries after : Summaries) → AreInOrder opens → HaveClosed opens ended summaries middle after
    → left ≡ filter (λ (fid : FileId). is_so (outlives_by (lease_in summaries)) opens fid.0) named
    → now ≡ map (disconnected_where (is_one_of (numbers left))) middle
    → AreSettled known opens (lease_in summaries) → AreSettled known now (lease_in after)
parted_settled known opens middle now ended named left summaries after order closed are is settled = λ yes key breaks.
    let was = was_breaking (list_any (has_key key) middle) (lease_in summaries key) (lease_in after key) (closed.leases key)
    breaks in
    let none = settled yes key was in
    ap (list_any (is_left_open key)) is ∙ has_none (is_left_open key) _ (λ x a.
    let one = among_map (disconnected_where (is_one_of (numbers left))) x middle a in
    let there = (among_filter (λ o. not (is_one_of ended o)) one.0 opens
    (subst (λ opens. Among one.0 opens) closed.opens_left one.1)).0 in
    ap (is_left_open key) one.2 ∙ either (is_one_of (numbers left) one.0)
    (λ t. rw t (not_true (is_left_open key (record (one.0) { connected = false })) (λ l.
    clash (is_breaking (lease_in summaries key)) was (unbroken (lease_in summaries) key one.0
    (lasting (lease_in summaries) opens named left one.0 order are there t) (and_parts (has_key key one.0) true l).0))))
    (λ t. rw t (none_has (is_left_open key) one.0 opens none there)))

-- ---- a create that has only to wait

-- an open by which a key is wanted
wanted_on : (server : Server) (own : Option Key) (file : ℕ) (access : Access) (share : Share) (one : Open)
    → is_wanted (NoHandles access share) server own file one ≡ true
    → (is_other_on own file one ≡ true) × (conflicts_on file access share one ≡ true)
    × ((lease_of_open server one).state.handle ≡ true)
wanted_on server own file access share one w =
    let a = and_parts (conflicts_on file access share one && is_other_on own file one) (lease_of_open server one).state.handle
    w in
    let b = and_parts (conflicts_on file access share one) (is_other_on own file one) a.0 in
    (b.1, b.0, a.1)

some_there : (want : Want) (wants : List Want) → Among want wants → is_empty wants ≡ false
some_there want [] there = absurd there
some_there want (first ∷ wants) there = refl

-- each want is under way
wants_under_way : (server : Server) (own : Option Key) (file : ℕ) (access : Access) (share : Share)
    → AwaitsHandles server own file access share → (want : Want) → Among want (handle_wants server own file access share)
    → is_under_way server file want.key ≡ true
wants_under_way server own file access share awaits want a =
    let test : Open → Bool = is_wanted (NoHandles access share) server own file in
    let key = among_map (λ (k : Key). record { key = k; lowered = without_handle (server.leases k).state }) want
    (keys_of (filter test server.opens)) a in
    let found = keys_of-has key.0 (filter test server.opens) key.1 in
    let there = among_filter test found.0 server.opens found.1 in
    let on = wanted_on server own file access share found.0 there.1 in
    let breaks : is_breaking (server.leases key.0) ≡ true =
    ap is_breaking (sym (lease_by-key server key.0 (found.0).client (found.0).lease_key found.2))
    ∙ awaits.going.0 found.0 there.0 on.0 on.2 in
    let left = awaits.going.1 refl key.0 breaks in
    ap (λ (w : Want). is_under_way server file w.key) key.2
    ∙ and_both (is_breaking (server.leases key.0)) _ breaks
    (and_both (not (list_any (is_left_open key.0) server.opens)) (list_any (has_key key.0) (on_file file server.opens))
    (ap not left)
    (has_any (has_key key.0) found.0 (on_file file server.opens)
    (among_filtered (is_on file) found.0 server.opens there.0 (other_here own file found.0 on.0)) found.2))

pub awaits_handles : (server : Server) (file client : ℕ) (access : Access) (share : Share) (ask : CreateAsk)
    → ask.reconnect ≡ None → has_file server file ≡ true → is_leased_elsewhere server (own_key client ask.lease) file ≡ false
    → AwaitsHandles server (own_key client ask.lease) file access share
    → HasOnlyToWait server file client (FileRequest.Create file access share (Some ask))
unfolding finding
awaits_handles server file client access share ask new exists home awaits =
    let own = own_key client ask.lease in
    let wants = handle_wants server own file access share in
    let test : Open → Bool = is_wanted (NoHandles access share) server own file in
    let one = any_has test server.opens awaits.wanted in
    let on = wanted_on server own file access share one.0 one.2 in
    let key = key_there (one.0).client (one.0).lease_key (handler_keyed server (one.0).client (one.0).lease_key on.2) in
    let want = wants_where-has server test without_handle key.0 one.0 one.1 one.2 key.1 in
    let some : is_empty wants ≡ false = some_there _ wants want in
    let conflicts : list_any (conflicts_on file access share) server.opens ≡ true =
    has_any (conflicts_on file access share) one.0 server.opens one.1 on.1 in
    let under_way = wants_under_way server own file access share awaits in
    record {
      wants = wants;
      found = rw (exists, new, home, conflicts, some) refl;
      waits = record {
        unready = some;
        must_wait = has_any (λ w. is_breaking (server.leases w.key)) _ wants want
            (and_parts (is_breaking (server.leases key.0)) _ (under_way _ want)).0;
        under_way = each_all (λ w. is_under_way server file w.key) wants under_way;
      };
    }
