-- Opens of a client whose connection goes, as the tables part them.
use Rattle.lease_laws.proofs.Words.{◌&&◌, ◌++◌, ◌==◌, ◌||◌, ◌∙◌, ◌∷◌, ◌≡◌, Among, AreInOrder, Bool, Decides-eqb, List}
use Rattle.lease_laws.proofs.Words.{Open, Server, ℕ, [], ap, arith, false, filter, fun_ext, inl, inr}
use Rattle.lease_laws.proofs.Words.{◌<◌, if◌then◌else◌}
use Rattle.lease_laws.proofs.Words.{is_lost_of, list_any, map, nat_cmp, nat_tests, not}
use Rattle.lease_laws.proofs.Words.{outlives_connection, parted, refl, subst, sym, true, without, with_opens, FileId}
use Rattle.std.specs.BTreeSet.{insert_key}
use Rattle.lease_laws.proofs.server.Goes.{one_id}
use Rattle.lease_laws.proofs.server.Lists.{among_filter, either}
use Rattle.lease_manager.specs.Filed.{has_id}
use Rattle.lease_manager.specs.Kept.{HaveClosed, disconnected_where, is_one_of, listed}
use Rattle.lease_manager.specs.LeftOpens.{ids_of, numbers}
use Rattle.lease_manager.specs.Parting.{IsParted, found_by, is_connected_named, is_connected_of, is_kept_of, is_lasting, is_so}
use Rattle.lease_manager.specs.Parting.{outlives_by}
use Rattle.lease_manager.specs.Summaries.{lease_in}
use Rattle.lease_manager.specs.Table.{Table, lease_at, server_of}
use Rattle.lease_manager.specs.declared.tables.parting.Parted.{Parted}
use Rattle.lease_manager.specs.declared.tables.summaries.Summaries.{Summaries}
use Rattle.lease_manager.proofs.opens.Filing.{greater}
use Rattle.lease_manager.proofs.opens.LeftOpens.{equal_is, inserted_first, picked_by}
use Rattle.lease_manager.proofs.opens.Tabling.{chosen, leases_are, map_alike, opens_closed, table_closed}

-- ---- FileIds that a client names

filter_among : (f g : Open → Bool) (opens : List Open) → ((one : Open) → Among one opens → f one ≡ g one)
    → filter f opens ≡ filter g opens
filter_among f g [] same = refl
filter_among f g (x ∷ opens) same =
    let later = filter_among f g opens (λ other a. same other (inr a)) in
    rw (same x (inl refl)) (ap (λ l. if g x then x ∷ l else l) later)

-- one more FileId stands at its place among those of the opens that pass a test
inserted_at : (test : Open → Bool) (n : ℕ) (opens : List Open) (one : Open) → AreInOrder opens → Among one opens
    → one.file_id ≡ n
    → insert_key nat_cmp (ids_of (filter test opens)) n ≡ ids_of (filter (λ o. test o || has_id n o) opens)
inserted_at test n [] one order there its = absurd there
inserted_at test n (x ∷ opens) one order (inl same) its =
    let at : x.file_id ≡ n = ap (λ (o : Open). o.file_id) (sym same) ∙ its in
    let here : has_id n x ≡ true = (Decides-eqb x.file_id n).1 at in
    let rest : filter (λ o. test o || has_id n o) opens ≡ filter test opens =
    filter_among (λ o. test o || has_id n o) test opens (λ o a. off (test o) (has_id n o)
    (above x.file_id o.file_id n at (order.0 o a))) in
    either (test x)
    (λ t. rw (t, rest) (subst (λ m. insert_key nat_cmp (m ∷ ids_of (filter test opens)) n ≡ m ∷ ids_of (filter test opens))
    (sym at)
    (rw (equal_is n) refl)))
    (λ t. rw (t, here, rest) (inserted_first n (filter test opens) (λ o a. low x.file_id o.file_id n at
    (order.0 o (among_filter test o opens a).0)) ∙ ap (λ m. m ∷ ids_of (filter test opens)) (sym at)))
  where
    above : (m k n : ℕ) → m ≡ n → m < k → (k == n) ≡ false
    above m k n e less = grind (arith, nat_tests, e, less)

    low : (m k n : ℕ) → m ≡ n → m < k → n < k
    low m k n e less = omega (arith, e, less)

    off : (t h : Bool) → h ≡ false → (t || h) ≡ t
    off t h e = grind arith
inserted_at test n (x ∷ opens) one order (inr there) its =
    let later = inserted_at test n opens one order.1 there its in
    let less : x.file_id < n = let l = order.0 one there in omega (arith, l, its) in
    let here : has_id n x ≡ false = apart x.file_id n less in
    either (test x)
    (λ t. rw t (rw (greater n x.file_id less) (ap (λ l. x.file_id ∷ l) later)))
    (λ t. rw (t, here) later)
  where
    apart : (m n : ℕ) → m < n → (m == n) ≡ false
    apart m n less = grind (arith, nat_tests, less)

pub found_is : (n : ℕ) (test : Open → Bool) (opens : List Open) → is_so test opens n ≡ true
    → (one : Open) × (Among one opens) × (one.file_id ≡ n) × (test one ≡ true)
found_is n test [] so = absurd (cc so)
found_is n test (x ∷ opens) so = either (has_id n x)
    (λ its. (x, inl refl, (Decides-eqb x.file_id n).0 its, rw its at so))
    (λ off. let y = found_is n test opens (rw off at so) in (y.0, inr y.1, y.2, y.3))

found_not : (n : ℕ) (test : Open → Bool) (opens : List Open) (one : Open) → AreInOrder opens → Among one opens
    → one.file_id ≡ n → is_so test opens n ≡ false → test one ≡ false
found_not n test [] one order there its so = absurd there
found_not n test (x ∷ opens) one order (inl same) its so =
    let here : has_id n x ≡ true = (Decides-eqb x.file_id n).1 (ap (λ (o : Open). o.file_id) (sym same) ∙ its) in
    ap test same ∙ (rw here at so)
found_not n test (x ∷ opens) one order (inr there) its so =
    let off : has_id n x ≡ false = apart x.file_id one.file_id n its (order.0 one there) in
    found_not n test opens one order.1 there its (rw off at so)
  where
    apart : (m k n : ℕ) → k ≡ n → m < k → (m == n) ≡ false
    apart m k n e less = grind (arith, nat_tests, e, less)

any_more : (m n : ℕ) (ids : List ℕ) → list_any (λ id. m == id) (ids ++ n ∷ []) ≡ (list_any (λ id. m == id) ids || m == n)
any_more m n [] = grind arith
any_more m n (id ∷ ids) = let e = any_more m n ids in grind (arith, e)

pub named_more : (client n : ℕ) (ids : List ℕ) (opens : List Open) → AreInOrder opens
    → is_so (is_connected_of client) opens n ≡ true
    → insert_key nat_cmp (ids_of (filter (is_connected_named client ids) opens)) n
    ≡ ids_of (filter (is_connected_named client (ids ++ n ∷ [])) opens)
named_more client n ids opens order so =
    let x = found_is n (is_connected_of client) opens so in
    inserted_at (is_connected_named client ids) n opens x.0 order x.1 x.2
    ∙ ap ids_of (filter_among _ (is_connected_named client (ids ++ n ∷ [])) opens (λ o a.
    let more = any_more o.file_id n ids in
    either (has_id n o)
    (λ its.
    let same : o ≡ x.0 = one_id opens o x.0 order a x.1 ((Decides-eqb o.file_id n).0 its ∙ sym x.2) in
    let up : is_connected_of client o ≡ true = ap (is_connected_of client) same ∙ x.3 in
    grown (o.client == client) o.connected (list_any (λ id. o.file_id == id) ids) (has_id n o) _ more up its)
    (λ off. stayed (o.client == client) o.connected (list_any (λ id. o.file_id == id) ids) (has_id n o) _ more off)))
  where
    grown : (c u l h m : Bool) → m ≡ (l || h) → (c && u) ≡ true → h ≡ true → ((c && l && u) || h) ≡ (c && m && u)
    grown c u l h m e up its = grind arith

    stayed : (c u l h m : Bool) → m ≡ (l || h) → h ≡ false → ((c && l && u) || h) ≡ (c && m && u)
    stayed c u l h m e off = grind arith

pub named_same : (client n : ℕ) (ids : List ℕ) (opens : List Open) → AreInOrder opens
    → is_so (is_connected_of client) opens n ≡ false
    → ids_of (filter (is_connected_named client ids) opens)
    ≡ ids_of (filter (is_connected_named client (ids ++ n ∷ [])) opens)
named_same client n ids opens order so =
    ap ids_of (filter_among (is_connected_named client ids) (is_connected_named client (ids ++ n ∷ [])) opens (λ o a.
    let more = any_more o.file_id n ids in
    either (has_id n o)
    (λ its.
    let down = found_not n (is_connected_of client) opens o order a ((Decides-eqb o.file_id n).0 its) so in
    away (o.client == client) o.connected (list_any (λ id. o.file_id == id) ids) _ down)
    (λ off. stays (o.client == client) o.connected (list_any (λ id. o.file_id == id) ids) (has_id n o) _ more off)))
  where
    away : (c u l m : Bool) → (c && u) ≡ false → (c && l && u) ≡ (c && m && u)
    away c u l m down = grind arith

    stays : (c u l h m : Bool) → m ≡ (l || h) → h ≡ false → (c && l && u) ≡ (c && m && u)
    stays c u l h m e off = grind arith

pub none_named : (client : ℕ) (opens : List Open) → (let ids : List ℕ = [] in ids)
    ≡ ids_of (filter (is_connected_named client []) opens)
none_named client [] = refl
none_named client (x ∷ opens) =
    let off : is_connected_named client [] x ≡ false = never (x.client == client) x.connected in
    rw off (none_named client opens)
  where
    never : (c u : Bool) → (c && false && u) ≡ false
    never c u = grind arith

-- ---- those that end, and those that are kept

pub outlives_so : (server : Server) (one : Open) → outlives_by server.leases one ≡ outlives_connection server one
outlives_so server one = grind arith

filter_both : (f g : Open → Bool) (opens : List Open) → filter g (filter f opens) ≡ filter (λ o. f o && g o) opens
filter_both f g [] = refl
filter_both f g (x ∷ opens) = let later = filter_both f g opens in either (f x)
    (λ t. rw t (ap (λ l. if g x then x ∷ l else l) later))
    (λ t. rw t later)

-- the FileIds that are kept, or aren't, of those of the connected opens that pass a test
split_so : (test : Open → Bool) (server : Server) (named kept : List FileId) (last : Bool) → AreInOrder server.opens
    → numbers named ≡ ids_of (filter (λ (one : Open). test one && one.connected) server.opens)
    → kept ≡ filter (λ (fid : FileId). is_lasting last (is_so (outlives_by server.leases) server.opens fid.0)) named
    → numbers kept ≡ ids_of (filter (λ (one : Open). test one && one.connected
    && is_lasting last (outlives_connection server one)) server.opens)
split_so test server named kept last order are is =
    let up : Open → Bool = λ one. test one && one.connected in
    ap numbers is ∙ (picked_by (λ found. is_lasting last (found_by (outlives_by server.leases) found)) server.opens order named
    (filter up server.opens) are (λ one a. (among_filter up one server.opens a).0)
    ∙ (ap ids_of (filter_both up (λ one. is_lasting last (outlives_by server.leases one)) server.opens)
    ∙ ap (λ f. ids_of (filter f server.opens)) (fun_ext (λ one. ap (λ b. up one && is_lasting last b) (outlives_so server one)))))

-- an open that isn't lost is disconnected where it is kept, and where it was before
parted_one : (test : Open → Bool) (server : Server) (ids : List ℕ) (one : Open) → is_one_of ids one ≡ is_kept_of server test one
    → is_lost_of server test one ≡ false → disconnected_where (is_one_of ids) one ≡ parted test one
parted_one test server ids one kept lost = rw kept (so (test one) one.connected (outlives_connection server one) one refl lost)
  where
    away : (o : Open) → o.connected ≡ false → o ≡ record o { connected = false }
    away o e = grind arith

    so : (t u l : Bool) (o : Open) → o.connected ≡ u → (t && u && not l) ≡ false
        → (if t && u && l then record o { connected = false } else o) ≡ (if t then record o { connected = false } else o)
    so true true true o e lost = refl
    so true true false o e lost = absurd (cc lost)
    so true false l o e lost = away o e
    so false u l o e lost = refl

pub part_now : (table : Table) (test : Open → Bool) (named : List FileId) (parted_ids : Parted) (summaries after : Summaries)
    (middle now : List Open) → table.leases ≡ listed summaries → AreInOrder table.opens
    → numbers named ≡ ids_of (filter (λ (one : Open). test one && one.connected) table.opens)
    → parted_ids.ended.items ≡ filter (λ (fid : FileId). not (is_so (outlives_by (lease_in summaries)) table.opens fid.0)) named
    → parted_ids.left.items ≡ filter (λ (fid : FileId). is_so (outlives_by (lease_in summaries)) table.opens fid.0) named
    → HaveClosed table.opens (numbers parted_ids.ended.items) summaries middle after
    → now ≡ map (disconnected_where (is_one_of (numbers parted_ids.left.items))) middle
    → IsParted test (server_of table) parted_ids (server_of (record table { opens = now; leases = listed after }))
part_now table test named parted_ids summaries after middle now same order are ended left closed is =
    let server : Server = server_of table in
    let leases : lease_in summaries ≡ server.leases = sym (ap lease_at same ∙ leases_are summaries) in
    let lost_ids : numbers parted_ids.ended.items ≡ ids_of (filter (is_lost_of server test) table.opens) =
    split_so test server named parted_ids.ended.items false order are
    (ended ∙ ap (λ l. filter (λ (fid : FileId). not (is_so (outlives_by l) table.opens fid.0)) named) leases) in
    let kept_ids : numbers parted_ids.left.items ≡ ids_of (filter (is_kept_of server test) table.opens) =
    split_so test server named parted_ids.left.items true order are
    (left ∙ ap (λ l. filter (λ (fid : FileId). is_so (outlives_by l) table.opens fid.0) named) leases) in
    let stays : middle ≡ without (is_lost_of server test) table.opens =
    opens_closed (is_lost_of server test) table.opens middle _ summaries after order lost_ids closed in
    let shown : now ≡ map (parted test) (without (is_lost_of server test) table.opens) =
    is ∙ (ap (map (disconnected_where (is_one_of (numbers parted_ids.left.items)))) stays
    ∙ map_alike _ (parted test) (without (is_lost_of server test) table.opens) (λ one a.
    let was = among_filter (λ o. not (is_lost_of server test o)) one table.opens a in
    parted_one test server _ one (rw kept_ids (chosen (is_kept_of server test) table.opens one order was.0))
    (off (is_lost_of server test one) was.1))) in
    record {
      server = ap (λ (s : Server). record s { opens = now })
          (table_closed table (is_lost_of server test) _ summaries after middle same order lost_ids closed)
          ∙ ap (λ (opens : List Open). record (with_opens server (without (is_lost_of server test) table.opens))
          { opens = opens }) shown;
      ended = lost_ids;
      left = kept_ids;
    }
  where
    off : (b : Bool) → not b ≡ true → b ≡ false
    off b e = grind arith
