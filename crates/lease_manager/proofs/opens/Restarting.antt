-- Opens that are kept over a restart: which ones a manager keeps, and that these may be restored.
use Rattle.lease_laws.proofs.Words.{◌&&◌, ◌<◌, ◌∙◌, ◌∷◌, ◌≡◌, ◌≤◌, Among, AreInOrder, Bool, Key, Lease, List, Open}
use Rattle.lease_laws.proofs.Words.{Server, Some, State, [], ap, ap₂, arith, conflict, filter, fun_ext, granted_form_of}
use Rattle.lease_laws.proofs.Words.{has_file, has_key, inl, inr, is_breaking, key_of_open, lease_of_open, map, not}
use Rattle.lease_laws.proofs.Words.{outlives_connection, refl, state_of, subst, sym, true}
use Rattle.lease_laws.proofs.server.Keys.{lease_by-key}
use Rattle.lease_laws.proofs.server.Lists.{among_filter, among_map, either}
use Rattle.lease_manager.specs.Always.{IsManager}
use Rattle.lease_manager.specs.Closing.{lease_under}
use Rattle.lease_manager.specs.Parting.{outlives_by}
use Rattle.lease_manager.specs.Restarting.{AreKeptOf, KeptMayBeRestored, key_kept, open_kept, pair_kept, pair_of, pairs_in}
use Rattle.lease_manager.specs.Restarting.{RestoredIsKept, kept_server, without_client}
use Rattle.lease_manager.specs.Table.{Table, server_of}
use Rattle.lease_manager.specs.declared.values.kept.KeptOpen.{KeptOpen}
use Rattle.lease_manager.proofs.opens.Parting.{outlives_so}
use Rattle.lease_manager.proofs.opens.Restorable.{AreLawful, among_kept, has_so, key_is, lawful_if, lease_is, own_key_there}
use Rattle.lease_manager.proofs.opens.Restorable.{restored_if}

-- ---- what a manager keeps

firsts : (kept : List KeptOpen) → map (λ (p : Open × State). p.0) (map pair_kept kept) ≡ map open_kept kept
firsts [] = refl
firsts (one ∷ kept) = ap (λ l. open_kept one ∷ l) (firsts kept)

firsts_of : (leases : Key → Lease) (opens : List Open)
    → map (λ (p : Open × State). p.0) (map (λ (one : Open). pair_of (lease_under leases (key_of_open one)) one) opens)
    ≡ map without_client opens
firsts_of leases [] = refl
firsts_of leases (one ∷ opens) = ap (λ l. without_client one ∷ l) (firsts_of leases opens)

paired : (one : KeptOpen) (kept : List KeptOpen) → Among one kept → Among (pair_kept one) (map pair_kept kept)
paired one [] there = absurd there
paired one (first ∷ kept) (inl same) = inl (ap pair_kept same)
paired one (first ∷ kept) (inr later) = inr (paired one kept later)

pub kept_of : (server : Server) (leases : Key → Lease) (kept : List KeptOpen) → server.leases ≡ leases
    → map pair_kept kept ≡ pairs_in leases server.opens → AreKeptOf server kept
kept_of server leases kept same are = record {
  opens = sym (firsts kept) ∙ (ap (map (λ (p : Open × State). p.0)) are
      ∙ (firsts_of leases (filter (outlives_by leases) server.opens)
      ∙ ap (λ test. map without_client (filter test server.opens))
      (fun_ext (λ one. ap (λ l. outlives_by l one) (sym same) ∙ outlives_so server one))));
  states = λ one there.
      let from = among_map (λ (x : Open). pair_of (lease_under leases (key_of_open x)) x) (pair_kept one)
      (filter (outlives_by leases) server.opens) (subst (λ pairs. Among (pair_kept one) pairs) are (paired one kept there)) in
      let key : key_of_open (from.0) ≡ Some (key_kept one) = sym (ap (λ (p : Open × State). key_of_open p.0) from.2) in
      ap (λ (p : Open × State). p.1) from.2
      ∙ (ap (λ k. (lease_under leases k).state) key ∙ ap (λ (l : Key → Lease). (l (key_kept one)).state) (sym same));
}

-- ---- what a manager keeps may be restored

abbrev Source : Server → KeptOpen → Type 0
Source server one = (o : Open) × (Among o server.opens) × (outlives_connection server o ≡ true)
    × (open_kept one ≡ without_client o)

source : (server : Server) (kept : List KeptOpen) → AreKeptOf server kept → (one : KeptOpen) → Among one kept
    → Source server one
source server kept are one there =
    let from = among_map without_client (open_kept one) (filter (outlives_connection server) server.opens)
    (subst (λ opens. Among (open_kept one) opens) are.opens (among_kept one kept there)) in
    let was = among_filter (outlives_connection server) from.0 server.opens from.1 in
    (from.0, was.0, was.1, from.2)

order_kept : (test : Open → Bool) (opens : List Open) → AreInOrder opens → AreInOrder (map without_client (filter test opens))
order_kept test [] order = order
order_kept test (one ∷ opens) order = either (test one)
    (λ t. rw t (
      λ other a.
          let from = among_map without_client other (filter test opens) a in
          subst (λ n. one.file_id < n) (sym (ap (λ (o : Open). o.file_id) from.2))
          (order.0 from.0 (among_filter test from.0 opens from.1).0),
      order_kept test opens order.1,
    ))
    (λ t. rw t (order_kept test opens order.1))

holds_handle : (durable handle breaks : Bool) → (durable && handle && not breaks) ≡ true → handle ≡ true
holds_handle durable handle breaks lasts = grind arith

kept_lawful : (table : Table) (kept : List KeptOpen) → IsManager table → AreKeptOf (server_of table) kept
    → AreLawful table.files table.last_id kept
kept_lawful table kept is are =
    let server : Server = server_of table in
    let from = source server kept are in record {
      each = λ one there.
          let o = from one there in
          let its : has_key (key_kept one) o.0 ≡ true = sym (ap (has_key (key_kept one)) o.3) ∙ own_key_there one in
          let lease = lease_by-key server (key_kept one) (o.0).client (o.0).lease_key its in
          let numbered = is.sound.numbered o.0 o.1 in
          let id = ap (λ (x : Open). x.file_id) o.3 in
          let state = are.states one there in
          record {
            id_low = subst (λ n. 1 ≤ n) (sym id) numbered.0;
            id_high = subst (λ n. n ≤ table.last_id) (sym id) numbered.1;
            on_file = ap (λ (x : Open). has_file server x.file) o.3 ∙ is.waits.is_orderly.open_files o.0 o.1;
            granted = subst (λ s. granted_form_of s ≡ s) (sym state) (is.sound.lawful (key_kept one)).is_granted_form;
            handle = ap (λ (s : State). s.handle) (state ∙ ap (λ (l : Lease). l.state) (sym lease))
                ∙ holds_handle (o.0).durable (lease_of_open server o.0).state.handle
                (is_breaking (lease_of_open server o.0)) o.2;
          };
      pairs = λ one other a b.
          let o = from one a in
          let p = from other b in
          let own : has_key (key_kept one) o.0 ≡ true = sym (ap (has_key (key_kept one)) o.3) ∙ own_key_there one in
          let file_o = ap (λ (x : Open). x.file) o.3 in
          let file_p = ap (λ (x : Open). x.file) p.3 in
          record {
            file = λ same. file_p ∙ (is.sound.one_file (key_kept one) o.0 p.0 o.1 own p.1
                (sym (ap (has_key (key_kept one)) p.3) ∙ has_so (key_kept one) other same) ∙ sym file_o);
            state = λ same. are.states one a ∙ (ap (λ k. (server.leases k).state) same ∙ sym (are.states other b));
            free = λ at apart. ap (λ (x : Open). conflict one.access one.share x.access x.share) p.3
                ∙ (ap (λ (x : Open). conflict x.access x.share (p.0).access (p.0).share) o.3
                ∙ is.sound.no_conflict o.0 p.0 o.1 p.1 (sym file_p ∙ (at ∙ file_o))
                (λ same. apart (ap (λ (x : Open). x.file_id) p.3 ∙ (same ∙ sym (ap (λ (x : Open). x.file_id) o.3)))));
            writer = λ at write. key_is (key_kept one) other (ap (has_key (key_kept one)) p.3
                ∙ is.sound.one_writer (key_kept one) o.0 p.0
                (ap (λ (s : State). s.write) (sym (are.states one a)) ∙ write) o.1 own p.1 (sym file_p ∙ (at ∙ file_o)));
          };
      in_order = subst AreInOrder (sym are.opens) (order_kept (outlives_connection server) server.opens is.sound.in_order);
    }

pub kept_may_be_restored : KeptMayBeRestored
kept_may_be_restored table kept is are =
    restored_if table.rules table.files table.last_id kept (kept_lawful table kept is are)

-- ---- what was restored is kept again

all_pass : (test : Open → Bool) (xs : List KeptOpen) → ((x : KeptOpen) → Among x xs → test (open_kept x) ≡ true)
    → map without_client (filter test (map open_kept xs)) ≡ map open_kept xs
all_pass test [] all = refl
all_pass test (x ∷ xs) all = rw (all x (inl refl)) (ap (λ l. open_kept x ∷ l) (all_pass test xs (λ y a. all y (inr a))))

pairs_by : (state : Open → State) (xs : List KeptOpen)
    → ((x : KeptOpen) → Among x xs → state_of x.state ≡ state (open_kept x))
    → map pair_kept xs ≡ map (λ (o : Open). (o, state o)) (map open_kept xs)
pairs_by state [] are = refl
pairs_by state (x ∷ xs) are = ap₂ (λ (s : State) (l : List (Open × State)). (open_kept x, s) ∷ l) (are x (inl refl))
    (pairs_by state xs (λ y a. are y (inr a)))

pub restored_is_kept : RestoredIsKept
restored_is_kept rules files last kept again may are =
    let server : Server = kept_server rules files last kept in
    let law = lawful_if rules files last kept may in
    let state : Open → State = λ o. (lease_of_open server o).state in
    let opens : map open_kept again ≡ map open_kept kept = are.opens ∙ all_pass (outlives_connection server) kept
    (λ x a. rw (lease_is kept may.agree x a, (law.each x a).handle) refl) in
    pairs_by state again are.states
    ∙ (ap (map (λ (o : Open). (o, state o))) opens
    ∙ sym (pairs_by state kept (λ x a. sym (ap (λ (l : Lease). l.state) (lease_is kept may.agree x a)))))
