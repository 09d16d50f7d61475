-- The small steps of a server keep its laws: opens dropped, opens connected or not, a lease changed,
-- an open added.
use Rattle.lease_laws.proofs.Words.{◌<◌, ◌||◌, ◌∙◌, ◌∷◌, ◌≡◌, ◌≤◌, Among, AreInOrder, AreSound, Bool, IsLasting, IsLawful, Key}
use Rattle.lease_laws.proofs.Words.{Lease, List, Open, ℕ, [], ap, ap₂, conflict, false, filter, has_key, if◌then◌else◌}
use Rattle.lease_laws.proofs.Words.{is_breaking, list_any, map, no_lease, refl, subst, sym, true}
use Rattle.lease_laws.proofs.server.Lists.{if_cases, among_filter, among_map, has_any}
use Rattle.lease_laws.proofs.server.States.{no_lease-lawful}

-- the leases that are left with these opens
abbrev pub left_leases : (Key → Lease) → List Open → Key → Lease
left_leases leases opens key = if list_any (has_key key) opens then leases key else no_lease

-- a key that has an open keeps its lease
pub left_here : (leases : Key → Lease) (opens : List Open) (key : Key) (one : Open)
    → Among one opens → has_key key one ≡ true → left_leases leases opens key ≡ leases key
left_here leases opens key one a k = rw (has_any (has_key key) one opens a k) refl

-- fewer opens stay in order
in_order-filter : (test : Open → Bool) (opens : List Open) → AreInOrder opens → AreInOrder (filter test opens)
in_order-filter test [] own = tt
in_order-filter test (one ∷ opens) own =
    let later = in_order-filter test opens own.1 in
    if_cases AreInOrder (test one) (one ∷ filter test opens) (filter test opens)
    (λ e. ((λ other a. own.0 other (among_filter test other opens a).0), later))
    (λ e. later)

-- opens are dropped, and the leases that have none
pub drop_sound : (test : Open → Bool) (opens : List Open) (leases : Key → Lease) (expired : Key → Bool) (last_id : ℕ)
    → AreSound opens leases expired last_id
    → AreSound (filter test opens) (left_leases leases (filter test opens)) expired last_id
drop_sound test opens leases expired last_id s =
    let was : (one : Open) → Among one (filter test opens) → Among one opens = λ one a. (among_filter test one opens a).0 in
    let here : (key : Key) (one : Open) → Among one (filter test opens) → has_key key one ≡ true
    → left_leases leases (filter test opens) key ≡ leases key = λ key one a k. left_here leases (filter test opens) key one a k in
    record {
      one_writer = λ key one other w a k b f. s.one_writer key one other
          (ap (λ l. l.state.write) (sym (here key one a k)) ∙ w) (was one a) k (was other b) f;
      no_conflict = λ one other a b f n. s.no_conflict one other (was one a) (was other b) f n;
      disconnected = λ one a d. let l = s.disconnected one (was one a) d in record {
        is_durable = l.is_durable;
        key = l.key;
        has_the_key = l.has_the_key;
        holds_handle = ap (λ x. x.state.handle) (here l.key one a l.has_the_key) ∙ l.holds_handle;
        is_settled = ap (λ x. is_breaking x) (here l.key one a l.has_the_key) ∙ l.is_settled;
      };
      lawful = λ key. if_cases IsLawful (list_any (has_key key) (filter test opens)) (leases key) no_lease
          (λ e. s.lawful key) (λ e. no_lease-lawful);
      one_file = λ key one other a k b j. s.one_file key one other (was one a) k (was other b) j;
      no_open = λ key e. rw e refl;
      numbered = λ one a. s.numbered one (was one a);
      in_order = in_order-filter test opens s.in_order;
      timed_out = λ key e. if_cases (λ l. l ≡ no_lease) (list_any (has_key key) (filter test opens)) (leases key) no_lease
          (λ t. s.timed_out key e) (λ t. refl);
    }

-- the open, with a connection or without
abbrev pub with_connection : (Open → Bool) → Open → Open
with_connection up one = record one { connected = up one }

-- connections have nothing to do with the order
in_order-connection : (up : Open → Bool) (opens : List Open) → AreInOrder opens → AreInOrder (map (with_connection up) opens)
in_order-connection up [] own = tt
in_order-connection up (one ∷ opens) own = (
  (λ other a. let x = among_map (with_connection up) other opens a in
      subst (λ n. one.file_id < n) (sym (ap (λ o. o.file_id) x.2)) (own.0 x.0 x.1)),
  in_order-connection up opens own.1,
)

-- nor with whether a key has an open
any_key-connection : (up : Open → Bool) (key : Key) (opens : List Open)
    → list_any (has_key key) (map (with_connection up) opens) ≡ list_any (has_key key) opens
any_key-connection up key [] = refl
any_key-connection up key (one ∷ opens) = ap (λ b. has_key key one || b) (any_key-connection up key opens)

-- whether opens conflict has nothing to do with their connections
conflict_frame : (up : Open → Bool) (one other : Open) → conflict one.access one.share other.access other.share ≡ false
    → conflict one.access one.share (with_connection up other).access (with_connection up other).share ≡ false
conflict_frame up one other e = e

-- opens are connected, or lose their connection where they outlive it
pub connection_sound : (up : Open → Bool) (opens : List Open) (leases : Key → Lease) (expired : Key → Bool) (last_id : ℕ)
    → AreSound opens leases expired last_id → ((one : Open) → Among one opens → up one ≡ false → IsLasting leases one)
    → AreSound (map (with_connection up) opens) leases expired last_id
connection_sound up opens leases expired last_id s lasting =
    let was : (one : Open) → Among one (map (with_connection up) opens)
    → (x : Open) × (Among x opens) × (one ≡ with_connection up x) = λ one a. among_map (with_connection up) one opens a in
    let key_was : (key : Key) (one : Open) (x : Open) → one ≡ with_connection up x
    → has_key key one ≡ has_key key x = λ key one x e. ap (λ o. has_key key o) e in
    record {
      one_writer = λ key one other w a k b f. let x = was one a in let y = was other b in
          key_was key other y.0 y.2 ∙ s.one_writer key x.0 y.0 w x.1 (sym (key_was key one x.0 x.2) ∙ k)
          y.1 (sym (ap (λ o. o.file) y.2) ∙ f ∙ ap (λ o. o.file) x.2);
      no_conflict = λ one other a b f n. let x = was one a in let y = was other b in
          ap₂ (λ o p. conflict o.access o.share p.access p.share) x.2 y.2
          ∙ conflict_frame up x.0 y.0 (s.no_conflict x.0 y.0 x.1 y.1 (sym (ap (λ o. o.file) y.2) ∙ f ∙ ap (λ o. o.file) x.2)
          (λ e. n (ap (λ o. o.file_id) y.2 ∙ e ∙ sym (ap (λ o. o.file_id) x.2))));
      disconnected = λ one a d. let x = was one a in
          let l = lasting x.0 x.1 (sym (ap (λ o. o.connected) x.2) ∙ d) in record {
            is_durable = ap (λ o. o.durable) x.2 ∙ l.is_durable;
            key = l.key;
            has_the_key = key_was l.key one x.0 x.2 ∙ l.has_the_key;
            holds_handle = l.holds_handle;
            is_settled = l.is_settled;
          };
      lawful = s.lawful;
      one_file = λ key one other a k b j. let x = was one a in let y = was other b in
          ap (λ o. o.file) y.2 ∙ s.one_file key x.0 y.0 x.1 (sym (key_was key one x.0 x.2) ∙ k)
          y.1 (sym (key_was key other y.0 y.2) ∙ j) ∙ sym (ap (λ o. o.file) x.2);
      no_open = λ key e. s.no_open key (sym (any_key-connection up key opens) ∙ e);
      numbered = λ one a. let x = was one a in
          subst (λ n. (1 ≤ n) × (n ≤ last_id)) (sym (ap (λ o. o.file_id) x.2)) (s.numbered x.0 x.1);
      in_order = in_order-connection up opens s.in_order;
      timed_out = s.timed_out;
    }
