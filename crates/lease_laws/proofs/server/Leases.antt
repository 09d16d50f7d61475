-- The small steps that change a lease or add an open keep a server's laws.
use Rattle.lease_laws.proofs.Words.{◌++◌, ◌+◌, ◌<◌, ◌∙◌, ◌∷◌, ◌≡◌, ◌⊎◌, Among, AreInOrder, AreSound, Bool, IsLawful, Key}
use Rattle.lease_laws.proofs.Words.{Lease, List, Open, ℕ, ⊎_elim, [], ap, arith, conflict, false, has_key, inl, inr}
use Rattle.lease_laws.proofs.Words.{is_breaking, list_any, no_lease, put_key, refl, subst, sym, true}
use Rattle.lease_laws.proofs.server.Keys.{put_key-cases}
use Rattle.lease_laws.proofs.server.Lists.{clash, among_append, among_before, any_has, none_has, has_none}

-- What a new lease of a key has to be, so that the laws stay: lawful; with W only where the key is
-- alone on its file; and such that the key's disconnected opens still outlive their connection.
pub record MayBecome (opens : List Open) (key : Key) (new : Lease) : Type 0 where
  pub is_lawful : IsLawful new
  pub is_alone : (one other : Open) → new.state.write ≡ true → Among one opens → has_key key one ≡ true
      → Among other opens → other.file ≡ one.file → has_key key other ≡ true
  pub lasts : (one : Open) → Among one opens → has_key key one ≡ true → one.connected ≡ false
      → (new.state.handle ≡ true) × (is_breaking new ≡ false)

-- the lease of a key that has an open, and whose timer didn't run out, becomes another
pub put_sound : (opens : List Open) (leases : Key → Lease) (expired : Key → Bool) (last_id : ℕ) (key : Key) (new : Lease)
    → AreSound opens leases expired last_id → list_any (has_key key) opens ≡ true → (expired key ≡ true → new ≡ no_lease)
    → MayBecome opens key new → AreSound opens (put_key leases key new) expired last_id
put_sound opens leases expired last_id key new s there fresh may = record {
  one_writer = λ k one other. put_key-cases
      (λ l. l.state.write ≡ true → Among one opens → has_key k one ≡ true
      → Among other opens → other.file ≡ one.file → has_key k other ≡ true) leases key new k
      (λ same w a h b f. ap (λ x. has_key x other) same ∙ may.is_alone one other w a (ap (λ x. has_key x one) (sym same) ∙ h) b f)
      (λ e. s.one_writer k one other);
  no_conflict = s.no_conflict;
  disconnected = λ one a d. let l = s.disconnected one a d in
      let both : ((put_key leases key new l.key).state.handle ≡ true) ×
      (is_breaking (put_key leases key new l.key) ≡ false) =
      put_key-cases (λ x. (x.state.handle ≡ true) × (is_breaking x ≡ false)) leases key new l.key
      (λ same. may.lasts one a (ap (λ x. has_key x one) (sym same) ∙ l.has_the_key) d)
      (λ e. (l.holds_handle, l.is_settled)) in record {
        is_durable = l.is_durable;
        key = l.key;
        has_the_key = l.has_the_key;
        holds_handle = both.0;
        is_settled = both.1;
      };
  lawful = λ k. put_key-cases IsLawful leases key new k (λ same. may.is_lawful) (λ e. s.lawful k);
  one_file = s.one_file;
  no_open = λ k none. put_key-cases (λ l. l ≡ no_lease) leases key new k
      (λ same. clash (list_any (has_key key) opens) there (ap (λ x. list_any (has_key x) opens) (sym same) ∙ none))
      (λ e. s.no_open k none);
  numbered = s.numbered;
  in_order = s.in_order;
  timed_out = λ k out. put_key-cases (λ l. l ≡ no_lease) leases key new k
      (λ same. fresh (ap expired (sym same) ∙ out))
      (λ e. s.timed_out k out);
}

-- conflicts go both ways
pub conflict_back : (one other : Open)
    → conflict one.access one.share other.access other.share ≡ conflict other.access other.share one.access one.share
conflict_back one other = grind arith

-- one more behind all keeps the order
in_order-append : (opens : List Open) (new : Open) → AreInOrder opens
    → ((one : Open) → Among one opens → one.file_id < new.file_id) → AreInOrder (opens ++ new ∷ [])
in_order-append [] new own last = ((λ other a. absurd a), tt)
in_order-append (one ∷ opens) new own last = (
  (λ other a. ⊎_elim (λ h. own.0 other h)
      (λ h. ⊎_elim (λ same. subst (λ o. one.file_id < o.file_id) (sym same) (last one (inl refl)))
      (λ never. absurd never) h) (among_append other opens (new ∷ []) a)),
  in_order-append opens new own.1 (λ x a. last x (inr a)),
)

-- What a new open has to be: it conflicts with none on its file; its key has no open elsewhere; and no
-- other key there holds W.
pub record MayOpen (opens : List Open) (leases : Key → Lease) (new : Open) : Type 0 where
  pub is_connected : new.connected ≡ true
  pub is_peaceful : (other : Open) → Among other opens → other.file ≡ new.file
      → conflict new.access new.share other.access other.share ≡ false
  pub is_at_home : (key : Key) (other : Open) → Among other opens → has_key key new ≡ true
      → has_key key other ≡ true → other.file ≡ new.file
  pub is_welcome : (key : Key) (other : Open) → (leases key).state.write ≡ true → Among other opens → has_key key other ≡ true
      → other.file ≡ new.file → has_key key new ≡ true

-- a key that holds W has an open
pub writer_open : (opens : List Open) (leases : Key → Lease) (expired : Key → Bool) (last_id : ℕ) (key : Key)
    → AreSound opens leases expired last_id → (leases key).state.write ≡ true → list_any (has_key key) opens ≡ true
writer_open opens leases expired last_id key s w = grind arith

-- an open is added, under the next FileId
pub open_sound : (opens : List Open) (leases : Key → Lease) (expired : Key → Bool) (last_id : ℕ) (new : Open)
    → AreSound opens leases expired last_id → new.file_id ≡ last_id + 1 → MayOpen opens leases new
    → AreSound (opens ++ new ∷ []) leases expired (last_id + 1)
open_sound opens leases expired last_id new s id may =
    let split : (one : Open) → Among one (opens ++ new ∷ []) → Among one opens ⊎ (one ≡ new) =
    λ one a. ⊎_elim (λ h. inl h) (λ h. inr (⊎_elim (λ e. e) (λ never. absurd never) h)) (among_append one opens (new ∷ []) a) in
    let last : (one : Open) → Among one opens → one.file_id < new.file_id =
    λ one a. let n = s.numbered one a in omega (arith, n.1, id) in
    record {
      one_writer = λ key one other w a k b f. ⊎_elim
          (λ p. ⊎_elim
          (λ q. s.one_writer key one other w p k q f)
          (λ q. ap (λ o. has_key key o) q ∙ may.is_welcome key one w p k (sym f ∙ ap (λ o. o.file) q)) (split other b))
          (λ p. ⊎_elim
          (λ q. let own = any_has (has_key key) opens (writer_open opens leases expired last_id key s w) in
          s.one_writer key own.0 other w own.1 own.2 q
          (f ∙ ap (λ o. o.file) p ∙ sym (may.is_at_home key own.0 own.1 (ap (λ o. has_key key o) (sym p) ∙ k) own.2)))
          (λ q. ap (λ o. has_key key o) (q ∙ sym p) ∙ k) (split other b)) (split one a);
      no_conflict = λ one other a b f n. ⊎_elim
          (λ p. ⊎_elim
          (λ q. s.no_conflict one other p q f n)
          (λ q. conflict_back one other ∙ ap (λ o. conflict o.access o.share one.access one.share) q
          ∙ may.is_peaceful one p (sym f ∙ ap (λ o. o.file) q)) (split other b))
          (λ p. ⊎_elim
          (λ q. ap (λ o. conflict o.access o.share other.access other.share) p ∙ may.is_peaceful other q (f ∙ ap (λ o. o.file) p))
          (λ q. absurd (n (ap (λ o. o.file_id) (q ∙ sym p)))) (split other b)) (split one a);
      disconnected = λ one a d. ⊎_elim (λ p. s.disconnected one p d)
          (λ p. clash new.connected may.is_connected (ap (λ o. o.connected) (sym p) ∙ d)) (split one a);
      lawful = s.lawful;
      one_file = λ key one other a k b j. ⊎_elim
          (λ p. ⊎_elim
          (λ q. s.one_file key one other p k q j)
          (λ q. ap (λ o. o.file) q ∙ sym (may.is_at_home key one p (ap (λ o. has_key key o) (sym q) ∙ j) k)) (split other b))
          (λ p. ⊎_elim
          (λ q. may.is_at_home key other q (ap (λ o. has_key key o) (sym p) ∙ k) j ∙ sym (ap (λ o. o.file) p))
          (λ q. ap (λ o. o.file) (q ∙ sym p)) (split other b)) (split one a);
      no_open = λ key none. s.no_open key (has_none (has_key key) opens
          (λ one a. none_has (has_key key) one (opens ++ new ∷ []) none (among_before one opens (new ∷ []) a)));
      numbered = λ one a. ⊎_elim
          (λ p. let n = s.numbered one p in (n.0, omega (arith, n.1)))
          (λ p. let e : one.file_id ≡ last_id + 1 = ap (λ o. o.file_id) p
          ∙ id in (omega (arith, e), omega (arith, e))) (split one a);
      in_order = in_order-append opens new s.in_order last;
      timed_out = s.timed_out;
    }
