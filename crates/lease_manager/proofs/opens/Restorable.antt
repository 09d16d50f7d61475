-- Which kept opens may be restored, said of each two of them.
use Rattle.lease_laws.proofs.Words.{◌&&◌, ◌∙◌, ◌∷◌, ◌≡◌, ◌≢◌, ◌≤◌, Among, AreInOrder}
use Rattle.lease_laws.proofs.Words.{Key, Lease, List, Open, Rules, None, State, ℕ, ⊎_elim, [], ap, conflict, false}
use Rattle.lease_laws.proofs.Words.{granted_form_of}
use Rattle.lease_laws.proofs.Words.{has_key, inl, inr, is_breaking, key_eq, list_any, map, nat_le, no_lease, refl}
use Rattle.lease_laws.proofs.Words.{state_of, subst, sym, true}
use Rattle.lease_laws.specs.server.Laws.{IsLasting, IsLawful}
use Rattle.lease_laws.proofs.server.Keys.{key_eq-refl, key_eq-same}
use Rattle.lease_laws.proofs.server.Lists.{among_map, any_has, clash, either}
use Rattle.lease_manager.specs.Restarting.{MayBeRestored, key_kept, lease_held, lease_kept, open_kept}
use Rattle.lease_manager.specs.declared.values.kept.KeptOpen.{KeptOpen}

-- ---- leases of kept opens

pub has_is : (key : Key) (one : KeptOpen) → has_key key (open_kept one) ≡ key_eq key (key_kept one)
unfolding key_eq
has_is key one = refl

pub own_key_there : (one : KeptOpen) → has_key (key_kept one) (open_kept one) ≡ true
own_key_there one = has_is (key_kept one) one ∙ key_eq-refl (key_kept one)

pub key_is : (key : Key) (one : KeptOpen) → has_key key (open_kept one) ≡ true → key ≡ key_kept one
key_is key one has = key_eq-same key (key_kept one) (sym (has_is key one) ∙ has)

pub has_so : (key : Key) (one : KeptOpen) → key ≡ key_kept one → has_key key (open_kept one) ≡ true
has_so key one same = ap (λ k. has_key k (open_kept one)) same ∙ own_key_there one

pub none_kept : (key : Key) (kept : List KeptOpen) → list_any (has_key key) (map open_kept kept) ≡ false
    → lease_kept kept key ≡ no_lease
none_kept key [] none = refl
none_kept key (one ∷ kept) none = either (has_key key (open_kept one))
    (λ t. absurd (cc (rw t at none)))
    (λ t.
    let apart : key_eq key (key_kept one) ≡ false = sym (has_is key one) ∙ t in
    rw apart (none_kept key kept (rw t at none)))

abbrev pub Agree : List KeptOpen → Type 0
Agree kept = (one other : KeptOpen) → Among one kept → Among other kept → key_kept one ≡ key_kept other
    → state_of one.state ≡ state_of other.state

pub lease_is : (kept : List KeptOpen) → Agree kept → (one : KeptOpen) → Among one kept
    → lease_kept kept (key_kept one) ≡ lease_held one
lease_is [] agree one there = absurd there
lease_is (first ∷ kept) agree one there = either (key_eq (key_kept one) (key_kept first))
    (λ t. rw t (ap (λ (s : State). record { state = s; broken_to = None })
    (agree first one (inl refl) there (sym (key_eq-same (key_kept one) (key_kept first) t)))))
    (λ t. rw t (⊎_elim
    (λ same. clash (key_eq (key_kept one) (key_kept first))
    (ap (λ x. key_eq (key_kept one) (key_kept x)) (sym same) ∙ key_eq-refl (key_kept one)) t)
    (λ later. lease_is kept (λ x y a b. agree x y (inr a) (inr b)) one later) there))

pub unbroken : (kept : List KeptOpen) (key : Key) → is_breaking (lease_kept kept key) ≡ false
unbroken [] key = refl
unbroken (one ∷ kept) key = either (key_eq key (key_kept one)) (λ t. rw t refl) (λ t. rw t (unbroken kept key))

-- ---- each open, and each two

pub record IsLawfulAlone (files : ℕ) (last : ℕ) (one : KeptOpen) : Type 0 where
  pub id_low : 1 ≤ one.file_id.0
  pub id_high : one.file_id.0 ≤ last
  pub on_file : (nat_le 1 one.file.0 && nat_le one.file.0 files) ≡ true
  pub granted : granted_form_of (state_of one.state) ≡ state_of one.state
  pub handle : (state_of one.state).handle ≡ true

pub record AgreesWith (one : KeptOpen) (other : KeptOpen) : Type 0 where
  pub file : key_kept one ≡ key_kept other → other.file.0 ≡ one.file.0
  pub state : key_kept one ≡ key_kept other → state_of one.state ≡ state_of other.state
  pub free : other.file.0 ≡ one.file.0 → other.file_id.0 ≢ one.file_id.0
      → conflict one.access one.share other.access other.share ≡ false
  pub writer : other.file.0 ≡ one.file.0 → (state_of one.state).write ≡ true → key_kept one ≡ key_kept other

pub record AreLawful (files : ℕ) (last : ℕ) (kept : List KeptOpen) : Type 0 where
  pub each : (one : KeptOpen) → Among one kept → IsLawfulAlone files last one
  pub pairs : (one other : KeptOpen) → Among one kept → Among other kept → AgreesWith one other
  pub in_order : AreInOrder (map open_kept kept)

pub among_kept : (one : KeptOpen) (kept : List KeptOpen) → Among one kept → Among (open_kept one) (map open_kept kept)
among_kept one [] there = absurd there
among_kept one (first ∷ kept) (inl same) = inl (ap open_kept same)
among_kept one (first ∷ kept) (inr later) = inr (among_kept one kept later)

pub each_kept : (P : Open → Type 0) (kept : List KeptOpen) → ((x : KeptOpen) → Among x kept → P (open_kept x)) → (one : Open)
    → Among one (map open_kept kept) → P one
each_kept P kept all one there = let x = among_map open_kept one kept there in subst P (sym x.2) (all x.0 x.1)

-- ---- what may be restored is lawful

pub lawful_if : (rules : Rules) (files last : ℕ) (kept : List KeptOpen) → MayBeRestored rules files last kept
    → AreLawful files last kept
lawful_if rules files last kept may =
    let lease = lease_is kept may.agree in record {
      each = λ one there.
          let a = among_kept one kept there in
          let numbered = may.sound.numbered (open_kept one) a in
          let lasting = may.sound.disconnected (open_kept one) a refl in
          let key = key_is lasting.key one lasting.has_the_key in
          record {
            id_low = numbered.0;
            id_high = numbered.1;
            on_file = may.on_files one there;
            granted = (subst IsLawful (lease one there) (may.sound.lawful (key_kept one))).is_granted_form;
            handle = ap (λ (l : Lease). l.state.handle) (sym (ap (lease_kept kept) key ∙ lease one there))
                ∙ lasting.holds_handle;
          };
      pairs = λ one other a b.
          let x = among_kept one kept a in
          let y = among_kept other kept b in
          record {
            file = λ same. may.sound.one_file (key_kept one) (open_kept one) (open_kept other) x (own_key_there one) y
                (has_so (key_kept one) other same);
            state = may.agree one other a b;
            free = may.sound.no_conflict (open_kept one) (open_kept other) x y;
            writer = λ on write. key_is (key_kept one) other (may.sound.one_writer (key_kept one) (open_kept one)
                (open_kept other) (ap (λ (l : Lease). l.state.write) (lease one a) ∙ write) x (own_key_there one) y on);
          };
      in_order = may.sound.in_order;
    }

-- ---- what is lawful may be restored

no_lease_lawful : IsLawful no_lease
no_lease_lawful = record { is_granted_form = refl; is_broken_so = λ lowered is. absurd (cc is) }

lease_lawful : (one : KeptOpen) → granted_form_of (state_of one.state) ≡ state_of one.state → IsLawful (lease_held one)
lease_lawful one granted = record { is_granted_form = granted; is_broken_so = λ lowered is. absurd (cc is) }

pub restored_if : (rules : Rules) (files last : ℕ) (kept : List KeptOpen) → AreLawful files last kept
    → MayBeRestored rules files last kept
restored_if rules files last kept law =
    let agree : Agree kept = λ one other a b. (law.pairs one other a b).state in
    let lease = lease_is kept agree in record {
      sound = record {
        one_writer = λ key one other write a has b on. each_kept
            (λ o. has_key key o ≡ true → other.file ≡ o.file → has_key key other ≡ true) kept
            (λ x p own. each_kept (λ o. o.file ≡ x.file.0 → has_key key o ≡ true) kept
            (λ y q at.
            let key_x = key_is key x own in
            let writes : (state_of x.state).write ≡ true =
            ap (λ (l : Lease). l.state.write) (sym (ap (lease_kept kept) key_x ∙ lease x p)) ∙ write in
            has_so key y (key_x ∙ (law.pairs x y p q).writer at writes)) other b) one a has on;
        no_conflict = λ one other a b. each_kept
            (λ o. other.file ≡ o.file → other.file_id ≢ o.file_id → conflict o.access o.share other.access other.share ≡ false)
            kept
            (λ x p. each_kept
            (λ o. o.file ≡ x.file.0 → o.file_id ≢ x.file_id.0 → conflict x.access x.share o.access o.share ≡ false) kept
            (λ y q. (law.pairs x y p q).free) other b) one a;
        disconnected = λ one a away. each_kept (λ o. IsLasting (lease_kept kept) o) kept
            (λ x p. record {
              is_durable = refl;
              key = key_kept x;
              has_the_key = own_key_there x;
              holds_handle = ap (λ (l : Lease). l.state.handle) (lease x p) ∙ (law.each x p).handle;
              is_settled = unbroken kept (key_kept x);
            }) one a;
        lawful = λ key. either (list_any (has_key key) (map open_kept kept))
            (λ some.
            let found = any_has (has_key key) (map open_kept kept) some in
            let x = among_map open_kept found.0 kept found.1 in
            let key_x = key_is key x.0 (ap (has_key key) (sym x.2) ∙ found.2) in
            subst IsLawful (sym (ap (lease_kept kept) key_x ∙ lease x.0 x.1))
            (lease_lawful x.0 (law.each x.0 x.1).granted))
            (λ none. subst IsLawful (sym (none_kept key kept none)) no_lease_lawful);
        one_file = λ key one other a has b too. each_kept (λ o. has_key key o ≡ true → other.file ≡ o.file) kept
            (λ x p own. each_kept (λ o. has_key key o ≡ true → o.file ≡ x.file.0) kept
            (λ y q its. (law.pairs x y p q).file (sym (key_is key x own) ∙ key_is key y its)) other b too) one a has;
        no_open = λ key none. none_kept key kept none;
        numbered = λ one a. each_kept (λ o. (1 ≤ o.file_id) × (o.file_id ≤ last)) kept
            (λ x p. ((law.each x p).id_low, (law.each x p).id_high)) one a;
        in_order = law.in_order;
        timed_out = λ key out. absurd (cc out);
      };
      on_files = λ one a. (law.each one a).on_file;
      agree = agree;
    }
