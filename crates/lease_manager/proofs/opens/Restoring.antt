-- Opens that are restored one by one: which one is refused, and what the others make.
use Rattle.lease_laws.proofs.Words.{◌&&◌, ◌++◌, ◌+◌, ◌<◌, ◌==◌, ◌||◌, ◌∙◌, ◌∷◌, ◌≡◌, ◌≤◌, ◌⊎◌, Access, Among, AreInOrder}
use Rattle.lease_laws.proofs.Words.{Bool, Err, Ok, Result}
use Rattle.lease_laws.proofs.Words.{Decides-eqb, IsSound, Key, Lease, List, Open, Rules, Server, Share, Some, State, WaitsWell, ℕ}
use Rattle.lease_laws.proofs.Words.{⊎_elim, [], ap, ap₂, arith, conflict, conflicts_on, false, fun_ext, granted_form_of, has_key}
use Rattle.lease_laws.proofs.Words.{if◌then◌else◌, inl, inr, is_breaking, is_leased_elsewhere, is_other_on, is_state_within}
use Rattle.lease_laws.proofs.Words.{key_eq, list_any, map, nat_le, nat_lt, nat_tests, new_server_under, not, put_key, refl}
use Rattle.lease_laws.proofs.Words.{state_of}
use Rattle.lease_laws.proofs.Words.{allowed_by, drop, get_or, is_within, length, subst, sym, take, true, uses_of}
use Rattle.std.specs.Result.{IfErr, IsErrAnd}
use Rattle.std.proofs.lemmas.List.{drop_more, take-append-drop, take_more}
use Rattle.lease_laws.proofs.server.Keys.{key_eq-same}
use Rattle.lease_laws.proofs.server.Lists.{among_append, among_before, among_behind, among_map, and_both, and_parts, any_has}
use Rattle.lease_laws.proofs.server.Lists.{clash}
use Rattle.lease_laws.proofs.server.Lists.{either, has_any, has_none, none_has, not_parts, nothing_there, or_of_true}
use Rattle.manager_model.specs.Handling.{Manager, Tagged}
use Rattle.manager_model.specs.Hosting.{fresh_manager}
use Rattle.lease_manager.specs.Always.{IsManager}
use Rattle.lease_manager.specs.Filed.{disconnected_at, has_id}
use Rattle.lease_manager.specs.Kept.{opened_with}
use Rattle.lease_manager.specs.Restarting.{MayBeRestored, has_next_id, has_room_for, holds_the_same, is_lasting_state, key_kept}
use Rattle.lease_manager.specs.Restarting.{kept_manager, kept_server, lease_held, lease_kept, may_keep, open_here, open_kept}
use Rattle.lease_manager.specs.Restarting.{server_with, writes_alone}
use Rattle.lease_manager.specs.Table.{Table, manager_of, queue_at, server_of}
use Rattle.lease_manager.specs.Wishes.{is_wanted}
use Rattle.lease_manager.specs.declared.values.kept.KeptOpen.{KeptOpen}
use Rattle.lease_manager.specs.declared.values.want.Wish.TheVariants.{NoWrites}
use Rattle.lease_manager.proofs.opens.Restorable.{Agree, AgreesWith, AreLawful, IsLawfulAlone, among_kept, each_kept, has_so}
use Rattle.lease_manager.proofs.opens.Restorable.{key_is}
use Rattle.lease_manager.proofs.opens.Restorable.{lawful_if, lease_is, restored_if, unbroken}

-- the FileId is that of one of them, or none was given
abbrev pub IsHighest : ℕ → List KeptOpen → Type 0
IsHighest n kept = (n ≡ 0) ⊎ ((one : KeptOpen) × (Among one kept) × (one.file_id.0 ≡ n))

-- ---- what breaks no law is admitted

lower_id : (xs : List KeptOpen) (k : KeptOpen) (ys : List KeptOpen) (x : KeptOpen)
    → AreInOrder (map open_kept (xs ++ k ∷ ys)) → Among x xs → x.file_id.0 < k.file_id.0
lower_id [] k ys x order there = absurd there
lower_id (first ∷ xs) k ys x order (inl same) = subst (λ (y : KeptOpen). y.file_id.0 < k.file_id.0) (sym same)
    (order.0 (open_kept k) (among_kept k (xs ++ k ∷ ys) (among_behind k xs (k ∷ ys) (inl refl))))
lower_id (first ∷ xs) k ys x order (inr later) = lower_id xs k ys x order.1 later

off_and : (a b : Bool) → (a ≡ true → b ≡ false) → (a && b) ≡ false
off_and a b off = either a (λ t. rw t (off t)) (λ t. rw t refl)

next_true : (n id last : ℕ) → n < id → id ≤ last → (nat_lt n id && nat_le id last) ≡ true
next_true n id last low high = grind (arith, nat_tests, low, high)

lasting_true : (s : State) → granted_form_of s ≡ s → s.handle ≡ true → is_lasting_state s ≡ true
lasting_true s granted handle = either s.read
    (λ t. rw (t, handle) refl)
    (λ t. clash s.handle handle (sym (ap (λ (x : State). x.handle) (rw t at granted))))

within_self : (s : State) → (is_state_within s s && is_state_within s s) ≡ true
within_self s = grind arith

-- what is said of an open more and those before it, where they are all lawful
abbrev Around : ℕ → ℕ → List KeptOpen → KeptOpen → List KeptOpen → Type 0
Around files last xs k ys = AreLawful files last (xs ++ k ∷ ys)

there_k : (xs : List KeptOpen) (k : KeptOpen) (ys : List KeptOpen) → Among k (xs ++ k ∷ ys)
there_k xs k ys = among_behind k xs (k ∷ ys) (inl refl)

room_true : (rules : Rules) (files n last : ℕ) (xs : List KeptOpen) (k : KeptOpen) (ys : List KeptOpen)
    → Around files last xs k ys → has_room_for (kept_server rules files n xs) k ≡ true
room_true rules files n last xs k ys law =
    let pair : (x : KeptOpen) → Among x xs → AgreesWith k x =
    λ x a. law.pairs k x (there_k xs k ys) (among_before x xs (k ∷ ys) a) in
    and_both (not (is_leased_elsewhere (kept_server rules files n xs) (Some (key_kept k)) k.file.0)) _
    (ap not (has_none (λ (o : Open). has_key (key_kept k) o && not (o.file == k.file.0)) (map open_kept xs)
    (each_kept (λ o. (has_key (key_kept k) o && not (o.file == k.file.0)) ≡ false) xs
    (λ x a. off_and (has_key (key_kept k) (open_kept x)) (not (x.file.0 == k.file.0))
    (λ t. ap not ((Decides-eqb x.file.0 k.file.0).1 ((pair x a).file (key_is (key_kept k) x t))))))))
    (ap not (has_none (conflicts_on k.file.0 k.access k.share) (map open_kept xs)
    (each_kept (λ o. conflicts_on k.file.0 k.access k.share o ≡ false) xs
    (λ x a. off_and (x.file.0 == k.file.0) (conflict k.access k.share x.access x.share)
    (λ t. (pair x a).free ((Decides-eqb x.file.0 k.file.0).0 t)
    (λ same. let less = lower_id xs k ys x law.in_order a in omega (arith, less, same)))))))

agree_before : (files last : ℕ) (xs : List KeptOpen) (k : KeptOpen) (ys : List KeptOpen) → Around files last xs k ys → Agree xs
agree_before files last xs k ys law x y a b =
    (law.pairs x y (among_before x xs (k ∷ ys) a) (among_before y xs (k ∷ ys) b)).state

same_true : (rules : Rules) (files n last : ℕ) (xs : List KeptOpen) (k : KeptOpen) (ys : List KeptOpen)
    → Around files last xs k ys → holds_the_same (kept_server rules files n xs) k ≡ true
same_true rules files n last xs k ys law = either (list_any (has_key (key_kept k)) (map open_kept xs))
    (λ some.
    let found = any_has (has_key (key_kept k)) (map open_kept xs) some in
    let x = among_map open_kept found.0 xs found.1 in
    let key : key_kept k ≡ key_kept x.0 = key_is (key_kept k) x.0 (ap (has_key (key_kept k)) (sym x.2) ∙ found.2) in
    let lease : lease_kept xs (key_kept k) ≡ lease_held x.0 =
    ap (lease_kept xs) key ∙ lease_is xs (agree_before files last xs k ys law) x.0 x.1 in
    let state : (lease_kept xs (key_kept k)).state ≡ state_of k.state = ap (λ (l : Lease). l.state) lease
    ∙ sym ((law.pairs k x.0 (there_k xs k ys) (among_before x.0 xs (k ∷ ys) x.1)).state key) in
    or_of_true (not (list_any (has_key (key_kept k)) (map open_kept xs))) _
    (subst (λ s. (is_state_within s (state_of k.state) && is_state_within (state_of k.state) s) ≡ true) (sym state)
    (within_self (state_of k.state))))
    (λ none. rw none refl)

alone_true : (rules : Rules) (files n last : ℕ) (xs : List KeptOpen) (k : KeptOpen) (ys : List KeptOpen)
    → Around files last xs k ys → writes_alone (kept_server rules files n xs) k ≡ true
alone_true rules files n last xs k ys law =
    let server : Server = kept_server rules files n xs in
    let own = Some (key_kept k) in
    and_both (not ((state_of k.state).write && list_any (is_other_on own k.file.0) (map open_kept xs))) _
    (ap not (off_and (state_of k.state).write (list_any (is_other_on own k.file.0) (map open_kept xs))
    (λ write. has_none (is_other_on own k.file.0) (map open_kept xs)
    (each_kept (λ o. is_other_on own k.file.0 o ≡ false) xs
    (λ x a. off_and (x.file.0 == k.file.0) (not (has_key (key_kept k) (open_kept x)))
    (λ t. ap not (has_so (key_kept k) x ((law.pairs k x (there_k xs k ys) (among_before x xs (k ∷ ys) a)).writer
    ((Decides-eqb x.file.0 k.file.0).0 t) write))))))))
    (ap not (has_none (is_wanted NoWrites server own k.file.0) (map open_kept xs)
    (each_kept (λ o. is_wanted NoWrites server own k.file.0 o ≡ false) xs
    (λ x a.
    let lease = lease_is xs (agree_before files last xs k ys law) x a in
    apart (x.file.0 == k.file.0) (has_key (key_kept k) (open_kept x)) (lease_kept xs (key_kept x)).state.write
    (λ t write. has_so (key_kept k) x (sym ((law.pairs x k (among_before x xs (k ∷ ys) a) (there_k xs k ys)).writer
    (sym ((Decides-eqb x.file.0 k.file.0).0 t)) (ap (λ (l : Lease). l.state.write) (sym lease) ∙ write))))))))
  where
    apart : (a h w : Bool) → (a ≡ true → w ≡ true → h ≡ true) → ((a && not h) && w) ≡ false
    apart a h w his = either a
        (λ t. either w (λ u. rw (t, u, his t u) refl) (λ u. rw (t, u) (off h)))
        (λ t. rw t refl)
      where
        off : (h : Bool) → (not h && false) ≡ false
        off h = grind arith

all_true : (a b c d e f : Bool) → a ≡ true → b ≡ true → c ≡ true → d ≡ true → e ≡ true → f ≡ true
    → (a && b && c && d && e && f) ≡ true
all_true a b c d e f p q r s t u = rw (p, q, r, s, t, u) refl

fits : (rules : Rules) (files n last : ℕ) (xs : List KeptOpen) (k : KeptOpen) (ys : List KeptOpen)
    → Around files last xs k ys → IsHighest n xs → may_keep (kept_server rules files n xs) last k ≡ true
fits rules files n last xs k ys law highest =
    let server : Server = kept_server rules files n xs in
    let alone = law.each k (there_k xs k ys) in
    let low : n < k.file_id.0 = ⊎_elim
    (λ none. let one = alone.id_low in omega (arith, none, one))
    (λ some.
    let less = lower_id xs k ys some.0 law.in_order some.1 in
    let is = some.2 in
    omega (arith, less, is)) highest in
    all_true (has_next_id server last k) _ (is_lasting_state (state_of k.state)) (has_room_for server k)
    (holds_the_same server k) (writes_alone server k)
    (next_true n k.file_id.0 last low alone.id_high) alone.on_file
    (lasting_true (state_of k.state) alone.granted alone.handle) (room_true rules files n last xs k ys law)
    (same_true rules files n last xs k ys law) (alone_true rules files n last xs k ys law)

-- ---- what is admitted breaks no law

-- what an open more is to those before it
record Fits (files : ℕ) (n : ℕ) (last : ℕ) (xs : List KeptOpen) (k : KeptOpen) : Type 0 where
  next : n < k.file_id.0
  high : k.file_id.0 ≤ last
  on_file : (nat_le 1 k.file.0 && nat_le k.file.0 files) ≡ true
  lasts : is_lasting_state (state_of k.state) ≡ true
  home : (x : KeptOpen) → Among x xs → key_kept k ≡ key_kept x → x.file.0 ≡ k.file.0
  free : (x : KeptOpen) → Among x xs → x.file.0 ≡ k.file.0 → conflict k.access k.share x.access x.share ≡ false
  same : (x : KeptOpen) → Among x xs → key_kept k ≡ key_kept x → state_of k.state ≡ state_of x.state
  alone : (x : KeptOpen) → Among x xs → x.file.0 ≡ k.file.0 → (state_of k.state).write ≡ true → key_kept k ≡ key_kept x
  writer : (x : KeptOpen) → Among x xs → x.file.0 ≡ k.file.0 → (state_of x.state).write ≡ true → key_kept k ≡ key_kept x

next_is : (n id last : ℕ) → (nat_lt n id && nat_le id last) ≡ true → (n < id) × (id ≤ last)
next_is n id last is = (grind (arith, nat_tests, is), grind (arith, nat_tests, is))

stays : (a b : Bool) → a ≡ true → (a && not b) ≡ false → b ≡ true
stays a b e f = grind arith

fails : (a b : Bool) → a ≡ true → (a && b) ≡ false → b ≡ false
fails a b e f = grind arith

both_within : (a b : State) → (is_state_within a b && is_state_within b a) ≡ true → a ≡ b
both_within a b is = grind arith

or_not : (a b : Bool) → (not a || b) ≡ true → a ≡ true → b ≡ true
or_not a b e f = grind arith

has_its : (a h w : Bool) → ((a && not h) && w) ≡ false → a ≡ true → w ≡ true → h ≡ true
has_its a h w e f g = grind arith

fits_if : (rules : Rules) (files n last : ℕ) (xs : List KeptOpen) (k : KeptOpen) → AreLawful files n xs
    → may_keep (kept_server rules files n xs) last k ≡ true → Fits files n last xs k
fits_if rules files n last xs k law may =
    let server : Server = kept_server rules files n xs in
    let own = Some (key_kept k) in
    let p = and_parts _ (writes_alone server k) may in
    let q = and_parts _ (holds_the_same server k) p.0 in
    let r = and_parts _ (has_room_for server k) q.0 in
    let s = and_parts _ (is_lasting_state (state_of k.state)) r.0 in
    let t = and_parts (has_next_id server last k) _ s.0 in
    let next = next_is n k.file_id.0 last t.0 in
    let room = and_parts _ (not (list_any (conflicts_on k.file.0 k.access k.share) (map open_kept xs))) r.1 in
    let writes = and_parts _ (not (list_any (is_wanted NoWrites server own k.file.0) (map open_kept xs))) p.1 in
    let agree : Agree xs = λ x y a b. (law.pairs x y a b).state in
    record {
      next = next.0;
      high = next.1;
      on_file = t.1;
      lasts = s.1;
      home = λ x a same. (Decides-eqb x.file.0 k.file.0).0 (stays (has_key (key_kept k) (open_kept x)) (x.file.0 == k.file.0)
          (has_so (key_kept k) x same)
          (none_has (λ (o : Open). has_key (key_kept k) o && not (o.file == k.file.0)) (open_kept x) (map open_kept xs)
          (not_parts _ room.0) (among_kept x xs a)));
      free = λ x a at. fails (x.file.0 == k.file.0) (conflict k.access k.share x.access x.share)
          ((Decides-eqb x.file.0 k.file.0).1 at)
          (none_has (conflicts_on k.file.0 k.access k.share) (open_kept x) (map open_kept xs) (not_parts _ room.1)
          (among_kept x xs a));
      same = λ x a key.
          let both = or_not (list_any (has_key (key_kept k)) (map open_kept xs)) _ q.1
          (has_any (has_key (key_kept k)) (open_kept x) (map open_kept xs) (among_kept x xs a) (has_so (key_kept k) x key)) in
          sym (both_within (lease_kept xs (key_kept k)).state (state_of k.state) both)
          ∙ ap (λ (l : Lease). l.state) (ap (lease_kept xs) key ∙ lease_is xs agree x a);
      alone = λ x a at write. key_is (key_kept k) x (stays (x.file.0 == k.file.0) (has_key (key_kept k) (open_kept x))
          ((Decides-eqb x.file.0 k.file.0).1 at)
          (none_has (is_other_on own k.file.0) (open_kept x) (map open_kept xs)
          (fails (state_of k.state).write _ write (not_parts _ writes.0)) (among_kept x xs a)));
      writer = λ x a at write. key_is (key_kept k) x (has_its (x.file.0 == k.file.0) (has_key (key_kept k) (open_kept x))
          (lease_kept xs (key_kept x)).state.write
          (none_has (is_wanted NoWrites server own k.file.0) (open_kept x) (map open_kept xs) (not_parts _ writes.1)
          (among_kept x xs a)) ((Decides-eqb x.file.0 k.file.0).1 at)
          (ap (λ (l : Lease). l.state.write) (lease_is xs agree x a) ∙ write));
    }

last_or : (x : KeptOpen) (xs : List KeptOpen) (k : KeptOpen) → Among x (xs ++ k ∷ []) → Among x xs ⊎ (x ≡ k)
last_or x xs k there = ⊎_elim (λ a. inl a) (λ b. ⊎_elim (λ same. inr same) (λ never. absurd never) b)
    (among_append x xs (k ∷ []) there)

snoc_order : (xs : List KeptOpen) (k : KeptOpen) → AreInOrder (map open_kept xs)
    → ((x : KeptOpen) → Among x xs → x.file_id.0 < k.file_id.0) → AreInOrder (map open_kept (xs ++ k ∷ []))
snoc_order [] k order below = (λ other a. absurd a, tt)
snoc_order (first ∷ xs) k order below = (
  each_kept (λ o. first.file_id.0 < o.file_id) (xs ++ k ∷ []) (λ x a. ⊎_elim
      (λ old. order.0 (open_kept x) (among_kept x xs old))
      (λ new. subst (λ (y : KeptOpen). first.file_id.0 < y.file_id.0) (sym new) (below first (inl refl)))
      (last_or x xs k a)),
  snoc_order xs k order.1 (λ x a. below x (inr a)),
)

conflict_both : (a b : Access) (s t : Share) → conflict a s b t ≡ conflict b t a s
conflict_both a b s t = or_both (not (is_within (uses_of a) (allowed_by t))) (not (is_within (uses_of b) (allowed_by s)))
  where
    or_both : (x y : Bool) → (x || y) ≡ (y || x)
    or_both x y = grind arith

raised : (files n m : ℕ) (x : KeptOpen) → n ≤ m → IsLawfulAlone files n x → IsLawfulAlone files m x
raised files n m x less alone = record {
  id_low = alone.id_low;
  id_high = let high = alone.id_high in omega (arith, high, less);
  on_file = alone.on_file;
  granted = alone.granted;
  handle = alone.handle;
}

pub all_raised : (files n m : ℕ) (xs : List KeptOpen) → n ≤ m → AreLawful files n xs → AreLawful files m xs
all_raised files n m xs less law = record {
  each = λ x a. raised files n m x less (law.each x a);
  pairs = law.pairs;
  in_order = law.in_order;
}

snoc_lawful : (files n last : ℕ) (xs : List KeptOpen) (k : KeptOpen) → AreLawful files n xs → Fits files n last xs k
    → AreLawful files k.file_id.0 (xs ++ k ∷ [])
snoc_lawful files n last xs k law fit =
    let lasts = and_parts (state_of k.state).read (state_of k.state).handle fit.lasts in
    let itself : IsLawfulAlone files k.file_id.0 k = record {
      id_low = let next = fit.next in omega (arith, next);
      id_high = omega arith;
      on_file = fit.on_file;
      granted = rw lasts.0 refl;
      handle = lasts.1;
    } in
    let with_itself : AgreesWith k k = record {
      file = λ same. refl;
      state = λ same. refl;
      free = λ at apart. absurd (apart refl);
      writer = λ at write. refl;
    } in
    let before : (x : KeptOpen) → Among x xs → AgreesWith x k = λ x a. record {
      file = λ same. sym (fit.home x a (sym same));
      state = λ same. sym (fit.same x a (sym same));
      free = λ at apart. conflict_both x.access k.access x.share k.share ∙ fit.free x a (sym at);
      writer = λ at write. sym (fit.writer x a (sym at) write);
    } in
    let behind : (x : KeptOpen) → Among x xs → AgreesWith k x = λ x a. record {
      file = λ same. fit.home x a same;
      state = λ same. fit.same x a same;
      free = λ at apart. fit.free x a at;
      writer = λ at write. fit.alone x a at write;
    } in
    record {
      each = λ x a. ⊎_elim
          (λ old. raised files n k.file_id.0 x (let next = fit.next in omega (arith, next)) (law.each x old))
          (λ new. subst (λ y. IsLawfulAlone files k.file_id.0 y) (sym new) itself) (last_or x xs k a);
      pairs = λ x y a b. ⊎_elim
          (λ old. ⊎_elim
          (λ older. law.pairs x y old older)
          (λ new. subst (λ z. AgreesWith x z) (sym new) (before x old)) (last_or y xs k b))
          (λ new. subst (λ z. AgreesWith z y) (sym new) (⊎_elim
          (λ old. behind y old)
          (λ newer. subst (λ z. AgreesWith k z) (sym newer) with_itself) (last_or y xs k b))) (last_or x xs k a);
      in_order = snoc_order xs k law.in_order
          (λ x a. let high = (law.each x a).id_high in let next = fit.next in omega (arith, high, next));
    }

-- ---- what the server becomes

opens_with : (xs : List KeptOpen) (k : KeptOpen)
    → map (disconnected_at k.file_id.0) (map open_kept xs ++ open_here k ∷ []) ≡ map open_kept (xs ++ k ∷ [])
opens_with [] k = rw ((Decides-eqb k.file_id.0 k.file_id.0).1 refl) refl
opens_with (x ∷ xs) k = ap₂ (λ o l. o ∷ l)
    (either (has_id k.file_id.0 (open_kept x)) (λ t. rw t refl) (λ t. rw t refl)) (opens_with xs k)

lease_more : (xs : List KeptOpen) (k : KeptOpen) (key : Key) → key_eq key (key_kept k) ≡ false
    → lease_kept (xs ++ k ∷ []) key ≡ lease_kept xs key
lease_more [] k key apart = rw apart refl
lease_more (x ∷ xs) k key apart = ap (λ l. if key_eq key (key_kept x) then lease_held x else l) (lease_more xs k key apart)

leases_with : (xs : List KeptOpen) (k : KeptOpen) → Agree (xs ++ k ∷ []) → (key : Key)
    → put_key (lease_kept xs) (key_kept k) (lease_held k) key ≡ lease_kept (xs ++ k ∷ []) key
unfolding put_key
leases_with xs k agree key = either (key_eq key (key_kept k))
    (λ t. rw t (sym (ap (lease_kept (xs ++ k ∷ [])) (key_eq-same key (key_kept k) t)
    ∙ lease_is (xs ++ k ∷ []) agree k (there_k xs k []))))
    (λ t. rw t (sym (lease_more xs k key t)))

abbrev built : Rules → ℕ → ℕ → List Open → (Key → Lease) → Server
built rules files last opens leases = record (kept_server rules files last []) { opens = opens; leases = leases }

server_is : (rules : Rules) (files n : ℕ) (xs : List KeptOpen) (k : KeptOpen) → Agree (xs ++ k ∷ [])
    → server_with (kept_server rules files n xs) k ≡ kept_server rules files k.file_id.0 (xs ++ k ∷ [])
server_is rules files n xs k agree = ap₂ (built rules files k.file_id.0) (opens_with xs k) (fun_ext (leases_with xs k agree))

pub unbroken_with : (old new : Server) (k : KeptOpen) (one : Open) (lease : Lease) → one ≡ open_here k → lease ≡ lease_held k
    → new ≡ opened_with old one lease → ((key : Key) → is_breaking (old.leases key) ≡ false) → (key : Key)
    → is_breaking (new.leases key) ≡ false
unfolding put_key
unbroken_with old new k one lease its held is none key =
    ap (λ (s : Server). is_breaking (s.leases key)) (is ∙ ap₂ (opened_with old) its held)
    ∙ either (key_eq key (key_kept k)) (λ t. rw t refl) (λ t. rw t (none key))

-- ---- the opens so far

-- The tables are the manager of the opens so far, which break no law.
pub record IsSoFar (rules : Rules) (files : ℕ) (last : ℕ) (table : Table) (kept : List KeptOpen) : Type 0 where
  pub manager : manager_of table ≡ kept_manager rules files table.last_id kept
  pub law : AreLawful files table.last_id kept
  pub within : table.last_id ≤ last
  pub highest : IsHighest table.last_id kept

abbrev manager_by : Server → (ℕ → List Tagged) → Manager
manager_by server queues = record { server = server; queues = queues }

server_so : (rules : Rules) (files last : ℕ) (table : Table) (kept : List KeptOpen) → IsSoFar rules files last table kept
    → server_of table ≡ kept_server rules files table.last_id kept
server_so rules files last table kept so = ap (λ (m : Manager). m.server) so.manager

pub unbroken_so : (rules : Rules) (files last : ℕ) (table : Table) (kept : List KeptOpen)
    → IsSoFar rules files last table kept → (key : Key) → is_breaking ((server_of table).leases key) ≡ false
unbroken_so rules files last table kept so key =
    ap (λ (s : Server). is_breaking (s.leases key)) (server_so rules files last table kept so) ∙ unbroken kept key

pub none_so_far : (rules : Rules) (files last : ℕ) (table : Table) → manager_of table ≡ fresh_manager rules files
    → IsSoFar rules files last table []
unfolding new_server_under
none_so_far rules files last table is =
    let none : table.last_id ≡ 0 = ap (λ (m : Manager). m.server.last_id) is in
    record {
      manager = is ∙ ap (λ n. kept_manager rules files n []) (sym none);
      law = record { each = λ x a. absurd a; pairs = λ x y a b. absurd a; in_order = tt };
      within = omega (arith, none);
      highest = inl none;
    }

pub one_more : (rules : Rules) (files last : ℕ) (old new : Table) (xs : List KeptOpen) (k : KeptOpen)
    → IsSoFar rules files last old xs → may_keep (server_of old) last k ≡ true
    → server_of new ≡ server_with (server_of old) k → new.queues ≡ old.queues → IsSoFar rules files last new (xs ++ k ∷ [])
one_more rules files last old new xs k so may made same =
    let server = server_so rules files last old xs so in
    let fit = fits_if rules files old.last_id last xs k so.law (ap (λ s. may_keep s last k) (sym server) ∙ may) in
    let law = snoc_lawful files old.last_id last xs k so.law fit in
    let agree : Agree (xs ++ k ∷ []) = λ x y a b. (law.pairs x y a b).state in
    let id : new.last_id ≡ k.file_id.0 = ap (λ (s : Server). s.last_id) made in
    let is : server_of new ≡ kept_server rules files k.file_id.0 (xs ++ k ∷ []) =
    made ∙ (ap (λ s. server_with s k) server ∙ server_is rules files old.last_id xs k agree) in
    let queues : queue_at new.queues ≡ (λ file. []) =
    ap queue_at same ∙ ap (λ (m : Manager). m.queues) so.manager in
    record {
      manager = ap₂ manager_by is queues ∙ ap (λ n. kept_manager rules files n (xs ++ k ∷ [])) (sym id);
      law = subst (λ n. AreLawful files n (xs ++ k ∷ [])) (sym id) law;
      within = subst (λ n. n ≤ last) (sym id) fit.high;
      highest = inr (k, there_k xs k [], sym id);
    }

pub refused_so : (rules : Rules) (files last : ℕ) (table : Table) (xs : List KeptOpen) (k : KeptOpen) (ys : List KeptOpen)
    → IsSoFar rules files last table xs → may_keep (server_of table) last k ≡ false
    → MayBeRestored rules files last (xs ++ k ∷ ys) → ⊥
refused_so rules files last table xs k ys so not_kept may =
    clash (may_keep (server_of table) last k)
    (ap (λ s. may_keep s last k) (server_so rules files last table xs so)
    ∙ fits rules files table.last_id last xs k ys (lawful_if rules files last (xs ++ k ∷ ys) may) so.highest) not_kept

pub more_so_far : (rules : Rules) (files last : ℕ) (old new : Table) (kept : List KeptOpen) (i : ℕ) (d : KeptOpen)
    → i < length kept → IsSoFar rules files last old (take i kept)
    → may_keep (server_of old) last (get_or kept i d) ≡ true
    → server_of new ≡ server_with (server_of old) (get_or kept i d) → new.queues ≡ old.queues
    → IsSoFar rules files last new (take (i + 1) kept)
more_so_far rules files last old new kept i d inside so may made same =
    subst (λ xs. IsSoFar rules files last new xs) (sym (take_more kept i d inside))
    (one_more rules files last old new (take i kept) (get_or kept i d) so may made same)

pub refused_at : (rules : Rules) (files last : ℕ) (table : Table) (kept : List KeptOpen) (i : ℕ) (d : KeptOpen)
    → i < length kept → IsSoFar rules files last table (take i kept)
    → may_keep (server_of table) last (get_or kept i d) ≡ false → MayBeRestored rules files last kept → ⊥
refused_at rules files last table kept i d inside so not_kept may =
    refused_so rules files last table (take i kept) (get_or kept i d) (drop (i + 1) kept) so not_kept
    (subst (λ xs. MayBeRestored rules files last xs)
    (sym (take-append-drop i kept) ∙ ap (λ l. take i kept ++ l) (drop_more kept i d inside)) may)

pub err_so : {T E : Type 0} (P Q : E → Type 0) (r : Result T E) → IsErrAnd r P → ((e : E) → P e → Q e) → IfErr r Q
err_so P Q (Ok x) is so = tt
err_so P Q (Err e) is so = so e is

-- ---- all of them

pub may_all : (rules : Rules) (files last : ℕ) (table : Table) (kept : List KeptOpen) → IsSoFar rules files last table kept
    → MayBeRestored rules files last kept
may_all rules files last table kept so =
    restored_if rules files last kept (all_raised files table.last_id last kept so.within so.law)

pub all_made : (rules : Rules) (files last : ℕ) (old new : Table) (kept : List KeptOpen) → IsSoFar rules files last old kept
    → server_of new ≡ record (server_of old) { last_id = last } → new.queues ≡ old.queues
    → manager_of new ≡ kept_manager rules files last kept
all_made rules files last old new kept so made same =
    ap₂ manager_by (made ∙ ap (λ (s : Server). record s { last_id = last }) (server_so rules files last old kept so))
    (ap queue_at same ∙ ap (λ (m : Manager). m.queues) so.manager)

kept_waits : (rules : Rules) (files last : ℕ) (kept : List KeptOpen) → MayBeRestored rules files last kept
    → WaitsWell (kept_server rules files last kept)
kept_waits rules files last kept may = record {
  is_orderly = record {
    opens_up = λ one there up. each_kept (λ o. o.connected ≡ true → false ≡ true) kept (λ x a is. is) one there up;
    open_files = λ one there. each_kept (λ o. (nat_le 1 o.file && nat_le o.file files) ≡ true) kept (λ x a. may.on_files x a)
        one there;
    held_up = λ file one there. absurd there;
    held_files = λ file one there. absurd there;
    held_about = λ file one there. absurd there;
  };
  all_wait = λ file before one behind split first. absurd (nothing_there before one behind split);
}

pub is_manager : (rules : Rules) (files last : ℕ) (table : Table) (kept : List KeptOpen) → MayBeRestored rules files last kept
    → manager_of table ≡ kept_manager rules files last kept → IsManager table
is_manager rules files last table kept may is =
    let server : server_of table ≡ kept_server rules files last kept = ap (λ (m : Manager). m.server) is in record {
      sound = subst IsSound (sym server) may.sound;
      waits = subst WaitsWell (sym server) (kept_waits rules files last kept may);
    }
