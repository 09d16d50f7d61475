-- How lease records follow the list of opens.
use Rattle.lease_laws.proofs.Words.{◌&&◌, ◌<◌, ◌==◌, ◌^◌, ◌||◌, ◌∙◌, ◌∷◌, ◌≡◌, Bool, Decides-eqb, Key, List, None, Open}
use Rattle.lease_laws.proofs.Words.{Option, Some, Updates, ℕ, [], ap, arith, false, get, has_key, if◌then◌else◌, key_eq}
use Rattle.lease_laws.proofs.Words.{key_of_open, length, list_any, nat_tests, no_lease, not, refl, subst, sym, true, true≢false}
use Rattle.lease_manager.specs.declared.values.number.FileNo.{FileNo}
use Rattle.std.proofs.Common.{nat_eq}
use Rattle.std.specs.BTreeMap.{BTreeMap}
use Rattle.lease_model.specs.server.State as model
use Rattle.lease_laws.proofs.server.Keys.{key_eq-same, key_eq-refl}
use Rattle.lease_manager.proofs.sums.Ordering.{order_eq-back, has_key_own, has_key_none}
use Rattle.lease_manager.specs.KeyOrder.{key_order}
use Rattle.lease_manager.specs.Leases.{lease_of}
use Rattle.lease_manager.specs.Looks.{is_elsewhere}
use Rattle.lease_manager.specs.Summaries.{IsOneMore, IsRecord, RecordFits, tally_in, lease_or_none, has_key_on, IsKeyChanged}
use Rattle.lease_manager.specs.Summaries.{AreLeft}
use Rattle.lease_manager.specs.Tallies.{tally_of, tally_raised, tally_lowered}
use Rattle.lease_manager.specs.declared.values.lease.HeldLease.{HeldLease}
use Rattle.lease_manager.specs.declared.tables.summaries.LeaseRecord.{LeaseRecord}
use Rattle.lease_manager.specs.declared.tables.tally.Tally.{Tally}
use Rattle.lease_manager.proofs.sums.Tallies.{any_counted, none_tallied}
use Rattle.lease_manager.proofs.sums.Summing.{anys, raise_tally, lower_tally, keep_tally, on_itself}

tally_known : (key : Key) (opens : List Open) (known : Option LeaseRecord) → RecordFits key opens known
    → tally_in known ≡ tally_of (has_key key) opens
tally_known key opens None fits = none_tallied (has_key key) opens fits
tally_known key opens (Some known) fits = fits.tally

pub record_gains : (key : Key) (one : Open) (lease : HeldLease) (before : Option LeaseRecord) (less more : List Open)
    → IsOneMore one less more → length more < 2 ^ 64 → has_key key one ≡ true
    → list_any (is_elsewhere key one.file) less ≡ false → RecordFits key less before → IsRecord key more
    (record { file = record { 0 = one.file }; lease = lease; tally = tally_raised one (tally_in before) })
record_gains key one lease before less more m short has home fits = record {
  tally = ap (tally_raised one) (tally_known key less before fits) ∙ raise_tally (has_key key) one less more m short has;
  is_used = let e = anys (has_key key) one less more m in grind (arith, e, has);
  one_file =
      let e = anys (is_elsewhere key one.file) one less more m in
      let here = on_itself one.file in
      grind (arith, e, has, here, home);
}

-- of a key that the open doesn't have
pub record_apart : (key : Key) (one : Open) (known : Option LeaseRecord) (less more : List Open)
    → IsOneMore one less more → has_key key one ≡ false → RecordFits key less known → RecordFits key more known
record_apart key one None less more m not_its fits =
    let e = anys (has_key key) one less more m in grind (arith, e, not_its, fits)
record_apart key one (Some known) less more m not_its fits = record {
  tally = fits.tally ∙ keep_tally (has_key key) one less more m not_its;
  is_used = let e = anys (has_key key) one less more m in let u = fits.is_used in grind (arith, e, not_its, u);
  one_file =
      let e = anys (is_elsewhere key known.file.0) one less more m in
      let u = fits.one_file in
      grind (arith, e, not_its, u);
}

pub record_stays : (key : Key) (one : Open) (known : Option LeaseRecord) (less more : List Open)
    → IsOneMore one less more → has_key key one ≡ false → RecordFits key more known → RecordFits key less known
record_stays key one None less more m not_its fits =
    let e = anys (has_key key) one less more m in grind (arith, e, not_its, fits)
record_stays key one (Some known) less more m not_its fits = record {
  tally = fits.tally ∙ sym (keep_tally (has_key key) one less more m not_its);
  is_used = let e = anys (has_key key) one less more m in let u = fits.is_used in grind (arith, e, not_its, u);
  one_file =
      let e = anys (is_elsewhere key known.file.0) one less more m in
      let u = fits.one_file in
      grind (arith, e, not_its, u);
}

-- whether an open of the key is left
used_by_count : (key : Key) (opens : List Open) (tally : Tally) → tally ≡ tally_of (has_key key) opens
    → list_any (has_key key) opens ≡ not (nat_eq tally.opens 0)
used_by_count key opens tally is =
    let e = any_counted (has_key key) opens in
    let c = ap (λ (t : Tally). t.opens) is in
    grind (arith, nat_tests, e, c)

pub last_lost : (key : Key) (one : Open) (known : LeaseRecord) (less more : List Open)
    → IsOneMore one less more → has_key key one ≡ true → IsRecord key more known
    → list_any (has_key key) less ≡ not (nat_eq (tally_lowered one known.tally).opens 0)
last_lost key one known less more m has fits = used_by_count key less (tally_lowered one known.tally)
    (ap (tally_lowered one) fits.tally ∙ lower_tally (has_key key) one less more m has)

pub record_loses : (key : Key) (one : Open) (known : LeaseRecord) (less more : List Open)
    → IsOneMore one less more → has_key key one ≡ true → IsRecord key more known → list_any (has_key key) less ≡ true
    → IsRecord key less (record known { tally = tally_lowered one known.tally })
record_loses key one known less more m has fits some = record {
  tally = ap (tally_lowered one) fits.tally ∙ lower_tally (has_key key) one less more m has;
  is_used = some;
  one_file =
      let e = anys (is_elsewhere key known.file.0) one less more m in
      let u = fits.one_file in
      grind (arith, e, u);
}

-- ---- the map of records

pub key_changed : (before after : BTreeMap Key LeaseRecord) (key : Key) (known : Option LeaseRecord)
    → Updates key_order before after key known → IsKeyChanged key (get key_order before) (get key_order after) known
key_changed before after key known updates = record {
  there = updates.1;
  apart = λ other e. updates.2 other (order_eq-back key other ∙ e);
}

at_key : (P : Key → Type 0) (key : Key) → P key → ((other : Key) → key_eq other key ≡ false → P other) → (other : Key) → P other
at_key P key there apart other = by_case (key_eq other key) refl
  where
    by_case : (b : Bool) → key_eq other key ≡ b → P other
    by_case true e = subst P (sym (key_eq-same other key e)) there
    by_case false e = apart other e

pub own_has : (one : Open) (key : Key) → key_of_open one ≡ Some key → has_key key one ≡ true
own_has one key own = has_key_own one key key own ∙ key_eq-refl key

pub records_gain : (key : Key) (one : Open) (lease : HeldLease) (before after : Key → Option LeaseRecord) (less more : List Open)
    → key_of_open one ≡ Some key → IsOneMore one less more → length more < 2 ^ 64
    → list_any (is_elsewhere key one.file) less ≡ false → IsKeyChanged key before after (Some (record {
      file = record { 0 = one.file };
      lease = lease;
      tally = tally_raised one (tally_in (before key));
    })) → ((other : Key) → RecordFits other less (before other)) → (other : Key) → RecordFits other more (after other)
records_gain key one lease before after less more own m short home changed fits =
    at_key (λ other. RecordFits other more (after other)) key (subst (RecordFits key more) (sym changed.there)
    (record_gains key one lease (before key) less more m short (own_has one key own) home (fits key)))
    (λ other e. subst (RecordFits other more) (sym (changed.apart other e))
    (record_apart other one (before other) less more m (has_key_own one key other own ∙ e) (fits other)))

pub records_keyless : (one : Open) (known : Key → Option LeaseRecord) (less more : List Open)
    → key_of_open one ≡ None → IsOneMore one less more
    → ((other : Key) → RecordFits other less (known other)) → (other : Key) → RecordFits other more (known other)
records_keyless one known less more own m fits =
    λ other. record_apart other one (known other) less more m (has_key_none one other own) (fits other)

pub records_stay : (one : Open) (known : Key → Option LeaseRecord) (less more : List Open)
    → key_of_open one ≡ None → IsOneMore one less more
    → ((other : Key) → RecordFits other more (known other)) → (other : Key) → RecordFits other less (known other)
records_stay one known less more own m fits =
    λ other. record_stays other one (known other) less more m (has_key_none one other own) (fits other)

pub records_lose : (key : Key) (one : Open) (known : LeaseRecord) (before after : Key → Option LeaseRecord)
    (less more : List Open) → key_of_open one ≡ Some key → IsOneMore one less more → before key ≡ Some known
    → IsKeyChanged key before after (Some (record known { tally = tally_lowered one known.tally }))
    → nat_eq (tally_lowered one known.tally).opens 0 ≡ false
    → ((other : Key) → RecordFits other more (before other)) → (other : Key) → RecordFits other less (after other)
records_lose key one known before after less more own m was changed some fits =
    let record_there = subst (RecordFits key more) was (fits key) in
    at_key (λ other. RecordFits other less (after other)) key (subst (RecordFits key less) (sym changed.there)
    (record_loses key one known less more m (own_has one key own) record_there
    (last_lost key one known less more m (own_has one key own) record_there ∙ ap not some)))
    (λ other e. subst (RecordFits other less) (sym (changed.apart other e))
    (record_stays other one (before other) less more m (has_key_own one key other own ∙ e) (fits other)))

pub records_end : (key : Key) (one : Open) (known : LeaseRecord) (before after : Key → Option LeaseRecord) (less more : List Open)
    → key_of_open one ≡ Some key → IsOneMore one less more → before key ≡ Some known → IsKeyChanged key before after None
    → nat_eq (tally_lowered one known.tally).opens 0 ≡ true
    → ((other : Key) → RecordFits other more (before other)) → (other : Key) → RecordFits other less (after other)
records_end key one known before after less more own m was changed none fits =
    let record_there = subst (RecordFits key more) was (fits key) in
    at_key (λ other. RecordFits other less (after other)) key (subst (RecordFits key less) (sym changed.there)
    (last_lost key one known less more m (own_has one key own) record_there ∙ ap not none))
    (λ other e. subst (RecordFits other less) (sym (changed.apart other e))
    (record_stays other one (before other) less more m (has_key_own one key other own ∙ e) (fits other)))

pub never_missing : (key : Key) (one : Open) (known : Option LeaseRecord) (less more : List Open)
    → key_of_open one ≡ Some key → IsOneMore one less more → known ≡ None → RecordFits key more known → ⊥
never_missing key one known less more own m none fits =
    let unused : list_any (has_key key) more ≡ false = subst (RecordFits key more) none fits in
    let e = anys (has_key key) one less more m in
    let has = own_has one key own in
    true≢false (sym (rw (has, unused) at e))

pub changed_twice : (key : Key) (before during after : Key → Option LeaseRecord) (known other : Option LeaseRecord)
    → IsKeyChanged key before during known → IsKeyChanged key during after other → IsKeyChanged key before after other
changed_twice key before during after known other first second = grind arith

-- ---- the leases of the records

pub leases_kept : (key : Key) (known : LeaseRecord) (tally : Tally) (before after : Key → Option LeaseRecord)
    → before key ≡ Some known → IsKeyChanged key before after (Some (record known { tally = tally }))
    → (other : Key) → lease_or_none (after other) ≡ lease_or_none (before other)
leases_kept key known tally before after was changed =
    at_key (λ other. lease_or_none (after other) ≡ lease_or_none (before other)) key
    (ap lease_or_none changed.there ∙ sym (ap lease_or_none was))
    (λ other e. ap lease_or_none (changed.apart other e))

pub lease_gone : (key : Key) (before after : Key → Option LeaseRecord) → IsKeyChanged key before after None
    → (other : Key) → lease_or_none (after other) ≡ (if key_eq other key && true then no_lease else lease_or_none (before other))
lease_gone key before after changed =
    at_key (λ other. lease_or_none (after other) ≡ (if key_eq other key && true then no_lease else lease_or_none (before other)))
    key (rw (changed.there, key_eq-refl key) refl)
    (λ other e. rw (changed.apart other e, e) refl)

pub lease_missing : (key : Key) (known : Key → Option LeaseRecord) → known key ≡ None
    → (other : Key) → lease_or_none (known other) ≡ (if key_eq other key && true then no_lease else lease_or_none (known other))
lease_missing key known none =
    at_key (λ other. lease_or_none (known other) ≡ (if key_eq other key && true then no_lease else lease_or_none (known other)))
    key (rw (none, key_eq-refl key) refl)
    (λ other e. rw e refl)

pub lease_put : (key : Key) (lease : HeldLease) (file : FileNo) (tally : Tally) (before after : Key → Option LeaseRecord)
    → IsKeyChanged key before after (Some (record { file = file; lease = lease; tally = tally }))
    → (other : Key) → lease_or_none (after other) ≡ (if key_eq other key then lease_of lease else lease_or_none (before other))
lease_put key lease file tally before after changed =
    at_key (λ other. lease_or_none (after other) ≡ (if key_eq other key then lease_of lease else lease_or_none (before other)))
    key (rw (changed.there, key_eq-refl key) refl)
    (λ other e. rw (changed.apart other e, e) refl)

-- a record that was written in its place, with other counts
pub tally_changed : (before after : BTreeMap Key LeaseRecord) (key : Key) (known : LeaseRecord) (tally is : Tally)
    → tally ≡ is → Updates key_order before after key (Some (record known { tally = tally }))
    → IsKeyChanged key (get key_order before) (get key_order after) (Some (record known { tally = is }))
tally_changed before after key known tally is same updates =
    subst (λ t. IsKeyChanged key (get key_order before) (get key_order after) (Some (record known { tally = t }))) same
    (key_changed before after key _ updates)

pub and_no : (b : Bool) → (b && false) ≡ false
and_no b = grind arith

-- ---- the file of a key

pub on_file_alike : (key : Key) (file : ℕ) (opens : List Open) → list_any (is_elsewhere key file) opens ≡ false
    → list_any (has_key_on file key) opens ≡ list_any (has_key key) opens
on_file_alike key file [] home = refl
on_file_alike key file (one ∷ opens) home = let e = on_file_alike key file opens in grind (arith, e, home)

home_at : (has here : Bool) (rest : Bool) (all : Bool) → all ≡ ((has && not here) || rest) → all ≡ false → has ≡ true
    → (here ≡ true) × (rest ≡ false)
home_at has here rest all e none its = (grind (arith, e, none, its), grind (arith, e, none, its))

pub home_of : (key : Key) (one : Open) (known : Option LeaseRecord) (less more : List Open)
    → IsOneMore one less more → has_key key one ≡ true → RecordFits key more known
    → list_any (is_elsewhere key one.file) less ≡ false
home_of key one None less more m has fits =
    let e = anys (has_key key) one less more m in
    absurd (true≢false (sym (rw (has, fits) at e)))
home_of key one (Some known) less more m has fits =
    let e = anys (is_elsewhere key known.file.0) one less more m in
    let both = home_at (has_key key one) (one.file == known.file.0) _ _ e fits.one_file has in
    subst (λ n. list_any (is_elsewhere key n) less ≡ false) (sym ((Decides-eqb one.file known.file.0).0 both.0)) both.1

pub lease_unused : (key : Key) (opens : List Open) (known : Option LeaseRecord) → RecordFits key opens known
    → list_any (has_key key) opens ≡ false → lease_or_none known ≡ no_lease
lease_unused key opens known fits unused = grind arith

pub last_is : (key : Key) (one : Open) (known : LeaseRecord) (before : Key → Option LeaseRecord) (less more : List Open)
    (b : Bool) → key_of_open one ≡ Some key → IsOneMore one less more → before key ≡ Some known
    → nat_eq (tally_lowered one known.tally).opens 0 ≡ b
    → ((other : Key) → RecordFits other more (before other)) → list_any (has_key key) less ≡ not b
last_is key one known before less more b own m was is fits =
    last_lost key one known less more m (own_has one key own) (subst (RecordFits key more) was (fits key)) ∙ ap not is

pub records_put : (key : Key) (known : LeaseRecord) (lease : HeldLease) (before after : Key → Option LeaseRecord)
    (opens : List Open)
    → before key ≡ Some known → IsKeyChanged key before after (Some (record known { lease = lease }))
    → ((other : Key) → RecordFits other opens (before other)) → (other : Key) → RecordFits other opens (after other)
records_put key known lease before after opens was changed fits =
    let there = subst (RecordFits key opens) was (fits key) in
    at_key (λ other. RecordFits other opens (after other)) key (subst (RecordFits key opens) (sym changed.there)
    (record { tally = there.tally; is_used = there.is_used; one_file = there.one_file }))
    (λ other e. subst (RecordFits other opens) (sym (changed.apart other e)) (fits other))

pub lease_left : (key : Key) (one : Open) (last : Bool) (before after : Key → Option LeaseRecord) (less more : List Open)
    → key_of_open one ≡ Some key → IsOneMore one less more → list_any (has_key key) less ≡ not last
    → ((other : Key) → lease_or_none (after other)
    ≡ (if key_eq other key && last then no_lease else lease_or_none (before other)))
    → ((other : Key) → RecordFits other more (before other)) → (other : Key) → lease_or_none (after other)
    ≡ (if list_any (has_key other) less then lease_or_none (before other) else no_lease)
lease_left key one last before after less more own m left now fits = at_key (λ other. lease_or_none (after other)
    ≡ (if list_any (has_key other) less then lease_or_none (before other) else no_lease)) key
    (now key ∙ rw (key_eq-refl key, left) (turned last (lease_or_none (before key))))
    (λ other e. now other ∙ rw e (unless (list_any (has_key other) less) _ (λ none.
    lease_unused other more (before other) (fits other) (anys (has_key other) one less more m
    ∙ rw (has_key_own one key other own, e, none) refl))))
  where
    turned : (b : Bool) (lease : model.Lease) → (if true && b then no_lease else lease) ≡ (if not b then lease else no_lease)
    turned b lease = grind arith

    unless : (b : Bool) (lease : model.Lease) → (b ≡ false → lease ≡ no_lease) → lease ≡ (if b then lease else no_lease)
    unless b lease e = grind arith

pub lease_kept_left : (one : Open) (known : Key → Option LeaseRecord) (less more : List Open)
    → key_of_open one ≡ None → IsOneMore one less more → ((other : Key) → RecordFits other more (known other))
    → (other : Key) → lease_or_none (known other)
    ≡ (if list_any (has_key other) less then lease_or_none (known other) else no_lease)
lease_kept_left one known less more own m fits = λ other. unless (list_any (has_key other) less) _ (λ none.
    lease_unused other more (known other) (fits other) (anys (has_key other) one less more m
    ∙ rw (has_key_none one other own, none) refl))
  where
    unless : (b : Bool) (lease : model.Lease) → (b ≡ false → lease ≡ no_lease) → lease ≡ (if b then lease else no_lease)
    unless b lease e = grind arith

pub are_left : (less : List Open) (leases later : Key → model.Lease)
    → ((key : Key) → later key ≡ (if list_any (has_key key) less then leases key else no_lease)) → AreLeft less leases later
are_left less leases later now = λ key some. now key ∙ rw some refl
