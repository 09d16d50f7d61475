-- Records and summaries together agree with the list of opens.
use Rattle.lease_laws.proofs.Words.{◌∙◌, ◌≡◌, Bool, Key, List, None, Open, Option, Some, ℕ, ap, arith, false, get}
use Rattle.lease_laws.proofs.Words.{has_key, if◌then◌else◌, key_eq, key_of_open, list_any, not, refl, subst, sym, true}
use Rattle.lease_laws.proofs.Words.{true≢false}
use Rattle.lease_manager.specs.declared.values.number.FileNo.{FileNo}
use Rattle.lease_laws.proofs.server.Keys.{key_eq-same}
use Rattle.lease_model.specs.server.State as model
use Rattle.lease_manager.specs.Hindering.{marks_of}
use Rattle.lease_manager.specs.KeyOrder.{key_order}
use Rattle.lease_manager.specs.Leases.{lease_of}
use Rattle.lease_manager.specs.Looks.{is_elsewhere}
use Rattle.lease_manager.specs.Summaries.{Agrees, IsPut, IsRecord, AreAfter, IsAtHome, RecordFits, SummaryFits, record_at}
use Rattle.lease_manager.specs.Summaries.{summary_at, lease_in, lease_or_none, has_key_on}
use Rattle.lease_manager.specs.declared.values.lease.HeldLease.{HeldLease}
use Rattle.lease_manager.specs.declared.tables.lease_marks.LeaseMarks.{LeaseMarks}
use Rattle.lease_manager.specs.declared.tables.summaries.LeaseRecord.{LeaseRecord}
use Rattle.lease_manager.specs.declared.tables.summaries.Summaries.{Summaries}
use Rattle.lease_manager.proofs.sums.Ordering.{has_key_own, has_key_none}
use Rattle.lease_manager.proofs.sums.Recording.{on_file_alike}

-- a change of the summaries alone
pub agrees_from : (after during : Summaries) (opens : List Open) → after.leases ≡ during.leases
    → ((key : Key) → RecordFits key opens (record_at during key))
    → ((file : FileNo) → SummaryFits file.0 opens (lease_in during) (summary_at after file)) → Agrees after opens
agrees_from after during opens same records files = record {
  records = λ key. subst (λ l. RecordFits key opens (get key_order l key)) (sym same) (records key);
  files = λ file. subst (λ l. SummaryFits file.0 opens (λ key. lease_or_none (get key_order l key)) (summary_at after file))
      (sym same) (files file);
}

-- a change of the records alone
pub files_kept : (before during : Summaries) (opens : List Open) (leases : Key → model.Lease) → during.files ≡ before.files
    → ((file : FileNo) → SummaryFits file.0 opens leases (summary_at before file))
    → (file : FileNo) → SummaryFits file.0 opens leases (summary_at during file)
files_kept before during opens leases same fits = grind arith

pub leases_same : (after during : Summaries) (key : Key) → after.leases ≡ during.leases → lease_in after key ≡ lease_in during key
leases_same after during key same = ap (λ l. lease_or_none (get key_order l key)) same

twice : (b : Bool) → b ≡ not (not b)
twice b = grind arith

pub last_on : (key : Key) (one : Open) (less : List Open) (last : Bool) → key_of_open one ≡ Some key
    → list_any (is_elsewhere key one.file) less ≡ false → list_any (has_key key) less ≡ not last
    → (other : Key) → has_key other one ≡ true → last ≡ not (list_any (has_key_on one.file other) less)
last_on key one less last own home left other has =
    let same = key_eq-same other key (sym (has_key_own one key other own) ∙ has) in
    rw (same, on_file_alike key one.file less home, left) (twice last)

pub never_has : (one : Open) (key : Key) {P : Type 0} → key_of_open one ≡ None → has_key key one ≡ true → P
never_has one key own has = absurd (true≢false (sym has ∙ has_key_none one key own))

-- the leases once an open of a key has come
pub after_gain : (key : Key) (one : Open) (lease : HeldLease) (marks : LeaseMarks) (less : List Open) (before during : Summaries)
    → key_of_open one ≡ Some key → list_any (is_elsewhere key one.file) less ≡ false → marks_of (lease_of lease) ≡ marks
    → ((other : Key) → lease_in during other ≡ (if key_eq other key then lease_of lease else lease_in before other))
    → AreAfter one marks less (lease_in before) (lease_in during)
after_gain key one lease marks less before during own home is now = record {
  same = λ other e. now other ∙ rw (sym (has_key_own one key other own) ∙ e) refl;
  own = λ other e. rw (now other, sym (has_key_own one key other own) ∙ e) is;
  home = λ other e.
      let same = key_eq-same other key (sym (has_key_own one key other own) ∙ e) in
      rw same home;
}

pub after_keyless : (one : Open) (marks : LeaseMarks) (less : List Open) (leases : Key → model.Lease)
    → key_of_open one ≡ None → AreAfter one marks less leases leases
after_keyless one marks less leases own = grind arith

pub at_home : (own : Option Key) (key : Key) (file : ℕ) (opens : List Open) → own ≡ Some key → IsAtHome own file opens
    → list_any (is_elsewhere key file) opens ≡ false
at_home own key file opens is home = subst (λ o. IsAtHome o file opens) is home

pub is_put : (key : Key) (lease : model.Lease) (marks : LeaseMarks) (leases later : Key → model.Lease) → marks_of lease ≡ marks
    → ((other : Key) → later other ≡ (if key_eq other key then lease else leases other)) → IsPut key marks leases later
is_put key lease marks leases later is now = grind arith

-- a key that an open has has a record
pub record_there : (key : Key) (opens : List Open) (known : Option LeaseRecord) (is : LeaseRecord) → known ≡ Some is
    → RecordFits key opens known → IsRecord key opens is
record_there key opens known is same fits = subst (RecordFits key opens) same fits

pub never_unknown : (key : Key) (opens : List Open) (known : Option LeaseRecord) {P : Type 0}
    → list_any (has_key key) opens ≡ true → known ≡ None → RecordFits key opens known → P
never_unknown key opens known there none fits = grind arith
