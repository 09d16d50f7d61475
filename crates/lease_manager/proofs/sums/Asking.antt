-- What lease records and file summaries tell of the opens that they agree with.
use Rattle.lease_laws.proofs.Words.{◌&&◌, ◌==◌, ◌∷◌, ◌≡◌, Access, Key, Lease, List, None, Open, Option, Share, Some, ℕ, [], arith}
use Rattle.lease_laws.proofs.Words.{conflict, conflicts_on, false, has_key, has_own_key, is_other_on, is_some, list_any}
use Rattle.lease_laws.proofs.Words.{not, subst, sym}
use Rattle.lease_manager.specs.Looks.{is_elsewhere}
use Rattle.lease_manager.specs.Summaries.{RecordFits, IsRecord, SummaryFits, IsSummary, is_on}
use Rattle.lease_manager.specs.Tallies.{tally_conflicts}
use Rattle.lease_manager.specs.declared.tables.file_summary.FileSummary.{FileSummary}
use Rattle.lease_manager.specs.declared.tables.summaries.LeaseRecord.{LeaseRecord}
use Rattle.lease_manager.proofs.sums.Tallies.{none_both, conflicts_are}

pub is_known : (key : Key) (opens : List Open) (known : Option LeaseRecord) → RecordFits key opens known
    → is_some known ≡ list_any (has_key key) opens
is_known key opens known fits = grind arith

elsewhere_by : (key : Key) (at file : ℕ) (opens : List Open) → list_any (is_elsewhere key at) opens ≡ false
    → list_any (is_elsewhere key file) opens ≡ (not (at == file) && list_any (has_key key) opens)
elsewhere_by key at file [] home = grind (arith)
elsewhere_by key at file (one ∷ opens) home = let later = elsewhere_by key at file opens in grind arith

pub elsewhere_known : (key : Key) (file : ℕ) (opens : List Open) (known : Option LeaseRecord) (is : LeaseRecord)
    → known ≡ Some is → RecordFits key opens known → not (is.file.0 == file) ≡ list_any (is_elsewhere key file) opens
elsewhere_known key file opens known is same fits =
    let there : IsRecord key opens is = subst (RecordFits key opens) same fits in
    let e = elsewhere_by key is.file.0 file opens there.one_file in
    let u = there.is_used in
    grind (arith, e, u)

pub elsewhere_none : (key : Key) (file : ℕ) (opens : List Open) (known : Option LeaseRecord)
    → known ≡ None → RecordFits key opens known → false ≡ list_any (is_elsewhere key file) opens
elsewhere_none key file opens known none fits =
    sym (none_both (has_key key) (λ one. not (one.file == file)) opens (subst (RecordFits key opens) none fits))

pub conflict_known : (file : ℕ) (access : Access) (share : Share) (opens : List Open) (leases : Key → Lease)
    (known : Option FileSummary) (is : FileSummary) → known ≡ Some is → SummaryFits file opens leases known
    → tally_conflicts access share is.tally ≡ list_any (conflicts_on file access share) opens
conflict_known file access share opens leases known is same fits =
    let there : IsSummary file opens leases is = subst (SummaryFits file opens leases) same fits in
    rw there.sums_up.tally (conflicts_are access share (is_on file) opens)

pub conflict_none : (file : ℕ) (access : Access) (share : Share) (opens : List Open) (leases : Key → Lease)
    (known : Option FileSummary) → known ≡ None → SummaryFits file opens leases known
    → false ≡ list_any (conflicts_on file access share) opens
conflict_none file access share opens leases known none fits =
    sym (none_both (is_on file) (λ one. conflict access share one.access one.share) opens
    (subst (SummaryFits file opens leases) none fits))

pub other_none : (own : Option Key) (file : ℕ) (opens : List Open) (leases : Key → Lease) (known : Option FileSummary)
    → known ≡ None → SummaryFits file opens leases known → false ≡ list_any (is_other_on own file) opens
other_none own file opens leases known none fits =
    sym (none_both (is_on file) (λ one. not (has_own_key own one)) opens (subst (SummaryFits file opens leases) none fits))
