-- Opens that are connected or disconnected are counted as they were.
use Rattle.lease_laws.proofs.Words.{◌&&◌, ◌==◌, ◌∙◌, ◌∷◌, ◌≡◌, Access, Bool, Key, Lease, List, None, Open, Option, Share, Some, ℕ}
use Rattle.lease_laws.proofs.Words.{[], allowed_by, ap, ap₂, arith, has_key, if◌then◌else◌, is_key, is_some, list_any, map, not}
use Rattle.lease_laws.proofs.Words.{refl, sym, uses_of}
use Rattle.lease_manager.specs.Hindering.{breaks_handle, is_harmless}
use Rattle.lease_manager.specs.Looks.{is_elsewhere}
use Rattle.lease_manager.specs.Summaries.{Agrees, RecordFits, SummaryFits, record_at, summary_at, lease_in, is_on, has_key_on}
use Rattle.lease_manager.specs.Summaries.{is_keyless_on}
use Rattle.lease_manager.specs.Tallies.{count, tally_of}
use Rattle.lease_manager.specs.declared.tables.file_summary.FileSummary.{FileSummary}
use Rattle.lease_manager.specs.declared.tables.summaries.LeaseRecord.{LeaseRecord}
use Rattle.lease_manager.specs.declared.tables.summaries.Summaries.{Summaries}
use Rattle.lease_manager.proofs.sums.Summing.{tally_same}

-- a change that leaves what is counted
pub record KeepsCounted (change : Open → Open) : Type 0 where
  pub client : (one : Open) → (change one).client ≡ one.client
  pub file : (one : Open) → (change one).file ≡ one.file
  pub lease_key : (one : Open) → (change one).lease_key ≡ one.lease_key
  pub access : (one : Open) → (change one).access ≡ one.access
  pub share : (one : Open) → (change one).share ≡ one.share

pub connection_kept : (test : Open → Bool) (b : Bool)
    → KeepsCounted (λ one. if test one then record one { connected = b } else one)
connection_kept test b = grind arith

any_mapped : (test : Open → Bool) (change : Open → Open) (opens : List Open)
    → ((one : Open) → test (change one) ≡ test one) → list_any test (map change opens) ≡ list_any test opens
any_mapped test change [] same = refl
any_mapped test change (one ∷ opens) same = rw (same one, any_mapped test change opens same) refl

count_mapped : (test : Open → Bool) (change : Open → Open) (opens : List Open)
    → ((one : Open) → test (change one) ≡ test one) → count test (map change opens) ≡ count test opens
count_mapped test change [] same = refl
count_mapped test change (one ∷ opens) same = let later = count_mapped test change opens same in grind arith

tally_mapped : (test : Open → Bool) (change : Open → Open) (opens : List Open) → KeepsCounted change
    → ((one : Open) → test (change one) ≡ test one) → tally_of test (map change opens) ≡ tally_of test opens
tally_mapped test change opens keeps same = tally_same _ _ _ _ _ _ _ _ _ _ (count_mapped test change opens same)
    (count_mapped _ change opens (λ one. ap₂ ◌&&◌ (same one) (ap (λ (a : Access). (uses_of a).read) (keeps.access one))))
    (count_mapped _ change opens (λ one. ap₂ ◌&&◌ (same one) (ap (λ (a : Access). (uses_of a).write) (keeps.access one))))
    (count_mapped _ change opens (λ one. ap₂ ◌&&◌ (same one) (ap (λ (s : Share). not (allowed_by s).read) (keeps.share one))))
    (count_mapped _ change opens (λ one. ap₂ ◌&&◌ (same one) (ap (λ (s : Share). not (allowed_by s).write) (keeps.share one))))

has_same : (key : Key) (change : Open → Open) → KeepsCounted change → (one : Open) → has_key key (change one) ≡ has_key key one
has_same key change keeps one = ap₂ (λ c b. is_key key c b) (keeps.client one) (keeps.lease_key one)

on_same : (file : ℕ) (change : Open → Open) → KeepsCounted change → (one : Open) → is_on file (change one) ≡ is_on file one
on_same file change keeps one = ap (λ f. f == file) (keeps.file one)

record_mapped : (key : Key) (change : Open → Open) (opens : List Open) (known : Option LeaseRecord) → KeepsCounted change
    → RecordFits key opens known → RecordFits key (map change opens) known
record_mapped key change opens None keeps fits = any_mapped (has_key key) change opens (has_same key change keeps) ∙ fits
record_mapped key change opens (Some known) keeps fits = record {
  tally = fits.tally ∙ sym (tally_mapped (has_key key) change opens keeps (has_same key change keeps));
  is_used = any_mapped (has_key key) change opens (has_same key change keeps) ∙ fits.is_used;
  one_file = any_mapped (is_elsewhere key known.file.0) change opens
      (λ one. ap₂ (λ h o. h && not o) (has_same key change keeps one) (on_same known.file.0 change keeps one)) ∙ fits.one_file;
}

summary_mapped : (file : ℕ) (leases : Key → Lease) (change : Open → Open) (opens : List Open) (known : Option FileSummary)
    → KeepsCounted change → SummaryFits file opens leases known → SummaryFits file (map change opens) leases known
summary_mapped file leases change opens None keeps fits = any_mapped (is_on file) change opens (on_same file change keeps) ∙ fits
summary_mapped file leases change opens (Some known) keeps fits =
    let on_key : (key : Key) → list_any (has_key_on file key) (map change opens) ≡ list_any (has_key_on file key) opens =
    λ key. any_mapped (has_key_on file key) change opens
    (λ one. ap₂ ◌&&◌ (on_same file change keeps one) (has_same key change keeps one)) in
    record {
      is_used = any_mapped (is_on file) change opens (on_same file change keeps) ∙ fits.is_used;
      sums_up = record {
        tally = fits.sums_up.tally ∙ sym (tally_mapped (is_on file) change opens keeps (on_same file change keeps));
        keys = λ key. fits.sums_up.keys key ∙ sym (on_key key);
        keyless = fits.sums_up.keyless ∙ sym (count_mapped (is_keyless_on file) change opens
            (λ one. ap₂ (λ o k. o && not (is_some k)) (on_same file change keeps one) (keeps.lease_key one)));
        writers = λ key. fits.sums_up.writers key ∙ ap (λ b. b && (leases key).state.write) (sym (on_key key));
        handlers = λ key. fits.sums_up.handlers key ∙ ap (λ b. b && (leases key).state.handle) (sym (on_key key));
        breaking = λ key. fits.sums_up.breaking key ∙ ap (λ b. b && breaks_handle (leases key)) (sym (on_key key));
        harmless = λ key. fits.sums_up.harmless key ∙ ap (λ b. b && is_harmless (leases key)) (sym (on_key key));
      };
    }

pub agrees_mapped : (summaries : Summaries) (change : Open → Open) (opens : List Open) → KeepsCounted change
    → Agrees summaries opens → Agrees summaries (map change opens)
agrees_mapped summaries change opens keeps agree = record {
  records = λ key. record_mapped key change opens (record_at summaries key) keeps (agree.records key);
  files = λ file. summary_mapped file.0 (lease_in summaries) change opens (summary_at summaries file) keeps (agree.files file);
}
