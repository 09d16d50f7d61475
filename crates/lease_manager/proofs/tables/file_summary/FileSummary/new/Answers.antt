use Rattle.lease_laws.proofs.Words.{◌∙◌, has_key, is_some, not, refl, sym}
use Rattle.lease_manager.specs.Summaries.{is_on}
use Rattle.lease_manager.proofs.sums.Tallies.{none_tallied, none_both, none_counted}
use Rattle.lease_manager.proofs.tables.file_summary.FileSummary.new.Goals as goal

pub returns : goal.returns
returns c = λ file opens leases none.
    record {
      tally = c.none.ensures (is_on file) ∙ none_tallied (is_on file) opens none;
      keys = λ key. rw (c.new.ensures.empty, none_both (is_on file) (has_key key) opens none) refl;
      keyless = sym (none_counted _ opens (none_both (is_on file) (λ one. not (is_some one.lease_key)) opens none));
      writers = λ key. rw (c.new-2.ensures.empty, none_both (is_on file) (has_key key) opens none) refl;
      handlers = λ key. rw (c.new-3.ensures.empty, none_both (is_on file) (has_key key) opens none) refl;
      breaking = λ key. rw (c.new-4.ensures.empty, none_both (is_on file) (has_key key) opens none) refl;
      harmless = λ key. rw (c.new-5.ensures.empty, none_both (is_on file) (has_key key) opens none) refl;
    }
