use Rattle.lease_laws.proofs.Words.{◌∙◌, ap, is_some, sym}
use Rattle.lease_manager.proofs.sums.Ordering.{has_key_own, keyed}
use Rattle.lease_manager.proofs.tables.file_summary.FileSummary.gain.Goals as goal

pub returns-in_ok-gain_key-in-Some : goal.returns-in_ok-gain_key-in-Some
returns-in_ok-gain_key-in-Some c =
    let own = sym c.key.ensures ∙ c.in-Some.is in
    let has = sym (keyed c.args.one.now) ∙ ap is_some own in
    record {
      tally = c.in_ok-gain_key-in-Some.ensures.tally ∙ c.raised-self.ensures;
      keyless = rw has c.in_ok-gain_key-in-Some.ensures.keyless;
      keys = λ other. rw (has_key_own c.args.one.now c.in-Some.key other own) (c.in_ok-gain_key-in-Some.ensures.keys other);
      writers = λ other. rw (has_key_own c.args.one.now c.in-Some.key other own) (c.in_ok-gain_key-in-Some.ensures.writers other);
      handlers = λ other.
          rw (has_key_own c.args.one.now c.in-Some.key other own) (c.in_ok-gain_key-in-Some.ensures.handlers other);
      breaking = λ other.
          rw (has_key_own c.args.one.now c.in-Some.key other own) (c.in_ok-gain_key-in-Some.ensures.breaking other);
      harmless = λ other.
          rw (has_key_own c.args.one.now c.in-Some.key other own) (c.in_ok-gain_key-in-Some.ensures.harmless other);
    }
