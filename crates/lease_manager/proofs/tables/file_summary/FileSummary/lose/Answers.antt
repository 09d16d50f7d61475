use Rattle.lease_laws.proofs.Words.{◌∙◌, ap, is_some, sym}
use Rattle.lease_manager.proofs.sums.Ordering.{has_key_own, keyed}
use Rattle.lease_manager.proofs.tables.file_summary.FileSummary.lose.Goals as goal

pub returns-in-Some : goal.returns-in-Some
returns-in-Some c =
    let own = sym c.key.ensures ∙ c.in-Some.is in
    let has = sym (keyed c.args.one.now) ∙ ap is_some own in
    record {
      tally = c.lose_key.ensures.tally ∙ c.lowered-self.ensures;
      keyless = rw has c.lose_key.ensures.keyless;
      keys = λ other. rw (has_key_own c.args.one.now c.in-Some.key other own) (c.lose_key.ensures.keys other);
      writers = λ other. rw (has_key_own c.args.one.now c.in-Some.key other own) (c.lose_key.ensures.writers other);
      handlers = λ other. rw (has_key_own c.args.one.now c.in-Some.key other own) (c.lose_key.ensures.handlers other);
      breaking = λ other. rw (has_key_own c.args.one.now c.in-Some.key other own) (c.lose_key.ensures.breaking other);
      harmless = λ other. rw (has_key_own c.args.one.now c.in-Some.key other own) (c.lose_key.ensures.harmless other);
    }
