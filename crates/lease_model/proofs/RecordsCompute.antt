-- To unfold `the_records` is to unfold every definition of records, so that a worked example computes.
use Rattle.std.specs.Prelude.{⊤}
use Rattle.lease_model.specs.records.Past.{is_started, start_of, changes_of, content_at, has_strayed, has_joined, is_served}
use Rattle.lease_model.specs.records.Past.{is_good, sendings, takings, last_sending, is_settled, unsettled, believed, has_number}
use Rattle.lease_model.specs.records.Past.{has_buffered, is_touched, has_written, is_accepted}
use Rattle.lease_model.specs.records.Safe.{is_well_formed}
use Rattle.lease_model.specs.records.Verdict.{believers, has_two_caches, is_stale_read, is_late_write, is_false_done, flaw_at}
use Rattle.lease_model.specs.records.Verdict.{verdict_from}
use Rattle.lease_model.proofs.ValuesCompute.{the_values}

unfoldable pub the_records : ⊤
unfolding the_values is_started start_of changes_of content_at has_strayed has_joined is_served is_good sendings takings
    last_sending is_settled unsettled believed has_number has_buffered is_touched has_written is_accepted is_well_formed believers
    has_two_caches is_stale_read is_late_write is_false_done flaw_at verdict_from
the_records = tt
