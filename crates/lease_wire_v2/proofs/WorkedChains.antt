-- Worked examples of chains are computed.
use Rattle.std.proofs.Common.{refl}
use Rattle.lease_wire.specs.Chain.{next_of, name_offset_of, name_length_of, data_offset_of, data_length_of}
use Rattle.lease_wire.specs.Reading.{items_behind, header_fault, layout_fault, context_at}
use Rattle.lease_wire.specs.Names.{meaning_of as first_meaning_of}
use Rattle.lease_wire_v2.specs.Names.{meaning_of}
use Rattle.lease_wire_v2.specs.Gathering.{gathered}
use Rattle.lease_wire_v2.specs.Canonical.{canonical_text}
use Rattle.lease_wire_v2.specs.Worked.{BothWritten, BothRead, LeasesOfBothVersions, LeaseOfAnotherLength, ReconnectOfAnotherLength}
use Rattle.lease_wire_v2.specs.Worked.{FirstVersionTogether, DurablesOfBothVersions, SecondVersionTogether}

pub both_written : BothWritten
unfolding canonical_text
both_written = refl

pub both_read : BothRead
unfolding next_of name_offset_of name_length_of data_offset_of data_length_of items_behind header_fault layout_fault context_at
    first_meaning_of meaning_of gathered
both_read = refl

pub leases_of_both_versions : LeasesOfBothVersions
unfolding next_of name_offset_of name_length_of data_offset_of data_length_of items_behind header_fault layout_fault context_at
    first_meaning_of meaning_of gathered
leases_of_both_versions = refl

pub lease_of_another_length : LeaseOfAnotherLength
unfolding next_of name_offset_of name_length_of data_offset_of data_length_of items_behind header_fault layout_fault context_at
    first_meaning_of meaning_of gathered
lease_of_another_length = refl

pub reconnect_of_another_length : ReconnectOfAnotherLength
unfolding next_of name_offset_of name_length_of data_offset_of data_length_of items_behind header_fault layout_fault context_at
    first_meaning_of meaning_of gathered
reconnect_of_another_length = refl

pub first_version_together : FirstVersionTogether
unfolding next_of name_offset_of name_length_of data_offset_of data_length_of items_behind header_fault layout_fault context_at
    first_meaning_of meaning_of gathered
first_version_together = refl

pub durables_of_both_versions : DurablesOfBothVersions
unfolding next_of name_offset_of name_length_of data_offset_of data_length_of items_behind header_fault layout_fault context_at
    first_meaning_of meaning_of gathered
durables_of_both_versions = refl

pub second_version_together : SecondVersionTogether
unfolding next_of name_offset_of name_length_of data_offset_of data_length_of items_behind header_fault layout_fault context_at
    first_meaning_of meaning_of gathered
second_version_together = refl
