-- Leases in the order by which maps of them are kept, and what such maps have.
use Rattle.std.specs.Prelude.{Option}
use Rattle.std.specs.BTreeMap.{BTreeMap, get}
use Rattle.std.specs.Cmp.Lexicographic.{slice_cmp}
use Rattle.std.specs.Ordering.{nat_cmp, on, then_cmp}
use Rattle.std.specs.declared.cmp.Ordering.{Ordering}
use Rattle.capture_walk.specs.declared.event.Lease.{Lease}
use Rattle.capture_walk.specs.declared.event.Said.{Said}
use Rattle.capture_walk.specs.declared.event.Sent.{Sent}

-- by the clients' numbers, then by the keys' bytes, then by the files' numbers
abbrev pub lease_order : Lease → Lease → Ordering
lease_order = then_cmp (on (λ lease. lease.client) nat_cmp)
    (then_cmp (on (λ lease. lease.key.0) (slice_cmp nat_cmp)) (on (λ lease. lease.file) nat_cmp))

abbrev pub said_in : BTreeMap Lease Said → Lease → Option Said
said_in said lease = get lease_order said lease

abbrev pub broken_in : BTreeMap Lease Sent → Lease → Option Sent
broken_in broken lease = get lease_order broken lease
