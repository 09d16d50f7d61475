-- The order of keys, as maps and sets of them are kept.
use Rattle.std.specs.declared.cmp.Ordering.{Ordering}
use Rattle.std.specs.Ordering.{nat_cmp, on, then_cmp}
use Rattle.std.specs.Cmp.Lexicographic.{slice_cmp}
use Rattle.lease_model.specs.values.Keys.{Key}

-- by their clients' numbers, then by their bytes
abbrev pub key_order : Key → Key → Ordering
key_order = then_cmp (on (λ key. key.client) nat_cmp) (on (λ key. key.bytes) (slice_cmp nat_cmp))
