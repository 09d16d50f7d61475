use Rattle.lease_laws.proofs.Words.{arith, nat_tests, ◌<◌, ◌≡◌, length, refl, sym}
use Rattle.std.proofs.Common.{deque_len, ltb, of_calls, rules}
use Rattle.std.proofs.lemmas.Fn.{always_returns_same}
use Rattle.std.proofs.lemmas.List.Sorted.{IsPartitionedBy-ltb}
use Rattle.lease_client.proofs.Numbered.{nobody}
use Rattle.lease_client.proofs.Queued.{found_at, found_nowhere, here_is, above_place}
use Rattle.lease_client.specs.Writes.{IsRising}
use Rattle.lease_client.proofs.writes.queue.Writes.place_by_halves.Goals as goal

pub returns-in-Some : goal.returns-in-Some
returns-in-Some c =
    let items = c.self.inside.items.items in
    let rising : IsRising items = rw c.self.view_is c.requires in
    let point = c.partition_point-place.ensures.partitioned (λ w. ltb w.number c.args.number)
    (always_returns_same _ _ _ (λ a r f k. search (rules, of_calls))) (IsPartitionedBy-ltb (λ w. w.number) items c.args.number rising) in
    let count : deque_len c.self.inside.items ≡ length items = search rules in
    let within : c.partition_point-place.result < length items = rw (← count) (c.in-Some.ensures.variant.0 refl) in
    rw (← c.self.view_is) (sym (found_at c.args.number items nobody c.partition_point-place.result within
    (λ k lt. let low = point.0 k nobody (omega arith) lt in grind (arith, nat_tests, low))
    (here_is c.args.number items c.partition_point-place.result c.in-Some.write.now nobody within c.in-Some.ensures.lookup
    (rw (← c.write.view_is) c.if-write-number.true))))

pub returns-in_default : goal.returns-in_default
returns-in_default c =
    let items = c.self.inside.items.items in
    let rising : IsRising items = rw c.self.view_is c.requires in
    let point = c.partition_point-place.ensures.partitioned (λ w. ltb w.number c.args.number)
    (always_returns_same _ _ _ (λ a r f k. search (rules, of_calls))) (IsPartitionedBy-ltb (λ w. w.number) items c.args.number rising) in
    let count : deque_len c.self.inside.items ≡ length items = search rules in
    let within : c.partition_point-place.result < length items = rw (← count) (c.in-Some.ensures.variant.0 refl) in
    let first = point.1 c.partition_point-place.result nobody (omega arith) within in
    rw (← c.self.view_is) (sym (found_nowhere c.args.number items nobody c.partition_point-place.result
    (λ k lt inside. let low = point.0 k nobody (omega arith) lt in grind (arith, nat_tests, low))
    (above_place c.args.number items c.partition_point-place.result c.in-Some.write.now nobody rising within
    c.in-Some.ensures.lookup (rw (← c.write.view_is) c.if-write-number.false) (grind (arith, nat_tests, first)))))

pub returns-in_default-2 : goal.returns-in_default-2
returns-in_default-2 c =
    let items = c.self.inside.items.items in
    let rising : IsRising items = rw c.self.view_is c.requires in
    let point = c.partition_point-place.ensures.partitioned (λ w. ltb w.number c.args.number)
    (always_returns_same _ _ _ (λ a r f k. search (rules, of_calls))) (IsPartitionedBy-ltb (λ w. w.number) items c.args.number rising) in
    let count : deque_len c.self.inside.items ≡ length items = search rules in
    let none = rw c.in_default.is at c.get.ensures.variant in
    rw (← c.self.view_is) (sym (found_nowhere c.args.number items nobody c.partition_point-place.result
    (λ k lt inside. let low = point.0 k nobody (omega arith) lt in grind (arith, nat_tests, low))
    (λ k le lt. let bad = none.1 (omega (arith, le, lt, count)) in grind (arith, bad))))
