-- Where a notification of a lease break ends.
use Rattle.std.proofs.Common.{◌≡◌, ◌≤◌, ◌+◌, ◌-◌, ℕ, subst, List, length, drop, nat_lt, if◌then◌else◌, Option, Some, None, arith}
use Rattle.std.proofs.lemmas.List.{length-drop}
use Rattle.lease_wire.specs.WireFaults.{message_fault}
use Rattle.lease_wire.specs.declared.fault.WireFault.{WireFault}

long_enough : (n : ℕ) (short : WireFault) (rest : Option WireFault)
    → None ≡ (if nat_lt n 44 then Some short else rest) → 44 ≤ n
long_enough n short rest is = grind (arith, is)

less_is_enough : (n m : ℕ) → 44 ≤ n - m → 44 + m ≤ n
less_is_enough n m is = omega arith

behind : (start : ℕ) (message : List ℕ) → 44 ≤ length (drop start message) → 44 + start ≤ length message
behind start message is = less_is_enough (length message) start (subst (λ n. 44 ≤ n) (length-drop start message) is)

-- it takes 44 bytes behind the header
pub notice_fits : (message : List ℕ) → None ≡ message_fault 44 (drop 64 message) → 108 ≤ length message
notice_fits message is = behind 64 message (long_enough (length (drop 64 message)) _ _ is)
