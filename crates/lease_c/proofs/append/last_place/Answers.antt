use Rattle.std.proofs.Common.{rules, ◌≡◌, ◌≤◌, length, Option, Some, IfSome, subst, ℕ}
use Rattle.lease_c.specs.Appended.{last_of}
use Rattle.lease_c.proofs.Appended.{last_is_within}
use Rattle.lease_c.proofs.append.last_place.Goals as goal

-- the last context begins within the text
pub returns-clause-within : goal.returns-clause-within
returns-clause-within c =
    let found : last_of c.args.text.now ≡ Some c.loop-item.last = search rules in
    subst (λ (place : Option ℕ). IfSome place (λ last. last ≤ length c.args.text.now)) found (last_is_within c.args.text.now)
