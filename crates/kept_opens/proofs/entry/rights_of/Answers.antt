use Rattle.std.proofs.Common.{◌≡◌, ℕ, List, [], ◌∷◌, drop, ap, sym, ◌∙◌, slice_index, rules, arith}
use Rattle.std.proofs.lemmas.List.{drop-drop, take_rest}
use Rattle.lease_state.specs.Access.{uses_of, allowed_by, bits_of_uses}
use Rattle.lease_state.specs.State.{state_of, bits_of_state}
use Rattle.kept_opens.proofs.EntryLemmas.{rights_back}
use Rattle.kept_opens.proofs.entry.rights_of.Goals as goal

-- five zeros are part of all rights
pub returns-then-not-are_reserved-clause-none : goal.returns-then-not-are_reserved-clause-none
returns-then-not-are_reserved-clause-none c access share state e =
    let zeros : 0 ∷ 0 ∷ 0 ∷ 0 ∷ 0 ∷ [] ≡ drop 43 c.args.bytes.now = ap (λ (xs : List ℕ). drop 3 xs) e
    ∙ drop-drop 3 40 c.args.bytes.now in
    let are = c.are_reserved.ensures.1 (take_rest c.args.bytes.now 43 ∙ sym zeros) in
    grind (arith, are)

pub returns-clause-some : goal.returns-clause-some
returns-clause-some c =
    let access : bits_of_uses (uses_of c.in_ok-access.access) ≡ slice_index c.args.bytes.now 40 = search rules in
    let share : bits_of_uses (allowed_by c.in_ok-share.share) ≡ slice_index c.args.bytes.now 41 = search rules in
    let state : bits_of_state (state_of c.in_ok-state.state) ≡ slice_index c.args.bytes.now 42 = search rules in
    let zeros = c.are_reserved.ensures.0 (search rules) in
    rights_back c.args.bytes.now _ _ _ _ c.requires access share state (sym (take_rest c.args.bytes.now 43) ∙ zeros)
