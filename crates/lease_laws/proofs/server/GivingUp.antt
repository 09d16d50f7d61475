-- What other keys still hold of what they are to give up is breaking.
use Rattle.lease_laws.proofs.Words.{◌∙◌, ◌≡◌, Among, Extent, Key, Open, Option, Bool, Server, State, ℕ, ap, begun, has_key, holds_any}
use Rattle.lease_laws.proofs.Words.{holds_of, is_breaking, is_other_on, lease_of_open, nothing_cached, others_broken, refl}
use Rattle.lease_laws.proofs.Words.{true, without_handle}
use Rattle.lease_laws.proofs.server.EnoughRounds.{IsRound, still_open, wanted, wanted_low, wants_met_met}
use Rattle.lease_laws.proofs.server.Keys.{lease_by-key}
use Rattle.lease_laws.proofs.server.Lists.{and_both}

-- whatever is to be given up
round_breaks : (holds : State → Bool) (base : Open → Bool) (lowering : State → State) (before after : Server) (key : Key)
    (one : Open) → IsRound holds (wanted holds base lowering before) before after → Among one after.opens
    → has_key key one ≡ true → base one ≡ true → holds (after.leases key).state ≡ true → is_breaking (after.leases key) ≡ true
round_breaks holds base lowering before after key one round a k b h =
    (still_open holds base lowering before after key one one.lease_key refl k round a
    (and_both (base one) (holds (lease_of_open after one).state) b
    (ap (λ l. holds l.state) (lease_by-key after key one.client one.lease_key k) ∙ h))).is_breaking

pub others_give_up : (server : Server) (own : Option Key) (file : ℕ) (extent : Extent) (key : Key) (one : Open)
    → Among one (others_broken server own file extent).server.opens → has_key key one ≡ true
    → is_other_on own file one ≡ true → holds_of extent ((others_broken server own file extent).server.leases key).state ≡ true
    → is_breaking ((others_broken server own file extent).server.leases key) ≡ true
others_give_up server own file Extent.Handles key one a k b h =
    let holds : State → Bool = λ state. state.handle in
    round_breaks holds (is_other_on own file) without_handle server (others_broken server own file Extent.Handles).server key one
    (wants_met_met holds (wanted holds (is_other_on own file) without_handle server) (begun server) refl
    (wanted_low holds (is_other_on own file) without_handle server (λ state. refl))) a k b h
others_give_up server own file Extent.All key one a k b h =
    let nothing : State → State = λ state. nothing_cached in
    round_breaks holds_any (is_other_on own file) nothing server (others_broken server own file Extent.All).server key one
    (wants_met_met holds_any (wanted holds_any (is_other_on own file) nothing server) (begun server) refl
    (wanted_low holds_any (is_other_on own file) nothing server (λ state. refl))) a k b h
