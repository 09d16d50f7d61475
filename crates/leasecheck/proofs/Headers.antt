-- What is shown of a message's body is shown of the message.
use Rattle.lease_laws.proofs.Words.{◌≡◌, Err, IfOk, Ok, Result, subst}

pub shown_behind : {X F : Type 0} (P : X → Type 0) (shown result : Result X F) → IfOk shown P
    → IfOk result (λ text. shown ≡ Ok text) → IfOk result P
shown_behind P shown (Ok text) h e = subst (λ r. IfOk r P) e h
shown_behind P shown (Err failure) h e = tt
