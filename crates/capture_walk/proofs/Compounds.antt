-- Messages of compounds, one by one.
use Rattle.std.proofs.Common.{◌≡◌, ◌≤◌, ◌==◌, ℕ, Bool, true, false, if◌then◌else◌, List, [], ◌∷◌, ◌++◌, length, take, arith}
use Rattle.std.proofs.Common.{subst, sym, append_assoc}
use Rattle.std.proofs.lemmas.Grind.{common_steps}
use Rattle.lease_wire.specs.Message.{first_message, next_command_of}
use Rattle.capture_wire.specs.Messages.{IsMessage}
use Rattle.capture_wire.specs.declared.message.Message.{Message}
use Rattle.capture_walk.specs.Compounds.{is_last, behind_first, HoldsMessages, FailsAfter}
use Rattle.capture_walk.specs.declared.compound.FrameFault.{FrameFault}

-- a message that has a next one, before what that one begins
pub holds_more : (bytes : List ℕ) (message : Message) (messages : List Message) → is_last bytes ≡ false
    → IsMessage (first_message bytes) message → HoldsMessages (behind_first bytes) messages
    → HoldsMessages bytes (message ∷ messages)
holds_more bytes message [] more is holds = elim holds [ ]
holds_more bytes message (next ∷ messages) more is holds = (more, is, holds)

if_within : (b : Bool) (n : ℕ) (bytes : List ℕ) → length (if b then bytes else take n bytes) ≤ length bytes
if_within true n bytes = omega arith
if_within false n bytes = grind (arith, common_steps)

-- the first message is within the bytes
pub first_within : (bytes : List ℕ) → length (first_message bytes) ≤ length bytes
unfolding first_message
first_within bytes = if_within (next_command_of bytes == 0) (next_command_of bytes) bytes

-- what holds of the rest holds of the whole, after one more message
pub holds_next : (whole rest behind : List ℕ) (read pushed : List Message) (message : Message)
    → ((later : List Message) → HoldsMessages rest later → HoldsMessages whole (read ++ later))
    → is_last rest ≡ false → IsMessage (first_message rest) message → behind ≡ behind_first rest
    → pushed ≡ read ++ message ∷ []
    → (later : List Message) → HoldsMessages behind later → HoldsMessages whole (pushed ++ later)
holds_next whole rest behind read pushed message all more is at more_read later holds =
    subst (λ (xs : List Message). HoldsMessages whole (xs ++ later)) (sym more_read)
    (subst (λ (xs : List Message). HoldsMessages whole xs) (sym (append_assoc read (message ∷ []) later))
    (all (message ∷ later)
    (holds_more rest message later more is (subst (λ (xs : List ℕ). HoldsMessages xs later) at holds))))

-- and what fails in the rest fails in the whole
pub fails_next : (whole rest behind : List ℕ) (read pushed : List Message) (message : Message)
    → ((later : List Message) (found : FrameFault) → FailsAfter rest later found → FailsAfter whole (read ++ later) found)
    → is_last rest ≡ false → IsMessage (first_message rest) message → behind ≡ behind_first rest
    → pushed ≡ read ++ message ∷ []
    → (later : List Message) (found : FrameFault) → FailsAfter behind later found → FailsAfter whole (pushed ++ later) found
fails_next whole rest behind read pushed message all more is at more_read later found fails =
    subst (λ (xs : List Message). FailsAfter whole (xs ++ later) found) (sym more_read)
    (subst (λ (xs : List Message). FailsAfter whole xs found) (sym (append_assoc read (message ∷ []) later))
    (all (message ∷ later) found
    (more, is, subst (λ (xs : List ℕ). FailsAfter xs later found) at fails)))
