-- Breaks that an entry will meet, and entries that close their open: in words of one file.
use Rattle.lease_laws.proofs.Words.{◌++◌, ◌||◌, ◌∷◌, ◌≡◌, ◌⊎◌, Bool, Client, List, LiveEntry, Phase, Reply, Request, Step, ℕ}
use Rattle.lease_laws.proofs.Words.{[], ⊎_elim, false, inl, inr, is_asking, refl, true}
use Rattle.lease_laws.proofs.server.Lists.{or_of_true, or_true}
use Rattle.lease_coherence.specs.Creates.{creates}
use Rattle.lease_coherence.proofs.beliefs.OneLease.{is_ack_break, is_created}
use Rattle.lease_coherence.proofs.covered.CoveredOpens.{ClosedBefore}

-- a break that asks for an acknowledgment is on its way, and a live entry will meet it
abbrev pub HasMet : List ℕ → ℕ → Bool → List Reply → Type 0
HasMet key file live [] = ⊥
HasMet key file live (reply ∷ queue) =
    ((live ≡ true) × (is_ack_break key reply ≡ true)) ⊎ HasMet key file (live || is_created file reply) queue

pub either_more : (less more made : Bool) → (less ≡ true → more ≡ true) → (less || made) ≡ true → (more || made) ≡ true
either_more less more made f e = ⊎_elim (λ a. rw (f a) refl) (λ a. or_of_true more made a) (or_true less made e)

pub met_more : (key : List ℕ) (file : ℕ) (less more : Bool) (queue : List Reply) → (less ≡ true → more ≡ true)
    → HasMet key file less queue → HasMet key file more queue
met_more key file less more [] f m = m
met_more key file less more (reply ∷ queue) f m = ⊎_elim (λ here. inl (f here.0, here.1))
    (λ later. inr (met_more key file (less || is_created file reply) (more || is_created file reply) queue
    (λ e. either_more less more (is_created file reply) f e) later)) m

pub met_behind : (key : List ℕ) (file : ℕ) (live : Bool) (queue more : List Reply) → HasMet key file live queue
    → HasMet key file live (queue ++ more)
met_behind key file live [] more m = absurd m
met_behind key file live (reply ∷ queue) more m = ⊎_elim (λ here. inl here)
    (λ later. inr (met_behind key file (live || is_created file reply) queue more later)) m

-- a last break, where the entry is live or becomes so
pub met_last : (key : List ℕ) (file : ℕ) (live : Bool) (queue : List Reply) (last : Reply) → is_ack_break key last ≡ true
    → live ≡ true → HasMet key file live (queue ++ last ∷ [])
met_last key file live [] last is e = inl (e, is)
met_last key file live (reply ∷ queue) last is e =
    inr (met_last key file (live || is_created file reply) queue last is (rw (e) refl))

abbrev pub is_granted : ℕ → List Reply → Bool
is_granted file [] = false
is_granted file (reply ∷ queue) = is_created file reply || is_granted file queue

pub met_granted : (key : List ℕ) (file : ℕ) (live : Bool) (queue : List Reply) (last : Reply)
    → is_ack_break key last ≡ true → is_granted file queue ≡ true → HasMet key file live (queue ++ last ∷ [])
met_granted key file live [] last is e = cc
met_granted key file live (reply ∷ queue) last is e = ⊎_elim
    (λ here. inr (met_last key file (live || is_created file reply) queue last is (or_of_true live (is_created file reply) here)))
    (λ later. inr (met_granted key file (live || is_created file reply) queue last is later))
    (or_true (is_created file reply) (is_granted file queue) e)

-- an entry that had asked for nothing closes its open with a step
pub record IsClosing (machine : Client) (step : Step) (file : ℕ) : Type 0 where
  pub live : LiveEntry
  pub was : (machine.entries file).phase ≡ Phase.Live live
  pub idle : is_asking live ≡ false
  pub closes : (asked : List Request) → creates file asked ≡ 0 → ClosedBefore file live.file_id (asked ++ step.requests)
