-- What a handle owns is nothing at null, or a box's memory. Assumes `Logic`.
use Rattle.std.proofs.Common.{◌≡◌, ℕ, List, ◌∷◌, refl}
use seplogic.Ra.Ura.{Ura}
use mir.Syntax.{Ty}
use mir.Raw.{raw as bare}
use base.Shift.{Keyless}
use base.Logic.{ent, guard, guard_i, never, via, fst∗, snd∗}
use types.Logic.{Logic, sem}
use types.Kit.{Item, Goal, Seq, ‵, given, ◌$◌, feq_l, use1, learn}
use contract.Monad.{fact_use}
use denote.RattleType.{RattleType}
use denote.Memory.{lone}
use denote.RawPtr.{Ptr, block_ptr, null_ptr, in_a_block, Testable}
use Rattle.core.specs.Ptr.{points_to}
use Rattle.std.specs.declared.option.Option.{Option}
use Rattle.std.specs.declared.option.Option.TheVariants.{None, Some}
use Rattle.std.specs.declared.alloc.Global.{Global}
use Rattle.std.proofs.GlobalToken.{dealloc_token-Testable}
use Rattle.std_alloc.specs.Box.Ownership.{box_owns}
use Rattle.std.proofs.Crossing.{frees}
use Rattle.machines_c.specs.handles.Owned.{handle_owns, may_free}

-- the right to free a block says the same to every thread
pub may_free-Keyless : (τ : Ty) (p : Ptr) → Keyless (may_free τ p)
may_free-Keyless = frees.frees (record { memory = record { seal = tt } })

module _ {M : Type 1} {𝓤 : Ura M} (𝓛 : Logic 𝓤) (R : RattleType) (alloc : Global) where
  tested : (p : Ptr) (x : R.Denot)
      → ent 𝓤 (sem 𝓛 (box_owns may_free R p x)) (guard 𝓤 (Testable p) (sem 𝓛 (box_owns may_free R p x)))
  tested p x = fact_use 𝓤 (Testable p) (via 𝓤 _ (snd∗ 𝓤 (sem 𝓛 (points_to R p x)) (sem 𝓛 (may_free (bare (lone R.mir)) p)))
      (dealloc_token-Testable 𝓛 alloc (bare (lone R.mir)) p)) (guard_i 𝓤 (Testable p) (sem 𝓛 (box_owns may_free R p x)))

module _ {M : Type 1} {𝓤 : Ura M} {𝓛 : Logic 𝓤} (R : RattleType) (alloc : Global) {K : Type 0} {Γ : List (Item 𝓤)}
    {G : Goal 𝓤 𝓛.H} where
  -- the two cases, the second with a pointer that may be compared with null
  pub either_owned : K → (held : Option R.Denot) (p : Ptr) → (p ≡ null_ptr → held ≡ None → Seq K 𝓛 Γ G)
      → ((b o : ℕ) (x : R.Denot) → p ≡ block_ptr b o → held ≡ Some x → Testable (block_ptr b o)
      → Seq K 𝓛 (‵ (box_owns may_free R (block_ptr b o) x) ∷ Γ) G) → Seq K 𝓛 (‵ (handle_owns R held p) ∷ Γ) G
  either_owned t None p none one = feq_l t (λ e. none e refl)
  either_owned t (Some x) p none one =
      in_a_block t p (λ q. box_owns may_free R q x) (fst∗ 𝓤 (never 𝓤) (sem 𝓛 (may_free (bare (lone R.mir)) null_ptr))) (λ b o e.
      use1 𝓛 (given (Testable (block_ptr b o)) (‵ (box_owns may_free R (block_ptr b o) x))) (tested 𝓛 R alloc (block_ptr b o) x)
      $ learn t (λ test. one b o x e refl test))
