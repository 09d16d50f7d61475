-- What a handle for C owns.
use Rattle.std.specs.declared.option.Option.{Option}
use Rattle.std.specs.declared.option.Option.TheVariants.{None, Some}
use mir.Syntax.{Ty}
use base.Fml.{Fml, feq}
use denote.RattleType.{RattleType}
use denote.RawPtr.{Ptr, null_ptr}
use Rattle.std_alloc.specs.Box.Ownership.{box_owns}
use Rattle.std.specs.contracts.impls.GlobalAllocator.TheImpl.{ghosts}

-- the right to free a block of the global heap
abbrev pub may_free : Ty → Ptr → Fml
may_free = ghosts.dealloc_token (record { memory = record { seal = tt } })

-- what a handle owns at a pointer: nothing, where it is null, or the memory of a box with this value
abbrev pub handle_owns : (R : RattleType) → Option R.Denot → Ptr → Fml
handle_owns R None = λ p. feq Ptr p null_ptr
handle_owns R (Some x) = λ p. box_owns may_free R p x
