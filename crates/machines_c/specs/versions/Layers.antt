-- What a handle knows of leases of version 2, before and after a call.
use Rattle.std.specs.Prelude.{◌≡◌, ⊤, Option, IfSome, IsSomeAnd, Result, Ok, Err}
use Rattle.lease_state.specs.declared.memory.Memory.{Memory}
use Rattle.lease_versions.specs.Kept.{layer_of}
use Rattle.lease_versions.specs.Layer.{Layer}
use Rattle.machines_c.specs.declared.handles.outcome.Outcome.{Outcome}
use Rattle.machines_c.specs.declared.handles.outcome.Outcome.TheVariants as outcome
use Rattle.machines_c.specs.declared.versions.following.Following.{Following}

-- what a handle holds is there afterwards, and is related so to what it held
abbrev pub Goes : (Layer → Layer → Type 0) → Option Following → Option Following → Type 0
Goes Relation old new = IfSome old (λ before. IsSomeAnd new (λ after. Relation (layer_of before.versions) (layer_of after.versions)))

-- it has changed so
abbrev pub Becomes : (Layer → Layer) → Option Following → Option Following → Type 0
Becomes change old new = Goes (λ before after. after ≡ change before) old new

-- it is the same
abbrev pub Stays : Option Following → Option Following → Type 0
Stays old new = Goes (λ before after. after ≡ before) old new

-- what became of a call that may want memory
abbrev pub came_as : Result ⊤ Memory → Outcome
came_as (Ok done) = outcome.Done
came_as (Err refused) = outcome.NoMemory
