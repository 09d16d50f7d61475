-- What a client's handle knows of leases of version 2, before and after a call.
use Rattle.std.specs.Prelude.{◌≡◌, Option, IfSome, IsSomeAnd}
use Rattle.client_versions.specs.Kept.{layer_of}
use Rattle.client_versions.specs.Layer.{Layer}
use Rattle.machines_c.specs.declared.translation.translating.Translating.{Translating}

-- what a handle holds is there afterwards, and is related so to what it held
abbrev pub Goes : (Layer → Layer → Type 0) → Option Translating → Option Translating → Type 0
Goes Relation old new = IfSome old (λ before. IsSomeAnd new (λ after. Relation (layer_of before.versions) (layer_of after.versions)))

-- it has changed so
abbrev pub Becomes : (Layer → Layer) → Option Translating → Option Translating → Type 0
Becomes change old new = Goes (λ before after. after ≡ change before) old new

-- it is the same, and this holds of it
abbrev pub Stays : (Layer → Type 0) → Option Translating → Option Translating → Type 0
Stays Holds old new = Goes (λ before after. (after ≡ before) × Holds before) old new
