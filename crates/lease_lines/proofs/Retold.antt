-- What an application asks of a client machine is taken as in schedules.
use Rattle.std.proofs.Common.{◌≡◌, ◌∙◌, ap, None, Some}
use Rattle.std.specs.Prelude.{ℕ, List, drop}
use Rattle.lease_texts.specs.{Commands.Asking, Commands.command_kinds, Kinds.Words, Kinds.named, Lines.field_read}
use Rattle.lease_texts.specs.declared.fault.LineFault.{LineFault, TheVariants.Refused}
use Rattle.lease_texts.proofs.Retold.{taken_as, told_alone}
use Rattle.lease_lines.specs.ClientLines.{app, client_kinds}

pub asked_alone : (name : List ℕ) (old new : Words) (asking : Asking) → named field_read command_kinds name old ≡ Some (asking, new)
    → named field_read (drop 5 client_kinds) name old ≡ Some (app asking, new)
asked_alone name old new asking told = told_alone app field_read command_kinds name old ∙ ap (taken_as app) told

pub refused_alone : (name : List ℕ) (old : Words) (fault : LineFault)
    → (fault ≡ Refused → named field_read command_kinds name old ≡ None)
    → fault ≡ Refused → named field_read (drop 5 client_kinds) name old ≡ None
refused_alone name old fault refused so = told_alone app field_read command_kinds name old ∙ ap (taken_as app) (refused so)
