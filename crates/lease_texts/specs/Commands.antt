-- What the application of a client asks, as lines of schedules and of client machines say it: a row for each kind of command.
use Rattle.std.specs.Prelude.{ℕ, Bool, List, [], ◌∷◌, codes, bytes_eq}
use Rattle.{std.specs.List.list_any, lease_client.specs.declared.values.command.Command.Command}
use Rattle.{lease_state.specs.declared.number.ClientNo.ClientNo, lease_texts.specs.declared.kinds.Field.Field}
use Rattle.lease_texts.specs.Kinds.{Kind, Telling, kind}

-- a command, and the client that it is for
abbrev pub Asking : Type 0
Asking = ClientNo × Command

abbrev pub command_kinds : List (Kind Asking)
command_kinds =
    kind (codes "open")
    (Field.Client ∷ Field.File ∷ Field.Access ∷ Field.Share ∷ Field.State ∷ Field.Durable ∷ [])
    (λ client file access share want durable. (client, Command.Open file access share want durable))
    ∷ kind (codes "close") (Field.Client ∷ Field.File ∷ []) (λ client file. (client, Command.Close file))
    ∷ kind (codes "read") (Field.Client ∷ Field.File ∷ []) (λ client file. (client, Command.Read file))
    ∷ kind (codes "flush") (Field.Client ∷ Field.File ∷ []) (λ client file. (client, Command.Flush file))
    ∷ kind (codes "write") (Field.Client ∷ Field.File ∷ Field.Offset ∷ Field.Bytes ∷ [])
    (λ client file offset bytes. (client, Command.Write file (record { offset = offset; bytes = bytes })))
    ∷ []

-- whether one of the kinds begins with this word
abbrev pub is_named : {A : Type 0} → List ℕ → List (Kind A) → Bool
is_named name kinds = list_any (λ kind. bytes_eq name kind.name) kinds

-- ---- the same kinds in another table, where they tell something else

abbrev pub telling_as : {A B : Type 0} → (A → B) → (fields : List Field) → Telling A fields → Telling B fields
telling_as as_told [] told = as_told told
telling_as as_told (field ∷ fields) telling = λ value. telling_as as_told fields (telling value)

abbrev pub told_as : {A B : Type 0} → (A → B) → List (Kind A) → List (Kind B)
told_as as_told [] = []
told_as as_told (one ∷ others) =
    kind one.name one.fields (telling_as as_told one.fields one.tells) ∷ told_as as_told others
