-- The create contexts whose names are known (MS-SMB2 2.2.13.2, 2.2.14.2), and what a chain of
-- contexts asks for or grants.
use Rattle.std.specs.Prelude.{◌≡◌, ℕ, ◌==◌, Bool, true, false, if◌then◌else◌, List, [], ◌∷◌, length, codes, Option, Some, None}
use Rattle.std.specs.Prelude.{option_to_list}
use Rattle.std.specs.List.{filter_map}
use Rattle.std.specs.Str.{bytes_eq}
use Rattle.std.specs.Int.RustNames.{bit_and}
use Rattle.lease_state.specs.State.{State, state_of_bits}
use Rattle.lease_wire.specs.Field.{number_at, bytes_at}
use Rattle.lease_wire.specs.Chain.{ContextView, HoldsContexts}
use Rattle.lease_wire.specs.declared.create.Direction.{Direction}
use Rattle.lease_wire.specs.declared.create.Direction.TheVariants.{Request, Reply}

-- a lease context: its key, its state, and whether a break of the lease is in progress, which only
-- a response tells
pub record LeaseView : Type 0 where
  pub key : List ℕ
  pub state : State
  pub breaking : Bool

-- what the contexts of a request ask for, or those of a response grant
pub record CreateView : Type 0 where
  pub lease : Option LeaseView
  pub durable : Bool
  pub reconnect : Option ℕ

-- what a context means by its name and its length
pub data Meaning : Type 0 where
  -- it is passed over
  Unknown : Meaning
  -- its name is known, and its data have another length than their structure
  WrongLength : Meaning
  Lease : LeaseView → Meaning
  Durable : Meaning
  Reconnect : ℕ → Meaning

-- SMB2_CREATE_REQUEST_LEASE and SMB2_CREATE_RESPONSE_LEASE (2.2.13.2.8, 2.2.14.2.10): LeaseKey, LeaseState, LeaseFlags,
-- LeaseDuration. The bit of value 2 in a response's LeaseFlags is SMB2_LEASE_FLAG_BREAK_IN_PROGRESS; all else behind
-- LeaseState is free.
abbrev pub lease_view : Direction → List ℕ → LeaseView
lease_view Request body = record { key = bytes_at 0 16 body; state = state_of_bits (number_at 16 4 body); breaking = false }
lease_view Reply body = record {
  key = bytes_at 0 16 body;
  state = state_of_bits (number_at 16 4 body);
  breaking = bit_and (number_at 20 4 body) 2 == 2;
}

-- "RqLs"; another length than 32, as that of version 2, is an unknown context (profile)
abbrev pub lease_meaning : Direction → List ℕ → Meaning
lease_meaning direction body = if length body == 32 then Lease (lease_view direction body) else Unknown

-- "DHnQ": 16 free bytes in a request (2.2.13.2.3), 8 in a response (2.2.14.2.3)
abbrev pub durable_meaning : Direction → List ℕ → Meaning
durable_meaning Request body = if length body == 16 then Durable else WrongLength
durable_meaning Reply body = if length body == 8 then Durable else WrongLength

-- "DHnC" (2.2.13.2.4): the FileId's Persistent part; its Volatile part is free (profile). Not known in a response.
abbrev pub reconnect_meaning : Direction → List ℕ → Meaning
reconnect_meaning Request body = if length body == 16 then Reconnect (number_at 0 8 body) else WrongLength
reconnect_meaning Reply body = Unknown

abbrev pub lease_name : List ℕ
lease_name = codes "RqLs"

abbrev pub durable_name : List ℕ
durable_name = codes "DHnQ"

abbrev pub reconnect_name : List ℕ
reconnect_name = codes "DHnC"

unfoldable pub meaning_of : Direction → ContextView → Meaning
meaning_of direction context =
    if bytes_eq context.name lease_name then lease_meaning direction context.body
    else if bytes_eq context.name durable_name then durable_meaning direction context.body
    else if bytes_eq context.name reconnect_name then reconnect_meaning direction context.body
    else Unknown

-- the parts of a meaning
abbrev pub lease_in : Meaning → Option LeaseView
lease_in (Lease lease) = Some lease
lease_in _ = None

abbrev pub durable_in : Meaning → Option Bool
durable_in Durable = Some true
durable_in _ = None

abbrev pub reconnect_in : Meaning → Option ℕ
reconnect_in (Reconnect file_id) = Some file_id
reconnect_in _ = None

abbrev pub wrong_length_in : Meaning → Option Bool
wrong_length_in WrongLength = Some true
wrong_length_in _ = None

-- all that contexts say of one kind, in their order
abbrev pub values_of_kind : {X : Type 0} → Direction → (Meaning → Option X) → List ContextView → List X
values_of_kind direction part contexts = filter_map (λ context. part (meaning_of direction context)) contexts

-- The contexts break no rule of names, and their value is this: none that is known has a wrong
-- length, and each kind stands once or not at all (profile).
pub record HaveValue (direction : Direction) (contexts : List ContextView) (v : CreateView) : Type 0 where
  pub lengths : values_of_kind direction wrong_length_in contexts ≡ []
  pub lease : values_of_kind direction lease_in contexts ≡ option_to_list v.lease
  pub durable : values_of_kind direction durable_in contexts ≡ (if v.durable then true ∷ [] else [])
  pub reconnect : values_of_kind direction reconnect_in contexts ≡ option_to_list v.reconnect

-- the text is laid out as contexts of this value
abbrev pub HoldsValue : Direction → List ℕ → CreateView → Type 0
HoldsValue direction text v = (contexts : List ContextView) × HoldsContexts text contexts × HaveValue direction contexts v
