-- What becomes of a create by its contexts, before the manager is asked.
use Rattle.std.specs.Prelude.{◌≡◌, ℕ, Bool, true, false, Option, Some, None, List}
use Rattle.lease_state.specs.declared.status.Status.{Status}
use Rattle.lease_versions.specs.Asking.{create_asked, durable_guid, with_asked}
use Rattle.lease_versions.specs.Layer.{Asked, Layer}
use Rattle.lease_versions.specs.Refusals.{HasCreate, HasNoCreate, HasNoOpen, HasOpen, IsAgain, reconnect_refusal}
use Rattle.lease_versions.specs.declared.carried.Arrival as arrival
use Rattle.lease_versions.specs.declared.carried.Replayed as replayed
use Rattle.lease_wire_v2.specs.Names.{CreateView, ReconnectView}

-- DH2C of an open that is there under another guid
abbrev pub refusal_in : Option ReconnectView → Layer → Option Status
refusal_in None layer = None
refusal_in (Some (ReconnectView.FirstId file_id)) layer = None
refusal_in (Some (ReconnectView.SecondId again)) layer =
    reconnect_refusal again.create_guid (layer.opens again.persistent_id)

-- What is found of a guid that a create of this client has, where its request is a replay or isn't.
pub record IsFound (client : ℕ) (guid : List ℕ) (replay : Bool) (layer : Layer) (found : Option replayed.Replayed) : Type 0 where
  pub duplicate : HasOpen client guid layer → replay ≡ false → found ≡ Some replayed.TheVariants.DuplicateObjectId
  pub again : HasOpen client guid layer → replay ≡ true → IsAgain client guid layer found
  pub waits : HasNoOpen client guid layer → HasCreate client guid layer → replay ≡ true
      → found ≡ Some replayed.TheVariants.FileNotAvailable
  pub fresh : HasNoOpen client guid layer → HasNoCreate client guid layer → found ≡ None
  pub asked : HasNoOpen client guid layer → replay ≡ false → found ≡ None

-- a create without DH2Q has no guid of its own
abbrev pub IsFoundOf : ℕ → Option (List ℕ) → Bool → Layer → Option replayed.Replayed → Type 0
IsFoundOf client None replay layer found = found ≡ None
IsFoundOf client (Some guid) replay layer found = IsFound client guid replay layer found

-- The manager is to be asked, and it is known what for; or the create is refused or was asked before, and nothing has changed.
abbrev pub HasArrived : ℕ → ℕ → CreateView → Bool → Layer → Layer → arrival.Arrival → Type 0
HasArrived client tag ask replay before after arrival.TheVariants.Asked = (refusal_in ask.reconnect before ≡ None)
    × IsFoundOf client (durable_guid ask.durable) replay before None
    × (after ≡ with_asked client tag (Asked.Create (create_asked ask)) before)
HasArrived client tag ask replay before after (arrival.TheVariants.Refused status) =
    (refusal_in ask.reconnect before ≡ Some status) × (after ≡ before)
HasArrived client tag ask replay before after (arrival.TheVariants.Again found) = (refusal_in ask.reconnect before ≡ None)
    × IsFoundOf client (durable_guid ask.durable) replay before (Some found) × (after ≡ before)
