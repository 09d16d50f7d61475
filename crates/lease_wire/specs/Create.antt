-- What a request asks for and what a response grants, as the definitions see them.
use Rattle.std.specs.Prelude.{◌≡◌, ℕ, Bool, false, None, Result, Ok, Err, List, ◌↔◌}
use Rattle.std.specs.Option.{option_map}
use Rattle.lease_state.specs.State.{state_of}
use Rattle.lease_state.specs.declared.key.LeaseKey.{LeaseKey}
use Rattle.lease_state.specs.declared.state.LeaseState.{LeaseState}
use Rattle.lease_wire.specs.Names.{LeaseView, CreateView, HoldsValue}
use Rattle.lease_wire.specs.Faults.{IsFaultOf}
use Rattle.lease_wire.specs.Gathering.{value_of}
use Rattle.lease_wire.specs.Canonical.{IsWritable, canonical_text}
use Rattle.lease_wire.specs.declared.create.CreateAsk.{CreateAsk}
use Rattle.lease_wire.specs.declared.create.CreateAnswer.{CreateAnswer}
use Rattle.lease_wire.specs.declared.create.Direction.{Direction}
use Rattle.lease_wire.specs.declared.fault.WireFault.{WireFault}

-- a request tells of no break in progress
abbrev pub asked_view : LeaseKey × LeaseState → LeaseView
asked_view lease = record { key = lease.0.0; state = state_of lease.1; breaking = false }

abbrev pub granted_view : LeaseKey × LeaseState × Bool → LeaseView
granted_view lease = record { key = lease.0.0; state = state_of lease.1; breaking = lease.2 }

abbrev pub ask_of : CreateAsk → CreateView
ask_of ask = record {
  lease = option_map asked_view ask.lease;
  durable = ask.durable;
  reconnect = option_map (λ file_id. file_id.0) ask.reconnect;
}

-- a response has no reconnect
abbrev pub answer_of : CreateAnswer → CreateView
answer_of answer = record {
  lease = option_map granted_view answer.lease;
  durable = answer.durable;
  reconnect = None;
}

abbrev pub ask_result : Result CreateAsk WireFault → Result CreateView WireFault
ask_result (Ok ask) = Ok (ask_of ask)
ask_result (Err fault) = Err fault

abbrev pub answer_result : Result CreateAnswer WireFault → Result CreateView WireFault
answer_result (Ok answer) = Ok (answer_of answer)
answer_result (Err fault) = Err fault

-- The answer of a reader is right for a text: it gives a value exactly where the text holds it, and a
-- fault exactly where it is the text's.
pub record IsReadingOf (direction : Direction) (text : List ℕ) (answer : Result CreateView WireFault) : Type 0 where
  pub value : (v : CreateView) → (answer ≡ Ok v) ↔ HoldsValue direction text v
  pub fault : (fault : WireFault) → (answer ≡ Err fault) ↔ IsFaultOf direction text fault

-- the function that callers compute with is right for every text
abbrev pub ValueIsRead : Type 0
ValueIsRead = (direction : Direction) (text : List ℕ) → IsReadingOf direction text (value_of direction text)

-- what is written holds the value
abbrev pub WrittenHoldsValue : Type 0
WrittenHoldsValue = (direction : Direction) (v : CreateView) → IsWritable direction v
    → HoldsValue direction (canonical_text direction v) v

-- and so it is read back
abbrev pub WrittenReadsBack : Type 0
WrittenReadsBack = (direction : Direction) (v : CreateView) → IsWritable direction v
    → value_of direction (canonical_text direction v) ≡ Ok v
