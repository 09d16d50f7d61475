-- The code's requests as the definitions see them.
use Rattle.std.specs.Prelude.{ℕ, Bool, Some, Result, Ok, Err, suc, [], if◌then◌else◌}
use Rattle.std.specs.Option.{option_map}
use Rattle.lease_state.specs.State.{state_of}
use Rattle.lease_state.specs.declared.content.TheConstants.{FILE_LIMIT}
use Rattle.lease_manager.specs.declared.values.number.FileNo.{FileNo}
use Rattle.lease_state.specs.declared.patch.Patch.{Patch}
use Rattle.lease_state.specs.declared.status.Status.{Status}
use Rattle.lease_state.specs.declared.key.LeaseKey.{LeaseKey}
use Rattle.lease_state.specs.declared.state.LeaseState.{LeaseState}
use Rattle.lease_model.specs.messages.Requests as model
use Rattle.lease_manager.specs.declared.values.request.CreateAsk as create
use Rattle.lease_manager.specs.declared.values.request.Ask as asked

abbrev pub lease_asked : LeaseKey × LeaseState → model.LeaseOf
lease_asked lease = record { key = lease.0.0; state = state_of lease.1 }

abbrev pub ask_of : create.CreateAsk → model.CreateAsk
ask_of ask = record {
  lease = option_map lease_asked ask.lease;
  durable = ask.durable;
  reconnect = option_map (λ file_id. file_id.0) ask.reconnect;
}

-- a write without bytes, at a place from which it is seen whether it ends within the limit of a file
abbrev pub patch_like : Bool → Patch
patch_like fits = record { offset = if fits then 0 else suc FILE_LIMIT; bytes = [] }

-- the request without bytes
abbrev pub request_like : asked.Ask → model.FileRequest
request_like (asked.TheVariants.Create file access share ask) =
    model.FileRequest.Create file.0 access share (Some (ask_of ask))
request_like (asked.TheVariants.Read fid) = model.FileRequest.Read fid.0
request_like (asked.TheVariants.Write fid fits) = model.FileRequest.Write fid.0 0 (patch_like fits)
request_like (asked.TheVariants.Close fid) = model.FileRequest.Close fid.0

-- the file that a request is about, or the status that refuses it
abbrev pub file_result : Result FileNo Status → Result ℕ Status
file_result (Ok file) = Ok file.0
file_result (Err status) = Err status
