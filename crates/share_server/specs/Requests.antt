-- The code's requests, whose create contexts were read, as the definitions see them.
use Rattle.std.specs.Prelude.{ℕ, Option, Some, None, List, ◌∷◌, map}
use Rattle.std.specs.BTreeMap.{BTreeMap}
use Rattle.lease_manager.specs.Requests.{ask_of}
use Rattle.lease_model.specs.messages.Requests as model
use Rattle.share_server.specs.declared.values.request.FileRequest as code

abbrev pub file_request_of : code.FileRequest → model.FileRequest
file_request_of (code.TheVariants.Create file access share ask) =
    model.FileRequest.Create file.0 access share (Some (ask_of ask))
file_request_of (code.TheVariants.Read fid) = model.FileRequest.Read fid.0
file_request_of (code.TheVariants.Write fid number patch) = model.FileRequest.Write fid.0 number patch
file_request_of (code.TheVariants.Close fid) = model.FileRequest.Close fid.0

-- those of a map
abbrev pub requests_of : BTreeMap ℕ code.FileRequest → List (ℕ × model.FileRequest)
requests_of by_tag = map (λ entry. (entry.0, file_request_of entry.1)) by_tag.entries

-- the request asked last before the others
abbrev pub with_last : Option (ℕ × code.FileRequest) → List (ℕ × model.FileRequest) → List (ℕ × model.FileRequest)
with_last None requests = requests
with_last (Some last) requests = (last.0, file_request_of last.1) ∷ requests
