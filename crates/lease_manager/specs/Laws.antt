-- Managers of the code, and those of which hosts are proved to be servers.
use Rattle.std.specs.Prelude.{◌≡◌, ℕ}
use Rattle.lease_state.specs.declared.number.FileId.{FileId}
use Rattle.lease_state.specs.declared.patch.Patch.{Patch}
use Rattle.lease_state.specs.declared.rules.Rules.{Rules}
use Rattle.lease_model.specs.messages.Requests.{FileRequest}
use Rattle.lease_model.specs.values.Patches.{is_within_limit}
use Rattle.manager_model.specs.Bare.{bare_request}
use Rattle.manager_model.specs.Handling.{last_file, new_manager}
use Rattle.manager_model.specs.Hosting.{fresh_manager}
use Rattle.lease_manager.specs.Requests.{request_like}
use Rattle.lease_manager.specs.declared.values.request.Ask as asked

-- a new manager is that of a server with all files, where nothing is open
abbrev pub FirstIsOfHosts : Type 0
FirstIsOfHosts = (rules : Rules) → new_manager rules ≡ fresh_manager rules last_file

-- a write that is asked by whether it fits is the write without its bytes
abbrev pub WritesAreBare : Type 0
WritesAreBare = (fid : FileId) (number : ℕ) (patch : Patch)
    → request_like (asked.TheVariants.Write fid (is_within_limit patch)) ≡ bare_request (FileRequest.Write fid.0 number patch)
