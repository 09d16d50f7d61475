-- What calls of a server in a handle come to, by the rules of servers.
use Rattle.std.specs.Prelude.{◌≡◌, ℕ, Bool, true, List, [], Option, Some, None}
use Rattle.std.specs.Option.{option_map}
use Rattle.lease_model.specs.server.Progress.{Progress}
use Rattle.lease_model.specs.server.State as model
use Rattle.share_server.specs.Outs.{IsAfter}
use Rattle.share_server.specs.Table.{Table, server_of}
use Rattle.share_server.specs.declared.values.out.Out.{Out}
use Rattle.machines_c.specs.declared.server.files.Files.{Files}
use Rattle.machines_c.specs.declared.server.handle.Hosted.{Hosted}

-- a server, and what its last call gave out
pub record Running : Type 0 where
  pub server : Table
  pub outs : List Out

-- the server that a handle holds
abbrev pub running : Option Hosted → Option Running
running None = None
running (Some hosted) = option_map (λ server. record { server = server; outs = hosted.outs.items }) hosted.server

-- what the last call gave out: nothing, where no server is held
abbrev pub outs_given : Option Running → List Out
outs_given None = []
outs_given (Some one) = one.outs

-- the files that a handle holds
abbrev pub files_in : Option Files → List (List ℕ)
files_in None = []
files_in (Some files) = files.contents.items

-- The server did what the rules say.
abbrev pub Served : (model.Server → Progress) → Running → Running → Type 0
Served rule old new = IsAfter new.server new.outs (rule (server_of old.server))

-- Where a call does nothing, the machine is never lost.
abbrev pub MayBeLostUnless : (model.Server → Bool) → Running → Type 0
MayBeLostUnless is_idle old = is_idle (server_of old.server) ≡ true → ⊥
