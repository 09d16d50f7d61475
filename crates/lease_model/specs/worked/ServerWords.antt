-- Words for worked calls of a server.
use Rattle.std.specs.Prelude.{List, [], ◌∷◌}
use Rattle.lease_state.specs.Rules.{profile_rules}
use Rattle.lease_state.specs.declared.rules.Rules.{Rules}
use Rattle.lease_model.specs.messages.Replies.{Out}
use Rattle.lease_model.specs.server.Calls.{Call, called}
use Rattle.lease_model.specs.server.State.{Server, new_server_under}
use Rattle.lease_model.specs.values.Keys.{Key}
use Rattle.lease_model.specs.worked.ValueWords.{sample_key}

-- the server after calls, and what each of them gave out
unfoldable pub server_after : Server → List Call → Server
server_after server [] = server
server_after server (call ∷ calls) = server_after (called server call).server calls

unfoldable pub outs_along : Server → List Call → List (List Out)
outs_along server [] = []
outs_along server (call ∷ calls) = (called server call).outs ∷ outs_along (called server call).server calls

-- the sample key as a key of client 1
abbrev pub sample_named : Key
sample_named = record { client = 1; bytes = sample_key }

-- two files, `abc` and an empty one
abbrev pub two_files_under : Rules → Server
two_files_under rules = new_server_under rules ((0x61 ∷ 0x62 ∷ 0x63 ∷ []) ∷ [] ∷ [])

-- the same with three clients
abbrev pub three_joined_under : Rules → Server
three_joined_under rules = server_after (two_files_under rules) (Call.Join 1 ∷ Call.Join 2 ∷ Call.Join 3 ∷ [])

-- the same with the profile's rules
abbrev pub two_files : Server
two_files = two_files_under profile_rules

abbrev pub three_joined : Server
three_joined = three_joined_under profile_rules
