-- What a call comes to.
use Rattle.std.specs.Prelude.{◌≡◌, List, map}
use Rattle.lease_model.specs.server.Progress.{Progress}
use Rattle.share_server.specs.Table.{Table, server_of}
use Rattle.share_server.specs.Written.{out_written}
use Rattle.share_server.specs.declared.values.out.Out as code

-- The table stands for the server after a call of the rules, and the list is what it gives out, in order.
pub record IsAfter (table : Table) (given : List code.Out) (after : Progress) : Type 0 where
  pub server : server_of table ≡ after.server
  pub outs : given ≡ map out_written after.outs
