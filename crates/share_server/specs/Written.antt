-- What calls give out, as the definitions see it and as it is written.
use Rattle.std.specs.Prelude.{◌≡◌}
use Rattle.lease_model.specs.messages.FromBytes.{reply_of}
use Rattle.lease_model.specs.messages.Replies as model
use Rattle.lease_model.specs.messages.ToBytes.{reply_written}
use Rattle.share_server.specs.declared.values.out.Out as code

-- bytes are those of `encode`, or the canonical text
abbrev pub out_written : model.Out → code.Out
out_written (model.Out.Sent client reply) = code.TheVariants.Sent (record { 0 = client }) (reply_written reply)
out_written (model.Out.Opened file client) = code.TheVariants.Opened (record { 0 = file }) (record { 0 = client })
out_written (model.Out.Changed file client number patch) =
    code.TheVariants.Changed (record { 0 = file }) (record { 0 = client }) number patch

-- what a reader finds in it
abbrev pub out_of : code.Out → model.Out
out_of (code.TheVariants.Sent client reply) = model.Out.Sent client.0 (reply_of reply)
out_of (code.TheVariants.Opened file client) = model.Out.Opened file.0 client.0
out_of (code.TheVariants.Changed file client number patch) = model.Out.Changed file.0 client.0 number patch

-- it is written as what is found in it
abbrev pub IsWritten : code.Out → Type 0
IsWritten out = out_written (out_of out) ≡ out
