-- The code's phases of an entry as the definitions see them.
use Rattle.lease_model.specs.client.State as model
use Rattle.lease_client.specs.declared.entry.Phase as code

abbrev pub phase_of : code.Phase → model.Phase
phase_of code.TheVariants.Closed = model.Phase.Closed
phase_of (code.TheVariants.Opening access share) = model.Phase.Opening access share
phase_of (code.TheVariants.Live live) = model.Phase.Live live
phase_of (code.TheVariants.Offline parted) = model.Phase.Offline parted
phase_of (code.TheVariants.Reconnecting parted) = model.Phase.Reconnecting parted
