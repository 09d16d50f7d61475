-- What other keys on a file are to give up.
use Rattle.lease_model.specs.server.GivingUp as model
use Rattle.lease_manager.specs.declared.values.extent.Extent as code
use Rattle.lease_manager.specs.declared.values.want.Wish.{Wish}
use Rattle.lease_manager.specs.declared.values.want.Wish.TheVariants.{AnyHandles, Nothing}

abbrev pub extent_of : code.Extent → model.Extent
extent_of code.TheVariants.Handles = model.Extent.Handles
extent_of code.TheVariants.All = model.Extent.All

abbrev pub wish_of : code.Extent → Wish
wish_of code.TheVariants.Handles = AnyHandles
wish_of code.TheVariants.All = Nothing
