-- How the definitions see the lane of a request.
use Rattle.lease_model.specs.server.State as model
use Rattle.lease_manager.specs.declared.values.request.Lane.{Lane}

abbrev pub lane_like : Lane → model.Lane
lane_like (Lane.Leased key) = model.Lane.Leased key.0
lane_like (Lane.Opened file_id) = model.Lane.Opened file_id.0
lane_like Lane.Alone = model.Lane.Alone
