use Rattle.lease_model.specs.values.Limits.{last_file_number}
use Rattle.share_server.proofs.files.Files.new.Goals as goal

pub returns : goal.returns
unfolding last_file_number
returns c = c.truncate.ensures.items
