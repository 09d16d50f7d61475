use Rattle.std.proofs.Common.{arith}
use Rattle.lease_texts.proofs.Feeds.{lowest_feed, mask_of_feeds}
use Rattle.lease_texts.proofs.lines.near_feed.Goals as goal

pub returns : goal.returns
returns c = lowest_feed c.args.text.now _ c.requires (mask_of_feeds c.args.text.now c.requires) c.if-feeds-eq0.false (omega arith)
