-- The replies on their way to a client, as what is kept of them stands for.
use Rattle.std.specs.Prelude.{List, map}
use Rattle.lease_state.specs.declared.reply.Reply.{Reply}
use Rattle.lease_state.specs.declared.reply.Reply.TheVariants as reply
use Rattle.lease_world.specs.declared.world.replies.Held.{Held}
use Rattle.lease_world.specs.declared.world.replies.Held.TheVariants as held

abbrev pub told : Held → Reply
told (held.Message message) = message
told (held.Read fid bytes) = reply.ReadDone fid bytes

abbrev pub all_told : List Held → List Reply
all_told items = map told items
