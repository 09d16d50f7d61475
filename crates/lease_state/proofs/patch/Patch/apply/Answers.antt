use Rattle.std.proofs.Common.{rules}
use Rattle.lease_state.proofs.ContentLemmas.{resized-over}
use Rattle.lease_state.proofs.patch.Patch.apply.Goals as goal

pub returns-in_ok-resize-clause-patched : goal.returns-in_ok-resize-clause-patched
returns-in_ok-resize-clause-patched c =
    resized-over c.args.bytes.now.items c.args.self.now.bytes c.resize.new.self.items c.write_over.new.items
    c.args.self.now.offset c.resize.new.self.len c.args.bytes.now.len
    (search rules) (search rules) (search rules) (search rules) (search rules)
