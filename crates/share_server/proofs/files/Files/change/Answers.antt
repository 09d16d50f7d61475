use Rattle.lease_laws.proofs.Words.{◌-◌, ◌∙◌, [], ap, arith, numbered}
use Rattle.std.proofs.Math.ListN.{set}
use Rattle.lease_state.specs.Content.{patch as patched}
use Rattle.share_server.proofs.Numbering.{content_edit}
use Rattle.share_server.proofs.files.Files.change.Goals as goal

pub returns : goal.returns
returns c =
    let low = c.if-number-eq0.false in let high = c.if-number-len.false in
    let same = c.from-number.ensures in let len = c.len.ensures in
    rw (← c.self.view_is) (ap (λ content. numbered [] (set c.self.inside.contents.items (c.from-number.result - 1) content))
    c.in_ok-apply.ensures
    ∙ content_edit (λ content. patched content c.args.patch.now) c.self.inside.contents.items c.args.file.0
    (c.from-number.result - 1) c.index_mut.result.now
    (omega (arith, low, same)) (omega (arith, low, high, len)) c.index_mut.ensures.value)
