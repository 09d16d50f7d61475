use Rattle.lease_laws.proofs.Words.{◌-◌, ◌∙◌, arith}
use Rattle.share_server.proofs.Numbering.{is_numbered, past_is_none, zero_is_none}
use Rattle.share_server.proofs.files.Files.bytes.Goals as goal

pub returns-then-number-eq0 : goal.returns-then-number-eq0
returns-then-number-eq0 c =
    let is = c.if-number-eq0.true in let same = c.from-number.ensures in
    zero_is_none c.args.self.now c.args.file.0 (omega (arith, is, same))

pub returns-then-number-len : goal.returns-then-number-len
returns-then-number-len c =
    let out = c.if-number-len.true in let same = c.from-number.ensures in let len = c.len.ensures in
    rw (← c.self.view_is) (past_is_none c.self.inside.contents.items c.args.file.0 (omega (arith, out, same, len)))

pub returns : goal.returns
returns c =
    let low = c.if-number-eq0.false in let high = c.if-number-len.false in
    let same = c.from-number.ensures in let len = c.len.ensures in
    rw (← c.self.view_is) (c.bytes.ensures.list
    ∙ is_numbered c.self.inside.contents.items c.args.file.0 (c.from-number.result - 1) c.index.result.now
    (omega (arith, low, same)) (omega (arith, low, high, len)) c.index.ensures)
