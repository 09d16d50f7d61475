use Rattle.lease_laws.proofs.Words.{◌++◌, ◌∙◌, arith, nat_tests, refl}
use Rattle.lease_texts.specs.Pieces.{lines_of}
use Rattle.leasecheck.proofs.JudgedLines.{first_ends, first_cut, block_behind, refuse_in, text_read}
use Rattle.leasecheck.proofs.judging.Progress.take_block.Goals as goal

pub returns-in-Ok : goal.returns-in-Ok
returns-in-Ok c = λ text has.
    let found = c.in-Some.ensures in
    let is = c.as_slice.ensures.value ∙ c.in_ok-extend_from_slice-2.ensures.items in
    let ends = first_ends text c.args.begun.now.items c.args.block.now c.as_slice.result.now c.in-Some.place found.0.high
    (grind (arith, nat_tests, found.1)) is in
    let read = text_read c.in-Ok.progress text c.as_slice.result.now has.whole ends (c.in-Ok.ensures (lines_of text) has.read) in
    block_behind text c.as_slice.result.now c.args.begun.now.items _ c.args.block.now _ c.take_whole_lines.result
    (first_cut c.args.begun.now.items c.args.block.now c.as_slice.result.now c.in-Some.place _ found.0.high is refl)
    (c.take_whole_lines.ensures (text ++ c.as_slice.result.now) read)

pub returns-in-Err : goal.returns-in-Err
returns-in-Err c = λ text has.
    let found = c.in-Some.ensures in
    let is = c.as_slice.ensures.value ∙ c.in_ok-extend_from_slice-2.ensures.items in
    let ends = first_ends text c.args.begun.now.items c.args.block.now c.as_slice.result.now c.in-Some.place found.0.high
    (grind (arith, nat_tests, found.1)) is in
    refuse_in c.in-Err.refusal text c.as_slice.result.now _ _ has.whole ends
    (first_cut c.args.begun.now.items c.args.block.now c.as_slice.result.now c.in-Some.place _ found.0.high is refl)
    (c.in-Err.ensures (lines_of text) has.read)
