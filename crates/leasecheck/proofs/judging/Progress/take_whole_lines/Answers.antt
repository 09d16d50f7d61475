use Rattle.lease_laws.proofs.Words.{◌≡◌, arith, nat_tests, refl, sym}
use Rattle.std.proofs.lemmas.List.{take-append-drop}
use Rattle.lease_texts.specs.Pieces.{lines_of}
use Rattle.leasecheck.proofs.Blocks.{ends_with_take}
use Rattle.leasecheck.proofs.JudgedLines.{took_whole, refuse_in}
use Rattle.leasecheck.proofs.judging.Progress.take_whole_lines.Goals as goal

pub returns-in_ok-extend_from_slice-in-Ok : goal.returns-in_ok-extend_from_slice-in-Ok
returns-in_ok-extend_from_slice-in-Ok c = λ text has.
    let found = c.in-Some.ensures in
    took_whole c.in-Ok.progress text c.args.block.now c.args.begun.now.items _ c.in-Some.place _ has.whole found.0.high
    (grind (arith, nat_tests, found.1)) (c.in-Ok.ensures (lines_of text) has.read) refl c.requires
    c.in_ok-extend_from_slice-in-Ok.ensures.items

pub returns-in-Err : goal.returns-in-Err
returns-in-Err c = λ text has.
    let found = c.in-Some.ensures in
    let feed : _ ≡ 10 = grind (arith, nat_tests, found.1) in
    refuse_in c.in-Err.refusal text _ c.args.block.now _ has.whole (ends_with_take text c.args.block.now c.in-Some.place
    found.0.high feed) (sym (take-append-drop _ c.args.block.now)) (c.in-Err.ensures (lines_of text) has.read)
