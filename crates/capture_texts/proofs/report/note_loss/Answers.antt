use Rattle.std.proofs.Common.{◌∙◌, sym, ap, slice_set}
use Rattle.capture_walk.specs.declared.event.Loss.{Loss}
use Rattle.capture_texts.specs.Reports.{greater}
use Rattle.capture_texts.proofs.Losses.{loss_pushed, loss_placed}
use Rattle.capture_texts.proofs.report.note_loss.Goals as goal

pub returns-in_ok-push-in-None : goal.returns-in_ok-push-in-None
returns-in_ok-push-in-None c =
    c.in_ok-push-in-None.ensures.items
    ∙ sym (loss_pushed c.args.loss c.args.found.now.items (rw c.deref.ensures.value at (sym c.in-None.ensures)))

pub returns-in-Some : goal.returns-in-Some
returns-in-Some c =
    ap (λ (loss : Loss). slice_set c.args.found.now.items c.in-Some.place loss)
    (c.greater.ensures ∙ ap (λ (one : Loss). greater c.args.loss one) c.index.ensures)
    ∙ sym (loss_placed c.args.loss c.args.found.now.items c.in-Some.place c.index.result.now
    (rw c.deref.ensures.value at (sym c.in-Some.ensures)))
