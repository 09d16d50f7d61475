use Rattle.std.proofs.Common.{◌∙◌, ◌+◌, ◌∷◌, None, ap, sym}
use Rattle.std.proofs.lemmas.Result.{on_ok_weaker}
use Rattle.std.specs.List.{list_any}
use Rattle.capture_walk.specs.Events.{is_stray_of, last_break, last_said}
use Rattle.capture_walk.proofs.Later.{one_longer, one_more}
use Rattle.capture_walk.proofs.latest.Latest.note.Goals as goal

pub returns : goal.returns
returns c = on_ok_weaker c.note_stray.result (λ strays before knows. record {
  counted = c.in_ok-self.ensures ∙ ap (λ count. count + 1) knows.counted
      ∙ sym (one_longer before c.args.event.now);
  said = λ lease later. c.in_ok-note_said.ensures lease later ∙ knows.said lease (c.args.event.now ∷ later)
      ∙ ap (last_said lease None) (one_more before c.args.event.now later);
  broken = λ lease later. c.in_ok-note_broken.ensures lease later ∙ knows.broken lease (c.args.event.now ∷ later)
      ∙ ap (last_break lease None) (one_more before c.args.event.now later);
  strays = λ lease connection asked later. strays lease connection asked later
      ∙ knows.strays lease connection asked (c.args.event.now ∷ later)
      ∙ ap (list_any (is_stray_of lease connection asked)) (one_more before c.args.event.now later);
}) c.note_stray.ensures
