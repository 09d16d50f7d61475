use Rattle.std.proofs.Common.{◌∙◌}
use Rattle.std.proofs.lemmas.Result.{on_ok_weaker}
use Rattle.capture_walk.specs.Chains.{is_gone}
use Rattle.capture_walk.specs.Index.{is_proof_of}
use Rattle.capture_walk.proofs.Indexed.{any_more, places_more}
use Rattle.capture_walk.proofs.index.Index.note.Goals as goal

pub returns : goal.returns
returns c = on_ok_weaker c.note_gone.result (λ gone later events at leads. record {
  whole = c.in_ok-note.ensures.whole leads.whole;
  files = c.in_ok-note.ensures.files leads.whole later ∙ leads.files;
  leases = λ file. c.in_ok-note.ensures.leases leads.whole file later ∙ leads.leases file;
  places = λ lease. places_more lease events _ _ c.args.place c.args.event.now later at (c.in_ok-note_place.ensures lease)
      ∙ leads.places lease;
  lost = λ lease. c.in_ok-note-2.ensures lease later ∙ leads.lost lease;
  taken = λ sent. any_more (is_proof_of sent) _ _ c.args.event.now later (c.in_ok-note_taken.ensures sent) ∙ leads.taken sent;
  gone = λ number. any_more (is_gone number) _ _ c.args.event.now later (gone number) ∙ leads.gone number;
}) c.note_gone.ensures
