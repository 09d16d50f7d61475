use Rattle.std.proofs.Common.{rules}
use Rattle.std.proofs.lemmas.List.Sorted.{answers_always}
use Rattle.capture_texts.specs.records.Records.{position_of}
use Rattle.capture_texts.proofs.records.record.sort.Goals as goal

pub returns : goal.returns
returns c = record {
  same = c.in_ok-sort_by_key.ensures.permutation;
  rise = c.in_ok-sort_by_key.ensures.sorted position_of (answers_always _ _ _ (λ f a r g called. search rules));
  stay = c.in_ok-sort_by_key.ensures.stable position_of (answers_always _ _ _ (λ f a r g called. search rules));
}
