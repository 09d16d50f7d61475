use Rattle.lease_laws.proofs.Words.{◌∙◌, List, ap, drop, patches, patches_of, refl, rules, ℕ}
use Rattle.lease_client.proofs.Shows.{patched_rest}
use Rattle.lease_client.proofs.writes.shown.Shown.with_all.Goals as goal

pub returns : goal.returns
returns c = record {
  base = refl;
  bytes = c.in_ok-with_more.ensures
      ∙ (ap (λ (b : List ℕ). patches b (patches_of (drop c.args.self.count c.args.writes.now.items))) c.requires.over
      ∙ patched_rest c.args.self.base c.args.writes.now.items c.args.self.count);
  count = search rules;
}
