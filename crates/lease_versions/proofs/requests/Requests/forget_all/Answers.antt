use Rattle.lease_laws.proofs.Words.{◌==◌, not, rules}
use Rattle.std.proofs.lemmas.Map.Made.{filter_same_pairs}
use Rattle.lease_versions.proofs.Scans.{client_gone}
use Rattle.lease_versions.proofs.requests.Requests.forget_all.Goals as goal

pub returns : goal.returns
returns c = client_gone c.args.self.now (record { by_tag = c.retain.new.self }) c.args.client.0
    (filter_same_pairs _ (λ e. not (e.0.client == c.args.client.0)) _ (λ k v b w f' t. search rules) _ _ c.retain.ensures.filtered)
