use Rattle.lease_laws.proofs.Words.{◌≡◌, drop}
use Rattle.lease_manager.specs.Parting.{tag_numbers}
use Rattle.lease_versions.specs.Asking.{without_tags}
use Rattle.lease_versions.specs.Kept.{requests_of}
use Rattle.lease_versions.proofs.requests.Requests.forget_these.Given as goal

abbrev pub invariant-loop-tag : goal.invariant-loop-tag
invariant-loop-tag l = without_tags l.client.0 (tag_numbers (drop l.tag-index l.tags)) (requests_of l.self)
    ≡ without_tags l.client.0 (tag_numbers l.tags) (requests_of l.fn.self)
