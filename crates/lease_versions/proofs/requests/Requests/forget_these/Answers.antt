use Rattle.lease_laws.proofs.Words.{◌∙◌, rules}
use Rattle.lease_versions.specs.Kept.{requests_of}
use Rattle.lease_versions.proofs.Scans.{tags_end, tags_step}
use Rattle.lease_versions.proofs.requests.Requests.forget_these.Goals as goal

pub loop-tag-preserved : goal.loop-tag-preserved
loop-tag-preserved c = tags_step c.args.client.0 c.args.tags.now c.loop-tag.tag-index _ (requests_of c.loop-tag.self)
    (requests_of c.forget.new.self) (search rules) c.forget.ensures ∙ c.loop-tag.invariant

pub returns : goal.returns
returns c = tags_end c.args.client.0 c.args.tags.now c.loop-tag.tag-index (requests_of c.loop-tag.self) (search rules)
    ∙ c.loop-tag.invariant
