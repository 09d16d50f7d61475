use Rattle.lease_laws.proofs.Words.{◌≡◌, drop, patches, patches_of}
use Rattle.lease_client.proofs.writes.shown.with_more.Given as goal

abbrev pub invariant-loop-index : goal.invariant-loop-index
invariant-loop-index l = patches l.more.items (patches_of (drop l.index l.writes.items))
    ≡ patches l.fn.bytes (patches_of (drop l.fn.place l.writes.items))
