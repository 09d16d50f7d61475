use Rattle.lease_laws.proofs.Words.{refl}
use Rattle.lease_reasons.proofs.explaining.stale.Goals as goal

pub returns-in_ok-told-in-CachedRead : goal.returns-in_ok-told-in-CachedRead
returns-in_ok-told-in-CachedRead c = rw c.in-CachedRead.is (
  c.in_ok-told-in-CachedRead.told,
  refl,
  c.in_ok-told-in-CachedRead.ensures,
)
