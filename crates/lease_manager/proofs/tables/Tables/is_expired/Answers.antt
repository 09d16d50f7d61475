use Rattle.lease_laws.proofs.Words.{◌∙◌, ap, sym}
use Rattle.lease_manager.proofs.opens.Expiring.{expired_in, found_bytes, has_bytes}
use Rattle.lease_manager.proofs.tables.Tables.is_expired.Goals as goal

pub returns-in-Some : goal.returns-in-Some
returns-in-Some c = rw (← c.self.view_is, ← c.key.view_is) (c.contains.ensures
    ∙ (found_bytes c.key.inside.bytes c.in-Some.keys.now.keys ∙ (ap (has_bytes c.key.inside.bytes.0) c.in-Some.ensures
    ∙ sym (expired_in c.self.inside.expired _))))

pub returns-in-None : goal.returns-in-None
returns-in-None c = rw (← c.self.view_is, ← c.key.view_is) (ap (has_bytes c.key.inside.bytes.0) c.in-None.ensures
    ∙ sym (expired_in c.self.inside.expired _))
