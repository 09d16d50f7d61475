-- Whether there is an open of the FileId is asked of the manager that is held.
use Rattle.std.proofs.Common.{rules, ◌≡◌, ◌==◌, refl}
use Rattle.std.specs.List.{list_any}
use Rattle.lease_model.specs.server.State.{Open}
use Rattle.machines_c.specs.handles.Codes.{flag_of}
use Rattle.machines_c.proofs.manager.queries.smblease_manager_has_open.Goals as goal

pub returns-in-Some-clause-some : goal.returns-in-Some-clause-some
returns-in-Some-clause-some c =
    let has_open : c.has_open-has_open.result
    ≡ list_any (λ (other : Open). other.file_id == c.args.file_id) c.deref.result.now.manager.opens
    = c.has_open-has_open.ensures in
    let flag : c.from.result ≡ flag_of c.has_open-has_open.result = search rules in
    rw (← c.take.ensures.taken, c.in-Some.is, flag, has_open, c.deref.ensures) refl
