use Rattle.machines_c.proofs.manager.leaving.smblease_manager_leave.Goals as goal

pub returns-in-Ok-Ok-clause-call : goal.returns-in-Ok-Ok-clause-call
returns-in-Ok-Ok-clause-call c = λ never. rw (c.code.ensures, ← c.in-Ok-Ok.ensures, ← c.in-Ok-Ok.ensures')
    (rw (c.deref.ensures.value, c.deref-in-Ok-Ok.ensures.value) at c.leave.ensures)
