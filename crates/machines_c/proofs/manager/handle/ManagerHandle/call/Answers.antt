-- Something comes to the manager that is held.
use Rattle.lease_laws.proofs.Words.{◌∙◌, Some, ap, refl, sym}
use Rattle.std.specs.Option.{option_map}
use Rattle.machines_c.specs.manager.Coming.{Came, MayBeLostBy}
use Rattle.machines_c.proofs.Holding.{is_call}
use Rattle.machines_c.proofs.manager.handle.ManagerHandle.call.Goals as goal

pub returns-in-Some : goal.returns-in-Some
returns-in-Some c = is_call (Came c.args.coming) (MayBeLostBy c.args.coming) c.deref_mut.result.now
    c.call-came.new.self c.args.self.now.held c.keep.new.self.held c.call-came.result c.keep.result _
    (sym c.take.ensures.taken ∙ (ap (option_map (λ managing. managing.value)) c.in-Some.is
    ∙ ap Some (sym c.deref_mut.ensures.value))) refl c.call-came.ensures.after
    (λ never idle. never (c.call-came.ensures.idle idle)) c.keep.ensures
