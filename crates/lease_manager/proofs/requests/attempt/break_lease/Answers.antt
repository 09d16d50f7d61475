use Rattle.lease_laws.proofs.Words.{◌∙◌, Server, ap, inl, inr, is_breaking, sym, with_lease}
use Rattle.lease_manager.specs.Outs.{progress_of}
use Rattle.lease_manager.specs.Table.{server_of}
use Rattle.lease_manager.proofs.tries.Breaking.{not_broken, is_broken}
use Rattle.lease_manager.proofs.requests.attempt.break_lease.Goals as goal
use Rattle.lease_manager.proofs.requests.attempt.break_lease.Goals.{then-not-has_lease-via-then-not-has_lease}
use Rattle.lease_manager.proofs.requests.attempt.break_lease.Goals.{then-not-has_lease-via-else-not-has_lease+then-is_breaking}

pub returns-then-not-has_lease-clause-step : goal.returns-then-not-has_lease-clause-step
returns-then-not-has_lease-clause-step c = not_broken (progress_of c.args.tables.now c.args.outs.now) c.args.key _
    (elim c.then-not-has_lease.branch [
      | then-not-has_lease-via-then-not-has_lease w ↦ inl (sym c.has_lease.ensures ∙ w.if-not-has_lease.true)
      | then-not-has_lease-via-else-not-has_lease+then-is_breaking w ↦
          inr (ap is_breaking (sym c.lease-lease.ensures) ∙ (sym w.is_breaking.ensures ∙ w.if-is_breaking.true))
    ])

pub returns-clause-step : goal.returns-clause-step
returns-clause-step c = is_broken c.args.tables.now c.put_lease.new.self c.args.outs.now c.lease_broken.new.self c.args.key _ _
    c.lease-lease.ensures (sym c.has_lease.ensures ∙ c.if-not-has_lease.false)
    (sym c.is_breaking.ensures ∙ c.if-is_breaking.false)
    (c.in_ok-put_lease.ensures.changed ∙ ap (with_lease (server_of c.args.tables.now) c.args.key) c.broken.ensures)
    c.in_ok-lease_broken.ensures

pub returns-clause-opens : goal.returns-clause-opens
returns-clause-opens c = ap (λ (server : Server). server.opens) c.in_ok-put_lease.ensures.changed
