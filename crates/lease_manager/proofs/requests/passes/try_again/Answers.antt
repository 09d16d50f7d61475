use Rattle.lease_laws.proofs.Words.{◌++◌, ◌+◌, ◌∙◌, Outcome, [], ap, arith, begun, inl, inr, is_behind, length, refl, subst}
use Rattle.lease_laws.proofs.Words.{sym, take}
use Rattle.std.proofs.lemmas.List.{take-map}
use Rattle.manager_model.specs.Decisions.{told_of}
use Rattle.manager_model.specs.Handling.{Manager, Tagged}
use Rattle.lease_manager.specs.Findings.{outcome_of}
use Rattle.lease_manager.specs.Outs.{handling_of, progress_of}
use Rattle.lease_manager.specs.Passing.{pass_at}
use Rattle.lease_manager.specs.Requests.{request_like}
use Rattle.lease_manager.specs.StillWaiting.{Stays}
use Rattle.lease_manager.specs.Table.{Table, held_at, queue_at, server_of}
use Rattle.lease_manager.specs.contracts.values.request.Held.{the_view}
use Rattle.lease_manager.proofs.tries.Homing.{home_kept, ready_at_home}
use Rattle.lease_manager.proofs.waits.Passing.{answered_here, behind_here, gone, got_held, in_vain_told, waits_here}
use Rattle.lease_manager.proofs.requests.passes.try_again.Goals as goal

pub count_still-requires : goal.count_still-requires
count_still-requires c = λ one is.
    let queue = queue_at c.args.tables.now.queues c.args.file.0 in
    let there = got_held queue c.args.place (the_view c.one.inside) one
    (rw (← c.one.view_is, c.held-held.ensures) at c.index-held-place.is) is in
    subst (Stays (server_of c.args.tables.now) c.args.file.0
    (take c.args.place (held_at c.args.tables.now.queues c.args.file.0))) there
    (inl (ap (is_behind c.args.tables.now.rules (the_view c.one.inside).held)
    (take-map (λ (one : Tagged). one.held) c.args.place queue) ∙ (rw (
      ← c.one.view_is,
      c.held-held.ensures,
      c.rules.ensures,
    ) at (sym c.is_behind.ensures ∙ c.if-is_behind.true))))

pub returns-then-is_behind-clause-step : goal.returns-then-is_behind-clause-step
returns-then-is_behind-clause-step c = λ has.
    ap (λ (table : Table). pass_at c.args.file.0 (c.args.place + 1) has (handling_of table c.args.told.now))
    c.in_ok-count_still.ensures
    ∙ behind_here c.args.file.0 c.args.place has (handling_of c.args.tables.now c.args.told.now) (the_view c.one.inside)
    c.requires (rw (
      ←
          c.one.view_is,
      c.held-held.ensures,
    ) at c.index-held-place.is)
    (rw (← c.one.view_is, c.held-held.ensures, c.rules.ensures) at (sym c.is_behind.ensures ∙ c.if-is_behind.true))

pub returns-then-is_behind-clause-fewer : goal.returns-then-is_behind-clause-fewer
returns-then-is_behind-clause-fewer c =
    let same = ap (λ (table : Table). length (queue_at table.queues c.args.file.0)) c.in_ok-count_still.ensures in
    omega (arith, same)

pub count_still-requires-then-branch : goal.count_still-requires-then-branch
count_still-requires-then-branch c = λ one is.
    let queue = queue_at c.args.tables.now.queues c.args.file.0 in
    let there = got_held queue c.args.place (the_view c.one.inside) one
    (rw (← c.one.view_is, c.held-held.ensures) at c.index-held-place.is) is in
    subst (Stays (server_of c.args.tables.now) c.args.file.0
    (take c.args.place (held_at c.args.tables.now.queues c.args.file.0))) there
    (inr (c.in_ok-has_only_to_wait.ensures.waits c.if-branch.true, c.in_ok-has_only_to_wait.ensures.about c.if-branch.true))

pub returns-then-branch-clause-step : goal.returns-then-branch-clause-step
returns-then-branch-clause-step c = λ has.
    let vain = c.in_ok-has_only_to_wait.ensures.vain c.if-branch.true in
    ap (λ (table : Table). pass_at c.args.file.0 (c.args.place + 1) has (handling_of table c.args.told.now))
    c.in_ok-count_still-2.ensures
    ∙ waits_here c.args.file.0 c.args.place has (handling_of c.args.tables.now c.args.told.now)
    (handling_of c.args.tables.now c.args.told.now)
    (begun (server_of c.args.tables.now)) (the_view c.one.inside) Outcome.Waits c.requires
    (rw (← c.one.view_is, c.held-held.ensures) at c.index-held-place.is)
    (rw (← c.one.view_is, c.held-held.ensures, c.rules.ensures) at (sym c.is_behind.ensures ∙ c.if-is_behind.false))
    (sym (vain [])) refl (in_vain_told (handling_of c.args.tables.now c.args.told.now) (the_view c.one.inside) vain)

pub returns-then-branch-clause-fewer : goal.returns-then-branch-clause-fewer
returns-then-branch-clause-fewer c =
    let same = ap (λ (table : Table). length (queue_at table.queues c.args.file.0)) c.in_ok-count_still-2.ensures in
    omega (arith, same)

pub returns-then-waits-clause-step : goal.returns-then-waits-clause-step
returns-then-waits-clause-step c = λ has.
    waits_here c.args.file.0 c.args.place has (handling_of c.args.tables.now c.args.told.now)
    (handling_of c.try_now.new.tables c.tell.new.self)
    (progress_of c.try_now.new.tables c.try_now.new.outs) (the_view c.one.inside) (outcome_of c.in_ok-outcome.outcome)
    c.requires (rw (
      ←
          c.one.view_is,
      c.held-held.ensures,
    ) at c.index-held-place.is)
    (rw (← c.one.view_is, c.held-held.ensures, c.rules.ensures) at (sym c.is_behind.ensures ∙ c.if-is_behind.false))
    c.in_ok-outcome.ensures.ended (sym c.waits.ensures ∙ c.if-waits.true)
    (gone c.args.tables.now c.try_now.new.tables c.args.told.now c.tell.new.self c.try_now.new.outs c.one.inside.tag.0
    c.in_ok-outcome.ensures.queues (c.in_ok-tell.ensures
    ∙ ap (λ said. said ++ told_of c.one.inside.tag.0 c.try_now.new.outs) c.in_ok-outcome.ensures.told))

pub returns-then-waits-clause-fewer : goal.returns-then-waits-clause-fewer
returns-then-waits-clause-fewer c =
    let same = ap (λ queues. length (queue_at queues c.args.file.0)) c.in_ok-outcome.ensures.queues in
    omega (arith, same)

pub conclude-requires-clause-met : goal.conclude-requires-clause-met
conclude-requires-clause-met c = λ ready.
    home_kept (server_of c.try_now.new.tables) (server_of c.release.new.self) c.one.inside.client.0
    (request_like c.one.inside.ask)
    (sym (ap (λ (manager : Manager). manager.server.opens) c.release.ensures))
    (ready_at_home c.one.inside.client.0 (request_like c.one.inside.ask) (begun (server_of c.args.tables.now))
    (progress_of c.try_now.new.tables c.try_now.new.outs) _ c.in_ok-outcome.ensures.ended ready)

pub returns : goal.returns
returns c = let it = answered_here c.args.file.0 c.args.place c.args.tables.now c.try_now.new.tables c.release.new.self
    c.conclude.new.tables c.args.told.now c.tell-2.new.self c.try_now.new.outs c.conclude.new.outs (the_view c.one.inside)
    (outcome_of c.in_ok-outcome.outcome) c.requires (rw (← c.one.view_is, c.held-held.ensures) at c.index-held-place.is)
    (rw (← c.one.view_is, c.held-held.ensures, c.rules.ensures) at (sym c.is_behind.ensures ∙ c.if-is_behind.false))
    c.in_ok-outcome.ensures.ended (sym c.waits.ensures ∙ c.if-waits.false)
    c.in_ok-outcome.ensures.queues c.release.ensures c.in_ok-conclude.ensures.step
    c.in_ok-conclude.ensures.queues (c.in_ok-tell-2.ensures
    ∙ ap (λ said. said ++ told_of c.one.inside.tag.0 c.conclude.new.outs) c.in_ok-outcome.ensures.told)
    in record { step = it.step; fewer = it.fewer }
