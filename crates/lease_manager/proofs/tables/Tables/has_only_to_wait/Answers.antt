use Rattle.lease_laws.proofs.Words.{◌∙◌, ap, finding, is_ready, refl, sym}
use Rattle.lease_manager.specs.Findings.{look_of}
use Rattle.lease_manager.specs.Requests.{request_like}
use Rattle.lease_manager.specs.StillWaiting.{HasOnlyToWait}
use Rattle.lease_manager.specs.Table.{server_of}
use Rattle.lease_manager.specs.contracts.tables.Tables.{the_view}
use Rattle.lease_manager.proofs.waits.Counted.{in_vain_now}
use Rattle.lease_manager.proofs.tries.Rounds.{needs_unready}
use Rattle.lease_manager.proofs.tables.Tables.has_only_to_wait.Goals as goal

pub returns-in_ok-waits-in-Needs-clause-vain : goal.returns-in_ok-waits-in-Needs-clause-vain
returns-in_ok-waits-in-Needs-clause-vain c = λ yes.
    let look = sym (ap look_of c.in-Needs.is) ∙ c.in_ok-finding.ensures.look in
    let has : HasOnlyToWait (server_of c.args.self.now) c.args.file.0 c.args.client.0 (request_like c.args.ask) = record {
      wants = c.in-Needs.wants.items;
      found = (needs_unready (λ wants. is_ready (request_like c.args.ask) (server_of c.args.self.now).leases wants)
          (finding (server_of c.args.self.now) c.args.client.0 (request_like c.args.ask)) c.in-Needs.wants.items look).0;
      waits = rw c.deref.ensures.value at (c.in_ok-waits-in-Needs.ensures yes);
    } in
    rw (← c.self.view_is)
    (in_vain_now (the_view c.self.inside) c.self.inside.summaries c.args.file.0 c.args.client.0 (request_like c.args.ask)
    c.self.invariant.0 refl (rw (← c.self.view_is) at has))

pub returns-then-awaits_handles-clause-waits : goal.returns-then-awaits_handles-clause-waits
returns-then-awaits_handles-clause-waits c = λ yes.
    c.awaits_handles.ensures c.if-awaits_handles.true c.args.file.0 (c.is_only_about.ensures c.if-not-is_only_about.false)

pub returns-then-awaits_handles-clause-about : goal.returns-then-awaits_handles-clause-about
returns-then-awaits_handles-clause-about c = λ yes. c.is_only_about.ensures c.if-not-is_only_about.false

pub returns-then-awaits_handles-clause-vain : goal.returns-then-awaits_handles-clause-vain
returns-then-awaits_handles-clause-vain c = λ yes.
    let has = c.awaits_handles.ensures c.if-awaits_handles.true c.args.file.0
    (c.is_only_about.ensures c.if-not-is_only_about.false) in
    rw (← c.self.view_is)
    (in_vain_now (the_view c.self.inside) c.self.inside.summaries c.args.file.0 c.args.client.0 (request_like c.args.ask)
    c.self.invariant.0 refl (rw (← c.self.view_is) at has))
