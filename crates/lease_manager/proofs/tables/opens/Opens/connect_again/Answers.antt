use Rattle.lease_laws.proofs.Words.{◌∙◌, Open, true, map, sym, values_of}
use Rattle.lease_manager.specs.Filed.{connected_at}
use Rattle.lease_manager.specs.OpenIndex.{IsIndexOf}
use Rattle.lease_manager.proofs.opens.Filing.{by_its_id, find_filed, values_unset}
use Rattle.lease_manager.proofs.tables.opens.Opens.connect_again.Goals as goal

pub invariant_of-self-in-Some : goal.invariant_of-self-in-Some
invariant_of-self-in-Some c =
    let n = c.args.fid.0 in
    let entries = c.self.inside.by_id.entries in
    let opens = values_of entries in (
      c.set_connected.ensures.still_filed,
      c.set_connected.ensures.still_in_order,
      rw c.set_connected.ensures.opens
          (by_its_id (λ m. IsIndexOf (map (connected_at m true) opens) c.come_back.new.self) n opens c.in-Some.one.now
          (sym (c.in-Some.ensures.value ∙ find_filed n entries c.self.invariant.0))
          (λ found. c.in_ok-come_back-in-Some.ensures.back opens c.self.invariant.1 found c.self.invariant.2)),
    )

pub returns-in-None-clause-changed : goal.returns-in-None-clause-changed
returns-in-None-clause-changed c = rw (← c.self.view_is)
    (values_unset c.args.fid.0 (λ (o : Open). record o { connected = true }) c.self.inside.by_id.entries
    c.self.invariant.0 (sym c.in-None.ensures.value))

pub invariant_of-self : goal.invariant_of-self
invariant_of-self c = (
  c.self.invariant.0,
  c.self.invariant.1,
  c.in_err-come_back-in-Some.ensures.refused (values_of c.self.inside.by_id.entries) c.self.invariant.2,
)
