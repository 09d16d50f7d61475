use Rattle.lease_laws.proofs.Words.{◌∙◌, ◌≡◌, ap, sym, values_of, without}
use Rattle.lease_manager.specs.Filed.{AreFiled, has_id}
use Rattle.lease_manager.specs.OpenIndex.{IsIndexOf}
use Rattle.lease_manager.proofs.opens.Filing.{by_its_id, find_filed, filed_removed, left_removed, one_removed, in_order}
use Rattle.lease_manager.proofs.tables.opens.Opens.take.Goals as goal

pub invariant_of-self : goal.invariant_of-self
invariant_of-self c =
    let n = c.args.fid.0 in
    let entries = c.self.inside.by_id.entries in
    let opens = values_of entries in
    let filed : AreFiled c.remove.new.self.entries = rw c.remove.ensures.entries (filed_removed n entries c.self.invariant.0) in
    let now : values_of c.remove.new.self.entries ≡ without (has_id n) (values_of entries) =
    ap values_of c.remove.ensures.entries ∙ left_removed n entries c.self.invariant.0 c.self.invariant.1 in (
      filed,
      in_order c.remove.new.self.entries filed c.remove.ensures.ordered,
      rw now (by_its_id (λ m. IsIndexOf (without (has_id m) opens) c.lose.new.self) n opens c.in-Some.one
          (sym (c.in-Some.ensures.value ∙ find_filed n entries c.self.invariant.0))
          (λ found. c.lose.ensures opens c.self.invariant.1 found c.self.invariant.2)),
    )

pub returns-in-Some : goal.returns-in-Some
returns-in-Some c = rw (← c.self.view_is) (record {
  taken = c.in-Some.ensures.value ∙ find_filed c.args.fid.0 c.self.inside.by_id.entries c.self.invariant.0;
  one_less = rw c.remove.ensures.entries
      (one_removed c.args.fid.0 c.self.inside.by_id.entries c.in-Some.one c.self.invariant.0 (sym c.in-Some.ensures.value));
  left = ap values_of c.remove.ensures.entries
      ∙ left_removed c.args.fid.0 c.self.inside.by_id.entries c.self.invariant.0 c.self.invariant.1;
})

pub returns-in-None-clause-taken : goal.returns-in-None-clause-taken
returns-in-None-clause-taken c = rw (← c.self.view_is)
    (c.in-None.ensures.value ∙ find_filed c.args.fid.0 c.self.inside.by_id.entries c.self.invariant.0)

pub returns-in-None-clause-left : goal.returns-in-None-clause-left
returns-in-None-clause-left c = rw (← c.self.view_is) (ap values_of c.remove.ensures.entries
    ∙ left_removed c.args.fid.0 c.self.inside.by_id.entries c.self.invariant.0 c.self.invariant.1)
