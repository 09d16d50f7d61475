use Rattle.lease_manager.proofs.tables.opens.Opens.push.Goals as goal

pub file-requires : goal.file-requires
file-requires c = record {
  here = c.requires.here;
  filed = c.self.invariant.0;
  last = λ other a. c.requires.last other (rw (← c.self.view_is) a);
  indexed = c.self.invariant.2;
}

pub invariant_of-self : goal.invariant_of-self
invariant_of-self c = (c.in-Ok.ensures.still_filed, c.in-Ok.ensures.in_order, c.in-Ok.ensures.still_indexed)

pub returns-in-Ok : goal.returns-in-Ok
returns-in-Ok c = rw (← c.self.view_is) c.in-Ok.ensures.opens
