use Rattle.lease_laws.proofs.Words.{◌∙◌, [], ap, option_map, sym, values_of}
use Rattle.lease_manager.specs.Looks.{is_left_by}
use Rattle.lease_manager.proofs.opens.LeftOpens.{first_waiting, none_first}
use Rattle.lease_manager.proofs.tables.opens.Opens.first_left_by.Goals as goal

pub returns-in-Some-first : goal.returns-in-Some-first
returns-in-Some-first c = rw (← c.self.view_is) (ap (option_map (λ file_id. file_id.0)) (sym c.in-Some-first.ensures.first)
    ∙ first_waiting c.in-Some.left.now.keys (is_left_by c.args.client.0 c.args.file.0) (values_of c.self.inside.by_id.entries)
    (c.in-Some.ensures (values_of c.self.inside.by_id.entries) c.self.invariant.2))

pub returns-in-None-first : goal.returns-in-None-first
returns-in-None-first c = rw (← c.self.view_is)
    (none_first c.in-Some.left.now.keys (is_left_by c.args.client.0 c.args.file.0) (values_of c.self.inside.by_id.entries)
    c.in-None-first.ensures.variant.1
    (c.in-Some.ensures (values_of c.self.inside.by_id.entries) c.self.invariant.2))

pub returns-in-None : goal.returns-in-None
returns-in-None c = rw (← c.self.view_is)
    (first_waiting [] (is_left_by c.args.client.0 c.args.file.0) (values_of c.self.inside.by_id.entries)
    (c.in-None.ensures (values_of c.self.inside.by_id.entries) c.self.invariant.2))
