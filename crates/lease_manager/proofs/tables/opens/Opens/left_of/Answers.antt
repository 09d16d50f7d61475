use Rattle.lease_laws.proofs.Words.{◌∙◌, ap, sym}
use Rattle.lease_manager.specs.LeftOpens.{ids_of}
use Rattle.lease_manager.proofs.opens.LeftOpens.{left_of_key, none_of_key}
use Rattle.lease_manager.proofs.tables.opens.Opens.left_of.Goals as goal

pub returns-in_ok-ids-in-Some-clause-ids : goal.returns-in_ok-ids-in-Some-clause-ids
returns-in_ok-ids-in-Some-clause-ids c = c.in_ok-ids-in-Some.ensures.ids
    ∙ ap ids_of (left_of_key c.args.key c.in-Some.file.0 c.args.self.now (c.in-Some.ensures c.args.self.now c.requires))

pub returns-in-None-clause-ids : goal.returns-in-None-clause-ids
returns-in-None-clause-ids c = rw c.new.ensures.items
    (ap ids_of (sym (none_of_key c.args.key c.args.self.now (c.in-None.ensures c.args.self.now c.requires))))
