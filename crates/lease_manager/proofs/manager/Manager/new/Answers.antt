use Rattle.lease_laws.proofs.Words.{◌∙◌, sym}
use Rattle.manager_model.specs.Handling.{last_file}
use Rattle.lease_manager.proofs.manager.Manager.new.Goals as goal

pub returns : goal.returns
unfolding last_file
returns c = c.with_files.ensures ∙ sym (c.managers_are_those_of_hosts.ensures.first c.args.rules)
