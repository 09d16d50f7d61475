use Rattle.lease_laws.proofs.Words.{None, Some, on_ok_weaker, refl}
use Rattle.break_timers.specs.Timers.{timers_of}
use Rattle.lease_model.specs.server.Naming.{key_of}
use Rattle.lease_state.specs.State.{state_of}
use Rattle.lease_manager.specs.Table.{manager_of}
use Rattle.machines_c.specs.manager.About.{at_key, if_present, listed}
use Rattle.machines_c.proofs.Idle.{none_acknowledged, silent}
use Rattle.machines_c.proofs.Tries.{handled}
use Rattle.manager_model.specs.Handling as rules
use Rattle.machines_c.proofs.manager.managing.Managing.acknowledge.Goals as goal

pub returns-clause-after : goal.returns-clause-after
returns-clause-after c = on_ok_weaker c.finish_on.result (λ tried. handled (timers_of c.args.self.now.timers) None
    (listed c.file_acknowledged-file.result) (if_present c.args.client.0 (at_key (key_of c.args.client.0 c.args.key.0))
    (manager_of c.args.self.now.manager))
    c.args.self.now.changes (rules.acknowledge (manager_of c.args.self.now.manager) c.args.client.0 (Some (record {
      key =
          c.args.key.0;
      state = state_of c.args.state;
    }))) _ _ tried
    c.in_ok-acknowledge.ensures.after refl refl c.nothing.ensures c.file_acknowledged-file.ensures.file) c.finish_on.ensures.after

pub returns-clause-idle : goal.returns-clause-idle
returns-clause-idle c = λ idle. c.finish_on.ensures.silent (c.file_acknowledged-file.ensures.idle idle)
    (silent _ _ _ c.in_ok-acknowledge.ensures.after (none_acknowledged (manager_of c.args.self.now.manager) c.args.client.0 _
    idle))
