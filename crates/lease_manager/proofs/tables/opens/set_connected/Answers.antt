use Rattle.lease_laws.proofs.Words.{Open, refl, sym}
use Rattle.lease_manager.proofs.opens.Filing.{filed_written, values_written, values_unset}
use Rattle.lease_manager.proofs.tables.opens.set_connected.Goals as goal

pub returns-in-Some : goal.returns-in-Some
returns-in-Some c =
    let change = λ (o : Open). record o { connected = c.args.connected } in
    let put = c.get_mut.follows.holds c.set_connected.new.self in
    let filed = filed_written c.args.fid.0 change c.args.by_id.now.entries _ c.in-Some.one.now c.set_connected.new.self
    (λ o. refl)
    c.requires.filed (sym c.in-Some.ensures.value) c.set_connected.ensures put.0 put.4 in record {
      still_filed = filed.0;
      still_in_order = filed.1;
      opens = values_written c.args.fid.0 change c.args.by_id.now.entries _ c.in-Some.one.now c.set_connected.new.self
          c.requires.filed c.requires.in_order (sym c.in-Some.ensures.value) c.set_connected.ensures put.0;
    }

pub returns-in-None-clause-opens : goal.returns-in-None-clause-opens
returns-in-None-clause-opens c = rw c.get_mut.follows.holds-at-none
    (values_unset c.args.fid.0 (λ (o : Open). record o { connected = c.args.connected }) c.args.by_id.now.entries
    c.requires.filed (sym c.in-None.ensures.value))
