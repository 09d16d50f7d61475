use Rattle.lease_laws.proofs.Words.{◌≡◌, ap, knows_file, refl, subst, sym, true}
use Rattle.lease_client.specs.Known.{Known, client_of}
use Rattle.lease_client.specs.Turns.{Turned, given_in}
use Rattle.lease_client.specs.contracts.machine.Machine.{the_view}
use Rattle.lease_client.proofs.Entries.{entry_of_file}
use Rattle.lease_client.proofs.machine.Machine.command_entry.Goals as goal

pub returns-in_err-commanded-clause-refused : goal.returns-in_err-commanded-clause-refused
returns-in_err-commanded-clause-refused c = λ refused.
    let known = the_view c.self.inside in
    let has = subst (λ (k : Known). knows_file (client_of k) c.args.file.0 ≡ true) (sym c.self.view_is) c.requires in
    let e = entry_of_file known c.args.file.0 c.index_mut.result.now has (rw c.from-index.ensures at c.index_mut.ensures.value) in
    let found = c.in_err-commanded.ensures.refused (rw (← c.self.view_is, e) at refused) in
    absurd (cc found)

pub returns-clause-machine : goal.returns-clause-machine
returns-clause-machine c =
    let known = the_view c.self.inside in
    let has = subst (λ (k : Known). knows_file (client_of k) c.args.file.0 ≡ true) (sym c.self.view_is) c.requires in
    let e = entry_of_file known c.args.file.0 c.index_mut.result.now has (rw c.from-index.ensures at c.index_mut.ensures.value) in
    rw (
      ← c.self.view_is,
      e,
      c.from-index.ensures,
      c.in_ok-commanded.ensures.number,
      ap (λ (t : Turned). t.entry) c.in_ok-commanded.ensures.turn,
    ) refl

pub returns-clause-given : goal.returns-clause-given
returns-clause-given c =
    let known = the_view c.self.inside in
    let has = subst (λ (k : Known). knows_file (client_of k) c.args.file.0 ≡ true) (sym c.self.view_is) c.requires in
    let e = entry_of_file known c.args.file.0 c.index_mut.result.now has (rw c.from-index.ensures at c.index_mut.ensures.value) in
    rw (← c.self.view_is, e) (ap given_in c.in_ok-commanded.ensures.turn)
