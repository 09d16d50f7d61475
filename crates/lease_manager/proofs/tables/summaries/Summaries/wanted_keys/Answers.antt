use Rattle.lease_laws.proofs.Words.{◌∙◌, sym}
use Rattle.lease_manager.specs.Summaries.{lease_in}
use Rattle.lease_manager.proofs.sums.Demanding.{wanted_are, wanted_none}
use Rattle.lease_manager.proofs.sums.Summing.{known_sums_up, none_is_open}
use Rattle.lease_manager.proofs.tables.summaries.Summaries.wanted_keys.Goals as goal

pub returns-in_ok-wanted-in-Some : goal.returns-in_ok-wanted-in-Some
returns-in_ok-wanted-in-Some c = λ server stand. rw c.keys_for-keys.ensures at c.in_ok-wanted-in-Some.ensures.wanted
    ∙ wanted_are c.args.demand.now c.args.self.now server c.in-Some.summary.now stand
    (known_sums_up c.args.demand.now.file.0 server.opens (lease_in c.args.self.now) _ c.in-Some.summary.now
    (sym c.in-Some.ensures.value) (stand.agree.files c.args.demand.now.file)).sums_up
    (rw c.keys_for-keys.ensures at c.wanted_among.ensures.ordered)

pub returns-in-None : goal.returns-in-None
returns-in-None c = λ server stand. c.new.ensures.items ∙ wanted_none c.args.demand.now server
    (none_is_open c.args.demand.now.file.0 server.opens (lease_in c.args.self.now) _ (sym c.in-None.ensures.value)
    (stand.agree.files c.args.demand.now.file))
