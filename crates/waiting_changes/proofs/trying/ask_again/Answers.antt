use Rattle.lease_laws.proofs.Words.{None, ◌∙◌, get_or, sym}
use Rattle.lease_manager.specs.Outs.{decisions, handling_of}
use Rattle.lease_manager.specs.declared.values.extent.Extent.TheVariants.{Handles}
use Rattle.waiting_changes.specs.declared.change.Change.{Change}
use Rattle.waiting_changes.proofs.Retrying.{given_up, next_asked, next_passed, none_left}
use Rattle.waiting_changes.proofs.trying.ask_again.Goals as goal
use Rattle.waiting_changes.proofs.trying.ask_again.Goals.{then-eq+in_ok-give_up+in_ok-append, else-eq}

abbrev no_change : Change
no_change = record {
  client = record { 0 = 0 };
  tag = record { 0 = 0 };
  key = None;
  file = record { 0 = 0 };
  extent = Handles;
}

pub loop-one-preserved : goal.loop-one-preserved
loop-one-preserved c = elim c.if-eq.branch [
  | then-eq+in_ok-give_up+in_ok-append w ↦ rw (w.manager-is, w.decisions-is)
      (next_asked c.args.changes.now c.loop-one.one-index c.args.file.0 no_change
      (handling_of c.loop-one.manager (decisions c.loop-one.decisions.items))
      (handling_of w.give_up.new.self (decisions w.append.new.self.items)) _ c.loop-one-test.true
      (sym c.eq.ensures ∙ w.if-eq.true)
      (given_up c.loop-one.manager w.give_up.new.self c.loop-one.decisions.items w.give_up.new.decisions.items
      w.append.new.self.items (get_or c.args.changes.now c.loop-one.one-index no_change) w.in_ok-give_up.ensures.after
      w.in_ok-append.ensures.items) c.loop-one.invariant)
  | else-eq w ↦ rw (w.manager-is, w.decisions-is)
      (next_passed c.args.changes.now c.loop-one.one-index c.args.file.0 no_change
      (handling_of c.loop-one.manager (decisions c.loop-one.decisions.items)) _ c.loop-one-test.true
      (sym c.eq.ensures ∙ w.if-eq.false) c.loop-one.invariant)
]

pub returns : goal.returns
returns c = none_left c.args.changes.now c.loop-one.one-index c.args.file.0
    (handling_of c.loop-one.manager (decisions c.loop-one.decisions.items)) _ c.loop-one-test.false c.loop-one.invariant
