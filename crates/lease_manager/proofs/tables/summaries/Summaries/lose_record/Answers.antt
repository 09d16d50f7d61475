use Rattle.lease_laws.proofs.Words.{◌∙◌, key_eq, refl, rules, sym}
use Rattle.lease_manager.specs.Summaries.{record_at}
use Rattle.lease_manager.proofs.sums.Recording.{and_no, last_is, records_lose, records_end, key_changed, tally_changed}
use Rattle.lease_manager.proofs.sums.Recording.{changed_twice}
use Rattle.lease_manager.proofs.sums.Recording.{leases_kept, lease_gone, lease_missing, never_missing}
use Rattle.lease_manager.proofs.tables.summaries.Summaries.lose_record.Goals as goal

pub returns-then-not-is_empty : goal.returns-then-not-is_empty
returns-then-not-is_empty c =
    let known = c.in-Some.known.now in
    let written = record known { tally = c.lowered-known.result } in
    let was = sym c.in-Some.ensures.value in
    let some = rw c.lowered-known.ensures at (sym c.is_empty.ensures ∙ c.if-not-is_empty.true) in record {
      files = refl;
      records = λ less more own m fits.
          records_lose c.args.key c.args.one.now known (record_at c.args.self.now) _ less more own m was
          (tally_changed c.args.self.now.leases (c.get_mut.follows.lender written) c.args.key known _ _ c.lowered-known.ensures
          ((c.get_mut.follows.holds written).3 (search rules))) some fits;
      last = λ less more own m fits.
          last_is c.args.key c.args.one.now known (record_at c.args.self.now) less more _ own m was some fits;
      leases = λ other.
          rw (and_no (key_eq other c.args.key)) (leases_kept c.args.key known c.lowered-known.result (record_at c.args.self.now) _
          was (key_changed c.args.self.now.leases (c.get_mut.follows.lender written) c.args.key _
          ((c.get_mut.follows.holds written).3 (search rules))) other);
    }

pub returns-else-not-is_empty : goal.returns-else-not-is_empty
returns-else-not-is_empty c =
    let known = c.in-Some.known.now in
    let written = record known { tally = c.lowered-known.result } in
    let was = sym c.in-Some.ensures.value in
    let none = rw c.lowered-known.ensures at (sym c.is_empty.ensures ∙ c.if-not-is_empty.false) in
    let changed = changed_twice c.args.key _ _ _ _ _
    (key_changed c.args.self.now.leases (c.get_mut.follows.lender written) c.args.key _
    ((c.get_mut.follows.holds written).3 (search rules)))
    (key_changed (c.get_mut.follows.lender written) c.remove.new.self c.args.key _ c.remove.ensures.updates) in record {
      files = refl;
      records = λ less more own m fits.
          records_end c.args.key c.args.one.now known (record_at c.args.self.now) _ less more own m was changed none fits;
      last = λ less more own m fits.
          last_is c.args.key c.args.one.now known (record_at c.args.self.now) less more _ own m was none fits;
      leases = lease_gone c.args.key (record_at c.args.self.now) _ changed;
    }

pub returns-in-None-clause-records : goal.returns-in-None-clause-records
returns-in-None-clause-records c = λ less more own m fits.
    absurd (never_missing c.args.key c.args.one.now _ less more own m (sym c.in-None.ensures.value) (fits c.args.key))

pub returns-in-None-clause-leases : goal.returns-in-None-clause-leases
returns-in-None-clause-leases c =
    rw c.get_mut.follows.holds-at-none (lease_missing c.args.key (record_at c.args.self.now) (sym c.in-None.ensures.value))

pub returns-in-None-clause-last : goal.returns-in-None-clause-last
returns-in-None-clause-last c = λ less more own m fits.
    absurd (never_missing c.args.key c.args.one.now _ less more own m (sym c.in-None.ensures.value) (fits c.args.key))
