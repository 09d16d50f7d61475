use Rattle.lease_laws.proofs.Words.{◌∙◌, Key, List, Open, refl, sym}
use Rattle.lease_manager.specs.Summaries.{IsOneMore, RecordFits, lease_in, record_at}
use Rattle.lease_manager.proofs.sums.Agreeing.{agrees_from, files_kept, leases_same, last_on, never_has}
use Rattle.lease_manager.proofs.sums.Recording.{own_has, home_of, lease_left, lease_kept_left, are_left, records_stay}
use Rattle.lease_manager.proofs.tables.summaries.Summaries.lose.Goals as goal

pub returns-in-Some : goal.returns-in-Some
returns-in-Some c =
    let one = c.args.one.now in
    let key = c.in-Some.key in
    let during = c.lose_record-last.new.self in
    let own = sym c.key.ensures ∙ c.in-Some.is in
    let last = c.lose_record-last.ensures.last in
    let now = λ (less more : List Open) (m : IsOneMore one less more)
    (records : (other : Key) → RecordFits other more (record_at c.args.self.now other)).
    lease_left key one c.lose_record-last.result (record_at c.args.self.now) (record_at during) less more own m
    (last less more own m records) c.lose_record-last.ensures.leases records in record {
      agrees = λ less more m agrees.
          let home = home_of key one (record_at c.args.self.now key) less more m (own_has one key own) (agrees.records key) in
          agrees_from c.lose_on_file.new.self during less c.lose_on_file.ensures.leases
          (c.lose_record-last.ensures.records less more own m agrees.records)
          (c.lose_on_file.ensures.files less more (lease_in c.args.self.now) (lease_in during) m
          (are_left less (lease_in c.args.self.now) (lease_in during) (now less more m agrees.records))
          (last_on key one less c.lose_record-last.result own home (last less more own m agrees.records))
          (files_kept c.args.self.now during more (lease_in c.args.self.now) c.lose_record-last.ensures.files agrees.files));
      leases = λ less more m agrees other.
          leases_same c.lose_on_file.new.self during other c.lose_on_file.ensures.leases ∙ now less more m agrees.records other;
    }

pub returns-in-None : goal.returns-in-None
returns-in-None c =
    let one = c.args.one.now in
    let own = sym c.key.ensures ∙ c.in-None.is in record {
      agrees = λ less more m agrees.
          agrees_from c.lose_on_file-in-None.new.self c.args.self.now less c.lose_on_file-in-None.ensures.leases
          (records_stay one (record_at c.args.self.now) less more own m agrees.records)
          (c.lose_on_file-in-None.ensures.files less more (lease_in c.args.self.now) (lease_in c.args.self.now) m
          (λ key some. refl) (λ key has. never_has one key own has) agrees.files);
      leases = λ less more m agrees other.
          leases_same c.lose_on_file-in-None.new.self c.args.self.now other c.lose_on_file-in-None.ensures.leases
          ∙ lease_kept_left one (record_at c.args.self.now) less more own m agrees.records other;
    }
