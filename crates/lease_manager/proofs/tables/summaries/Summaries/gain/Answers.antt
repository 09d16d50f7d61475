use Rattle.lease_laws.proofs.Words.{◌∙◌, sym}
use Rattle.lease_manager.specs.Summaries.{lease_in, record_at}
use Rattle.lease_manager.proofs.sums.Agreeing.{agrees_from, files_kept, leases_same, after_gain, after_keyless, at_home}
use Rattle.lease_manager.proofs.sums.Ordering.{has_key_own}
use Rattle.lease_manager.proofs.sums.Recording.{records_gain, records_keyless, lease_put}
use Rattle.lease_manager.proofs.tables.summaries.Summaries.gain.Goals as goal

pub returns-in_ok-gain_on_file-in-Some : goal.returns-in_ok-gain_on_file-in-Some
returns-in_ok-gain_on_file-in-Some c =
    let one = c.args.one.now in
    let key = c.in-Some.key in
    let during = c.gain_record.new.self in
    let own = sym c.key.ensures ∙ c.in-Some.is in
    let changed = c.in_ok-gain_record-in-Some.ensures.changed in
    let put = lease_put key c.args.lease _ _ (record_at c.args.self.now) (record_at during) changed in record {
      agrees = λ less more m short home agrees.
          let on_file = at_home _ key one.file less own home in
          agrees_from c.gain_on_file.new.self during more c.in_ok-gain_on_file-in-Some.ensures.leases
          (records_gain key one c.args.lease (record_at c.args.self.now) (record_at during) less more own m short on_file
          changed agrees.records)
          (c.in_ok-gain_on_file-in-Some.ensures.files less more (lease_in c.args.self.now) (lease_in during) m short
          (after_gain key one c.args.lease c.of-marks.result less c.args.self.now during own on_file (sym c.of-marks.ensures) put)
          (files_kept c.args.self.now during less (lease_in c.args.self.now) c.in_ok-gain_record-in-Some.ensures.files
          agrees.files));
      leases = λ other. leases_same c.gain_on_file.new.self during other c.in_ok-gain_on_file-in-Some.ensures.leases
          ∙ rw (has_key_own one key other own) (put other);
    }

pub returns-in_ok-gain_on_file-in-None-clause-agrees : goal.returns-in_ok-gain_on_file-in-None-clause-agrees
returns-in_ok-gain_on_file-in-None-clause-agrees c = λ less more m short home agrees.
    let one = c.args.one.now in
    let own = sym c.key.ensures ∙ c.in-None.is in
    agrees_from c.gain_on_file-in-None.new.self c.args.self.now more c.in_ok-gain_on_file-in-None.ensures.leases
    (records_keyless one (record_at c.args.self.now) less more own m agrees.records)
    (c.in_ok-gain_on_file-in-None.ensures.files less more (lease_in c.args.self.now) (lease_in c.args.self.now) m short
    (after_keyless one _ less (lease_in c.args.self.now) own) agrees.files)
