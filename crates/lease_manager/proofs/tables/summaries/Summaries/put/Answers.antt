use Rattle.lease_laws.proofs.Words.{◌∙◌, ◌≡◌, ap, refl, rules, sym}
use Rattle.lease_manager.specs.Hindering.{marks_of}
use Rattle.lease_manager.specs.Leases.{lease_of}
use Rattle.lease_manager.specs.Summaries.{lease_in, lease_or_none, record_at, summary_at}
use Rattle.lease_manager.specs.declared.tables.summaries.Summaries.{Summaries}
use Rattle.lease_manager.proofs.sums.Agreeing.{agrees_from, leases_same, is_put, record_there, never_unknown}
use Rattle.lease_manager.proofs.sums.Recording.{key_changed, records_put, lease_put, on_file_alike}
use Rattle.lease_manager.proofs.sums.Summing.{summaries_alike, marks_same}
use Rattle.lease_manager.proofs.tables.summaries.Summaries.put.Goals as goal

pub returns-in_ok-mark_on_file-in-Some : goal.returns-in_ok-mark_on_file-in-Some
returns-in_ok-mark_on_file-in-Some c =
    let key = c.args.key in
    let known = c.in-Some.known.now in
    let written = record known { lease = c.args.lease } in
    let before = c.args.self.now in
    let during : Summaries = record { leases = c.get_mut.follows.lender written; files = before.files } in
    let changed = key_changed before.leases during.leases key _ ((c.get_mut.follows.holds written).3 (search rules)) in
    let was = sym c.in-Some.ensures.value in
    let put = lease_put key c.args.lease _ _ (record_at before) (record_at during) changed in record {
      agrees = λ opens there agrees.
          let is = record_there key opens _ known was (agrees.records key) in
          agrees_from c.mark_on_file.new.self during opens c.in_ok-mark_on_file-in-Some.ensures.leases
          (records_put key known c.args.lease (record_at before) (record_at during) opens was changed agrees.records)
          (c.in_ok-mark_on_file-in-Some.ensures.files opens (lease_in before) (lease_in during)
          (is_put key (lease_of c.args.lease) c.of-marks.result (lease_in before) (lease_in during) (sym c.of-marks.ensures) put)
          (on_file_alike key known.file.0 opens is.one_file ∙ there) is.one_file agrees.files);
      leases = λ opens there agrees other.
          leases_same c.mark_on_file.new.self during other c.in_ok-mark_on_file-in-Some.ensures.leases ∙ put other;
    }

pub returns-else-ne : goal.returns-else-ne
returns-else-ne c =
    let key = c.args.key in
    let known = c.in-Some.known.now in
    let written = record known { lease = c.args.lease } in
    let before = c.args.self.now in
    let during : Summaries = record { leases = c.get_mut.follows.lender written; files = before.files } in
    let changed = key_changed before.leases during.leases key _ ((c.get_mut.follows.holds written).3 (search rules)) in
    let was = sym c.in-Some.ensures.value in
    let put = lease_put key c.args.lease _ _ (record_at before) (record_at during) changed in
    let same : c.of-marks.result ≡ c.of-marked.result = marks_same _ _ (sym c.ne.ensures ∙ c.if-ne.false) in record {
      agrees = λ opens there agrees. agrees_from during during opens refl
          (records_put key known c.args.lease (record_at before) (record_at during) opens was changed agrees.records)
          (summaries_alike key (lease_of c.args.lease) opens (lease_in before) (lease_in during) (summary_at before) put
          (sym c.of-marks.ensures ∙ (same ∙ (c.of-marked.ensures ∙ ap (λ r. marks_of (lease_or_none r)) (sym was))))
          agrees.files);
      leases = λ opens there agrees other. put other;
    }

pub returns-in-None-clause-agrees : goal.returns-in-None-clause-agrees
returns-in-None-clause-agrees c = λ opens there agrees.
    never_unknown c.args.key opens _ there (sym c.in-None.ensures.value) (agrees.records c.args.key)

pub returns-in-None-clause-leases : goal.returns-in-None-clause-leases
returns-in-None-clause-leases c = λ opens there agrees other.
    never_unknown c.args.key opens _ there (sym c.in-None.ensures.value) (agrees.records c.args.key)
