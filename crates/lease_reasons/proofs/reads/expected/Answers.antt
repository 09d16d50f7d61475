use Rattle.lease_laws.proofs.Words.{◌-◌, ◌∙◌, Fact, List, ℕ, ap, arith, changes_of, content_at, length-take-le, patches, start_of}
use Rattle.lease_laws.proofs.Words.{sym, take, unsettled}
use Rattle.lease_reasons.specs.Marks.{fits}
use Rattle.lease_reasons.specs.Messages.{Mail, last_sent}
use Rattle.lease_reasons.specs.Places.{past_of, last_place}
use Rattle.lease_reasons.specs.declared.marks.Mark.TheVariants as mark
use Rattle.lease_reasons.proofs.Seen.{SentAt, sent-at, unsent-at, unsent-if_none_taken}
use Rattle.lease_reasons.proofs.reads.expected.Goals as goal

pub returns-in_default : goal.returns-in_default
returns-in_default c = unsent-at c.args.client c.args.facts.now
    (sym (c.last_sent.ensures ∙ ap (λ (m : Mail). last_sent m.taken m.sent) c.in_ok-messages.ensures) ∙ c.in_default.is)

pub returns-in_default-last : goal.returns-in_default-last
returns-in_default-last c =
    unsent-if_none_taken c.args.client (past_of c.args.facts.now) (sym c.last.ensures ∙ c.in_default-last.is)

pub slice_bounds-before-count : goal.slice_bounds-before-count
slice_bounds-before-count c =
    let at : SentAt c.args.client c.args.facts.now c.in-Some.sent = sent-at c.args.client c.args.facts.now c.in-Some.sent
    (sym (c.last_sent.ensures ∙ ap (λ (m : Mail). last_sent m.taken m.sent) c.in_ok-messages.ensures) ∙ c.in-Some.is) in
    omega (arith, at.sent_is)

pub slice_bounds-before-length : goal.slice_bounds-before-length
slice_bounds-before-length c =
    let at : SentAt c.args.client c.args.facts.now c.in-Some.sent = sent-at c.args.client c.args.facts.now c.in-Some.sent
    (sym (c.last_sent.ensures ∙ ap (λ (m : Mail). last_sent m.taken m.sent) c.in_ok-messages.ensures) ∙ c.in-Some.is) in
    sym (length-take-le (c.in-Some.sent - 1) c.args.facts.now (omega (arith, at.sent_is, at.inside)))

pub returns : goal.returns
unfolding content_at
returns c =
    let at : SentAt c.args.client c.args.facts.now c.in-Some.sent = sent-at c.args.client c.args.facts.now c.in-Some.sent
    (sym (c.last_sent.ensures ∙ ap (λ (m : Mail). last_sent m.taken m.sent) c.in_ok-messages.ensures) ∙ c.in-Some.is) in
    record {
      place = at.place;
      sending = at.sending;
      sent = at.sent_is;
      taken = sym c.last.ensures ∙ c.in-Some-last.is;
      started = sym c.last-2.ensures;
      changed = ap (λ (past : List Fact). last_place (fits (mark.Change c.args.file)) past) (sym at.before) ∙ sym
          c.last-3.ensures;
      written = c.in_ok-waiting.ensures (past_of c.args.facts.now) c.in_ok-settled.ensures;
      bytes = c.new.ensures ∙ (c.in_ok-put_writes.ensures (past_of c.args.facts.now) c.in_ok-settled.ensures
          ∙ ap (λ (bytes : List ℕ). patches bytes (unsettled c.args.client.0 c.args.file.0 (past_of c.args.facts.now) (past_of
          c.args.facts.now))) (c.in_ok-put_changes.ensures
          ∙ (ap (λ (bytes : List ℕ). patches bytes (changes_of c.args.file.0 (past_of (take (c.in-Some.sent - 1)
          c.args.facts.now)))) c.in_ok-bytes.ensures
          ∙ ap (λ (past : List Fact). patches (start_of c.args.file.0 (past_of c.args.facts.now)) (changes_of c.args.file.0 past))
          at.before)));
    }
