use Rattle.lease_laws.proofs.Words.{◌+◌, ◌∙◌, ap, arith, sym}
use Rattle.lease_facts.specs.Facts.{fact_of}
use Rattle.lease_reasons.specs.Messages.{Mail, mail_after}
use Rattle.lease_reasons.proofs.Posts.{mail-none, mail-next, few-taken}
use Rattle.lease_reasons.proofs.messages.Messages.of.Goals as goal

pub loop-index-init : goal.loop-index-init
loop-index-init c = ap (λ sent. record { sent = sent; taken = 0 }) c.new.ensures.items ∙ sym (mail-none c.args.client.0)

pub note-requires : goal.note-requires
note-requires c =
    let few = few-taken c.args.client.0 c.args.facts.now c.loop-index.index (omega arith) in
    let same = ap (λ (mail : Mail). mail.taken) c.loop-index.invariant in
    omega (arith, few, same)

pub loop-index-preserved : goal.loop-index-preserved
loop-index-preserved c =
    let next = mail-next c.args.client.0 c.args.facts.now c.loop-index.index c.index-facts-index.result
    c.loop-index-test.true c.index-facts-index.is in
    c.in_ok-note.ensures ∙ (ap (λ (mail : Mail). mail_after c.args.client.0 (c.loop-index.index + 1) (fact_of
    c.index-facts-index.result) mail) c.loop-index.invariant ∙ sym next)
