use Rattle.std.proofs.Common.{◌++◌, ◌≡◌, ◌∙◌, append_assoc, refl}
use Rattle.std.proofs.lemmas.Result.{on_ok_weaker}
use Rattle.std.specs.String.{string_bytes}
use Rattle.lease_facts.specs.Facts.{client_of}
use Rattle.lease_facts.specs.declared.fact.Fact.{Fact}
use Rattle.lease_facts.specs.declared.fact.Fact.TheVariants as fact
use Rattle.record_words.specs.words.FactWords.{deed_words, fact_deed, fact_words, shown_patch, way_words, wrote_words}
use Rattle.record_words.proofs.words.fact_words.push_fact_words.Goals as goal

-- a fact that is put into words by what its client does
by_deed : (told : Fact) → ((f b : _) → told ≡ fact.Start f b → ⊥) → ((c f : _) → told ≡ fact.Expired c f → ⊥)
    → ((c : _) → told ≡ fact.Sent c → ⊥) → ((f c : _) → told ≡ fact.Opened f c → ⊥)
    → ((f c n p : _) → told ≡ fact.Changed f c n p → ⊥) → ((c f n p b : _) → told ≡ fact.Wrote c f n p b → ⊥)
    → ((c n o : _) → told ≡ fact.Settled c n o → ⊥) → ((c f s : _) → told ≡ fact.Believes c f s → ⊥)
    → ((c f b : _) → told ≡ fact.CachedRead c f b → ⊥) → fact_words told ≡ deed_words (client_of told) (fact_deed told)
by_deed (fact.Start f b) start expired sent opened changed wrote settled believes read = absurd (start f b refl)
by_deed (fact.Expired c f) start expired sent opened changed wrote settled believes read = absurd (expired c f refl)
by_deed (fact.Sent c) start expired sent opened changed wrote settled believes read = absurd (sent c refl)
by_deed (fact.Opened f c) start expired sent opened changed wrote settled believes read = absurd (opened f c refl)
by_deed (fact.Changed f c n p) start expired sent opened changed wrote settled believes read = absurd (changed f c n p refl)
by_deed (fact.Wrote c f n p b) start expired sent opened changed wrote settled believes read = absurd (wrote c f n p b refl)
by_deed (fact.Settled c n o) start expired sent opened changed wrote settled believes read = absurd (settled c n o refl)
by_deed (fact.Believes c f s) start expired sent opened changed wrote settled believes read = absurd (believes c f s refl)
by_deed (fact.CachedRead c f b) start expired sent opened changed wrote settled believes read = absurd (read c f b refl)
by_deed told start expired sent opened changed wrote settled believes read = refl

pub returns-in_default : goal.returns-in_default
returns-in_default c =
    let d = c.in_default in
    rw (by_deed c.args.fact.now d.not-Start d.not-Expired d.not-Sent d.not-Opened d.not-Changed d.not-Wrote d.not-Settled
    d.not-Believes d.not-CachedRead) c.push_named_deed.ensures

pub returns-in-Expired : goal.returns-in-Expired
returns-in-Expired c = rw c.in-Expired.is c.write.ensures.bytes

pub returns-in-Sent : goal.returns-in-Sent
returns-in-Sent c = rw c.in-Sent.is c.write-in-Sent.ensures.bytes

pub returns-in_ok-push_patch-in-Wrote : goal.returns-in_ok-push_patch-in-Wrote
returns-in_ok-push_patch-in-Wrote c =
    let front = string_bytes c.args.text.now in
    let given = wrote_words c.in-Wrote.client.0 c.in-Wrote.file.0 c.in-Wrote.number in
    let put = shown_patch c.in-Wrote.patch in
    let way = way_words c.in-Wrote.buffered in
    rw c.in-Wrote.is (on_ok_weaker c.push_words.result
    (λ (wrote : string_bytes c.push_words.new.text ≡ string_bytes c.push_patch-in-Wrote.new.text ++ c.way_words.result.now).
    wrote ∙ rw (c.in_ok-push_patch-in-Wrote.ensures, c.in_ok-push_wrote-in-Wrote.ensures, c.way_words.ensures)
    (append_assoc (front ++ given) put way ∙ append_assoc front given (put ++ way)))
    c.push_words.ensures)
