use Rattle.lease_laws.proofs.Words.{◌∙◌, ◌≡◌, ◌≢◌, ◌≤◌, List, ℕ, ap, arith, inl, inr, map, refl, string_bytes, subst, suc, zero}
use Rattle.std.proofs.Common.{Bor}
use Rattle.clap.specs.Words.{Text}
use Rattle.lease_lines.specs.Tables.{machines_of}
use Rattle.leasecheck.specs.CommandLine.{AsksFor, IsUsageOf, Request, all_words, request_of}
use Rattle.leasecheck.proofs.Words.{refused_by}
use Rattle.leasecheck.specs.declared.tasks.Asked.{Asked}
use Rattle.leasecheck.specs.declared.tasks.Asked.TheVariants as asked
use Rattle.leasecheck.proofs.run.run_words.Goals as goal

none_of : (n : ℕ) → n ≤ 1 → n ≢ 1 → n ≡ 0
none_of zero le ne = refl
none_of (suc zero) le ne = absurd (ne refl)
none_of (suc (suc n)) le ne = absurd (omega (arith, le))

fine : (n : ℕ) → n ≤ 2 → n ≢ 1 → n ≢ 2 → n ≡ 0
fine zero le one two = refl
fine (suc zero) le one two = absurd (one refl)
fine (suc (suc zero)) le one two = absurd (two refl)
fine (suc (suc (suc n))) le one two = absurd (omega (arith, le))

pub returns-in-Err-clause-faulty : goal.returns-in-Err-clause-faulty
returns-in-Err-clause-faulty g c =
    let same = ap (λ (ws : List (Bor Text)). all_words (map (λ word. word.now) ws)) c.as_slice-2.ensures.value
    ∙ ap all_words (c.in-Ok-views.ensures ∙ ap (map string_bytes) c.as_slice.ensures.value) in
    rw c.in-Ok.is (refused_by (all_words (map string_bytes c.in-Ok.owned.items)) c.in-Err.usage _ _ _
    (subst (λ (ws : List Text). IsUsageOf ws c.in-Err.usage) same c.in-Err.ensures.usage) c.tell_usage.ensures.told)

pub returns-in-Err-clause-done : goal.returns-in-Err-clause-done
returns-in-Err-clause-done g c =
    let same = ap (λ (ws : List (Bor Text)). all_words (map (λ word. word.now) ws)) c.as_slice-2.ensures.value
    ∙ ap all_words (c.in-Ok-views.ensures ∙ ap (map string_bytes) c.as_slice.ensures.value) in
    rw c.in-Ok.is (λ not-failed not-refused. inr (inr (
      (
        c.in-Err.usage,
        subst (λ (ws : List Text). IsUsageOf ws c.in-Err.usage) same c.in-Err.ensures.usage,
        c.tell_usage.ensures.told,
      ),
      c.tell_usage.ensures.silent (fine c.tell_usage.result c.tell_usage.ensures.status not-failed not-refused),
    )))

pub returns-in-Ok-Task-clause-done : goal.returns-in-Ok-Task-clause-done
returns-in-Ok-Task-clause-done g c =
    let same = ap (λ (ws : List (Bor Text)). all_words (map (λ word. word.now) ws)) c.as_slice-2.ensures.value
    ∙ ap all_words (c.in-Ok-views.ensures ∙ ap (map string_bytes) c.as_slice.ensures.value) in
    let one = c.in-Ok-Task.field-0-is in
    let other = c.in-Ok-Task.task-is in
    let is : c.in-Ok-Task.field-0 ≡ asked.Task c.in-Ok-Task.task = cc in
    rw c.in-Ok.is (λ ne _. let told = c.perform_on_file.ensures.printed ne in inl (
      (
        c.in-Ok-Task.task,
        told.0,
        subst (λ (ws : List Text). AsksFor ws (request_of (asked.Task c.in-Ok-Task.task))) same
            (subst (λ (a : Asked). AsksFor (all_words (map (λ word. word.now) c.as_slice-2.result.now)) (request_of a)) is
            c.in-Ok-Task.ensures.asked),
        told.1,
      ),
      c.perform_on_file.ensures.silent ne,
    ))

pub returns-in-Ok-Clients-clause-done : goal.returns-in-Ok-Clients-clause-done
returns-in-Ok-Clients-clause-done g c =
    let same = ap (λ (ws : List (Bor Text)). all_words (map (λ word. word.now) ws)) c.as_slice-2.ensures.value
    ∙ ap all_words (c.in-Ok-views.ensures ∙ ap (map string_bytes) c.as_slice.ensures.value) in
    rw c.in-Ok.is (λ ne _.
    let ended = none_of c.speak.result c.speak.ensures.status ne in
    let told = c.speak.ensures.answered ended in
    let one = c.in-Ok-Clients.field-0-is in
    let is : c.in-Ok-Clients.field-0 ≡ asked.Clients = cc in
    let asks = subst (λ (ws : List Text). AsksFor ws Request.Clients) same
    (subst (λ (a : Asked). AsksFor (all_words (map (λ word. word.now) c.as_slice-2.result.now)) (request_of a)) is
    c.in-Ok-Clients.ensures.asked) in
    inr (inl (
      ended,
      (
        machines_of c.clients.result,
        told.0,
        inl (asks, c.clients.ensures),
        told.1,
        told.2,
      ),
    )))

pub returns-clause-done : goal.returns-clause-done
returns-clause-done g c =
    let same = ap (λ (ws : List (Bor Text)). all_words (map (λ word. word.now) ws)) c.as_slice-2.ensures.value
    ∙ ap all_words (c.in-Ok-views.ensures ∙ ap (map string_bytes) c.as_slice.ensures.value) in
    rw c.in-Ok.is (λ ne _.
    let ended = none_of c.speak-in-Ok-Server.result c.speak-in-Ok-Server.ensures.status ne in
    let told = c.speak-in-Ok-Server.ensures.answered ended in
    let one = c.in-Ok-Server.field-0-is in
    let is : c.in-Ok-Server.field-0 ≡ asked.Server = cc in
    let asks = subst (λ (ws : List Text). AsksFor ws Request.Server) same
    (subst (λ (a : Asked). AsksFor (all_words (map (λ word. word.now) c.as_slice-2.result.now)) (request_of a)) is
    c.in-Ok-Server.ensures.asked) in
    inr (inl (
      ended,
      (
        machines_of c.server.result,
        told.0,
        inr (asks, c.server.ensures),
        told.1,
        told.2,
      ),
    )))
