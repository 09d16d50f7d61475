use Rattle.lease_laws.proofs.Words.{◌++◌, ◌∙◌, ◌≡◌, List, ℕ, ap, append_assoc, flat_map, subst, sym}
use Rattle.std.specs.Prelude.{IfErr}
use Rattle.leasecheck.specs.Idle.{idle_line}
use Rattle.leasecheck.specs.Recording.{HasGathered, IsUnwritten, recorded_text}
use Rattle.lease_texts.specs.Remarks.{safe_end}
use Rattle.leasecheck.specs.Refusals.{Begins}
use Rattle.leasecheck.specs.declared.failure.Failure.TheVariants as failure
use Rattle.leasecheck.proofs.Recorded.{gathered_more, unmade, unwritten_whole}
use Rattle.leasecheck.proofs.recording.write_record.Goals as goal

pub returns-in-Ok-push_end-clause-failed : goal.returns-in-Ok-push_end-clause-failed
returns-in-Ok-push_end-clause-failed g c =
    let first = g.O.Write.contents c.args.out.now in
    let current = g.O.Write.contents c.write_facts.new.out in
    let new = g.O.Write.contents c.print_text.new.out in
    let told = c.in-Ok.ensures.0 in
    let last : List ℕ = flat_map (idle_line c.args.recorded.now.lines.items) c.in-Ok.idle.now in
    let end : List ℕ = safe_end c.args.recorded.now.rules in
    let whole : told ++ (last ++ end) ≡ recorded_text c.args.recorded.now =
    sym (append_assoc told last end) ∙ ap (λ (t : List ℕ). t ++ end) c.in-Ok.ensures.2 in
    let has : HasGathered first current c.push_end.new.self (told ++ (last ++ end)) =
    gathered_more first current c.write_facts.new.gathered c.push_end.new.self told (last ++ end) c.in-Ok.ensures.1
    c.in-Ok-push_end.ensures.line in
    subst (λ (t : List ℕ). IfErr c.print_text.result (λ why. IsUnwritten why first new t)) whole
    (unwritten_whole first current new c.push_end.new.self (told ++ (last ++ end))
    c.print_text.result has (subst (λ (t : List ℕ). IfErr c.print_text.result (λ why. (why ≡ failure.Output)
    × Begins current new t)) c.as_str.ensures.value c.print_text.ensures.refused))

pub returns-clause-failed : goal.returns-clause-failed
returns-clause-failed g c =
    let told = c.in-Ok.ensures.0 in
    let last : List ℕ = flat_map (idle_line c.args.recorded.now.lines.items) c.in-Ok.idle.now in
    let end : List ℕ = safe_end c.args.recorded.now.rules in
    unmade (g.O.Write.contents c.args.out.now) (g.O.Write.contents c.write_facts.new.out) c.write_facts.new.gathered told
    (last ++ end) (recorded_text c.args.recorded.now) c.in-Err-push_end.failure c.in-Ok.ensures.1 c.in-Err-push_end.ensures.failed
    (sym (append_assoc told last end) ∙ ap (λ (t : List ℕ). t ++ end) c.in-Ok.ensures.2)
