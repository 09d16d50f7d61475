use Rattle.std.proofs.Common.{◌≡◌, ◌++◌, ◌∙◌, ◌∷◌, [], List, OnOk, ap, codes, subst, sym, ℕ}
use Rattle.std.specs.Fmt.{decimal}
use Rattle.std.specs.String.{string_bytes}
use Rattle.leasecheck.specs.Idle.{obstacle_words}
use Rattle.leasecheck.proofs.IdleLines.{on_ok, said_in_parts}
use Rattle.leasecheck.proofs.idle.push_idle.Goals as goal

pub returns : goal.returns
returns c =
    let words = obstacle_words c.args.one.obstacle in
    let number = decimal c.number_of-number.result in
    rw (sym c.number_of-number.ensures)
    (subst (λ (t : List ℕ). OnOk c.push_str.result (string_bytes c.push_str.new.self ≡ t))
    (ap (λ (t : List ℕ). t ++ 10 ∷ [])
    (c.in_ok-push_obstacle.ensures ∙ ap (λ (t : List ℕ). t ++ words) c.in_ok-write.ensures.bytes)
    ∙ said_in_parts (string_bytes c.args.text.now) (codes "# line ") number (codes " ") words (10 ∷ []))
    (on_ok c.push_str.result (string_bytes c.push_str.new.self) _ _ c.push_str.ensures.bytes))
