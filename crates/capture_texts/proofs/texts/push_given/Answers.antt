use Rattle.std.proofs.Common.{◌++◌, List, ℕ, ap, ◌∙◌, codes}
use Rattle.std.proofs.lemmas.List.{append_assoc}
use Rattle.std.specs.String.{string_bytes}
use Rattle.capture_texts.specs.Texts.{moment_text}
use Rattle.capture_texts.proofs.texts.push_given.Goals as goal

pub returns-in_ok-push_moment-in-Some : goal.returns-in_ok-push_moment-in-Some
returns-in_ok-push_moment-in-Some c = rw c.in-Some.is
    (c.in_ok-push_moment-in-Some.ensures
    ∙ (ap (λ (text : List ℕ). text ++ moment_text c.in-Some.moment) c.in_ok-push_str-in-Some.ensures.bytes
    ∙ append_assoc (string_bytes c.args.text.now) (codes ", acknowledged by ") (moment_text c.in-Some.moment)))
