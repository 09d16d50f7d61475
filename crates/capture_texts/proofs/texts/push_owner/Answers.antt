use Rattle.std.proofs.Common.{◌++◌, List, ℕ, ap, ◌∙◌, codes}
use Rattle.std.proofs.lemmas.List.{append_assoc}
use Rattle.std.specs.String.{string_bytes}
use Rattle.capture_texts.specs.Texts.{client_text, owner_text}
use Rattle.capture_texts.proofs.texts.push_owner.Goals as goal

pub returns : goal.returns
unfolding owner_text
returns c =
    c.in_ok-push_client.ensures ∙ (ap (λ (text : List ℕ). text ++ client_text c.args.client.now) c.in_ok-push_str.ensures.bytes
    ∙ append_assoc (string_bytes c.args.text.now) (codes "    lease of ") (client_text c.args.client.now))
