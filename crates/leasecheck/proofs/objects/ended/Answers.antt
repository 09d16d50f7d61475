use Rattle.std.proofs.Common.{◌≡◌, ◌++◌, ◌∙◌, ◌∷◌, [], List, ap, map, ℕ}
use Rattle.json.specs.Print.{print}
use Rattle.json.specs.Token.{begin_array, end_array, end_object, key, string}
use Rattle.lease_texts.specs.Pieces.{lines_of}
use Rattle.leasecheck.proofs.Members.{five_more}
use Rattle.leasecheck.proofs.objects.ended.Goals as goal

pub returns : goal.returns
returns c =
    let all = five_more c.args.object.tokens c.key.new.self.tokens c.begin_array.new.self.tokens c.push_lines.new.object.tokens
    c.end_array.new.self.tokens c.end_object.new.self.tokens (map (λ line. string line) (lines_of c.args.lines.now))
    (key c.args.name.now) begin_array end_array end_object c.in_ok-key.ensures.ok c.in_ok-begin_array.ensures.ok
    c.in_ok-push_lines.ensures.tokens c.in_ok-end_array.ensures.ok c.in_ok-end_object.ensures.ok in
    let before : c.end_object.new.self.before ≡ [] = c.end_object.ensures.room.0 ∙ (c.end_array.ensures.room.0
    ∙ (c.in_ok-push_lines.ensures.same ∙ (c.begin_array.ensures.room.0 ∙ (c.key.ensures.room.0 ∙ c.requires)))) in
    c.in_ok-push.ensures.items ∙ ap (λ (text : List ℕ). text ++ (10 ∷ [])) (c.into_inner-text.ensures.items
    ∙ (ap (λ (text : List ℕ). text ++ print c.end_object.new.self.tokens) before ∙ ap print all))
