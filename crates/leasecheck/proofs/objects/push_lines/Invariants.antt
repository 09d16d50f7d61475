use Rattle.std.proofs.Common.{◌≡◌, ◌++◌, length, map}
use denote.Text.{Utf8}
use denote.Shadow.{shadow}
use Rattle.json.specs.Token.{string}
use Rattle.lease_texts.specs.Pieces.{lines_of}
use Rattle.leasecheck.proofs.objects.push_lines.Given as goal

-- what is left gives the whole
abbrev pub invariant-loop-rest : goal.invariant-loop-rest
invariant-loop-rest l = shadow (Utf8 l.rest)
    × (l.object.tokens ++ map (λ line. string line) (lines_of l.rest)
    ≡ l.initial.object.tokens ++ map (λ line. string line) (lines_of l.text))
    × (l.object.before ≡ l.initial.object.before)

abbrev pub decreases-loop-rest : goal.decreases-loop-rest
decreases-loop-rest l = length l.rest
