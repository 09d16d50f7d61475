-- What a record says of its facts: the comment on the line before each.
use Rattle.std.specs.Prelude.{ℕ, ◌==◌, List, [], ◌∷◌, if◌then◌else◌}
use Rattle.lease_texts.specs.Pieces.{lines_of}
use Rattle.lease_texts.specs.Reading.{is_passed_over}

-- without a space at its beginning
abbrev pub behind_space : List ℕ → List ℕ
behind_space [] = []
behind_space (byte ∷ bytes) = if byte == 32 then bytes else byte ∷ bytes

-- what a line says that is a comment; any other line says nothing
abbrev pub comment_in : List ℕ → List ℕ
comment_in [] = []
comment_in (byte ∷ bytes) = if byte == 35 then behind_space bytes else []

-- of each line that tells a fact, what the one before it says
unfoldable pub comments_from : List ℕ → List (List ℕ) → List (List ℕ)
comments_from before [] = []
comments_from before (line ∷ lines) =
    if is_passed_over line then comments_from line lines else comment_in before ∷ comments_from line lines

-- those of a record, one for each fact
abbrev pub comments : List ℕ → List (List ℕ)
comments text = comments_from [] (lines_of text)
