-- A line that is refused: what it is answered, and why it is refused.
use Rattle.std.specs.Prelude.{ℕ, ◌++◌, List, [], ◌∷◌, codes, Option, Some, None}
use Rattle.{std.specs.Fmt.decimal, lease_texts.specs.Complaints.Complaint, lease_texts.specs.Complaints.complaint_line}

abbrev pub fault_line : ℕ → List ℕ
fault_line number = codes "fault line " ++ decimal number ++ 10 ∷ []

-- a line that may not stand there, by what is said of where such lines stand
abbrev pub place_line : ℕ → List ℕ → List ℕ
place_line number place = codes "line " ++ decimal number ++ codes ": " ++ place ++ 10 ∷ []

-- a line that is none, by what it lacks
abbrev pub lack_line : ℕ → Option Complaint → List ℕ
lack_line number None = []
lack_line number (Some complaint) = complaint_line number complaint
