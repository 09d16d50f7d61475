-- What a byte of a struct says where it stands for yes or no: 0 is no, and any other number yes. As it is
-- written it is 0 or 1.
use Rattle.std.specs.Prelude.{ℕ, Bool, not, ◌==◌, if◌then◌else◌}

abbrev pub is_set : ℕ → Bool
is_set flag = not (flag == 0)

abbrev pub flag_of : Bool → ℕ
flag_of yes_or_no = if yes_or_no then 1 else 0
