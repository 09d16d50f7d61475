-- What a break notification is answered with (MS-SMB2 3.2.5.19.2), and the line that says so.
use Rattle.std.specs.Prelude.{◌≡◌, ℕ, ◌-◌, ◌==◌, ◌++◌, List, [], ◌∷◌, length, take, codes, if◌then◌else◌}
use Rattle.std.specs.Fmt.{decimal}
use Rattle.hex.specs.Hex.{encode_lower}
use Rattle.lease_wire.specs.Notification.{Notice, IsNotification}
use Rattle.lease_wire.specs.Acknowledgment.{acknowledgment_bytes}

-- its 36 bytes as digits, or that none is due; a line feed ends it
abbrev pub answer_line : Notice → List ℕ
answer_line v =
    if v.ack_required
    then encode_lower (acknowledgment_bytes (record { key = v.key; state = v.new })) ++ 10 ∷ []
    else codes "no acknowledgment due" ++ 10 ∷ []

-- how many bytes are left over, where there are any
abbrev pub rest_line : ℕ → List ℕ
rest_line count = if count == 0 then [] else codes "rest " ++ decimal count ++ 10 ∷ []

-- the text is what is printed for these bytes: they begin with a notification, which it answers
abbrev pub AnswersWith : List ℕ → List ℕ → Type 0
AnswersWith bytes text =
    (v : Notice) × IsNotification (take 44 bytes) v × (text ≡ answer_line v ++ rest_line (length bytes - 44))
