-- The lines of a capture, by the words between their spaces.
use Rattle.std.specs.Prelude.{ℕ, ◌==◌, ◌&&◌, nat_le, Bool, true, false, List, [], ◌∷◌, length, codes, bytes_eq, if◌then◌else◌}
use Rattle.std.specs.Prelude.{Option, Some, None}
use Rattle.std.specs.List.{list_all}
use Rattle.lease_texts.specs.Fields.{number_in, bytes_in}
use Rattle.lease_texts.specs.Kinds.{Taking, and_then, one, whole}
use Rattle.lease_texts.specs.Pieces.{fields_of}
use Rattle.capture_texts.specs.Names.{names_said}
use Rattle.capture_texts.specs.declared.line.Side.{Side}
use Rattle.capture_texts.specs.declared.line.Side.TheVariants as side
use Rattle.capture_texts.specs.declared.line.Moment.{Moment}
use Rattle.capture_texts.specs.declared.line.FrameSaid.{FrameSaid}
use Rattle.capture_texts.specs.declared.line.Said.{Said}
use Rattle.capture_texts.specs.declared.line.Said.TheVariants as said
use Rattle.capture_texts.specs.declared.line.Line.{Line}

-- ---- words

abbrev pub is_digit : ℕ → Bool
is_digit byte = nat_le 48 byte && nat_le byte 57

-- from one digit to nine of them
abbrev pub is_fraction : List ℕ → Bool
is_fraction [] = false
is_fraction (digit ∷ digits) = nat_le (length (digit ∷ digits)) 9 && list_all is_digit (digit ∷ digits)

-- digits, and a fraction where there is a point; `some` says whether a digit has come
abbrev pub is_time : Bool → List ℕ → Bool
is_time some [] = some
is_time some (byte ∷ word) = if byte == 46 then some && is_fraction word else is_digit byte && is_time true word

abbrev pub time_in : List ℕ → Option (List ℕ)
time_in word = if is_time false word then Some word else None

-- an address with its port is whatever word the capture has for it
abbrev pub address_in : List ℕ → Option (List ℕ)
address_in [] = None
address_in (first ∷ word) = Some (first ∷ word)

abbrev pub side_in : List ℕ → Option Side
side_in word =
    if bytes_eq word (codes "from-client") then Some side.Client
    else if bytes_eq word (codes "from-server") then Some side.Server
    else None

abbrev pub one_time : Taking (List ℕ)
one_time words = one time_in words

abbrev pub one_address : Taking (List ℕ)
one_address words = one address_in words

abbrev pub one_side : Taking Side
one_side words = one side_in words

-- ---- lines

abbrev pub frame_said : List ℕ → List ℕ → Side → ℕ → List ℕ → FrameSaid
frame_said client server from acknowledged bytes = record {
  client = client;
  server = server;
  from = from;
  acknowledged = acknowledged;
  bytes = bytes;
}

-- the addresses, the side that sent it, what that one's host had acknowledged, and the bytes
abbrev pub frame_taken : Taking FrameSaid
frame_taken words =
    and_then (one_address words) (λ client words. and_then (one_address words) (λ server words.
    and_then (one_side words) (λ from words. and_then (one number_in words) (λ acknowledged words.
    and_then (one bytes_in words) (λ bytes words. Some (frame_said client server from acknowledged bytes, words))))))

abbrev pub said_taken : List ℕ → Taking Said
said_taken kind words =
    if bytes_eq kind (codes "frame") then and_then (frame_taken words) (λ frame words. Some (said.Frame frame, words))
    else if bytes_eq kind (codes "gap") then Some (said.Gap, words)
    else if bytes_eq kind (codes "end") then Some (said.End, words)
    else None

abbrev pub moment_at : ℕ → List ℕ → Said → Moment
moment_at packet time said = record { packet = packet; time = time; messages = names_said said }

abbrev pub line_at : Moment → ℕ → Said → Line
line_at moment connection said = record { moment = moment; connection = connection; said = said }

-- what it is, the packet, the time and the connection, and more of a frame
abbrev pub line_taken : Taking Line
line_taken [] = None
line_taken (kind ∷ words) =
    and_then (one number_in words) (λ packet words. and_then (one_time words) (λ time words.
    and_then (one number_in words) (λ connection words. and_then (said_taken kind words) (λ said words.
    Some (line_at (moment_at packet time said) connection said, words)))))

-- what a line says that isn't passed over
unfoldable pub line_in : List ℕ → Option Line
line_in text = whole (line_taken (fields_of text))

abbrev pub is_frame : Said → Bool
is_frame (said.Frame frame) = true
is_frame _ = false
