-- Statuses as they are written (MS-ERREF 2.3.1): by a name where the rules have one, and else by the eight digits of a number.
use Rattle.std.specs.Prelude.{ℕ, ◌==◌, List, codes, [], ◌∷◌, Option, Some, None, Result, Ok, Err, find}
use Rattle.std.specs.Int.{w32, to_be_bytes, from_be_bytes}
use Rattle.hex.specs.{Hex.decode_sized, Hex.encode_lower, declared.error.FromHexError.FromHexError}
use Rattle.lease_state.specs.{Status.code_of, declared.status.Status.Status}
use Rattle.lease_texts.specs.{Words.of_word, declared.status.GivenStatus.GivenStatus}

unfoldable pub status_word : Status → List ℕ
status_word Status.Unsuccessful = codes "STATUS_UNSUCCESSFUL"
status_word Status.InvalidParameter = codes "STATUS_INVALID_PARAMETER"
status_word Status.AccessDenied = codes "STATUS_ACCESS_DENIED"
status_word Status.ObjectNameNotFound = codes "STATUS_OBJECT_NAME_NOT_FOUND"
status_word Status.SharingViolation = codes "STATUS_SHARING_VIOLATION"
status_word Status.InsufficientResources = codes "STATUS_INSUFFICIENT_RESOURCES"
status_word Status.RequestNotAccepted = codes "STATUS_REQUEST_NOT_ACCEPTED"
status_word Status.FileClosed = codes "STATUS_FILE_CLOSED"

-- a status that was given: by its name, or by its number where it is another one
abbrev pub given_word : Option ℕ → Status → List ℕ
given_word None status = status_word status
given_word (Some number) status = encode_lower (to_be_bytes w32 number)

-- ---- what a field says

-- those of the rules
abbrev pub statuses : List Status
statuses = Status.Unsuccessful ∷ Status.InvalidParameter ∷ Status.AccessDenied ∷ Status.ObjectNameNotFound
    ∷ Status.SharingViolation ∷ Status.InsufficientResources ∷ Status.RequestNotAccepted ∷ Status.FileClosed ∷ []

abbrev pub status_named : List ℕ → Option Status
status_named word = of_word status_word statuses word

-- the status of a number, where the rules have it
abbrev pub status_numbered : ℕ → Option Status
status_numbered number = find (λ status. number == code_of status) statuses

abbrev pub known : Status → GivenStatus
known status = record { status = status; other = None }

-- A client does with a status that the rules don't have what it does with STATUS_UNSUCCESSFUL, of which they say nothing of its
-- own.
abbrev pub known_or_other : ℕ → Option Status → GivenStatus
known_or_other number (Some status) = known status
known_or_other number None = record { status = Status.Unsuccessful; other = Some number }

abbrev pub numbered : Result (List ℕ) FromHexError → Option GivenStatus
numbered (Err e) = None
numbered (Ok bytes) = Some (known_or_other (from_be_bytes w32 bytes) (status_numbered (from_be_bytes w32 bytes)))

abbrev pub named_or_numbered : List ℕ → Option Status → Option GivenStatus
named_or_numbered field (Some status) = Some (known status)
named_or_numbered field None = numbered (decode_sized field 4)

unfoldable pub status_in : List ℕ → Option GivenStatus
status_in field = named_or_numbered field (status_named field)
