-- Whom the record of a capture is of.
use Rattle.std.specs.Prelude.{◌≡◌, ◌+◌, ◌≤◌, ◌==◌, ◌&&◌, ℕ, nat_lt, nat_le, Bool, true, false, if◌then◌else◌}
use Rattle.std.specs.Prelude.{List, [], ◌∷◌, ◌++◌, Some, map, length, slice_get}
use Rattle.std.specs.List.{AllZip, list_any}
use Rattle.capture_texts.specs.Reports.{is_unsafe, is_safe, number_named}
use Rattle.capture_texts.specs.declared.finding.FileFinding.{FileFinding}
use Rattle.capture_texts.specs.declared.records.cast.Cast.{Cast}
use Rattle.capture_texts.specs.declared.records.cast.TheConstants.{MOST}

-- ---- clients, each once, in the order in which they come

abbrev pub is_number : ℕ → ℕ → Bool
is_number wanted client = client == wanted

abbrev pub with_client : ℕ → List ℕ → List ℕ
with_client client known = if list_any (is_number client) known then known else known ++ client ∷ []

abbrev pub with_clients : List ℕ → List ℕ → List ℕ
with_clients known [] = known
with_clients known (client ∷ clients) = with_clients (with_client client known) clients

-- with those of a file
abbrev pub clients_with : List ℕ → FileFinding → List ℕ
clients_with known file = with_clients known (map number_named file.clients.items)

-- with those of files, one after the other
abbrev pub clients_after : List ℕ → List FileFinding → List ℕ
clients_after known [] = known
clients_after known (file ∷ files) = clients_after (clients_with known file) files

abbrev pub clients_of : List FileFinding → List ℕ
clients_of files = clients_after [] files

-- ---- files

abbrev pub has_unsafe : List FileFinding → Bool
has_unsafe files = list_any (λ one. is_unsafe one.judged) files

-- unsafe ones where there are any, and else safe ones
abbrev pub is_wanted : Bool → FileFinding → Bool
is_wanted true file = is_unsafe file.judged
is_wanted false file = is_safe file.judged

-- as many as there are numbers for, and for their clients: a file for which there is no room is left out
abbrev pub has_room : List ℕ → ℕ → FileFinding → Bool
has_room known count file = nat_lt count MOST && nat_le (length (clients_with known file)) MOST

abbrev pub recorded_after : Bool → List ℕ → ℕ → List FileFinding → List FileFinding
recorded_after are_unsafe known count [] = []
recorded_after are_unsafe known count (file ∷ files) =
    if is_wanted are_unsafe file && has_room known count file
    then file ∷ recorded_after are_unsafe (clients_with known file) (count + 1) files
    else recorded_after are_unsafe known count files

-- the files of a record, in the order of the findings
abbrev pub recorded : List FileFinding → List FileFinding
recorded files = recorded_after (has_unsafe files) [] 0 files

-- ---- what is kept of them

abbrev pub IsAt : List FileFinding → ℕ → FileFinding → Type 0
IsAt files place file = slice_get files place ≡ Some file

-- The file is taken, by its place, if there is room for it.
abbrev pub TakesIf : Bool → ℕ → FileFinding → Cast → Cast → Type 0
TakesIf true place file old new =
    (new.clients.items ≡ clients_with old.clients.items file) × (new.findings.items ≡ old.findings.items ++ place ∷ [])
TakesIf false place file old new = (new.clients.items ≡ old.clients.items) × (new.findings.items ≡ old.findings.items)

abbrev pub Takes : ℕ → FileFinding → Cast → Cast → Type 0
Takes place file old new = TakesIf (has_room old.clients.items (length old.findings.items) file) place file old new

-- The cast is that of these files.
pub record IsCastOf (files chosen : List FileFinding) (cast : Cast) : Type 0 where
  pub places : AllZip (IsAt files) cast.findings.items chosen
  pub clients : cast.clients.items ≡ clients_of chosen
  pub few-files : length cast.findings.items ≤ MOST
  pub few-clients : length cast.clients.items ≤ MOST

abbrev pub IsCast : List FileFinding → Cast → Type 0
IsCast files cast = IsCastOf files (recorded files) cast
