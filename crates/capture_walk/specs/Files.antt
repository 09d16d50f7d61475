-- Files: each of a server, and one life. Answers tell which file they are of by what it is on the server's disk, where they have
-- that, and else by a share, a name and a time at which it was made. Messages that are called past have the newest one first.
use Rattle.std.specs.Prelude.{ℕ, ◌==◌, ◌&&◌, ◌||◌, not, Bool, true, false, if◌then◌else◌, List, [], ◌∷◌, Option, Some, None}
use Rattle.std.specs.Prelude.{unwrap_or, bytes_eq, ◌≡◌}
use Rattle.std.specs.BTreeMap.{BTreeMap, get, get_by}
use Rattle.std.specs.Cmp.Lexicographic.{slice_cmp}
use Rattle.std.specs.Option.{option_map}
use Rattle.std.specs.Ordering.{nat_cmp, on, then_cmp}
use Rattle.std.specs.Global.{Vec}
use Rattle.std.specs.declared.cmp.Ordering.{Ordering}
use Rattle.capture_wire.specs.declared.contexts.FileOnDisk.{FileOnDisk}
use Rattle.capture_walk.specs.Trees.{path_of}
use Rattle.capture_walk.specs.Creates.{pending}
use Rattle.capture_walk.specs.declared.note.CreateGiven.{CreateGiven}
use Rattle.capture_walk.specs.declared.note.Seen.{Seen}
use Rattle.capture_walk.specs.declared.creates.Create.{Create}
use Rattle.capture_walk.specs.declared.event.Remade.{Remade}
use Rattle.capture_walk.specs.declared.files.Identity.{Identity}
use Rattle.capture_walk.specs.declared.files.OwnPlace.{OwnPlace}
use Rattle.capture_walk.specs.declared.files.Spot.{Spot}
use Rattle.capture_walk.specs.declared.files.Files.{Files}
use Rattle.capture_walk.specs.declared.files.Place as declared
use Rattle.capture_walk.specs.declared.files.Naming.{Naming as NamingDeclared}

-- Where a file is, and when it was made: names that differ in a byte are those of different files, and so are times, unless
-- something else shows which file it is. One name may lead to several files, as where a share has a folder of its own for each
-- user.
pub record Place : Type 0 where
  pub server : ℕ
  pub path : List ℕ
  pub name : List ℕ
  pub creation_time : ℕ

-- What names a share in its path, by code units of two bytes: what comes after the last backslash. What stands before it names
-- the server, which may have several names.
abbrev pub behind_backslash : List ℕ → List ℕ → List ℕ
behind_backslash share [] = share
behind_backslash share (one ∷ []) = share
behind_backslash share (low ∷ high ∷ others) =
    behind_backslash (if low == 92 && high == 0 then others else share) others

unfoldable pub share_of : List ℕ → List ℕ
share_of path = behind_backslash path path

abbrev pub is_same_place : Place → Place → Bool
is_same_place one other =
    ((one.server == other.server && one.creation_time == other.creation_time)
    && bytes_eq (share_of one.path) (share_of other.path))
    && bytes_eq one.name other.name

-- a life of a file, which begins at a place with the message of this number
pub record Life : Type 0 where
  pub place : Place
  pub file : ℕ

abbrev pub life_of : Place → ℕ → Life
life_of place file = record { place = place; file = file }

-- a file on a disk of a server, by the time at which it was made too, since a server may give an id again once the file is gone
abbrev pub identity_at : ℕ → ℕ → FileOnDisk → Identity
identity_at server creation_time one =
    record { server = server; file = one.file; volume = one.volume; creation_time = creation_time }

abbrev pub is_same_identity : Identity → Identity → Bool
is_same_identity one other =
    (one.server == other.server && one.creation_time == other.creation_time) && (one.file == other.file
    && one.volume == other.volume)

-- ---- what a CREATE response says of its file

-- The file isn't the one that has the name, or another one was made under its name while its answer was on its way: then it may
-- be either, unless this CREATE made it.
abbrev pub is_unnamed : Create → Bool → Bool
is_unnamed create is_new = create.unnamed || (create.remade && not is_new)

-- the place that a CREATE names, where its request and its tree connect were seen
abbrev pub place_by : ℕ → Option Create → CreateGiven → Option (List ℕ) → Option Place
place_by server None given path = None
place_by server (Some create) given None = None
place_by server (Some create) given (Some path) =
    if is_unnamed create given.is_new then None
    else Some (record { server = server; path = path; name = create.name; creation_time = given.creation_time })

abbrev pub create_path : ℕ → ℕ → Option Create → List Seen → Option (List ℕ)
create_path server session None past = None
create_path server session (Some create) past = path_of server session create.tree past

-- the place of the file that a CREATE response is of
abbrev pub place_given : Seen → CreateGiven → List Seen → Option Place
place_given seen given past =
    place_by seen.server (pending seen.connection given.id past) given
    (create_path seen.server given.session (pending seen.connection given.id past) past)

-- What it is known by: its place, where the name is sure to lead to it, what it is on the disk, where the response has that,
-- and the file of the lease under whose key it is granted one.
pub record Naming : Type 0 where
  pub place : Option Place
  pub identity : Option Identity
  pub under : Option ℕ

-- Nothing where its request and its tree connect weren't seen, or where it isn't the file that has the name.
abbrev pub naming_by : ℕ → Option Create → CreateGiven → Option (List ℕ) → Option ℕ → Option Naming
naming_by server None given path under = None
naming_by server (Some create) given None under = None
naming_by server (Some create) given (Some path) under =
    if create.unnamed then None
    else Some (record {
      place = place_by server (Some create) given (Some path);
      identity = option_map (identity_at server given.creation_time) given.on_disk;
      under = under;
    })

-- by the file of the lease
abbrev pub naming_given : Seen → CreateGiven → Option ℕ → List Seen → Option Naming
naming_given seen given under past =
    naming_by seen.server (pending seen.connection given.id past) given
    (create_path seen.server given.session (pending seen.connection given.id past) past) under

-- ---- which file it is

abbrev pub either : Option ℕ → Option ℕ → Option ℕ
either (Some file) other = Some file
either None other = other

-- the file that is found, or one whose life begins with the message
abbrev pub file_opened : Bool → ℕ → Option ℕ → ℕ
file_opened is_new number found = if is_new then number else unwrap_or found number

-- By the disk before all else, and by the name before the key: while a lease is held under a key the server refuses that key for
-- another file (MS-SMB2 3.3.5.9.8), so it tells the file where names may have changed.
abbrev pub file_found : Option ℕ → Option ℕ → Option ℕ → Option ℕ
file_found identified named under = either identified (either named under)

-- where its name isn't sure to lead to it, one that is found in another way
abbrev pub file_by : Bool → ℕ → Option Place → Option ℕ → Option ℕ
file_by is_new number None found = found
file_by is_new number (Some place) found = Some (file_opened is_new number found)

-- the life that begins with the message, if one does
abbrev pub life_at : Place → Bool → ℕ → Option ℕ → List Life
life_at place true number found = life_of place number ∷ []
life_at place false number None = life_of place number ∷ []
life_at place false number (Some file) = []

abbrev pub life_by : Option Place → Bool → ℕ → Option ℕ → List Life
life_by None is_new number found = []
life_by (Some place) is_new number found = life_at place is_new number found

-- the file at a place, after a CREATE response whose file is at another one, or isn't known
abbrev pub placed_at : Place → Place → ℕ → Option ℕ → Option ℕ
placed_at place other file before = if is_same_place other place then Some file else before

abbrev pub placed : Place → Option Place → Option ℕ → Option ℕ → Option ℕ
placed place None file before = before
placed place (Some other) None before = before
placed place (Some other) (Some file) before = placed_at place other file before

-- and on a disk
abbrev pub identified_as : Identity → Identity → ℕ → Option ℕ → Option ℕ
identified_as identity other file before = if is_same_identity other identity then Some file else before

abbrev pub identified : Identity → Option Identity → Option ℕ → Option ℕ → Option ℕ
identified identity None file before = before
identified identity (Some other) None before = before
identified identity (Some other) (Some file) before = identified_as identity other file before

-- What a CREATE response says was made in the place of another file, which isn't known to be opened by its name from where the
-- request was: the answers to others that come between may be of either.
abbrev pub remade_in : Bool → Option Create → Option ℕ → Option Remade
remade_in true (Some create) (Some file) = Some (record { file = file; since = create.position })
remade_in is_new create file = None

-- the place of a file
abbrev pub place_of_life : ℕ → List Life → Option Place
place_of_life file [] = None
place_of_life file (one ∷ others) = if one.file == file then Some one.place else place_of_life file others

-- ---- the tables

abbrev pub place_view : declared.Place → Place
place_view place = record {
  server = place.server;
  path = place.path.now;
  name = place.name.now;
  creation_time = place.creation_time;
}

abbrev pub naming_view : NamingDeclared → Naming
naming_view naming =
    record { place = option_map place_view naming.place; identity = naming.identity; under = naming.under }

-- ---- by their names

-- what a map with bytes as its keys has at some
abbrev pub by_bytes : {X : Type 0} → List ℕ → BTreeMap (Vec ℕ) X → Option X
by_bytes bytes table = get_by (λ key. slice_cmp nat_cmp bytes key.items) table

abbrev pub spot_of : Place → Spot
spot_of place = record { server = place.server; creation_time = place.creation_time }

abbrev pub spot_order : Spot → Spot → Ordering
spot_order = then_cmp (on (λ spot. spot.server) nat_cmp) (on (λ spot. spot.creation_time) nat_cmp)

abbrev pub is_spot : Spot → Spot → Bool
is_spot one other = one.server == other.server && one.creation_time == other.creation_time

-- of those with its name on its share
abbrev pub at_spot : Place → Option (BTreeMap Spot ℕ) → Option ℕ
at_spot place None = None
at_spot place (Some spots) = get spot_order spots (spot_of place)

-- of those on its share
abbrev pub by_name : Place → Option (BTreeMap (Vec ℕ) (BTreeMap Spot ℕ)) → Option ℕ
by_name place None = None
by_name place (Some names) = at_spot place (by_bytes place.name names)

-- the file at a place
abbrev pub file_at : Place → Files → Option ℕ
file_at place files = by_name place (by_bytes (share_of place.path) files.named)

abbrev pub is_alike : Place → Place → Bool
is_alike one other = is_spot (spot_of one) (spot_of other) && bytes_eq one.name other.name

-- ---- by what they are on a disk

abbrev pub identity_order : Identity → Identity → Ordering
identity_order = then_cmp (on (λ one. one.server) nat_cmp)
    (then_cmp (on (λ one. one.file) nat_cmp)
    (then_cmp (on (λ one. one.volume) nat_cmp) (on (λ one. one.creation_time) nat_cmp)))

abbrev pub file_as : Identity → Files → Option ℕ
file_as identity files = get identity_order files.identified identity

-- ---- by either

-- the file at the place that is known, and with the identity
abbrev pub found_at : Option Place → Files → Option ℕ
found_at None files = None
found_at (Some place) files = file_at place files

abbrev pub found_as : Option Identity → Files → Option ℕ
found_as None files = None
found_as (Some identity) files = file_as identity files

abbrev pub found_by : Naming → Files → Option ℕ
found_by naming files = file_found (found_as naming.identity files) (found_at naming.place files) naming.under

-- ---- those that began

abbrev pub place_of_own : OwnPlace → Place
place_of_own own =
    record { server = own.server; path = own.path; name = own.name; creation_time = own.creation_time }

abbrev pub place_in : ℕ → Files → Option Place
place_in file files = option_map place_of_own (get nat_cmp files.begun file)

-- Those that began have these lives.
abbrev pub HaveBegun : List Life → Files → Type 0
HaveBegun lives files = (file : ℕ) → place_in file files ≡ place_of_life file lives
