-- CREATE requests that aren't answered for good. Messages that are called past have the newest one first, and so has the table.
use Rattle.std.specs.Prelude.{◌≡◌, ℕ, ◌==◌, ◌&&◌, Bool, true, false, not, unwrap_or, bytes_eq, if◌then◌else◌, List, [], ◌∷◌, Option, Some, None}
use Rattle.std.specs.Option.{option_map}
use Rattle.capture_walk.specs.Notes.{create_asked, create_given, answered, leaves}
use Rattle.capture_walk.specs.declared.note.Note.{Note}
use Rattle.capture_walk.specs.declared.note.CreateAsked.{CreateAsked}
use Rattle.capture_walk.specs.declared.note.CreateGiven.{CreateGiven}
use Rattle.capture_walk.specs.declared.note.Seen.{Seen}
use Rattle.capture_walk.specs.declared.creates.Create.{Create}
use Rattle.capture_walk.specs.declared.creates.Creates.{Creates}

-- ---- by looking back

-- what counts of a CREATE request
abbrev pub create_of : Seen → CreateAsked → Create
create_of seen asked = record {
  connection = seen.connection;
  id = asked.id;
  position = seen.latest;
  tree = asked.tree;
  name = asked.name.now;
  key = asked.key;
  unnamed = asked.unnamed;
  closes = asked.closes;
  application = asked.application;
  remade = false;
}

-- another file was made under its name
abbrev pub with_remade : Create → Create
with_remade one = record {
  connection = one.connection;
  id = one.id;
  position = one.position;
  tree = one.tree;
  name = one.name;
  key = one.key;
  unnamed = one.unnamed;
  closes = one.closes;
  application = one.application;
  remade = true;
}

-- the name under which a CREATE response says that a file was made, by its request
abbrev pub name_made : Option CreateGiven → Option Create → Option (List ℕ)
name_made (Some given) (Some create) = if given.is_new then Some create.name else None
name_made given create = None

-- The answer to a request is on its way while a file is made under its name, on whichever share.
abbrev pub remade_after : Option (List ℕ) → Create → Create
remade_after None one = one
remade_after (Some name) one = if bytes_eq one.name name then with_remade one else one

-- the MessageId of the request that a message answers, if it answers one
abbrev pub answer_id : Note → ℕ
answer_id note = unwrap_or (answered note) 0

abbrev pub asked_after : ℕ → ℕ → Seen → Option CreateAsked → Option Create → Option Create
asked_after connection id seen (Some asked) before =
    if seen.connection == connection && asked.id == id then Some (create_of seen asked) else before
asked_after connection id seen None before = before

abbrev pub answered_after : ℕ → ℕ → ℕ → Option ℕ → Option Create → Option Create
answered_after connection id other (Some answer) before = if other == connection && answer == id then None else before
answered_after connection id other None before = before

-- What leaves the connection, or a session or a tree connect of it, may have come before the answer, of which it isn't known then
-- whether an open comes of it.
abbrev pub left_after : ℕ → Seen → Option Create → Option Create
left_after connection seen before = if seen.connection == connection && leaves seen.note then None else before

-- the last CREATE request with a MessageId on a connection, unless it was answered for good since or what it asks for may be gone
abbrev pub pending : ℕ → ℕ → List Seen → Option Create
pending connection id [] = None
pending connection id (seen ∷ past) =
    asked_after connection id seen (create_asked seen.note)
    (left_after connection seen
    (answered_after connection id seen.connection (answered seen.note)
    (option_map (remade_after (name_made (create_given seen.note) (pending seen.connection (answer_id seen.note) past)))
    (pending connection id past))))

-- ---- the table

abbrev pub is_named : ℕ → ℕ → Create → Bool
is_named connection id one = one.connection == connection && one.id == id

abbrev pub create_in : ℕ → ℕ → List Create → Option Create
create_in connection id [] = None
create_in connection id (one ∷ table) = if is_named connection id one then Some one else create_in connection id table

abbrev pub is_of_another : ℕ → Create → Bool
is_of_another connection one = not (one.connection == connection)

abbrev pub is_kept : ℕ → ℕ → Create → Bool
is_kept connection id one = not (is_named connection id one)

pub record KnowsCreates (past : List Seen) (creates : Creates) : Type 0 where
  pub requests : (connection id : ℕ) → create_in connection id creates.pending.items ≡ pending connection id past
