-- The paths of tree connects. Messages that are called past have the newest one first.
use Rattle.std.specs.Prelude.{◌≡◌, ℕ, ◌==◌, ◌&&◌, if◌then◌else◌, List, [], ◌∷◌, Option, Some, None}
use Rattle.std.specs.BTreeMap.{get}
use Rattle.std.specs.Ordering.{nat_cmp, on, then_cmp}
use Rattle.std.specs.declared.cmp.Ordering.{Ordering}
use Rattle.capture_walk.specs.Notes.{tree_asked, tree_given}
use Rattle.capture_walk.specs.declared.note.TreeAsked.{TreeAsked}
use Rattle.capture_walk.specs.declared.note.TreeGiven.{TreeGiven}
use Rattle.capture_walk.specs.declared.note.Seen.{Seen}
use Rattle.capture_walk.specs.declared.trees.Asked.{Asked}
use Rattle.capture_walk.specs.declared.trees.Tree.{Tree}
use Rattle.capture_walk.specs.declared.trees.Trees.{Trees}

-- ---- by looking back

-- the path of the last TREE_CONNECT request with a MessageId on a connection, after one more message
abbrev pub path_after : ℕ → ℕ → Seen → Option TreeAsked → Option (List ℕ) → Option (List ℕ)
path_after connection id seen (Some asked) before =
    if seen.connection == connection && asked.id == id then Some asked.path.now else before
path_after connection id seen None before = before

abbrev pub path_asked : ℕ → ℕ → List Seen → Option (List ℕ)
path_asked connection id [] = None
path_asked connection id (seen ∷ past) = path_after connection id seen (tree_asked seen.note) (path_asked connection id past)

-- the path of the last tree connect of a session with a TreeId, where its request was seen
abbrev pub path_by : ℕ → ℕ → ℕ → Seen → Option TreeGiven → List Seen → Option (List ℕ) → Option (List ℕ)
path_by server session tree seen (Some given) past before =
    if (seen.server == server && given.session == session) && given.tree == tree then path_asked seen.connection given.id past
    else before
path_by server session tree seen None past before = before

abbrev pub path_of : ℕ → ℕ → ℕ → List Seen → Option (List ℕ)
path_of server session tree [] = None
path_of server session tree (seen ∷ past) =
    path_by server session tree seen (tree_given seen.note) past (path_of server session tree past)

-- ---- the tables

abbrev pub asked_order : Asked → Asked → Ordering
asked_order = then_cmp (on (λ one. one.connection) nat_cmp) (on (λ one. one.id) nat_cmp)

abbrev pub tree_order : Tree → Tree → Ordering
tree_order = then_cmp (on (λ one. one.server) nat_cmp)
    (then_cmp (on (λ one. one.session) nat_cmp) (on (λ one. one.tree) nat_cmp))

abbrev pub asked_at : ℕ → ℕ → Asked
asked_at connection id = record { connection = connection; id = id }

abbrev pub tree_at : ℕ → ℕ → ℕ → Tree
tree_at server session tree = record { server = server; session = session; tree = tree }

abbrev pub asked_in : ℕ → ℕ → Trees → Option (List ℕ)
asked_in connection id trees = get asked_order trees.asked (asked_at connection id)

-- nothing where there is no such tree connect, or its request wasn't seen
abbrev pub path_or_none : Option (Option (List ℕ)) → Option (List ℕ)
path_or_none None = None
path_or_none (Some path) = path

abbrev pub tree_in : ℕ → ℕ → ℕ → Trees → Option (List ℕ)
tree_in server session tree trees = path_or_none (get tree_order trees.trees (tree_at server session tree))

pub record KnowsTrees (past : List Seen) (trees : Trees) : Type 0 where
  pub asked : (connection id : ℕ) → asked_in connection id trees ≡ path_asked connection id past
  pub connected : (server session tree : ℕ) → tree_in server session tree trees ≡ path_of server session tree past
