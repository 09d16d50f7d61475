-- Tree connects, after one more message.
use Rattle.std.proofs.Common.{◌≡◌, ℕ, ◌==◌, ◌&&◌, if◌then◌else◌, Bool, true, false, List, ◌∷◌, Option, Some, None}
use Rattle.std.proofs.Common.{refl, sym, ap, ◌∙◌, arith}
use Rattle.std.proofs.lemmas.Bool.Decides.{nat_tests}
use Rattle.std.specs.BTreeMap.{BTreeMap, Updates, get, is_at}
use Rattle.capture_walk.specs.Notes.{tree_asked, tree_given}
use Rattle.capture_walk.specs.Trees.{asked_order, asked_at, asked_in, path_asked, path_after, tree_order, tree_at, tree_in}
use Rattle.capture_walk.specs.Trees.{path_or_none, path_of, path_by, KnowsTrees}
use Rattle.capture_walk.specs.declared.note.Note.{Note}
use Rattle.capture_walk.specs.declared.note.Seen.{Seen}
use Rattle.capture_walk.specs.declared.note.TreeAsked.{TreeAsked}
use Rattle.capture_walk.specs.declared.note.TreeGiven.{TreeGiven}
use Rattle.capture_walk.specs.declared.trees.Asked.{Asked}
use Rattle.capture_walk.specs.declared.trees.Tree.{Tree}
use Rattle.capture_walk.specs.declared.trees.Trees.{Trees}

at_asked : (connection id other asked : ℕ) → is_at (asked_order (asked_at connection id)) (asked_at other asked)
    ≡ (connection == other && id == asked)
at_asked connection id other asked = grind (arith, nat_tests)

at_tree : (server session tree other left right : ℕ) → is_at (tree_order (tree_at server session tree)) (tree_at other left right)
    ≡ ((server == other && session == left) && tree == right)
at_tree server session tree other left right = grind (arith, nat_tests)

chosen_path : (b : Bool) (path : Option (List ℕ)) (found : Option (Option (List ℕ)))
    → path_or_none (if b then Some path else found) ≡ (if b then path else path_or_none found)
chosen_path true path found = refl
chosen_path false path found = refl

-- a response is no request
unasked : (note : Note) (given : TreeGiven) → tree_given note ≡ Some given → tree_asked note ≡ None
unasked note given is = grind arith

module _ (seen : Seen) (past : List Seen) where
  asked_still : tree_asked seen.note ≡ None → (connection id : ℕ)
      → path_asked connection id past ≡ path_asked connection id (seen ∷ past)
  asked_still none connection id =
      ap (λ (one : Option TreeAsked). path_after connection id seen one (path_asked connection id past)) (sym none)

  path_still : tree_given seen.note ≡ None → (server session tree : ℕ)
      → path_of server session tree past ≡ path_of server session tree (seen ∷ past)
  path_still none server session tree =
      ap (λ (one : Option TreeGiven). path_by server session tree seen one past (path_of server session tree past)) (sym none)

  -- after a request
  pub knows_asked : (before after : Trees) (asked : TreeAsked) → tree_asked seen.note ≡ Some asked → tree_given seen.note ≡ None
      → Updates asked_order before.asked after.asked (asked_at seen.connection asked.id) (Some asked.path.now)
      → after.trees ≡ before.trees → KnowsTrees past before → KnowsTrees (seen ∷ past) after
  knows_asked before after asked is ungiven updates same knows = record {
    asked = λ connection id. updates.0 (asked_at connection id)
        ∙ (ap (λ (b : Bool). if b then Some asked.path.now else asked_in connection id before)
        (at_asked seen.connection asked.id connection id)
        ∙ (ap (λ (found : Option (List ℕ)). path_after connection id seen (Some asked) found) (knows.asked connection id)
        ∙ ap (λ (one : Option TreeAsked). path_after connection id seen one (path_asked connection id past)) (sym is)));
    connected = λ server session tree.
        ap (λ (trees : BTreeMap Tree (Option (List ℕ))). path_or_none (get tree_order trees (tree_at server session tree))) same
        ∙ (knows.connected server session tree ∙ path_still ungiven server session tree);
  }

  path_after_given : (before after : Trees) (given : TreeGiven) (path : Option (List ℕ))
      → Updates tree_order before.trees after.trees (tree_at seen.server given.session given.tree) (Some path)
      → (server session tree : ℕ) → tree_in server session tree after
      ≡ (if (seen.server == server && given.session == session) && given.tree == tree then path
      else tree_in server session tree before)
  path_after_given before after given path updates server session tree =
      ap path_or_none (updates.0 (tree_at server session tree))
      ∙ (ap (λ (b : Bool). path_or_none (if b then Some path else get tree_order before.trees (tree_at server session tree)))
      (at_tree seen.server given.session given.tree server session tree)
      ∙ chosen_path ((seen.server == server && given.session == session) && given.tree == tree) path
      (get tree_order before.trees (tree_at server session tree)))

  -- after a response
  pub knows_given : (before after : Trees) (given : TreeGiven) (path : Option (List ℕ)) → tree_given seen.note ≡ Some given
      → path ≡ asked_in seen.connection given.id before
      → Updates tree_order before.trees after.trees (tree_at seen.server given.session given.tree) (Some path)
      → after.asked ≡ before.asked → KnowsTrees past before → KnowsTrees (seen ∷ past) after
  knows_given before after given path is found updates same knows = record {
    asked = λ connection id.
        ap (λ (asked : BTreeMap Asked (List ℕ)). get asked_order asked (asked_at connection id)) same
        ∙ (knows.asked connection id ∙ asked_still (unasked seen.note given is) connection id);
    connected = λ server session tree. path_after_given before after given path updates server session tree
        ∙ (ap (λ (one : Option (List ℕ)). if (seen.server == server && given.session == session) && given.tree == tree
        then one else tree_in server session tree before) (found ∙ knows.asked seen.connection given.id)
        ∙ (ap (λ (one : Option (List ℕ)). path_by server session tree seen (Some given) past one)
        (knows.connected server session tree)
        ∙ ap (λ (one : Option TreeGiven). path_by server session tree seen one past (path_of server session tree past))
        (sym is)));
  }
