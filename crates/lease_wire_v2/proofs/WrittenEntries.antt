-- Contexts that are written one after another are laid out, and say what each of them says.
use Rattle.std.proofs.Common.{◌≡◌, ◌<◌, ℕ, ◌+◌, ◌%◌, List, [], ◌∷◌, ◌++◌, length, true, false}
use Rattle.std.proofs.Common.{Option, option_to_list, refl, arith, ◌∙◌, ap}
use Rattle.std.specs.List.{concat, filter_map}
use Rattle.std.proofs.lemmas.List.{append-nil}
use Rattle.lease_wire.specs.Chain.{ContextView, IsContext, LeadsOn, AreLaidOut, HoldsContexts, next_of}
use Rattle.lease_wire.specs.declared.create.Direction.{Direction}
use Rattle.lease_wire.proofs.ReadText.{laid_on}
use Rattle.lease_wire.proofs.WrittenContexts.{name_of, written}
use Rattle.lease_wire_v2.specs.Names.{Meaning, CreateView, HoldsValue, meaning_of, values_of_kind, go_together}
use Rattle.lease_wire_v2.specs.Names.{lease_part, durable_part, reconnect_part, wrong_part}
use Rattle.lease_wire_v2.specs.Canonical.{context_bytes}
use Rattle.lease_wire_v2.proofs.WrittenContexts.{is_followed, leads_on, is_last, ends}

-- a context that is written, and what it is to mean
pub record Entry : Type 0 where
  pub name : List ℕ
  pub body : List ℕ
  pub meaning : Meaning

-- four bytes
abbrev pub IsName : List ℕ → Type 0
IsName name = (a : ℕ) × (b : ℕ) × (c : ℕ) × (d : ℕ) × (name ≡ name_of a b c d)

-- it means that, wherever it stands
pub record IsSaid (direction : Direction) (entry : Entry) : Type 0 where
  pub name : IsName entry.name
  pub some : 0 < length entry.body
  pub small : length entry.body < 1000
  pub whole : length entry.body % 4 ≡ 0
  pub means : (start : ℕ) → meaning_of direction (written start entry.name entry.body) ≡ entry.meaning

abbrev pub AreSaid : Direction → List Entry → Type 0
AreSaid direction [] = Unit {0}
AreSaid direction (entry ∷ entries) = IsSaid direction entry × AreSaid direction entries

-- the text of entries, its pieces, and the contexts that they are
abbrev pub text_of : List Entry → List ℕ
text_of [] = []
text_of (entry ∷ []) = context_bytes false entry.name entry.body
text_of (entry ∷ next ∷ entries) = context_bytes true entry.name entry.body ++ text_of (next ∷ entries)

abbrev pieces_of : List Entry → List (List ℕ)
pieces_of [] = []
pieces_of (entry ∷ []) = context_bytes false entry.name entry.body ∷ []
pieces_of (entry ∷ next ∷ entries) = context_bytes true entry.name entry.body ∷ pieces_of (next ∷ entries)

abbrev contexts_of : ℕ → List Entry → List ContextView
contexts_of start [] = []
contexts_of start (entry ∷ entries) =
    written start entry.name entry.body ∷ contexts_of (start + length (context_bytes true entry.name entry.body)) entries

module _ (direction : Direction) (entry : Entry) (is : IsSaid direction entry) where
  entry_followed : (start : ℕ) → IsContext start (context_bytes true entry.name entry.body) (written start entry.name entry.body)
  entry_followed start =
      let (a, b, c, d, cells) = is.name in
      rw cells (is_followed a b c d entry.body is.small is.some start)

  entry_leads : LeadsOn (context_bytes true entry.name entry.body)
  entry_leads =
      let (a, b, c, d, cells) = is.name in
      rw cells (leads_on a b c d entry.body is.small is.some is.whole)

  entry_last : (start : ℕ) → IsContext start (context_bytes false entry.name entry.body) (written start entry.name entry.body)
  entry_last start =
      let (a, b, c, d, cells) = is.name in
      rw cells (is_last a b c d entry.body is.small is.some start)

  entry_ends : next_of (context_bytes false entry.name entry.body) ≡ 0
  entry_ends =
      let (a, b, c, d, cells) = is.name in
      rw cells (ends a b c d entry.body is.small is.some)

laid_out : (direction : Direction) (start : ℕ) (entry : Entry) (entries : List Entry) → AreSaid direction (entry ∷ entries)
    → AreLaidOut start (pieces_of (entry ∷ entries)) (contexts_of start (entry ∷ entries))
laid_out direction start entry [] (is, said) =
    (entry_last direction entry is start, entry_ends direction entry is, refl)
laid_out direction start entry (next ∷ entries) (is, said) =
    laid_on start (length (context_bytes true entry.name entry.body)) (context_bytes true entry.name entry.body)
    (pieces_of (next ∷ entries)) (written start entry.name entry.body)
    (contexts_of (start + length (context_bytes true entry.name entry.body)) (next ∷ entries))
    (entry_followed direction entry is start) (entry_leads direction entry is) refl
    (laid_out direction (start + length (context_bytes true entry.name entry.body)) next entries said)

whole_text : (entry : Entry) (entries : List Entry) → concat (pieces_of (entry ∷ entries)) ≡ text_of (entry ∷ entries)
whole_text entry [] = append-nil (context_bytes false entry.name entry.body)
whole_text entry (next ∷ entries) = ap (λ rest. context_bytes true entry.name entry.body ++ rest) (whole_text next entries)

no_piece : (start : ℕ) (pieces : List (List ℕ)) (contexts : List ContextView) → AreLaidOut start pieces contexts
    → concat pieces ≡ [] → ⊥
no_piece start [] contexts laid e = laid
no_piece start (piece ∷ pieces) [] laid e = absurd laid
no_piece start ([] ∷ []) (context ∷ contexts) (is, last, none) e = let long = is.header in absurd (omega arith)
no_piece start ((byte ∷ piece) ∷ []) (context ∷ contexts) (is, last, none) e = cc
no_piece start ([] ∷ next ∷ pieces) (context ∷ contexts) (is, on, laid) e = let long = is.header in absurd (omega arith)
no_piece start ((byte ∷ piece) ∷ next ∷ pieces) (context ∷ contexts) (is, on, laid) e = cc

held_by : (text : List ℕ) (pieces : List (List ℕ)) (contexts : List ContextView) → concat pieces ≡ text
    → AreLaidOut 0 pieces contexts → HoldsContexts text contexts
held_by [] pieces contexts whole laid = absurd (no_piece 0 pieces contexts laid whole)
held_by (byte ∷ bytes) pieces contexts whole laid = (pieces, whole, laid)

held : (direction : Direction) (entries : List Entry) → AreSaid direction entries
    → HoldsContexts (text_of entries) (contexts_of 0 entries)
held direction [] said = refl
held direction (entry ∷ entries) said = held_by (text_of (entry ∷ entries)) (pieces_of (entry ∷ entries))
    (contexts_of 0 (entry ∷ entries)) (whole_text entry entries) (laid_out direction 0 entry entries said)

-- all that entries say of one kind
abbrev pub said_of_kind : {X : Type 0} → (Meaning → Option X) → List Entry → List X
said_of_kind part entries = filter_map (λ entry. part entry.meaning) entries

values_said : {X : Type 0} (direction : Direction) (part : Meaning → Option X) (start : ℕ) (entries : List Entry)
    → AreSaid direction entries → values_of_kind direction part (contexts_of start entries) ≡ said_of_kind part entries
values_said direction part start [] said = refl
values_said direction part start (entry ∷ entries) (is, said) =
    let further = values_said direction part (start + length (context_bytes true entry.name entry.body)) entries said in
    rw (is.means start, further) refl

-- what entries say is the value that their text holds
pub holds_value : (direction : Direction) (entries : List Entry) (v : CreateView) → AreSaid direction entries
    → said_of_kind wrong_part entries ≡ [] → said_of_kind lease_part entries ≡ option_to_list v.lease
    → said_of_kind durable_part entries ≡ option_to_list v.durable
    → said_of_kind reconnect_part entries ≡ option_to_list v.reconnect → go_together v.durable v.reconnect ≡ true
    → HoldsValue direction (text_of entries) v
holds_value direction entries v said lengths lease durable reconnect together = (
  contexts_of 0 entries,
  held direction entries said,
  record {
    lengths = values_said direction wrong_part 0 entries said ∙ lengths;
    lease = values_said direction lease_part 0 entries said ∙ lease;
    durable = values_said direction durable_part 0 entries said ∙ durable;
    reconnect = values_said direction reconnect_part 0 entries said ∙ reconnect;
    together = together;
  },
)
