-- The files at places, after one place came to lead to another file, and after a message that is no CREATE response.
use Rattle.std.proofs.Common.{◌≡◌, ℕ, ◌&&◌, if◌then◌else◌, Bool, true, false, List, [], ◌∷◌}
use Rattle.std.proofs.Common.{Option, Some, None, refl, sym, ap, subst, ◌∙◌, arith}
use Rattle.std.proofs.lemmas.Bool.Decides.{nat_tests}
use Rattle.std.proofs.lemmas.Map.Text.{is_eq-slice_cmp}
use Rattle.std.proofs.lemmas.Slice.Eq.{bytes_eq-Decides}
use Rattle.std.specs.BTreeMap.{BTreeMap, Updates, UpdatesBy, is_at}
use Rattle.std.specs.Cmp.{eq_by_cmp_equiv}
use Rattle.std.specs.Cmp.Lexicographic.{slice_cmp, nat_list_cmp_total, nat_list_eq_equiv}
use Rattle.std.specs.Global.{Vec}
use Rattle.std.specs.Map.{lookup, IsKeyTest, AreApart, KeepsOthers}
use Rattle.std.specs.Ordering.{is_eq, nat_cmp, eq_by_cmp}
use Rattle.std.specs.Str.{bytes_eq}
use Rattle.std.specs.declared.cmp.Ordering.{Ordering}
use Rattle.capture_walk.specs.Files.{Place, is_alike, is_spot, spot_of, spot_order, share_of, by_bytes, at_spot, by_name}
use Rattle.capture_walk.specs.Files.{Life, file_at, placed_at, file_as, HaveBegun}
use Rattle.capture_walk.specs.Notes.{create_given}
use Rattle.capture_walk.specs.Renames.{is_change}
use Rattle.capture_walk.specs.Opens.{Known, known, known_after, held_after, made_by, lives, KnowsFiles}
use Rattle.capture_walk.specs.declared.files.Files.{Files}
use Rattle.capture_walk.specs.declared.files.Identity.{Identity}
use Rattle.capture_walk.specs.declared.files.Spot.{Spot}
use Rattle.capture_walk.specs.declared.note.CreateGiven.{CreateGiven}
use Rattle.capture_walk.specs.declared.note.Seen.{Seen}
use Rattle.capture_walk.specs.declared.opens.Open.{Open}

-- ---- maps with bytes as their keys

abbrev bytes_order : Vec ℕ → Vec ℕ → Ordering
bytes_order one other = slice_cmp nat_cmp one.items other.items

abbrev bytes_at : List ℕ → Vec ℕ → Ordering
bytes_at bytes key = slice_cmp nat_cmp bytes key.items

apart : (bytes others key : List ℕ) → bytes_eq bytes others ≡ false → is_eq (slice_cmp nat_cmp bytes key) ≡ true
    → is_eq (slice_cmp nat_cmp others key) ≡ false
apart bytes others key off at =
    let same = sym (is_eq-slice_cmp bytes key) ∙ at in
    is_eq-slice_cmp others key
    ∙ (nat_list_eq_equiv.symm others key ∙ (sym (nat_list_eq_equiv.congr bytes key others same) ∙ off))

kept : {K X : Type 0} (eq : K → K → Bool) (test : K → Bool) (old new : List (K × X)) → KeepsOthers eq test old new
    → (other : K → Bool) → IsKeyTest eq other → AreApart test other → lookup other new ≡ lookup other old
unfolding KeepsOthers
kept eq test old new keeps = keeps

-- after an entry came, by the bytes of its key
pub at_key : {X : Type 0} (old new : BTreeMap (Vec ℕ) X) (key : Vec ℕ) (bytes : List ℕ) (written : X) → key.items ≡ bytes
    → Updates bytes_order old new key (Some written) → UpdatesBy bytes_order (bytes_at bytes) old new (Some written)
at_key old new key bytes written is updates =
    subst (λ (found : List ℕ). UpdatesBy bytes_order (bytes_at found) old new (Some written)) is updates

both : (same : Bool) (file found : Option ℕ) → (if same then file else found) ≡ (if same && true then file else found)
both true file found = refl
both false file found = refl

neither : (same : Bool) (file found : Option ℕ) → found ≡ (if same && false then file else found)
neither true file found = refl
neither false file found = refl

module _ {X : Type 0} (bytes others : List ℕ) (old new : BTreeMap (Vec ℕ) X) (written : X) where
  after_if : UpdatesBy bytes_order (bytes_at bytes) old new (Some written) → (b : Bool) → bytes_eq bytes others ≡ b
      → by_bytes others new ≡ (if b then Some written else by_bytes others old)
  after_if updates true same =
      subst (λ (key : List ℕ). by_bytes key new ≡ Some written) ((bytes_eq-Decides bytes others).0 same) updates.1
  after_if updates false off = kept (eq_by_cmp bytes_order) (is_at (bytes_at bytes)) old.entries new.entries updates.3
      (is_at (bytes_at others)) (λ x y. (eq_by_cmp_equiv nat_list_cmp_total).congr others x.items y.items)
      (λ key. apart bytes others key.items off)

  -- What is found at some bytes, after another value was written at the same ones or at others.
  found_if : (look : Option X → Option ℕ) (file : Option ℕ) (same : Bool)
      → UpdatesBy bytes_order (bytes_at bytes) old new (Some written)
      → look (Some written) ≡ (if same then file else look (by_bytes bytes old)) → (b : Bool) → bytes_eq bytes others ≡ b
      → look (by_bytes others new) ≡ (if same && b then file else look (by_bytes others old))
  found_if look file same updates is true at =
      ap look (after_if updates true at)
      ∙ (is ∙ (both same file (look (by_bytes bytes old))
      ∙ ap (λ (key : List ℕ). if same && true then file else look (by_bytes key old)) ((bytes_eq-Decides bytes others).0 at)))
  found_if look file same updates is false off =
      ap look (after_if updates false off) ∙ neither same file (look (by_bytes others old))

-- ---- the file at a place

at_is_spot : (one other : Spot) → is_at (spot_order one) other ≡ is_spot one other
at_is_spot one other = grind (arith, nat_tests)

spot_put : (before after : BTreeMap Spot ℕ) (place : Place) (file : ℕ)
    → Updates spot_order before after (spot_of place) (Some file)
    → (other : Place) → at_spot other (Some after)
    ≡ (if is_spot (spot_of place) (spot_of other) then Some file else at_spot other (Some before))
spot_put before after place file updates other =
    updates.0 (spot_of other)
    ∙ ap (λ (b : Bool). if b then Some file else at_spot other (Some before)) (at_is_spot (spot_of place) (spot_of other))

-- by the names on its share
pub name_put : (old new : BTreeMap (Vec ℕ) (BTreeMap Spot ℕ)) (place : Place) (file : ℕ) (before written : BTreeMap Spot ℕ)
    → UpdatesBy bytes_order (bytes_at place.name) old new (Some written)
    → ((other : Place) → at_spot other (Some before) ≡ at_spot other (by_bytes place.name old))
    → Updates spot_order before written (spot_of place) (Some file)
    → (other : Place) → by_name other (Some new) ≡ (if is_alike place other then Some file else by_name other (Some old))
name_put old new place file before written updates was spots other =
    let same = is_spot (spot_of place) (spot_of other) in
    found_if place.name other.name old new written (λ found. at_spot other found) (Some file) same updates
    (spot_put before written place file spots other
    ∙ ap (λ (found : Option ℕ). if same then Some file else found) (was other)) (bytes_eq place.name other.name) refl

turned : (a b c : Bool) → ((a && b) && c) ≡ ((a && c) && b)
turned true true true = refl
turned true true false = refl
turned true false true = refl
turned true false false = refl
turned false b c = refl

-- by the shares
pub share_put : (old new : BTreeMap (Vec ℕ) (BTreeMap (Vec ℕ) (BTreeMap Spot ℕ))) (share : List ℕ) (place : Place) (file : ℕ)
    (before written : BTreeMap (Vec ℕ) (BTreeMap Spot ℕ))
    → share ≡ share_of place.path → UpdatesBy bytes_order (bytes_at share) old new (Some written)
    → ((other : Place) → by_name other (Some before) ≡ by_name other (by_bytes share old))
    → ((other : Place) → by_name other (Some written)
    ≡ (if is_alike place other then Some file else by_name other (Some before)))
    → (other : Place) → by_name other (by_bytes (share_of other.path) new)
    ≡ placed_at other place file (by_name other (by_bytes (share_of other.path) old))
share_put old new share place file before written its updates was names other =
    let is = found_if share (share_of other.path) old new written (λ found. by_name other found) (Some file)
    (is_alike place other) updates
    (names other ∙ ap (λ (found : Option ℕ). if is_alike place other then Some file else found) (was other))
    (bytes_eq share (share_of other.path)) refl in
    is ∙ (ap (λ (b : Bool). if b then Some file else by_name other (by_bytes (share_of other.path) old))
    (turned (is_spot (spot_of place) (spot_of other)) (bytes_eq place.name other.name) (bytes_eq share (share_of other.path)))
    ∙ ap (λ (bytes : List ℕ). if (is_spot (spot_of place) (spot_of other) && bytes_eq bytes (share_of other.path))
    && bytes_eq place.name other.name then Some file else by_name other (by_bytes (share_of other.path) old)) its)

-- none in a map with no entries
pub none_by_name : (names : BTreeMap (Vec ℕ) (BTreeMap Spot ℕ)) → names.entries ≡ [] → (other : Place)
    → by_name other (Some names) ≡ None
none_by_name names empty other =
    ap (λ (entries : List (Vec ℕ × BTreeMap Spot ℕ)). at_spot other (lookup (is_at (bytes_at other.name)) entries)) empty

pub none_at_spot : (spots : BTreeMap Spot ℕ) → spots.entries ≡ [] → (other : Place) → at_spot other (Some spots) ≡ None
none_at_spot spots empty other =
    ap (λ (entries : List (Spot × ℕ)). lookup (is_at (spot_order (spot_of other))) entries) empty

-- ---- after a message that is no CREATE response

record StayKnown (seen : Seen) (given : Option CreateGiven) (past : List Seen) (was : Known) (held : List Open) : Type 0 where
  at : (place : Place) → (known_after seen given past was held).at place ≡ (if is_change seen past then None else was.at place)
  on_disk : (identity : Identity) → (known_after seen given past was held).on_disk identity ≡ was.on_disk identity
  begun : (known_after seen given past was held).begun ≡ was.begun

stay_known : (seen : Seen) (given : Option CreateGiven) (past : List Seen) (was : Known) (held : List Open) → given ≡ None
    → StayKnown seen given past was held
stay_known seen None past was held none =
    record { at = λ place. refl; on_disk = λ identity. refl; begun = refl }
stay_known seen (Some given) past was held none = absurd (cc)

pub known_left : (seen : Seen) (past : List Seen) (changes : Bool) (before after : Files) → create_given seen.note ≡ None
    → changes ≡ is_change seen past
    → ((place : Place) → file_at place after ≡ (if changes then None else file_at place before))
    → ((identity : Identity) → file_as identity after ≡ file_as identity before)
    → ((lives : List Life) → HaveBegun lives before → HaveBegun lives after)
    → KnowsFiles past before → KnowsFiles (seen ∷ past) after
known_left seen past changes before after none same at on_disk begun knows =
    let held = held_after (made_by seen (create_given seen.note) past (known past)) seen (known past).held in
    let stay = stay_known seen (create_given seen.note) past (known past) held none in
    record {
      files_at = λ place. at place ∙ (ap (λ (b : Bool). if b then None else file_at place before) same
          ∙ (ap (λ (found : Option ℕ). if is_change seen past then None else found) (knows.files_at place)
          ∙ sym (stay.at place)));
      on_disk = λ identity. on_disk identity ∙ (knows.on_disk identity ∙ sym (stay.on_disk identity));
      begun = subst (λ (others : List Life). HaveBegun others after) (sym stay.begun) (begun (lives past) knows.begun);
    }
