-- Kinds that stand in another table: they take the same words, and tell what they told there.
use Rattle.std.proofs.Common.{◌≡◌, ◌∷◌, ◌∙◌, ◌++◌, ◌||◌, ap, [], None, Some, true, false, refl, bytes_eq, if◌then◌else◌}
use Rattle.std.specs.Prelude.{ℕ, Bool, List, Option, drop}
use Rattle.lease_texts.specs.Kinds.{Kind, Reading, Telling, Value, Words, and_then, named, taken}
use Rattle.lease_texts.specs.Commands.{Asking, command_kinds, is_named, telling_as, told_as}
use Rattle.lease_texts.specs.{Lines.field_read, Schedules.app, Schedules.event_kinds, Schedules.part_kinds}
use Rattle.lease_texts.specs.declared.{fault.LineFault.LineFault, fault.LineFault.TheVariants.Refused, kinds.Field.Field}

-- what was taken, told otherwise
abbrev pub taken_as : {A B : Type 0} → (A → B) → Option (A × Words) → Option (B × Words)
taken_as as_told None = None
taken_as as_told (Some (told, words)) = Some (as_told told, words)

then_as : {A B V : Type 0} (as_told : A → B) (first : Option (V × Words)) (less : V → Words → Option (A × Words))
    (more : V → Words → Option (B × Words)) → ((value : V) (words : Words) → more value words ≡ taken_as as_told (less value words))
    → and_then first more ≡ taken_as as_told (and_then first less)
then_as as_told None less more same = refl
then_as as_told (Some (value, words)) less more same = same value words

fields_as : {A B : Type 0} (as_told : A → B) (read : Reading) (fields : List Field) (telling : Telling A fields) (words : Words)
    → taken read fields (telling_as as_told fields telling) words ≡ taken_as as_told (taken read fields telling words)
unfolding taken
fields_as as_told read [] telling words = refl
fields_as as_told read (field ∷ fields) telling words =
    then_as as_told (read field words) (λ value rest. taken read fields (telling value) rest)
    (λ value rest. taken read fields (telling_as as_told fields (telling value)) rest)
    (λ value rest. fields_as as_told read fields (telling value) rest)

one_of : {X : Type 0} (b later : Bool) (first second known : X) → (b || later) ≡ true → (b ≡ true → first ≡ known)
    → (b ≡ false → later ≡ true → second ≡ known) → (if b then first else second) ≡ known
one_of true later first second known is here there = here refl
one_of false later first second known is here there = there refl is

none_of : {X : Type 0} (b later : Bool) (first second known : X) → (b || later) ≡ false → (later ≡ false → second ≡ known)
    → (if b then first else second) ≡ known
none_of true later first second known isnt there = absurd (let c : ⊥ = cc in c)
none_of false later first second known isnt there = there isnt

same_choice : {A B : Type 0} (as_told : A → B) (b : Bool) (first second : Option (A × Words)) (other : Option (B × Words))
    → b ≡ true → other ≡ taken_as as_told first → other ≡ taken_as as_told (if b then first else second)
same_choice as_told b first second other is same = rw is same

same_else : {A B : Type 0} (as_told : A → B) (b : Bool) (first second : Option (A × Words)) (other : Option (B × Words))
    → b ≡ false → other ≡ taken_as as_told second → other ≡ taken_as as_told (if b then first else second)
same_else as_told b first second other isnt same = rw isnt same

-- before other kinds, where one of them is meant
pub told_here : {A B : Type 0} (as_told : A → B) (read : Reading) (kinds : List (Kind A)) (others : List (Kind B)) (name : List ℕ)
    (words : Words) → is_named name kinds ≡ true
    → named read (told_as as_told kinds ++ others) name words ≡ taken_as as_told (named read kinds name words)
unfolding named
told_here as_told read [] others name words is = absurd (let c : ⊥ = cc in c)
told_here as_told read (one ∷ kinds) others name words is =
    one_of (bytes_eq name one.name) (is_named name kinds) _ _ _ is
    (λ b. same_choice as_told (bytes_eq name one.name) _ _ _ b (fields_as as_told read one.fields one.tells words))
    (λ b later. same_else as_told (bytes_eq name one.name) _ _ _ b (told_here as_told read kinds others name words later))

-- before other kinds, where none of them is meant
pub told_elsewhere : {A B : Type 0} (as_told : A → B) (read : Reading) (kinds : List (Kind A)) (others : List (Kind B))
    (name : List ℕ) (words : Words) → is_named name kinds ≡ false
    → named read (told_as as_told kinds ++ others) name words ≡ named read others name words
unfolding named
told_elsewhere as_told read [] others name words isnt = refl
told_elsewhere as_told read (one ∷ kinds) others name words isnt =
    none_of (bytes_eq name one.name) (is_named name kinds) _ _ _ isnt
    (λ later. told_elsewhere as_told read kinds others name words later)

choice_as : {A B : Type 0} (as_told : A → B) (b : Bool) (first second : Option (A × Words)) (here there : Option (B × Words))
    → here ≡ taken_as as_told first → there ≡ taken_as as_told second
    → (if b then here else there) ≡ taken_as as_told (if b then first else second)
choice_as as_told true first second here there same others = same
choice_as as_told false first second here there same others = others

-- alone
pub told_alone : {A B : Type 0} (as_told : A → B) (read : Reading) (kinds : List (Kind A)) (name : List ℕ) (words : Words)
    → named read (told_as as_told kinds) name words ≡ taken_as as_told (named read kinds name words)
unfolding named
told_alone as_told read [] name words = refl
told_alone as_told read (one ∷ kinds) name words =
    choice_as as_told (bytes_eq name one.name) _ _ _ _ (fields_as as_told read one.fields one.tells words)
    (told_alone as_told read kinds name words)

-- ---- commands in schedules

pub asked_here : (name : List ℕ) (old new : Words) (asking : Asking) → is_named name command_kinds ≡ true
    → named field_read command_kinds name old ≡ Some (asking, new)
    → named field_read (drop 2 part_kinds) name old ≡ Some (app asking, new)
asked_here name old new asking is told =
    told_here app field_read command_kinds event_kinds name old is ∙ ap (taken_as app) told

pub refused_here : (name : List ℕ) (old : Words) (fault : LineFault) → is_named name command_kinds ≡ true
    → (fault ≡ Refused → named field_read command_kinds name old ≡ None)
    → fault ≡ Refused → named field_read (drop 2 part_kinds) name old ≡ None
refused_here name old fault is refused so =
    told_here app field_read command_kinds event_kinds name old is ∙ ap (taken_as app) (refused so)

pub others_here : (name : List ℕ) (old : Words) → is_named name command_kinds ≡ false
    → named field_read (drop 2 part_kinds) name old ≡ named field_read event_kinds name old
others_here name old isnt = told_elsewhere app field_read command_kinds event_kinds name old isnt
