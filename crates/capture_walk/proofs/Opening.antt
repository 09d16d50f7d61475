-- The opens that there are, by the messages that made them.
use Rattle.std.proofs.Common.{◌≡◌, ◌⊎◌, inl, inr, Bool, true, false}
use Rattle.std.proofs.Common.{not, List, [], ◌∷◌, ◌++◌, Option, Some, None, filter, refl, ap, sym}
use Rattle.std.proofs.Common.{subst, if◌then◌else◌, option_to_list, ◌∙◌}
use Rattle.capture_walk.specs.Notes.{create_given}
use Rattle.capture_walk.specs.Opens.{opens, made, ends, is_left, known, known_after, held_after}
use Rattle.capture_walk.specs.Laws.{IsAmong, IsOpen, NoneEnds, OpensAreMade}
use Rattle.capture_walk.specs.declared.note.CreateGiven.{CreateGiven}
use Rattle.capture_walk.specs.declared.note.Seen.{Seen}
use Rattle.capture_walk.specs.declared.opens.Open.{Open}

among_first : (first : Option Open) (rest : List Open) (one : Open) → IsAmong one (option_to_list first ++ rest)
    → (first ≡ Some one) ⊎ IsAmong one rest
among_first None rest one is = inr is
among_first (Some other) rest one (inl same) = inl (ap (λ (open' : Open). Some open') same)
among_first (Some other) rest one (inr among) = inr among

among_rest : (first : Option Open) (rest : List Open) (one : Open) → IsAmong one rest
    → IsAmong one (option_to_list first ++ rest)
among_rest None rest one is = is
among_rest (Some other) rest one is = inr is

among_made : (first : Option Open) (rest : List Open) (one : Open) → first ≡ Some one
    → IsAmong one (option_to_list first ++ rest)
among_made first rest one is =
    subst (λ (o : Option Open). IsAmong one (option_to_list o ++ rest)) (sym is) (inl refl)

-- an open that is left of some is one of them, and isn't ended
left_step : (now : Option Open) (seen : Seen) (other : Open) (held : List Open) (one : Open) (b : Bool) → ends now seen other ≡ b
    → (IsAmong one (filter (is_left now seen) held) → (ends now seen one ≡ false) × IsAmong one held)
    → IsAmong one (if not b then other ∷ filter (is_left now seen) held else filter (is_left now seen) held)
    → (ends now seen one ≡ false) × ((other ≡ one) ⊎ IsAmong one held)
left_step now seen other held one true told before is = let rest = before is in (rest.0, inr rest.1)
left_step now seen other held one false told before (inl same) =
    (subst (λ (x : Open). ends now seen x ≡ false) same told, inl same)
left_step now seen other held one false told before (inr among) = let rest = before among in (rest.0, inr rest.1)

left_of : (now : Option Open) (seen : Seen) (held : List Open) (one : Open) → IsAmong one (filter (is_left now seen) held)
    → (ends now seen one ≡ false) × IsAmong one held
left_of now seen [] one is = elim is [ ]
left_of now seen (other ∷ held) one is =
    left_step now seen other held one (ends now seen other) refl (λ among. left_of now seen held one among) is

clash-of : true ≡ false → ⊥
clash-of is = cc

kept_if : (now : Option Open) (seen : Seen) (other : Open) (held : List Open) (one : Open) (b : Bool) → ends now seen other ≡ b
    → ends now seen one ≡ false → (other ≡ one) ⊎ IsAmong one (filter (is_left now seen) held)
    → IsAmong one (if not b then other ∷ filter (is_left now seen) held else filter (is_left now seen) held)
kept_if now seen other held one false told kept is = is
kept_if now seen other held one true told kept (inr among) = among
kept_if now seen other held one true told kept (inl same) =
    let clash = sym told ∙ (ap (λ (x : Open). ends now seen x) same ∙ kept) in elim (clash-of clash) [ ]

kept_of : (now : Option Open) (seen : Seen) (held : List Open) (one : Open) → ends now seen one ≡ false → IsAmong one held
    → IsAmong one (filter (is_left now seen) held)
kept_of now seen [] one kept is = is
kept_of now seen (other ∷ held) one kept (inl same) = kept_if now seen other held one (ends now seen other) refl kept (inl same)
kept_of now seen (other ∷ held) one kept (inr among) =
    kept_if now seen other held one (ends now seen other) refl kept (inr (kept_of now seen held one kept among))

was_made_by : (one : Open) (seen : Seen) (past : List Seen) → (IsAmong one (opens past) → IsOpen one past)
    → (made seen past ≡ Some one) ⊎ IsAmong one (filter (is_left (made seen past) seen) (opens past)) → IsOpen one (seen ∷ past)
was_made_by one seen past earlier (inl makes) =
    record { later = []; seen = seen; earlier = past; is = refl; makes = makes; kept = tt }
was_made_by one seen past earlier (inr among) =
    let left = left_of (made seen past) seen (opens past) one among in
    let before = earlier left.1 in
    record {
      later = seen ∷ before.later;
      seen = before.seen;
      earlier = before.earlier;
      is = ap (λ (others : List Seen). seen ∷ others) before.is;
      makes = before.makes;
      kept = (subst (λ (others : List Seen). ends (made seen others) seen one ≡ false) before.is left.0, before.kept);
    }

after : (given : Option CreateGiven) (seen : Seen) (past : List Seen)
    → (known_after seen given past (known past) (held_after (made seen past) seen (opens past))).held
    ≡ held_after (made seen past) seen (opens past)
after None seen past = refl
after (Some given) seen past = refl

-- what is open after a message
opens_after : (seen : Seen) (past : List Seen)
    → opens (seen ∷ past) ≡ option_to_list (made seen past) ++ filter (is_left (made seen past) seen) (opens past)
opens_after seen past = after (create_given seen.note) seen past

was_made : (one : Open) (past : List Seen) → IsAmong one (opens past) → IsOpen one past
was_made one [] is = elim is [ ]
was_made one (seen ∷ past) is =
    was_made_by one seen past (λ among. was_made one past among)
    (among_first (made seen past) (filter (is_left (made seen past) seen) (opens past)) one
    (subst (λ (held : List Open). IsAmong one held) (opens_after seen past) is))

still_open : (one : Open) (later : List Seen) (seen : Seen) (earlier : List Seen) → made seen earlier ≡ Some one
    → NoneEnds one later (seen ∷ earlier) → IsAmong one (opens (later ++ seen ∷ earlier))
still_open one [] seen earlier makes kept =
    subst (λ (held : List Open). IsAmong one held) (sym (opens_after seen earlier))
    (among_made (made seen earlier) (filter (is_left (made seen earlier) seen) (opens earlier)) one makes)
still_open one (other ∷ later) seen earlier makes kept =
    let past = later ++ seen ∷ earlier in
    subst (λ (held : List Open). IsAmong one held) (sym (opens_after other past))
    (among_rest (made other past) (filter (is_left (made other past) other) (opens past)) one
    (kept_of (made other past) other (opens past) one kept.0 (still_open one later seen earlier makes kept.1)))

pub opens_are_made : OpensAreMade
opens_are_made one past = (
  was_made one past,
  λ is. subst (λ (messages : List Seen). IsAmong one (opens messages)) (sym is.is)
      (still_open one is.later is.seen is.earlier is.makes is.kept),
)
