-- Lines that were written field by field.
use Rattle.std.proofs.Common.{◌≡◌, ◌++◌, ◌∷◌, [], ◌∙◌, Bool, List, ℕ, ap, append-nil, append_assoc, arith, codes, map, refl}
use Rattle.lease_texts.specs.{Complaints.field_words, Complaints.held_words, Lines.line_text, Lines.spoken_words, Lines.words_for}
use Rattle.lease_texts.specs.{Requests.spaced, Requests.plain_text, declared.kinds.Field.Field, declared.said.Said.Said}
use Rattle.lease_texts.specs.Kinds.{Words, Spoken, line, word_for}
use Rattle.lease_texts.specs.Written.{said_text, said_word, spoken_of, texts_behind, words_behind}

word_is : (one : Said) → word_for (spoken_of one).field (spoken_of one).value ≡ said_word one
word_is (Said.Durable durable) = refl
word_is one = refl

text_is : (one : Said) → spaced (words_for (spoken_of one).field (spoken_of one).value) ≡ said_text one
unfolding plain_text
text_is (Said.Durable durable) = refl
text_is (Said.Request asked) = refl
text_is (Said.Reply told) = refl
text_is one = ap (λ (t : List ℕ). 32 ∷ t) (append-nil (said_word one))

-- all but three kinds of fields have one word
pub said_plainly : (one : Said) → ((durable : Bool) → one ≡ Said.Durable durable → ⊥)
    → ((asked : _) → one ≡ Said.Request asked → ⊥) → ((told : _) → one ≡ Said.Reply told → ⊥) → said_text one ≡ 32 ∷ said_word one
said_plainly (Said.Durable durable) first second third = absurd (first durable refl)
said_plainly (Said.Request asked) first second third = absurd (second asked refl)
said_plainly (Said.Reply told) first second third = absurd (third told refl)
said_plainly one first second third = refl

-- and all but two have no table
pub held_plainly : (one : Field) → (one ≡ Field.Request → ⊥) → (one ≡ Field.Reply → ⊥) → field_words one ≡ held_words one
held_plainly Field.Request first second = absurd (first refl)
held_plainly Field.Reply first second = absurd (second refl)
held_plainly one first second = refl

plain_behind : (said : List Said)
    → spaced (map (λ (one : Spoken). word_for one.field one.value) (map spoken_of said)) ≡ words_behind said
plain_behind [] = refl
plain_behind (one ∷ others) =
    ap (λ (t : List ℕ). 32 ∷ t ++ spaced (map (λ (one : Spoken). word_for one.field one.value) (map spoken_of others)))
    (word_is one) ∙ ap (λ (t : List ℕ). 32 ∷ said_word one ++ t) (plain_behind others)

spaced-append : (first second : Words) → spaced (first ++ second) ≡ spaced first ++ spaced second
spaced-append [] second = refl
spaced-append (word ∷ first) second = ap (λ (t : List ℕ). 32 ∷ word ++ t) (spaced-append first second) ∙ simp append_assoc

all_behind : (said : List Said) → spaced (spoken_words (map spoken_of said)) ≡ texts_behind said
all_behind [] = refl
all_behind (one ∷ others) = spaced-append (words_for (spoken_of one).field (spoken_of one).value)
    (spoken_words (map spoken_of others)) ∙ ap (λ (t : List ℕ). t ++ spaced (spoken_words (map spoken_of others))) (text_is one)
    ∙ ap (λ (t : List ℕ). said_text one ++ t) (all_behind others)

-- a word and fields of one word each
pub plain_written : (old first second all name : List ℕ) (said : List Said) → first ≡ old ++ codes " "
    → second ≡ first ++ name → all ≡ second ++ words_behind said → all ≡ old ++ plain_text (line name (map spoken_of said))
unfolding plain_text
plain_written old first second all name said is then whole = let words = plain_behind said in grind (arith, append_assoc)

-- a whole line
pub line_written : (old first second all name : List ℕ) (said : List Said) → first ≡ old ++ name
    → second ≡ first ++ texts_behind said → all ≡ second ++ 10 ∷ [] → all ≡ old ++ line_text (line name (map spoken_of said))
unfolding line_text
line_written old first second all name said is then whole = let texts = all_behind said in grind (arith, append_assoc)
