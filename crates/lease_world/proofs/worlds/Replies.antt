-- Replies to clients, one after another.
use Rattle.lease_laws.proofs.Words.{◌++◌, ◌==◌, ◌∙◌, ◌∷◌, ◌≡◌, Bool, List, None, Option, Some, ℕ, [], ap, append-nil}
use Rattle.lease_laws.proofs.Words.{append_assoc, false, if◌then◌else◌, option_map, refl, sym, true}
use Rattle.lease_state.specs.declared.reply.Reply.{Reply}
use Rattle.lease_world.specs.world.Seats.{Seat, seat_at, replies_to, replies_among, with_replies, HasReplies, HasKept}
use Rattle.share_server.specs.declared.values.out.Out as out

replies_append : (client : ℕ) (xs ys : List out.Out) → replies_to client (xs ++ ys) ≡ replies_to client xs ++ replies_to client ys
replies_append client [] ys = refl
replies_append client (out.TheVariants.Sent other reply ∷ xs) ys = go (other.0 == client) (replies_append client xs ys)
  where
    go : (b : Bool) → replies_to client (xs ++ ys) ≡ replies_to client xs ++ replies_to client ys
        → (if b then reply ∷ replies_to client (xs ++ ys) else replies_to client (xs ++ ys))
        ≡ (if b then reply ∷ replies_to client xs else replies_to client xs) ++ replies_to client ys
    go true e = ap (λ (rs : List Reply). reply ∷ rs) e
    go false e = e
replies_append client (out.TheVariants.Opened file other ∷ xs) ys = replies_append client xs ys
replies_append client (out.TheVariants.Changed file other number patch ∷ xs) ys = replies_append client xs ys

with_none : (o : Option Seat) → o ≡ option_map (with_replies []) o
with_none None = refl
with_none (Some seat) = ap (λ (rs : List Reply). Some (record seat { replies = rs })) (sym (append-nil seat.replies))

with_both : (o : Option Seat) (xs ys : List Reply)
    → option_map (with_replies ys) (option_map (with_replies xs) o) ≡ option_map (with_replies (xs ++ ys)) o
with_both None xs ys = refl
with_both (Some seat) xs ys = ap (λ (rs : List Reply). Some (record seat { replies = rs })) (append_assoc seat.replies xs ys)

pub more_replies : (first middle last : List Seat) (xs ys : List out.Out) → HasReplies first middle xs → HasReplies middle last ys
    → HasReplies first last (xs ++ ys)
more_replies first middle last xs ys a b n = b n ∙ (ap (λ (o : Option Seat). option_map (with_replies (replies_to n ys)) o) (a n)
    ∙ (with_both (seat_at first n) (replies_to n xs) (replies_to n ys)
    ∙ ap (λ (rs : List Reply). option_map (with_replies rs) (seat_at first n)) (sym (replies_append n xs ys))))

-- ---- messages that are kept

among_append : (xs ys : List out.Out) → replies_among (xs ++ ys) ≡ replies_among xs ++ replies_among ys
among_append [] ys = refl
among_append (out.TheVariants.Sent other reply ∷ xs) ys = ap (λ (rs : List Reply). reply ∷ rs) (among_append xs ys)
among_append (out.TheVariants.Opened file other ∷ xs) ys = among_append xs ys
among_append (out.TheVariants.Changed file other number patch ∷ xs) ys = among_append xs ys

kept_both : (o : Option (List Reply)) (xs ys : List Reply)
    → option_map (λ kept. kept ++ ys) (option_map (λ kept. kept ++ xs) o) ≡ option_map (λ kept. kept ++ (xs ++ ys)) o
kept_both None xs ys = refl
kept_both (Some kept) xs ys = ap (λ (rs : List Reply). Some rs) (append_assoc kept xs ys)

pub more_kept : (first middle last : Option (List Reply)) (xs ys : List out.Out) → HasKept first middle (replies_among xs)
    → HasKept middle last (replies_among ys) → HasKept first last (replies_among (xs ++ ys))
more_kept first middle last xs ys a b = b ∙ (ap (λ (o : Option (List Reply)). option_map (λ kept. kept ++ replies_among ys) o) a
    ∙ (kept_both first (replies_among xs) (replies_among ys)
    ∙ ap (λ (rs : List Reply). option_map (λ kept. kept ++ rs) first) (sym (among_append xs ys))))

kept_none : (o : Option (List Reply)) → o ≡ option_map (λ kept. kept ++ []) o
kept_none None = refl
kept_none (Some kept) = ap (λ (rs : List Reply). Some rs) (sym (append-nil kept))
