-- Lists of outs: what holds of two holds of both together.
use Rattle.lease_laws.proofs.Words.{◌++◌, ◌∙◌, ◌∷◌, ◌≡◌, ArePaired, Done, EachOut, GoOn, IsBreak, IsFlaggedRightly, IsNoBreak}
use Rattle.lease_laws.proofs.Words.{List, None, Option, Out, Reply, Some, [], ap, append-nil, append_assoc, refl, subst, sym}

-- what holds of each out of two lists holds of each of both
pub each_append : (Holds : Out → Type 0) (xs ys : List Out) → EachOut Holds xs → EachOut Holds ys → EachOut Holds (xs ++ ys)
each_append Holds [] ys h k = k
each_append Holds (x ∷ xs) ys h k = (h.0, each_append Holds xs ys h.1 k)

-- what follows from what holds of each
pub each_weaker : (Holds Weaker : Out → Type 0) → ((out : Out) → Holds out → Weaker out) → (xs : List Out)
    → EachOut Holds xs → EachOut Weaker xs
each_weaker Holds Weaker f [] h = tt
each_weaker Holds Weaker f (x ∷ xs) h = (f x h.0, each_weaker Holds Weaker f xs h.1)

-- outs that are paired, and others behind them
pub paired_append : (before : Option Done) (xs ys : List Out) → ArePaired before xs → ArePaired None ys
    → ArePaired before (xs ++ ys)
paired_append None [] ys h k = k
paired_append (Some done) [] ys h k = absurd h
paired_append None (Out.Changed file client number patch ∷ xs) ys h k =
    paired_append (Some (record { client = client; number = number })) xs ys h k
paired_append None (Out.Sent client (Reply.WriteDone file_id number) ∷ xs) ys h k = absurd h
paired_append None (x ∷ xs) ys h k = paired_append None xs ys h k
paired_append (Some done) (Out.Sent client (Reply.WriteDone file_id number) ∷ xs) ys h k =
    (h.0, h.1, paired_append None xs ys h.2 k)
paired_append (Some done) (x ∷ xs) ys h k = absurd h

-- breaks alone are paired
pub breaks_paired : (xs : List Out) → EachOut IsBreak xs → ArePaired None xs
breaks_paired [] h = tt
breaks_paired (Out.Sent client (Reply.Break notice) ∷ xs) h = breaks_paired xs h.1
breaks_paired (x ∷ xs) h = absurd h.0

-- the outs of a call: flagged rightly and paired
pub record AreFair (outs : List Out) : Type 0 where
  pub flagged : EachOut IsFlaggedRightly outs
  pub paired : ArePaired None outs

-- fair outs with fair outs behind them
pub fair_append : (xs ys : List Out) → AreFair xs → AreFair ys → AreFair (xs ++ ys)
fair_append xs ys h k = record {
  flagged = each_append IsFlaggedRightly xs ys h.flagged k.flagged;
  paired = paired_append None xs ys h.paired k.paired;
}

-- outs that go on by none
pub go_on-same : (Holds : Out → Type 0) (outs : List Out) → GoOn Holds outs outs
go_on-same Holds outs = record { more = []; are_more = sym (append-nil outs); each = tt }

-- outs that go on twice
pub go_on-twice : (Holds : Out → Type 0) (a b c : List Out) → GoOn Holds a b → GoOn Holds b c → GoOn Holds a c
go_on-twice Holds a b c h k = record {
  more = h.more ++ k.more;
  are_more = k.are_more ∙ ap (λ x. x ++ k.more) h.are_more ∙ append_assoc a h.more k.more;
  each = each_append Holds h.more k.more h.each k.each;
}

-- outs that go on by such go on by weaker ones
pub go_on-weaker : (Holds Weaker : Out → Type 0) → ((out : Out) → Holds out → Weaker out) → (a b : List Out)
    → GoOn Holds a b → GoOn Weaker a b
go_on-weaker Holds Weaker f a b h = record {
  more = h.more;
  are_more = h.are_more;
  each = each_weaker Holds Weaker f h.more h.each;
}

-- a break that is flagged rightly
abbrev pub IsGoodBreak : Out → Type 0
IsGoodBreak out = IsBreak out × IsFlaggedRightly out

-- outs that go on by such breaks stay fair
pub breaks_fair : (a b : List Out) → AreFair a → GoOn IsGoodBreak a b → AreFair b
breaks_fair a b fair h = subst AreFair (sym h.are_more) (fair_append a h.more fair (record {
  flagged = each_weaker IsGoodBreak IsFlaggedRightly (λ out g. g.1) h.more h.each;
  paired = breaks_paired h.more (each_weaker IsGoodBreak IsBreak (λ out g. g.0) h.more h.each);
}))

-- outs that have gone on by a fair answer without a break
pub record AreAnswered (before : List Out) (after : List Out) : Type 0 where
  pub more : List Out
  pub are_more : after ≡ before ++ more
  pub each : EachOut IsNoBreak more
  pub fair : AreFair more

-- an answer
pub answered_by : (before more : List Out) → EachOut IsNoBreak more → AreFair more → AreAnswered before (before ++ more)
answered_by before more e f = record { more = more; are_more = refl; each = e; fair = f }

-- no answer
pub answered_nothing : (outs : List Out) → AreAnswered outs outs
answered_nothing outs = record {
  more = [];
  are_more = sym (append-nil outs);
  each = tt;
  fair =
      record { flagged = tt; paired = tt };
}

-- fair outs with an answer behind them
pub answers_fair : (a b : List Out) → AreFair a → AreAnswered a b → AreFair b
answers_fair a b fair h = subst AreFair (sym h.are_more) (fair_append a h.more fair h.fair)

-- an answer goes on without breaks
pub answers_go_on : (a b : List Out) → AreAnswered a b → GoOn IsNoBreak a b
answers_go_on a b h = record { more = h.more; are_more = h.are_more; each = h.each }

-- no outs are fair
pub none_fair : AreFair []
none_fair = record { flagged = tt; paired = tt }
