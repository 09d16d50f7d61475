-- A judge that was given facts, and is given one more.
use Rattle.lease_laws.proofs.Words.{◌++◌, ◌+◌, ◌∙◌, ◌∷◌, ◌≡◌, Fact, List, OneWriteCache, ℕ, [], ap, arith, believed}
use Rattle.lease_laws.proofs.Words.{false, flaw_at, has_joined, has_strayed, is_good, is_served, is_settled}
use Rattle.lease_laws.proofs.Words.{is_started, last_sending, length, length-append, length-reverse, or_else, refl, reverse}
use Rattle.lease_laws.proofs.Words.{reverse-append, sendings, start_of, subst, suc, sym, takings, true, verdict_from, zero}
use Rattle.lease_model.specs.records.Verdict as model
use Rattle.lease_facts.specs.Verdicts.{verdict_of}
use Rattle.lease_facts.specs.declared.verdict.Verdict.{Verdict}
use Rattle.lease_world.specs.judge.Judged.{Judging, is_safe, Steps, HasJudged, JudgesOneMore}
use Rattle.lease_world.specs.judge.Knows.{KnowsFile, KnowsCache, KnowsClient, HasContents, KnowsHolders, Knows, held, how_many}
use Rattle.lease_world.specs.judge.Seen.{unseen_file, unseen_cache, unseen_client, unheld, is_among, has_settled, file_in}
use Rattle.lease_world.specs.judge.Seen.{client_in, cache_in}
use Rattle.lease_world.specs.judge.Told.{placed_changes, last_touch, write_of, pending}
use Rattle.lease_world.proofs.Numbered.{nothing_written}
use Rattle.lease_facts.proofs.Places.{past_the_end}
use Rattle.lease_world.proofs.records.Adding.{Judges, judged}
use Rattle.lease_world.proofs.records.Flaws.{verdict-more}
use Rattle.lease_world.proofs.records.Knowing.{match_bool}

-- ---- before any fact

file_unseen : (file : ℕ) → KnowsFile file unseen_file []
unfolding is_started start_of placed_changes last_touch
file_unseen file = grind arith

cache_unseen : (client file : ℕ) → KnowsCache client file unseen_cache []
unfolding believed pending
cache_unseen client file = record { belief = refl; covers = λ position. refl }

nothing_settled : (number : ℕ) → has_settled unseen_client number ≡ false
unfolding is_among
nothing_settled number = refl

client_unseen : (client : ℕ) → KnowsClient client unseen_client []
unfolding has_joined is_served has_strayed sendings takings last_sending is_settled write_of
client_unseen client = record {
  joined = refl;
  served = refl;
  strayed = refl;
  in_order = omega arith;
  sent = refl;
  taken = refl;
  rising = omega arith;
  settled = nothing_settled;
  writes = nothing_written;
  caches = λ f. rw (past_the_end unseen_cache [] f (omega arith)) (cache_unseen client f);
}

nobody_yet : OneWriteCache []
unfolding believed
nobody_yet file client other ne good writes good_too = refl

contents_unseen : (c f : ℕ) → HasContents (file_in [] f) (client_in [] c).taken (cache_in (client_in [] c).caches f)
contents_unseen c f = tt

nobody_good : (client : ℕ) → is_good client [] ≡ false
unfolding is_good is_served has_strayed
nobody_good client = refl

nothing_many : (n : ℕ) → how_many (λ client. false) n ≡ 0
unfolding how_many
nothing_many zero = refl
nothing_many (suc n) = let e = nothing_many n in omega (arith, e)

holders_unseen : KnowsHolders [] []
unfolding held is_good is_served has_strayed
holders_unseen = record {
  few = λ c big. nobody_good c;
  counted = λ f. rw (past_the_end unheld [] f (omega arith)) (record {
    any = sym (nothing_many 256);
    writing = sym (nothing_many 256);
  });
}

pub nothing_judged : HasJudged (record {
  verdict = Verdict.Safe;
  count = 0;
  known = record { files = []; clients = []; holders = [] };
}) []
unfolding verdict_from
nothing_judged = record {
  verdict = refl;
  known = λ e. (
    refl,
    record {
      files = λ f. rw (past_the_end unseen_file [] f (omega arith)) (file_unseen f);
      clients = λ c. rw (past_the_end unseen_client [] c (omega arith)) (client_unseen c);
      contents = contents_unseen;
      holders = holders_unseen;
      well_formed = tt;
      one_write_cache = nobody_yet;
    },
  );
}

-- ---- one fact more

one_more_safe : (v : Verdict) (flaw : model.Verdict) → is_safe v ≡ true → or_else (verdict_of v) flaw ≡ flaw
one_more_safe v flaw e = grind arith

one_more_flawed : (v : Verdict) (flaw : model.Verdict) → is_safe v ≡ false → or_else (verdict_of v) flaw ≡ verdict_of v
one_more_flawed v flaw e = grind arith

counted : (facts : List Fact) (fact : Fact) (n m : ℕ) → n ≡ length facts → m ≡ n + 1 → m ≡ length (facts ++ fact ∷ [])
counted facts fact n m e f = let l = length-append facts (fact ∷ []) in omega (arith, e, f, l)

last_first : (facts : List Fact) (fact : Fact) → reverse (facts ++ fact ∷ []) ≡ fact ∷ reverse facts
last_first facts fact = reverse-append facts (fact ∷ [])

pub stepped : (old : Judging) (fact : Fact) (new : Judging) → Steps old fact new → JudgesOneMore old fact new
stepped old fact new steps facts h = match_bool (is_safe old.verdict) steps
    (λ safe adds.
    let known : (old.count ≡ length facts) × Knows old.known (reverse facts) = h.known safe in
    let place : old.count + 1 ≡ length (reverse facts) + 1 = let l = length-reverse facts in omega (arith, known.0, l) in
    let judges : Judges (old.count + 1) fact (reverse facts) new.known new.verdict =
    judged (old.count + 1) old.known new.known new.verdict (reverse facts) known.1 fact place adds.0 in
    record {
      verdict = judges.told ∙ (ap (λ (n : ℕ). flaw_at (n + 1) fact (reverse facts)) known.0 ∙ sym (verdict-more facts fact
          ∙ (ap (λ (v : model.Verdict). or_else v (flaw_at (length facts + 1) fact (reverse facts))) (sym h.verdict)
          ∙ one_more_safe old.verdict (flaw_at (length facts + 1) fact (reverse facts)) safe)));
      known = λ e. (
        counted facts fact old.count new.count known.0 adds.1,
        subst (λ (past : List Fact). Knows new.known past) (sym (last_first facts fact)) (judges.known e),
      );
    })
    (λ flawed same. rw same (record {
      verdict = sym (verdict-more facts fact
          ∙ (ap (λ (v : model.Verdict). or_else v (flaw_at (length facts + 1) fact (reverse facts))) (sym h.verdict)
          ∙ one_more_flawed old.verdict (flaw_at (length facts + 1) fact (reverse facts)) flawed));
      known = λ e. let f : false ≡ true = sym flawed ∙ e in let c : ⊥ = cc in absurd c;
    }))
