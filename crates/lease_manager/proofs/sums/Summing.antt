-- How lease records and file summaries follow the list of opens: with one open more or less, and with another lease.
use Rattle.lease_laws.proofs.Words.{◌&&◌, ◌+◌, ◌<◌, ◌==◌, ◌^◌, ◌||◌, ◌∙◌, ◌∷◌, ◌≡◌, Bool, Decides-eqb, Key, Lease, List}
use Rattle.lease_laws.proofs.Words.{None, Open, Option, Some, Updates, ℕ, [], allowed_by, ap, arith, beq, false, get, has_key}
use Rattle.lease_laws.proofs.Words.{if◌then◌else◌, is_some, key_eq, length, list_any, nat_tests, not, refl, subst}
use Rattle.lease_laws.proofs.Words.{sym, true, true≢false, uses_of}
use Rattle.lease_manager.specs.declared.values.number.FileNo.{FileNo}
use Rattle.std.proofs.Common.{nat_eq}
use Rattle.std.specs.BTreeMap.{BTreeMap}
use Rattle.lease_laws.proofs.server.Keys.{key_eq-same}
use Rattle.lease_laws.proofs.server.Lists.{either}
use Rattle.lease_manager.specs.Hindering.{breaks_handle, is_harmless, marks_of}
use Rattle.lease_manager.specs.Looks.{is_elsewhere}
use Rattle.lease_manager.specs.Summaries.{IsOneMore, file_order, is_on, has_key_on, is_keyless_on, SumsUp, IsSummary, SummaryFits}
use Rattle.lease_manager.specs.Summaries.{Gains, Loses, IsMarked, AreAfter, AreLeft, IsPut}
use Rattle.lease_manager.specs.Tallies.{count, tally_of, raised, lowered, tally_raised, tally_lowered}
use Rattle.lease_manager.specs.declared.tables.file_summary.FileSummary.{FileSummary}
use Rattle.lease_manager.specs.declared.tables.lease_marks.LeaseMarks.{LeaseMarks}
use Rattle.lease_manager.specs.declared.tables.tally.Tally.{Tally}
use Rattle.lease_manager.proofs.sums.Tallies.{count_more, any_more, count_less, any_counted, none_both}

-- ---- one open more

pub counts : (test : Open → Bool) (one : Open) (less more : List Open) → IsOneMore one less more
    → count test more ≡ count test less + (if test one then 1 else 0)
counts test one less more m = rw (m.is_less, m.is_more) (count_more test m.before m.behind one)

pub anys : (test : Open → Bool) (one : Open) (less more : List Open) → IsOneMore one less more
    → list_any test more ≡ (test one || list_any test less)
anys test one less more m = rw (m.is_less, m.is_more) (any_more test m.before m.behind one)

raise_count : (test : Open → Bool) (one : Open) (less more : List Open) (b : Bool) → IsOneMore one less more
    → length more < 2 ^ 64 → test one ≡ b → raised b (count test less) ≡ count test more
raise_count test one less more true m short is =
    let e = counts test one less more m in
    let many = count_less test more in
    grind (arith, nat_tests, e, many, is, short)
raise_count test one less more false m short is =
    let e = counts test one less more m in
    grind (arith, e, is)

lower_count : (test : Open → Bool) (one : Open) (less more : List Open) (b : Bool) → IsOneMore one less more
    → test one ≡ b → lowered b (count test more) ≡ count test less
lower_count test one less more true m is = let e = counts test one less more m in grind (arith, e, is)
lower_count test one less more false m is = let e = counts test one less more m in grind (arith, e, is)

both : (a b : Bool) → a ≡ true → (a && b) ≡ b
both a b e = rw e refl

pub tally_same : (a b c d e v w x y z : ℕ) → a ≡ v → b ≡ w → c ≡ x → d ≡ y → e ≡ z
    → let one : Tally = record { opens = a; reads = b; writes = c; refuses_reads = d; refuses_writes = e } in
    one ≡ record { opens = v; reads = w; writes = x; refuses_reads = y; refuses_writes = z }
tally_same a b c d e v w x y z f g h i j = rw (f, g, h, i, j) refl

pub raise_tally : (test : Open → Bool) (one : Open) (less more : List Open) → IsOneMore one less more
    → length more < 2 ^ 64 → test one ≡ true → tally_raised one (tally_of test less) ≡ tally_of test more
raise_tally test one less more m short is = tally_same _ _ _ _ _ _ _ _ _ _ (raise_count test one less more true m short is)
    (raise_count _ one less more _ m short (both (test one) (uses_of one.access).read is))
    (raise_count _ one less more _ m short (both (test one) (uses_of one.access).write is))
    (raise_count _ one less more _ m short (both (test one) (not (allowed_by one.share).read) is))
    (raise_count _ one less more _ m short (both (test one) (not (allowed_by one.share).write) is))

pub lower_tally : (test : Open → Bool) (one : Open) (less more : List Open) → IsOneMore one less more
    → test one ≡ true → tally_lowered one (tally_of test more) ≡ tally_of test less
lower_tally test one less more m is = tally_same _ _ _ _ _ _ _ _ _ _ (lower_count test one less more true m is)
    (lower_count _ one less more _ m (both (test one) (uses_of one.access).read is))
    (lower_count _ one less more _ m (both (test one) (uses_of one.access).write is))
    (lower_count _ one less more _ m (both (test one) (not (allowed_by one.share).read) is))
    (lower_count _ one less more _ m (both (test one) (not (allowed_by one.share).write) is))

same_count : (test other : Open → Bool) (one : Open) (less more : List Open) → IsOneMore one less more
    → test one ≡ false → count (λ x. test x && other x) less ≡ count (λ x. test x && other x) more
same_count test other one less more m is =
    let e = counts (λ x. test x && other x) one less more m in grind (arith, e, is)

plain_count : (test : Open → Bool) (one : Open) (less more : List Open) → IsOneMore one less more
    → test one ≡ false → count test less ≡ count test more
plain_count test one less more m is = let e = counts test one less more m in grind (arith, e, is)

pub keep_tally : (test : Open → Bool) (one : Open) (less more : List Open) → IsOneMore one less more
    → test one ≡ false → tally_of test less ≡ tally_of test more
keep_tally test one less more m is = tally_same _ _ _ _ _ _ _ _ _ _ (plain_count test one less more m is)
    (same_count test (λ x. (uses_of x.access).read) one less more m is)
    (same_count test (λ x. (uses_of x.access).write) one less more m is)
    (same_count test (λ x. not (allowed_by x.share).read) one less more m is)
    (same_count test (λ x. not (allowed_by x.share).write) one less more m is)

-- ---- file summaries

pub on_itself : (n : ℕ) → (n == n) ≡ true
on_itself n = (Decides-eqb n n).1 refl

-- the marks of leases
abbrev holds_write : Lease → Bool
holds_write lease = lease.state.write

abbrev holds_handle : Lease → Bool
holds_handle lease = lease.state.handle

mark_writes : (lease : Lease) (marks : LeaseMarks) → marks_of lease ≡ marks → holds_write lease ≡ marks.writes
mark_writes lease marks is = ap (λ (m : LeaseMarks). m.writes) is

mark_handles : (lease : Lease) (marks : LeaseMarks) → marks_of lease ≡ marks → holds_handle lease ≡ marks.handles
mark_handles lease marks is = ap (λ (m : LeaseMarks). m.handles) is

mark_breaks : (lease : Lease) (marks : LeaseMarks) → marks_of lease ≡ marks → breaks_handle lease ≡ marks.breaks
mark_breaks lease marks is = ap (λ (m : LeaseMarks). m.breaks) is

mark_harmless : (lease : Lease) (marks : LeaseMarks) → marks_of lease ≡ marks → is_harmless lease ≡ marks.harmless
mark_harmless lease marks is = ap (λ (m : LeaseMarks). m.harmless) is

pub gains_sums_up : (one : Open) (marks : LeaseMarks) (old new : FileSummary) (less more : List Open) (leases later : Key → Lease)
    → IsOneMore one less more → length more < 2 ^ 64 → AreAfter one marks less leases later
    → SumsUp one.file less leases old → Gains one marks old new → SumsUp one.file more later new
gains_sums_up one marks old new less more leases later m short after s g = record {
  tally = g.tally ∙ (ap (tally_raised one) s.tally ∙ raise_tally (is_on one.file) one less more m short (on_itself one.file));
  keys = λ key.
      let now = g.keys key in
      let was = s.keys key in
      let e = anys (has_key_on one.file key) one less more m in
      let here = on_itself one.file in
      grind (arith, now, was, e, here);
  keyless = g.keyless ∙ (ap (raised (not (is_some one.lease_key))) s.keyless
      ∙ raise_count (is_keyless_on one.file) one less more (not (is_some one.lease_key)) m short
      (both (one.file == one.file) (not (is_some one.lease_key)) (on_itself one.file)));
  writers = λ key.
      let now = g.writers key in
      let was = s.writers key in
      let e = anys (has_key_on one.file key) one less more m in
      let here = on_itself one.file in
      gained holds_write (has_key key one) (list_any (has_key_on one.file key) less)
      (list_any (has_key_on one.file key) more) marks.writes (leases key) (later key) _ _ now was (rw here at e)
      (after.same key) (λ has. mark_writes (later key) marks (after.own key has));
  handlers = λ key.
      let now = g.handlers key in
      let was = s.handlers key in
      let e = anys (has_key_on one.file key) one less more m in
      let here = on_itself one.file in
      gained holds_handle (has_key key one) (list_any (has_key_on one.file key) less)
      (list_any (has_key_on one.file key) more) marks.handles (leases key) (later key) _ _ now was (rw here at e)
      (after.same key) (λ has. mark_handles (later key) marks (after.own key has));
  breaking = λ key.
      let now = g.breaking key in
      let was = s.breaking key in
      let e = anys (has_key_on one.file key) one less more m in
      let here = on_itself one.file in
      gained breaks_handle (has_key key one) (list_any (has_key_on one.file key) less)
      (list_any (has_key_on one.file key) more) marks.breaks (leases key) (later key) _ _ now was (rw here at e)
      (after.same key) (λ has. mark_breaks (later key) marks (after.own key has));
  harmless = λ key.
      let now = g.harmless key in
      let was = s.harmless key in
      let e = anys (has_key_on one.file key) one less more m in
      let here = on_itself one.file in
      gained is_harmless (has_key key one) (list_any (has_key_on one.file key) less)
      (list_any (has_key_on one.file key) more) marks.harmless (leases key) (later key) _ _ now was (rw here at e)
      (after.same key) (λ has. mark_harmless (later key) marks (after.own key has));
}
  where
    gained : (mark : Lease → Bool) (has any_less any_more marked : Bool) (old new : Lease) (was now : Bool)
        → now ≡ (if has then marked else was) → was ≡ (any_less && mark old)
        → any_more ≡ (has || any_less) → (has ≡ false → new ≡ old) → (has ≡ true → mark new ≡ marked)
        → now ≡ (any_more && mark new)
    gained mark has any_less any_more marked old new was now a b c d e = grind arith

-- on another file
elsewhere_none : (key : Key) (file at : ℕ) (opens : List Open) → (at == file) ≡ false
    → list_any (is_elsewhere key at) opens ≡ false → list_any (has_key_on file key) opens ≡ false
elsewhere_none key file at [] apart none = refl
elsewhere_none key file at (one ∷ opens) apart none = let later = elsewhere_none key file at opens apart in grind arith

pub sums_up_apart : (one : Open) (marks : LeaseMarks) (file : ℕ) (summary : FileSummary) (less more : List Open)
    (leases later : Key → Lease) → IsOneMore one less more → is_on file one ≡ false → AreAfter one marks less leases later
    → SumsUp file less leases summary → SumsUp file more later summary
sums_up_apart one marks file summary less more leases later m apart after s = record {
  tally = s.tally ∙ keep_tally (is_on file) one less more m apart;
  keys = λ key.
      let was = s.keys key in
      let e = anys (has_key_on file key) one less more m in
      grind (arith, was, e, apart);
  keyless = s.keyless ∙ same_count (is_on file) (λ x. not (is_some x.lease_key)) one less more m apart;
  writers = λ key.
      let was = s.writers key in
      let e = anys (has_key_on file key) one less more m in
      let none = elsewhere_none key file one.file less apart in
      stays holds_write (has_key key one) (list_any (has_key_on file key) less) (list_any (has_key_on file key) more)
      (leases key) (later key) _ was (rw apart at e) (after.same key) (λ has. none (after.home key has));
  handlers = λ key.
      let was = s.handlers key in
      let e = anys (has_key_on file key) one less more m in
      let none = elsewhere_none key file one.file less apart in
      stays holds_handle (has_key key one) (list_any (has_key_on file key) less) (list_any (has_key_on file key) more)
      (leases key) (later key) _ was (rw apart at e) (after.same key) (λ has. none (after.home key has));
  breaking = λ key.
      let was = s.breaking key in
      let e = anys (has_key_on file key) one less more m in
      let none = elsewhere_none key file one.file less apart in
      stays breaks_handle (has_key key one) (list_any (has_key_on file key) less) (list_any (has_key_on file key) more)
      (leases key) (later key) _ was (rw apart at e) (after.same key) (λ has. none (after.home key has));
  harmless = λ key.
      let was = s.harmless key in
      let e = anys (has_key_on file key) one less more m in
      let none = elsewhere_none key file one.file less apart in
      stays is_harmless (has_key key one) (list_any (has_key_on file key) less) (list_any (has_key_on file key) more)
      (leases key) (later key) _ was (rw apart at e) (after.same key) (λ has. none (after.home key has));
}
  where
    stays : (mark : Lease → Bool) (has any_less any_more : Bool) (old new : Lease) (was : Bool) → was ≡ (any_less && mark old)
        → any_more ≡ any_less → (has ≡ false → new ≡ old) → (has ≡ true → any_less ≡ false) → was ≡ (any_more && mark new)
    stays mark has any_less any_more old new was a b c d = grind arith

has_on : (key : Key) (file : ℕ) (opens : List Open) → list_any (has_key_on file key) opens ≡ true
    → list_any (has_key key) opens ≡ true
has_on key file [] some = some
has_on key file (one ∷ opens) some = let e = has_on key file opens in grind (arith, e, some)

pub loses_sums_up : (one : Open) (last : Bool) (old new : FileSummary) (less more : List Open) (leases later : Key → Lease)
    → IsOneMore one less more → AreLeft less leases later
    → ((key : Key) → has_key key one ≡ true → last ≡ not (list_any (has_key_on one.file key) less))
    → SumsUp one.file more leases old → Loses one last old new → SumsUp one.file less later new
loses_sums_up one last old new less more leases later m left is_last s l = record {
  tally = l.tally ∙ (ap (tally_lowered one) s.tally ∙ lower_tally (is_on one.file) one less more m (on_itself one.file));
  keys = λ key.
      let now = l.keys key in
      let was = s.keys key in
      let e = anys (has_key_on one.file key) one less more m in
      let here = on_itself one.file in
      lost_key (has_key key one) (list_any (has_key_on one.file key) less) (list_any (has_key_on one.file key) more)
      last _ _ now was (rw here at e) (is_last key);
  keyless = l.keyless ∙ (ap (lowered (not (is_some one.lease_key))) s.keyless
      ∙ lower_count (is_keyless_on one.file) one less more (not (is_some one.lease_key)) m
      (both (one.file == one.file) (not (is_some one.lease_key)) (on_itself one.file)));
  writers = λ key.
      let now = l.writers key in
      let was = s.writers key in
      let e = anys (has_key_on one.file key) one less more m in
      let here = on_itself one.file in
      lost_mark holds_write (has_key key one) (list_any (has_key_on one.file key) less)
      (list_any (has_key_on one.file key) more) last (leases key) (later key) _ _ now was (rw here at e) (is_last key)
      (λ some. left key (has_on key one.file less some));
  handlers = λ key.
      let now = l.handlers key in
      let was = s.handlers key in
      let e = anys (has_key_on one.file key) one less more m in
      let here = on_itself one.file in
      lost_mark holds_handle (has_key key one) (list_any (has_key_on one.file key) less)
      (list_any (has_key_on one.file key) more) last (leases key) (later key) _ _ now was (rw here at e) (is_last key)
      (λ some. left key (has_on key one.file less some));
  breaking = λ key.
      let now = l.breaking key in
      let was = s.breaking key in
      let e = anys (has_key_on one.file key) one less more m in
      let here = on_itself one.file in
      lost_mark breaks_handle (has_key key one) (list_any (has_key_on one.file key) less)
      (list_any (has_key_on one.file key) more) last (leases key) (later key) _ _ now was (rw here at e) (is_last key)
      (λ some. left key (has_on key one.file less some));
  harmless = λ key.
      let now = l.harmless key in
      let was = s.harmless key in
      let e = anys (has_key_on one.file key) one less more m in
      let here = on_itself one.file in
      lost_mark is_harmless (has_key key one) (list_any (has_key_on one.file key) less)
      (list_any (has_key_on one.file key) more) last (leases key) (later key) _ _ now was (rw here at e) (is_last key)
      (λ some. left key (has_on key one.file less some));
}
  where
    lost_key : (has any_less any_more last : Bool) (was now : Bool) → now ≡ (was && not (has && last)) → was ≡ any_more
        → any_more ≡ (has || any_less) → (has ≡ true → last ≡ not any_less) → now ≡ any_less
    lost_key has any_less any_more last was now a b c d = grind arith

    lost_mark : (mark : Lease → Bool) (has any_less any_more last : Bool) (old new : Lease) (was now : Bool)
        → now ≡ (was && not (has && last)) → was ≡ (any_more && mark old)
        → any_more ≡ (has || any_less) → (has ≡ true → last ≡ not any_less) → (any_less ≡ true → new ≡ old)
        → now ≡ (any_less && mark new)
    lost_mark mark has any_less any_more last old new was now a b c d e = grind arith

pub sums_up_away : (one : Open) (file : ℕ) (summary : FileSummary) (less more : List Open) (leases later : Key → Lease)
    → IsOneMore one less more → is_on file one ≡ false → AreLeft less leases later
    → SumsUp file more leases summary → SumsUp file less later summary
sums_up_away one file summary less more leases later m apart left s = record {
  tally = s.tally ∙ sym (keep_tally (is_on file) one less more m apart);
  keys = λ key.
      let was = s.keys key in
      let e = anys (has_key_on file key) one less more m in
      grind (arith, was, e, apart);
  keyless = s.keyless ∙ sym (same_count (is_on file) (λ x. not (is_some x.lease_key)) one less more m apart);
  writers = λ key.
      let was = s.writers key in
      let e = anys (has_key_on file key) one less more m in
      stays holds_write (list_any (has_key_on file key) less) (list_any (has_key_on file key) more)
      (leases key) (later key) _ was (rw apart at e) (λ some. left key (has_on key file less some));
  handlers = λ key.
      let was = s.handlers key in
      let e = anys (has_key_on file key) one less more m in
      stays holds_handle (list_any (has_key_on file key) less) (list_any (has_key_on file key) more)
      (leases key) (later key) _ was (rw apart at e) (λ some. left key (has_on key file less some));
  breaking = λ key.
      let was = s.breaking key in
      let e = anys (has_key_on file key) one less more m in
      stays breaks_handle (list_any (has_key_on file key) less) (list_any (has_key_on file key) more)
      (leases key) (later key) _ was (rw apart at e) (λ some. left key (has_on key file less some));
  harmless = λ key.
      let was = s.harmless key in
      let e = anys (has_key_on file key) one less more m in
      stays is_harmless (list_any (has_key_on file key) less) (list_any (has_key_on file key) more)
      (leases key) (later key) _ was (rw apart at e) (λ some. left key (has_on key file less some));
}
  where
    stays : (mark : Lease → Bool) (any_less any_more : Bool) (old new : Lease) (was : Bool)
        → was ≡ (any_more && mark old) → any_more ≡ any_less → (any_less ≡ true → new ≡ old) → was ≡ (any_less && mark new)
    stays mark any_less any_more old new was a c d = grind arith

-- ---- another lease of a key

pub marked_sums_up : (file : ℕ) (key : Key) (marks : LeaseMarks) (old new : FileSummary) (opens : List Open)
    (leases later : Key → Lease) → IsPut key marks leases later
    → ((other : Key) → key_eq other key ≡ true → list_any (has_key_on file other) opens ≡ true)
    → SumsUp file opens leases old → IsMarked key marks old new → SumsUp file opens later new
marked_sums_up file key marks old new opens leases later put there s w = grind arith

-- ---- the map of summaries

used_more : (test : Open → Bool) (one : Open) (less more : List Open) → IsOneMore one less more → test one ≡ true
    → list_any test more ≡ true
used_more test one less more m is = let e = anys test one less more m in grind (arith, e, is)

used_same : (test : Open → Bool) (one : Open) (less more : List Open) (b : Bool) → IsOneMore one less more
    → test one ≡ false → list_any test less ≡ b → list_any test more ≡ b
used_same test one less more b m is was = let e = anys test one less more m in grind (arith, e, is, was)

used_back : (test : Open → Bool) (one : Open) (less more : List Open) (b : Bool) → IsOneMore one less more
    → test one ≡ false → list_any test more ≡ b → list_any test less ≡ b
used_back test one less more b m is was = let e = anys test one less more m in grind (arith, e, is, was)

fits_apart : (one : Open) (marks : LeaseMarks) (file : ℕ) (known : Option FileSummary) (less more : List Open)
    (leases later : Key → Lease) → IsOneMore one less more → is_on file one ≡ false → AreAfter one marks less leases later
    → SummaryFits file less leases known → SummaryFits file more later known
fits_apart one marks file None less more leases later m apart after fits = used_same (is_on file) one less more false m apart fits
fits_apart one marks file (Some summary) less more leases later m apart after fits = record {
  is_used = used_same (is_on file) one less more true m apart fits.is_used;
  sums_up = sums_up_apart one marks file summary less more leases later m apart after fits.sums_up;
}

fits_away : (one : Open) (file : ℕ) (known : Option FileSummary) (less more : List Open) (leases later : Key → Lease)
    → IsOneMore one less more → is_on file one ≡ false → AreLeft less leases later
    → SummaryFits file more leases known → SummaryFits file less later known
fits_away one file None less more leases later m apart left fits = used_back (is_on file) one less more false m apart fits
fits_away one file (Some summary) less more leases later m apart left fits = record {
  is_used = used_back (is_on file) one less more true m apart fits.is_used;
  sums_up = sums_up_away one file summary less more leases later m apart left fits.sums_up;
}

-- the summaries before and after a change on one file
pub record IsChangedAt (here : ℕ) (before after : FileNo → Option FileSummary) (known : Option FileSummary) : Type 0 where
  pub there : after (record { 0 = here }) ≡ known
  pub apart : (file : FileNo) → (file.0 == here) ≡ false → after file ≡ before file

at_file : (P : FileNo → Type 0) (here : ℕ) → P (record { 0 = here })
    → ((file : FileNo) → (file.0 == here) ≡ false → P file) → (file : FileNo) → P file
at_file P here there apart file = grind arith

flip : (a b : ℕ) (x : Bool) → (a == b) ≡ x → (b == a) ≡ x
flip a b x e = grind (arith, nat_tests, e)

pub summaries_gain : (one : Open) (marks : LeaseMarks) (before after : FileNo → Option FileSummary) (old new : FileSummary)
    (less more : List Open) (leases later : Key → Lease)
    → IsOneMore one less more → length more < 2 ^ 64 → AreAfter one marks less leases later
    → SumsUp one.file less leases old → Gains one marks old new → IsChangedAt one.file before after (Some new)
    → ((file : FileNo) → SummaryFits file.0 less leases (before file))
    → (file : FileNo) → SummaryFits file.0 more later (after file)
summaries_gain one marks before after old new less more leases later m short are s g changed fits =
    at_file (λ file. SummaryFits file.0 more later (after file)) one.file
    (subst (SummaryFits one.file more later) (sym changed.there) (record {
      is_used = used_more (is_on one.file) one less more m (on_itself one.file);
      sums_up = gains_sums_up one marks old new less more leases later m short are s g;
    }))
    (λ file apart. subst (SummaryFits file.0 more later) (sym (changed.apart file apart))
    (fits_apart one marks file.0 (before file) less more leases later m (flip file.0 one.file false apart) are (fits file)))

-- what fits where there is a summary sums up
pub known_sums_up : (file : ℕ) (opens : List Open) (leases : Key → Lease) (known : Option FileSummary) (summary : FileSummary)
    → known ≡ Some summary → SummaryFits file opens leases known → IsSummary file opens leases summary
known_sums_up file opens leases known summary is fits = subst (SummaryFits file opens leases) is fits

pub none_is_open : (file : ℕ) (opens : List Open) (leases : Key → Lease) (known : Option FileSummary)
    → known ≡ None → SummaryFits file opens leases known → list_any (is_on file) opens ≡ false
none_is_open file opens leases known is fits = subst (SummaryFits file opens leases) is fits

-- what a change of the map at one file is
pub changed_at : (before after : BTreeMap FileNo FileSummary) (here : ℕ) (known : Option FileSummary)
    → Updates file_order before after (record { 0 = here }) known
    → IsChangedAt here (get file_order before) (get file_order after) known
changed_at before after here known updates = grind arith

still_used : (file : ℕ) (opens : List Open) (leases : Key → Lease) (summary : FileSummary)
    → SumsUp file opens leases summary → nat_eq summary.tally.opens 0 ≡ false → list_any (is_on file) opens ≡ true
still_used file opens leases summary s some =
    let e = any_counted (is_on file) opens in
    let c = ap (λ (t : Tally). t.opens) s.tally in
    grind (arith, nat_tests, e, c, some)

now_unused : (file : ℕ) (opens : List Open) (leases : Key → Lease) (summary : FileSummary)
    → SumsUp file opens leases summary → nat_eq summary.tally.opens 0 ≡ true → list_any (is_on file) opens ≡ false
now_unused file opens leases summary s none =
    let e = any_counted (is_on file) opens in
    let c = ap (λ (t : Tally). t.opens) s.tally in
    grind (arith, nat_tests, e, c, none)

pub summaries_lose : (one : Open) (last : Bool) (before after : FileNo → Option FileSummary) (old new : FileSummary)
    (less more : List Open) (leases later : Key → Lease) → IsOneMore one less more → AreLeft less leases later
    → ((key : Key) → has_key key one ≡ true → last ≡ not (list_any (has_key_on one.file key) less))
    → before (record { 0 = one.file }) ≡ Some old → Loses one last old new
    → IsChangedAt one.file before after (Some new) → nat_eq new.tally.opens 0 ≡ false
    → ((file : FileNo) → SummaryFits file.0 more leases (before file))
    → (file : FileNo) → SummaryFits file.0 less later (after file)
summaries_lose one last before after old new less more leases later m left is_last was l changed some fits =
    let s = loses_sums_up one last old new less more leases later m left is_last
    (known_sums_up one.file more leases _ old was (fits (record { 0 = one.file }))).sums_up l in
    at_file (λ file. SummaryFits file.0 less later (after file)) one.file
    (subst (SummaryFits one.file less later) (sym changed.there)
    (record { is_used = still_used one.file less later new s some; sums_up = s }))
    (λ file apart. subst (SummaryFits file.0 less later) (sym (changed.apart file apart))
    (fits_away one file.0 (before file) less more leases later m (flip file.0 one.file false apart) left (fits file)))

pub summaries_end : (one : Open) (last : Bool) (before after : FileNo → Option FileSummary) (old new : FileSummary)
    (less more : List Open) (leases later : Key → Lease) → IsOneMore one less more → AreLeft less leases later
    → ((key : Key) → has_key key one ≡ true → last ≡ not (list_any (has_key_on one.file key) less))
    → before (record { 0 = one.file }) ≡ Some old → Loses one last old new
    → IsChangedAt one.file before after None → nat_eq new.tally.opens 0 ≡ true
    → ((file : FileNo) → SummaryFits file.0 more leases (before file))
    → (file : FileNo) → SummaryFits file.0 less later (after file)
summaries_end one last before after old new less more leases later m left is_last was l changed none fits =
    let s = loses_sums_up one last old new less more leases later m left is_last
    (known_sums_up one.file more leases _ old was (fits (record { 0 = one.file }))).sums_up l in
    at_file (λ file. SummaryFits file.0 less later (after file)) one.file
    (subst (SummaryFits one.file less later) (sym changed.there) (now_unused one.file less later new s none))
    (λ file apart. subst (SummaryFits file.0 less later) (sym (changed.apart file apart))
    (fits_away one file.0 (before file) less more leases later m (flip file.0 one.file false apart) left (fits file)))

pub never_closed : (one : Open) (less more : List Open) (leases : Key → Lease) (known : Option FileSummary)
    → IsOneMore one less more → known ≡ None → SummaryFits one.file more leases known → ⊥
never_closed one less more leases known m none fits =
    let unused = none_is_open one.file more leases known none fits in
    let e = used_more (is_on one.file) one less more m (on_itself one.file) in
    true≢false (sym e ∙ unused)

pub changed_at_twice : (here : ℕ) (before during after : FileNo → Option FileSummary) (known other : Option FileSummary)
    → IsChangedAt here before during known → IsChangedAt here during after other → IsChangedAt here before after other
changed_at_twice here before during after known other first second = grind arith

pub summaries_put : (file : ℕ) (key : Key) (marks : LeaseMarks) (before after : FileNo → Option FileSummary)
    (old new : FileSummary) (opens : List Open) (leases later : Key → Lease) → IsPut key marks leases later
    → list_any (has_key_on file key) opens ≡ true → list_any (is_elsewhere key file) opens ≡ false
    → before (record { 0 = file }) ≡ Some old → IsMarked key marks old new → IsChangedAt file before after (Some new)
    → ((at : FileNo) → SummaryFits at.0 opens leases (before at)) → (at : FileNo) → SummaryFits at.0 opens later (after at)
summaries_put file key marks before after old new opens leases later put there home was w changed fits =
    let s = known_sums_up file opens leases _ old was (fits (record { 0 = file })) in
    at_file (λ at. SummaryFits at.0 opens later (after at)) file
    (subst (SummaryFits file opens later) (sym changed.there) (record {
      is_used = s.is_used;
      sums_up = marked_sums_up file key marks old new opens leases later put
          (λ other e. rw (key_eq-same other key e) there) s.sums_up w;
    }))
    (λ at apart. subst (SummaryFits at.0 opens later) (sym (changed.apart at apart))
    (fits_put at.0 (before at) (λ other e. rw (key_eq-same other key e)
    (elsewhere_none key at.0 file opens (flip at.0 file false apart) home)) (fits at)))
  where
    fits_put : (at : ℕ) (known : Option FileSummary)
        → ((other : Key) → key_eq other key ≡ true → list_any (has_key_on at other) opens ≡ false)
        → SummaryFits at opens leases known → SummaryFits at opens later known
    fits_put at known none f = grind arith

pub never_on : (file : ℕ) (key : Key) (opens : List Open) (leases : Key → Lease) (known : Option FileSummary)
    → list_any (has_key_on file key) opens ≡ true → known ≡ None → SummaryFits file opens leases known → ⊥
never_on file key opens leases known there none fits =
    true≢false (sym there ∙ none_both (is_on file) (has_key key) opens (none_is_open file opens leases known none fits))

-- ---- a lease of which nothing else is marked

fits_alike : (file : ℕ) (opens : List Open) (leases later : Key → Lease) (known : Option FileSummary)
    → ((key : Key) → marks_of (later key) ≡ marks_of (leases key))
    → SummaryFits file opens leases known → SummaryFits file opens later known
fits_alike file opens leases later known same fits = grind arith

pub summaries_alike : (key : Key) (lease : Lease) (opens : List Open) (leases later : Key → Lease)
    (known : FileNo → Option FileSummary) → ((other : Key) → later other ≡ (if key_eq other key then lease else leases other))
    → marks_of lease ≡ marks_of (leases key) → ((file : FileNo) → SummaryFits file.0 opens leases (known file))
    → (file : FileNo) → SummaryFits file.0 opens later (known file)
summaries_alike key lease opens leases later known now same fits = λ file. fits_alike file.0 opens leases later (known file)
    (λ other. either (key_eq other key)
    (λ e. ap marks_of (now other ∙ rw e refl) ∙ (same ∙ ap (λ k. marks_of (leases k)) (sym (key_eq-same other key e))))
    (λ e. ap marks_of (now other ∙ rw e refl))) (fits file)

pub marks_same : (a b : LeaseMarks)
    → not (beq a.writes b.writes && (beq a.handles b.handles && (beq a.breaks b.breaks && beq a.harmless b.harmless))) ≡ false
    → a ≡ b
marks_same a b e = grind arith
