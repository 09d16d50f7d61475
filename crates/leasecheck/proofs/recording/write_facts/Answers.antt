use Rattle.lease_laws.proofs.Words.{◌++◌, ◌+◌, ◌<◌, ◌∙◌, ◌≡◌, ◌≤◌, List, ℕ, ap, append_assoc, drop, get_or, length}
use Rattle.lease_laws.proofs.Words.{subst, sym}
use Rattle.std.specs.String.{string_bytes}
use Rattle.lease_facts.specs.declared.fact.Fact.{Fact}
use Rattle.leasecheck.specs.Idle.{idle_line, lines_of_fact, record_told}
use Rattle.leasecheck.specs.Recording.{HasGathered, facts_told}
use Rattle.leasecheck.proofs.Recorded.{gathered_more, unmade, unwritten}
use Rattle.leasecheck.proofs.Told.{told_more, told_whole}
use Rattle.leasecheck.proofs.recording.write_facts.Goals as goal

pub loop-count-preserved : goal.loop-count-preserved
loop-count-preserved g c =
    let told = c.loop-count.invariant.0 in
    let say = idle_line c.args.recorded.now.lines.items in
    let facts = c.args.recorded.now.facts.items in
    let n = c.loop-count.count in
    let fact = c.fact-item.result in
    let left = c.loop-count.messages.now in
    let idle = c.loop-count.idle.now in
    let first = g.O.Write.contents c.args.out.now in
    let lines : List ℕ = lines_of_fact say n fact left idle in
    let more : HasGathered first (g.O.Write.contents c.loop-count.out) c.push.new.self (told ++ lines) =
    gathered_more first (g.O.Write.contents c.loop-count.out) c.loop-count.gathered c.push.new.self told lines
    c.loop-count.invariant.1 (subst (λ (ls : List ℕ). string_bytes c.push.new.self.text
    ≡ string_bytes c.loop-count.gathered.text ++ lines_of_fact (idle_line ls) n fact left idle) c.as_slice-lines.ensures.value
    c.in-Ok.ensures.lines) in
    let inside : n < length facts = subst (λ (fs : List Fact). n < length fs) c.as_slice-fact-items.ensures.value
    c.loop-count-test.true in
    let this : fact ≡ get_or facts n fact =
    subst (λ (fs : List Fact). fact ≡ get_or fs n fact) c.as_slice-fact-items.ensures.value c.fact-item.is in (
      told ++ lines,
      c.in_default.ensures.written first (told ++ lines) more,
      told_more say told (facts_told c.args.recorded.now) facts n fact left c.in-Ok.behind.now idle c.in-Ok.later.now inside this
          c.in-Ok.ensures.behind.0 c.in-Ok.ensures.behind.1 c.loop-count.invariant.2,
    )

pub returns-in-Err : goal.returns-in-Err
returns-in-Err g c = λ rest.
    let told = c.loop-count.invariant.0 in
    let facts = c.args.recorded.now.facts.items in
    let left : List ℕ = record_told (idle_line c.args.recorded.now.lines.items) c.loop-count.count (drop c.loop-count.count facts)
    c.loop-count.messages.now c.loop-count.idle.now in
    unmade (g.O.Write.contents c.args.out.now) (g.O.Write.contents c.loop-count.out) c.loop-count.gathered told (left ++ rest)
    (facts_told c.args.recorded.now ++ rest) c.in-Err.failure c.loop-count.invariant.1 c.in-Err.ensures.failed
    (sym (append_assoc told left rest) ∙ ap (λ (t : List ℕ). t ++ rest) c.loop-count.invariant.2)

pub returns-in-Err-write_block : goal.returns-in-Err-write_block
returns-in-Err-write_block g c = λ rest.
    let told = c.loop-count.invariant.0 in
    let say = idle_line c.args.recorded.now.lines.items in
    let facts = c.args.recorded.now.facts.items in
    let n = c.loop-count.count in
    let fact = c.fact-item.result in
    let left = c.loop-count.messages.now in
    let idle = c.loop-count.idle.now in
    let first = g.O.Write.contents c.args.out.now in
    let lines : List ℕ = lines_of_fact say n fact left idle in
    let more : HasGathered first (g.O.Write.contents c.loop-count.out) c.push.new.self (told ++ lines) =
    gathered_more first (g.O.Write.contents c.loop-count.out) c.loop-count.gathered c.push.new.self told lines
    c.loop-count.invariant.1 (subst (λ (ls : List ℕ). string_bytes c.push.new.self.text
    ≡ string_bytes c.loop-count.gathered.text ++ lines_of_fact (idle_line ls) n fact left idle) c.as_slice-lines.ensures.value
    c.in-Ok.ensures.lines) in
    let inside : n < length facts = subst (λ (fs : List Fact). n < length fs) c.as_slice-fact-items.ensures.value
    c.loop-count-test.true in
    let this : fact ≡ get_or facts n fact =
    subst (λ (fs : List Fact). fact ≡ get_or fs n fact) c.as_slice-fact-items.ensures.value c.fact-item.is in
    let behind : List ℕ = record_told say (n + 1) (drop (n + 1) facts) c.in-Ok.behind.now c.in-Ok.later.now in
    let whole : (told ++ lines) ++ behind ≡ facts_told c.args.recorded.now =
    told_more say told (facts_told c.args.recorded.now) facts n fact left c.in-Ok.behind.now idle c.in-Ok.later.now inside this
    c.in-Ok.ensures.behind.0 c.in-Ok.ensures.behind.1 c.loop-count.invariant.2 in
    unwritten first (g.O.Write.contents c.loop-count.out) (g.O.Write.contents c.write_block.new.out) c.push.new.self
    (told ++ lines) (behind ++ rest) (facts_told c.args.recorded.now ++ rest) c.in-Err-write_block.failure more
    c.in-Err-write_block.ensures.failed.0 c.in-Err-write_block.ensures.failed.1
    (sym (append_assoc (told ++ lines) behind rest) ∙ ap (λ (t : List ℕ). t ++ rest) whole)

pub returns : goal.returns
returns g c =
    let so_far = c.loop-count.invariant in
    let facts = c.args.recorded.now.facts.items in
    let past : length facts ≤ c.loop-count.count =
    subst (λ (fs : List Fact). length fs ≤ c.loop-count.count) c.as_slice-fact-items.ensures.value c.loop-count-test.false in (
      so_far.0,
      so_far.1,
      told_whole (idle_line c.args.recorded.now.lines.items) so_far.0 (facts_told c.args.recorded.now) facts c.loop-count.count
          c.loop-count.messages.now c.loop-count.idle.now past so_far.2,
    )
