-- What a capture knows after one more line.
use Rattle.std.proofs.Common.{◌≡◌, ◌∙◌, ◌+◌, ◌++◌, ◌∷◌, [], List, ℕ, Bool, true, false, if◌then◌else◌, Some, ap}
use Rattle.std.proofs.Common.{refl, sym, subst, length, map, filter, arith}
use Rattle.lease_texts.specs.Reading.{is_passed_over}
use Rattle.capture_walk.specs.Frames.{seen_at}
use Rattle.capture_walk.specs.declared.frame.Frame.{Frame}
use Rattle.capture_walk.specs.declared.note.Note.TheVariants as note
use Rattle.capture_walk.specs.declared.note.Seen.{Seen}
use Rattle.capture_texts.specs.Captures.{with_taken, KnowsSeen}
use Rattle.capture_texts.specs.Captures.{Knows, HasSeen, HasTaken, HasMarked, Shows, ShowsLine, ShowsFrame}
use Rattle.capture_texts.specs.Captures.{mark_at, moments, moment_kept, is_frame_kept, is_unread, has_frame}
use Rattle.capture_texts.specs.Captures.{with_text}
use Rattle.capture_texts.specs.Connections.{differs}
use Rattle.capture_texts.specs.Lines.{line_at, line_in, is_frame}
use Rattle.capture_texts.specs.Servers.{with_server}
use Rattle.capture_texts.specs.declared.capture.Capture.{Capture}
use Rattle.capture_texts.specs.declared.capture.Kept.{Kept}
use Rattle.capture_texts.specs.declared.line.Line.{Line}
use Rattle.capture_texts.specs.declared.line.Moment.{Moment}
use Rattle.capture_texts.specs.declared.line.Said.TheVariants as said
use Rattle.capture_texts.specs.declared.line.Side.{Side}
use Rattle.capture_texts.specs.declared.walking.Walking.{Walking}
use Rattle.capture_texts.proofs.Lengths.{count_more}
use Rattle.capture_texts.proofs.Taking.{with_gap, with_end}

pub server_noted : (address word : List ℕ) (known before after : List (List ℕ)) → after ≡ with_server word before
    → word ≡ address → before ≡ known → after ≡ with_server address known
server_noted address word known before after noted same was =
    noted ∙ (ap (λ (w : List ℕ). with_server w before) same ∙ ap (λ (b : List (List ℕ)). with_server address b) was)

pub frame_shown : (frame other : Frame) (bytes same : List ℕ) (is_read : Bool) (before now : List Seen)
    → frame ≡ other → bytes ≡ same → ShowsFrame frame bytes is_read before now → ShowsFrame other same is_read before now
frame_shown frame other bytes same is_read before now one two shown =
    subst (λ (f : Frame). ShowsFrame f same is_read before now) one
    (subst (λ (b : List ℕ). ShowsFrame frame b is_read before now) two shown)

pub taken_known : (frame other : Frame) (taken same : Bool) (seen : List Seen) (walking : Walking) → frame ≡ other
    → taken ≡ same → KnowsSeen (with_taken taken frame seen) walking → KnowsSeen (with_taken same other seen) walking
taken_known frame other taken same seen walking one two knows =
    subst (λ (f : Frame). KnowsSeen (with_taken same f seen) walking) one
    (subst (λ (b : Bool). KnowsSeen (with_taken b frame seen) walking) two knows)

-- ---- gaps and ends

pub gap_taken : (past : List Line) (seen : List Seen) (moment : Moment) (connection : ℕ) (before now : Capture)
    → HasSeen past seen before → HasMarked before.at connection note.Gap past seen before now
    → (after : List Seen) × ShowsLine before.at (line_at moment connection said.Gap) past true seen after
    × HasTaken (line_at moment connection said.Gap) past after before now
gap_taken past seen moment connection before now has marked = (
  seen_at (mark_at before.at connection past (length seen)) (length seen) note.Gap ∷ seen,
  (refl, refl),
  record {
    walking = marked.walking;
    connections =
        with_gap before.at past moment connection before.connections now.connections marked.connections has.connections;
    servers = ap (λ s. s.addresses.items) marked.servers ∙ has.servers;
    at = marked.at_is;
    kept = marked.kept;
  },
)

pub end_taken : (past : List Line) (seen : List Seen) (moment : Moment) (connection : ℕ) (before now : Capture)
    → HasSeen past seen before → HasMarked before.at connection note.End past seen before now
    → (after : List Seen) × ShowsLine before.at (line_at moment connection said.End) past true seen after
    × HasTaken (line_at moment connection said.End) past after before now
end_taken past seen moment connection before now has marked = (
  seen_at (mark_at before.at connection past (length seen)) (length seen) note.End ∷ seen,
  (refl, refl),
  record {
    walking = marked.walking;
    connections =
        with_end before.at past moment connection before.connections now.connections marked.connections has.connections;
    servers = ap (λ s. s.addresses.items) marked.servers ∙ has.servers;
    at = marked.at_is;
    kept = marked.kept;
  },
)

-- ---- what is kept

moments_more : (xs : List Kept) (x : Kept) → map moment_kept (xs ++ x ∷ []) ≡ map moment_kept xs ++ moment_kept x ∷ []
moments_more [] x = refl
moments_more (y ∷ ys) x = ap (λ (l : List Moment). moment_kept y ∷ l) (moments_more ys x)

length_more : (xs : List Kept) (x : Kept) → length (xs ++ x ∷ []) ≡ length xs + 1
length_more [] x = refl
length_more (y ∷ ys) x = let e = length_more ys x in grind (arith, e)

unread_more : (xs : List Kept) (x : Kept) (is_read : Bool) → x.is_read ≡ is_read
    → length (filter is_unread (xs ++ x ∷ [])) ≡ (if is_read then length (filter is_unread xs)
    else length (filter is_unread xs) + 1)
unread_more xs x true is = let e = count_more is_unread xs x in grind (arith, e, is)
unread_more xs x false is = let e = count_more is_unread xs x in grind (arith, e, is)

frames_more : (line : Line) (past : List Line) (xs : List Kept) (x : Kept) → x.is_frame ≡ is_frame line.said
    → length (filter is_frame_kept xs) ≡ length (filter has_frame past)
    → length (filter is_frame_kept (xs ++ x ∷ [])) ≡ length (filter has_frame (line ∷ past))
frames_more line past xs x is before = let e = count_more is_frame_kept xs x in grind (arith, e, is, before)

pub has_more : (line : Line) (past : List Line) (seen now : List Seen) (before middle after : Capture) (kept : Kept)
    → HasSeen past seen before → HasTaken line past now before middle → after.at ≡ middle.at
    → after.connections ≡ middle.connections → after.servers ≡ middle.servers → after.walking ≡ middle.walking
    → after.kept.items ≡ middle.kept.items ++ kept ∷ [] → kept.moment ≡ line.moment → kept.is_frame ≡ is_frame line.said
    → HasSeen (line ∷ past) now after
has_more line past seen now before middle after kept has taken at connections served walking items moment frame =
    let kept_items : after.kept.items ≡ before.kept.items ++ kept ∷ [] =
    items ∙ ap (λ k. k.items ++ kept ∷ []) taken.kept in
    record {
      walking = rw walking taken.walking;
      connections = rw (at, taken.at, connections) taken.connections;
      servers = ap (λ s. s.addresses.items) served ∙ taken.servers;
      counted = let e : length after.kept.items ≡ length past + 1 =
          ap (λ (l : List Kept). length l) kept_items ∙ (length_more before.kept.items kept ∙ ap (λ (n : ℕ). n + 1) has.counted)
          in grind (arith, e);
      moments = ap (λ (l : List Kept). map moment_kept l) kept_items ∙ (moments_more before.kept.items kept
          ∙ (ap (λ (l : List Moment). l ++ moment_kept kept ∷ []) has.moments
          ∙ ap (λ (m : Moment). moments past ++ m ∷ []) moment));
      frames = ap (λ (l : List Kept). length (filter is_frame_kept l)) kept_items
          ∙ frames_more line past before.kept.items kept frame has.frames;
    }

pub knows_more : (line : Line) (past : List Line) (now : List Seen) (before middle after : Capture) (kept : Kept)
    (is_read : Bool) (knows : Knows past before) → ShowsLine before.at line past is_read knows.seen now
    → HasTaken line past now before middle → after.at ≡ middle.at
    → after.connections ≡ middle.connections → after.servers ≡ middle.servers → after.walking ≡ middle.walking
    → after.kept.items ≡ middle.kept.items ++ kept ∷ [] → kept.moment ≡ line.moment → kept.is_frame ≡ is_frame line.said
    → kept.is_read ≡ is_read → Knows (line ∷ past) after
knows_more line past now before middle after kept is_read knows shown taken at connections served walking items moment frame
    reading =
    record {
      seen = now;
      unread = if is_read then knows.unread else knows.unread + 1;
      shows = subst (λ (side : Side). Shows side (line ∷ past) now (if is_read then knows.unread else knows.unread + 1))
          (sym (at ∙ taken.at)) (knows.seen, is_read, knows.unread, knows.shows, shown, refl);
      has = has_more line past knows.seen now before middle after kept knows.has taken at connections served walking items
          moment frame;
      unread_is = ap (λ (l : List Kept). length (filter is_unread l)) (items ∙ ap (λ k. k.items ++ kept ∷ []) taken.kept)
          ∙ (unread_more before.kept.items kept is_read reading
          ∙ ap (λ (n : ℕ). if is_read then n else n + 1) knows.unread_is);
    }

-- ---- texts

pub text_taken : (past : List Line) (text : List ℕ) (line : Line) → is_passed_over text ≡ false → line_in text ≡ Some line
    → differs line past ≡ false → with_text past text ≡ Some (line ∷ past)
text_taken past text line counts said agrees = rw (counts, said, agrees) refl
