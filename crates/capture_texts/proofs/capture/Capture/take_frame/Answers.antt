use Rattle.std.proofs.Common.{◌≡◌, ◌∙◌, ◌+◌, ℕ, ap, refl, length}
use Rattle.capture_walk.specs.declared.frame.Frame.{Frame}
use Rattle.capture_texts.specs.Captures.{frame_at, with_taken}
use Rattle.capture_texts.specs.Positions.{next_line, is_taken}
use Rattle.capture_texts.specs.Servers.{servers}
use Rattle.capture_texts.proofs.Taking.{with_frame}
use Rattle.capture_texts.proofs.Taken.{server_noted, frame_shown, taken_known}
use Rattle.capture_texts.proofs.capture.Capture.take_frame.Goals as goal

pub returns-clause-taken : goal.returns-clause-taken
returns-clause-taken c = λ past seen moment has.
    let here : c.in_ok-line.line ≡ next_line past = c.in_ok-line.ensures.next ∙ ap (λ (n : ℕ). n + 1) has.counted in
    let served = server_noted c.args.frame.now.server c.as_slice.result.now (servers past)
    c.args.self.now.servers.addresses.items c.note.new.self.addresses.items c.in_ok-note.ensures c.as_slice.ensures
    has.servers in
    let place : c.place-place.result ≡ frame_at c.args.self.now.at c.args.connection c.args.frame.now past (length seen) =
    c.place-place.ensures past seen (record {
      walking = has.walking;
      connections = has.connections;
      servers = served;
      counted = has.counted;
    }) in
    let shown = c.in_ok-is_read.ensures seen has.walking (ap (λ (f : Frame). f.number) place) in
    let there = frame_at c.args.self.now.at c.args.connection c.args.frame.now past (length seen) in (
      with_taken (is_taken c.args.self.now.at c.args.frame.now.from) there shown.0,
      (
        shown.0,
        frame_shown c.place-place.result there c.as_slice-2.result.now c.args.frame.now.bytes c.in_ok-is_read.is_read seen
            shown.0 place c.as_slice-2.ensures shown.2,
        refl,
      ),
      record {
        walking = taken_known c.place-place.result there c.is_taken.result
            (is_taken c.args.self.now.at c.args.frame.now.from) shown.0 c.note_taken.new.self place c.is_taken.ensures
            (c.in_ok-note_taken.ensures shown.0 shown.1);
        connections = with_frame c.args.self.now.at past moment c.args.connection c.in_ok-line.line
            c.place-place.result.earliest c.args.frame.now c.args.self.now.connections c.note-2.new.self has.connections here
            (ap (λ (f : Frame). f.earliest) place) c.in_ok-note-2.ensures.ends c.in_ok-note-2.ensures.near
            c.in_ok-note-2.ensures.far;
        servers = served;
        at = refl;
        kept = refl;
      },
    )
