-- What a capture knows of connections after one more line.
use Rattle.std.proofs.Common.{◌≡◌, ◌∙◌, ◌∷◌, List, ℕ, Option, ap}
use Rattle.capture_texts.specs.Connections.{connection_in, Ends, ends_in, near_in, far_in, ends_by, KnowsConnections}
use Rattle.capture_texts.specs.Lines.{line_at}
use Rattle.capture_texts.specs.Positions.{next_line, earliest, near_by, near_positions, far_by, far_earliest}
use Rattle.capture_texts.specs.declared.connections.Connections.{Connections}
use Rattle.capture_texts.specs.declared.line.FrameSaid.{FrameSaid}
use Rattle.capture_texts.specs.declared.line.Line.{Line}
use Rattle.capture_texts.specs.declared.line.Moment.{Moment}
use Rattle.capture_texts.specs.declared.line.Said.TheVariants as said
use Rattle.capture_texts.specs.declared.line.Side.{Side}

pub with_frame : (at : Side) (past : List Line) (moment : Moment) (connection line position : ℕ) (frame : FrameSaid)
    (old new : Connections) → KnowsConnections at past old → line ≡ next_line past
    → position ≡ earliest at connection frame past
    → ((c : ℕ) → ends_in (connection_in new c) ≡ ends_by c connection (said.Frame frame) (ends_in (connection_in old c)))
    → ((c : ℕ) → near_in (connection_in new c)
    ≡ near_by at c line connection (said.Frame frame) (near_in (connection_in old c)))
    → ((c : ℕ) → far_in (connection_in new c)
    ≡ far_by at c connection (said.Frame frame) position (far_in (connection_in old c)))
    → KnowsConnections at (line_at moment connection (said.Frame frame) ∷ past) new
with_frame at past moment connection line position frame old new knows here there ends near far = record {
  ends = λ c. ends c ∙ ap (λ (before : Option Ends). ends_by c connection (said.Frame frame) before) (knows.ends c);
  near = λ c. near c ∙ (ap (λ (before : List ℕ). near_by at c line connection (said.Frame frame) before) (knows.near c)
      ∙ ap (λ (n : ℕ). near_by at c n connection (said.Frame frame) (near_positions at c past)) here);
  far = λ c. far c ∙ (ap (λ (before : ℕ). far_by at c connection (said.Frame frame) position before) (knows.far c)
      ∙ ap (λ (n : ℕ). far_by at c connection (said.Frame frame) n (far_earliest at c past)) there);
}

pub with_gap : (at : Side) (past : List Line) (moment : Moment) (connection : ℕ) (old new : Connections) → new ≡ old
    → KnowsConnections at past old → KnowsConnections at (line_at moment connection said.Gap ∷ past) new
with_gap at past moment connection old new same knows =
    rw same (record { ends = knows.ends; near = knows.near; far = knows.far })

pub with_end : (at : Side) (past : List Line) (moment : Moment) (connection : ℕ) (old new : Connections) → new ≡ old
    → KnowsConnections at past old → KnowsConnections at (line_at moment connection said.End ∷ past) new
with_end at past moment connection old new same knows =
    rw same (record { ends = knows.ends; near = knows.near; far = knows.far })
