use Rattle.lease_laws.proofs.Words.{◌∙◌, ap, ap₂}
use Rattle.std.proofs.lemmas.Result.{IfOk-weaker}
use Rattle.clap.specs.Words.{App, with_subcommand}
use Rattle.leasecheck.proofs.command_line.program.Goals as goal

pub returns : goal.returns
returns c =
    let show = c.in_ok-show_command.ensures in
    let replay = c.in_ok-replay_command.ensures in
    let capture = c.in_ok-capture_command.ensures in
    let one = c.in_ok-subcommand.ensures.shape c.in_ok-ack_command.ensures.1
    ∙ ap₂ with_subcommand c.bare_program.ensures (ap (λ (a : App). a.top) c.in_ok-ack_command.ensures.0) in
    let two = c.in_ok-subcommand-2.ensures.shape show.3 ∙ ap₂ with_subcommand one (ap (λ (a : App). a.top) show.2) in
    let three = c.in_ok-subcommand-3.ensures.shape replay.3
    ∙ ap₂ with_subcommand two (ap (λ (a : App). a.top) replay.2) in
    let four = c.in_ok-subcommand-4.ensures.shape c.in_ok-judge_command.ensures.1
    ∙ ap₂ with_subcommand three (ap (λ (a : App). a.top) c.in_ok-judge_command.ensures.0) in
    let five = c.in_ok-subcommand-5.ensures.shape c.in_ok-draw_command.ensures.1
    ∙ ap₂ with_subcommand four (ap (λ (a : App). a.top) c.in_ok-draw_command.ensures.0) in
    let six = c.in_ok-subcommand-6.ensures.shape capture.3
    ∙ ap₂ with_subcommand five (ap (λ (a : App). a.top) capture.2) in
    let seven = c.in_ok-subcommand-7.ensures.shape c.client_command.ensures.own
    ∙ ap₂ with_subcommand six (ap (λ (a : App). a.top) c.client_command.ensures.app) in
    IfOk-weaker c.subcommand-8.result _ _ (λ command added. (
      record {
        kinds = show.0;
        rules = replay.0;
        sides = capture.0;
        take_kinds = show.1;
        take_rules = replay.1;
        take_sides = capture.1;
      },
      added.shape c.server_command.ensures.own
          ∙ ap₂ with_subcommand seven (ap (λ (a : App). a.top) c.server_command.ensures.app),
    )) c.subcommand-8.ensures
