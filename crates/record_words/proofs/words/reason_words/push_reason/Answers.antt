use Rattle.std.specs.String.{string_bytes}
use Rattle.record_words.proofs.Chain.{on_ok, behind}
use Rattle.record_words.proofs.words.reason_words.push_reason.Goals as goal

pub returns-in_ok-push_place-in-NothingToTake : goal.returns-in_ok-push_place-in-NothingToTake
returns-in_ok-push_place-in-NothingToTake c = rw c.in-NothingToTake.is (on_ok c.writeln-in-NothingToTake.result
    (λ h. behind (string_bytes c.args.text.now) _ _ _ _ c.in_ok-push_place-in-NothingToTake.ensures h)
    c.writeln-in-NothingToTake.ensures.bytes)

pub returns-in_ok-push_other-in-TwoCaches-2 : goal.returns-in_ok-push_other-in-TwoCaches-2
returns-in_ok-push_other-in-TwoCaches-2 c = rw c.in-TwoCaches.is (on_ok c.push_words.result (λ h. behind (string_bytes
    c.args.text.now) _ _ _ _ c.in_ok-push_other-in-TwoCaches.ensures
    (behind _ _ _ _ _ c.in_ok-push_other-in-TwoCaches-2.ensures h)) c.push_words.ensures)

pub returns-in_ok-writeln-in-NoMessage : goal.returns-in_ok-writeln-in-NoMessage
returns-in_ok-writeln-in-NoMessage c = rw c.in-NoMessage.is (on_ok c.push_words-in-NoMessage.result (λ h. behind (string_bytes
    c.args.text.now) _ _ _ _ c.in_ok-writeln-in-NoMessage.ensures.bytes h) c.push_words-in-NoMessage.ensures)

pub returns-in_ok-push_expected-in-StaleRead : goal.returns-in_ok-push_expected-in-StaleRead
returns-in_ok-push_expected-in-StaleRead c = rw c.in-StaleRead.is (on_ok c.push_words-in-StaleRead.result (λ h. behind
    (string_bytes c.args.text.now) _ _ _ _ c.in_ok-push_expected-in-StaleRead.ensures h) c.push_words-in-StaleRead.ensures)

pub returns-in_ok-push_place-in-LateWrite-2 : goal.returns-in_ok-push_place-in-LateWrite-2
returns-in_ok-push_place-in-LateWrite-2 c = rw c.in-LateWrite.is (on_ok c.push_words-in-LateWrite.result (λ h. behind
    (string_bytes c.args.text.now) _ _ _ _ c.in_ok-push_place-in-LateWrite.ensures
    (behind _ _ _ _ _ c.in_ok-push_place-in-LateWrite-2.ensures h)) c.push_words-in-LateWrite.ensures)

pub returns-in_ok-push_place_if-in-FalseDone-2 : goal.returns-in_ok-push_place_if-in-FalseDone-2
returns-in_ok-push_place_if-in-FalseDone-2 c = rw c.in-FalseDone.is (on_ok c.push_words-in-FalseDone.result (λ h. behind
    (string_bytes c.args.text.now) _ _ _ _ c.in_ok-push_place_if-in-FalseDone.ensures
    (behind _ _ _ _ _ c.in_ok-push_place_if-in-FalseDone-2.ensures h)) c.push_words-in-FalseDone.ensures)
