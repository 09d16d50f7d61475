-- Commands, answers and notes of the code as the definitions see them.
use Rattle.lease_state.specs.State.{state_of}
use Rattle.lease_model.specs.client.Commands as model
use Rattle.lease_client.specs.declared.values.command.Answer as answer
use Rattle.lease_client.specs.declared.values.command.Command as command
use Rattle.lease_client.specs.declared.values.command.Refusal as refusal
use Rattle.lease_client.specs.declared.values.note.Note as note
use Rattle.lease_client.specs.declared.values.note.Settlement as settlement

abbrev pub command_of : command.Command → model.Command
command_of (command.TheVariants.Open file access share want durable) = model.Command.Open file.0
    (record { access = access; share = share; want = state_of want; durable = durable })
command_of (command.TheVariants.Close file) = model.Command.Close file.0
command_of (command.TheVariants.Read file) = model.Command.Read file.0
command_of (command.TheVariants.Write file patch) = model.Command.Write file.0 patch
command_of (command.TheVariants.Flush file) = model.Command.Flush file.0

abbrev pub refusal_of : refusal.Refusal → model.Refusal
refusal_of refusal.TheVariants.NotOpen = model.Refusal.NotOpen
refusal_of refusal.TheVariants.Busy = model.Refusal.Busy
refusal_of refusal.TheVariants.Differs = model.Refusal.Differs
refusal_of refusal.TheVariants.Offline = model.Refusal.Offline
refusal_of refusal.TheVariants.TooLong = model.Refusal.TooLong
refusal_of refusal.TheVariants.Denied = model.Refusal.Denied
refusal_of refusal.TheVariants.UsedUp = model.Refusal.UsedUp

abbrev pub answer_of : answer.Answer → model.Answer
answer_of answer.TheVariants.Done = model.Answer.Done
answer_of answer.TheVariants.Waiting = model.Answer.Waiting
answer_of (answer.TheVariants.Bytes bytes cached) = model.Answer.Bytes bytes cached
answer_of (answer.TheVariants.Refused refusal) = model.Answer.Refused (refusal_of refusal)
answer_of (answer.TheVariants.Failed status) = model.Answer.Failed status
answer_of answer.TheVariants.Quiet = model.Answer.Quiet

abbrev pub settlement_of : settlement.Settlement → model.Settlement
settlement_of settlement.TheVariants.Done = model.Settlement.Done
settlement_of settlement.TheVariants.Failed = model.Settlement.Failed
settlement_of settlement.TheVariants.Unknown = model.Settlement.Unknown
settlement_of settlement.TheVariants.Lost = model.Settlement.Lost

abbrev pub note_of : note.Note → model.Note
note_of (note.TheVariants.Settled number outcome) = model.Note.Settled number (settlement_of outcome)
note_of (note.TheVariants.Wrote file number patch buffered) = model.Note.Wrote file.0 number patch buffered
note_of (note.TheVariants.Believes file state) = model.Note.Believes file.0 (state_of state)
note_of (note.TheVariants.CachedRead file bytes) = model.Note.CachedRead file.0 bytes
