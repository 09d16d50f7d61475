-- The words of std, of lease states, of the model and of the laws, for the files of lemmas.
pub use Rattle.std.proofs.Common.{◌&&◌, ◌++◌, ◌+◌, ◌-◌, ◌<◌, ◌==◌, ◌^◌, ◌||◌, ◌∙◌, ◌∷◌, ◌≡◌, ◌≢◌, ◌≤◌, ◌⊎◌, Bool, List, None}
pub use Rattle.std.proofs.Common.{Option, Some, T, [], ℕ, ⊎_elim, add-one, ap, append-nil, append_assoc, ap₂, arith, codes, cond}
pub use Rattle.std.proofs.Common.{false, filter, flat_map, get_or, if◌then◌else◌, inl, inr, leb→le, length, length-append}
pub use Rattle.std.proofs.Common.{length-drop, map, max, nat_le, nat_lt, not, refl, reverse, rules, slice_index, subst, suc, sym}
pub use Rattle.std.proofs.Common.{take, true, true≢false, vec_len, zero}
pub use Rattle.std.proofs.Math.Path.{fun_ext}
pub use Rattle.std.proofs.Math.Seq.{take-length}
pub use Rattle.std.proofs.lemmas.Bool.{and_from, and_parts, both_ways, cases_Bool, cases_lt, eq-eqb, eqb-true, not-true, or_cases}
pub use Rattle.std.proofs.lemmas.Bool.Decides.{Decides-eqb, nat_tests}
pub use Rattle.std.proofs.lemmas.Grind.{flat_map-append}
pub use Rattle.std.proofs.lemmas.List.{length-map, length-reverse, length-set, length-take, length-take-le, map-append}
pub use Rattle.std.proofs.lemmas.List.{reverse-append, reverse-reverse, take_all}
pub use Rattle.std.proofs.lemmas.List.Elements.{filter-append}
pub use Rattle.std.proofs.lemmas.List.Folds.{list_any-append}
pub use Rattle.std.proofs.lemmas.Result.{on_ok_weaker}
pub use Rattle.std.proofs.lemmas.Slice.Eq.{bytes_eq-Decides}
pub use Rattle.std.specs.BTreeMap.{Updates, get, is_at}
pub use Rattle.std.specs.Fmt.{decimal}
pub use Rattle.std.specs.Io.KnownBytes.{Appends}
pub use Rattle.std.specs.List.{list_all, list_any, slice_set}
pub use Rattle.std.specs.Map.{values_of}
pub use Rattle.std.specs.Option.{option_map}
pub use Rattle.std.specs.Ordering.{is_eq, nat_cmp}
pub use Rattle.std.specs.Prelude.{Err, IfOk, IfSome, Ok, Result, ⊤, bytes_eq, drop, find, is_some, slice_get, unwrap_or}
pub use Rattle.std.specs.String.{string_bytes}
pub use Rattle.std.specs.declared.cmp.Ordering.TheVariants.{Less}
pub use mathlib.Core.Bool.{beq}
pub use mathlib.Core.List.{reverse_aux, reverse_aux-eq}
pub use Rattle.lease_state.proofs.ContentLemmas.{length-written}
pub use Rattle.lease_state.specs.Access.{allowed_by, conflict, is_within, uses_of}
pub use Rattle.lease_state.specs.Content.{patch, patch_at, patches}
pub use Rattle.lease_state.specs.State.{State, granted_form_of, is_state_within, needs_acknowledgment, nothing_cached, state_of}
pub use Rattle.lease_state.specs.declared.access.Access.{Access}
pub use Rattle.lease_state.specs.declared.access.Share.{Share}
pub use Rattle.lease_state.specs.declared.content.TheConstants.{FILE_LIMIT}
pub use Rattle.lease_state.specs.declared.number.ClientNo.{ClientNo}
pub use Rattle.lease_state.specs.declared.number.FileId.{FileId}
pub use Rattle.lease_state.specs.declared.number.FileNo.{FileNo}
pub use Rattle.lease_state.specs.declared.patch.Patch.{Patch}
pub use Rattle.lease_state.specs.declared.status.Status.{Status}
pub use Rattle.lease_state.specs.declared.rules.Rules.{Rules}
pub use Rattle.lease_model.specs.client.Calls.{ClientCall, client_called}
pub use Rattle.lease_model.specs.client.Commands.{Answer, Command, Note, OpenTerms, Refusal, Settlement}
pub use Rattle.lease_model.specs.client.State.{Asked, Client, Entry, LiveEntry, Parted, Pending, Phase, belief, belief_in}
pub use Rattle.lease_model.specs.client.State.{belief_of, closed_entry, knows_file, live_entry, patches_of, view}
pub use Rattle.lease_model.specs.client.Commanded.{asked_by, cached_turn, closing_turn, commanded_turn, file_of}
pub use Rattle.lease_model.specs.client.Commanded.{first_open_turn, has_unanswered, heard_in, heard_turn, is_asking}
pub use Rattle.lease_model.specs.client.Commanded.{is_refused, joint_terms, last_after, last_by, number_after}
pub use Rattle.lease_model.specs.client.Commanded.{one_handle_less, open_in, open_turn, opening_entry, read_from_turn}
pub use Rattle.lease_model.specs.client.Commanded.{refusal_in, step_by, turn_by, unheard_turn, unless_parked, write_of}
pub use Rattle.lease_model.specs.client.Commanded.{written_turn, wrote_turn}
unfoldable pub use Rattle.lease_model.specs.client.Commanded.{anew_turn, buffered_turn, close_turn, commanded, flush_turn}
unfoldable pub use Rattle.lease_model.specs.client.Commanded.{handle_turn, last_close_turn, live_open_turn, live_read_turn}
unfoldable pub use Rattle.lease_model.specs.client.Commanded.{more_turn, other_turn, read_sent_turn, taken_turn, through_turn}
unfoldable pub use Rattle.lease_model.specs.client.Commanded.{write_turn}
pub use Rattle.lease_model.specs.client.Connection.{all_turned, connected_in, connected_turn, connection_made, ended_turn}
pub use Rattle.lease_model.specs.client.Connection.{notice_turn, noticed, offline_turn, parted_from, reconnecting_turn}
pub use Rattle.lease_model.specs.client.Connection.{silent_turn}
unfoldable pub use Rattle.lease_model.specs.client.Connection.{live_noticed, live_parted}
pub use Rattle.lease_model.specs.client.Requests.{again_request, close_request, open_request}
pub use Rattle.lease_model.specs.client.Step.{Step, Turn, believes_noted, quiet_step, quiet_turn, refused_step, refused_turn}
pub use Rattle.lease_model.specs.client.Step.{settled_as, turn_of, write_requests}
unfoldable pub use Rattle.lease_model.specs.client.Step.{turned}
pub use Rattle.lease_model.specs.client.Taken.{acknowledgment, base_with, belief_lowered, broken_in, broken_turn}
pub use Rattle.lease_model.specs.client.Taken.{closed_by_server, created_for, created_in, created_turn, failed_turn}
pub use Rattle.lease_model.specs.client.Taken.{file_where, first_belief, flushed, given_state, gives_up, has_sent}
pub use Rattle.lease_model.specs.client.Taken.{is_file_closed, is_key_of, is_numbered, not_created_for, not_created_in}
pub use Rattle.lease_model.specs.client.Taken.{not_created_turn, not_read_in, not_read_turn, not_written_turn, on_file}
pub use Rattle.lease_model.specs.client.Taken.{one_read_less, opened_turn, parked_closed, phase_with, promoted_belief}
pub use Rattle.lease_model.specs.client.Taken.{promoted_turn, read_done_turn, read_in, read_turn, reads_under}
pub use Rattle.lease_model.specs.client.Taken.{reconnected_turn, still_open, unflushed, without_open, write_done_turn}
pub use Rattle.lease_model.specs.client.Taken.{write_failed_in}
unfoldable pub use Rattle.lease_model.specs.client.Taken.{break_turn, broken, create_answered, create_failed, read_answered}
unfoldable pub use Rattle.lease_model.specs.client.Taken.{read_failed, read_failed_turn, sent_without, taken, write_done}
unfoldable pub use Rattle.lease_model.specs.client.Taken.{write_failed}
unfoldable pub use Rattle.lease_model.specs.client.State.{lease_key, new_client}
pub use Rattle.lease_model.specs.messages.FromBytes.{answer_found, ask_found, reply_of, request_of}
unfoldable pub use Rattle.lease_model.specs.messages.FromBytes.{acknowledged_in, notice_in}
pub use Rattle.lease_model.specs.messages.Replies.{BreakNotice, CreateAnswer, LeaseGiven, Out, Reply}
pub use Rattle.lease_model.specs.messages.Requests.{CreateAsk, FileRequest, LeaseOf, Request}
pub use Rattle.lease_model.specs.messages.ToBytes.{HasAnswerBytes, HasAskBytes, HasReplyBytes, HasRequestBytes, answer_bytes}
pub use Rattle.lease_model.specs.messages.ToBytes.{ask_bytes, key_and_state, notice_view, reply_written, request_written}
pub use Rattle.lease_model.specs.messages.ToBytes.{view_of_answer, view_of_ask}
pub use Rattle.lease_model.specs.records.Facts.{Fact}
pub use Rattle.lease_model.specs.records.Past.{last_of, unanswered}
unfoldable pub use Rattle.lease_model.specs.records.Past.{believed, changes_of, content_at, has_buffered, has_joined, has_strayed}
unfoldable pub use Rattle.lease_model.specs.records.Past.{has_written, is_accepted, is_good, is_served, is_settled, is_started}
unfoldable pub use Rattle.lease_model.specs.records.Past.{is_touched, last_sending, sendings, start_of, takings, unsettled}
pub use Rattle.lease_model.specs.records.Safe.{EachBeginning, EachFact, FreshRead, NoFalseDone, NoLateWrite, OneWriteCache, Safe}
pub use Rattle.lease_model.specs.records.Safe.{WellFormed}
unfoldable pub use Rattle.lease_model.specs.records.Safe.{is_well_formed}
pub use Rattle.lease_model.specs.records.Verdict.{Believer, Verdict, caches, caches_writes, is_fresh, is_rival, or_else, verdict}
unfoldable pub use Rattle.lease_model.specs.records.Verdict.{believers, flaw_at, has_two_caches, is_false_done, is_late_write}
unfoldable pub use Rattle.lease_model.specs.records.Verdict.{is_stale_read, verdict_from}
pub use Rattle.lease_model.specs.server.Acknowledge.{break_ended, judged}
unfoldable pub use Rattle.lease_model.specs.server.Acknowledge.{acknowledged}
pub use Rattle.lease_model.specs.server.Allowed.{allowed, conflicts_on, is_other_on}
pub use Rattle.lease_model.specs.server.Answers.{changed, closed, concluded, created, on_contexts, on_open, read_done}
unfoldable pub use Rattle.lease_model.specs.server.Answers.{answered}
pub use Rattle.lease_model.specs.server.Attempt.{Outcome, Tried, after_breaks, after_finding, ended, is_left_open, must_wait}
pub use Rattle.lease_model.specs.server.Attempt.{tried, want_met}
unfoldable pub use Rattle.lease_model.specs.server.Attempt.{lease_broken, tried_for, wants_met}
pub use Rattle.lease_model.specs.server.Calls.{Call, after_first_try, arrived_before, arrived_on, called, client_forgotten}
pub use Rattle.lease_model.specs.server.Calls.{disconnected, file_asked, file_of_create, file_of_open, file_request_arrived}
pub use Rattle.lease_model.specs.server.Calls.{is_left_behind, is_lost, joined, key_expired, opens_disconnected}
pub use Rattle.lease_model.specs.server.Calls.{outlives_connection}
pub use Rattle.lease_model.specs.server.Calls.{is_lost_of, is_named, opens_parted, parted, requests_left}
unfoldable pub use Rattle.lease_model.specs.server.Calls.{arrived, cut, expire, give_up, join, leave, receive, scavenge, withdraw}
pub use Rattle.lease_model.specs.server.GivingUp.{Extent, others_broken, others_wants}
pub use Rattle.lease_model.specs.server.Findings.{Finding, asked_finding, awaits, by_contexts, by_open, connected_open}
pub use Rattle.lease_model.specs.server.Findings.{create_finding, is_leased_elsewhere, read_finding, reconnect_finding}
pub use Rattle.lease_model.specs.server.Findings.{write_finding}
unfoldable pub use Rattle.lease_model.specs.server.Findings.{finding}
pub use Rattle.lease_model.specs.server.Grant.{asked_key, connected_again, granted, granted_with, lease_after, lease_given}
pub use Rattle.lease_model.specs.server.Grant.{lease_granted, lease_put, may_rise, new_open, offered, reconnected, standing_lease}
pub use Rattle.lease_model.specs.server.KeyOrder.{open_key_added}
unfoldable pub use Rattle.lease_model.specs.server.KeyOrder.{key_added, keys_of}
pub use Rattle.lease_model.specs.server.Naming.{key_of, key_of_open, key_under, lease_by, lease_of_open, own_key}
pub use Rattle.lease_model.specs.server.Passes.{Pass, after_try, left_waiting, one_pass, pass_answered, passes}
unfoldable pub use Rattle.lease_model.specs.server.Passes.{all_passes, pass_over, passes_for, passes_over, tried_again}
pub use Rattle.lease_model.specs.server.Progress.{Progress, begun, break_begun, break_notice, held_left, lease_lowered}
pub use Rattle.lease_model.specs.server.Progress.{opens_dropped, refusal_of, refused, replied, request_held, with_lease}
pub use Rattle.lease_model.specs.server.Progress.{with_opens}
pub use Rattle.lease_model.specs.server.Queries.{breaking, kept}
pub use Rattle.lease_model.specs.server.Ready.{breaks_to_none, breaks_to_some, is_ready, leaves_nothing, leaves_something}
pub use Rattle.lease_model.specs.server.Ready.{waits_for}
pub use Rattle.lease_model.specs.server.State.{Held, Lease, Open, Server, has_file, has_key, has_lease, has_own_key, is_breaking}
pub use Rattle.lease_model.specs.server.State.{Lane, is_key, no_lease, same_lane, with_number}
unfoldable pub use Rattle.lease_model.specs.server.State.{new_server_under}
pub use Rattle.lease_model.specs.server.Lanes.{as_held, held_of, is_behind, lane_of, lane_of_open, waits_behind}
pub use Rattle.lease_model.specs.server.Wants.{Want, all_wants, handle_wants, wants_where, write_wants}
pub use Rattle.lease_model.specs.values.Keys.{Key}
unfoldable pub use Rattle.lease_model.specs.values.Keys.{bytes_before, key_before, key_eq}
pub use Rattle.lease_model.specs.values.LeaseStates.{holds_any, meet, same_state, without_handle, without_write}
pub use Rattle.lease_model.specs.values.Limits.{count_limit}
unfoldable pub use Rattle.lease_model.specs.values.Limits.{files_limit, last_file_id, last_file_number, last_write_number}
pub use Rattle.lease_model.specs.values.Lists.{has_marked, is_empty, numbers_to, unmarked, without}
pub use Rattle.lease_model.specs.values.Patches.{is_within_limit, same_patch}
pub use Rattle.lease_model.specs.values.Sharing.{may_read, may_write, same_access, same_share}
unfoldable pub use Rattle.lease_model.specs.values.Tables.{numbered, put, put_key}
pub use Rattle.lease_model.specs.world.Allowed.{is_content}
unfoldable pub use Rattle.lease_model.specs.world.Allowed.{is_allowed_setup}
pub use Rattle.lease_model.specs.world.Events.{Event, applied, client_of, client_takes, connect_over, cut_over, happens}
pub use Rattle.lease_model.specs.world.Events.{link_connected, link_cut, link_noticed, machine_key, notice_over, scavenged}
pub use Rattle.lease_model.specs.world.Events.{served, server_takes, stepped_in, strayed_over, timer_expired}
unfoldable pub use Rattle.lease_model.specs.world.Events.{after}
pub use Rattle.lease_model.specs.world.World.{Link, Setup, World, delivered, fact_of, happened, has_client, requests_sent}
pub use Rattle.lease_model.specs.world.World.{sent_over}
unfoldable pub use Rattle.lease_model.specs.world.World.{all_delivered, first_world_under, noted, starts_from}
pub use Rattle.lease_laws.specs.client.Laws.{HaveOwnNumbers, IsSoundClient, IsSoundEntry, IsSoundLive, IsSoundPhase, TellNumbers}
pub use Rattle.lease_laws.specs.client.Laws.{are_buffered, are_rising, believed_after, unanswered_in, unsent_in}
unfoldable pub use Rattle.lease_laws.specs.client.Laws.{has_number}
pub use Rattle.lease_laws.specs.messages.Bytes.{AcknowledgmentIsFound, ContextsAreFound, FaultyContextsAreNotFound}
pub use Rattle.lease_laws.specs.messages.Bytes.{NoAcknowledgmentIsFound, NoNotificationIsFound, NotificationIsFound}
pub use Rattle.lease_laws.specs.messages.Bytes.{WrittenContextsAreFound, WrittenMessagesAreFound}
pub use Rattle.lease_laws.specs.messages.Written.{CallHasFileId, CallHasFullKey, EachRequest, HasFileId, HasFullKey, HaveFullKeys}
pub use Rattle.lease_laws.specs.messages.Written.{IsWriting, OutHasBytes}
pub use Rattle.lease_laws.specs.records.Runs.{ClientsOfRunsAreSound, ContentNow, ContentWhenSent, RunsGiveFirst, RunsStartFirst}
pub use Rattle.lease_laws.specs.records.Runs.{WritesNow, is_start}
unfoldable pub use Rattle.lease_laws.specs.records.Runs.{content_of, gives_first, open_writes, starts_first}
pub use Rattle.lease_laws.specs.records.Verdicts.{IsFalseDone, IsFirstBad, IsLateWrite, IsMalformed, IsStaleRead, MakesTwoCaches}
pub use Rattle.lease_laws.specs.records.Verdicts.{Says}
pub use Rattle.lease_laws.specs.server.Changes.{ComesBehindBreaks, HasGivenUp, IsCaching}
pub use Rattle.lease_laws.specs.server.Enough.{EndsFor, PassesAreEnough, PassesEnd, ThreeRoundsAreEnough, TriesEnd}
pub use Rattle.lease_laws.specs.server.Laws.{Among, AreInOrder, AreSound, HasToWait, IsBlocked, IsBlockedBy, IsBrokenTo}
pub use Rattle.lease_laws.specs.server.Laws.{IsLasting, IsLawful, IsOpenBlocked, IsSound}
pub use Rattle.lease_laws.specs.server.Outs.{AreBreaksFirst, ArePaired, CachesAlone, Done, EachOut, GoOn, IsAlone, IsBreak}
pub use Rattle.lease_laws.specs.server.Outs.{IsFlaggedRightly, IsGivenUp, IsNoBreak}
pub use Rattle.lease_laws.specs.server.SmallSteps.{AreGuarded, AreInTurn, AreOf, GoesBySteps, HasOpen, IsAwaitedAt, IsFree}
pub use Rattle.lease_laws.specs.server.SmallSteps.{IsGone, IsGuarded, IsInTurn, IsLowered, IsOfCall, MayChange, MayCreate, MayEnd}
pub use Rattle.lease_laws.specs.server.SmallSteps.{MayHold, MayLower, MayRefuse, MayServe, SmallStep, call_begun, own_count}
pub use Rattle.lease_laws.specs.server.SmallSteps.{own_steps, step_taken, steps_taken}
pub use Rattle.lease_laws.specs.server.StepLaws.{BecomesBy, IsBreakTold, IsEnded, IsRaised, IsShort, IsToPresent, StaysOrRises}
pub use Rattle.lease_laws.specs.server.StepLaws.{TellsBreaks}
pub use Rattle.lease_laws.specs.server.Durable.{IsToldDurable, WasDurable}
pub use Rattle.lease_laws.specs.server.GivingUp.{holds_of}
pub use Rattle.lease_laws.specs.server.Waiting.{AllWait, IsAbout, IsOpenOn, IsOrderly, IsUnder, WaitsWell}
pub use Rattle.lease_laws.specs.server.Wanted.{AreInKeyOrder, AreWanted}
pub use Rattle.lease_laws.specs.world.Contents.{AreInStep, ContentsAreTold, IsOfPlace, RepliesAreOfTheirPlaces}
pub use Rattle.lease_laws.specs.world.FileIds.{FileIdsAreCounted, OpensAreTold}
unfoldable pub use Rattle.lease_laws.specs.world.FileIds.{opened_count, was_opened}
pub use Rattle.lease_laws.specs.world.Links.{IsOnline, IsTied, LinksOfRuns, is_down, is_up}
pub use Rattle.lease_laws.specs.world.Timers.{TimersAreTold}
pub use Rattle.lease_laws.specs.client.Forms.{cached_read, connect_turn, create_request, flush_on_live, next_write, opened_anew}
pub use Rattle.lease_laws.specs.client.Forms.{reconnect_request, write_buffered, write_sent, wrote_step}
pub use Rattle.lease_wire.proofs.CanonicalLaws.{written_reads_back}
pub use Rattle.lease_wire.proofs.Messages.{acknowledgment_layout, notification_layout}
pub use Rattle.lease_wire.proofs.Pieces.{bytes_at-taken, number_at-taken}
pub use Rattle.lease_wire.proofs.ReadingLaws.{value_is_read}
pub use Rattle.lease_wire.specs.Acknowledgment.{IsAcknowledgment, KeyAndState, acknowledgment_bytes}
pub use Rattle.lease_wire.specs.Canonical.{IsWritable}
pub use Rattle.lease_wire.specs.Field.{number_at}
pub use Rattle.lease_wire.specs.Gathering.{value_of}
pub use Rattle.lease_wire.specs.Notification.{IsNotification, Notice, notification_bytes}
pub use Rattle.lease_wire.specs.declared.create.Direction.{Direction}
pub use lib.Pointwise.{bytes_decides}
