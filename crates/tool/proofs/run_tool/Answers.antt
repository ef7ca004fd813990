use Rattle.std.proofs.Common.{◌≡◌, List, Some, ap, sym, subst, ◌∙◌}
use Rattle.std.specs.Prelude.{String}
use Rattle.std.specs.declared.alloc.Global.{Global}
use Rattle.tool.specs.commands.Command.{texts, request_of}
use Rattle.tool.specs.declared.commands.commands.Request.TheVariants.{OnDeck, Make}
use Rattle.tool.specs.report.Notes.{note_of, status_of}
use Rattle.generator.specs.Decks.{deck_of}
use Rattle.tool.proofs.Top.{for_words, for_command, for_making, part_or_whole, note_given}
use Rattle.tool.proofs.Statuses.{silent, silent_without_memory, whole_text}
use Rattle.tool.proofs.MadeDecks as made
use Rattle.tool.proofs.Top as top
use Rattle.tool.proofs.run_tool.Goals as goal

pub returns-clause-usage : goal.returns-clause-usage
returns-clause-usage g c = (
  λ q. top.usage _ _ c.run_request-outcome.result c.status.result c.status.ensures (for_words _ _ _ _ c.as_slice.ensures.value c.run_request-outcome.ensures.ended) q,
  λ none. top.usage_only _ _ c.run_request-outcome.result c.status.result c.status.ensures (for_words _ _ _ _ c.as_slice.ensures.value c.run_request-outcome.ensures.ended) none,
)

pub returns-clause-unread : goal.returns-clause-unread
returns-clause-unread g c q =
    c.run_request-outcome.ensures.unread (top.usage _ _ c.run_request-outcome.result c.status.result c.status.ensures c.run_request-outcome.ensures.ended q)

pub returns-clause-whole : goal.returns-clause-whole
returns-clause-whole g c a k = top.whole a _ c.run_request-outcome.result c.status.result c.status.ensures (for_command _ a _ _ k (for_words _ _ _ _ c.as_slice.ensures.value c.run_request-outcome.ensures.ended))

pub returns-clause-whole_refused : goal.returns-clause-whole_refused
returns-clause-whole_refused g c a k = top.whole_refused a _ c.run_request-outcome.result c.status.result c.status.ensures (for_command _ a _ _ k (for_words _ _ _ _ c.as_slice.ensures.value c.run_request-outcome.ensures.ended))

pub returns-clause-refused : goal.returns-clause-refused
returns-clause-refused g c a k = top.refused a _ c.run_request-outcome.result c.status.result c.status.ensures (for_command _ a _ _ k (for_words _ _ _ _ c.as_slice.ensures.value c.run_request-outcome.ensures.ended))

pub returns-clause-accepted : goal.returns-clause-accepted
returns-clause-accepted g c a k = top.accepted a _ c.run_request-outcome.result c.status.result c.status.ensures (for_command _ a _ _ k (for_words _ _ _ _ c.as_slice.ensures.value c.run_request-outcome.ensures.ended))

pub returns-clause-never_done : goal.returns-clause-never_done
returns-clause-never_done g c a k = top.never_done a _ c.run_request-outcome.result c.status.result c.status.ensures (for_command _ a _ _ k (for_words _ _ _ _ c.as_slice.ensures.value c.run_request-outcome.ensures.ended))

pub returns-clause-read_fault : goal.returns-clause-read_fault
returns-clause-read_fault g c = top.read_fault _ _ c.run_request-outcome.result c.status.result c.status.ensures c.run_request-outcome.ensures.ended

pub returns-clause-write_fault : goal.returns-clause-write_fault
returns-clause-write_fault g c = top.write_fault _ _ c.run_request-outcome.result c.status.result c.status.ensures c.run_request-outcome.ensures.ended

pub returns-clause-vectorised : goal.returns-clause-vectorised
returns-clause-vectorised g c w k = top.vectorised w _ c.run_request-outcome.result c.status.result c.status.ensures (for_command _ _ _ _ k (for_words _ _ _ _ c.as_slice.ensures.value c.run_request-outcome.ensures.ended))

pub returns-clause-translated : goal.returns-clause-translated
returns-clause-translated g c w k = top.translated w _ c.run_request-outcome.result c.status.result c.status.ensures (for_command _ _ _ _ k (for_words _ _ _ _ c.as_slice.ensures.value c.run_request-outcome.ensures.ended))

pub returns-clause-listed_beside : goal.returns-clause-listed_beside
returns-clause-listed_beside g c w k = top.listed_beside w _ c.run_request-outcome.result c.status.result c.status.ensures (for_command _ _ _ _ k (for_words _ _ _ _ c.as_slice.ensures.value c.run_request-outcome.ensures.ended))

pub returns-clause-marked : goal.returns-clause-marked
returns-clause-marked g c w k = top.marked w _ c.run_request-outcome.result c.status.result c.status.ensures (for_command _ _ _ _ k (for_words _ _ _ _ c.as_slice.ensures.value c.run_request-outcome.ensures.ended))

pub returns-clause-printed : goal.returns-clause-printed
returns-clause-printed g c w k = top.printed w _ c.run_request-outcome.result c.status.result c.status.ensures (for_command _ _ _ _ k (for_words _ _ _ _ c.as_slice.ensures.value c.run_request-outcome.ensures.ended))

pub returns-clause-part : goal.returns-clause-part
returns-clause-part g c w k = top.part w _ c.run_request-outcome.result c.status.result c.status.ensures (for_command _ _ _ _ k (for_words _ _ _ _ c.as_slice.ensures.value c.run_request-outcome.ensures.ended))

pub returns-clause-listed : goal.returns-clause-listed
returns-clause-listed g c w k = top.listed w _ c.run_request-outcome.result c.status.result c.status.ensures (for_command _ _ _ _ k (for_words _ _ _ _ c.as_slice.ensures.value c.run_request-outcome.ensures.ended))

pub returns-clause-listed_part : goal.returns-clause-listed_part
returns-clause-listed_part g c w k = top.listed_part w _ c.run_request-outcome.result c.status.result c.status.ensures (for_command _ _ _ _ k (for_words _ _ _ _ c.as_slice.ensures.value c.run_request-outcome.ensures.ended))

pub returns-clause-ran : goal.returns-clause-ran
returns-clause-ran g c a run k = top.ran a run _ c.run_request-outcome.result c.status.result c.status.ensures (for_command _ a _ _ k (for_words _ _ _ _ c.as_slice.ensures.value c.run_request-outcome.ensures.ended))

pub returns-clause-faulted : goal.returns-clause-faulted
returns-clause-faulted g c a k = top.faulted a _ c.run_request-outcome.result c.status.result c.status.ensures (for_command _ a _ _ k (for_words _ _ _ _ c.as_slice.ensures.value c.run_request-outcome.ensures.ended))

pub returns-clause-limited : goal.returns-clause-limited
returns-clause-limited g c = top.at_limit _ _ c.run_request-outcome.result c.status.result c.status.ensures (for_words _ _ _ _ c.as_slice.ensures.value c.run_request-outcome.ensures.ended)

pub returns-clause-run_part : goal.returns-clause-run_part
returns-clause-run_part g c a run k = top.run_part a run _ c.run_request-outcome.result c.status.result c.status.ensures (for_command _ a _ _ k (for_words _ _ _ _ c.as_slice.ensures.value c.run_request-outcome.ensures.ended))

pub returns-clause-part_without_memory : goal.returns-clause-part_without_memory
returns-clause-part_without_memory g c a run k = top.part_without_memory a run _ c.run_request-outcome.result c.status.result c.status.ensures (for_command _ a _ _ k (for_words _ _ _ _ c.as_slice.ensures.value c.run_request-outcome.ensures.ended))

pub returns-clause-made_answers : goal.returns-clause-made_answers
returns-clause-made_answers g c n k = made.answers (deck_of n) _ _ _ _ c.run_request-outcome.result c.status.result c.status.ensures (for_making _ n _ _ k (for_words _ _ _ _ c.as_slice.ensures.value c.run_request-outcome.ensures.ended))

pub returns-clause-made : goal.returns-clause-made
returns-clause-made g c n k q = made.done (deck_of n) _ _ _ _ c.run_request-outcome.result c.status.result c.status.ensures (for_making _ n _ _ k (for_words _ _ _ _ c.as_slice.ensures.value c.run_request-outcome.ensures.ended)) q

pub returns-clause-made_faulted : goal.returns-clause-made_faulted
returns-clause-made_faulted g c n k q = made.faulted (deck_of n) _ _ _ _ c.run_request-outcome.result c.status.result c.status.ensures (for_making _ n _ _ k (for_words _ _ _ _ c.as_slice.ensures.value c.run_request-outcome.ensures.ended)) q

pub returns-clause-made_part : goal.returns-clause-made_part
returns-clause-made_part g c n k q = made.part (deck_of n) _ _ _ _ c.run_request-outcome.result c.status.result c.status.ensures (for_making _ n _ _ k (for_words _ _ _ _ c.as_slice.ensures.value c.run_request-outcome.ensures.ended)) q

pub returns-clause-made_little : goal.returns-clause-made_little
returns-clause-made_little g c n k q = made.little (deck_of n) _ _ _ _ c.run_request-outcome.result c.status.result c.status.ensures (for_making _ n _ _ k (for_words _ _ _ _ c.as_slice.ensures.value c.run_request-outcome.ensures.ended)) q

pub returns-clause-made_refused : goal.returns-clause-made_refused
returns-clause-made_refused g c n k q = made.refused (deck_of n) _ _ _ _ c.run_request-outcome.result c.status.result c.status.ensures (for_making _ n _ _ k (for_words _ _ _ _ c.as_slice.ensures.value c.run_request-outcome.ensures.ended)) q

pub returns-clause-made_never_done : goal.returns-clause-made_never_done
returns-clause-made_never_done g c n k r refused = made.never_done (deck_of n) _ _ _ _ c.run_request-outcome.result c.status.result c.status.ensures (for_making _ n _ _ k (for_words _ _ _ _ c.as_slice.ensures.value c.run_request-outcome.ensures.ended)) r refused

pub returns-clause-made_runs : goal.returns-clause-made_runs
returns-clause-made_runs g c n k q = made.runs_into_fault (deck_of n) _ _ _ _ c.run_request-outcome.result c.status.result c.status.ensures (for_making _ n _ _ k (for_words _ _ _ _ c.as_slice.ensures.value c.run_request-outcome.ensures.ended)) q

pub returns-clause-made_done : goal.returns-clause-made_done
returns-clause-made_done g c n k well still = made.complete (deck_of n) _ _ _ _ c.run_request-outcome.result c.status.result c.status.ensures (for_making _ n _ _ k (for_words _ _ _ _ c.as_slice.ensures.value c.run_request-outcome.ensures.ended)) well still

pub returns-clause-apart : goal.returns-clause-apart
returns-clause-apart g c n k =
    c.run_request-outcome.ensures.apart n (subst (λ (ws : List (String Global)). request_of (texts ws) ≡ Some (Make n)) (sym c.as_slice.ensures.value) k)

pub returns-clause-nothing : goal.returns-clause-nothing
returns-clause-nothing g c m = c.run_request-outcome.ensures.untouched (silent _ c.run_request-outcome.result c.status.result c.status.ensures m)

pub returns-clause-nothing_without_memory : goal.returns-clause-nothing_without_memory
returns-clause-nothing_without_memory g c late q =
    c.run_request-outcome.ensures.untouched (silent_without_memory _ c.run_request-outcome.result c.status.result c.status.ensures (top.same_words_late _ _ c.as_slice.ensures.value late) q)

pub returns-clause-no_read_fault : goal.returns-clause-no_read_fault
returns-clause-no_read_fault g c other = c.run_request-outcome.ensures.no_deck_fault (λ e. other (c.status.ensures ∙ ap status_of e))

pub returns-clause-no_write_fault : goal.returns-clause-no_write_fault
returns-clause-no_write_fault g c other = c.run_request-outcome.ensures.no_out_fault (λ e. other (c.status.ensures ∙ ap status_of e))

pub returns-clause-passed_on : goal.returns-clause-passed_on
returns-clause-passed_on g c whole = c.run_request-outcome.ensures.passed (whole_text c.run_request-outcome.result c.status.result c.status.ensures whole)

pub returns-clause-textless : goal.returns-clause-textless
returns-clause-textless g c a runs k held =
    c.run_request-outcome.ensures.textless a runs (subst (λ (ws : List (String Global)). request_of (texts ws) ≡ Some (OnDeck a)) (sym c.as_slice.ensures.value) k) held

pub returns-clause-faults : goal.returns-clause-faults
returns-clause-faults g c a run k = top.faults a run _ c.run_request-outcome.result c.status.result c.status.ensures (for_command _ a _ _ k (for_words _ _ _ _ c.as_slice.ensures.value c.run_request-outcome.ensures.ended))

pub returns-clause-limits : goal.returns-clause-limits
returns-clause-limits g c a run k = top.limits a run _ c.run_request-outcome.result c.status.result c.status.ensures (for_command _ a _ _ k (for_words _ _ _ _ c.as_slice.ensures.value c.run_request-outcome.ensures.ended))

pub returns-clause-exceeded : goal.returns-clause-exceeded
returns-clause-exceeded g c a run k = top.over_limit a run _ c.run_request-outcome.result c.status.result c.status.ensures (for_command _ a _ _ k (for_words _ _ _ _ c.as_slice.ensures.value c.run_request-outcome.ensures.ended))

pub returns-clause-done : goal.returns-clause-done
returns-clause-done g c a k = top.done a _ c.run_request-outcome.result c.status.result c.status.ensures (for_command _ a _ _ k (for_words _ _ _ _ c.as_slice.ensures.value c.run_request-outcome.ensures.ended))

pub returns-clause-note : goal.returns-clause-note
returns-clause-note g c still = (
  note_of c.run_request-outcome.result,
  top.noted _ _ c.run_request-outcome.result c.status.result c.status.ensures (for_words _ _ _ _ c.as_slice.ensures.value c.run_request-outcome.ensures.ended),
  note_given c.note.result _ _ _ _ _ c.note.ensures.ok c.note.ensures.fault still,
)

pub returns-clause-note_part : goal.returns-clause-note_part
returns-clause-note_part g c = (
  note_of c.run_request-outcome.result,
  top.noted _ _ c.run_request-outcome.result c.status.result c.status.ensures (for_words _ _ _ _ c.as_slice.ensures.value c.run_request-outcome.ensures.ended),
  part_or_whole c.note.result _ _ _ c.note.ensures.ok c.note.ensures.part,
)
