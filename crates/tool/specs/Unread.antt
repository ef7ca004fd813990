-- Why a deck wasn't read.
use Rattle.std.specs.Prelude.{ℕ, ◌≡◌, List, Option}
use Rattle.tree.specs.declared.refusals.Refused.{Refused as Unreadable}
use Rattle.tree.specs.declared.refusals.Refused.TheVariants as refused
use Rattle.tree.specs.Causes.{refusal_at}
use Rattle.tree.specs.declared.refusals.Cause.TheVariants.{TooLong}
use Rattle.streams.specs.Causes.{Rose}
use Rattle.streams.specs.Streams.{TakesMoreThan}
use Rattle.tool.specs.declared.report.outcome.Outcome.{Outcome}
use Rattle.tool.specs.declared.report.outcome.Outcome.TheVariants.{Refused, ReadFault, OutOfMemory}

-- The source failed, the deck has more bytes than it may have, or there was no memory.
abbrev pub IsUnread : ℕ → Option (List ℕ) → Option (List ℕ) → ℕ → ℕ → Outcome → Type 0
IsUnread most before now faults_before faults_now ReadFault = Rose faults_before faults_now
IsUnread most before now faults_before faults_now (Refused r) =
    (r ≡ refusal_at TooLong 0) × TakesMoreThan most before now
IsUnread most before now faults_before faults_now OutOfMemory = Unit {0}
IsUnread most before now faults_before faults_now _ = ⊥

-- how a call ends on whose deck this was answered
abbrev pub outcome_for : Unreadable → Outcome
outcome_for (refused.Refusal r) = Refused r
outcome_for refused.Memory = OutOfMemory
