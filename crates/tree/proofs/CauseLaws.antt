-- The number and the word of a refusal tell its cause.
use Rattle.std.proofs.Common.{◌≡◌, ◌∙◌, ap, refl, sym, ℕ, ◌==◌, Option, Some, find, cond}
use Rattle.tree.specs.Causes.{number_of_cause, word_of_cause, has_code, all_causes, IsForCause}
use Rattle.tree.specs.declared.refusals.Refusal.{Refusal}
use Rattle.tree.specs.declared.refusals.Cause.{Cause}
use Rattle.tree.specs.declared.refusals.Cause.TheVariants.{OutOfProfile}

-- the cause that a number and a word tell
abbrev told : ℕ → ℕ → Option Cause
told number word = cond (number == 7) (Some (OutOfProfile word)) (find (has_code number word) all_causes)

told_by : (c : Cause) → told (number_of_cause c) (word_of_cause c) ≡ Some c
told_by (OutOfProfile word) = refl
told_by _ = refl

same : (c d : Cause) → Some d ≡ Some c → d ≡ c
same c d e = cc

told_alone : (c d : Cause) → number_of_cause d ≡ number_of_cause c → word_of_cause d ≡ word_of_cause c → d ≡ c
told_alone c d g h =
    same c d (sym (told_by d) ∙ ap (λ k. told k (word_of_cause d)) g ∙ ap (λ k. told (number_of_cause c) k) h ∙ told_by c)

pub refused_alone : (r : Refusal) (c d : Cause) → r.number ≡ number_of_cause c → r.word ≡ word_of_cause c → IsForCause r d → d ≡ c
refused_alone r c d g h e = told_alone c d (e.number ∙ g) (e.word ∙ h)

pub ruleset causes = (refused_alone)
