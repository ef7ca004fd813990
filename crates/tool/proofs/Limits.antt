-- A run that is cut at a limit of steps has exceeded it, and no other has.
use Rattle.std.proofs.Common.{◌≡◌, ◌≤◌, ◌<◌, ◌⊎◌, ℕ, List, Option, None, Some, refl, ap, sym, ◌∙◌, inl, inr}
use Rattle.std.proofs.lemmas.Bool.{cases_lt}
use Rattle.tree.specs.Plain.{Program}
use Rattle.meaning.specs.Run.{State, Way, Going, Jumping, Stopped, Failed, Cut, run}
use Rattle.meaning.specs.Sequential.{ending, end_of}
use Rattle.meaning.specs.Dialect.{Dialect}
use Rattle.meaning.specs.declared.End.TheVariants.{StepLimit}
use Rattle.meaning.specs.Cuts.{CutsRun}
use Rattle.meaning.proofs.Kept.{whole_run_is_not_cut}
use Rattle.meaning.proofs.Limit.{cut_run}
use Rattle.tool.specs.Running.{Exceed}

cut_of : (w : Way) → end_of w ≡ Some StepLimit → w ≡ Cut
cut_of Going e = absurd (cc)
cut_of (Jumping n) e = absurd (cc)
cut_of Stopped e = absurd (cc)
cut_of (Failed fault line) e = absurd (cc)
cut_of Cut e = refl

whole_not_cut : (lang : Dialect) (p : Program) (input : List ℕ) → (run lang None p input).way ≡ Cut → ⊥
whole_not_cut lang p input = whole_run_is_not_cut lang p input

pub exceeded : (lang : Dialect) (limit : Option ℕ) (p : Program) (input : List ℕ) → ending (run lang limit p input) ≡ Some StepLimit → Exceed (run lang None p input).steps limit
exceeded lang None p input e = whole_not_cut lang p input (cut_of (run lang None p input).way e)
exceeded lang (Some n) p input e = by (cases_lt n (run lang None p input).steps)
  where
    law : CutsRun n (run lang (Some n) p input) (run lang None p input)
    law = cut_run lang n None p input tt

    by : (n < (run lang None p input).steps) ⊎ ((run lang None p input).steps ≤ n) → n < (run lang None p input).steps
    by (inr within) = absurd (whole_not_cut lang p input (ap (λ (s : State). s.way) (sym (law.within within)) ∙ cut_of (run lang (Some n) p input).way e))
    by (inl beyond) = beyond

pub limited : (lang : Dialect) (limit : Option ℕ) (p : Program) (input : List ℕ) → Exceed (run lang None p input).steps limit → ending (run lang limit p input) ≡ Some StepLimit
limited lang None p input h = absurd h
limited lang (Some n) p input h = ap end_of ((cut_run lang n None p input tt).beyond h).way
