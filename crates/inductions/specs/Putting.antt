-- Statements in which forms of the counter stand for the inductions.
use Rattle.std.specs.Prelude.{ℕ, ◌==◌, nat_le, Option, Some, None, ℤ, pos, Bool, if◌then◌else◌, List, [], ◌∷◌, map}
use Rattle.std.specs.List.{list_any}
use Rattle.std.specs.Str.{bytes_eq}
use Rattle.tree.specs.Plain.{Expression, Named, no_subscripts, subscript}
use Rattle.rewrite.specs.Making.{Making}
use Rattle.linear_forms.specs.Canonical.{canonising}
use Rattle.linear_forms.specs.Expressed.{expressed, variables}
use Rattle.nest.specs.Plain.{Guarded, Loop}
use Rattle.nest_rewrite.specs.Statements.{rewritten_statement}
use Rattle.inductions.specs.Growing.{counter_form}
use Rattle.inductions.specs.declared.found.Induction.{Induction}

abbrev pub found : List Induction → List ℕ → Option Induction
found [] x = None
found (d ∷ ds) x = if bytes_eq d.name x then Some d else found ds x

-- where so many statements stand before: up to the one in which it grows, and behind it
abbrev pub constant_at : Induction → ℕ → ℤ
constant_at d k = if nat_le k d.place then d.less else pos 0

module _ (ds : List Induction) where
  -- the one that an expression is by itself
  abbrev pub induction_in : Expression → Option Induction
  induction_in (Named x no_subscripts) = found ds x
  induction_in (Named x (subscript p ps)) = None
  induction_in _ = None

  -- one of them grows in the statement of this number
  abbrev pub grows_at : ℕ → Bool
  grows_at k = list_any (λ (d : Induction). d.place == k) ds

-- by the counter of the outermost loop
module _ (counter : List ℕ) where
  -- what stands for the scalar there
  abbrev pub induction_text : Induction → ℕ → Expression
  induction_text d k = expressed (variables (counter ∷ d.name ∷ [])) (counter_form d.step (constant_at d k))

  abbrev pub form_text_or : ℕ → Option Induction → Expression → Expression
  form_text_or k None e = e
  form_text_or k (Some d) e = induction_text d k

-- all of them at once: a form has its own name and the counter alone
module _ (counter : List ℕ) (ds : List Induction) where
  abbrev pub putting : ℕ → Making
  putting k = record { expression = λ first e. form_text_or counter k (induction_in ds e) e; left = λ l. l }

  -- a statement with the forms in it, in canonical text
  abbrev pub with_induction_forms : List (List ℕ) → List Loop → ℕ → Guarded → Guarded
  with_induction_forms symbols ls k g =
      rewritten_statement (canonising (map (λ (l : Loop). l.variable) ls) symbols)
      (rewritten_statement (putting k) g)

  -- one in which such a scalar grows goes
  abbrev pub put_in : List (List ℕ) → List Loop → ℕ → Guarded → List Guarded
  put_in symbols ls k g = if grows_at ds k then [] else with_induction_forms symbols ls k g ∷ []
