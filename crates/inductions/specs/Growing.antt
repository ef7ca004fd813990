-- Statements in which a scalar grows by a constant (Allen and Kennedy, "Optimizing Compilers for Modern Architectures",
-- section 4.5, auxiliary induction variables).
use Rattle.std.specs.Prelude.{ℕ, ◌+◌, Option, Some, None, is_none, ℤ, pos, neg_ℤ, Bool, true, false, ◌&&◌}
use Rattle.std.specs.Prelude.{if◌then◌else◌, List, [], ◌∷◌}
use Rattle.std.specs.Option.{option_and_then, option_map}
use Rattle.std.specs.Str.{bytes_eq}
use Rattle.tree.specs.Plain.{Expression, Binary, Subscripts, no_subscripts, subscript}
use Rattle.tree.specs.declared.ops.Op.{Op}
use Rattle.tree.specs.declared.ops.Op.TheVariants.{Add, Sub}
use Rattle.rewrite.specs.Substituting.{is_variable_alone}
use Rattle.linear_forms.specs.Linear.{Form, constant_of, is_limited}
use Rattle.nest.specs.Bodies.{Standing}
use Rattle.nest.specs.Plain.{Guarded, Loop}

-- ---- the forms of the scalar over the counter of the outermost loop

-- c times the counter, the scalar as it was before the nest, and a constant
abbrev pub counter_form : ℤ → ℤ → Form
counter_form c k = record { coefficients = c ∷ pos 1 ∷ []; constant = k }

-- c * i + x - c before the statement in which it grows by c, and c * i + x behind it
abbrev pub form_before : ℤ → Form
form_before c = counter_form c (neg_ℤ c)

abbrev pub form_behind : ℤ → Form
form_behind c = counter_form c (pos 0)

-- the step, if both forms are within the limits
abbrev pub limited_step : ℤ → Option ℤ
limited_step c = if is_limited 1 (form_before c) && is_limited 1 (form_behind c) then Some c else None

-- ---- what it grows by

module _ (x : List ℕ) where
  abbrev pub step_by : Op → Expression → Expression → Option ℤ
  step_by Add a b =
      if is_variable_alone x a then constant_of b else if is_variable_alone x b then constant_of a else None
  step_by Sub a b = if is_variable_alone x a then option_map neg_ℤ (constant_of b) else None
  step_by _ a b = None

  -- of x + c, c + x or x - c with a constant c
  abbrev pub step_in : Expression → Option ℤ
  step_in (Binary o a b) = step_by o a b
  step_in _ = None

abbrev pub is_bare_name : Subscripts → Bool
is_bare_name no_subscripts = true
is_bare_name (subscript p ps) = false

-- of an unguarded assignment of x
abbrev pub growth_of : List ℕ → Guarded → Option ℤ
growth_of x g =
    if is_none g.guard && is_bare_name g.left.subscripts then option_and_then limited_step (step_in x g.right) else None

-- one that stands in the outermost loop's own body
abbrev pub is_outermost : List Loop → Bool
is_outermost [] = false
is_outermost (l ∷ []) = true
is_outermost (l ∷ m ∷ ls) = false

abbrev pub step_at : List ℕ → Standing → Option ℤ
step_at x s = if is_outermost s.loops then growth_of x s.statement else None

-- ---- the only statement that writes it

abbrev pub writes_scalar : List ℕ → Standing → Bool
writes_scalar x s = bytes_eq s.statement.left.name x

-- the numbers of those statements that write x, of which the first has the number k
abbrev pub writes_from : ℕ → List Standing → List ℕ → List ℕ
writes_from k [] x = []
writes_from k (s ∷ ss) x = if writes_scalar x s then k ∷ writes_from (k + 1) ss x else writes_from (k + 1) ss x

abbrev pub one_number : List ℕ → Option ℕ
one_number [] = None
one_number (k ∷ []) = Some k
one_number (k ∷ l ∷ ks) = None

abbrev pub only_write : List Standing → List ℕ → Option ℕ
only_write ss x = one_number (writes_from 0 ss x)
