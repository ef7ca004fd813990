-- Statements that read of the array that they write no element but the one that they write.
use Rattle.std.specs.Prelude.{ℕ, ℤ, pos, negsuc, Bool, true, false, not, ◌&&◌, ◌||◌, Option, Some, None, List, drop}
use Rattle.std.specs.List.{list_all}
use Rattle.std.specs.Ordering.{int_eq}
use Rattle.std.specs.Str.{bytes_eq}
use Rattle.tree.specs.Plain.{Only, Section, Subscript, Subscripts, no_subscripts, subscript, Reference}
use Rattle.subscripts.specs.declared.affine.Affine.{Affine}
use Rattle.linear_forms.specs.Linear.{Form, form_of, multiple, sum}
use Rattle.nest.specs.Bodies.{Standing, nest_statements}
use Rattle.nest.specs.Plain.{Nest}
use Rattle.dependence_graph.specs.nest_graph.References.{references_of, variables_round}

abbrev pub all_zero : List ℤ → Bool
all_zero as' = list_all (λ a. int_eq a (pos 0)) as'

abbrev pub is_no_difference : Form → Bool
is_no_difference f = all_zero f.coefficients && int_eq f.constant (pos 0)

abbrev pub has_no_symbol : List (ℕ × ℤ) → Bool
has_no_symbol ts = list_all (λ (t : ℕ × ℤ). int_eq t.1 (pos 0)) ts

-- as an affine form
abbrev pub is_zero_affine : Affine → Bool
is_zero_affine a = all_zero a.loops && (has_no_symbol a.syms && int_eq a.constant (pos 0))

-- both are linear, and their difference is 0
abbrev pub same_form : Option Form → Option Form → Bool
same_form None g = false
same_form (Some f) None = false
same_form (Some f) (Some g) = is_no_difference (sum f (multiple (negsuc 0) g))

module _ (loops symbols : List (List ℕ)) where
  abbrev pub form_of_subscript : Subscript → Option Form
  form_of_subscript (Only e) = form_of loops symbols e
  form_of_subscript (Section a b s) = None

  abbrev pub same_forms : Subscripts → Subscripts → Bool
  same_forms no_subscripts no_subscripts = true
  same_forms no_subscripts (subscript q qs) = false
  same_forms (subscript p ps) no_subscripts = false
  same_forms (subscript p ps) (subscript q qs) =
      same_form (form_of_subscript p) (form_of_subscript q) && same_forms ps qs

  -- the reference is of another name, or of the same element
  abbrev pub reads_what_is_written : Reference → Reference → Bool
  reads_what_is_written left r = not (bytes_eq r.name left.name) || same_forms r.subscripts left.subscripts

-- each reference behind the left side
abbrev pub reads_own_element : List (List ℕ) → Standing → Bool
reads_own_element symbols s =
    list_all (reads_what_is_written (variables_round s) symbols s.statement.left) (drop 1 (references_of s))

abbrev pub read_own_elements : Nest → Bool
read_own_elements n = list_all (reads_own_element n.symbols) (nest_statements n)
