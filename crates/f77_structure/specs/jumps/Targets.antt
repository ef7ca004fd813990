-- Statements as what a GO TO leads to: the block or loop round each, by where it was opened.
use Rattle.std.specs.Prelude.{ℕ, zero, suc, max, Bool, true, false, ◌||◌, Option, None, Some, if◌then◌else◌, List, []}
use Rattle.std.specs.Prelude.{◌∷◌, length, reverse}
use Rattle.f77_grammar.specs.Statement77.{Labelled}
use Rattle.f77_grammar.specs.program.Text.{bears}
use Rattle.f77_structure.specs.declared.forms.Form.{Form}
use Rattle.f77_structure.specs.declared.forms.Form.TheVariants.{Declaration, Go, If, ElseIf, Else, EndIf}
use Rattle.f77_structure.specs.Forms.{form_of}
use Rattle.f77_structure.specs.Openings.{first_of, tail_of, nearest_at, trimmed, loops_of, is_behind}
use Rattle.f77_structure.specs.declared.jumps.targets.Arms.{Arms}
use Rattle.f77_structure.specs.declared.jumps.targets.Target.{Target}

-- ---- the places of the arms that are open, the innermost first: of each block IF the last one

abbrev pub arms_in : Arms → List ℕ
arms_in a = reverse a.places.items

-- behind a statement that stands behind i others
abbrev pub next_arms : Form → ℕ → List ℕ → List ℕ
next_arms If i as' = i ∷ as'
next_arms ElseIf i as' = i ∷ tail_of as'
next_arms Else i as' = i ∷ tail_of as'
next_arms EndIf i as' = tail_of as'
next_arms _ i as' = as'

-- behind the statements of a list, the nearest first
abbrev pub arms_of : List Labelled → List ℕ
arms_of [] = []
arms_of (x ∷ xs) = next_arms (form_of x.statement) (length xs) (arms_of xs)

-- where the n-th arm from the innermost one begins
abbrev pub arm_at : List ℕ → ℕ → Option ℕ
arm_at [] n = None
arm_at (a ∷ as') zero = Some a
arm_at (a ∷ as') (suc n) = arm_at as' n

-- ---- what a GO TO leads to

-- the later of two places
abbrev pub later : Option ℕ → Option ℕ → Option ℕ
later None b = b
later (Some i) None = Some i
later (Some i) (Some j) = Some (max i j)

-- ELSE IF, ELSE, END IF or a declaration
abbrev pub is_no_target_form : Form → Bool
is_no_target_form ElseIf = true
is_no_target_form Else = true
is_no_target_form EndIf = true
is_no_target_form Declaration = true
is_no_target_form _ = false

-- the statement x, which stands behind the others; `ends` gives the place of the last statement with a label
abbrev pub target_of : (ℕ → Option ℕ) → List Labelled → Labelled → Target
target_of ends before x =
    record {
      inside = later (first_of (arms_of before)) (nearest_at (trimmed (length before) (loops_of ends before)));
      refused = is_no_target_form (form_of x.statement);
    }

-- each of the statements, which stand behind others
abbrev pub targets_of : (ℕ → Option ℕ) → List Labelled → List Labelled → List Target
targets_of ends before [] = []
targets_of ends before (x ∷ xs) = target_of ends before x ∷ targets_of ends (x ∷ before) xs

-- the first of them that bears the label
abbrev pub first_target : (ℕ → Option ℕ) → List Labelled → List Labelled → ℕ → Option Target
first_target ends before [] n = None
first_target ends before (x ∷ xs) n =
    if bears n x then Some (target_of ends before x) else first_target ends (x ∷ before) xs n

-- a GO TO behind `at` statements leads wrongly to it: into a block or loop, or to nothing that may be led to
abbrev pub refuses : Target → ℕ → Bool
refuses t at = is_behind t.inside at || t.refused

abbrev pub leads_wrongly_to : Option Target → ℕ → Bool
leads_wrongly_to None at = true
leads_wrongly_to (Some t) at = refuses t at

-- a statement of this form is a GO TO that leads wrongly; `targets` gives what the labels behind it stand at
abbrev pub jumps_wrongly_to : Form → (ℕ → Option Target) → ℕ → Bool
jumps_wrongly_to (Go n) targets at = leads_wrongly_to (targets n) at
jumps_wrongly_to _ targets at = false
