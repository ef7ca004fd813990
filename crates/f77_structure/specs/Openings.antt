-- What is open at a statement: block IFs and loops, the innermost first.
use Rattle.std.specs.Prelude.{ℕ, zero, suc, ◌+◌, nat_lt, nat_le, Bool, true, false, not, ◌||◌, Option, None, Some}
use Rattle.std.specs.Prelude.{if◌then◌else◌, List, [], ◌∷◌, length, reverse}
use Rattle.f77_grammar.specs.Statement77.{Labelled}
use Rattle.f77_grammar.specs.program.Text.{bears}
use Rattle.f77_grammar.specs.program.Nesting.{is_do_of}
use Rattle.f77_structure.specs.declared.forms.Form.{Form}
use Rattle.f77_structure.specs.declared.forms.Form.TheVariants.{If, ElseIf, Else, EndIf, Do, EndDo}
use Rattle.f77_structure.specs.declared.openings.OpenIf.{OpenIf}
use Rattle.f77_structure.specs.declared.openings.OpenLoop.{OpenLoop}
use Rattle.f77_structure.specs.declared.openings.Openings.{Openings}
use Rattle.f77_structure.specs.Forms.{form_of, is_no_end_form}

abbrev pub frames : Openings → List OpenIf
frames o = reverse o.ifs.items

abbrev pub loops_in : Openings → List OpenLoop
loops_in o = reverse o.loops.items

abbrev pub first_of : {A : Type 0} → List A → Option A
first_of [] = None
first_of (x ∷ xs) = Some x

abbrev pub tail_of : {A : Type 0} → List A → List A
tail_of [] = []
tail_of (x ∷ xs) = xs

abbrev pub nearest_at : List OpenLoop → Option ℕ
nearest_at [] = None
nearest_at (e ∷ es) = Some e.at

-- the innermost block IF has had an ELSE
abbrev pub marked : List OpenIf → List OpenIf
marked [] = []
marked (f ∷ fs) = record { at = f.at; had_else = true } ∷ fs

-- without the loops at the front that end before the j-th statement
abbrev pub trimmed : ℕ → List OpenLoop → List OpenLoop
trimmed j [] = []
trimmed j (e ∷ es) = if nat_lt e.end j then trimmed j es else e ∷ es

-- ---- behind a statement that stands behind i others

abbrev pub next_frames : Form → ℕ → List OpenIf → List OpenIf
next_frames If i fs = record { at = i; had_else = false } ∷ fs
next_frames EndIf i fs = tail_of fs
next_frames Else i fs = marked fs
next_frames _ i fs = fs

abbrev pub opened : ℕ → Option ℕ → List OpenLoop → List OpenLoop
opened i None es = es
opened i (Some e) es = record { at = i; end = e } ∷ es

-- the place of a label, if there is a label
abbrev pub under : Option ℕ → (ℕ → Option ℕ) → Option ℕ
under None places = None
under (Some n) places = places n

-- where the loop ends that a statement begins
abbrev pub end_of : Form → (ℕ → Option ℕ) → Option ℕ
end_of (Do label) ends = under label ends
end_of _ ends = None

abbrev pub next_loops : Form → (ℕ → Option ℕ) → ℕ → List OpenLoop → List OpenLoop
next_loops f ends i es = opened i (end_of f ends) (trimmed (i + 1) es)

-- ---- behind the statements of a list, the nearest first; `ends` gives the place of the last statement with a label

abbrev pub frames_of : List Labelled → List OpenIf
frames_of [] = []
frames_of (x ∷ xs) = next_frames (form_of x.statement) (length xs) (frames_of xs)

abbrev pub loops_of : (ℕ → Option ℕ) → List Labelled → List OpenLoop
loops_of ends [] = []
loops_of ends (x ∷ xs) = next_loops (form_of x.statement) ends (length xs) (loops_of ends xs)

-- the place of the last statement with the label
abbrev pub last_with : List Labelled → ℕ → Option ℕ
last_with [] n = None
last_with (x ∷ xs) n = if bears n x then Some (length xs) else last_with xs n

-- the place of the first DO with the label
abbrev pub or_here : Option ℕ → Bool → ℕ → Option ℕ
or_here (Some k) b i = Some k
or_here None true i = Some i
or_here None false i = None

abbrev pub first_do : List Labelled → ℕ → Option ℕ
first_do [] n = None
first_do (x ∷ xs) n = or_here (first_do xs n) (is_do_of n x.statement) (length xs)

-- ---- what is asked of them

-- where the n-th block IF from the innermost one begins
abbrev pub place_in : List OpenIf → ℕ → Option ℕ
place_in [] n = None
place_in (f ∷ fs) zero = Some f.at
place_in (f ∷ fs) (suc n) = place_in fs n

abbrev pub had_else_in : List OpenIf → ℕ → Bool
had_else_in [] n = false
had_else_in (f ∷ fs) zero = f.had_else
had_else_in (f ∷ fs) (suc n) = had_else_in fs n

-- there is a place, and it is behind `at`
abbrev pub is_behind : Option ℕ → ℕ → Bool
is_behind None at = false
is_behind (Some k) at = nat_lt at k

-- there is a place, and it is `at` or behind it
abbrev pub is_from : ℕ → Option ℕ → Bool
is_from at None = false
is_from at (Some k) = nat_le at k

-- ---- what is wrong at a statement, by the innermost block IF and the place of the last loop opened

-- there is no block IF for an ELSE, it has had one, or a loop is open in it
abbrev pub lacks_if : Option OpenIf → Option ℕ → Bool
lacks_if None near = true
lacks_if (Some f) near = f.had_else || is_behind near f.at

-- there is no loop for an END DO, of which the first begins behind k statements, or one was opened behind that
abbrev pub lacks_loop : Option ℕ → Option ℕ → Bool
lacks_loop None near = true
lacks_loop (Some k) near = is_behind near k

abbrev pub refuses : Form → Option ℕ → Option OpenIf → Option ℕ → Bool
refuses ElseIf first f near = lacks_if f near
refuses Else first f near = lacks_if f near
refuses EndDo first f near = lacks_loop first near
refuses _ first f near = false

-- there is no block IF for an END IF, or a loop is open in it
abbrev pub is_unpaired : Option OpenIf → Option ℕ → Bool
is_unpaired None near = true
is_unpaired (Some f) near = is_behind near f.at

-- a DO label doesn't come later, or END IF closes wrongly
abbrev pub closes_wrongly : Form → Bool → Option OpenIf → Option ℕ → Bool
closes_wrongly (Do label) later f near = not later
closes_wrongly EndIf later f near = is_unpaired f near
closes_wrongly _ later f near = false

abbrev pub begins_behind : Option OpenIf → ℕ → Bool
begins_behind None k = false
begins_behind (Some f) k = nat_lt k f.at

-- loops of which the first begins behind k statements end wrongly at a statement
abbrev pub ends_wrongly : Option ℕ → Form → Option OpenIf → Option ℕ → Bool
ends_wrongly None form f near = false
ends_wrongly (Some k) form f near = is_no_end_form form || (begins_behind f k || is_behind near k)

-- all this at a statement that stands behind `at` others
abbrev pub has_wrong_closer : Form → ℕ → Option ℕ → Option ℕ → Option OpenIf → List OpenLoop → Bool
has_wrong_closer form at end first f es =
    refuses form first f (nearest_at (trimmed at es))
    || (closes_wrongly form (is_from (at + 1) end) f (nearest_at (trimmed (at + 1) (trimmed at es)))
    || ends_wrongly first form f (nearest_at (trimmed (at + 1) (trimmed at es))))
