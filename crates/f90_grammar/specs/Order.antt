-- The order of a program's statements and its blocks (ISO/IEC 1539:1991, sections 2.3.1 and 8.1). What is asked of a
-- statement is asked at its place: what stands before it, and what stands after it.
use Rattle.std.specs.Prelude.{◌≡◌, ℕ, zero, suc, Bool, true, false, not, ◌||◌, Option, None, Some, List, [], ◌∷◌, ◌++◌}
use Rattle.std.specs.Str.{bytes_eq}
use Rattle.std.specs.List.{list_any, list_all}
use Rattle.f90_grammar.specs.Forms as forms
use Rattle.f90_grammar.specs.Forms.{Form90}
use Rattle.f90_grammar.specs.Blocks.{Placed}

pub record Place90 : Type 0 where
  pub before : List Placed
  pub here : Placed
  pub after : List Placed

abbrev pub IsPlaceIn : List Placed → Place90 → Type 0
IsPlaceIn ps p = ps ≡ p.before ++ p.here ∷ p.after

abbrev pub is_nothing90 : List Placed → Bool
is_nothing90 [] = true
is_nothing90 (p ∷ ps) = false

-- ---- the parts of a program: PROGRAM, IMPLICIT NONE, declarations, executable statements, END

abbrev pub is_title : Form90 → Bool
is_title (forms.Program x) = true
is_title f = false

abbrev pub is_end90 : Form90 → Bool
is_end90 forms.End = true
is_end90 (forms.EndProgram x) = true
is_end90 f = false

abbrev pub is_executable90 : Form90 → Bool
is_executable90 (forms.Program x) = false
is_executable90 forms.ImplicitNone = false
is_executable90 (forms.Declare k a es) = false
is_executable90 forms.End = false
is_executable90 (forms.EndProgram x) = false
is_executable90 f = true

-- the first statement names the program, if it is PROGRAM
abbrev pub name_in : Form90 → Option (List ℕ)
name_in (forms.Program x) = Some x
name_in f = None

abbrev pub title_in_text : List Placed → Option (List ℕ)
title_in_text [] = None
title_in_text (p ∷ ps) = name_in p.form

abbrev pub bears_program_name : Option (List ℕ) → List ℕ → Bool
bears_program_name None x = false
bears_program_name (Some y) x = bytes_eq y x

-- END PROGRAM has a name that isn't the program's
abbrev pub is_misnamed : Option (List ℕ) → Form90 → Bool
is_misnamed title (forms.EndProgram (Some x)) = not (bears_program_name title x)
is_misnamed title f = false

-- PROGRAM isn't the first statement; IMPLICIT NONE doesn't stand behind PROGRAM alone; a declaration comes after an
-- executable statement
abbrev pub is_late90 : Form90 → List Placed → Bool
is_late90 (forms.Program x) before = not (is_nothing90 before)
is_late90 forms.ImplicitNone before = not (list_all (λ (p : Placed). is_title p.form) before)
is_late90 (forms.Declare k a es) before = list_any (λ (p : Placed). is_executable90 p.form) before
is_late90 f before = false

-- END isn't the last statement, or the last statement isn't END
abbrev pub ends_wrongly : Form90 → List Placed → Bool
ends_wrongly f [] = not (is_end90 f)
ends_wrongly f (p ∷ ps) = is_end90 f

-- ---- blocks

-- a block IF that has had no ELSE, one that has had its ELSE, or a loop with its variable
pub data Opened : Type 0 where
  InIf : Opened
  InElse : Opened
  InDo : List ℕ → Opened

-- what is open behind a statement, the innermost first
abbrev pub opened_by : Form90 → List Opened → List Opened
opened_by (forms.If p) os = InIf ∷ os
opened_by (forms.Do x a b c) os = InDo x ∷ os
opened_by forms.Else (InIf ∷ os) = InElse ∷ os
opened_by forms.EndIf (o ∷ os) = os
opened_by forms.EndDo (o ∷ os) = os
opened_by f os = os

abbrev pub opened_behind : List Opened → List Placed → List Opened
opened_behind os [] = os
opened_behind os (p ∷ ps) = opened_behind (opened_by p.form os) ps

-- the blocks round a place
abbrev pub blocks_round : Place90 → List Opened
blocks_round p = opened_behind [] p.before

-- END IF, ELSE IF and ELSE stand in a block IF, the latter two before its ELSE; END DO stands in a loop
abbrev pub closes_wrongly : Form90 → List Opened → Bool
closes_wrongly forms.EndIf (InIf ∷ os) = false
closes_wrongly forms.EndIf (InElse ∷ os) = false
closes_wrongly forms.EndIf os = true
closes_wrongly (forms.ElseIf p) (InIf ∷ os) = false
closes_wrongly (forms.ElseIf p) os = true
closes_wrongly forms.Else (InIf ∷ os) = false
closes_wrongly forms.Else os = true
closes_wrongly forms.EndDo (InDo x ∷ os) = false
closes_wrongly forms.EndDo os = true
closes_wrongly f os = false

abbrev pub closes_if : Form90 → (ℕ → Bool) → ℕ → Bool
closes_if forms.EndIf more zero = true
closes_if forms.EndIf more (suc n) = more n
closes_if (forms.If p) more n = more (suc n)
closes_if f more n = more n

-- A block IF before these statements has its END IF among them, looking at block IFs alone; `n` block IFs have been
-- opened since
abbrev pub has_end_if90 : List Placed → ℕ → Bool
has_end_if90 [] n = false
has_end_if90 (p ∷ ps) n = closes_if p.form (has_end_if90 ps) n

abbrev pub closes_do : Form90 → (ℕ → Bool) → ℕ → Bool
closes_do forms.EndDo more zero = true
closes_do forms.EndDo more (suc n) = more n
closes_do (forms.Do x a b c) more n = more (suc n)
closes_do f more n = more n

-- so too of a loop and its END DO
abbrev pub has_end_do : List Placed → ℕ → Bool
has_end_do [] n = false
has_end_do (p ∷ ps) n = closes_do p.form (has_end_do ps) n

abbrev pub stays_open90 : Form90 → List Placed → Bool
stays_open90 (forms.If p) after = not (has_end_if90 after 0)
stays_open90 (forms.Do x a b c) after = not (has_end_do after 0)
stays_open90 f after = false

-- ---- both

-- a statement is out of order, or a block is closed wrongly or stays open
abbrev pub is_disordered : List Placed → Place90 → Bool
is_disordered ps p =
    is_misnamed (title_in_text ps) p.here.form
    || is_late90 p.here.form p.before
    || ends_wrongly p.here.form p.after
    || closes_wrongly p.here.form (blocks_round p)
    || stays_open90 p.here.form p.after

-- there are statements, and none is out of order
pub record IsInOrder (ps : List Placed) : Type 0 where
  pub some : is_nothing90 ps ≡ false
  pub none : (p : Place90) → IsPlaceIn ps p → is_disordered ps p ≡ false
