-- How many blocks are open.
use Rattle.std.specs.Prelude.{ℕ, suc, pred, nat_le, Bool, true, false, Option, None, Some, List, [], ◌∷◌, ◌++◌, length}
use Rattle.std.specs.List.{filter}
use Rattle.f77_grammar.specs.Statement77.{Labelled}
use Rattle.f77_structure.specs.declared.forms.Form.{Form}
use Rattle.f77_structure.specs.declared.forms.Form.TheVariants.{LogicalIf, If, EndIf, Do}
use Rattle.f77_structure.specs.Forms.{form_of}
use Rattle.f77_structure.specs.Openings.{end_of, is_from}

-- a block IF, a logical IF or a loop
abbrev pub opens_form : Form → Bool
opens_form LogicalIf = true
opens_form If = true
opens_form (Do label) = true
opens_form _ = false

-- ---- block IFs

-- so many are open behind a statement, where n were open before it
abbrev pub depth_with : Form → ℕ → ℕ
depth_with If n = suc n
depth_with EndIf n = pred n
depth_with _ n = n

-- so many are open behind statements, which stand with the nearest first
abbrev pub depth : List Labelled → ℕ
depth [] = 0
depth (x ∷ xs) = depth_with (form_of x.statement) (depth xs)

-- ---- loops; `ends` gives the place of the last statement with a label

-- the statement begins a loop that ends at the j-th statement or later
abbrev pub lasts : (ℕ → Option ℕ) → ℕ → Labelled → Bool
lasts ends j x = is_from j (end_of (form_of x.statement) ends)

-- so many of these loops end at the j-th statement or later
abbrev pub lasting : ℕ → List ℕ → ℕ
lasting j es = length (filter (nat_le j) es)

abbrev pub with_end : List ℕ → Option ℕ → List ℕ
with_end es None = es
with_end es (Some e) = es ++ e ∷ []
