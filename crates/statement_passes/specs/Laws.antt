-- Laws of statements that were mapped, and of symbols that come in.
use Rattle.std.specs.Prelude.{◌≡◌, ℕ, zero, suc, ◌+◌, ◌≤◌, ℤ, pos, false, List, [], ◌∷◌, insert, length}
use Rattle.tree.specs.Plain.{Expression}
use Rattle.meaning.specs.Names.{IsInByteOrder, is_among}
use Rattle.subscripts.specs.Shapes.{IsForm}
use Rattle.subscripts.specs.declared.affine.Affine.{Affine}
use Rattle.linear_forms.specs.Affines.{IsAffineOf}
use Rattle.linear_forms.specs.Linear.{Form, is_limited, number_at}
use Rattle.linear_forms.specs.Texts.{text_of}
use Rattle.nest.specs.Blocks.{statement_of_part}
use Rattle.nest.specs.Plain.{Guarded, Loop, Nest, Part}
use Rattle.nest.specs.declared.parts.Trip.{Trip}
use Rattle.nest_order.specs.shapes.Shapes.{IsPlain}
use Rattle.last_values.specs.normal_forms.Texts.{trip_text}
use Rattle.statement_passes.specs.Passes.{mapped_nest}
use Rattle.statement_passes.specs.Shifted.{shifted_part, with_nest_symbol}
use Rattle.statement_passes.specs.Standings.{IsLoop, IsMappedFrom, IsShiftedFrom}
use Rattle.statement_passes.specs.Symbols.{place_among, shifted, shifted_trip, with_name_placed}

-- ---- nests

-- loops stay, and in their places stands what the pass makes of the statements
abbrev pub MappedNestHas : Type 0
MappedNestHas = (each : List Loop → ℕ → Guarded → List Guarded) (n : Nest) → IsLoop n.body → IsPlain n.body
    → IsMappedFrom each n (mapped_nest each n)

-- statements stay, and loops but for the places in their trips; it is run as it was
abbrev pub SymbolLeavesNest : Type 0
SymbolLeavesNest = (n : Nest) (x : List ℕ) → IsPlain n.body
    → IsShiftedFrom (place_among n.symbols x) n (with_nest_symbol n x)

abbrev pub ShiftedRunsAlike : Type 0
ShiftedRunsAlike = (line at : ℕ) (p : Part) → statement_of_part line (shifted_part at p) ≡ statement_of_part line p

-- ---- names

-- a name that wasn't there comes in at its place in byte order
abbrev pub NamesStayInOrder : Type 0
NamesStayInOrder = (xs : List (List ℕ)) (x : List ℕ) → IsInByteOrder xs → is_among xs x ≡ false
    → IsInByteOrder (with_name_placed xs x)

-- ---- forms

-- by the new list a form is written as it was, and so is a trip
abbrev pub ShiftedHasText : Type 0
ShiftedHasText = (loops symbols : List (List ℕ)) (trips : List Expression) (x : List ℕ) (a : Affine)
    → text_of loops (with_name_placed symbols x) trips (shifted (place_among symbols x) a)
    ≡ text_of loops symbols trips a

abbrev pub ShiftedTripHasText : Type 0
ShiftedTripHasText = (loops symbols : List (List ℕ)) (trips : List Expression) (x : List ℕ) (t : Trip)
    → trip_text loops (with_name_placed symbols x) trips (shifted_trip (place_among symbols x) t)
    ≡ trip_text loops symbols trips t

-- it stays a form, with symbols in rising order
abbrev pub ShiftedIsForm : Type 0
ShiftedIsForm = (depth at : ℕ) (a : Affine) → IsForm depth a → IsForm depth (shifted at a)

-- coefficients with 0 at a place; those past the end are 0
abbrev pub with_zero : ℕ → List ℤ → List ℤ
with_zero k [] = []
with_zero zero (c ∷ cs) = pos 0 ∷ c ∷ cs
with_zero (suc k) (c ∷ cs) = c ∷ with_zero k cs

abbrev pub form_with_zero : ℕ → Form → Form
form_with_zero k f = record f { coefficients = with_zero k f.coefficients }

-- it is a form of the new list, within the limits where it was before
pub record IsAsBefore (n at : ℕ) (f : Form) (a : Affine) : Type 0 where
  pub affine : IsAffineOf n (form_with_zero (n + at) f) (shifted at a)
  pub limited : is_limited n (form_with_zero (n + at) f) ≡ is_limited n f
  pub few : length (form_with_zero (n + at) f).coefficients ≤ length f.coefficients + 1

abbrev pub ShiftedIsAffine : Type 0
ShiftedIsAffine = (n at : ℕ) (f : Form) (a : Affine) → IsAffineOf n f a → IsAsBefore n at f a

-- and the same number, whatever the new symbol is
abbrev pub ShiftedHasNumber : Type 0
ShiftedHasNumber = (k : ℕ) (f : Form) (xs : List ℤ) (v : ℤ) → k ≤ length xs
    → number_at (form_with_zero k f) (insert xs k v) ≡ number_at f xs
