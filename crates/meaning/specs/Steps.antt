-- The steps of a run, the run cut after some of them, and the lines of the final store.
use Rattle.std.specs.Prelude.{Option, Some, None, ℕ, ℤ, ◌==◌, Bool, ◌&&◌, not, nat_le, if◌then◌else◌, List, [], length}
use Rattle.std.specs.List.{list_any, flat_map}
use Rattle.tree.specs.Plain.{Program, Declaration}
use Rattle.tree.specs.declared.width.Width.{Width}
use Rattle.meaning.specs.Store.{Store, cells_of}
use Rattle.meaning.specs.Texts.{final_line}
use Rattle.meaning.specs.Run.{State, run}
use Rattle.meaning.specs.Sequential.{sequential_run}
use Rattle.meaning.specs.Dialect.{fortran77}

abbrev pub steps_of : Width → Program → List ℕ → ℕ
steps_of w p input = (sequential_run w p input).steps

-- the run cut before step n + 1
abbrev pub cut_at : Width → ℕ → Program → List ℕ → State
cut_at w n p input = run (fortran77 w) (Some n) p input

-- ---- the final store

-- a name of the source: at most 6 bytes, without underscore (ANSI X3.9-1978, section 2.2)
abbrev pub is_source_name : List ℕ → Bool
is_source_name x = nat_le (length x) 6 && not (list_any (λ c. c == 95) x)

-- one line for each cell of the name
abbrev pub lines_of_cells : List ℕ → Option (List (ℤ × ℤ)) → Store → List ℕ
lines_of_cells x None s = []
lines_of_cells x (Some bs) s = flat_map (λ c. final_line c (s.held c)) (cells_of x bs)

abbrev pub lines_of_name : List ℕ → Store → List ℕ
lines_of_name x s = if is_source_name x then lines_of_cells x (s.bounds x) s else []

-- the lines of all names of the source, in the order of their declarations, which is the byte order of names
abbrev pub final_lines : Program → Store → List ℕ
final_lines p s = flat_map (λ (d : Declaration). lines_of_name d.name s) p.declarations
