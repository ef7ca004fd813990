-- The limits that this product sets to texts and programs.
use Rattle.std.specs.Prelude.{ℕ, ◌^◌, ◌-◌}

-- ---- texts

-- bytes of a FORTRAN 77 source
abbrev pub source_bytes : ℕ
source_bytes = 2 ^ 20

-- bytes of a deck with a FORTRAN 77 source
abbrev pub deck_bytes : ℕ
deck_bytes = 2 ^ 24

-- bytes of a deck with a Fortran 90 program
abbrev pub deck_bytes90 : ℕ
deck_bytes90 = 2 ^ 28

-- continuation lines of a FORTRAN 77 statement (ANSI X3.9-1978, 3.2.3)
abbrev pub continuation_lines : ℕ
continuation_lines = 19

-- the greatest literal
abbrev pub greatest_literal : ℕ
greatest_literal = 2 ^ 127 - 1

-- ---- programs

-- how deep an expression may be
abbrev pub expression_depth77 : ℕ
expression_depth77 = 400

abbrev pub expression_depth90 : ℕ
expression_depth90 = 1000

-- how deep blocks and loops may stand in each other
abbrev pub block_depth77 : ℕ
block_depth77 = 100

abbrev pub block_depth90 : ℕ
block_depth90 = 300

-- names of variables and symbolic constants
abbrev pub program_names77 : ℕ
program_names77 = 1000

abbrev pub program_names90 : ℕ
program_names90 = 100000

-- elements of all arrays that are declared
abbrev pub most_array_elements : ℕ
most_array_elements = 2 ^ 22

-- dimensions of an array (ANSI X3.9-1978, 5.1.1)
abbrev pub array_dimensions : ℕ
array_dimensions = 7

-- ---- nests that are vectorised

-- loops that stand in each other
abbrev pub nest_depth : ℕ
nest_depth = 7

abbrev pub most_nest_statements : ℕ
most_nest_statements = 200

-- occurrences of variables other than DO variables
abbrev pub nest_references : ℕ
nest_references = 400

-- the size of a linear form's coefficients and of its constant
abbrev pub form_coefficient : ℕ
form_coefficient = 2 ^ 40
