-- INTEGER has the values of all symbolic constants.
use Rattle.std.proofs.Common.{◌≡◌, ◌∙◌, ap, sym, refl, ℕ, pos, Bool, true, false, cond, Result, Ok, Err, List, [], ◌∷◌}
use Rattle.std.specs.Str.{bytes_eq}
use Rattle.std.specs.List.{flat_map}
use Rattle.tree.specs.Steps.{◌>>=◌}
use Rattle.tree.specs.declared.ops.Value.{Value}
use Rattle.tree.specs.declared.ops.Value.TheVariants.{Int}
use Rattle.tree.specs.declared.ops.Fault.{Fault}
use Rattle.tree.specs.declared.ops.Fault.TheVariants.{Overflow}
use Rattle.meaning.specs.Dialect.{fortran77}
use Rattle.tree.specs.declared.width.Width.{Width}
use Rattle.meaning.specs.Store.{Store, Cell}
use Rattle.meaning.specs.Value.{is_in_range, value_of}
use Rattle.f77_grammar.specs.Statement77.{NamedConstant, Labelled}
use Rattle.f77_grammar.specs.program.Limits.{in_range, no_values, with_named_value, with_named_constant, with_constants, definitions_of, constants_of}
use Rattle.f77_names.specs.declared.constants.constants.Constants.{Constants}
use Rattle.tree.specs.Widths.{bits_of}
use Rattle.meaning.proofs.Widths.{in_range_more, narrowest, widest}
use Rattle.f77_names.specs.constants.Constants.{AreValues, value_in, value_or_nought}
use Rattle.f77_tree.specs.Resolved.{AreInRange}

abbrev HoldsInRange : (width : Width) → Store → Type 0
HoldsInRange width s = (c : Cell) → is_in_range (fortran77 width).bits (s.held c) ≡ true

value_kept : (width : Width) (x : List ℕ) (v : Value) (s : Store) → is_in_range (fortran77 width).bits v ≡ true → HoldsInRange width s → HoldsInRange width (with_named_value x (Ok v) s)
value_kept width x v s h k c = cases (bytes_eq x c.name)
  where
    cases : (b : Bool) → is_in_range (fortran77 width).bits (cond b v (s.held c)) ≡ true
    cases true = h
    cases false = k c

kept_in_range : (width : Width) (x : List ℕ) (v : Value) (s : Store) → HoldsInRange width s → HoldsInRange width (with_named_value x (in_range (fortran77 width) v) s)
kept_in_range width x v s k = cases (is_in_range (fortran77 width).bits v) refl
  where
    cases : (b : Bool) → is_in_range (fortran77 width).bits v ≡ b → HoldsInRange width (with_named_value x (cond b (Ok v) (Err Overflow)) s)
    cases true e = value_kept width x v s e k
    cases false e = k

checked_in_range : (width : Width) (x : List ℕ) (r : Result Value Fault) (s : Store) → HoldsInRange width s → HoldsInRange width (with_named_value x (r >>= in_range (fortran77 width)) s)
checked_in_range width x (Ok v) s k = kept_in_range width x v s k
checked_in_range width x (Err fault) s k = k

all_in_range : (width : Width) (ds : List NamedConstant) (s : Store) → HoldsInRange width s → HoldsInRange width (with_constants (fortran77 width) ds s)
all_in_range width [] s k = k
all_in_range width (d ∷ ds) s k = all_in_range width ds (with_named_constant (fortran77 width) d s) (checked_in_range width d.name (value_of (fortran77 width) d.value s) s k)

pub table_in_range : (width : Width) (c : Constants) (text : List Labelled) → AreValues c (constants_of (fortran77 width) text) → AreInRange c
table_in_range width c text are x =
    in_range_more (bits_of width) 63 (widest width) (value_or_nought (value_in c x))
    (ap (λ (s : Store). is_in_range (fortran77 width).bits (s.held (record { name = x; subscripts = [] }))) (sym are.same)
    ∙ all_in_range width (flat_map (λ (y : Labelled). definitions_of y.statement) text) no_values (λ c. in_range_more 31 (bits_of width) (narrowest width) (Int (pos 0)) refl) (record { name = x; subscripts = [] }))
