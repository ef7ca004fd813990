-- Bounds that are constants of INTEGER are numbers of 64 bits.
use Rattle.std.proofs.Common.{◌≡◌, ◌∙◌, ap, sym, refl, ℕ, suc, ℤ, pos, Bool, true, false, ◌&&◌, ◌||◌, cond, Result, Ok, Err, Option, Some, None, List, [], ◌∷◌, ◌++◌, map}
use Rattle.std.specs.Prelude.{is_err}
use Rattle.std.specs.Str.{bytes_eq}
use Rattle.std.specs.List.{list_any, flat_map}
use Rattle.tree.specs.Operators.{fits}
use Rattle.tree.specs.Plain.{Expression, Given, Declaration}
use Rattle.tree.specs.declared.ops.Value.{Value}
use Rattle.tree.specs.declared.ops.Value.TheVariants.{Int, Truth}
use Rattle.tree.specs.declared.ops.Fault.{Fault}
use Rattle.tree.specs.declared.ops.Fault.TheVariants.{Overflow}
use Rattle.meaning.specs.Store.{Store}
use Rattle.f77_grammar.specs.Statement77.{Entity, Labelled}
use Rattle.meaning.specs.Value.{value_of}
use Rattle.meaning.specs.Dialect.{fortran77}
use Rattle.tree.specs.declared.width.Width.{Width}
use Rattle.f77_grammar.specs.program.Text.{places_from}
use Rattle.f77_grammar.specs.program.Uses.{Use77}
use Rattle.f77_grammar.specs.program.Limits.{in_range, is_no_constant, has_bounds, bounds_among, bounds_of_name, definitions_of, entities_of, has_bad_constant}
use Rattle.f77_grammar.specs.program.Tree as tree
use Rattle.f77_grammar.specs.syntax.First.{first_index, index_from}
use Rattle.f77_names.specs.constants.Bounds.{paired, has_bad, bounds_in, lacks_value}
use Rattle.f77_names.specs.constants.Steps.{numbered, kept}
use Rattle.f77_names.specs.constants.Declarations.{narrowed, narrow, dimensions, narrow_declarations, variables_from, all_declarations}
use Rattle.tree.specs.Widths.{bits_of}
use Rattle.meaning.proofs.Widths.{fits_more, widest}

or_left : (a b : Bool) → (a || b) ≡ false → a ≡ false
or_left true b h = h
or_left false b h = refl

or_right : (a b : Bool) → (a || b) ≡ false → b ≡ false
or_right true b h = cc
or_right false b h = h

-- ---- numbers

fits_wide : (width : Width) (z : ℤ) → fits (fortran77 width).bits z ≡ true → fits 63 z ≡ true
fits_wide width z h = fits_more (bits_of width) 63 (widest width) z h

in_integer : (b : Bool) (z : ℤ) → is_err (let r : Result Value Fault = cond b (Ok (Int z)) (Err Overflow) in r) ≡ false → b ≡ true
in_integer true z h = refl
in_integer false z h = cc

narrowed_same : (width : Width) (z : ℤ) → is_err (in_range (fortran77 width) (Int z)) ≡ false → narrowed z ≡ z
narrowed_same width z h = ap (λ b. cond b z (pos 0)) (fits_wide width z (in_integer (fits (fortran77 width).bits z) z h))

-- ---- bounds

narrow_values : (width : Width) (a b : Result Value Fault) → is_err (kept width a) ≡ false → is_err (kept width b) ≡ false → narrow (tree.bounds_or_empty (paired (numbered a) (numbered b))) ≡ tree.bounds_or_empty (paired (numbered a) (numbered b))
narrow_values width (Err fault) b h k = cc
narrow_values width (Ok (Truth t)) b h k = refl
narrow_values width (Ok (Int x)) (Err fault) h k = cc
narrow_values width (Ok (Int x)) (Ok (Truth t)) h k = refl
narrow_values width (Ok (Int x)) (Ok (Int y)) h k = ap (λ (z : ℤ). let both : ℤ × ℤ = (z, narrowed y) in both) (narrowed_same width x h) ∙ ap (λ (z : ℤ). let both : ℤ × ℤ = (x, z) in both) (narrowed_same width y k)

narrow_dimensions : (width : Width) (s : Store) (bs : List (Expression × Expression)) → has_bad width s bs ≡ false → map narrow (dimensions width s bs) ≡ dimensions width s bs
narrow_dimensions width s [] h = refl
narrow_dimensions width s (b ∷ bs) h =
    let here : (is_no_constant (fortran77 width) s b.0 || is_no_constant (fortran77 width) s b.1) ≡ false = or_left (is_no_constant (fortran77 width) s b.0 || is_no_constant (fortran77 width) s b.1) (has_bad width s bs) h in
    ap (λ (d : ℤ × ℤ). d ∷ map narrow (dimensions width s bs))
    (narrow_values width (value_of (fortran77 width) b.0 s) (value_of (fortran77 width) b.1 s) (or_left (is_no_constant (fortran77 width) s b.0) (is_no_constant (fortran77 width) s b.1) here) (or_right (is_no_constant (fortran77 width) s b.0) (is_no_constant (fortran77 width) s b.1) here))
    ∙ ap (λ (ds : List (ℤ × ℤ)). tree.bounds_or_empty (paired (numbered (value_of (fortran77 width) b.0 s)) (numbered (value_of (fortran77 width) b.1 s))) ∷ ds)
    (narrow_dimensions width s bs (or_right (is_no_constant (fortran77 width) s b.0 || is_no_constant (fortran77 width) s b.1) (has_bad width s bs) h))

-- ---- the bounds of a text

any_append : (width : Width) (s : Store) (es fs : List Entity) → list_any (has_bad width s) (bounds_in (es ++ fs)) ≡ (list_any (has_bad width s) (bounds_in es) || list_any (has_bad width s) (bounds_in fs))
any_append width s [] fs = refl
any_append width s (e ∷ es) fs = ap (λ b. has_bad width s e.bounds || b) (any_append width s es fs) ∙ grouped (has_bad width s e.bounds) (list_any (has_bad width s) (bounds_in es)) (list_any (has_bad width s) (bounds_in fs))
  where
    grouped : (a b c : Bool) → (a || (b || c)) ≡ ((a || b) || c)
    grouped true b c = refl
    grouped false b c = refl

found_nowhere : (t : Bool) (i : ℕ) (rest : Option ℕ) → cond t (Some i) rest ≡ None → (t ≡ false) × (rest ≡ None)
found_nowhere true i rest h = cc
found_nowhere false i rest h = (refl, h)

neither : (a b : Bool) → a ≡ false → b ≡ false → (a || b) ≡ false
neither a b e f = rw (e, f) refl

none_bad : (width : Width) (s : Store) (before text : List Labelled) (i : ℕ) → index_from (has_bad_constant (fortran77 width) s) i (places_from before text) ≡ None
    → list_any (has_bad width s) (bounds_in (flat_map (λ (y : Labelled). entities_of y.statement) text)) ≡ false
none_bad width s before [] i h = refl
none_bad width s before (y ∷ ys) i h =
    let lacks : Bool = lacks_value s (definitions_of y.statement) in
    let here : Bool = list_any (has_bad width s) (bounds_in (entities_of y.statement)) in
    let parts = found_nowhere (lacks || here) i (index_from (has_bad_constant (fortran77 width) s) (suc i) (places_from (y ∷ before) ys)) h in
    any_append width s (entities_of y.statement) (flat_map (λ (z : Labelled). entities_of z.statement) ys)
    ∙ neither here (list_any (has_bad width s) (bounds_in (flat_map (λ (z : Labelled). entities_of z.statement) ys))) (or_right lacks here parts.0) (none_bad width s (y ∷ before) ys (suc i) parts.1)

good_among : (width : Width) (s : Store) (es : List Entity) (x : List ℕ) → list_any (has_bad width s) (bounds_in es) ≡ false → has_bad width s (bounds_among es x) ≡ false
good_among width s [] x h = refl
good_among width s (e ∷ es) x h =
    cases (has_bounds e.bounds && bytes_eq e.name x) (good_among width s es x (or_right (has_bad width s e.bounds) (list_any (has_bad width s) (bounds_in es)) h))
  where
    cases : (b : Bool) → has_bad width s (bounds_among es x) ≡ false → has_bad width s (cond b e.bounds (bounds_among es x)) ≡ false
    cases true rest = or_left (has_bad width s e.bounds) (list_any (has_bad width s) (bounds_in es)) h
    cases false rest = rest

-- ---- declarations

narrow_same : (width : Width) (us : List Use77) (s : Store) (text : List Labelled) (xs : List (List ℕ)) → first_index (has_bad_constant (fortran77 width) s) text ≡ None
    → narrow_declarations width us s text xs ≡ map (tree.declaration_of_name (fortran77 width) us s text) xs
narrow_same width us s text [] h = refl
narrow_same width us s text (x ∷ xs) h =
    ap (λ (ds : List (ℤ × ℤ)). let d : Declaration = record { name = x; kind = (tree.declaration_of_name (fortran77 width) us s text x).kind; extent = Given ds } in d ∷ narrow_declarations width us s text xs)
    (narrow_dimensions width s (bounds_of_name text x) (good_among width s (flat_map (λ (y : Labelled). entities_of y.statement) text) x (none_bad width s [] text 0 h)))
    ∙ ap (λ (ds : List Declaration). tree.declaration_of_name (fortran77 width) us s text x ∷ ds) (narrow_same width us s text xs h)

pub all_declared : (width : Width) (us : List Use77) (s t : Store) (text : List Labelled) (names : List (List ℕ)) (ds : List Declaration) → ds ≡ narrow_declarations width us t text names → s ≡ t
    → first_index (has_bad_constant (fortran77 width) s) text ≡ None → names ≡ variables_from us us → ds ≡ all_declarations width us s text
all_declared width us s t text names ds declared same good variables =
    declared ∙ ap (λ u. narrow_declarations width us u text names) (sym same) ∙ narrow_same width us s text names good ∙ ap (map (tree.declaration_of_name (fortran77 width) us s text)) variables
