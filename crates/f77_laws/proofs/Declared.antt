-- The declarations of the tree.
use Rattle.std.proofs.Common.{◌≡◌, ℕ, ◌<◌, ◌≤◌, Bool, true, false, not, ◌&&◌, ◌||◌, cond, is_err, ℤ, pos, negsuc, ◌≤ℤ◌, int_lt, is_none, T, le→leb, List, [], ◌∷◌, map, length, sum, refl, sym, ap, subst, ◌∙◌, arith, Contains, filter, flat_map, ltb-true, ltb-false, zero, suc, neg_ℤ, ◌^◌}
use lib.Dec.{lt→ltb}
use lib.Signed.{lt_z_no, mag, ◌<ℤ◌}
use Rattle.std.proofs.lemmas.Nat.{pow_pos}
use Rattle.std.specs.Prelude.{Result, Ok, Err}
use Rattle.std.specs.List.{AllByRecursion, list_any}
use Rattle.std.specs.Str.{bytes_eq}
use Rattle.std.proofs.lemmas.List.{length-map}
use Rattle.tree.specs.Steps.{◌>>=◌}
use Rattle.tree.specs.Operators.{fits, as_number}
use Rattle.tree.specs.declared.ops.Kind.TheVariants.{Integer}
use Rattle.tree.specs.declared.ops.Fault.{Fault}
use Rattle.tree.specs.declared.ops.Fault.TheVariants.{Overflow}
use Rattle.tree.specs.declared.ops.Value.{Value}
use Rattle.tree.specs.declared.ops.Value.TheVariants.{Int, Truth}
use Rattle.tree.specs.Plain.{Expression, Declaration}
use Rattle.meaning.specs.Store.{Store}
use Rattle.meaning.specs.Value.{value_of, number_of, is_in_range}
use Rattle.meaning.specs.Dialect.{Dialect}
use Rattle.f77_grammar.specs.Statement77.{Entity, NamedConstant, Labelled, Statement77, Declare, Dimension}
use Rattle.f77_grammar.specs.program.Text.{places, places_from}
use Rattle.meaning.specs.Names.{IsInByteOrder}
use Rattle.meaning.specs.SymbolicNames.{IsSymbolicName}
use Rattle.meaning.specs.Typed77.{dimensions}
use Rattle.f77_grammar.specs.program.Uses.{Use77, uses77_of, uses_in_text, is_constant_name, is_variable}
use Rattle.f77_grammar.specs.program.Kinds.{has_kind, are_integer_bounds, has_integer_bounds, suits, calls_hidden}
use Rattle.f77_grammar.specs.program.Limits.{in_range, constants_of, dimension_of, definitions_of, entities_of, has_bounds, bounds_among, bounds_of_name, bounds_declared, elements, declared_elements, counted_names, is_reversed, is_no_constant}
use Rattle.meaning.specs.Profile77.{IsDimension, IsDeclaration, AreDeclarations}
use Rattle.meaning.specs.Extents.{array_elements}
use Rattle.f77_grammar.specs.program.Tree.{bounds_or_empty, program_variables_of, declaration_of_name}
use Rattle.f77_laws.specs.Source.{IsSourceEntity, IsSourceStatement, IsSourceCard}
use Rattle.f77_laws.proofs.Lists.{left_true, right_true, left_false, right_false, affirmed, all_both, all_at, all_of, from_flat, in_flat}
use Rattle.f77_laws.proofs.Places.{onto, text_onto, LastPlace}
use Rattle.f77_laws.proofs.Sound.{IsRight, HasValues}
use Rattle.f77_laws.proofs.Variables.{variables_in_order, variable_used, kept_by, named_by}
use Rattle.f77_laws.proofs.Counting.{fewer, once_has, elements_are, turned_elements, names_of_text}
use Rattle.f77_laws.proofs.ConstantValues.{KeepsKinds, value_kind}
use Rattle.f77_laws.proofs.SymbolicNames.{IsSymbolic, names_in_text}
use Rattle.f77_laws.proofs.Known.{keeps_kinds, declarations}

-- ---- one dimension

-- below a power p, or at least its negative
within_power : (p : ℕ) (z : ℤ) → 0 < p → mag z < p → (neg_ℤ (pos p) ≤ℤ z) × (z <ℤ pos p)
within_power zero z o h = absurd (omega (arith, o))
within_power (suc p) (pos n) o h = (record { le = tt }, record { lt = lt→ltb n (suc p) h })
within_power (suc p) (negsuc n) o h = (record { le = le→leb n p (omega (arith, h)) }, record { lt = tt })

in_integers : (bits : ℕ) (z : ℤ) → fits bits z ≡ true → (neg_ℤ (pos (2 ^ bits)) ≤ℤ z) × (z <ℤ pos (2 ^ bits))
in_integers bits (pos n) h = within_power (2 ^ bits) (pos n) (pow_pos bits) (ltb-true n (2 ^ bits) h)
in_integers bits (negsuc n) h = within_power (2 ^ bits) (negsuc n) (pow_pos bits) (ltb-true n (2 ^ bits) h)

not_less : (a b : ℤ) → int_lt b a ≡ false → a ≤ℤ b
not_less a b h = lt_z_no (by (int_lt b a) h)
  where
    by : (t : Bool) → t ≡ false → T (not t)
    by true e = absurd cc
    by false e = tt

-- a bound has a number in the range of INTEGER
record IsBound (d : Dialect) (s : Store) (e : Expression) : Type 0 where
  number : ℤ
  is : number_of d e s ≡ Ok number
  fits' : fits d.bits number ≡ true

module _ (d : Dialect) (us : List Use77) (s : Store) (keeps : KeepsKinds d us s) where
  bound : (e : Expression) → has_kind us e Integer ≡ true → is_no_constant d s e ≡ false → IsBound d s e
  bound e k h = by (value_of d e s) refl h
    where
      tested : (v : Value) (b : Bool) → value_of d e s ≡ Ok v → is_in_range d.bits v ≡ b → is_err (cond b (Ok v) (Err Overflow)) ≡ false → IsBound d s e
      tested v false f g h = absurd cc
      tested (Int z) true f g h = record { number = z; is = ap (λ r. r >>= λ x. as_number x) f; fits' = g }
      tested (Truth b) true f g h = absurd (let w = value_kind d us s keeps e Integer (Truth b) k f in cc)

      by : (r : Result Value Fault) → value_of d e s ≡ r → is_err (r >>= λ v. in_range d v) ≡ false → IsBound d s e
      by (Err f) e h = absurd cc
      by (Ok v) e h = tested v (is_in_range d.bits v) e refl h

  dimension : (b : Expression × Expression) → has_kind us b.0 Integer ≡ true → has_kind us b.1 Integer ≡ true → is_no_constant d s b.0 ≡ false → is_no_constant d s b.1 ≡ false → is_reversed (dimension_of d s b) ≡ false
      → IsDimension d (bounds_or_empty (dimension_of d s b))
  dimension b k l h g o =
      let x = bound b.0 k h in
      let y = bound b.1 l g in
      let is : dimension_of d s b ≡ Ok (x.number, y.number) = ap (λ r. r >>= λ lower. number_of d b.1 s >>= λ upper. Ok (lower, upper)) x.is ∙ ap (λ r. r >>= λ upper. Ok (x.number, upper)) y.is in
      subst (λ (r : Result (ℤ × ℤ) Fault). IsDimension d (bounds_or_empty r)) (sym is)
      (record {
        above = (in_integers d.bits x.number x.fits').0;
        ordered = not_less x.number y.number (sym (ap is_reversed is) ∙ o);
        below = (in_integers d.bits y.number y.fits').1;
      })

  -- ---- the bounds of a statement

  abbrev AreDimensions : List (Expression × Expression) → Type 0
  AreDimensions bs = AllByRecursion (IsDimension d) (map (λ b. bounds_or_empty (dimension_of d s b)) bs)

  all_dimensions : (bs : List (Expression × Expression)) → are_integer_bounds us bs ≡ true → list_any (λ b. is_no_constant d s b.0 || is_no_constant d s b.1) bs ≡ false
      → list_any (λ b. is_reversed (dimension_of d s b)) bs ≡ false → AreDimensions bs
  all_dimensions [] k h o = tt
  all_dimensions (b ∷ bs) k h o =
      let kinds = left_true (has_kind us b.0 Integer && has_kind us b.1 Integer) (are_integer_bounds us bs) k in
      let here' = left_false (is_no_constant d s b.0 || is_no_constant d s b.1) (list_any (λ c. is_no_constant d s c.0 || is_no_constant d s c.1) bs) h in (
        dimension b (left_true (has_kind us b.0 Integer) (has_kind us b.1 Integer) kinds) (right_true (has_kind us b.0 Integer) (has_kind us b.1 Integer) kinds)
            (left_false (is_no_constant d s b.0) (is_no_constant d s b.1) here') (right_false (is_no_constant d s b.0) (is_no_constant d s b.1) here')
            (left_false (is_reversed (dimension_of d s b)) (list_any (λ c. is_reversed (dimension_of d s c)) bs) o),
        all_dimensions bs (right_true (has_kind us b.0 Integer && has_kind us b.1 Integer) (are_integer_bounds us bs) k)
            (right_false (is_no_constant d s b.0 || is_no_constant d s b.1) (list_any (λ c. is_no_constant d s c.0 || is_no_constant d s c.1) bs) h)
            (right_false (is_reversed (dimension_of d s b)) (list_any (λ c. is_reversed (dimension_of d s c)) bs) o),
      )

  record IsArray (bs : List (Expression × Expression)) : Type 0 where
    few : length bs ≤ 7
    all : AreDimensions bs

  abbrev AreArrays : List Entity → Type 0
  AreArrays es = AllByRecursion (λ (e : Entity). IsArray e.bounds) es

  arrays : (es : List Entity) → AllByRecursion IsSourceEntity es → has_integer_bounds us es ≡ true
      → list_any (λ bs. list_any (λ b. is_no_constant d s b.0 || is_no_constant d s b.1) bs) (map (λ (e : Entity). e.bounds) es) ≡ false
      → list_any (λ bs. list_any (λ b. is_reversed (dimension_of d s b)) bs) (map (λ (e : Entity). e.bounds) es) ≡ false → AreArrays es
  arrays [] q k h o = tt
  arrays (e ∷ es) q k h o = (
    record {
      few = q.0.few;
      all = all_dimensions e.bounds (left_true (are_integer_bounds us e.bounds) (has_integer_bounds us es) k)
          (left_false (list_any (λ b. is_no_constant d s b.0 || is_no_constant d s b.1) e.bounds) (list_any (λ bs. list_any (λ b. is_no_constant d s b.0 || is_no_constant d s b.1) bs) (map (λ (f : Entity). f.bounds) es)) h)
          (left_false (list_any (λ b. is_reversed (dimension_of d s b)) e.bounds) (list_any (λ bs. list_any (λ b. is_reversed (dimension_of d s b)) bs) (map (λ (f : Entity). f.bounds) es)) o);
    },
    arrays es q.1 (right_true (are_integer_bounds us e.bounds) (has_integer_bounds us es) k)
        (right_false (list_any (λ b. is_no_constant d s b.0 || is_no_constant d s b.1) e.bounds) (list_any (λ bs. list_any (λ b. is_no_constant d s b.0 || is_no_constant d s b.1) bs) (map (λ (f : Entity). f.bounds) es)) h)
        (right_false (list_any (λ b. is_reversed (dimension_of d s b)) e.bounds) (list_any (λ bs. list_any (λ b. is_reversed (dimension_of d s b)) bs) (map (λ (f : Entity). f.bounds) es)) o),
  )

  statement_arrays : (c : Statement77) → IsSourceStatement c → suits us c ≡ true → list_any (λ bs. list_any (λ b. is_no_constant d s b.0 || is_no_constant d s b.1) bs) (bounds_declared c) ≡ false
      → list_any (λ bs. list_any (λ b. is_reversed (dimension_of d s b)) bs) (bounds_declared c) ≡ false → AreArrays (entities_of c)
  statement_arrays (Declare k es) q g h o = arrays es q g h o
  statement_arrays (Dimension es) q g h o = arrays es q g h o
  statement_arrays c q g h o = tt

  among_arrays : (es : List Entity) (x : List ℕ) → AreArrays es → IsArray (bounds_among es x)
  among_arrays [] x h = record { few = (omega arith); all = tt }
  among_arrays (e ∷ es) x h = by (has_bounds e.bounds && bytes_eq e.name x) (among_arrays es x h.1)
    where
      by : (b : Bool) → IsArray (bounds_among es x) → IsArray (cond b e.bounds (bounds_among es x))
      by true more = h.0
      by false more = more

-- ---- the text

module _ (d : Dialect) (text : List Labelled) (right : AllByRecursion (IsRight text) (places text)) (values : AllByRecursion (HasValues d text) (places text)) (cards : AllByRecursion IsSourceCard text) where
  abbrev us' : List Use77
  us' = uses_in_text text

  abbrev s' : Store
  s' = constants_of d text

  keeps' : KeepsKinds d us' s'
  keeps' = keeps_kinds d text right

  text_arrays : (before xs : List Labelled) → AllByRecursion (IsRight text) (places_from before xs) → AllByRecursion (HasValues d text) (places_from before xs) → AllByRecursion IsSourceCard xs → AreArrays d us' s' keeps' (flat_map (λ (x : Labelled). entities_of x.statement) xs)
  text_arrays before [] r v h = tt
  text_arrays before (x ∷ xs) r v h =
      all_both (λ (e : Entity). IsArray d us' s' keeps' e.bounds) (entities_of x.statement) (flat_map (λ (y : Labelled). entities_of y.statement) xs)
      (statement_arrays d us' s' keeps' x.statement h.0.statement (affirmed (suits us' x.statement) (left_false (not (suits us' x.statement)) (list_any (calls_hidden us') (uses77_of x.statement)) r.0.kinds))
      (right_false (list_any (λ (c : NamedConstant). is_none (s'.bounds c.name)) (definitions_of x.statement)) (list_any (λ bs. list_any (λ b. is_no_constant d s' b.0 || is_no_constant d s' b.1) bs) (bounds_declared x.statement)) v.0.constants)
      v.0.bounds)
      (text_arrays (x ∷ before) xs r.1 v.1 h.1)

  declaration : (x : List ℕ) → Contains (program_variables_of us') x → IsDeclaration d (declaration_of_name d us' s' text x)
  declaration x c =
      let u = (variable_used us' x c).used in
      let a = among_arrays d us' s' keeps' (flat_map (λ (y : Labelled). entities_of y.statement) text) x (text_arrays [] text right values cards) in
      record {
        fixed = tt;
        name = subst (λ (y : List ℕ). IsSymbolicName y) u.same (all_at IsSymbolic us' u.use' (names_in_text text cards) u.among);
        few = (let l = length-map (bounds_of_name text x) (λ b. bounds_or_empty (dimension_of d s' b)) in let f = a.few in omega (arith, l, f));
        dimension = a.all;
      }

  each : (names : List (List ℕ)) → AllByRecursion (λ x. IsDeclaration d (declaration_of_name d us' s' text x)) names → AllByRecursion (IsDeclaration d) (map (declaration_of_name d us' s' text) names)
  each [] h = tt
  each (x ∷ xs) h = (h.0, each xs h.1)

  pub names_again : (names : List (List ℕ)) → map (λ (e : Declaration). e.name) (map (declaration_of_name d us' s' text) names) ≡ names
  names_again [] = refl
  names_again (x ∷ xs) = ap (λ ys. x ∷ ys) (names_again xs)

  sums_again : (names : List (List ℕ)) → map (λ (e : Declaration). array_elements (dimensions e.extent)) (map (declaration_of_name d us' s' text) names) ≡ map (λ x. elements d s' (bounds_of_name text x)) names
  sums_again [] = refl
  sums_again (x ∷ xs) =
      ap (λ n. n ∷ map (λ (e : Declaration). array_elements (dimensions e.extent)) (map (declaration_of_name d us' s' text) xs)) (elements_are d s' (bounds_of_name text x))
      ∙ ap (λ ns. elements d s' (bounds_of_name text x) ∷ ns) (sums_again xs)

  -- ---- at the last place

  abbrev is_counted : Use77 → Bool
  is_counted u = is_variable us' u.name || is_constant_name us' u.name

  counted : (x : List ℕ) → Contains (program_variables_of us') x → Contains (counted_names us' (onto [] text)) x
  counted x c =
      let v = variable_used us' x c in
      let u = v.used in
      let f = from_flat (λ (y : Labelled). uses77_of y.statement) text u.use' u.among in
      let among : Contains (uses_in_text (onto [] text)) u.use' = in_flat (λ (y : Labelled). uses77_of y.statement) (onto [] text) f.it u.use' (text_onto [] text f.it f.among) f.gives in
      let passes : is_counted u.use' ≡ true = ap (λ b. b || is_constant_name us' u.use'.name) (ap (is_variable us') u.same ∙ v.variable) in
      once_has (map (λ (w : Use77). w.name) (filter is_counted (uses_in_text (onto [] text)))) x
      (subst (λ (y : List ℕ). Contains (map (λ (w : Use77). w.name) (filter is_counted (uses_in_text (onto [] text)))) y) u.same
      (named_by (filter is_counted (uses_in_text (onto [] text))) u.use' (kept_by is_counted (uses_in_text (onto [] text)) u.use' among passes)))

  few_names : LastPlace (IsRight text) (onto [] text) → length (program_variables_of us') ≤ 1000
  few_names p =
      let a = fewer (program_variables_of us') (counted_names us' (onto [] text)) (variables_in_order us') counted in
      let b = ltb-false 1000 (length (counted_names us' (p.place.here ∷ p.place.before))) p.holds.names in
      let c = ap (λ ys. length (counted_names us' ys)) p.whole in
      omega (arith, a, b, c)

  few_elements : LastPlace (HasValues d text) (onto [] text) → declared_elements d s' text ≤ 4194304
  few_elements p =
      let a = turned_elements d s' [] text in
      let b = ltb-false 4194304 (declared_elements d s' (p.place.here ∷ p.place.before)) p.holds.elements in
      let c = ap (declared_elements d s') p.whole in
      omega (arith, a, b, c)

  pub are_declarations : LastPlace (IsRight text) (onto [] text) → LastPlace (HasValues d text) (onto [] text) → AreDeclarations d (declarations d text)
  are_declarations p q = record {
    each = each (program_variables_of us') (all_of (λ x. IsDeclaration d (declaration_of_name d us' s' text x)) (program_variables_of us') declaration);
    ordered = subst IsInByteOrder (sym (names_again (program_variables_of us'))) (variables_in_order us');
    few = (let a = length-map (program_variables_of us') (declaration_of_name d us' s' text) in let b = few_names p in omega (arith, a, b));
    elements =
        (let a = ap sum (sums_again (program_variables_of us')) in
        let b = names_of_text d s' text (program_variables_of us') (variables_in_order us') in
        let c = few_elements q in
        omega (arith, a, b, c));
  }
