-- What the declarations of the tree say of names is what their uses say.
use Rattle.std.proofs.Common.{◌≡◌, ◌⊎◌, inl, inr, ℕ, ◌^◌, ◌≤◌, nat_lt, ltb-true, lt-ltb, pos, negsuc, arith, Bool, true, false, not, ◌&&◌, ◌||◌, Option, Some, None, is_none, ℤ, List, [], ◌∷◌, map, refl, sym, ap, subst, ◌∙◌, Contains, flat_map}
use Rattle.std.specs.List.{AllByRecursion, list_any}
use Rattle.std.specs.Str.{bytes_eq}
use Rattle.std.proofs.lemmas.Bool.{or_cases}
use Rattle.std.proofs.lemmas.List.{length-map}
use Rattle.tree.specs.declared.ops.Kind.{Kind}
use Rattle.tree.specs.Plain.{Expression, Declaration}
use Rattle.std.proofs.Math.Pow.{pow_mono}
use Rattle.tree.specs.declared.ops.Value.{Value}
use Rattle.tree.specs.declared.ops.Value.TheVariants.{Int, Truth}
use Rattle.meaning.specs.Dialect.{Dialect}
use Rattle.meaning.specs.Store.{Store, Cell}
use Rattle.meaning.specs.Value.{is_in_range}
use Rattle.f77_grammar.specs.Statement77.{Entity, NamedConstant, Labelled, Statement77, Program, Declare, Dimension, Constants, Test}
use Rattle.f77_grammar.specs.program.Text.{places, places_from}
use Rattle.f77_grammar.specs.program.Uses.{Role, Title, uses_in_bounds, Defined, Use77, use77_of, uses77_in, bounded_uses, dimensioned_uses, typed_uses, defined_uses, uses77_of, uses_in_text, is_typed, is_bounded, is_defined, is_bare_role, stands, is_constant_name, is_variable, kind_of_name}
use Rattle.f77_grammar.specs.program.Kinds.{has_kind, suits, calls_hidden}
use Rattle.f77_grammar.specs.program.Limits.{constants_of, dimension_of, definitions_of, bounds_of_name, bounds_declared, is_no_constant}
use Rattle.f77_grammar.specs.program.Tree.{bounds_or_empty, program_variables_of, declaration_of_name}
use Rattle.f77_laws.specs.Source.{IsSourceAction, IsSourceStatement, IsSourceCard}
use Rattle.f77_laws.proofs.Lists.{left_true, right_true, left_false, affirmed, not_both, all_weaker, all_both, all_at, all_true, none_any, found, FromFlat, from_flat, cases_of}
use Rattle.f77_laws.proofs.Places.{place_of}
use Rattle.f77_laws.proofs.Sound.{IsRight, HasValues}
use Rattle.f77_laws.proofs.Variables.{same_name, is_among_variables, declared_name, undeclared_name, variable_used}
use Rattle.f77_laws.proofs.Dimensions.{IsAction, IsProper, AreProper, IsPlainRole, IsPlainUse, ArePlain, plain_of, plain_in, plain_in_bounds, number_of_bounds}
use Rattle.f77_laws.proofs.ConstantValues.{KeepsKinds, DefinesKinds, text_constants}
use Rattle.f77_laws.proofs.NameKinds.{Knows, IsValued}

-- ---- logical IFs

an_action : (c : Statement77) → IsSourceAction c → IsAction c
an_action (Program x) h = absurd h
an_action (Declare k es) h = absurd h
an_action (Dimension es) h = absurd h
an_action (Constants ds) h = absurd h
an_action (Test c s) h = absurd h
an_action c h = tt

proper : (c : Statement77) → IsSourceStatement c → IsProper c
proper (Test c s) h = an_action s h.1
proper c h = tt

pub proper_text : (text : List Labelled) → AllByRecursion IsSourceCard text → AreProper text
proper_text [] h = tt
proper_text (x ∷ xs) h = (proper x.statement h.0.statement, proper_text xs h.1)

-- ---- variables

-- a variable has a use
pub variable_named : (us : List Use77) (x : List ℕ) → is_variable us x ≡ true → Contains (program_variables_of us) x
variable_named us x h = by (or_cases (stands is_typed us x || stands is_bounded us x) (stands is_bare_role us x) (left_true (stands is_typed us x || stands is_bounded us x || stands is_bare_role us x) (not (is_constant_name us x)) h))
  where
    of_role : (test : Role → Bool) → stands test us x ≡ true → Contains (program_variables_of us) x
    of_role test e =
        let f = found (λ (u : Use77). test u.role && bytes_eq u.name x) us e in
        let n = same_name f.it.name x (right_true (test f.it.role) (bytes_eq f.it.name x) f.passes) in
        subst (λ (y : List ℕ). Contains (program_variables_of us) y) n (is_among_variables us f.it f.among (ap (is_variable us) n ∙ h))

    first : (stands is_typed us x ≡ true) ⊎ (stands is_bounded us x ≡ true) → Contains (program_variables_of us) x
    first (inl e) = of_role is_typed e
    first (inr e) = of_role is_bounded e

    by : ((stands is_typed us x || stands is_bounded us x) ≡ true) ⊎ (stands is_bare_role us x ≡ true) → Contains (program_variables_of us) x
    by (inl e) = first (or_cases (stands is_typed us x) (stands is_bounded us x) e)
    by (inr e) = of_role is_bare_role e

-- ---- constants

-- where a name is defined, it is by a PARAMETER statement
record IsDefinedIn (text : List Labelled) (x : List ℕ) : Type 0 where
  card : Labelled
  among : Contains text card
  definition : NamedConstant
  defines : Contains (definitions_of card.statement) definition
  same : definition.name ≡ x

no_role : (us : List Use77) (u : Use77) → ArePlain us → Contains us u → is_defined u.role ≡ true → ⊥
no_role us u h c e = by u.role (all_at IsPlainUse us u h c) e
  where
    by : (r : Role) → IsPlainRole r → is_defined r ≡ true → ⊥
    by Defined h e = h
    by r h e = cc

record Defines (ds : List NamedConstant) (u : Use77) : Type 0 where
  definition : NamedConstant
  among : Contains ds definition
  same : definition.name ≡ u.name

in_definitions : (ds : List NamedConstant) (u : Use77) → Contains (flat_map defined_uses ds) u → is_defined u.role ≡ true → Defines ds u
in_definitions ds u c e = by (from_flat defined_uses ds u c)
  where
    here_or : (d : NamedConstant) → Contains ds d → (use77_of d.name Defined ≡ u) ⊎ Contains (uses77_in d.value) u → Defines ds u
    here_or d c (inl f) = record { definition = d; among = c; same = ap (λ (v : Use77). v.name) f }
    here_or d c (inr g) = absurd (no_role (uses77_in d.value) u (plain_in d.value) g e)

    by : FromFlat defined_uses ds u → Defines ds u
    by f = here_or f.it f.among (cases_of (use77_of f.it.name Defined) (uses77_in f.it.value) u f.gives)

abbrev AreUndefined : List Use77 → Type 0
AreUndefined us = AllByRecursion (λ (u : Use77). is_defined u.role ≡ false) us

undefined_role : (r : Role) → IsPlainRole r → is_defined r ≡ false
undefined_role Defined h = absurd h
undefined_role r h = refl

undefined_bounds : (x : List ℕ) (bs : List (Expression × Expression)) → AreUndefined (bounded_uses x bs)
undefined_bounds x [] = tt
undefined_bounds x (b ∷ bs) = (refl, all_weaker IsPlainUse (λ (u : Use77). is_defined u.role ≡ false) (λ u. undefined_role u.role) (uses_in_bounds (b ∷ bs)) (plain_in_bounds (b ∷ bs)))

undefined_typed : (k : Kind) (es : List Entity) → AreUndefined (flat_map (typed_uses k) es)
undefined_typed k [] = tt
undefined_typed k (e ∷ es) = (refl, all_both (λ (u : Use77). is_defined u.role ≡ false) (dimensioned_uses e) (flat_map (typed_uses k) es) (undefined_bounds e.name e.bounds) (undefined_typed k es))

undefined_dimensioned : (es : List Entity) → AreUndefined (flat_map dimensioned_uses es)
undefined_dimensioned [] = tt
undefined_dimensioned (e ∷ es) = all_both (λ (u : Use77). is_defined u.role ≡ false) (dimensioned_uses e) (flat_map dimensioned_uses es) (undefined_bounds e.name e.bounds) (undefined_dimensioned es)

undefined_there : (us : List Use77) (u : Use77) → AreUndefined us → Contains us u → is_defined u.role ≡ true → ⊥
undefined_there us u h c e = not_both (is_defined u.role) e (all_at (λ (v : Use77). is_defined v.role ≡ false) us u h c)

statement_defines : (c : Statement77) (u : Use77) → IsProper c → Contains (uses77_of c) u → is_defined u.role ≡ true → Defines (definitions_of c) u
statement_defines (Program y) u p c e = absurd (undefined_there (use77_of y Title ∷ []) u (refl, tt) c e)
statement_defines (Declare k es) u p c e = absurd (undefined_there (flat_map (typed_uses k) es) u (undefined_typed k es) c e)
statement_defines (Dimension es) u p c e = absurd (undefined_there (flat_map dimensioned_uses es) u (undefined_dimensioned es) c e)
statement_defines (Constants ds) u p c e = in_definitions ds u c e
statement_defines (Test d b) u p c e = absurd (no_role (uses77_of (Test d b)) u (plain_of (Test d b) p) c e)
statement_defines s u p c e = absurd (no_role (uses77_of s) u (plain_of s tt) c e)

defined_in : (text : List Labelled) (x : List ℕ) → AreProper text → is_constant_name (uses_in_text text) x ≡ true → IsDefinedIn text x
defined_in text x p h =
    let f = found (λ (u : Use77). is_defined u.role && bytes_eq u.name x) (uses_in_text text) h in
    let g = from_flat (λ (y : Labelled). uses77_of y.statement) text f.it f.among in
    let d = statement_defines g.it.statement f.it (all_at (λ (y : Labelled). IsProper y.statement) text g.it p g.among) g.gives (left_true (is_defined f.it.role) (bytes_eq f.it.name x) f.passes) in
    record {
      card = g.it;
      among = g.among;
      definition = d.definition;
      defines = d.among;
      same = d.same ∙ same_name f.it.name x (right_true (is_defined f.it.role) (bytes_eq f.it.name x) f.passes);
    }

-- ---- kinds of definitions

module _ (d : Dialect) (text : List Labelled) where
  abbrev us : List Use77
  us = uses_in_text text

  abbrev s : Store
  s = constants_of d text

  defines_kinds_here : (c : Statement77) → suits us c ≡ true → DefinesKinds d us (definitions_of c)
  defines_kinds_here (Constants ds) h = all_true (λ (c : NamedConstant). has_kind us c.value (kind_of_name us c.name)) ds h
  defines_kinds_here c h = tt

  defines_kinds : (before xs : List Labelled) → AllByRecursion (IsRight text) (places_from before xs) → DefinesKinds d us (flat_map (λ (x : Labelled). definitions_of x.statement) xs)
  defines_kinds before [] r = tt
  defines_kinds before (x ∷ xs) r =
      all_both (λ (c : NamedConstant). has_kind us c.value (kind_of_name us c.name) ≡ true) (definitions_of x.statement) (flat_map (λ (y : Labelled). definitions_of y.statement) xs)
      (defines_kinds_here x.statement (affirmed (suits us x.statement) (left_false (not (suits us x.statement)) (list_any (calls_hidden us) (uses77_of x.statement)) r.0.kinds)))
      (defines_kinds (x ∷ before) xs r.1)

  pub keeps_kinds : AllByRecursion (IsRight text) (places text) → KeepsKinds d us s
  keeps_kinds r = text_constants d us text (defines_kinds [] text r)

  abbrev has_bad_bounds : Statement77 → Bool
  has_bad_bounds c = list_any (λ bs. list_any (λ b. is_no_constant d s b.0 || is_no_constant d s b.1) bs) (bounds_declared c)

  -- a symbolic constant has a value
  has_value : AllByRecursion (HasValues d text) (places text) → AreProper text → (x : List ℕ) → is_constant_name us x ≡ true → is_none (s.bounds x) ≡ false
  has_value r p x h =
      let m = defined_in text x p h in
      let q = place_of (HasValues d text) [] text m.card r m.among in
      let g = left_false (list_any (λ (e : NamedConstant). is_none (s.bounds e.name)) (definitions_of q.place.here.statement)) (has_bad_bounds q.place.here.statement) q.holds.constants in
      let k = ap (λ (y : Labelled). list_any (λ (e : NamedConstant). is_none (s.bounds e.name)) (definitions_of y.statement)) (sym q.stands) ∙ g in
      ap (λ y. is_none (s.bounds y)) (sym m.same)
      ∙ all_at (λ (e : NamedConstant). is_none (s.bounds e.name) ≡ false) (definitions_of m.card.statement) m.definition (none_any (λ (e : NamedConstant). is_none (s.bounds e.name)) (definitions_of m.card.statement) k) m.defines

  -- what INTEGER holds is a literal or the negative of one
  literal_range : (v : Value) → d.bits ≤ 126 → is_in_range d.bits v ≡ true → is_in_range 126 v ≡ true
  literal_range (Int (pos n)) b h = below n b h
    where
      below : (n : ℕ) → d.bits ≤ 126 → nat_lt n (2 ^ d.bits) ≡ true → nat_lt n (2 ^ 126) ≡ true
      below n b h = let lt = ltb-true n (2 ^ d.bits) h in let le = pow_mono b in lt-ltb n (2 ^ 126) (omega (arith, lt, le))
  literal_range (Int (negsuc n)) b h = below n b h
    where
      below : (n : ℕ) → d.bits ≤ 126 → nat_lt n (2 ^ d.bits) ≡ true → nat_lt n (2 ^ 126) ≡ true
      below n b h = let lt = ltb-true n (2 ^ d.bits) h in let le = pow_mono b in lt-ltb n (2 ^ 126) (omega (arith, lt, le))
  literal_range (Truth t) b h = refl

  valued : (x : List ℕ) → d.bits ≤ 126 → KeepsKinds d us s → is_none (s.bounds x) ≡ false → IsValued us s x
  valued x b keeps h = by (s.bounds x) refl h
    where
      by : (o : Option (List (ℤ × ℤ))) → s.bounds x ≡ o → is_none o ≡ false → IsValued us s x
      by None e h = absurd cc
      by (Some bs) e h =
          let k = keeps x bs e in
          let c : Cell = record { name = x; subscripts = [] } in
          record { kind = k.kind c refl; range = literal_range (s.held c) b (k.range c refl) }

  abbrev pub declarations : List Declaration
  declarations = map (declaration_of_name d us s text) (program_variables_of us)

  pub knows : d.bits ≤ 126 → AllByRecursion (IsRight text) (places text) → AllByRecursion (HasValues d text) (places text) → AreProper text → Knows us s declarations
  knows b r v p = record {
    variable = λ x h. record {
      it = declaration_of_name d us s text x;
      is = declared_name d us s text (program_variables_of us) x (variable_named us x h);
      kind = refl;
      many = length-map (bounds_of_name text x) (λ b. bounds_or_empty (dimension_of d s b)) ∙ number_of_bounds text x p;
    };
    other = λ x h. undeclared_name d us s text (program_variables_of us) x (λ c. not_both (is_variable us x) (variable_used us x c).variable h);
    constant = λ x h. valued x b (keeps_kinds r) (has_value v p x h);
  }
