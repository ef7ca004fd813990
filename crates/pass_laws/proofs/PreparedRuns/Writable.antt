-- Array forms may be written round each statement of a prepared nest.
use Rattle.std.proofs.Common.{◌≡◌, refl, sym, ap, ◌∙◌, subst, ℕ, suc, ◌+◌, ◌^◌, ◌<◌, ◌≤◌, ℤ, pos, Bool, true, false}
use Rattle.std.proofs.Common.{cond, not, ◌||◌, List, [], ◌∷◌, ◌++◌, map, length, Option, Some, None, arith}
use Rattle.std.specs.List.{list_any}
use Rattle.std.specs.Option.{IsSomeAnd}
use Rattle.std.specs.Prelude.{codes, nat_abs}
use Rattle.std.specs.Str.{bytes_eq}
use Rattle.std.proofs.lemmas.List.{length-append, length-map}
use Rattle.array_form.specs.profile.Settings.{IsWritable}
use Rattle.array_form.specs.forms.Loops as forms
use Rattle.array_form.specs.forms.Trips as trips
use Rattle.components.specs.Lists.{Each}
use Rattle.components.proofs.ListLaws.{Each-append}
use Rattle.emission.proofs.EmissionForms.FormsLimits.{limited_form, short_form}
use Rattle.emission.proofs.EmissionForms.FormsTurns.{HaveKnown, trip_in}
use Rattle.emission.proofs.EmissionForms.Surroundings.{variables_counted}
use Rattle.meaning.specs.Typed.{declared}
use Rattle.meaning.specs.Typed90.{IsFree, IsIntegerScalar}
use Rattle.tree.specs.Plain.{Declaration}
use Rattle.linear_forms.specs.Linear.{is_limited}
use Rattle.nest.specs.Plain.{Loop, Nest}
use Rattle.nest.specs.declared.parts.Trip.{Trip}
use Rattle.pass_laws.proofs.NormalFacts.MadeStatements.{variables_of_loops}
use Rattle.meaning_laws.specs.profiles.Profiles.{AddMadeNames}
use Rattle.pass_laws.proofs.ReadyNests.Lists.{Each-Contains}
use Rattle.array_form.specs.holds.Surroundings.{counted_loop, counted_of, is_spread_name, is_titled_spread, may_spread, spread_name}
use Rattle.array_form.specs.holds.Surroundings.{surroundings_of}
use Rattle.pass_laws.proofs.PreparedNests.Normal.MadeNames.{not_hidden, spread_is_source}
use Rattle.pass_laws.proofs.PreparedRuns.FitPieces.{IsFitLoop}

-- ---- SPREAD

undeclared : (ds : List Declaration) → list_any (λ (d : Declaration). is_spread_name d.name) ds ≡ false → declared ds spread_name ≡ None
undeclared [] h = refl
undeclared (d ∷ ds) h = by (bytes_eq d.name spread_name) h (undeclared ds)
  where
    by : (b : Bool) → (b || list_any (λ (d : Declaration). is_spread_name d.name) ds) ≡ false
        → (list_any (λ (d : Declaration). is_spread_name d.name) ds ≡ false → declared ds spread_name ≡ None) → cond b (Some d) (declared ds spread_name) ≡ None
    by true g more = let no : ⊥ = cc in absurd no
    by false g more = more g

neither : (a b : Bool) → not (a || b) ≡ true → b ≡ false
neither true b h = let no : ⊥ = cc in absurd no
neither false true h = let no : ⊥ = cc in absurd no
neither false false h = refl

spread_free : (es : List Declaration) (m : Nest) → AddMadeNames m.declarations es → may_spread m ≡ true → IsFree es (codes "SPREAD")
spread_free es m a h =
    not_hidden m.declarations es a spread_name spread_is_source
    (undeclared m.declarations (neither (is_titled_spread m.title) (list_any (λ (d : Declaration). is_spread_name d.name) m.declarations) h))

-- ---- trips

record IsLimitedLoop (n k : ℕ) (l : forms.FormLoop) : Type 0 where
  limited : is_limited n l.trip.form ≡ true
  short : length l.trip.form.coefficients ≤ n + k
  least : 1 ≤ l.trip.divisor
  most : l.trip.divisor < 2 ^ 127

small_divisor : (o : Option Trip) (t : Trip) → o ≡ Some t → IsSomeAnd o (λ (t : Trip). nat_abs t.by ≤ 2 ^ 40) → nat_abs t.by ≤ 2 ^ 40
small_divisor None t e h = absurd h
small_divisor (Some u) t e h = let same : u ≡ t = cc in subst (λ (t : Trip). nat_abs t.by ≤ 2 ^ 40) same h

below_limit : (k : ℕ) → k ≤ 2 ^ 40 → k < 2 ^ 127
below_limit k h = omega (arith, h)

positive : (z : ℤ) (k : ℕ) → z ≡ pos k → 1 ≤ k → 1 ≤ nat_abs z
positive z k e h = subst (λ (z : ℤ). 1 ≤ nat_abs z) (sym e) h

limited_loops : (es : List Declaration) (symbols : List (List ℕ)) (n depth : ℕ) (ls : List Loop) → n ≤ 7 → HaveKnown symbols depth ls → Each (IsFitLoop es) ls
    → Each (IsLimitedLoop n (length symbols)) (map (λ (l : Loop). counted_of n (counted_loop l)) ls)
limited_loops es symbols n depth [] few h f = tt
limited_loops es symbols n depth (l ∷ ls) few h f =
    let t = h.1 in
    let seven = t.seven in
    let eight = t.eight in (
      record {
        limited = limited_form n depth (trip_in l).top (omega (arith, seven, few)) (omega (arith, eight)) t.top;
        short = short_form n (length symbols) (trip_in l).top t.short;
        least = positive (trip_in l).by t.by t.by_is t.least;
        most = below_limit (nat_abs (trip_in l).by) (small_divisor l.trip (trip_in l) h.0 f.0.trip);
      },
      limited_loops es symbols n (suc depth) ls few h.2 f.1,
    )

-- ---- all

pub writable_is : (es : List Declaration) (m : Nest) (ls : List Loop) → AddMadeNames m.declarations es → IsFree es (codes "TRANSPOSE") → IsFree es (codes "RESHAPE") → length ls ≤ 7
    → trips.AreDistinct (forms.form_names_of (surroundings_of m ls)) → Each (IsIntegerScalar es) (variables_of_loops ls) → Each (IsIntegerScalar es) m.symbols → HaveKnown m.symbols 0 ls
    → Each (IsFitLoop es) ls → IsWritable es (surroundings_of m ls)
writable_is es m ls a transpose reshape few distinct integers symbols known fit =
    let all = map (λ (l : Loop). counted_of (length ls) (counted_loop l)) ls in
    let many : length all ≡ length ls = length-map ls (λ (l : Loop). counted_of (length ls) (counted_loop l)) in
    let names = variables_counted (length ls) ls in
    let loops = limited_loops es m.symbols (length ls) 0 ls few known fit in
    let long : length (forms.form_names_of (surroundings_of m ls)) ≡ length ls + length m.symbols =
    length-append (forms.form_variables_of all) m.symbols ∙ ap (λ k. k + length m.symbols) (length-map all (λ (l : forms.FormLoop). l.variable) ∙ many) in
    record {
      few = omega (arith, many, few);
      distinct = distinct;
      integers = λ x c. Each-Contains (IsIntegerScalar es) (forms.form_variables_of all ++ m.symbols) x
          (Each-append (IsIntegerScalar es) (forms.form_variables_of all) m.symbols (subst (Each (IsIntegerScalar es)) (sym names) integers) symbols) c;
      limits = λ l c. subst (λ k. is_limited k l.trip.form ≡ true) (sym many) (Each-Contains (IsLimitedLoop (length ls) (length m.symbols)) all l loops c).limited;
      short = λ l c. subst (λ k. length l.trip.form.coefficients ≤ k) (sym long) (Each-Contains (IsLimitedLoop (length ls) (length m.symbols)) all l loops c).short;
      divisors = λ l c. let d = Each-Contains (IsLimitedLoop (length ls) (length m.symbols)) all l loops c in (d.least, d.most);
      spread = λ s. spread_free es m a s;
      transpose = transpose;
      reshape = reshape;
    }
