-- The forms of operators and functions have the values of these where their operands' forms have theirs.
use Rattle.std.proofs.Common.{◌≡◌, refl, sym, ap, ◌∙◌, ℕ, ◌≤◌, ℤ, Bool, true, false, cond, ◌&&◌, List, [], ◌∷◌, ◌++◌, length, Result, Ok, Err}
use Rattle.std.specs.Str.{bytes_eq}
use Rattle.std.proofs.lemmas.Slice.Eq.{bytes_eq-Decides}
use mathlib.Core.Path.{ap₂}
use Rattle.tree.specs.Operators.{apply, call}
use Rattle.tree.specs.Plain.{Expression, Unary, Binary, Apply, Expressions, no_expressions, expression}
use Rattle.tree.specs.Steps.{◌>>=◌}
use Rattle.tree.specs.declared.functions.Fun.{Fun}
use Rattle.tree.specs.declared.ops.Fault.{Fault}
use Rattle.tree.specs.declared.ops.Fault.TheVariants.{Shape}
use Rattle.tree.specs.declared.ops.Op.{Op}
use Rattle.tree.specs.declared.ops.Value.{Value}
use Rattle.meaning.specs.ArrayValues.{Elements, conform, mapped, paired}
use Rattle.meaning.specs.Dialect.{Dialect}
use Rattle.meaning.specs.Reads.{names_in, names_in_each}
use Rattle.meaning.specs.Store.{Store}
use Rattle.meaning.specs.Value.{values_of, arguments_of, are_scalar, together}
use Rattle.linear_forms.specs.Laws.{AreSized}
use Rattle.linear_forms.specs.Linear.{HaveValues}
use Rattle.array_form.specs.forms.Following.{has_no_loop}
use Rattle.array_form.specs.forms.Instances.{counts_of}
use Rattle.array_form.specs.forms.Loops.{FormLoop, FormSurroundings, form_names_of, is_among, loops_among}
use Rattle.array_form.specs.forms.Trips.{AreDistinct}
use Rattle.array_form.proofs.forms.Axes.{Fit, Within, places, Takes}
use Rattle.array_form.proofs.forms.Iterations.{at_those}

-- ---- which loops stand in parts

among_append : (ys zs : List (List ℕ)) (x : List ℕ) → is_among (ys ++ zs) x ≡ cond (is_among ys x) true (is_among zs x)
among_append [] zs x = refl
among_append (y ∷ ys) zs x = by (bytes_eq y x) (among_append ys zs x)
  where
    by : (b : Bool) → is_among (ys ++ zs) x ≡ cond (is_among ys x) true (is_among zs x) → cond b true (is_among (ys ++ zs) x) ≡ cond (cond b true (is_among ys x)) true (is_among zs x)
    by true more = refl
    by false more = more

pub none_append : (D : List FormLoop) (ys zs : List (List ℕ)) → has_no_loop (loops_among D (ys ++ zs)) ≡ (has_no_loop (loops_among D ys) && has_no_loop (loops_among D zs))
none_append [] ys zs = refl
none_append (l ∷ D) ys zs = ap (λ b. has_no_loop (cond b (l ∷ loops_among D (ys ++ zs)) (loops_among D (ys ++ zs)))) (among_append ys zs l.variable)
    ∙ by (is_among ys l.variable) (is_among zs l.variable) (none_append D ys zs)
  where
    by : (b q : Bool) → has_no_loop (loops_among D (ys ++ zs)) ≡ (has_no_loop (loops_among D ys) && has_no_loop (loops_among D zs))
        → has_no_loop (cond (cond b true q) (l ∷ loops_among D (ys ++ zs)) (loops_among D (ys ++ zs)))
        ≡ (has_no_loop (cond b (l ∷ loops_among D ys) (loops_among D ys)) && has_no_loop (cond q (l ∷ loops_among D zs) (loops_among D zs)))
    by true q more = refl
    by false true more = not_both (has_no_loop (loops_among D ys))
      where
        not_both : (b : Bool) → false ≡ (b && false)
        not_both true = refl
        not_both false = refl
    by false false more = more

-- extents that conform: none for a scalar
itself : (ns : List ℕ) → conform ns ns ≡ Ok ns
itself [] = refl
itself (n ∷ ns) = ap (λ b. let r : Result (List ℕ) Fault = cond b (Ok (n ∷ ns)) (Err Shape) in r) ((bytes_eq-Decides (n ∷ ns) (n ∷ ns)).1 refl)

with_scalar : (ns : List ℕ) → conform ns [] ≡ Ok ns
with_scalar [] = refl
with_scalar (n ∷ ns) = refl

pub conforming : (p q : Bool) (ns : List ℕ) → conform (cond p [] ns) (cond q [] ns) ≡ Ok (cond (p && q) [] ns)
conforming true q ns = refl
conforming false true ns = with_scalar ns
conforming false false ns = itself ns

-- ---- by structure

module _ (d : Dialect) (a : FormSurroundings) (s : Store) (xs : List ℤ) (few : length a.loops ≤ 7) (values : HaveValues (form_names_of a) s xs) (sized : AreSized xs) (distinct : AreDistinct (form_names_of a)) (D : List FormLoop) (fit : Fit d a s xs few values sized distinct D) where
  abbrev pub In : (List ℕ → ℕ) → Type 0
  In ι = Within d a s xs few values sized distinct D ι

  abbrev pub Has : Expression → Expression → Type 0
  Has e F = Takes d a s xs few values sized distinct D e F

  abbrev pub spots : (List ℕ → ℕ) → List ℕ
  spots ι = places d a s xs few values sized distinct ι D

  abbrev pub no_loops_in : Expression → Bool
  no_loops_in e = has_no_loop (loops_among D (names_in e))

  pub unary : (o : Op) (e F : Expression) → Has e F → Has (Unary o e) (Unary o F)
  unary o e F h = record {
    array = mapped (λ x. apply o x x) h.array;
    known = ap (λ (r : Result (Elements Value) Fault). do g ← r; Ok (mapped (λ x. apply o x x) g)) h.known;
    extents = h.extents;
    scalar = h.scalar;
    at = λ ι w. ap (λ (r : Result Value Fault). do x ← r; apply o x x) (h.at ι w);
  }

  pub binary : (o : Op) (e f F G : Expression) → Has e F → Has f G → Has (Binary o e f) (Binary o F G)
  binary o e f F G h k =
      let whole : List ℕ = cond (no_loops_in e && no_loops_in f) [] (counts_of xs D) in
      let both_names = none_append D (names_in e) (names_in f) in
      record {
        array = record { extents = whole; at = λ is. (do x ← h.array.at is; y ← k.array.at is; apply o x y) };
        known = ap₂ (λ (r q : Result (Elements Value) Fault). do g ← r; i ← q; paired (apply o) g i) h.known k.known
            ∙ ap (λ (r : Result (List ℕ) Fault). let q : Result (Elements Value) Fault = (do ns ← r; Ok (record { extents = ns; at = λ is. (do x ← h.array.at is; y ← k.array.at is; apply o x y) })) in q)
            (ap₂ conform h.extents k.extents ∙ conforming (no_loops_in e) (no_loops_in f) (counts_of xs D));
        extents = ap (λ b. cond b [] (counts_of xs D)) (sym both_names);
        scalar = ap₂ (λ p q. p && q) h.scalar k.scalar ∙ sym both_names;
        at = λ ι w. ap₂ (λ (r q : Result Value Fault). do x ← r; y ← q; apply o x y) (h.at ι w) (k.at ι w);
      }

  -- arguments, where `b` says that all before them are scalars
  pub record HasEach (es Fs : Expressions) (b : Bool) : Type 0 where
    pub array : Elements (List Value)
    pub known : arguments_of d Fs (cond b [] (counts_of xs D)) s ≡ Ok array
    pub extents : array.extents ≡ cond (b && has_no_loop (loops_among D (names_in_each es))) [] (counts_of xs D)
    pub scalar : are_scalar Fs s.bounds ≡ has_no_loop (loops_among D (names_in_each es))
    pub at : (ι : List ℕ → ℕ) → In ι → array.at (spots ι) ≡ values_of d es (at_those ι D s)

  pub no_arguments : (b : Bool) → HasEach no_expressions no_expressions b
  no_arguments b = record {
    array = record { extents = cond b [] (counts_of xs D); at = λ is. Ok [] };
    known = refl;
    extents = ap (λ q. cond q [] (counts_of xs D)) (alone b);
    scalar = sym (nothing D);
    at = λ ι w. refl;
  }
    where
      nothing : (ls : List FormLoop) → has_no_loop (loops_among ls []) ≡ true
      nothing [] = refl
      nothing (l ∷ ls) = nothing ls

      alone : (b : Bool) → b ≡ (b && has_no_loop (loops_among D []))
      alone true = sym (nothing D)
      alone false = refl

  pub one_argument : (e F : Expression) (es Fs : Expressions) (b : Bool) → Has e F → HasEach es Fs (b && no_loops_in e) → HasEach (expression e es) (expression F Fs) b
  one_argument e F es Fs b h k =
      let both_names = none_append D (names_in e) (names_in_each es) in
      record {
        array = together h.array k.array;
        known = ap (λ (r : Result (Elements Value) Fault). do g ← r; ms ← conform (cond b [] (counts_of xs D)) g.extents; more ← arguments_of d Fs ms s; Ok (together g more)) h.known
            ∙ (ap (λ (r : Result (List ℕ) Fault). do ms ← r; more ← arguments_of d Fs ms s; Ok (together h.array more)) (ap (conform (cond b [] (counts_of xs D))) h.extents ∙ conforming b (no_loops_in e) (counts_of xs D))
            ∙ ap (λ (r : Result (Elements (List Value)) Fault). do more ← r; Ok (together h.array more)) k.known);
        extents = k.extents ∙ ap (λ q. cond q [] (counts_of xs D)) (regrouped b (no_loops_in e) (has_no_loop (loops_among D (names_in_each es))) ∙ ap (λ q. b && q) (sym both_names));
        scalar = ap₂ (λ p q. p && q) h.scalar k.scalar ∙ sym both_names;
        at = λ ι w. ap₂ (λ (r : Result Value Fault) (q : Result (List Value) Fault). do x ← r; ys ← q; Ok (x ∷ ys)) (h.at ι w) (k.at ι w);
      }
    where
      regrouped : (p q r : Bool) → ((p && q) && r) ≡ (p && (q && r))
      regrouped true q r = refl
      regrouped false q r = refl

  pub applied : (f : Fun) (es Fs : Expressions) → HasEach es Fs true → Has (Apply f es) (Apply f Fs)
  applied f es Fs h = record {
    array = mapped (call f) h.array;
    known = ap (λ (r : Result (Elements (List Value)) Fault). do g ← r; Ok (mapped (call f) g)) h.known;
    extents = h.extents;
    scalar = h.scalar;
    at = λ ι w. ap (λ (r : Result (List Value) Fault). do ys ← r; call f ys) (h.at ι w);
  }
