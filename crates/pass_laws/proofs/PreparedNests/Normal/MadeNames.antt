-- Made names hide no function, and expressions of FORTRAN 77 are scalars by the declarations with made names.
use Rattle.std.proofs.Common.{◌≡◌, refl, sym, ap, ◌∙◌, subst, ◌⊎◌, inl, inr, ℕ, Bool, true, false, ◌||◌, ◌==◌, List, []}
use Rattle.std.proofs.Common.{◌∷◌, length, Option, Some, None, Contains, arith}
use Rattle.std.specs.List.{list_any}
use Rattle.std.specs.Option.{IsSomeAnd}
use Rattle.std.specs.Prelude.{codes}
use Rattle.std.proofs.Math.Dec.{lit≤}
use Rattle.std.proofs.lemmas.Bool.Decides.{Decides-eqb}
use Rattle.meaning.specs.Dialect.{Dialect}
use Rattle.meaning.specs.Profile77.{IsFixed, IsProgram77}
use Rattle.meaning.specs.Typed.{declared, dimensions, rank_of_extent}
use Rattle.meaning.specs.Typed77 as source
use Rattle.meaning.specs.Typed90.{rank_of, rank_of_each, rank_of_name, rank_of_subscript, rank_of_subscripts}
use Rattle.tree.specs.Functions.{name_of_function}
use Rattle.tree.specs.Names.{IsSourceName}
use Rattle.tree.specs.Plain.{Apply, Binary, Constructor, Declaration, Expression, Expressions, Extent, Given, Later}
use Rattle.tree.specs.Plain.{Logic, Named, Number, Only, Program, Reduce, Reshape, Section, Spread, Subscript}
use Rattle.tree.specs.Plain.{Subscripts, Transpose, Unary, expression, no_expressions, no_subscripts, subscript}
use Rattle.tree.specs.declared.functions.Fun.{Fun}
use Rattle.tree.specs.declared.functions.Fun.TheVariants.{Abs, Max, Min, Mod}
use Rattle.tree.specs.declared.ops.Kind.{Kind}
use Rattle.meaning_laws.proofs.profiles.Lists.{cases_of, nowhere}
use Rattle.meaning_laws.proofs.profiles.Names.{found, not_declared}
use Rattle.meaning_laws.proofs.profiles.Programs.{fixed, kept_declaration}
use Rattle.meaning_laws.proofs.profiles.Targets.{Extends}
use Rattle.meaning_laws.specs.profiles.Profiles.{AddMadeNames}

-- ---- names

pub none_is : (n : ℕ) (xs : List ℕ) → list_any (λ c. c == n) xs ≡ false → ¬ Contains xs n
none_is n [] h c = nowhere n c
none_is n (x ∷ xs) h c = by (x == n) refl (none_is n xs) h (cases_of x xs n c)
  where
    by : (b : Bool) → (x == n) ≡ b → (list_any (λ c. c == n) xs ≡ false → ¬ Contains xs n) → (b || list_any (λ c. c == n) xs) ≡ false → (x ≡ n) ⊎ Contains xs n → ⊥
    by true q more h k = cc
    by false q more h (inl s) = let yes = (Decides-eqb x n).1 s in cc
    by false q more h (inr k) = more h k

pub function_is_source : (f : Fun) → IsSourceName (name_of_function f)
function_is_source Abs = record { within = lit≤ tt; plain = none_is 95 (name_of_function Abs) refl }
function_is_source Mod = record { within = lit≤ tt; plain = none_is 95 (name_of_function Mod) refl }
function_is_source Max = record { within = lit≤ tt; plain = none_is 95 (name_of_function Max) refl }
function_is_source Min = record { within = lit≤ tt; plain = none_is 95 (name_of_function Min) refl }

pub spread_is_source : IsSourceName (codes "SPREAD")
spread_is_source = record { within = lit≤ tt; plain = none_is 95 (codes "SPREAD") refl }

module _ (ds es : List Declaration) (a : AddMadeNames ds es) where
  -- a name of a source that isn't declared isn't a made one
  pub not_hidden : (x : List ℕ) → IsSourceName x → declared ds x ≡ None → declared es x ≡ None
  not_hidden x s g = by (declared es x) refl
    where
      hides : (e : Declaration) → declared es x ≡ Some e → ⊥
      hides e q = let k = found es x e q in either e k.name (a.made e k.among)
        where
          either : (e : Declaration) → e.name ≡ x → Contains ds e ⊎ (IsSourceName e.name → ⊥) → ⊥
          either e n (inl c) = not_declared ds x e g c n
          either e n (inr f) = f (subst IsSourceName (sym n) s)

      by : (o : Option Declaration) → declared es x ≡ o → o ≡ None
      by None q = refl
      by (Some e) q = absurd (hides e q)

pub extends : (d : Dialect) (p : Program) (es : List Declaration) → IsProgram77 d p → AddMadeNames p.declarations es → Extends p.declarations es
extends d p es is a = record {
  found = kept_declaration p.declarations es a;
  fixed = fixed d p.declarations is.declarations;
  free = λ f g. not_hidden p.declarations es a (name_of_function f) (function_is_source f) g;
}

-- ---- ranks

fixed_rank : (e : Extent) → IsFixed e → rank_of_extent e ≡ length (dimensions e)
fixed_rank (Given bs) h = refl
fixed_rank (Later n) h = absurd h

module _ (ds es : List Declaration) (ext : Extends ds es) where
  no_rank : (x : List ℕ) (P : Declaration → Type 0) → ((d : Declaration) → P d → 0 ≡ length (dimensions d.extent)) → IsSomeAnd (declared ds x) P → rank_of_name es x ≡ 0
  no_rank x P f h = by (declared ds x) refl h
    where
      by : (o : Option Declaration) → declared ds x ≡ o → IsSomeAnd o P → rank_of_name es x ≡ 0
      by None e g = absurd g
      by (Some d) e g =
          let is : rank_of_name es x ≡ rank_of_extent d.extent = ap (λ o. elim o [ None ↦ 0 | Some c ↦ rank_of_extent c.extent ]) (ext.found x d e) in
          is ∙ fixed_rank d.extent (ext.fixed x d e) ∙ sym (f d g)

  mutual
    pub rank : (e : Expression) (k : Kind) → source.HasKind ds e k → rank_of es e ≡ 0
    rank (Number n) k h = refl
    rank (Logic b) k h = refl
    rank (Named x no_subscripts) k h = no_rank x _ (λ d q. q.1) h.0
    rank (Named x (subscript p ps)) k h = let a = rank_subscript p h.1.0 in let b = rank_subscripts ps h.1.1 in omega (arith, a, b)
    rank (Unary o a) k h = rank a _ h.2
    rank (Binary o a b) k h = let p = rank a _ h.2 in let q = rank b _ h.3 in omega (arith, p, q)
    rank (Apply f vs) k h = rank_arguments vs h.3
    rank (Constructor vs ls) k h = absurd h
    rank (Spread a n e) k h = absurd h
    rank (Transpose a) k h = absurd h
    rank (Reshape a vs) k h = absurd h
    rank (Reduce r a) k h = absurd h

    rank_arguments : (vs : Expressions) → source.AreArguments ds vs → rank_of_each es vs ≡ 0
    rank_arguments no_expressions h = refl
    rank_arguments (expression e vs) h = let p = rank e _ h.0 in let q = rank_arguments vs h.1 in omega (arith, p, q)

    rank_subscripts : (ps : Subscripts) → source.AreSubscripts ds ps → rank_of_subscripts es ps ≡ 0
    rank_subscripts no_subscripts h = refl
    rank_subscripts (subscript p ps) h = let a = rank_subscript p h.0 in let b = rank_subscripts ps h.1 in omega (arith, a, b)

    rank_subscript : (p : Subscript) → source.IsSubscript ds p → rank_of_subscript es p ≡ 0
    rank_subscript (Only e) h = rank e _ h
    rank_subscript (Section a b c) h = absurd h
