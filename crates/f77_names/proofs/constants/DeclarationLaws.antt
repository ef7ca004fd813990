-- What is declared of a name: its kind, its bounds, and whether it is a variable.
use Rattle.std.proofs.Common.{◌≡◌, ◌∙◌, ap, sym, refl, subst, ℕ, zero, suc, ◌+◌, ◌<◌, ◌==◌, ◌↔◌, IsTrue, Bool, true, false, not, ◌&&◌, ◌||◌, cond, Option, Some, None, is_some, List, [], ◌∷◌, ◌++◌, length, map, drop, get_or, add-one, arith}
use Rattle.std.specs.Str.{bytes_eq}
use Rattle.std.specs.List.{filter, fold, flat_map}
use Rattle.std.proofs.Math.Seq.{drop-cons}
use Rattle.std.proofs.lemmas.Bool.Decides.{nat_tests}
use Rattle.tree.specs.Plain.{Expression}
use Rattle.tree.specs.declared.ops.Kind.{Kind}
use Rattle.tree.specs.declared.exprs.Expr.{Expr}
use Rattle.f77_grammar.specs.Statement77.{Entity, Labelled}
use Rattle.f77_grammar.specs.program.Limits.{has_bounds, bounds_among, bounds_of_name, entities_of}
use Rattle.f77_grammar.specs.program.Tree.{with_name}
use Rattle.f77_grammar.specs.program.Uses.{Role, Title, Typed, Bounded, Defined, Valued, Target, Counter, Use77, is_variable, kind_of_name, type_of, type_in, or_integer, stands, is_typed, is_bounded, is_bare_role, is_defined}
use Rattle.f77_grammar.specs.declared.syntax.statements.Labelled.{Labelled as Labelled'}
use Rattle.f77_grammar.specs.syntax.Views.{bounds_of, statement_of, text_of}
use Rattle.f77_grammar.proofs.syntax.Walks.{text_left}
use Rattle.f77_names.specs.declared.names.Facts.{Facts}
use Rattle.f77_names.specs.declared.names.Names.{Names}
use Rattle.f77_names.specs.declared.uses.Use.{Use as Use'}
use Rattle.f77_names.specs.UsesView.{plain_use}
use Rattle.f77_names.specs.NameFacts.{facts_in, facts_of, facts_with, first_given, nothing_known, is_variable_by}
use Rattle.f77_names.proofs.FactLaws.{typed_is, bounded_is, bare_is, constant_is}
use Rattle.tree.specs.declared.programs.Decl.{Decl}
use Rattle.f77_names.specs.constants.Declarations.{Ascends, AreFacts, HasDimensions, HaveDimensions}
use Rattle.f77_names.proofs.constants.NameOrder.{ascends_with}

left : {A : Type 0} (xs : List A) (i : ℕ) (x : A) → i < length xs → x ≡ get_or xs i x → drop i xs ≡ x ∷ drop (i + 1) xs
left xs i x h e = rw (add-one, drop-cons xs i x h, ← e) refl

-- ---- bounds

pub has_bounds_is : (empty : Bool) (bs : List (Expr × Expr)) → (IsTrue empty ↔ (bs ≡ [])) → not empty ≡ has_bounds (map bounds_of bs)
has_bounds_is true [] h = refl
has_bounds_is true (b ∷ bs) h = let k = h.0 refl in cc
has_bounds_is false [] h = let k = h.1 refl in cc
has_bounds_is false (b ∷ bs) h = refl

pub ruleset bounds_laws = (has_bounds_is)

bounds_stand : (bs : List (Expr × Expr)) → has_bounds (map bounds_of bs) ≡ not (length bs == 0)
bounds_stand [] = refl
bounds_stand (b ∷ bs) = grind (arith, nat_tests)

bounds_append : (es fs : List Entity) (x : List ℕ) → bounds_among (es ++ fs) x ≡ cond (has_bounds (bounds_among es x)) (bounds_among es x) (bounds_among fs x)
bounds_append [] fs x = refl
bounds_append (e ∷ es) fs x = cases e.bounds (bytes_eq e.name x) (bounds_append es fs x)
  where
    cases : (bs : List (Expression × Expression)) (same : Bool) → bounds_among (es ++ fs) x ≡ cond (has_bounds (bounds_among es x)) (bounds_among es x) (bounds_among fs x)
        → cond (has_bounds bs && same) bs (bounds_among (es ++ fs) x) ≡ cond (has_bounds (cond (has_bounds bs && same) bs (bounds_among es x))) (cond (has_bounds bs && same) bs (bounds_among es x)) (bounds_among fs x)
    cases [] same rest = rest
    cases (b ∷ bs) true rest = refl
    cases (b ∷ bs) false rest = rest

pub bounds_at : (xs : List Labelled') (i : ℕ) (y : Labelled') (x : List ℕ) (bs : List (Expr × Expr)) (empty : Bool) → i < length xs → y ≡ get_or xs i y
    → map bounds_of bs ≡ bounds_among (entities_of (statement_of y.statement)) x → empty ≡ (length bs == 0)
    → bounds_of_name (drop i (text_of xs)) x ≡ cond (not empty) (map bounds_of bs) (bounds_of_name (drop (i + 1) (text_of xs)) x)
bounds_at xs i y x bs empty h k e is =
    ap (λ ts. bounds_of_name ts x) (text_left xs i y h k)
    ∙ bounds_append (entities_of (statement_of y.statement)) (flat_map (λ (z : Labelled). entities_of z.statement) (drop (i + 1) (text_of xs))) x
    ∙ ap (λ cs. cond (has_bounds cs) cs (bounds_of_name (drop (i + 1) (text_of xs)) x)) (sym e)
    ∙ ap (λ b. cond b (map bounds_of bs) (bounds_of_name (drop (i + 1) (text_of xs)) x)) (bounds_stand bs ∙ ap not (sym is))

-- ---- variables

four : (a b c d a' b' c' d' : Bool) → a ≡ a' → b ≡ b' → c ≡ c' → d ≡ d' → ((a || b || c) && not d) ≡ ((a' || b' || c') && not d')
four a b c d a' b' c' d' e f g h = cc

pub variable_is : (names : Names) (us : List Use77) (x : List ℕ) → AreFacts names us → is_variable_by (facts_in names x) ≡ is_variable us x
variable_is names us x h =
    ap is_variable_by (h.facts x)
    ∙ four (is_some (facts_of nothing_known us x).kind) (is_some (facts_of nothing_known us x).dimensions) (facts_of nothing_known us x).bare (facts_of nothing_known us x).constant
    (stands is_typed us x) (stands is_bounded us x) (stands is_bare_role us x) (stands is_defined us x) (typed_is us x) (bounded_is us x) (bare_is us x) (constant_is us x)

abbrev first_kind : Option Kind → Option Kind → Option Kind
first_kind None o = o
first_kind (Some k) o = Some k

kind_given : (o : Option Kind) (k : Kind) (p : Option Kind) → first_kind (first_given o k) p ≡ first_kind o (Some k)
kind_given None k p = refl
kind_given (Some j) k p = refl

kind_step : (f : Facts) (r : Role) (same : Bool) (o : Option Kind) → first_kind (let g : Facts = cond same (facts_with f r) f in g).kind o ≡ first_kind f.kind (type_in r same o)
kind_step f r false o = other r
  where
    other : (q : Role) → first_kind f.kind o ≡ first_kind f.kind (type_in q false o)
    other Title = refl
    other (Typed k) = refl
    other (Bounded n) = refl
    other Defined = refl
    other (Valued n) = refl
    other (Target n) = refl
    other Counter = refl
kind_step f Title true o = refl
kind_step f (Typed k) true o = kind_given f.kind k o
kind_step f (Bounded n) true o = refl
kind_step f Defined true o = refl
kind_step f (Valued zero) true o = refl
kind_step f (Valued (suc n)) true o = refl
kind_step f (Target zero) true o = refl
kind_step f (Target (suc n)) true o = refl
kind_step f Counter true o = refl

kind_only : (o : Option Kind) → o ≡ first_kind o None
kind_only None = refl
kind_only (Some k) = refl

-- the type that is first given
kind_from : (f : Facts) (us : List Use77) (x : List ℕ) → (facts_of f us x).kind ≡ first_kind f.kind (type_of us x)
kind_from f [] x = kind_only f.kind
kind_from f (u ∷ us) x = kind_from (cond (bytes_eq u.name x) (facts_with f u.role) f) us x ∙ kind_step f u.role (bytes_eq u.name x) (type_of us x)

pub kind_is : (names : Names) (us : List Use77) (x : List ℕ) → AreFacts names us → or_integer (facts_in names x).kind ≡ kind_of_name us x
kind_is names us x h = ap (λ (f : Facts). or_integer f.kind) (h.facts x) ∙ ap or_integer (kind_from nothing_known us x)

-- one use more
pub variables_more : (us : List Use77) (uses : List Use') (i : ℕ) (u : Use') (all old new : List (List ℕ)) → i < length uses → u ≡ get_or uses i u
    → all ≡ fold (λ names x. with_name x names) old (filter (is_variable us) (map (λ (v : Use77). v.name) (map plain_use (drop i uses))))
    → new ≡ cond (is_variable us u.name) (with_name u.name old) old
    → all ≡ fold (λ names x. with_name x names) new (filter (is_variable us) (map (λ (v : Use77). v.name) (map plain_use (drop (i + 1) uses))))
variables_more us uses i u all old new h k e f =
    e ∙ ap (λ vs. fold (λ names x. with_name x names) old (filter (is_variable us) (map (λ (v : Use77). v.name) (map plain_use vs)))) (left uses i u h k)
    ∙ chosen (is_variable us u.name) (filter (is_variable us) (map (λ (v : Use77). v.name) (map plain_use (drop (i + 1) uses))))
    ∙ ap (λ names. fold (λ names x. with_name x names) names (filter (is_variable us) (map (λ (v : Use77). v.name) (map plain_use (drop (i + 1) uses))))) (sym f)
  where
    chosen : (b : Bool) (rest : List (List ℕ)) → fold (λ names x. with_name x names) old (cond b (u.name ∷ rest) rest) ≡ fold (λ names x. with_name x names) (cond b (with_name u.name old) old) rest
    chosen true rest = refl
    chosen false rest = refl

pub ascends_more : (b : Bool) (x : List ℕ) (old new : List (List ℕ)) → Ascends old → new ≡ cond b (with_name x old) old → Ascends new
ascends_more true x old new h e = subst Ascends (sym e) (ascends_with x old h)
ascends_more false x old new h e = subst Ascends (sym e) h

-- a declaration behind those of which each array has a dimension
pub more_dimensions : (ds : List Decl) (d : Decl) → HaveDimensions ds → HasDimensions d.extent → HaveDimensions (ds ++ d ∷ [])
more_dimensions [] d have has = (has, tt)
more_dimensions (e ∷ ds) d have has = (have.0, more_dimensions ds d have.1 has)
