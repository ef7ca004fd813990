-- What is known of a reducible loop of a program of the profile, where it is come to.
use Rattle.std.proofs.Common.{◌≡◌, refl, sym, ap, ◌∙◌, subst, ◌⊎◌, inl, inr, ℕ, ℤ, pos, negsuc, ◌≤◌, ◌<◌, ◌^◌, Bool, true, false, not, ◌&&◌, ◌||◌, cond, List, [], ◌∷◌, ◌++◌, Option, Some, None}
use Rattle.std.specs.Prelude.{IsTrue, IfSome, Contains}
use Rattle.std.specs.Option.{IsSomeAnd}
use Rattle.std.specs.List.{list_any}
use Rattle.std.specs.Str.{bytes_eq}
use Rattle.std.proofs.lemmas.Bool.Decides.{Decides-ltb}
use Rattle.std.proofs.lemmas.Slice.Eq.{bytes_eq-Decides}
use Rattle.tree.specs.Functions.{name_of_reduction}
use Rattle.tree.specs.Operators.{fits}
use Rattle.tree.specs.Plain.{Expression, Number, Logic, Named, Unary, Binary, Apply, Constructor, Spread, Transpose, Reshape, Reduce, Expressions, no_expressions, expression, Subscript, Only, Section, Subscripts, no_subscripts, subscript, Loops, no_loops, loop, Reference}
use Rattle.tree.specs.Plain.{Given, Later, Declaration, Program}
use Rattle.tree.specs.declared.ops.Kind.{Kind}
use Rattle.tree.specs.declared.ops.Kind.TheVariants.{Integer}
use Rattle.meaning.specs.Blocks.{Surroundings}
use Rattle.meaning.specs.Dialect.{Dialect}
use Rattle.meaning.specs.Holding.{HasBounds, HoldsProgram}
use Rattle.meaning.specs.Names.{is_among}
use Rattle.meaning.specs.Profile90.{IsStatement, IsWhole}
use Rattle.meaning.specs.Ranges.{HoldsInRange, LiteralsFit, LiteralsFitInEach, LiteralsFitInLoops, LiteralsFitInSubscript, LiteralsFitInSubscripts}
use Rattle.meaning.specs.Reads.{names_in, names_in_each, names_in_loops, names_in_subscript, names_in_subscripts}
use Rattle.meaning.specs.Store.{Store}
use Rattle.meaning.specs.Typed.{declared, rank_of_extent}
use Rattle.meaning.specs.Typed90.{AreArguments, AreLoops, AreScalars, AreSubscripts, HasKind, IsIntegerScalar, IsSubscript}
use Rattle.meaning.specs.Value.{are_indices, are_scalar, is_bare, is_index, is_scalar, named}
use Rattle.meaning_laws.proofs.profiles.Lists.{here, there}
use Rattle.nest_order.specs.orders.Lists.{In}
use Rattle.nest_order.proofs.orders.Lists.{In-append, In-left, In-right}
use Rattle.reductions.specs.declared.gathering.Gathering.{Gathering}
use Rattle.reductions.specs.declared.gathering.Gathering.TheVariants.{Adds, Takes, Greatest, Least}
use Rattle.reductions.specs.Finding.{Context, bounds_by, bounds_given, context_of, has_own_variable, has_scalars, is_apart, is_hidden, is_reducible, is_source, may_be_section, one_is_variable, stands_in, stands_in_subscript, stands_in_subscripts}
use Rattle.reductions.specs.Gathering.{Lines, Loop, gatherer, in_turn, is_variable, loop_of}
use Rattle.reductions.specs.Reading.{read_in, read_in_each, read_in_subscript, read_in_subscripts, read_under, without}
use Rattle.reduction_laws.specs.gathering.Gathering.{IsReducible, MayBeSection, MayStart, OneIsVariable}
use Rattle.reduction_laws.proofs.blocks.Sameness.{both}
use Rattle.reduction_laws.proofs.unread.Law.{was_in}

-- ---- names that stand somewhere

pub no : (b : Bool) → not b ≡ true → b ≡ false
no true e = cc
no false e = refl

pub differ : (b : Bool) → b ≡ true → b ≡ false → ⊥
differ true e f = cc
differ false e f = cc

or_left : (a b : Bool) → a ≡ true → (a || b) ≡ true
or_left true b e = refl
or_left false b e = cc

or_right : (a b : Bool) → b ≡ true → (a || b) ≡ true
or_right true b e = refl
or_right false b e = e

pub among : (x : List ℕ) (ns : List (List ℕ)) → In x ns → is_among ns x ≡ true
among x [] i = absurd i
among x (n ∷ ns) (inl e) = or_left (bytes_eq x n) (is_among ns x) ((bytes_eq-Decides x n).1 e)
among x (n ∷ ns) (inr i) = or_right (bytes_eq x n) (is_among ns x) (among x ns i)

pub apart : (x : List ℕ) (ns : List (List ℕ)) → is_among ns x ≡ false → ¬ (In x ns)
apart x ns e i = differ (is_among ns x) (among x ns i) e

stands_sub : (x : List ℕ) (p : Subscript) → In x (names_in_subscript p) → stands_in_subscript x p ≡ true
stands_sub x (Only e) i = among x (names_in e) i
stands_sub x (Section a b c) i = by (In-append x (names_in a ++ names_in b) (names_in c) i)
  where
    first : In x (names_in a) ⊎ In x (names_in b) → (stands_in x a || (stands_in x b || stands_in x c)) ≡ true
    first (inl j) = or_left (stands_in x a) (stands_in x b || stands_in x c) (among x (names_in a) j)
    first (inr j) = or_right (stands_in x a) (stands_in x b || stands_in x c) (or_left (stands_in x b) (stands_in x c) (among x (names_in b) j))

    by : In x (names_in a ++ names_in b) ⊎ In x (names_in c) → (stands_in x a || (stands_in x b || stands_in x c)) ≡ true
    by (inl j) = first (In-append x (names_in a) (names_in b) j)
    by (inr j) = or_right (stands_in x a) (stands_in x b || stands_in x c) (or_right (stands_in x b) (stands_in x c) (among x (names_in c) j))

stands_subs : (x : List ℕ) (ps : Subscripts) → In x (names_in_subscripts ps) → stands_in_subscripts x ps ≡ true
stands_subs x no_subscripts i = absurd i
stands_subs x (subscript p ps) i = by (stands_subs x ps) (In-append x (names_in_subscript p) (names_in_subscripts ps) i)
  where
    by : (In x (names_in_subscripts ps) → stands_in_subscripts x ps ≡ true) → In x (names_in_subscript p) ⊎ In x (names_in_subscripts ps) → (stands_in_subscript x p || stands_in_subscripts x ps) ≡ true
    by more (inl j) = or_left (stands_in_subscript x p) (stands_in_subscripts x ps) (stands_sub x p j)
    by more (inr j) = or_right (stands_in_subscript x p) (stands_in_subscripts x ps) (more j)

apart_sub : (x : List ℕ) (p : Subscript) → stands_in_subscript x p ≡ false → ¬ (In x (names_in_subscript p))
apart_sub x p e i = differ (stands_in_subscript x p) (stands_sub x p i) e

apart_subs : (x : List ℕ) (ps : Subscripts) → stands_in_subscripts x ps ≡ false → ¬ (In x (names_in_subscripts ps))
apart_subs x ps e i = differ (stands_in_subscripts x ps) (stands_subs x ps i) e

-- ---- what is read has a name that stands there

split : (y : List ℕ) (ns ms ks ls : List (List ℕ)) → (In y ns → In y ks) → (In y ms → In y ls) → In y (ns ++ ms) → In y (ks ++ ls)
split y ns ms ks ls f g i = by (In-append y ns ms i)
  where
    by : In y ns ⊎ In y ms → In y (ks ++ ls)
    by (inl j) = In-left y ks ls (f j)
    by (inr j) = In-right y ks ls (g j)

mutual
  pub named_in : (e : Expression) (y : List ℕ) → In y (read_in e) → In y (names_in e)
  named_in (Number n) y i = i
  named_in (Logic b) y i = i
  named_in (Named x ps) y (inl e) = inl e
  named_in (Named x ps) y (inr i) = inr (named_in_subscripts ps y i)
  named_in (Unary o a) y i = named_in a y i
  named_in (Binary o a b) y i = split y (read_in a) (read_in b) (names_in a) (names_in b) (named_in a y) (named_in b y) i
  named_in (Apply f es) y i = named_in_each es y i
  named_in (Constructor es ls) y i = by (named_in_each es y) (named_under ls (read_in_each es) y i)
    where
      by : (In y (read_in_each es) → In y (names_in_each es)) → In y (read_in_each es) ⊎ In y (names_in_loops ls) → In y (names_in_each es ++ names_in_loops ls)
      by more (inl j) = In-left y (names_in_each es) (names_in_loops ls) (more j)
      by more (inr j) = In-right y (names_in_each es) (names_in_loops ls) j
  named_in (Spread a k e) y i = split y (read_in a) (read_in e) (names_in a) (names_in e) (named_in a y) (named_in e y) i
  named_in (Transpose a) y i = named_in a y i
  named_in (Reshape a es) y i = split y (read_in a) (read_in_each es) (names_in a) (names_in_each es) (named_in a y) (named_in_each es y) i
  named_in (Reduce r a) y i = named_in a y i

  named_in_each : (es : Expressions) (y : List ℕ) → In y (read_in_each es) → In y (names_in_each es)
  named_in_each no_expressions y i = i
  named_in_each (expression e es) y i = split y (read_in e) (read_in_each es) (names_in e) (names_in_each es) (named_in e y) (named_in_each es y) i

  pub named_in_subscripts : (ps : Subscripts) (y : List ℕ) → In y (read_in_subscripts ps) → In y (names_in_subscripts ps)
  named_in_subscripts no_subscripts y i = i
  named_in_subscripts (subscript p ps) y i = split y (read_in_subscript p) (read_in_subscripts ps) (names_in_subscript p) (names_in_subscripts ps) (named_in_subscript p y) (named_in_subscripts ps y) i

  pub named_in_subscript : (p : Subscript) (y : List ℕ) → In y (read_in_subscript p) → In y (names_in_subscript p)
  named_in_subscript (Only e) y i = named_in e y i
  named_in_subscript (Section a b c) y i = by (named_in a y) (named_in b y) (named_in c y) (In-append y (read_in a) (read_in b ++ read_in c) i)
    where
      first : In y (names_in a) ⊎ In y (names_in b) → In y (names_in a ++ names_in b ++ names_in c)
      first (inl j) = In-left y (names_in a ++ names_in b) (names_in c) (In-left y (names_in a) (names_in b) j)
      first (inr j) = In-left y (names_in a ++ names_in b) (names_in c) (In-right y (names_in a) (names_in b) j)

      later : (In y (read_in b) → In y (names_in b)) → (In y (read_in c) → In y (names_in c)) → In y (read_in b) ⊎ In y (read_in c) → In y (names_in a ++ names_in b ++ names_in c)
      later g h (inl j) = first (inr (g j))
      later g h (inr j) = In-right y (names_in a ++ names_in b) (names_in c) (h j)

      by : (In y (read_in a) → In y (names_in a)) → (In y (read_in b) → In y (names_in b)) → (In y (read_in c) → In y (names_in c)) → In y (read_in a) ⊎ In y (read_in b ++ read_in c) → In y (names_in a ++ names_in b ++ names_in c)
      by f g h (inl j) = first (inl (f j))
      by f g h (inr j) = later g h (In-append y (read_in b) (read_in c) j)

  named_under : (ls : Loops) (ns : List (List ℕ)) (y : List ℕ) → In y (read_under ls ns) → In y ns ⊎ In y (names_in_loops ls)
  named_under no_loops ns y i = inl i
  named_under (loop x a b ls) ns y i = by (named_in a y) (named_in b y) (named_under ls (read_in a ++ (read_in b ++ without x ns)) y i)
    where
      values : (In y (read_in b) → In y (names_in b)) → In y (read_in b) ⊎ In y (without x ns) → In y ns ⊎ In y (names_in_loops (loop x a b ls))
      values g (inl j) = inr (inr (In-left y (names_in a ++ names_in b) (names_in_loops ls) (In-right y (names_in a) (names_in b) (g j))))
      values g (inr j) = inl (was_in x y ns j).0

      bounds : (In y (read_in a) → In y (names_in a)) → (In y (read_in b) → In y (names_in b)) → In y (read_in a) ⊎ In y (read_in b ++ without x ns) → In y ns ⊎ In y (names_in_loops (loop x a b ls))
      bounds f g (inl j) = inr (inr (In-left y (names_in a ++ names_in b) (names_in_loops ls) (In-left y (names_in a) (names_in b) (f j))))
      bounds f g (inr j) = values g (In-append y (read_in b) (without x ns) j)

      by : (In y (read_in a) → In y (names_in a)) → (In y (read_in b) → In y (names_in b)) → In y (read_in a ++ (read_in b ++ without x ns)) ⊎ In y (names_in_loops ls) → In y ns ⊎ In y (names_in_loops (loop x a b ls))
      by f g (inl j) = bounds f g (In-append y (read_in a) (read_in b ++ without x ns) j)
      by f g (inr j) = inr (inr (In-right y (names_in a ++ names_in b) (names_in_loops ls) j))

-- ---- literals

module _ (ds : List Declaration) where
  literal : (n : ℤ) (k : Kind) → HasKind ds (Number n) k → fits 127 n ≡ true
  literal (pos n) k h = (Decides-ltb n (2 ^ 127)).1 h.0
  literal (negsuc n) k h = absurd h.0

  mutual
    pub literals : (e : Expression) (k : Kind) → HasKind ds e k → LiteralsFit e
    literals (Number n) k h = literal n k h
    literals (Logic b) k h = tt
    literals (Named x ps) k h = literals_in ps h.1
    literals (Unary o a) k h = literals a _ h.2
    literals (Binary o a b) k h = (literals a _ h.2, literals b _ h.3)
    literals (Apply f es) k h = literals_each es h.3
    literals (Constructor es ls) k h = (literals_scalars es k h.0, literals_loops ls h.2)
    literals (Spread a d n) k h = (literals a k h.4, literals n Integer h.5)
    literals (Transpose a) k h = literals a k h.2
    literals (Reshape a es) k h = (literals a k h.4, literals_scalars es Integer h.5)
    literals (Reduce r a) k h = literals a Integer h.3

    literals_each : (es : Expressions) → AreArguments ds es → LiteralsFitInEach es
    literals_each no_expressions h = tt
    literals_each (expression e es) h = (literals e Integer h.0, literals_each es h.2)

    literals_scalars : (es : Expressions) (k : Kind) → AreScalars ds es k → LiteralsFitInEach es
    literals_scalars no_expressions k h = tt
    literals_scalars (expression e es) k h = (literals e k h.0.0, literals_scalars es k h.1)

    literals_in : (ps : Subscripts) → AreSubscripts ds ps → LiteralsFitInSubscripts ps
    literals_in no_subscripts h = tt
    literals_in (subscript p ps) h = (literals_one p h.0, literals_in ps h.1)

    literals_one : (p : Subscript) → IsSubscript ds p → LiteralsFitInSubscript p
    literals_one (Only e) h = literals e Integer h.0
    literals_one (Section a b c) h = (literals a Integer h.0.0, literals b Integer h.1.0, literals c Integer h.2.0)

    literals_loops : (ls : Loops) → AreLoops ds ls → LiteralsFitInLoops ls
    literals_loops no_loops h = tt
    literals_loops (loop x a b ls) h = (literals a Integer h.1.0, literals b Integer h.2.0, literals_loops ls h.3)

  -- x and e are numbers
  pub operands : (g : Gathering) (x e : Expression) (k : Kind) → HasKind ds (in_turn g x e) k → HasKind ds x Integer × HasKind ds e Integer
  operands (Adds false) x e k h = (h.2, h.3)
  operands (Adds true) x e k h = (h.3, h.2)
  operands Takes x e k h = (h.2, h.3)
  operands (Greatest false) x e k h = (h.3.0, h.3.2.0)
  operands (Greatest true) x e k h = (h.3.2.0, h.3.0)
  operands (Least false) x e k h = (h.3.0, h.3.2.0)
  operands (Least true) x e k h = (h.3.2.0, h.3.0)

-- ---- scalars

module _ (lang : Dialect) (p : Program) (s : Store) (holds : HoldsProgram lang p s) where
  bare : (x : List ℕ) → is_bare (bounds_by p.declarations x) ≡ true → is_bare (s.bounds x) ≡ true
  bare x e = by (declared p.declarations x) refl (holds.bounds x) e
    where
      given : (d : Declaration) → HasBounds d.extent (s.bounds x) → is_bare (bounds_given d.extent) ≡ true → is_bare (s.bounds x) ≡ true
      given d h e = extent d.extent h e
        where
          extent : (n : Rattle.tree.specs.Plain.Extent) → HasBounds n (s.bounds x) → is_bare (bounds_given n) ≡ true → is_bare (s.bounds x) ≡ true
          extent (Given bs) h e = ap is_bare h ∙ e
          extent (Later n) h e = cc

      by : (o : Option Declaration) → declared p.declarations x ≡ o → IfSome o (λ d. HasBounds d.extent (s.bounds x)) → is_bare (elim o [ None ↦ None | Some d ↦ bounds_given d.extent ]) ≡ true → is_bare (s.bounds x) ≡ true
      by None g h e = cc
      by (Some d) g h e = given d h e

  mutual
    pub scalar_now : (e : Expression) → is_scalar e (bounds_by p.declarations) ≡ true → is_scalar e s.bounds ≡ true
    scalar_now (Number n) h = refl
    scalar_now (Logic b) h = refl
    scalar_now (Named x no_subscripts) h = bare x h
    scalar_now (Named x (subscript q qs)) h = indices_now (subscript q qs) h
    scalar_now (Unary o a) h = scalar_now a h
    scalar_now (Binary o a b) h =
        let k = both (is_scalar a (bounds_by p.declarations)) (is_scalar b (bounds_by p.declarations)) h in
        ap (λ c. c && is_scalar b s.bounds) (scalar_now a k.0) ∙ scalar_now b k.1
    scalar_now (Apply f es) h = scalars_now es h
    scalar_now (Constructor es ls) h = cc
    scalar_now (Spread a k e) h = cc
    scalar_now (Transpose a) h = cc
    scalar_now (Reshape a es) h = cc
    scalar_now (Reduce r a) h = refl

    scalars_now : (es : Expressions) → are_scalar es (bounds_by p.declarations) ≡ true → are_scalar es s.bounds ≡ true
    scalars_now no_expressions h = refl
    scalars_now (expression e es) h =
        let k = both (is_scalar e (bounds_by p.declarations)) (are_scalar es (bounds_by p.declarations)) h in
        ap (λ c. c && are_scalar es s.bounds) (scalar_now e k.0) ∙ scalars_now es k.1

    indices_now : (ps : Subscripts) → are_indices ps (bounds_by p.declarations) ≡ true → are_indices ps s.bounds ≡ true
    indices_now no_subscripts h = refl
    indices_now (subscript q qs) h =
        let k = both (is_index q (bounds_by p.declarations)) (are_indices qs (bounds_by p.declarations)) h in
        ap (λ c. c && are_indices qs s.bounds) (index_now q k.0) ∙ indices_now qs k.1

    index_now : (q : Subscript) → is_index q (bounds_by p.declarations) ≡ true → is_index q s.bounds ≡ true
    index_now (Only e) h = scalar_now e h
    index_now (Section a b c) h = cc

-- ---- the section

pub one_subscript : (i : List ℕ) (ps : Subscripts) → one_is_variable i ps ≡ true → OneIsVariable i ps
one_subscript i no_subscripts e = cc
one_subscript i (subscript p ps) e = by (one_subscript i ps) (is_variable i p) e
  where
    by : (one_is_variable i ps ≡ true → OneIsVariable i ps) → (b : Bool) → cond b (not (stands_in_subscripts i ps)) (not (stands_in_subscript i p) && one_is_variable i ps) ≡ true
        → Rattle.reduction_laws.specs.gathering.Gathering.either b (¬ (In i (names_in_subscripts ps))) (¬ (In i (names_in_subscript p)) × OneIsVariable i ps)
    by more true e = apart_subs i ps (no (stands_in_subscripts i ps) e)
    by more false e =
        let h = both (not (stands_in_subscript i p)) (one_is_variable i ps) e in
        (apart_sub i p (no (stands_in_subscript i p) h.0), more h.1)

-- ---- a reducible loop

pub record Conditions (w : Context) (l : Loop) : Type 0 where
  pub made : is_source l.variable ≡ false
  pub unread : w.reads l.variable ≡ false
  pub free : is_hidden w (name_of_reduction (gatherer l.how)) ≡ false
  pub left : is_scalar (named l.left) (bounds_by w.declarations) ≡ true
  pub operand : is_scalar l.operand (bounds_by w.declarations) ≡ true
  pub own_left : stands_in_subscripts l.left.name l.left.subscripts ≡ false
  pub own_variable : stands_in_subscripts l.variable l.left.subscripts ≡ false
  pub trip_left : stands_in l.left.name l.trip ≡ false
  pub trip_variable : stands_in l.variable l.trip ≡ false
  pub operand_left : stands_in l.left.name l.operand ≡ false

pub conditions : (w : Context) (l : Loop) → is_reducible w l ≡ true → Conditions w l
conditions w l e =
    let a = both (has_own_variable w l) (not (is_hidden w (name_of_reduction (gatherer l.how))) && (has_scalars w l && is_apart l)) e in
    let b = both (not (is_hidden w (name_of_reduction (gatherer l.how)))) (has_scalars w l && is_apart l) a.1 in
    let c = both (has_scalars w l) (is_apart l) b.1 in
    let o = both (not (is_source l.variable)) (not (w.reads l.variable)) a.0 in
    let d = both (is_scalar (named l.left) (bounds_by w.declarations)) (is_scalar l.operand (bounds_by w.declarations)) c.0 in
    let f = both (not (stands_in_subscripts l.left.name l.left.subscripts)) (not (stands_in_subscripts l.variable l.left.subscripts) && (not (stands_in l.left.name l.trip) && (not (stands_in l.variable l.trip) && not (stands_in l.left.name l.operand)))) c.1 in
    let g = both (not (stands_in_subscripts l.variable l.left.subscripts)) (not (stands_in l.left.name l.trip) && (not (stands_in l.variable l.trip) && not (stands_in l.left.name l.operand))) f.1 in
    let h = both (not (stands_in l.left.name l.trip)) (not (stands_in l.variable l.trip) && not (stands_in l.left.name l.operand)) g.1 in
    let i = both (not (stands_in l.variable l.trip)) (not (stands_in l.left.name l.operand)) h.1 in
    record {
      made = no (is_source l.variable) o.0;
      unread = no (w.reads l.variable) o.1;
      free = no (is_hidden w (name_of_reduction (gatherer l.how))) b.0;
      left = d.0;
      operand = d.1;
      own_left = no (stands_in_subscripts l.left.name l.left.subscripts) f.0;
      own_variable = no (stands_in_subscripts l.variable l.left.subscripts) g.0;
      trip_left = no (stands_in l.left.name l.trip) h.0;
      trip_variable = no (stands_in l.variable l.trip) i.0;
      operand_left = no (stands_in l.left.name l.operand) i.1;
    }

-- what the profile says of it
pub record Typed (ds : List Declaration) (l : Loop) (w : Surroundings) : Type 0 where
  pub integer : IsIntegerScalar ds l.variable
  pub around : ¬ Contains w.variables l.variable
  pub trip : HasKind ds l.trip Integer
  pub left : HasKind ds (named l.left) Integer
  pub operand : HasKind ds l.operand Integer
  pub apart : ¬ (l.variable ≡ l.left.name)

pub typed : (ds : List Declaration) (y : Lines) (l : Loop) (w : Surroundings) → IsStatement ds (loop_of y l) w → Typed ds l w
typed ds y l w h =
    let a = h.5.0.1 in
    let k = kinds (declared ds l.left.name) a.0 in
    record {
      integer = h.1.integer;
      around = h.1.free;
      trip = h.3.suits.0;
      left = k.0;
      operand = k.1;
      apart = λ e. a.2 (subst (λ x. Contains (l.variable ∷ w.variables) x) e (here l.variable w.variables));
    }
  where
    kinds : (o : Option Declaration) → IsSomeAnd o (λ d. IsWhole ds (named l.left) d.kind × IsWhole ds (in_turn l.how (named l.left) l.operand) d.kind) → HasKind ds (named l.left) Integer × HasKind ds l.operand Integer
    kinds (Some d) k = operands ds l.how (named l.left) l.operand d.kind k.1.suits
    kinds None k = absurd k

pub reducible_loop : (w : Context) (ds : List Declaration) (l : Loop) (v : Surroundings) → Conditions w l → Typed ds l v → IsReducible l
reducible_loop w ds l v c t = record {
  apart = t.apart;
  subscripts = λ y i. (
    λ e. apart_subs l.left.name l.left.subscripts c.own_left (subst (λ z. In z (names_in_subscripts l.left.subscripts)) e i),
    λ e. apart_subs l.variable l.left.subscripts c.own_variable (subst (λ z. In z (names_in_subscripts l.left.subscripts)) e i),
  );
  operand = apart l.left.name (names_in l.operand) c.operand_left;
}

module _ (lang : Dialect) (p : Program) (s : Store) (holds : HoldsProgram lang p s) where
  pub may_start : (l : Loop) (v : Surroundings) → Conditions (context_of p) l → Typed p.declarations l v → lang.arrays ≡ true → lang.bits ≤ 64 → HoldsInRange lang.bits s → MayStart lang l s
  may_start l v c t arrays bits range = record {
    arrays = arrays;
    bits = bits;
    scalar = scalar_now lang p s holds (named l.left) c.left;
    held = range;
    literals = literals p.declarations l.operand Integer t.operand;
  }

  pub section : (l : Loop) → Conditions (context_of p) l → may_be_section l.variable l.operand ≡ true → MayBeSection l s
  section l c e = by l.operand refl e (scalar_now lang p s holds l.operand c.operand)
    where
      by : (f : Expression) → l.operand ≡ f → may_be_section l.variable f ≡ true → is_scalar f s.bounds ≡ true → MayBeSection l s
      by (Named x ps) g e h = record { name = x; subscripts = ps; operand = g; one = one_subscript l.variable ps e; scalar = h }
      by (Number n) g e h = cc
      by (Logic b) g e h = cc
      by (Unary o a) g e h = cc
      by (Binary o a b) g e h = cc
      by (Apply f es) g e h = cc
      by (Constructor es ls) g e h = cc
      by (Spread a k f) g e h = cc
      by (Transpose a) g e h = cc
      by (Reshape a es) g e h = cc
      by (Reduce r a) g e h = cc
