-- A statement with forms in the place of inductions: its names, kinds and depths.
use Rattle.std.proofs.Common.{◌≡◌, refl, sym, ◌∙◌, subst, ℕ, zero, suc, ◌+◌, ◌≤◌, ℤ, pos, negsuc, Bool, true, false, cond, List, [], ◌∷◌, ◌++◌, Option, Some, None, IfSome, arith}
use Rattle.std.specs.Option.{option_map}
use Rattle.std.specs.Prelude.{All, ◌==◌}
use Rattle.std.proofs.lemmas.List.Elements.{All-cons, All-head, All-nil, All-tail}
use Rattle.tree.specs.Plain.{Apply, Binary, Constructor, Declaration, Expression, Expressions, Logic, Named, Number, Only, Reduce, Reference, Reshape, Section, Spread, Subscript, Subscripts, Transpose, Unary, expression, no_expressions, no_subscripts, subscript}
use Rattle.tree.specs.declared.ops.Kind.{Kind}
use Rattle.tree.specs.declared.ops.Kind.TheVariants.{Logical}
use Rattle.tree.specs.declared.ops.Op.TheVariants.{Mul}
use Rattle.meaning.specs.Depths.{depth_of}
use Rattle.meaning.specs.Typed90.{IsIntegerScalar, IsScalar}
use Rattle.meaning.specs.Value.{named}
use Rattle.rewrite.specs.Making.{Making, made, made_expressions, made_left, made_subscript, made_subscripts}
use Rattle.rewrite.specs.Profile.{DeclaresAlso, KeepsProfile}
use Rattle.rewrite.specs.Suits.{Suiting}
use Rattle.rewrite.proofs.Profiles.{Becomes-left, Becomes-made, depth-alone}
use Rattle.linear_forms.specs.Expressed.{minus_term, plus_term, term, variable, with_constant, with_term}
use Rattle.nest.specs.Plain.{Guarded}
use Rattle.nest_rewrite.specs.Statements.{rewritten_statement}
use Rattle.pass_laws.proofs.NormalFacts.Texts.{AreOver, EachIsOver, GuardIsOver, IsOver, IsStatementOver, OneIsOver}
use Rattle.pass_laws.specs.prepared_nests.Statements.{expressions_of, guard_or_none}
use Rattle.inductions.specs.Putting.{constant_at, found, induction_in, putting, form_text_or, induction_text}
use Rattle.inductions.specs.Together.{forms_suit, is_free, is_own}
use Rattle.inductions.specs.declared.found.Induction.{Induction}
use Rattle.inductions.proofs.Suited.{subscripts_suit, suits}
use Rattle.inductions.proofs.Together.{found-name}

-- ---- names

module _ (P : List ℕ → Type 0) where
  abbrev SoFar : Option Expression → Type 0
  SoFar None = Unit {0}
  SoFar (Some e) = IsOver P e

  term_over : (n : ℕ) (t : Expression) → IsOver P t → IsOver P (term n t)
  term_over n t h = by (n == 1)
    where
      by : (b : Bool) → IsOver P (cond b t (Binary Mul (Number (pos n)) t))
      by true = h
      by false = (tt, h)

  plus_over : (o : Option Expression) (t : Expression) → SoFar o → IsOver P t → IsOver P (plus_term o t)
  plus_over None t h k = k
  plus_over (Some e) t h k = (h, k)

  minus_over : (o : Option Expression) (t : Expression) → SoFar o → IsOver P t → IsOver P (minus_term o t)
  minus_over None t h k = k
  minus_over (Some e) t h k = (h, k)

  one_over : (o : Option Expression) (c : ℤ) (t : Expression) → SoFar o → IsOver P t → SoFar (with_term o c t)
  one_over o (pos zero) t h k = h
  one_over o (pos (suc n)) t h k = plus_over o (term (suc n) t) h (term_over (suc n) t k)
  one_over o (negsuc n) t h k = minus_over o (term (suc n) t) h (term_over (suc n) t k)

  constant_over : (o : Option Expression) (z : ℤ) → SoFar o → IsOver P (with_constant o z)
  constant_over None (pos n) h = tt
  constant_over None (negsuc n) h = tt
  constant_over (Some e) (pos zero) h = h
  constant_over (Some e) (pos (suc n)) h = (h, tt)
  constant_over (Some e) (negsuc n) h = (h, tt)

  module _ (counter : List ℕ) (ds : List Induction) (k : ℕ) (counts : P counter) where
    text_over : (d : Induction) → P d.name → IsOver P (induction_text counter d k)
    text_over d h =
        constant_over (with_term (with_term None d.step (variable counter)) (pos 1) (variable d.name)) (constant_at d k)
        (one_over (with_term None d.step (variable counter)) (pos 1) (variable d.name) (one_over None d.step (variable counter) tt (counts, tt)) (h, tt))

    bare_over : (x : List ℕ) → P x → IsOver P (form_text_or counter k (found ds x) (Named x no_subscripts))
    bare_over x h = by (found ds x) refl
      where
        by : (o : Option Induction) → found ds x ≡ o → IsOver P (form_text_or counter k o (Named x no_subscripts))
        by None e = (h, tt)
        by (Some d) e = text_over d (subst P (sym (found-name ds x d e)) h)

    node_over : (e : Expression) → IsOver P e → IsOver P (form_text_or counter k (induction_in ds e) e)
    node_over (Named x no_subscripts) h = bare_over x h.0
    node_over (Named x (subscript p ps)) h = h
    node_over (Number n) h = h
    node_over (Logic b) h = h
    node_over (Unary o a) h = h
    node_over (Binary o a b) h = h
    node_over (Apply f es) h = h
    node_over (Constructor es ls) h = h
    node_over (Spread a n e) h = h
    node_over (Transpose a) h = h
    node_over (Reshape a es) h = h
    node_over (Reduce r a) h = h

    abbrev M : Making
    M = putting counter ds k

    mutual
      put_over : (e : Expression) → IsOver P e → IsOver P (made (putting counter ds k) e)
      put_over (Number n) h = node_over (Number n) h
      put_over (Logic b) h = node_over (Logic b) h
      put_over (Named x ss) h = node_over (Named x (made_subscripts (putting counter ds k) ss)) (h.0, put_over_in ss h.1)
      put_over (Unary o a) h = node_over (Unary o (made (putting counter ds k) a)) (put_over a h)
      put_over (Binary o a b) h = node_over (Binary o (made (putting counter ds k) a) (made (putting counter ds k) b)) (put_over a h.0, put_over b h.1)
      put_over (Apply f es) h = node_over (Apply f (made_expressions (putting counter ds k) es)) (put_over_each es h)
      put_over (Constructor es ls) h = absurd h
      put_over (Spread a n e) h = absurd h
      put_over (Transpose a) h = absurd h
      put_over (Reshape a es) h = absurd h
      put_over (Reduce r a) h = absurd h

      put_over_each : (es : Expressions) → EachIsOver P es → EachIsOver P (made_expressions (putting counter ds k) es)
      put_over_each no_expressions h = tt
      put_over_each (expression e es) h = (put_over e h.0, put_over_each es h.1)

      put_over_in : (ss : Subscripts) → AreOver P ss → AreOver P (made_subscripts (putting counter ds k) ss)
      put_over_in no_subscripts h = tt
      put_over_in (subscript s ss) h = (put_over_one s h.0, put_over_in ss h.1)

      put_over_one : (s : Subscript) → OneIsOver P s → OneIsOver P (made_subscript (putting counter ds k) s)
      put_over_one (Only e) h = put_over e h
      put_over_one (Section a b c) h = absurd h

    put_guard : (o : Option Expression) → GuardIsOver P o → GuardIsOver P (option_map (made (putting counter ds k)) o)
    put_guard None h = tt
    put_guard (Some e) h = put_over e h

    pub put_statement : (g : Guarded) → IsStatementOver P g → IsStatementOver P (rewritten_statement (putting counter ds k) g)
    put_statement g h = record {
      guard = put_guard g.guard h.guard;
      name = h.name;
      left = put_over_in g.left.subscripts h.left;
      right = put_over g.right h.right;
    }

-- ---- kinds and depths

alike : (es : List Declaration) → DeclaresAlso es es
alike es = record { names = λ x d e. e; free = λ f h. h }

module _ (es : List Declaration) (counter : List ℕ) (others : List ℕ → Bool) (ds : List Induction) (k : ℕ) (scalars : (x : List ℕ) → is_own ds x ≡ true → IsIntegerScalar es x)
    (keeps : KeepsProfile es 5 (putting counter ds k) (forms_suit others ds)) where
  abbrev N : Making
  N = putting counter ds k

  abbrev S : Suiting
  S = forms_suit others ds

  deeper : (a b d : ℕ) → a ≤ b + 5 → b ≤ d → a ≤ d + 5
  deeper a b d h l = omega (arith, h, l)

  record IsScalarIn (e : Expression) (q : Kind) (d : ℕ) : Type 0 where
    kind : IsScalar es e q
    deep : depth_of e ≤ d

  one_put : (e : Expression) (q : Kind) (d : ℕ) → IsScalar es e q → depth_of e ≤ d → IsScalarIn (made (putting counter ds k) e) q (d + 5)
  one_put e q d h deep =
      let r = Becomes-made es es (alike es) 5 N S keeps e q (suits es counter others ds k scalars e q h.0) h.0 in
      record { kind = (r.kind, r.rank ∙ h.1); deep = deeper (depth_of (made N e)) (depth_of e) d (depth-alone es es (alike es) 5 N S keeps e (made N e) q r) deep }

  left_put : (l : Reference) (q : Kind) (d : ℕ) → is_free others ds l.name ≡ true → IsScalar es (named l) q → depth_of (named l) ≤ d
      → IsScalarIn (named (made_left (putting counter ds k) l)) q (d + 5)
  left_put l q d free h deep =
      let r = Becomes-left es es (alike es) 5 N S keeps l q (free, subscripts_suit es counter others ds k scalars l.subscripts h.0.1) h.0 in
      record {
        kind = (r.kind, r.rank ∙ h.1);
        deep = deeper (depth_of (named (made_left N l))) (depth_of (named l)) d (depth-alone es es (alike es) 5 N S keeps (named l) (named (made_left N l)) q r) deep;
      }

  abbrev IsDeep : ℕ → Expression → Type 0
  IsDeep d e = depth_of e ≤ d

  pub record ArePut (g : Guarded) (q : Kind) (d : ℕ) : Type 0 where
    pub left : IsScalar es (named g.left) q
    pub right : IsScalar es g.right q
    pub guard : IfSome g.guard (λ (e : Expression). IsScalar es e Logical)
    pub deep : All (λ (e : Expression). depth_of e ≤ d) (expressions_of g)

  pub put_kinds : (g : Guarded) (q : Kind) (d : ℕ) → is_free others ds g.left.name ≡ true → ArePut g q d
      → ArePut (rewritten_statement (putting counter ds k) g) q (d + 5)
  put_kinds g q d free h = by g.guard h.guard h.deep
    where
      both : All (IsDeep d) (named g.left ∷ g.right ∷ []) → IsScalarIn (named (made_left N g.left)) q (d + 5) × IsScalarIn (made N g.right) q (d + 5)
      both deep = (
        left_put g.left q d free h.left (All-head (IsDeep d) (named g.left) (g.right ∷ []) deep),
        one_put g.right q d h.right (All-head (IsDeep d) g.right [] (All-tail (IsDeep d) (named g.left) (g.right ∷ []) deep)),
      )

      sides : IsScalarIn (named (made_left N g.left)) q (d + 5) × IsScalarIn (made N g.right) q (d + 5) → All (IsDeep (d + 5)) (named (made_left N g.left) ∷ made N g.right ∷ [])
      sides p =
          All-cons (IsDeep (d + 5)) (named (made_left N g.left)) (made N g.right ∷ []) p.0.deep
          (All-cons (IsDeep (d + 5)) (made N g.right) [] p.1.deep (All-nil (IsDeep (d + 5))))

      by : (o : Option Expression) → IfSome o (λ (e : Expression). IsScalar es e Logical) → All (IsDeep d) (guard_or_none o ++ named g.left ∷ g.right ∷ [])
          → ArePut (rewritten_statement N (record g { guard = o })) q (d + 5)
      by None t deep =
          let p = both deep in
          record { left = p.0.kind; right = p.1.kind; guard = tt; deep = sides p }
      by (Some e) t deep =
          let p = both (All-tail (IsDeep d) e (named g.left ∷ g.right ∷ []) deep) in
          let r = one_put e Logical d t (All-head (IsDeep d) e (named g.left ∷ g.right ∷ []) deep) in
          record {
            left = p.0.kind;
            right = p.1.kind;
            guard = r.kind;
            deep = All-cons (IsDeep (d + 5)) (made N e) (named (made_left N g.left) ∷ made N g.right ∷ []) r.deep (sides p);
          }
