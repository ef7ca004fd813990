-- An expression in which no variable of a loop stands is canonical text.
use Rattle.std.proofs.Common.{◌≡◌, refl, ap, ap₂, ◌∙◌, ℕ, Bool, true, false, ◌||◌, cond, List, [], ◌∷◌, ◌++◌}
use Rattle.std.specs.List.{list_any}
use Rattle.meaning.specs.Names.{is_among}
use Rattle.rewrite.specs.Making.{Making, made, made_expressions, made_subscripts}
use Rattle.rewrite.specs.Names.{uses_in, uses_in_expressions, uses_in_subscripts}
use Rattle.rewrite.specs.declared.uses.Use.{Use}
use Rattle.tree.specs.Plain.{Expression, Number, Logic, Named, Unary, Binary, Apply, Constructor, Spread, Transpose}
use Rattle.tree.specs.Plain.{Reshape, Reduce, Expressions, no_expressions, expression, Only, Section}
use Rattle.tree.specs.Plain.{Subscripts, no_subscripts, subscript}
use Rattle.linear_forms.specs.Canonical.{canonical_node, canonical_text, canonising}
use Rattle.pass_laws.proofs.NormalFacts.Texts.{AreOver, EachIsOver, IsOver}

any_none : (test : Use → Bool) (us ws : List Use) → list_any test us ≡ false → list_any test ws ≡ false → list_any test (us ++ ws) ≡ false
any_none test [] ws h k = k
any_none test (u ∷ us) ws h k = by (test u) refl h (λ f. any_none test us ws f k)
  where
    by : (b : Bool) → test u ≡ b → (b || list_any test us) ≡ false → (list_any test us ≡ false → list_any test (us ++ ws) ≡ false) → (test u || list_any test (us ++ ws)) ≡ false
    by true e f more = let no : ⊥ = cc in absurd no
    by false e f more = ap (λ b. b || list_any test (us ++ ws)) e ∙ more f

-- it is none of these variables
abbrev pub IsOther : List (List ℕ) → List ℕ → Type 0
IsOther loops x = is_among loops x ≡ false

module _ (loops symbols : List (List ℕ)) where
  abbrev counts : Use → Bool
  counts u = is_among loops u.name

  mutual
    unused : (e : Expression) → IsOver (IsOther loops) e → list_any counts (uses_in e) ≡ false
    unused (Number n) h = refl
    unused (Logic b) h = refl
    unused (Named x ss) h = ap (λ b. b || list_any counts (uses_in_subscripts ss)) h.0 ∙ unused_in ss h.1
    unused (Unary o a) h = unused a h
    unused (Binary o a b) h = any_none counts (uses_in a) (uses_in b) (unused a h.0) (unused b h.1)
    unused (Apply f es) h = unused_each es h
    unused (Constructor es ls) h = absurd h
    unused (Spread a n e) h = absurd h
    unused (Transpose a) h = absurd h
    unused (Reshape a es) h = absurd h
    unused (Reduce r a) h = absurd h

    unused_each : (es : Expressions) → EachIsOver (IsOther loops) es → list_any counts (uses_in_expressions es) ≡ false
    unused_each no_expressions h = refl
    unused_each (expression e es) h = any_none counts (uses_in e) (uses_in_expressions es) (unused e h.0) (unused_each es h.1)

    unused_in : (ss : Subscripts) → AreOver (IsOther loops) ss → list_any counts (uses_in_subscripts ss) ≡ false
    unused_in no_subscripts h = refl
    unused_in (subscript (Only e) ss) h = any_none counts (uses_in e) (uses_in_subscripts ss) (unused e h.0) (unused_in ss h.1)
    unused_in (subscript (Section a b s) ss) h = absurd h.0

  abbrev rule : Making
  rule = canonising loops symbols

  node_stays : (first e : Expression) → IsOver (IsOther loops) first → canonical_node loops symbols first e ≡ e
  node_stays first e h = ap (λ b. cond b (canonical_text loops symbols e) e) (unused first h)

  mutual
    pub stays : (e : Expression) → IsOver (IsOther loops) e → made rule e ≡ e
    stays (Number n) h = node_stays (Number n) (Number n) h
    stays (Logic b) h = node_stays (Logic b) (Logic b) h
    stays (Named x ss) h = node_stays (Named x ss) (Named x (made_subscripts rule ss)) h ∙ ap (Named x) (stays_in ss h.1)
    stays (Unary o a) h = node_stays (Unary o a) (Unary o (made rule a)) h ∙ ap (Unary o) (stays a h)
    stays (Binary o a b) h = node_stays (Binary o a b) (Binary o (made rule a) (made rule b)) h ∙ ap₂ (Binary o) (stays a h.0) (stays b h.1)
    stays (Apply f es) h = node_stays (Apply f es) (Apply f (made_expressions rule es)) h ∙ ap (Apply f) (stays_each es h)
    stays (Constructor es ls) h = absurd h
    stays (Spread a n e) h = absurd h
    stays (Transpose a) h = absurd h
    stays (Reshape a es) h = absurd h
    stays (Reduce r a) h = absurd h

    stays_each : (es : Expressions) → EachIsOver (IsOther loops) es → made_expressions rule es ≡ es
    stays_each no_expressions h = refl
    stays_each (expression e es) h = ap₂ expression (stays e h.0) (stays_each es h.1)

    stays_in : (ss : Subscripts) → AreOver (IsOther loops) ss → made_subscripts rule ss ≡ ss
    stays_in no_subscripts h = refl
    stays_in (subscript (Only e) ss) h = ap₂ (λ d ds. subscript (Only d) ds) (stays e h.0) (stays_in ss h.1)
    stays_in (subscript (Section a b s) ss) h = absurd h.0
