-- What was brought into canonical text stays as it is.
use Rattle.std.proofs.Common.{◌≡◌, refl, sym, ap, ◌∙◌, ℕ, ◌≤◌, Bool, true, false, cond, ◌||◌, List, [], ◌∷◌, ◌++◌, length, Option, Some, None}
use Rattle.std.specs.List.{list_any}
use Rattle.std.proofs.lemmas.List.Folds.{list_any-append}
use mathlib.Core.Path.{ap₂}
use Rattle.tree.specs.Plain.{Expression, Number, Logic, Named, Unary, Binary, Apply, Constructor, Spread, Transpose, Reshape, Reduce, Expressions, no_expressions, expression, Subscript, Only, Section, Subscripts, no_subscripts, subscript, Loops, no_loops, loop}
use Rattle.meaning.specs.Names.{is_among}
use Rattle.rewrite.specs.Making.{made, made_expressions, made_subscripts, made_subscript, made_loops}
use Rattle.rewrite.specs.Names.{mentions, uses_in, uses_in_expressions, uses_in_subscripts, uses_in_subscript, uses_in_loops}
use Rattle.rewrite.specs.declared.uses.Use.{Use}
use Rattle.linear_forms.specs.Canonical.{text_or, canonical_text, canonical_node, canonising}
use Rattle.linear_forms.specs.CanonicalLaws.{AreDistinct, CanonicalTextStays}
use Rattle.linear_forms.specs.Linear.{Form, form_of}
use Rattle.linear_forms.specs.Expressed.{expressed, variables}
use Rattle.linear_forms.proofs.CanonicalTwice.{whole_form, text_settled}
use Rattle.linear_forms.proofs.TextsKeep.{text_limited}

neither : (a b : Bool) → (a || b) ≡ false → (a ≡ false) × (b ≡ false)
neither true b h = cc
neither false b h = (refl, h)

module _ (loops symbols : List (List ℕ)) where
  abbrev node : Expression → Expression → Expression
  node = canonical_node loops symbols

  abbrev settled : Expression → Expression
  settled = made (canonising loops symbols)

  abbrev settled_each : Expressions → Expressions
  settled_each = made_expressions (canonising loops symbols)

  abbrev settled_subscripts : Subscripts → Subscripts
  settled_subscripts = made_subscripts (canonising loops symbols)

  abbrev settled_subscript : Subscript → Subscript
  settled_subscript = made_subscript (canonising loops symbols)

  abbrev settled_loops : Loops → Loops
  settled_loops = made_loops (canonising loops symbols)

  -- ---- where no loop's variable stands, nothing changes

  abbrev is_loop : Use → Bool
  is_loop u = is_among loops u.name

  abbrev HasNone : List Use → Type 0
  HasNone us = list_any is_loop us ≡ false

  halves : (us ws : List Use) → HasNone (us ++ ws) → HasNone us × HasNone ws
  halves us ws h = neither (list_any is_loop us) (list_any is_loop ws) (sym (list_any-append is_loop us ws) ∙ h)

  left_alone : (first e : Expression) → HasNone (uses_in first) → node first e ≡ e
  left_alone first e h = ap (λ b. cond b (canonical_text loops symbols e) e) h

  mutual
    untouched : (e : Expression) → HasNone (uses_in e) → settled e ≡ e
    untouched (Number n) h = left_alone (Number n) (Number n) h
    untouched (Logic b) h = left_alone (Logic b) (Logic b) h
    untouched (Named x ps) h =
        let rest = (neither (is_among loops x) (list_any is_loop (uses_in_subscripts ps)) h).1 in
        left_alone (Named x ps) (Named x (settled_subscripts ps)) h ∙ ap (Named x) (untouched_subscripts ps rest)
    untouched (Unary o a) h = left_alone (Unary o a) (Unary o (settled a)) h ∙ ap (Unary o) (untouched a h)
    untouched (Binary o a b) h =
        let parts = halves (uses_in a) (uses_in b) h in
        left_alone (Binary o a b) (Binary o (settled a) (settled b)) h ∙ ap₂ (Binary o) (untouched a parts.0) (untouched b parts.1)
    untouched (Apply f es) h = left_alone (Apply f es) (Apply f (settled_each es)) h ∙ ap (Apply f) (untouched_each es h)
    untouched (Constructor es ls) h =
        let parts = halves (uses_in_expressions es) (uses_in_loops ls) h in
        left_alone (Constructor es ls) (Constructor (settled_each es) (settled_loops ls)) h ∙ ap₂ Constructor (untouched_each es parts.0) (untouched_loops ls parts.1)
    untouched (Spread a k b) h =
        let parts = halves (uses_in a) (uses_in b) h in
        left_alone (Spread a k b) (Spread (settled a) k (settled b)) h ∙ ap₂ (λ a b. Spread a k b) (untouched a parts.0) (untouched b parts.1)
    untouched (Transpose a) h = left_alone (Transpose a) (Transpose (settled a)) h ∙ ap Transpose (untouched a h)
    untouched (Reshape a es) h =
        let parts = halves (uses_in a) (uses_in_expressions es) h in
        left_alone (Reshape a es) (Reshape (settled a) (settled_each es)) h ∙ ap₂ Reshape (untouched a parts.0) (untouched_each es parts.1)
    untouched (Reduce r a) h = left_alone (Reduce r a) (Reduce r (settled a)) h ∙ ap (Reduce r) (untouched a h)

    untouched_each : (es : Expressions) → HasNone (uses_in_expressions es) → settled_each es ≡ es
    untouched_each no_expressions h = refl
    untouched_each (expression e es) h =
        let parts = halves (uses_in e) (uses_in_expressions es) h in
        ap₂ expression (untouched e parts.0) (untouched_each es parts.1)

    untouched_subscripts : (ps : Subscripts) → HasNone (uses_in_subscripts ps) → settled_subscripts ps ≡ ps
    untouched_subscripts no_subscripts h = refl
    untouched_subscripts (subscript p ps) h =
        let parts = halves (uses_in_subscript p) (uses_in_subscripts ps) h in
        ap₂ subscript (untouched_subscript p parts.0) (untouched_subscripts ps parts.1)

    untouched_subscript : (p : Subscript) → HasNone (uses_in_subscript p) → settled_subscript p ≡ p
    untouched_subscript (Only e) h = ap Only (untouched e h)
    untouched_subscript (Section a b c) h =
        let parts = halves (uses_in a ++ uses_in b) (uses_in c) h in
        let more = halves (uses_in a) (uses_in b) parts.0 in
        let p = untouched a more.0 in
        let q = untouched b more.1 in
        let r = untouched c parts.1 in
        (λ n. Section (p n) (q n) (r n))

    untouched_loops : (ls : Loops) → HasNone (uses_in_loops ls) → settled_loops ls ≡ ls
    untouched_loops no_loops h = refl
    untouched_loops (loop x a b ls) h =
        let parts = halves (uses_in a ++ uses_in b) (uses_in_loops ls) h in
        let more = halves (uses_in a) (uses_in b) parts.0 in
        let p = untouched a more.0 in
        let q = untouched b more.1 in
        let r = untouched_loops ls parts.1 in
        (λ n. loop x (p n) (q n) (r n))

  -- ---- twice is as once

  module _ (few : length loops ≤ 7) (apart : AreDistinct (loops ++ symbols)) where
    -- e and the node of what was made of its parts, of which each stays
    again : (e i : Expression) → settled e ≡ node e i → settled i ≡ node i i → settled (settled e) ≡ settled e
    again e i first second = by (mentions loops e) refl
      where
        formed : settled e ≡ canonical_text loops symbols i → (o : Option Form) → form_of loops symbols i ≡ o → settled (settled e) ≡ settled e
        formed is (Some f) g =
            let text : settled e ≡ expressed (variables (loops ++ symbols)) f = is ∙ ap (λ o. text_or loops symbols o i) g in
            let limits = text_limited (length loops) (loops ++ symbols) i f (sym (whole_form loops symbols few i) ∙ g) in
            ap settled text ∙ (text_settled loops symbols few apart f limits ∙ sym text)
        formed is None g =
            let none : canonical_text loops symbols i ≡ i = ap (λ o. text_or loops symbols o i) g in
            let same : settled e ≡ i = is ∙ none in
            ap settled same ∙ (second ∙ (kept (mentions loops i) none ∙ sym same))
          where
            kept : (b : Bool) → canonical_text loops symbols i ≡ i → cond b (canonical_text loops symbols i) i ≡ i
            kept true h = h
            kept false h = refl

        by : (b : Bool) → mentions loops e ≡ b → settled (settled e) ≡ settled e
        by true h = formed (first ∙ ap (λ b. cond b (canonical_text loops symbols i) i) h) (form_of loops symbols i) refl
        by false h = ap settled (untouched e h)

    mutual
      pub twice : (e : Expression) → settled (settled e) ≡ settled e
      twice (Number n) = again (Number n) (Number n) refl refl
      twice (Logic b) = again (Logic b) (Logic b) refl refl
      twice (Named x ps) =
          let i = Named x (settled_subscripts ps) in
          again (Named x ps) i refl (ap (λ ps. node i (Named x ps)) (subscripts_twice ps))
      twice (Unary o a) =
          let i = Unary o (settled a) in
          again (Unary o a) i refl (ap (λ a. node i (Unary o a)) (twice a))
      twice (Binary o a b) =
          let i = Binary o (settled a) (settled b) in
          again (Binary o a b) i refl (ap₂ (λ a b. node i (Binary o a b)) (twice a) (twice b))
      twice (Apply f es) =
          let i = Apply f (settled_each es) in
          again (Apply f es) i refl (ap (λ es. node i (Apply f es)) (each_twice es))
      twice (Constructor es ls) =
          let i = Constructor (settled_each es) (settled_loops ls) in
          again (Constructor es ls) i refl (ap₂ (λ es ls. node i (Constructor es ls)) (each_twice es) (loops_twice ls))
      twice (Spread a k b) =
          let i = Spread (settled a) k (settled b) in
          again (Spread a k b) i refl (ap₂ (λ a b. node i (Spread a k b)) (twice a) (twice b))
      twice (Transpose a) =
          let i = Transpose (settled a) in
          again (Transpose a) i refl (ap (λ a. node i (Transpose a)) (twice a))
      twice (Reshape a es) =
          let i = Reshape (settled a) (settled_each es) in
          again (Reshape a es) i refl (ap₂ (λ a es. node i (Reshape a es)) (twice a) (each_twice es))
      twice (Reduce r a) =
          let i = Reduce r (settled a) in
          again (Reduce r a) i refl (ap (λ a. node i (Reduce r a)) (twice a))

      pub each_twice : (es : Expressions) → settled_each (settled_each es) ≡ settled_each es
      each_twice no_expressions = refl
      each_twice (expression e es) = ap₂ expression (twice e) (each_twice es)

      pub subscripts_twice : (ps : Subscripts) → settled_subscripts (settled_subscripts ps) ≡ settled_subscripts ps
      subscripts_twice no_subscripts = refl
      subscripts_twice (subscript p ps) = ap₂ subscript (subscript_twice p) (subscripts_twice ps)

      pub subscript_twice : (p : Subscript) → settled_subscript (settled_subscript p) ≡ settled_subscript p
      subscript_twice (Only e) = ap Only (twice e)
      subscript_twice (Section a b c) =
          let p = twice a in
          let q = twice b in
          let r = twice c in
          (λ n. Section (p n) (q n) (r n))

      pub loops_twice : (ls : Loops) → settled_loops (settled_loops ls) ≡ settled_loops ls
      loops_twice no_loops = refl
      loops_twice (loop x a b ls) =
          let p = twice a in
          let q = twice b in
          let r = loops_twice ls in
          (λ n. loop x (p n) (q n) (r n))

pub canonical_text_stays : CanonicalTextStays
canonical_text_stays loops symbols e few apart = twice loops symbols few apart e
