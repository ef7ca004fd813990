-- The forms suit statements whose kinds and ranks suit: a name with subscripts is no scalar.
use Rattle.std.proofs.Common.{◌≡◌, refl, ◌∙◌, ℕ, Bool, true, false, not, List, Option, Some, None, IfSome, arith}
use Rattle.std.specs.Option.{IsSomeAnd}
use Rattle.std.specs.Prelude.{IsTrue}
use Rattle.tree.specs.Plain.{Apply, Binary, Constructor, Declaration, Expression, Expressions, Logic, Loops, Named, Number, Only, Reduce, Reshape, Section, Spread, Subscript, Subscripts, Transpose, Unary, expression, loop, no_expressions, no_loops, no_subscripts, subscript}
use Rattle.tree.specs.declared.ops.Kind.{Kind}
use Rattle.tree.specs.declared.ops.Kind.TheVariants.{Integer, Logical}
use Rattle.tree.specs.OperatorTable.{operand_kind}
use Rattle.meaning.specs.Typed.{declared, number_of_subscripts, rank_of_extent}
use Rattle.meaning.specs.Typed90.{AreArguments, AreLoops, AreScalars, AreSubscripts, HasKind, IsIntegerScalar, IsScalar, IsSubscript, SuitsDimensions}
use Rattle.meaning.specs.Value.{named}
use Rattle.rewrite.specs.Making.{Making, made_subscripts}
use Rattle.rewrite.specs.Suits.{Suiting, Suits, SuitsEach, SuitsLoops, SuitsStatement, SuitsSubscript, SuitsSubscripts}
use Rattle.nest.specs.Blocks.{guarded_statement}
use Rattle.nest.specs.Plain.{Guarded}
use Rattle.inductions.specs.Putting.{putting}
use Rattle.inductions.specs.Together.{forms_suit, is_free, is_own, is_suited}
use Rattle.inductions.specs.declared.found.Induction.{Induction}

module _ (es : List Declaration) (counter : List ℕ) (others : List ℕ → Bool) (ds : List Induction) (k : ℕ)
    (scalars : (x : List ℕ) → is_own ds x ≡ true → IsIntegerScalar es x) where
  abbrev M : Making
  M = putting counter ds k

  abbrev F : Suiting
  F = forms_suit others ds

  no_scalar : (x : List ℕ) (q : Kind) (p : Subscript) (ps : Subscripts)
      → IsSomeAnd (declared es x) (λ (d : Declaration). (q ≡ d.kind) × SuitsDimensions (subscript p ps) (rank_of_extent d.extent)) → not (is_own ds x) ≡ true
  no_scalar x q p ps h = by (is_own ds x) refl
    where
      none : (o : Option Declaration) → IsSomeAnd o (λ (d : Declaration). (q ≡ d.kind) × SuitsDimensions (subscript p ps) (rank_of_extent d.extent))
          → IsSomeAnd o (λ (d : Declaration). (d.kind ≡ Integer) × (rank_of_extent d.extent ≡ 0)) → ⊥
      none None a b = a
      none (Some d) a b = let nought : number_of_subscripts (subscript p ps) ≡ 0 = a.1 ∙ b.1 in omega (arith, nought)

      by : (b : Bool) → is_own ds x ≡ b → not b ≡ true
      by true e = absurd (none (declared es x) h (scalars x e))
      by false e = refl

  named_suits : (x : List ℕ) (q : Kind) (ps : Subscripts) → IsSomeAnd (declared es x) (λ (d : Declaration). (q ≡ d.kind) × SuitsDimensions ps (rank_of_extent d.extent))
      → IsTrue (is_suited ds (Named x (made_subscripts (putting counter ds k) ps)))
  named_suits x q no_subscripts h = refl
  named_suits x q (subscript p ps) h = no_scalar x q p ps h

  mutual
    pub suits : (e : Expression) (q : Kind) → HasKind es e q → Suits (putting counter ds k) (forms_suit others ds) e
    suits (Number n) q h = refl
    suits (Logic b) q h = refl
    suits (Named x ps) q h = (named_suits x q ps h.0, subscripts_suit ps h.1)
    suits (Unary o a) q h = (refl, suits a (operand_kind o) h.2)
    suits (Binary o a b) q h = (refl, suits a (operand_kind o) h.2, suits b (operand_kind o) h.3)
    suits (Apply f es') q h = (refl, arguments_suit es' h.3)
    suits (Constructor es' ls) q h = (refl, scalars_suit es' q h.0, loops_suit ls h.2)
    suits (Spread a d n) q h = (refl, suits a q h.4, suits n Integer h.5)
    suits (Transpose a) q h = (refl, suits a q h.2)
    suits (Reshape a es') q h = (refl, suits a q h.4, scalars_suit es' Integer h.5)
    suits (Reduce r a) q h = (refl, suits a Integer h.3)

    arguments_suit : (es' : Expressions) → AreArguments es es' → SuitsEach (putting counter ds k) (forms_suit others ds) es'
    arguments_suit no_expressions h = tt
    arguments_suit (expression e es') h = (suits e Integer h.0, arguments_suit es' h.2)

    scalars_suit : (es' : Expressions) (q : Kind) → AreScalars es es' q → SuitsEach (putting counter ds k) (forms_suit others ds) es'
    scalars_suit no_expressions q h = tt
    scalars_suit (expression e es') q h = (suits e q h.0.0, scalars_suit es' q h.1)

    pub subscripts_suit : (ps : Subscripts) → AreSubscripts es ps → SuitsSubscripts (putting counter ds k) (forms_suit others ds) ps
    subscripts_suit no_subscripts h = tt
    subscripts_suit (subscript p ps) h = (subscript_suits p h.0, subscripts_suit ps h.1)

    subscript_suits : (p : Subscript) → IsSubscript es p → SuitsSubscript (putting counter ds k) (forms_suit others ds) p
    subscript_suits (Only e) h = suits e Integer h.0
    subscript_suits (Section a b c) h = (suits a Integer h.0.0, suits b Integer h.1.0, suits c Integer h.2.0)

    loops_suit : (ls : Loops) → AreLoops es ls → SuitsLoops (putting counter ds k) (forms_suit others ds) ls
    loops_suit no_loops h = tt
    loops_suit (loop x a b ls) h = (suits a Integer h.1.0, suits b Integer h.2.0, loops_suit ls h.3)

  pub statement_suits : (g : Guarded) (q : Kind) → is_free others ds g.left.name ≡ true → IsScalar es (named g.left) q → IsScalar es g.right q
      → IfSome g.guard (λ (e : Expression). IsScalar es e Logical)
      → SuitsStatement (putting counter ds k) (forms_suit others ds) (guarded_statement g)
  statement_suits g q free left right guard = by g.guard guard
    where
      by : (o : Option Expression) → IfSome o (λ (e : Expression). IsScalar es e Logical)
          → SuitsStatement (putting counter ds k) (forms_suit others ds) (guarded_statement (record g { guard = o }))
      by None h = ((free, subscripts_suit g.left.subscripts left.0.1), suits g.right q right.0)
      by (Some e) h = ((suits e Logical h.0, (((free, subscripts_suit g.left.subscripts left.0.1), suits g.right q right.0), tt), tt), tt)
