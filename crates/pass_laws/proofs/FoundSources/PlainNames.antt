-- Expressions of a program in FORTRAN 77 have no array forms, and the names in them are short.
use Rattle.std.proofs.Common.{◌≡◌, refl, ap, ℕ, ◌≤◌, List, length, Option, Some, None, arith}
use Rattle.std.specs.Option.{IsSomeAnd}
use Rattle.tree.specs.Plain.{Expression, Number, Logic, Named, Unary, Binary, Apply, Constructor, Spread, Transpose}
use Rattle.tree.specs.Plain.{Reshape, Reduce, Expressions, no_expressions, expression, Subscript, Only, Section}
use Rattle.tree.specs.Plain.{Subscripts, no_subscripts, subscript, Declaration}
use Rattle.tree.specs.OperatorTable.{operand_kind}
use Rattle.tree.specs.declared.ops.Kind.{Kind}
use Rattle.tree.specs.declared.ops.Kind.TheVariants.{Integer}
use Rattle.meaning.specs.Dialect.{Dialect}
use Rattle.meaning.specs.Profile77.{AreDeclarations, IsDeclaration}
use Rattle.meaning.specs.Reads.{names_in, names_in_each, names_in_subscripts, names_in_subscript}
use Rattle.meaning.specs.Typed77.{HasKind, AreArguments, AreSubscripts, IsSubscript}
use Rattle.meaning.specs.Typed.{declared}
use Rattle.components.specs.Lists.{Each}
use Rattle.components.proofs.ListLaws.{Each-append}
use Rattle.nest_order.specs.runs.Touched.{IsPlain, EachIsPlain, ArePlain, IsPlainSubscript}
use Rattle.meaning_laws.proofs.profiles.Lists.{all_at}
use Rattle.meaning_laws.proofs.profiles.Names.{found}
use Rattle.pass_laws.proofs.FoundSources.Counters.{IsShort}

module _ (d : Dialect) (ds : List Declaration) (are : AreDeclarations d ds) where
  pub declared_short : (x : List ℕ) (Q : Declaration → Type 0) → IsSomeAnd (declared ds x) Q → IsShort x
  declared_short x Q h = by (declared ds x) h (λ c e. named c e)
    where
      named : (c : Declaration) → declared ds x ≡ Some c → IsShort x
      named c e =
          let f = found ds x c e in
          let is = all_at (IsDeclaration d) ds c are.each f.among in
          let short : length c.name ≤ 6 = is.name.within in
          let same : length c.name ≡ length x = ap (λ (y : List ℕ). length y) f.name in
          omega (arith, short, same)

      by : (o : Option Declaration) → IsSomeAnd o Q → ((c : Declaration) → o ≡ Some c → IsShort x) → IsShort x
      by None k f = absurd k
      by (Some c) k f = f c refl

  mutual
    pub plain : (e : Expression) (k : Kind) → HasKind ds e k → IsPlain e × Each IsShort (names_in e)
    plain (Number n) k h = (tt, tt)
    plain (Logic b) k h = (tt, tt)
    plain (Named x ps) k h = let s = plain_subscripts ps h.1 in (s.0, (declared_short x _ h.0, s.1))
    plain (Unary o a) k h = plain a (operand_kind o) h.2
    plain (Binary o a b) k h =
        let p = plain a (operand_kind o) h.2 in
        let q = plain b (operand_kind o) h.3 in
        ((p.0, q.0), Each-append IsShort (names_in a) (names_in b) p.1 q.1)
    plain (Apply f es) k h = plain_each es h.3
    plain (Constructor es ls) k h = absurd h
    plain (Spread a n e) k h = absurd h
    plain (Transpose a) k h = absurd h
    plain (Reshape a es) k h = absurd h
    plain (Reduce r a) k h = absurd h

    plain_each : (es : Expressions) → AreArguments ds es → EachIsPlain es × Each IsShort (names_in_each es)
    plain_each no_expressions h = (tt, tt)
    plain_each (expression e es) h =
        let p = plain e Integer h.0 in
        let q = plain_each es h.1 in
        ((p.0, q.0), Each-append IsShort (names_in e) (names_in_each es) p.1 q.1)

    pub plain_subscripts : (ps : Subscripts) → AreSubscripts ds ps → ArePlain ps × Each IsShort (names_in_subscripts ps)
    plain_subscripts no_subscripts h = (tt, tt)
    plain_subscripts (subscript p ps) h =
        let q = plain_subscript p h.0 in
        let r = plain_subscripts ps h.1 in
        ((q.0, r.0), Each-append IsShort (names_in_subscript p) (names_in_subscripts ps) q.1 r.1)

    plain_subscript : (p : Subscript) → IsSubscript ds p → IsPlainSubscript p × Each IsShort (names_in_subscript p)
    plain_subscript (Only e) h = plain e Integer h
    plain_subscript (Section a b c) h = absurd h
