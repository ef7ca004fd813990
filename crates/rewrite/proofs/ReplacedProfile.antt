-- A variable that an expression stands for leaves a program of the profile one.
use Rattle.std.proofs.Common.{◌≡◌, refl, sym, ap, ◌∙◌, subst, inl, ℕ, ◌+◌, ◌≤◌, max, nat_le, Bool, true, false, cond, List, Option, Some, None, arith}
use Rattle.std.specs.Prelude.{IsTrue}
use Rattle.std.specs.Option.{IsSomeAnd}
use Rattle.std.specs.Str.{bytes_eq}
use Rattle.std.proofs.lemmas.Slice.Eq.{bytes_eq-Decides}
use Rattle.tree.specs.declared.ops.Kind.{Kind}
use Rattle.tree.specs.declared.ops.Kind.TheVariants.{Integer}
use Rattle.tree.specs.Plain.{Expression, Number, Logic, Named, Unary, Binary, Apply, Constructor, Spread, Transpose, Reshape, Reduce, no_subscripts, subscript, Reference, Declaration}
use Rattle.meaning.specs.Depths.{level, enclosed, depth_of}
use Rattle.meaning.specs.Typed.{declared, rank_of_extent}
use Rattle.meaning.specs.Typed90.{HasKind, IsScalar, IsIntegerScalar, rank_of, rank_of_name}
use Rattle.meaning.specs.Value.{named}
use Rattle.rewrite.specs.Profile.{TakesPlace, KeepsProfile}
use Rattle.rewrite.specs.Replacing.{Replacing, replacing, replacing_suits, ReplacingKeepsProfile}
use Rattle.rewrite.specs.Substituting.{replaced}

pub in_parentheses : (least own a : ℕ) → enclosed least own a ≤ 1 + a
in_parentheses least own a = by (nat_le least own)
  where
    by : (b : Bool) → cond b a (1 + a) ≤ 1 + a
    by true = omega arith
    by false = omega arith

below_max : (a b c : ℕ) → a ≤ c → a ≤ max b c
below_max a b c h = omega arith

pub kind_of : (o : Option Declaration) (k : Kind) (P : Declaration → Type 0) → IsSomeAnd o (λ d. (k ≡ d.kind) × P d) → IsSomeAnd o (λ d. (d.kind ≡ Integer) × (rank_of_extent d.extent ≡ 0)) → k ≡ Integer
kind_of (Some d) k P h i = h.0 ∙ i.0
kind_of None k P h i = absurd h

pub no_rank : (o : Option Declaration) → IsSomeAnd o (λ d. (d.kind ≡ Integer) × (rank_of_extent d.extent ≡ 0)) → ◌≡◌ {A = ℕ} (elim o [ None ↦ 0 | Some d ↦ rank_of_extent d.extent ]) 0
no_rank (Some d) i = i.1
no_rank None i = absurd i

module _ (r : Replacing) (es : List Declaration) (variable : IsIntegerScalar es r.variable) (by : IsScalar es r.by Integer) where
  abbrev raise : ℕ
  raise = 1 + depth_of r.by

  same : (e : Expression) (k : Kind) → HasKind es e k → TakesPlace es raise e e k
  same e k h = record { kind = h; rank = refl; depth = λ least. below_first (enclosed least (level e) (depth_of e)) raise }
    where
      below_first : (a b : ℕ) → a ≤ max a b
      below_first a b = omega arith

  stands : (x : List ℕ) (k : Kind) → x ≡ r.variable → HasKind es (Named x no_subscripts) k → TakesPlace es raise (Named x no_subscripts) r.by k
  stands x k e h =
      let this : IsIntegerScalar es x = subst (IsIntegerScalar es) (sym e) variable in
      let kind : k ≡ Integer = kind_of (declared es x) k _ h.0 this in
      record {
        kind = subst (HasKind es r.by) (sym kind) by.0;
        rank = by.1 ∙ sym (no_rank (declared es x) this);
        depth = λ least. below_max (enclosed least (level r.by) (depth_of r.by)) (enclosed least 10 0) raise (in_parentheses least (level r.by) (depth_of r.by));
      }

  node : (e : Expression) (k : Kind) → HasKind es e k → TakesPlace es raise e (replaced r.variable r.by e) k
  node (Named x no_subscripts) k h = either (bytes_eq x r.variable) refl
    where
      either : (b : Bool) → bytes_eq x r.variable ≡ b → TakesPlace es raise (Named x no_subscripts) (cond b r.by (Named x no_subscripts)) k
      either true e = stands x k ((bytes_eq-Decides x r.variable).0 e) h
      either false e = same (Named x no_subscripts) k h
  node (Named x (subscript p ps)) k h = same (Named x (subscript p ps)) k h
  node (Number n) k h = same (Number n) k h
  node (Logic b) k h = same (Logic b) k h
  node (Unary o a) k h = same (Unary o a) k h
  node (Binary o a b) k h = same (Binary o a b) k h
  node (Apply f vs) k h = same (Apply f vs) k h
  node (Constructor vs ls) k h = same (Constructor vs ls) k h
  node (Spread a i n) k h = same (Spread a i n) k h
  node (Transpose a) k h = same (Transpose a) k h
  node (Reshape a vs) k h = same (Reshape a vs) k h
  node (Reduce q a) k h = same (Reduce q a) k h

pub replacing_keeps_profile : ReplacingKeepsProfile
replacing_keeps_profile r es variable by = record {
  expression = λ first e k h kind. node r es variable by e k kind;
  left = λ l k h kind. same r es variable by (named l) k kind;
  target = λ l h. inl refl;
}
