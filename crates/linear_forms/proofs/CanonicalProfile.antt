-- Canonical text leaves a program of the profile one.
use Rattle.std.proofs.Common.{◌≡◌, refl, sym, ◌∙◌, subst, inl, ℕ, zero, suc, ◌+◌, ◌^◌, ◌<◌, ◌≤◌, max, ℤ, pos, negsuc, Bool, true, false, cond, ◌&&◌, List, [], ◌∷◌, ◌++◌, drop, length, Result, Ok, Option, Some, None, arith}
use Rattle.std.specs.Prelude.{nat_le, ◌==◌}
use Rattle.std.specs.Option.{IsSomeAnd}
use Rattle.std.specs.Str.{bytes_eq}
use Rattle.std.proofs.lemmas.Bool.{leb-true, leb-false}
use Rattle.std.proofs.lemmas.Bool.Decides.{Decides-int_eq}
use Rattle.std.proofs.lemmas.Slice.Eq.{bytes_eq-Decides}
use Rattle.std.specs.Ordering.{int_eq}
use Rattle.tree.specs.Operators.{apply, call, on_numbers, on_truths}
use Rattle.tree.specs.OperatorTable.{operand_kind, result_kind_of}
use Rattle.tree.specs.Steps.{◌>>=◌}
use Rattle.tree.specs.declared.ops.Fault.{Fault}
use Rattle.tree.specs.declared.ops.Kind.{Kind}
use Rattle.tree.specs.declared.ops.Kind.TheVariants.{Integer}
use Rattle.tree.specs.declared.ops.Op.{Op}
use Rattle.tree.specs.declared.ops.Op.TheVariants.{Pow, Mul, Div, Neg, Add, Sub, Lt, Le, Eq, Ne, Gt, Ge, Not, And, Or, Eqv, Neqv}
use Rattle.tree.specs.declared.ops.Value.{Value}
use Rattle.tree.specs.declared.ops.Value.TheVariants.{Int, Truth}
use Rattle.tree.specs.Plain.{Expression, Number, Logic, Named, Unary, Binary, Apply, Constructor, Spread, Transpose, Reshape, Reduce, Expressions, no_expressions, expression, no_subscripts, subscript, Declaration}
use Rattle.meaning.specs.Depths.{level, enclosed, depth_of}
use Rattle.meaning.specs.Dialect.{fortran77}
use Rattle.tree.specs.declared.width.Width.TheVariants.{Plain}
use Rattle.meaning.specs.Store.{cell_at}
use Rattle.meaning.specs.Typed.{declared, rank_of_extent}
use Rattle.meaning.specs.Typed90.{HasKind, AreArguments, IsIntegerScalar, rank_of, rank_of_each}
use Rattle.meaning.specs.Value.{value_of, values_of, subscript_values, named}
use Rattle.rewrite.specs.Names.{mentions}
use Rattle.rewrite.specs.Profile.{TakesPlace}
use Rattle.rewrite.proofs.ProfileBlocks.{made_block_makes}
use Rattle.rewrite.proofs.ReplacedProfile.{in_parentheses, kind_of, no_rank}
use Rattle.linear_forms.specs.Canonical.{text_or, canonical_text, canonical_node, canonising}
use Rattle.linear_forms.specs.CanonicalLaws.{all_suit, AreIntegerScalars, CanonisingKeepsProfile}
use Rattle.linear_forms.specs.CanonicalLaws.{CanonicalBlockKeepsProfile}
use Rattle.linear_forms.specs.Expressed.{term, plus_term, minus_term, with_term, with_terms, with_constant, expressed, variable, variables}
use Rattle.linear_forms.specs.Linear.{Form, is_small, all_small, not_zero, is_limited, no_store, constant_of, unit, with_zero, with_no_constant, form_of_sign, form_of_pair, constant_or, linear}
use Rattle.linear_forms.proofs.AllSuit.{suits_block}
use Rattle.linear_forms.proofs.LinearLaws.{limited-is, as_constant-is}
use Rattle.linear_forms.proofs.Parts.{parted}
use Rattle.linear_forms.proofs.Sizes.{both, dropped}
use Rattle.linear_forms.proofs.TextsKeep.{text_limited}

-- ---- what an operator gives

number_result : (o : Op) (a b z : ℤ) → on_numbers o a b ≡ Ok (Int z) → result_kind_of o ≡ Integer
number_result Lt a b z h = cc
number_result Le a b z h = cc
number_result Eq a b z h = cc
number_result Ne a b z h = cc
number_result Gt a b z h = cc
number_result Ge a b z h = cc
number_result Pow a b z h = refl
number_result Mul a b z h = refl
number_result Div a b z h = refl
number_result Neg a b z h = refl
number_result Add a b z h = refl
number_result Sub a b z h = refl
number_result Not a b z h = cc
number_result And a b z h = cc
number_result Or a b z h = cc
number_result Eqv a b z h = cc
number_result Neqv a b z h = cc

truth_result : (o : Op) (a b : Bool) (z : ℤ) → on_truths o a b ≡ Ok (Int z) → result_kind_of o ≡ Integer
truth_result Not a b z h = cc
truth_result And a b z h = cc
truth_result Or a b z h = cc
truth_result Eqv a b z h = cc
truth_result Neqv a b z h = cc
truth_result o a b z h = cc

result : (o : Op) (x y : Value) (z : ℤ) → apply o x y ≡ Ok (Int z) → result_kind_of o ≡ Integer
result o (Int a) (Int b) z h = number_result o a b z h
result o (Truth a) (Truth b) z h = truth_result o a b z h
result Neg (Int a) (Truth b) z h = refl
result o (Int a) (Truth b) z h = cc
result Not (Truth a) (Int b) z h = cc
result o (Truth a) (Int b) z h = cc

-- a number has the kind INTEGER
abbrev Suits : Value → Kind → Type 0
Suits (Int z) k = k ≡ Integer
Suits (Truth b) k = Unit {0}

integer_suits : (v : Value) (k : Kind) → k ≡ Integer → Suits v k
integer_suits (Int z) k h = h
integer_suits (Truth b) k h = tt

result_suits : (o : Op) (x y v : Value) (k : Kind) → k ≡ result_kind_of o → apply o x y ≡ Ok v → Suits v k
result_suits o x y (Int z) k h a = h ∙ result o x y z a
result_suits o x y (Truth b) k h a = tt

truth_suits : (b : Bool) (v : Value) (k : Kind) → ◌≡◌ {A = Result Value Fault} (Ok (Truth b)) (Ok v) → Suits v k
truth_suits b (Int z) k h = cc
truth_suits b (Truth c) k h = tt

no_rank_of_two : (a b : ℕ) → a ≡ 0 → b ≡ 0 → max a b ≡ 0
no_rank_of_two a b h k = omega arith

-- ---- constants

module _ (es : List Declaration) where
  record IsConstantOf (e : Expression) (v : Value) (k : Kind) : Type 0 where
    rank : rank_of es e ≡ 0
    kind : Suits v k

  mutual
    constant_is : (e : Expression) (v : Value) (k : Kind) → value_of (fortran77 Plain) e no_store ≡ Ok v → HasKind es e k → IsConstantOf e v k
    constant_is (Number n) v k h t = record { rank = refl; kind = integer_suits v k t.1 }
    constant_is (Logic b) v k h t = record { rank = refl; kind = truth_suits b v k h }
    constant_is (Named x ps) v k h t =
        let p = parted (subscript_values (fortran77 Plain) ps no_store) (λ is. do c ← cell_at x is no_store; Ok (no_store.held c)) v h in
        let e = p.second in cc
    constant_is (Unary o a) v k h t =
        let p = parted (value_of (fortran77 Plain) a no_store) (λ x. apply o x x) v h in
        record { rank = (constant_is a p.part _ p.first t.2).rank; kind = result_suits o p.part p.part v k t.1 p.second }
    constant_is (Binary o a b) v k h t =
        let p = parted (value_of (fortran77 Plain) a no_store) (λ x. do y ← value_of (fortran77 Plain) b no_store; apply o x y) v h in
        let q = parted (value_of (fortran77 Plain) b no_store) (λ y. apply o p.part y) v p.second in
        record {
          rank = no_rank_of_two (rank_of es a) (rank_of es b) (constant_is a p.part _ p.first t.2).rank (constant_is b q.part _ q.first t.3).rank;
          kind = result_suits o p.part q.part v k t.1 q.second;
        }
    constant_is (Apply f vs) v k h t =
        let p = parted (values_of (fortran77 Plain) vs no_store) (λ xs. call f xs) v h in
        record { rank = no_rank_of_each vs p.part p.first t.3; kind = integer_suits v k t.2 }
    constant_is (Constructor vs ls) v k h t = cc
    constant_is (Spread a i b) v k h t = cc
    constant_is (Transpose a) v k h t = cc
    constant_is (Reshape a vs) v k h t = cc
    constant_is (Reduce r a) v k h t = cc

    no_rank_of_each : (vs : Expressions) (xs : List Value) → values_of (fortran77 Plain) vs no_store ≡ Ok xs → AreArguments es vs → rank_of_each es vs ≡ 0
    no_rank_of_each no_expressions xs h t = refl
    no_rank_of_each (expression e vs) xs h t =
        let p = parted (value_of (fortran77 Plain) e no_store) (λ x. do xs ← values_of (fortran77 Plain) vs no_store; Ok (x ∷ xs)) xs h in
        let q = parted (values_of (fortran77 Plain) vs no_store) (λ xs. Ok (p.part ∷ xs)) xs p.second in
        no_rank_of_two (rank_of es e) (rank_of_each es vs) (constant_is e p.part _ p.first t.0).rank (no_rank_of_each vs q.part q.first t.2)

  -- ---- an expression with a form is an INTEGER scalar, where its names are

  record IsNumber (e : Expression) (k : Kind) : Type 0 where
    rank : rank_of es e ≡ 0
    kind : k ≡ Integer

  number_of_constant : (e : Expression) (k : Kind) (z : ℤ) → constant_of e ≡ Some z → HasKind es e k → IsNumber e k
  number_of_constant e k z h t =
      let c = constant_is e (Int z) k (as_constant-is (value_of (fortran77 Plain) e no_store) z h) t in
      record { rank = c.rank; kind = c.kind }

  among : (names : List (List ℕ)) (x : List ℕ) (cs : List ℤ) → AreIntegerScalars es names → unit names x ≡ Some cs → IsIntegerScalar es x
  among [] x cs i h = cc
  among (y ∷ ys) x cs i h = by (λ ds g. among ys x ds i.1 g) (bytes_eq y x) refl h
    where
      later : ((ds : List ℤ) → unit ys x ≡ Some ds → IsIntegerScalar es x) → (o : Option (List ℤ)) → unit ys x ≡ o → with_zero o ≡ Some cs → IsIntegerScalar es x
      later more (Some ds) g k = more ds g
      later more None g k = cc

      by : ((ds : List ℤ) → unit ys x ≡ Some ds → IsIntegerScalar es x) → (b : Bool) → bytes_eq y x ≡ b → cond b (Some (pos 1 ∷ [])) (with_zero (unit ys x)) ≡ Some cs → IsIntegerScalar es x
      by more true g k = subst (IsIntegerScalar es) ((bytes_eq-Decides y x).0 g) i.0
      by more false g k = later more (unit ys x) refl k

  module _ (loops : ℕ) (names : List (List ℕ)) (integers : AreIntegerScalars es names) where
    of_name : (x : List ℕ) (k : Kind) (f : Form) → with_no_constant (unit names x) ≡ Some f → HasKind es (Named x no_subscripts) k → IsNumber (Named x no_subscripts) k
    of_name x k f h t = by (unit names x) refl h
      where
        by : (o : Option (List ℤ)) → unit names x ≡ o → with_no_constant o ≡ Some f → IsNumber (Named x no_subscripts) k
        by (Some cs) g e =
            let i = among names x cs integers g in
            record { rank = no_rank (declared es x) i; kind = kind_of (declared es x) k _ t.0 i }
        by None g e = cc

    record Operands (o : Op) (p q : Option Form) : Type 0 where
      first : Form
      second : Form
      left : p ≡ Some first
      right : q ≡ Some second
      kind : result_kind_of o ≡ Integer

    operands : (o : Op) (k l : Option ℤ) (p q : Option Form) (f : Form) → form_of_pair o k l p q ≡ Some f → Operands o p q
    operands Add k l (Some g) (Some h) f e = record { first = g; second = h; left = refl; right = refl; kind = refl }
    operands Sub k l (Some g) (Some h) f e = record { first = g; second = h; left = refl; right = refl; kind = refl }
    operands Mul k l (Some g) (Some h) f e = record { first = g; second = h; left = refl; right = refl; kind = refl }
    operands o k l (Some g) (Some h) f e = cc
    operands o k l (Some g) None f e = cc
    operands o k l None q f e = cc

    record Operand (o : Op) (p : Option Form) : Type 0 where
      form : Form
      is : p ≡ Some form
      kind : result_kind_of o ≡ Integer

    operand : (o : Op) (p : Option Form) (f : Form) → form_of_sign o p ≡ Some f → Operand o p
    operand Neg (Some g) f e = record { form = g; is = refl; kind = refl }
    operand o (Some g) f e = cc
    operand Neg None f e = cc
    operand o None f e = cc

    number_of : (e : Expression) (k : Kind) (f : Form) → linear loops names e ≡ Some f → HasKind es e k → IsNumber e k
    number_of (Number n) k f h t = record { rank = refl; kind = t.1 }
    number_of (Logic b) k f h t = cc
    number_of (Named x no_subscripts) k f h t = of_name x k f (limited-is loops (with_no_constant (unit names x)) f h) t
    number_of (Named x (subscript p ps)) k f h t = let e = limited-is loops None f h in cc
    number_of (Unary o a) k f h t = by (λ g e. number_of a _ g e t.2) (constant_of (Unary o a)) refl (limited-is loops (constant_or (constant_of (Unary o a)) (form_of_sign o (linear loops names a))) f h)
      where
        by : ((g : Form) → linear loops names a ≡ Some g → IsNumber a (operand_kind o)) → (c : Option ℤ) → constant_of (Unary o a) ≡ c → constant_or c (form_of_sign o (linear loops names a)) ≡ Some f → IsNumber (Unary o a) k
        by inner (Some z) g e = number_of_constant (Unary o a) k z g t
        by inner None g e =
            let p = operand o (linear loops names a) f e in
            record { rank = (inner p.form p.is).rank; kind = t.1 ∙ p.kind }
    number_of (Binary o a b) k f h t =
        by (λ g e. number_of a _ g e t.2) (λ g e. number_of b _ g e t.3) (constant_of (Binary o a b)) refl (limited-is loops (constant_or (constant_of (Binary o a b)) (form_of_pair o (constant_of a) (constant_of b) (linear loops names a) (linear loops names b))) f h)
      where
        by : ((g : Form) → linear loops names a ≡ Some g → IsNumber a (operand_kind o)) → ((g : Form) → linear loops names b ≡ Some g → IsNumber b (operand_kind o)) → (c : Option ℤ) → constant_of (Binary o a b) ≡ c → constant_or c (form_of_pair o (constant_of a) (constant_of b) (linear loops names a) (linear loops names b)) ≡ Some f → IsNumber (Binary o a b) k
        by left right (Some z) g e = number_of_constant (Binary o a b) k z g t
        by left right None g e =
            let p = operands o (constant_of a) (constant_of b) (linear loops names a) (linear loops names b) f e in
            record {
              rank = no_rank_of_two (rank_of es a) (rank_of es b) (left p.first p.left).rank (right p.second p.right).rank;
              kind = t.1 ∙ p.kind;
            }
    number_of (Apply c vs) k f h t = by (constant_of (Apply c vs)) refl (limited-is loops (constant_or (constant_of (Apply c vs)) None) f h)
      where
        by : (o : Option ℤ) → constant_of (Apply c vs) ≡ o → constant_or o None ≡ Some f → IsNumber (Apply c vs) k
        by (Some z) g e = number_of_constant (Apply c vs) k z g t
        by None g e = cc
    number_of (Constructor vs ls) k f h t = cc
    number_of (Spread a i b) k f h t = cc
    number_of (Transpose a) k f h t = cc
    number_of (Reshape a vs) k f h t = cc
    number_of (Reduce r a) k f h t = cc

  -- ---- the text is one, and not deep

  -- a term, as it stands behind a sign
  record IsTerm (e : Expression) : Type 0 where
    kind : HasKind es e Integer
    rank : rank_of es e ≡ 0
    depth : depth_of e ≤ 1
    binds : 8 ≤ level e

  record IsSum (n : ℕ) (e : Expression) : Type 0 where
    kind : HasKind es e Integer
    rank : rank_of es e ≡ 0
    depth : depth_of e ≤ 1 + n
    binds : 7 ≤ level e

  -- of n terms, if there is one
  abbrev IsSoFar : ℕ → Option Expression → Type 0
  IsSoFar n None = Unit {0}
  IsSoFar n (Some e) = IsSum n e

  more : (m n : ℕ) (o : Option Expression) → m ≤ n → IsSoFar m o → IsSoFar n o
  more m n None h s = tt
  more m n (Some e) h s = record { kind = s.kind; rank = s.rank; depth = deeper (depth_of e) s.depth; binds = s.binds }
    where
      deeper : (d : ℕ) → d ≤ 1 + m → d ≤ 1 + n
      deeper d k = omega (arith, h, k)

  tight : (least own n : ℕ) → least ≤ own → enclosed least own n ≤ n
  tight least own n h = by (nat_le least own) refl
    where
      by : (b : Bool) → nat_le least own ≡ b → cond b n (1 + n) ≤ n
      by true e = omega arith
      by false e = let l = leb-false least own e in absurd (omega (arith, h, l))

  integer_name : (o : Option Declaration) → IsSomeAnd o (λ d. (d.kind ≡ Integer) × (rank_of_extent d.extent ≡ 0)) → IsSomeAnd o (λ d. (Integer ≡ d.kind) × Unit {0})
  integer_name (Some d) h = (sym h.0, tt)
  integer_name None h = absurd h

  variable_is : (x : List ℕ) → IsIntegerScalar es x → IsTerm (variable x)
  variable_is x i = record { kind = (integer_name (declared es x) i, tt); rank = no_rank (declared es x) i; depth = omega arith; binds = omega arith }

  literal : (n : ℕ) → n ≤ 2 ^ 40 → n < 2 ^ 127
  literal n h = omega (arith, h)

  term_is : (n : ℕ) (x : List ℕ) → n ≤ 2 ^ 40 → IsIntegerScalar es x → IsTerm (term n (variable x))
  term_is n x h i = by (n == 1)
    where
      alone : IsTerm (variable x)
      alone = variable_is x i

      by : (b : Bool) → IsTerm (cond b (variable x) (Binary Mul (Number (pos n)) (variable x)))
      by true = alone
      by false = record {
        kind = (refl, refl, (literal n h, refl), alone.kind, inl refl);
        rank = no_rank_of_two 0 (rank_of es (variable x)) refl alone.rank;
        depth = omega arith;
        binds = omega arith;
      }

  two_deep : (n d c p q : ℕ) → p ≤ d → q ≤ c → d ≤ 1 + n → c ≤ 1 → 1 + max p q ≤ 1 + suc n
  two_deep n d c p q h i j k = omega (arith, h, i, j, k)

  one_deep : (n c q : ℕ) → q ≤ c → c ≤ 1 → 1 + q ≤ 1 + suc n
  one_deep n c q h k = omega (arith, h, k)

  plus_is : (n : ℕ) (o : Option Expression) (t : Expression) → IsSoFar n o → IsTerm t → IsSum (suc n) (plus_term o t)
  plus_is n None t s i = record { kind = i.kind; rank = i.rank; depth = below (depth_of t) i.depth; binds = tighter (level t) i.binds }
    where
      below : (d : ℕ) → d ≤ 1 → d ≤ 1 + suc n
      below d h = omega (arith, h)

      tighter : (l : ℕ) → 8 ≤ l → 7 ≤ l
      tighter l h = omega (arith, h)
  plus_is n (Some e) t s i = record {
    kind = (refl, refl, s.kind, i.kind, inl s.rank);
    rank = no_rank_of_two (rank_of es e) (rank_of es t) s.rank i.rank;
    depth = two_deep n (depth_of e) (depth_of t) (enclosed 7 (level e) (depth_of e)) (enclosed 8 (level t) (depth_of t)) (tight 7 (level e) (depth_of e) s.binds) (tight 8 (level t) (depth_of t) i.binds) s.depth i.depth;
    binds = omega arith;
  }

  minus_is : (n : ℕ) (o : Option Expression) (t : Expression) → IsSoFar n o → IsTerm t → IsSum (suc n) (minus_term o t)
  minus_is n None t s i = record {
    kind = (refl, refl, i.kind);
    rank = i.rank;
    depth = one_deep n (depth_of t) (enclosed 8 (level t) (depth_of t)) (tight 8 (level t) (depth_of t) i.binds) i.depth;
    binds = omega arith;
  }
  minus_is n (Some e) t s i = record {
    kind = (refl, refl, s.kind, i.kind, inl s.rank);
    rank = no_rank_of_two (rank_of es e) (rank_of es t) s.rank i.rank;
    depth = two_deep n (depth_of e) (depth_of t) (enclosed 7 (level e) (depth_of e)) (enclosed 8 (level t) (depth_of t)) (tight 7 (level e) (depth_of e) s.binds) (tight 8 (level t) (depth_of t) i.binds) s.depth i.depth;
    binds = omega arith;
  }

  small : (n : ℕ) → nat_le n (2 ^ 40) ≡ true → n ≤ 2 ^ 40
  small n h = leb-true n (2 ^ 40) h

  counted : (c : ℤ) (cs : List ℤ) → (c ≡ pos 0 → ⊥) → not_zero (c ∷ cs) ≡ suc (not_zero cs)
  counted c cs n = by (int_eq c (pos 0)) refl
    where
      by : (b : Bool) → int_eq c (pos 0) ≡ b → cond b (not_zero cs) (suc (not_zero cs)) ≡ suc (not_zero cs)
      by true e = absurd (n ((Decides-int_eq c (pos 0)).0 e))
      by false e = refl

  one_counted : (n k j m : ℕ) → n + j ≤ k → j ≡ suc m → suc n + m ≤ k
  one_counted n k j m h e = omega (arith, h, e)

  terms_are : (cs : List ℤ) (names : List (List ℕ)) (o : Option Expression) (n k : ℕ) → all_small cs ≡ true → AreIntegerScalars es names → n + not_zero cs ≤ k → IsSoFar n o
      → IsSoFar k (with_terms o cs (variables names))
  terms_are [] names o n k a i h s = more n k o (omega (arith, h)) s
  terms_are (c ∷ cs) [] o n k a i h s = more n k o (omega (arith, h)) s
  terms_are (pos zero ∷ cs) (x ∷ xs) o n k a i h s = terms_are cs xs o n k (both (is_small (pos zero)) (all_small cs) a).1 i.1 h s
  terms_are (pos (suc m) ∷ cs) (x ∷ xs) o n k a i h s =
      let parts = both (is_small (pos (suc m))) (all_small cs) a in
      terms_are cs xs (with_term o (pos (suc m)) (variable x)) (suc n) k parts.1 i.1 (one_counted n k (not_zero (pos (suc m) ∷ cs)) (not_zero cs) h (counted (pos (suc m)) cs (λ e. cc))) (plus_is n o (term (suc m) (variable x)) s (term_is (suc m) x (small (suc m) parts.0) i.0))
  terms_are (negsuc m ∷ cs) (x ∷ xs) o n k a i h s =
      let parts = both (is_small (negsuc m)) (all_small cs) a in
      terms_are cs xs (with_term o (negsuc m) (variable x)) (suc n) k parts.1 i.1 (one_counted n k (not_zero (negsuc m ∷ cs)) (not_zero cs) h (counted (negsuc m) cs (λ e. cc))) (minus_is n o (term (suc m) (variable x)) s (term_is (suc m) x (small (suc m) parts.0) i.0))

  number_term : (n : ℕ) → n ≤ 2 ^ 40 → IsTerm (Number (pos n))
  number_term n h = record { kind = (literal n h, refl); rank = refl; depth = omega arith; binds = omega arith }

  constant_joins : (n : ℕ) (o : Option Expression) (z : ℤ) → is_small z ≡ true → IsSoFar n o → IsSum (suc n) (with_constant o z)
  constant_joins n None (pos m) a s = plus_is n None (Number (pos m)) tt (number_term m (small m a))
  constant_joins n None (negsuc m) a s = minus_is n None (Number (pos (suc m))) tt (number_term (suc m) (small (suc m) a))
  constant_joins n (Some e) (pos zero) a s = more n (suc n) (Some e) (omega arith) s
  constant_joins n (Some e) (pos (suc m)) a s = plus_is n (Some e) (Number (pos (suc m))) s (number_term (suc m) (small (suc m) a))
  constant_joins n (Some e) (negsuc m) a s = minus_is n (Some e) (Number (pos (suc m))) s (number_term (suc m) (small (suc m) a))

  few : (loops : ℕ) (cs : List ℤ) → loops ≤ 7 → nat_le (not_zero (drop loops cs)) 8 ≡ true → 0 + not_zero cs ≤ 15
  few loops cs h k =
      let behind : not_zero (drop loops cs) ≤ 8 = leb-true (not_zero (drop loops cs)) 8 k in
      let all = dropped loops cs in
      omega (arith, h, behind, all)

  text_is : (loops : ℕ) (names : List (List ℕ)) (f : Form) → loops ≤ 7 → AreIntegerScalars es names → is_limited loops f ≡ true → IsSum 16 (expressed (variables names) f)
  text_is loops names f h i l =
      let parts = both (all_small f.coefficients) (is_small f.constant && nat_le (not_zero (drop loops f.coefficients)) 8) l in
      let others = both (is_small f.constant) (nat_le (not_zero (drop loops f.coefficients)) 8) parts.1 in
      constant_joins 15 (with_terms None f.coefficients (variables names)) f.constant others.0
      (terms_are f.coefficients names None 0 15 parts.0 i (few loops f.coefficients h others.1) tt)

  -- ---- each node

  same : (e : Expression) (k : Kind) → HasKind es e k → TakesPlace es 18 e e k
  same e k h = record { kind = h; rank = refl; depth = λ least. below_first (enclosed least (level e) (depth_of e)) }
    where
      below_first : (a : ℕ) → a ≤ max a 18
      below_first a = omega arith

  takes_place : (e f : Expression) (k : Kind) → IsNumber e k → IsSum 16 f → TakesPlace es 18 e f k
  takes_place e f k n s = record {
    kind = subst (HasKind es f) (sym n.kind) s.kind;
    rank = s.rank ∙ sym n.rank;
    depth = λ least. below (enclosed least (level f) (depth_of f)) (depth_of f) (enclosed least (level e) (depth_of e)) (in_parentheses least (level f) (depth_of f)) s.depth;
  }
    where
      below : (a d b : ℕ) → a ≤ 1 + d → d ≤ 17 → a ≤ max b 18
      below a d b h k = omega (arith, h, k)

  module _ (loops symbols : List (List ℕ)) (integers : AreIntegerScalars es (loops ++ symbols)) where
    text : (e : Expression) (k : Kind) → HasKind es e k → TakesPlace es 18 e (canonical_text loops symbols e) k
    text e k t = by (nat_le (length loops) 7) refl
      where
        found : length loops ≤ 7 → (o : Option Form) → linear (length loops) (loops ++ symbols) e ≡ o → TakesPlace es 18 e (text_or loops symbols o e) k
        found h (Some f) g =
            takes_place e (expressed (variables (loops ++ symbols)) f) k (number_of (length loops) (loops ++ symbols) integers e k f g t)
            (text_is (length loops) (loops ++ symbols) f h integers (text_limited (length loops) (loops ++ symbols) e f g))
        found h None g = same e k t

        by : (b : Bool) → nat_le (length loops) 7 ≡ b → TakesPlace es 18 e (text_or loops symbols (cond b (linear (length loops) (loops ++ symbols) e) None) e) k
        by true h = found (leb-true (length loops) 7 h) (linear (length loops) (loops ++ symbols) e) refl
        by false h = same e k t

    node : (first e : Expression) (k : Kind) → HasKind es e k → TakesPlace es 18 e (canonical_node loops symbols first e) k
    node first e k t = by (mentions loops first)
      where
        by : (b : Bool) → TakesPlace es 18 e (cond b (canonical_text loops symbols e) e) k
        by true = text e k t
        by false = same e k t

pub canonising_keeps_profile : CanonisingKeepsProfile
canonising_keeps_profile loops symbols es integers = record {
  expression = λ first e k h t. node es loops symbols integers first e k t;
  left = λ r k h t. same es (named r) k t;
  target = λ r h. inl refl;
}

pub canonical_block_keeps_profile : CanonicalBlockKeepsProfile
canonical_block_keeps_profile loops symbols p es b integers whole also declarations room =
    let m = canonising loops symbols in
    made_block_makes m b all_suit p es 18 (canonising_keeps_profile loops symbols es integers) (suits_block m b) whole also declarations room
