-- Forms of a counter in the place of INTEGER scalars leave a program of the profile one.
use Rattle.std.proofs.Common.{◌≡◌, refl, sym, ◌∙◌, subst, inl, ℕ, zero, suc, ◌+◌, ◌^◌, ◌<◌, ◌≤◌, max, ℤ, pos, negsuc, neg_ℤ, Bool, true, false, cond, ◌&&◌, List, [], ◌∷◌, Option, Some, None, arith}
use Rattle.std.specs.Prelude.{nat_abs, nat_le, ◌==◌}
use Rattle.std.specs.Option.{IsSomeAnd}
use Rattle.std.proofs.lemmas.Bool.{leb-true}
use Rattle.std.proofs.lemmas.Int.{ints}
use Rattle.tree.specs.declared.ops.Kind.{Kind}
use Rattle.tree.specs.declared.ops.Kind.TheVariants.{Integer}
use Rattle.tree.specs.declared.ops.Op.TheVariants.{Mul}
use Rattle.tree.specs.Plain.{Expression, Number, Logic, Named, Unary, Binary, Apply, Constructor, Spread, Transpose, Reshape, Reduce, no_subscripts, subscript, Declaration}
use Rattle.meaning.specs.Depths.{level, enclosed, depth_of}
use Rattle.meaning.specs.Typed.{declared, rank_of_extent}
use Rattle.meaning.specs.Typed90.{HasKind, IsIntegerScalar, rank_of}
use Rattle.meaning.specs.Value.{named}
use Rattle.rewrite.specs.Profile.{TakesPlace}
use Rattle.rewrite.proofs.ReplacedProfile.{in_parentheses, kind_of, no_rank}
use Rattle.linear_forms.specs.Expressed.{expressed, plus_term, term, variable, variables, with_constant, with_term}
use Rattle.linear_forms.specs.Linear.{is_limited, is_small}
use Rattle.linear_forms.proofs.Sizes.{both}
use Rattle.inductions.specs.Growing.{form_behind, counter_form}
use Rattle.inductions.specs.Laws.{FormsKeepProfile}
use Rattle.inductions.specs.Putting.{constant_at, found, induction_in, form_text_or, induction_text}
use Rattle.inductions.specs.Together.{AreInductions, Is}
use Rattle.inductions.specs.declared.found.Induction.{Induction}
use Rattle.inductions.proofs.Together.{found-name}

no_rank_of_two : (a b : ℕ) → a ≡ 0 → b ≡ 0 → max a b ≡ 0
no_rank_of_two a b h k = omega arith

module _ (es : List Declaration) where
  -- of an INTEGER that is so deep, and needs no parentheses before a sign
  record IsSum (most : ℕ) (e : Expression) : Type 0 where
    pub kind : HasKind es e Integer
    pub rank : rank_of es e ≡ 0
    pub depth : depth_of e ≤ most
    pub level : nat_le 7 (level e) ≡ true

  scalar-kind : (x : List ℕ) → IsIntegerScalar es x → HasKind es (variable x) Integer
  scalar-kind x h = (by (declared es x) h, tt)
    where
      by : (o : Option Declaration) → IsSomeAnd o (λ d. (d.kind ≡ Integer) × (rank_of_extent d.extent ≡ 0)) → IsSomeAnd o (λ d. (Integer ≡ d.kind) × Unit {0})
      by (Some d) i = (sym i.0, tt)
      by None i = absurd i

  scalar-rank : (x : List ℕ) → IsIntegerScalar es x → rank_of es (variable x) ≡ 0
  scalar-rank x h = no_rank (declared es x) h

  scalar-sum : (x : List ℕ) → IsIntegerScalar es x → IsSum 0 (variable x)
  scalar-sum x h = record { kind = scalar-kind x h; rank = scalar-rank x h; depth = omega arith; level = refl }

  -- a term, and one with a sign before it
  term-sum : (n : ℕ) (x : List ℕ) → n < 2 ^ 127 → IsIntegerScalar es x → IsSum 1 (term n (variable x))
  term-sum n x small h = by (n == 1)
    where
      by : (b : Bool) → IsSum 1 (cond b (variable x) (Binary Mul (Number (pos n)) (variable x)))
      by true = record { kind = scalar-kind x h; rank = scalar-rank x h; depth = omega arith; level = refl }
      by false = record {
        kind = (refl, refl, (small, refl), scalar-kind x h, inl refl);
        rank = no_rank_of_two 0 (rank_of es (variable x)) refl (scalar-rank x h);
        depth = omega arith;
        level = refl;
      }

  deep-term : (n : ℕ) (x : List ℕ) (least : ℕ) → least ≤ 8 → enclosed least (level (term n (variable x))) (depth_of (term n (variable x))) ≤ 1
  deep-term n x least h = by (n == 1)
    where
      tight : (a b : ℕ) → a ≤ b → nat_le a b ≡ true
      tight a b l = grind arith

      by : (b : Bool) → enclosed least (level (cond b (variable x) (Binary Mul (Number (pos n)) (variable x)))) (depth_of (cond b (variable x) (Binary Mul (Number (pos n)) (variable x)))) ≤ 1
      by true = let l = tight least 10 (omega (arith, h)) in subst (λ b. cond b 0 1 ≤ 1) (sym l) (omega arith)
      by false = let l = tight least 8 h in subst (λ b. cond b 1 2 ≤ 1) (sym l) (omega arith)

  abbrev Size : ℤ → Type 0
  Size c = nat_abs c < 2 ^ 127

  two-terms : (c : ℤ) (i x : List ℕ) → Size c → IsIntegerScalar es i → IsIntegerScalar es x → IsSum 3 (plus_term (with_term None c (variable i)) (variable x))
  two-terms (pos zero) i x small hi hx = record { kind = scalar-kind x hx; rank = scalar-rank x hx; depth = omega arith; level = refl }
  two-terms (pos (suc n)) i x small hi hx =
      let t = term-sum (suc n) i small hi in
      let d = deep-term (suc n) i 7 (omega arith) in
      record {
        kind = (refl, refl, t.kind, scalar-kind x hx, inl t.rank);
        rank = no_rank_of_two (rank_of es (term (suc n) (variable i))) (rank_of es (variable x)) t.rank (scalar-rank x hx);
        depth = omega (arith, d);
        level = refl;
      }
  two-terms (negsuc n) i x small hi hx =
      let t = term-sum (suc n) i small hi in
      let d = deep-term (suc n) i 8 (omega arith) in
      record {
        kind = (refl, refl, (refl, refl, t.kind), scalar-kind x hx, inl t.rank);
        rank = no_rank_of_two (rank_of es (term (suc n) (variable i))) (rank_of es (variable x)) t.rank (scalar-rank x hx);
        depth = omega (arith, d);
        level = refl;
      }

  with-constant : (e : Expression) (z : ℤ) → Size z → IsSum 3 e → IsSum 4 (with_constant (Some e) z)
  with-constant e (pos zero) small s = let d = s.depth in record { kind = s.kind; rank = s.rank; depth = omega (arith, d); level = s.level }
  with-constant e (pos (suc n)) small s = record {
    kind = (refl, refl, s.kind, (small, refl), inl s.rank);
    rank = no_rank_of_two (rank_of es e) 0 s.rank refl;
    depth = deep e s;
    level = refl;
  }
    where
      deep : (e : Expression) → IsSum 3 e → 1 + max (enclosed 7 (level e) (depth_of e)) 0 ≤ 4
      deep e s = let d = s.depth in subst (λ b. 1 + max (cond b (depth_of e) (1 + depth_of e)) 0 ≤ 4) (sym s.level) (omega (arith, d))
  with-constant e (negsuc n) small s = record {
    kind = (refl, refl, s.kind, (small, refl), inl s.rank);
    rank = no_rank_of_two (rank_of es e) 0 s.rank refl;
    depth = deep e s;
    level = refl;
  }
    where
      deep : (e : Expression) → IsSum 3 e → 1 + max (enclosed 7 (level e) (depth_of e)) 0 ≤ 4
      deep e s = let d = s.depth in subst (λ b. 1 + max (cond b (depth_of e) (1 + depth_of e)) 0 ≤ 4) (sym s.level) (omega (arith, d))

  text-sum : (c z : ℤ) (i x : List ℕ) → Size c → Size z → IsIntegerScalar es i → IsIntegerScalar es x → IsSum 4 (expressed (variables (i ∷ x ∷ [])) (counter_form c z))
  text-sum c z i x h k hi hx = with-constant (plus_term (with_term None c (variable i)) (variable x)) z k (two-terms c i x h hi hx)

  -- ---- sizes

  limited-size : (c : ℤ) → is_limited 1 (form_behind c) ≡ true → Size c
  limited-size c h =
      let p = both (is_small c && (is_small (pos 1) && true)) (is_small (pos 0) && true) h in
      let q = both (is_small c) (is_small (pos 1) && true) p.0 in
      let l = leb-true (nat_abs c) (2 ^ 40) q.0 in
      omega (arith, l)

  negative-size : (c : ℤ) → Size c → Size (neg_ℤ c)
  negative-size c h = omega (arith, ints, h)

  module _ (counter : List ℕ) (counters : List ℕ → Bool) (ds : List Induction) (k : ℕ) (are : AreInductions counter counters ds) (count : IsIntegerScalar es counter)
      (scalars : (d : Induction) → Is ds d → IsIntegerScalar es d.name) where
    form-sum : (d : Induction) → Is ds d → IsSum 4 (induction_text counter d k)
    form-sum d h = text-sum d.step (constant_at d k) counter d.name size (by (nat_le k d.place)) count (scalars d h)
      where
        size : Size d.step
        size = limited-size d.step (are d h).behind

        by : (b : Bool) → Size (cond b d.less (pos 0))
        by true = subst Size (sym (are d h).less) (negative-size d.step size)
        by false = omega arith

    same : (e : Expression) (q : Kind) → HasKind es e q → TakesPlace es 5 e e q
    same e q h = record { kind = h; rank = refl; depth = λ least. below_first (enclosed least (level e) (depth_of e)) }
      where
        below_first : (a : ℕ) → a ≤ max a 5
        below_first a = omega arith

    stands : (x : List ℕ) (d : Induction) (q : Kind) → found ds x ≡ Some d → HasKind es (Named x no_subscripts) q → TakesPlace es 5 (Named x no_subscripts) (induction_text counter d k) q
    stands x d q f h =
        let name = found-name ds x d f in
        let is : Is ds d = subst (λ y. found ds y ≡ Some d) (sym name) f in
        let this : IsIntegerScalar es x = subst (IsIntegerScalar es) name (scalars d is) in
        let kind : q ≡ Integer = kind_of (declared es x) q _ h.0 this in
        let s = form-sum d is in
        record {
          kind = subst (HasKind es (induction_text counter d k)) (sym kind) s.kind;
          rank = s.rank ∙ sym (no_rank (declared es x) this);
          depth = λ least. below (enclosed least (level (induction_text counter d k)) (depth_of (induction_text counter d k))) (depth_of (induction_text counter d k)) (enclosed least 10 0)
              (in_parentheses least (level (induction_text counter d k)) (depth_of (induction_text counter d k))) s.depth;
        }
      where
        below : (a n c : ℕ) → a ≤ 1 + n → n ≤ 4 → a ≤ max c 5
        below a n c l m = omega arith

    bare : (x : List ℕ) (q : Kind) → HasKind es (Named x no_subscripts) q → TakesPlace es 5 (Named x no_subscripts) (form_text_or counter k (found ds x) (Named x no_subscripts)) q
    bare x q h = by (found ds x) refl
      where
        by : (o : Option Induction) → found ds x ≡ o → TakesPlace es 5 (Named x no_subscripts) (form_text_or counter k o (Named x no_subscripts)) q
        by (Some d) f = stands x d q f h
        by None f = same (Named x no_subscripts) q h

    node : (e : Expression) (q : Kind) → HasKind es e q → TakesPlace es 5 e (form_text_or counter k (induction_in ds e) e) q
    node (Named x no_subscripts) q h = bare x q h
    node (Named x (subscript p ps)) q h = same (Named x (subscript p ps)) q h
    node (Number n) q h = same (Number n) q h
    node (Logic b) q h = same (Logic b) q h
    node (Unary o a) q h = same (Unary o a) q h
    node (Binary o a b) q h = same (Binary o a b) q h
    node (Apply f vs) q h = same (Apply f vs) q h
    node (Constructor vs ls) q h = same (Constructor vs ls) q h
    node (Spread a i n) q h = same (Spread a i n) q h
    node (Transpose a) q h = same (Transpose a) q h
    node (Reshape a vs) q h = same (Reshape a vs) q h
    node (Reduce r a) q h = same (Reduce r a) q h

pub forms_keep_profile : FormsKeepProfile
forms_keep_profile es counter counters ds k are count scalars = record {
  expression = λ first e q h kind. node es counter counters ds k are count scalars e q kind;
  left = λ l q h kind. same es counter counters ds k are count scalars (named l) q kind;
  target = λ l h. inl refl;
}
