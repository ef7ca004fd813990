-- What a kind or a rank that was found tells of an expression, for each kind of node, by what those of its parts tell.
use Rattle.std.proofs.Common.{◌≡◌, ℕ, ◌+◌, ◌^◌, ◌<◌, ◌≤◌, ◌==◌, max, ℤ, pos, negsuc, Bool, true, false, not, ◌&&◌, ◌||◌}
use Rattle.std.proofs.Common.{cond, refl, sym, ap, ◌∙◌, subst, Option, None, Some, Decides, leb-true, le-leb, nat_le}
use Rattle.std.proofs.Common.{nat_lt, IsTrue}
use Rattle.std.proofs.lemmas.Bool.Decides.{Decides-eqb, Decides-and, Decides-or, Decides-ltb}
use Rattle.tree.specs.declared.ops.Op.{Op}
use Rattle.tree.specs.declared.ops.Kind.{Kind}
use Rattle.tree.specs.declared.ops.Kind.TheVariants.{Integer, Logical}
use Rattle.tree.specs.declared.functions.Fun.{Fun}
use Rattle.tree.specs.Limits.{array_dimensions}
use Rattle.tree.specs.Functions.{suits_number}
use Rattle.tree.specs.OperatorTable.{operand_kind, result_kind_of, is_unary}
use Rattle.meaning.specs.Typed.{IsLiteral}
use Rattle.meaning.specs.Typed90.{Conform}
use Rattle.f90_names.specs.declared.kinds.nodes.Ranked.{Ranked}
use Rattle.f90_names.specs.kinds.Found.{ranked, ranked_if, same_kind, is_scalar, conform, literal, unary, binary, call}
use Rattle.f90_names.specs.kinds.Found.{constructor, spread, transpose, reshape, reduce, only, section}

-- P holds of the kind that was found and of no other, and the rank is n
pub record Exact (P : Kind → Type 0) (n : ℕ) (o : Option Ranked) : Type 0 where
  pub whole : (k : Kind) → P k → o ≡ Some (ranked k n)
  pub right : (t : Ranked) → o ≡ Some t → P t.kind × (n ≡ t.rank)

-- a rank was found exactly where P holds, and it is n
pub record ExactRank (P : Type 0) (n : ℕ) (o : Option ℕ) : Type 0 where
  pub whole : P → o ≡ Some n
  pub right : (m : ℕ) → o ≡ Some m → P × (n ≡ m)

-- ---- tests

pub same_true : (k j : Kind) → same_kind k j ≡ true → k ≡ j
same_true Integer Integer e = refl
same_true Integer Logical e = absurd (cc)
same_true Logical Integer e = absurd (cc)
same_true Logical Logical e = refl

pub same_refl : (k : Kind) → same_kind k k ≡ true
same_refl Integer = refl
same_refl Logical = refl

pub true_same : (k j : Kind) → k ≡ j → same_kind k j ≡ true
true_same k j e = ap (λ i. same_kind i j) e ∙ same_refl j

pub Decides-same : (k j : Kind) → Decides (same_kind k j) (k ≡ j)
Decides-same k j = (same_true k j, true_same k j)

pub Decides-leb : (a b : ℕ) → Decides (nat_le a b) (a ≤ b)
Decides-leb a b = (leb-true a b, le-leb a b)

pub Decides-conform : (m n : ℕ) → Decides (conform m n) (Conform m n)
Decides-conform m n =
    Decides-or (m == 0) (n == 0 || m == n) (Decides-eqb m 0)
    (Decides-or (n == 0) (m == n) (Decides-eqb n 0) (Decides-eqb m n))

-- ---- what was found under a test

pub given : (b : Bool) (k : Kind) (n : ℕ) → b ≡ true → ranked_if b k n ≡ Some (ranked k n)
given true k n e = refl
given false k n e = absurd (cc)

pub taken : (b : Bool) (k : Kind) (n : ℕ) (t : Ranked) → ranked_if b k n ≡ Some t → (b ≡ true) × (k ≡ t.kind)
    × (n ≡ t.rank)
taken true k n t e = let f : ranked k n ≡ t = cc in (refl, ap (λ (r : Ranked). r.kind) f, ap (λ (r : Ranked). r.rank) f)
taken false k n t e = absurd (cc)

pub none_some : {A : Type 0} (x : A) → None ≡ Some x → ⊥
none_some x e = cc

pub chosen : {A : Type 0} (b : Bool) (x y : A) → cond b (Some x) None ≡ Some y → (b ≡ true) × (x ≡ y)
chosen true x y e = let f : x ≡ y = cc in (refl, f)
chosen false x y e = absurd (none_some y e)

pub chosen_by : {A : Type 0} (b : Bool) (x : A) → b ≡ true → cond b (Some x) None ≡ Some x
chosen_by true x e = refl
chosen_by false x e = absurd (cc)

-- by a test that decides all but the kind
pub tested : (b : Bool) (Q : Type 0) (j : Kind) (n : ℕ) → Decides b Q → Exact (λ k. (k ≡ j) × Q) n (ranked_if b j n)
tested b Q j n d = record {
  whole = λ k h. given b j n (d.1 h.1) ∙ ap (λ (i : Kind). Some (ranked i n)) (sym h.0);
  right = λ t e. let h = taken b j n t e in ((sym h.1, d.0 h.0), h.2);
}

-- the same under another word for what holds, and for the rank
pub reworded : (P Q : Kind → Type 0) (m n : ℕ) (o : Option Ranked) → Exact P m o → ((k : Kind) → P k → Q k)
    → ((k : Kind) → Q k → P k) → ((k : Kind) → P k → m ≡ n) → Exact Q n o
reworded P Q m n o x f g same = record {
  whole = λ k h. x.whole k (g k h) ∙ ap (λ i. Some (ranked k i)) (same k (g k h));
  right = λ t e. let h = x.right t e in (f t.kind h.0, sym (same t.kind h.0) ∙ h.1);
}

-- nothing was found of a part
pub nothing : (P Q : Kind → Type 0) (m n : ℕ) → Exact P m None → ((k : Kind) → Q k → (j : Kind) × P j) → Exact Q n None
nothing P Q m n x f = record {
  whole = λ k h. absurd (none_some (ranked (f k h).0 m) (x.whole (f k h).0 (f k h).1));
  right = λ t e. absurd (none_some t e);
}

-- what was found of a part is its only kind
pub found_is : (P : Kind → Type 0) (m : ℕ) (a : Ranked) (k : Kind) → Exact P m (Some a) → P k → a.kind ≡ k
found_is P m a k x h = let e = x.whole k h in let f : a ≡ ranked k m = cc in ap (λ (r : Ranked). r.kind) f

pub found_has : (P : Kind → Type 0) (m : ℕ) (a : Ranked) (k : Kind) → Exact P m (Some a) → a.kind ≡ k → P k
found_has P m a k x e = subst P e (x.right a refl).0

pub Decides-found : (P : Kind → Type 0) (m : ℕ) (a : Ranked) (k : Kind) → Exact P m (Some a)
    → Decides (same_kind a.kind k) (P k)
Decides-found P m a k x = (
  λ e. found_has P m a k x (same_true a.kind k e),
  λ h. true_same a.kind k
      (found_is P m a k x h),
)

pub Decides-rank : (P : Kind → Type 0) (m : ℕ) (a : Ranked) (b : Bool) (Q : ℕ → Type 0) → Exact P m (Some a)
    → Decides b (Q a.rank) → Decides b (Q m)
Decides-rank P m a b Q x d = let e = (x.right a refl).1 in (λ f. subst Q (sym e) (d.0 f), λ h. d.1 (subst Q e h))

pub Decides-scalar : (P : Kind → Type 0) (m : ℕ) (o : Option Ranked) (k : Kind) → Exact P m o
    → Decides (is_scalar o k) (P k × (m ≡ 0))
Decides-scalar P m None k x = (λ e. absurd (cc), λ h. absurd (none_some (ranked k m) (x.whole k h.0)))
Decides-scalar P m (Some a) k x =
    Decides-and (same_kind a.kind k) (a.rank == 0) (Decides-found P m a k x)
    (Decides-rank P m a (a.rank == 0) (λ i. i ≡ 0) x (Decides-eqb a.rank 0))

-- ---- each kind of node

pub literal-is : (z : ℤ) → Exact (λ k. IsLiteral z × (k ≡ Integer)) 0 (literal z)
literal-is (pos n) =
    reworded (λ k. (k ≡ Integer) × (n < 2 ^ 127)) (λ k. IsLiteral (pos n) × (k ≡ Integer)) 0 0 (literal (pos n))
    (tested (nat_lt n (2 ^ 127)) (n < 2 ^ 127) Integer 0 (Decides-ltb n (2 ^ 127))) (λ k h. (h.1, h.0))
    (λ k h. (h.1, h.0)) (λ k h. refl)
literal-is (negsuc n) = record { whole = λ k h. absurd h.0; right = λ t e. absurd (none_some t e) }

pub unary-is : (o : Op) (P : Kind → Type 0) (r : ℕ) (x : Option Ranked) → Exact P r x
    → Exact (λ k. IsTrue (is_unary o) × (k ≡ result_kind_of o) × P (operand_kind o)) r (unary o x)
unary-is o P r None x = nothing P (λ k. IsTrue (is_unary o) × (k ≡ result_kind_of o) × P (operand_kind o)) r r x
    (λ k h. (operand_kind o, h.2))
unary-is o P r (Some a) x =
    reworded (λ k. (k ≡ result_kind_of o) × (IsTrue (is_unary o) × P (operand_kind o)))
    (λ k. IsTrue (is_unary o) × (k ≡ result_kind_of o) × P (operand_kind o)) a.rank r (unary o (Some a))
    (tested (is_unary o && same_kind a.kind (operand_kind o)) (IsTrue (is_unary o) × P (operand_kind o))
    (result_kind_of o) a.rank
    (Decides-and (is_unary o) (same_kind a.kind (operand_kind o)) (λ e. e, λ e. e)
    (Decides-found P r a (operand_kind o) x)))
    (λ k h. (h.1.0, h.0, h.1.1)) (λ k h. (h.1, (h.0, h.2))) (λ k h. sym (x.right a refl).1)

abbrev pub IsBinary : Op → (Kind → Type 0) → (Kind → Type 0) → ℕ → ℕ → Kind → Type 0
IsBinary o P Q r s k = IsTrue (not (is_unary o)) × (k ≡ result_kind_of o) × P (operand_kind o) × Q (operand_kind o)
    × Conform r s

pub binary-is : (o : Op) (P Q : Kind → Type 0) (r s : ℕ) (x y : Option Ranked) → Exact P r x → Exact Q s y
    → Exact (IsBinary o P Q r s) (max r s) (binary o x y)
binary-is o P Q r s None y f g = nothing P (IsBinary o P Q r s) r (max r s) f (λ k h. (operand_kind o, h.2))
binary-is o P Q r s (Some a) None f g = nothing Q (IsBinary o P Q r s) s (max r s) g (λ k h. (operand_kind o, h.3))
binary-is o P Q r s (Some a) (Some b) f g =
    reworded (λ k. (k ≡ result_kind_of o) × (IsTrue (not (is_unary o))
    × (P (operand_kind o) × (Q (operand_kind o) × Conform r s)))) (IsBinary o P Q r s) (max a.rank b.rank) (max r s)
    (binary o (Some a) (Some b))
    (tested (not (is_unary o) && (same_kind a.kind (operand_kind o)
    && (same_kind b.kind (operand_kind o) && conform a.rank b.rank)))
    (IsTrue (not (is_unary o)) × (P (operand_kind o) × (Q (operand_kind o) × Conform r s))) (result_kind_of o)
    (max a.rank b.rank)
    (Decides-and (not (is_unary o)) (same_kind a.kind (operand_kind o)
    && (same_kind b.kind (operand_kind o) && conform a.rank b.rank)) (λ e. e, λ e. e)
    (Decides-and (same_kind a.kind (operand_kind o)) (same_kind b.kind (operand_kind o) && conform a.rank b.rank)
    (Decides-found P r a (operand_kind o) f)
    (Decides-and (same_kind b.kind (operand_kind o)) (conform a.rank b.rank) (Decides-found Q s b (operand_kind o) g)
    (Decides-rank P r a (conform a.rank b.rank) (λ i. Conform i s) f
    (Decides-rank Q s b (conform a.rank b.rank) (λ i. Conform a.rank i) g (Decides-conform a.rank b.rank)))))))
    (λ k h. (h.1.0, h.0, h.1.1.0, h.1.1.1.0, h.1.1.1.1)) (λ k h. (h.1, (h.0, (h.2, (h.3, h.4)))))
    (λ k h. ap (λ i. max i b.rank) (sym (f.right a refl).1) ∙ ap (λ i. max r i) (sym (g.right b refl).1))

pub call-is : (f : Fun) (free : Bool) (F A : Type 0) (n r : ℕ) (o : Option ℕ) → Decides free F → ExactRank A r o
    → Exact (λ k. IsTrue (suits_number f n) × F × (k ≡ Integer) × A) r (call f free n o)
call-is f free F A n r None d x = record {
  whole = λ k h. absurd (none_some r (x.whole h.3));
  right =
      λ t e. absurd (none_some t e);
}
call-is f free F A n r (Some m) d x =
    reworded (λ k. (k ≡ Integer) × (IsTrue (suits_number f n) × F))
    (λ k. IsTrue (suits_number f n) × F × (k ≡ Integer) × A) m r (call f free n (Some m))
    (tested (suits_number f n && free) (IsTrue (suits_number f n) × F) Integer m
    (Decides-and (suits_number f n) free (λ e. e, λ e. e) d))
    (λ k h. (h.1.0, h.1.1, h.0, (x.right m refl).0)) (λ k h. (h.2, (h.0, h.1))) (λ k h. sym (x.right m refl).1)

pub spread-is : (free : Bool) (F : Type 0) (P Q : Kind → Type 0) (r s d : ℕ) (x y : Option Ranked) → Decides free F
    → Exact P r x → Exact Q s y
    → Exact (λ k. F × (1 ≤ d) × (d ≤ r + 1) × (r < array_dimensions) × P k × Q Integer × (s ≡ 0)) (r + 1)
    (spread free x d y)
spread-is free F P Q r s d None y g f h = nothing P (λ k. F × (1 ≤ d) × (d ≤ r + 1) × (r < array_dimensions) × P k
    × Q Integer × (s ≡ 0)) r (r + 1) f (λ k h. (k, h.4))
spread-is free F P Q r s d (Some a) y g f h =
    let all : Bool = free && (nat_le 1 d && (nat_lt a.rank array_dimensions
    && (nat_le d (a.rank + 1) && is_scalar y Integer))) in
    reworded (λ k. (k ≡ a.kind) × (F × ((1 ≤ d) × ((r < array_dimensions) × ((d ≤ r + 1) × (Q Integer × (s ≡ 0)))))))
    (λ k. F × (1 ≤ d) × (d ≤ r + 1) × (r < array_dimensions) × P k × Q Integer × (s ≡ 0)) (a.rank + 1) (r + 1)
    (spread free (Some a) d y)
    (tested all (F × ((1 ≤ d) × ((r < array_dimensions) × ((d ≤ r + 1) × (Q Integer × (s ≡ 0)))))) a.kind (a.rank + 1)
    (Decides-and free (nat_le 1 d && (nat_lt a.rank array_dimensions && (nat_le d (a.rank + 1) && is_scalar y Integer)))
    g
    (Decides-and (nat_le 1 d) (nat_lt a.rank array_dimensions && (nat_le d (a.rank + 1) && is_scalar y Integer))
    (Decides-leb 1 d)
    (Decides-and (nat_lt a.rank array_dimensions) (nat_le d (a.rank + 1) && is_scalar y Integer)
    (Decides-rank P r a (nat_lt a.rank array_dimensions) (λ i. i < array_dimensions) f
    (Decides-ltb a.rank array_dimensions))
    (Decides-and (nat_le d (a.rank + 1)) (is_scalar y Integer)
    (Decides-rank P r a (nat_le d (a.rank + 1)) (λ i. d ≤ i + 1) f (Decides-leb d (a.rank + 1)))
    (Decides-scalar Q s y Integer h))))))
    (λ k e. (e.1.0, e.1.1.0, e.1.1.1.1.0, e.1.1.1.0, found_has P r a k f (sym e.0), e.1.1.1.1.1.0, e.1.1.1.1.1.1))
    (λ k e. (sym (found_is P r a k f e.4), (e.0, (e.1, (e.3, (e.2, (e.5, e.6)))))))
    (λ k e. ap (λ i. i + 1) (sym (f.right a refl).1))

pub transpose-is : (free : Bool) (F : Type 0) (P : Kind → Type 0) (r : ℕ) (x : Option Ranked) → Decides free F
    → Exact P r x
    → Exact (λ k. F × (r ≡ 2) × P k) 2 (transpose free x)
transpose-is free F P r None g f = nothing P (λ k. F × (r ≡ 2) × P k) r 2 f (λ k h. (k, h.2))
transpose-is free F P r (Some a) g f =
    reworded (λ k. (k ≡ a.kind) × (F × (r ≡ 2))) (λ k. F × (r ≡ 2) × P k) 2 2 (transpose free (Some a))
    (tested (free && a.rank == 2) (F × (r ≡ 2)) a.kind 2 (Decides-and free (a.rank == 2) g
    (Decides-rank P r a (a.rank == 2) (λ i. i ≡ 2) f (Decides-eqb a.rank 2))))
    (λ k e. (e.1.0, e.1.1, found_has P r a k f (sym e.0))) (λ k e. (sym (found_is P r a k f e.2), (e.0, e.1)))
    (λ k e. refl)

pub reshape-is : (free : Bool) (F : Type 0) (P : Kind → Type 0) (r : ℕ) (x : Option Ranked) (n : ℕ) (suit : Bool)
    (S : Type 0) → Decides free F → Exact P r x → Decides suit S
    → Exact (λ k. F × (1 ≤ r) × (1 ≤ n) × (n ≤ array_dimensions) × P k × S) n (reshape free x n suit)
reshape-is free F P r None n suit S g f s = nothing P (λ k. F × (1 ≤ r) × (1 ≤ n) × (n ≤ array_dimensions) × P k × S) r
    n f (λ k h. (k, h.4))
reshape-is free F P r (Some a) n suit S g f s =
    reworded (λ k. (k ≡ a.kind) × (F × ((1 ≤ r) × ((1 ≤ n) × ((n ≤ array_dimensions) × S)))))
    (λ k. F × (1 ≤ r) × (1 ≤ n) × (n ≤ array_dimensions) × P k × S) n n (reshape free (Some a) n suit)
    (tested (free && (nat_le 1 a.rank && (nat_le 1 n && (nat_le n array_dimensions && suit))))
    (F × ((1 ≤ r) × ((1 ≤ n) × ((n ≤ array_dimensions) × S)))) a.kind n
    (Decides-and free (nat_le 1 a.rank && (nat_le 1 n && (nat_le n array_dimensions && suit))) g
    (Decides-and (nat_le 1 a.rank) (nat_le 1 n && (nat_le n array_dimensions && suit))
    (Decides-rank P r a (nat_le 1 a.rank) (λ i. 1 ≤ i) f (Decides-leb 1 a.rank))
    (Decides-and (nat_le 1 n) (nat_le n array_dimensions && suit) (Decides-leb 1 n)
    (Decides-and (nat_le n array_dimensions) suit (Decides-leb n array_dimensions) s)))))
    (λ k e. (e.1.0, e.1.1.0, e.1.1.1.0, e.1.1.1.1.0, found_has P r a k f (sym e.0), e.1.1.1.1.1))
    (λ k e. (sym (found_is P r a k f e.4), (e.0, (e.1, (e.2, (e.3, e.5)))))) (λ k e. refl)

pub reduce-is : (free : Bool) (F : Type 0) (P : Kind → Type 0) (r : ℕ) (x : Option Ranked) → Decides free F
    → Exact P r x
    → Exact (λ k. F × (1 ≤ r) × (k ≡ Integer) × P Integer) 0 (reduce free x)
reduce-is free F P r None g f = nothing P (λ k. F × (1 ≤ r) × (k ≡ Integer) × P Integer) r 0 f (λ k h. (Integer, h.3))
reduce-is free F P r (Some a) g f =
    reworded (λ k. (k ≡ Integer) × (F × ((1 ≤ r) × P Integer))) (λ k. F × (1 ≤ r) × (k ≡ Integer) × P Integer) 0 0
    (reduce free (Some a))
    (tested (free && (nat_le 1 a.rank && same_kind a.kind Integer)) (F × ((1 ≤ r) × P Integer)) Integer 0
    (Decides-and free (nat_le 1 a.rank && same_kind a.kind Integer) g
    (Decides-and (nat_le 1 a.rank) (same_kind a.kind Integer)
    (Decides-rank P r a (nat_le 1 a.rank) (λ i. 1 ≤ i) f (Decides-leb 1 a.rank)) (Decides-found P r a Integer f))))
    (λ k e. (e.1.0, e.1.1.0, e.0, e.1.1.1)) (λ k e. (e.2, (e.0, (e.1, e.3)))) (λ k e. refl)

pub constructor-is : (n loops : ℕ) (suit : Bool) (L S : Type 0) (A : Kind → Type 0) (o : Option Kind) → Decides suit L
    → Decides (cond (loops == 0) (nat_le 1 n) (n == 1)) S → ((k : Kind) → S → A k → o ≡ Some k)
    → ((k : Kind) → o ≡ Some k → A k)
    → Exact (λ k. A k × S × L) 1 (constructor n loops suit o)
constructor-is n loops suit L S A None d s whole right = record {
  whole = λ k h. absurd (none_some k (whole k h.1 h.0));
  right = λ t e. absurd (none_some t e);
}
constructor-is n loops suit L S A (Some j) d s whole right =
    reworded (λ k. (k ≡ j) × (L × S)) (λ k. A k × S × L) 1 1 (constructor n loops suit (Some j))
    (tested (suit && cond (loops == 0) (nat_le 1 n) (n == 1)) (L × S) j 1
    (Decides-and suit (cond (loops == 0) (nat_le 1 n) (n == 1)) d s))
    (λ k e. (subst A (sym e.0) (right j refl), e.1.1, e.1.0))
    (λ k e. (let f = whole k e.1 e.0 in let g : k ≡ j = cc in g, (e.2, e.1))) (λ k e. refl)

-- ---- parts of lists

pub only-is : (P : Kind → Type 0) (r : ℕ) (o : Option Ranked) → Exact P r o → ExactRank (P Integer × (r ≤ 1)) r (only o)
only-is P r None x = record {
  whole = λ h. absurd (none_some (ranked Integer r) (x.whole Integer h.0));
  right =
      λ m e. absurd (none_some m e);
}
only-is P r (Some a) x = record {
  whole = λ h. chosen_by (same_kind a.kind Integer && nat_le a.rank 1) a.rank (d.1 h)
      ∙ ap (λ i. Some i) (sym (x.right a refl).1);
  right = λ m e. let t = chosen (same_kind a.kind Integer && nat_le a.rank 1) a.rank m e in
      (d.0 t.0, (x.right a refl).1 ∙ t.1);
}
  where
    d : Decides (same_kind a.kind Integer && nat_le a.rank 1) (P Integer × (r ≤ 1))
    d = Decides-and (same_kind a.kind Integer) (nat_le a.rank 1) (Decides-found P r a Integer x)
        (Decides-rank P r a (nat_le a.rank 1) (λ i. i ≤ 1) x (Decides-leb a.rank 1))

pub section-is : (P Q R : Kind → Type 0) (r s t : ℕ) (x y z : Option Ranked) → Exact P r x → Exact Q s y → Exact R t z
    → ExactRank ((P Integer × (r ≡ 0)) × (Q Integer × (s ≡ 0)) × (R Integer × (t ≡ 0))) 1 (section x y z)
section-is P Q R r s t x y z f g h = record {
  whole = λ e. chosen_by {A = ℕ} (is_scalar x Integer && (is_scalar y Integer && is_scalar z Integer)) 1
      (d.1 (e.0, (e.1, e.2)));
  right = λ m e. let u = chosen {A = ℕ} (is_scalar x Integer && (is_scalar y Integer && is_scalar z Integer)) 1 m e in
      let v = d.0 u.0 in ((v.0, v.1.0, v.1.1), u.1);
}
  where
    d : Decides (is_scalar x Integer && (is_scalar y Integer && is_scalar z Integer))
        ((P Integer × (r ≡ 0)) × ((Q Integer × (s ≡ 0)) × (R Integer × (t ≡ 0))))
    d = Decides-and (is_scalar x Integer) (is_scalar y Integer && is_scalar z Integer) (Decides-scalar P r x Integer f)
        (Decides-and (is_scalar y Integer) (is_scalar z Integer) (Decides-scalar Q s y Integer g)
        (Decides-scalar R t z Integer h))
