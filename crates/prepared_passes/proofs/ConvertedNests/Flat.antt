-- Masks, their negatives and conjunctions of these, as expressions of a prepared nest.
use Rattle.std.proofs.Common.{◌≡◌, refl, sym, ap, subst, inl, inr, ℕ, zero, suc, ◌+◌, ◌*◌, ◌-◌, ◌≤◌, ◌^◌, max, nat_le, Bool, true, false, cond, All, List, [], ◌∷◌, length, take, drop, length-drop, Option, Some, None, IsSomeAnd, get_or, arith}
use Rattle.std.specs.Prelude.{◌/◌}
use Rattle.std.proofs.lemmas.List.{length-take-le}
use Rattle.std.proofs.lemmas.List.Elements.{All-append, All-cons, All-nil}
use Rattle.tree.specs.Plain.{Binary, Declaration, Expression, Logic, Unary}
use Rattle.tree.specs.OperatorTable.{left_least, right_least}
use Rattle.tree.specs.declared.ops.Kind.TheVariants.{Logical}
use Rattle.tree.specs.declared.ops.Op.TheVariants.{And, Not}
use Rattle.meaning.specs.Depths.{depth_of, enclosed, level}
use Rattle.meaning.specs.Reads.{names_in}
use Rattle.meaning.specs.Typed.{declared, rank_of_extent}
use Rattle.meaning.specs.Typed90.{IsScalar, rank_of}
use Rattle.nest.specs.Plain.{Loop}
use Rattle.nest_order.specs.runs.Touched.{IsPlain}
use Rattle.last_values.specs.normal_forms.NormalLoops.{counter_name}
use Rattle.pass_laws.specs.prepared_nests.Statements.{IsOwn}
use Rattle.if_convert.specs.Masks.{first_half, mask, mask_name, none_left, none_of, not_left}
use Rattle.if_convert.specs.declared.points.Jumped.{Jumped}
use Rattle.if_convert.proofs.Halves.{front_fits, rest_fits}
use Rattle.prepared_passes.specs.conversion.Places.{IsMask}
use Rattle.nest_order.specs.orders.Lists.{In}

-- a mask counts no loop
pub mask_counter : (i k : ℕ) → mask_name i ≡ counter_name k → ⊥
mask_counter i k e = let z : 77 ≡ 76 = ap (λ xs. get_or xs 3 0) e in absurd (omega (arith, z))

-- a scalar condition in which no counter stands
pub record Flat (es : List Declaration) (ls : List Loop) (depth : ℕ) (e : Expression) : Type 0 where
  pub plain : IsPlain e
  pub names : All (IsOwn ls) (names_in e)
  pub scalar : IsScalar es e Logical
  pub deep : depth_of e ≤ depth

enclosed_most : (a b n : ℕ) → enclosed a b n ≤ 1 + n
enclosed_most a b n = by (nat_le a b)
  where
    by : (c : Bool) → cond c n (1 + n) ≤ 1 + n
    by true = omega arith
    by false = omega arith

module _ (es : List Declaration) (ls : List Loop) where
  own_mask : (i : ℕ) → IsOwn ls (mask_name i)
  own_mask i k small e = absurd (mask_counter i k e)

  logic_flat : (b : Bool) → Flat es ls 0 (Logic b)
  logic_flat b = record { plain = tt; names = All-nil (IsOwn ls); scalar = (refl, refl); deep = omega arith }

  pub mask_flat : (i : ℕ) → IsSomeAnd (declared es (mask_name i)) IsMask → Flat es ls 0 (mask i)
  mask_flat i h = record {
    plain = tt;
    names = All-cons (IsOwn ls) (mask_name i) [] (own_mask i) (All-nil (IsOwn ls));
    scalar = ((kind (declared es (mask_name i)) h, tt), rank (declared es (mask_name i)) h);
    deep = omega arith;
  }
    where
      kind : (o : Option Declaration) → IsSomeAnd o IsMask → IsSomeAnd o (λ (d : Declaration). (Logical ≡ d.kind) × Unit {0})
      kind None h = absurd h
      kind (Some d) h = (sym h.kind, tt)

      rank : (o : Option Declaration) → IsSomeAnd o IsMask → ◌≡◌ {A = ℕ} (elim o [ None ↦ 0 | Some d ↦ rank_of_extent d.extent ]) 0
      rank None h = absurd h
      rank (Some d) h = ap rank_of_extent h.extent

  pub not_flat : (i : ℕ) → IsSomeAnd (declared es (mask_name i)) IsMask → Flat es ls 1 (Unary Not (mask i))
  not_flat i h =
      let m = mask_flat i h in
      record { plain = m.plain; names = m.names; scalar = ((refl, refl, m.scalar.0), m.scalar.1); deep = omega arith }

  and_flat : (d : ℕ) (a b : Expression) → Flat es ls d a → Flat es ls d b → Flat es ls (2 + d) (Binary And a b)
  and_flat d a b h k = record {
    plain = (h.plain, k.plain);
    names = All-append (IsOwn ls) (names_in a) (names_in b) h.names k.names;
    scalar = ((refl, refl, h.scalar.0, k.scalar.0, inl h.scalar.1), ranks (rank_of es a) (rank_of es b) h.scalar.1 k.scalar.1);
    deep =
        (let l = enclosed_most (left_least And) (level a) (depth_of a) in
        let r = enclosed_most (right_least And) (level b) (depth_of b) in
        let x = h.deep in
        let y = k.deep in
        omega (arith, l, r, x, y));
  }
    where
      ranks : (x y : ℕ) → x ≡ 0 → y ≡ 0 → max x y ≡ 0
      ranks x y e f = omega (arith, e, f)

  pub more_flat : (c d : ℕ) (e : Expression) → c ≤ d → Flat es ls c e → Flat es ls d e
  more_flat c d e h f = record { plain = f.plain; names = f.names; scalar = f.scalar; deep = (let x = f.deep in omega (arith, x, h)) }

  half_of : (n x : ℕ) → n ≤ 2 * x → n - n / 2 ≤ x
  half_of n x h = omega (arith, h)

  other_half : (n x : ℕ) → n ≤ 2 * x → n - (n - n / 2) ≤ x
  other_half n x h = omega (arith, h)

  twice : (j : ℕ) → 2 ^ suc j ≡ 2 * 2 ^ j
  twice j = grind arith

  -- at most 2 ^ j jumps
  halved_flat : (j n : ℕ) (xs : List Jumped) → length xs ≤ n → length xs ≤ 2 ^ j → ((l : Jumped) → In l xs → IsSomeAnd (declared es (mask_name l.mask)) IsMask) → Flat es ls (1 + 2 * j) (none_of n xs)
  halved_flat j zero xs h k d = more_flat 0 (1 + 2 * j) (Logic true) (omega arith) (logic_flat true)
  halved_flat j (suc n) [] h k d = more_flat 0 (1 + 2 * j) (Logic true) (omega arith) (logic_flat true)
  halved_flat j (suc n) (x ∷ []) h k d = more_flat 1 (1 + 2 * j) (not_left x) (omega arith) (not_flat x.mask (d x (inl refl)))
  halved_flat zero (suc n) (x ∷ y ∷ xs) h k d = absurd (omega (arith, k))
  halved_flat (suc j) (suc n) (x ∷ y ∷ xs) h k d =
      let all : List Jumped = x ∷ y ∷ xs in
      let two : 2 ≤ length all = omega arith in
      let t = twice j in
      let small : length all ≤ 2 * 2 ^ j = omega (arith, k, t) in
      let a : length (take (first_half all) all) ≤ 2 ^ j = (let e = length-take-le (first_half all) all (omega arith) in let b = half_of (length all) (2 ^ j) small in omega (arith, e, b)) in
      let b : length (drop (first_half all) all) ≤ 2 ^ j = (let e = length-drop (first_half all) all in let c = other_half (length all) (2 ^ j) small in omega (arith, e, c)) in
      subst (λ m. Flat es ls m (none_of (suc n) (x ∷ y ∷ xs))) (omega arith)
      (and_flat (1 + 2 * j) (none_of n (take (first_half all) all)) (none_of n (drop (first_half all) all))
      (halved_flat j n (take (first_half all) all) (front_fits all n two h) a (λ l i. d l (in_take (first_half all) all l i)))
      (halved_flat j n (drop (first_half all) all) (rest_fits all n two h) b (λ l i. d l (in_drop (first_half all) all l i))))
    where
      in_take : {X : Type 0} (n : ℕ) (xs : List X) (x : X) → In x (take n xs) → In x xs
      in_take zero xs x i = absurd i
      in_take (suc n) [] x i = absurd i
      in_take (suc n) (y ∷ xs) x (inl e) = inl e
      in_take (suc n) (y ∷ xs) x (inr i) = inr (in_take n xs x i)

      in_drop : {X : Type 0} (n : ℕ) (xs : List X) (x : X) → In x (drop n xs) → In x xs
      in_drop zero xs x i = i
      in_drop (suc n) [] x i = absurd i
      in_drop (suc n) (y ∷ xs) x i = inr (in_drop n xs x i)

  pub left_flat : (xs : List Jumped) → length xs ≤ 2 ^ 32 → ((l : Jumped) → In l xs → IsSomeAnd (declared es (mask_name l.mask)) IsMask) → Flat es ls 65 (none_left xs)
  unfolding none_left
  left_flat xs h d = halved_flat 32 (length xs) xs (omega arith) h d

  pub truth_flat : (b : Bool) → Flat es ls 0 (Logic b)
  truth_flat b = logic_flat b
