-- One place after another is looked at: where something has held at none so far, the first at which it holds is found.
use Rattle.std.proofs.Common.{arith, ◌≡◌, ◌⊎◌, inl, inr, ◌+◌, ◌<◌, ◌≤◌, ℕ, zero, suc, Bool, true, false, List, [], ◌∷◌}
use Rattle.std.proofs.Common.{◌++◌, length, get_or, refl, ap, sym, subst, ◌∙◌, Some, None}
use Rattle.f90_grammar.specs.Blocks.{Placed}
use Rattle.f90_grammar.specs.Order.{Place90, IsPlaceIn}
use Rattle.f90_blocks.specs.places.forms.Places.{IsPlacedOf}
use Rattle.f90_blocks.specs.declared.places.forms.placing.Placed as code
use Rattle.f90_statement.specs.Views.{AreOf}
use Rattle.f90_blocks.specs.places.First.{FindsFirst}

-- it holds at none of the first `n` places
abbrev pub HoldsAtNone : List Placed → (Place90 → Type 0) → ℕ → Type 0
HoldsAtNone ps Holds n = (p : Place90) → IsPlaceIn ps p → length p.before < n → Holds p → ⊥

-- the place behind `n` statements, where the code holds that statement
pub record StandsAt (ps : List Placed) (n : ℕ) (k : code.Placed) (p : Place90) : Type 0 where
  pub in_text : IsPlaceIn ps p
  pub number : length p.before ≡ n
  pub is : IsPlacedOf k p.here

abbrev at : List Placed → Placed → List Placed → Place90
at before here after = record { before = before; here = here; after = after }

-- ---- a place is told by how many statements stand before it

pub record AreSame (a b : List Placed) (x y : Placed) (c d : List Placed) : Type 0 where
  pub before : a ≡ b
  pub here : x ≡ y
  pub after : c ≡ d

heads : (x y : Placed) (c d : List Placed) → x ∷ c ≡ y ∷ d → (x ≡ y) × (c ≡ d)
heads x y c d e = (cc, cc)

cut_once : (a b : List Placed) (x y : Placed) (c d : List Placed) → a ++ x ∷ c ≡ b ++ y ∷ d → length a ≡ length b
    → AreSame a b x y c d
cut_once [] [] x y c d e l = let h = heads x y c d e in record { before = refl; here = h.0; after = h.1 }
cut_once [] (z ∷ b) x y c d e l = absurd (omega arith)
cut_once (z ∷ a) [] x y c d e l = absurd (omega arith)
cut_once (z ∷ a) (w ∷ b) x y c d e l =
    let h = heads z w (a ++ x ∷ c) (b ++ y ∷ d) e in
    let m : length a ≡ length b = omega arith in
    let k = cut_once a b x y c d h.1 m in
    record {
      before = ap (λ (q : List Placed). z ∷ q) k.before ∙ ap (λ (q : Placed). q ∷ b) h.0;
      here = k.here;
      after = k.after;
    }

pub same_place : (ps : List Placed) (p q : Place90) → IsPlaceIn ps p → IsPlaceIn ps q → length p.before ≡ length q.before
    → p ≡ q
same_place ps p q h k l =
    let s = cut_once p.before q.before p.here q.here p.after q.after (sym h ∙ k) l in
    ap (λ (b : List Placed). at b p.here p.after) s.before
    ∙ (ap (λ (x : Placed). at q.before x p.after) s.here ∙ ap (λ (a : List Placed). at q.before q.here a) s.after)

pub place_at : (ks : List code.Placed) (ps : List Placed) (n : ℕ) (k : code.Placed) → AreOf IsPlacedOf ks ps
    → n < length ks → get_or ks n k ≡ k → (p : Place90) × StandsAt ps n k p
place_at [] ps n k a l g = absurd (omega arith)
place_at (j ∷ ks) [] n k a l g = absurd a
place_at (j ∷ ks) (q ∷ ps) zero k a l g =
    (at [] q ps, record { in_text = refl; number = refl; is = subst (λ (i : code.Placed). IsPlacedOf i q) g a.0 })
place_at (j ∷ ks) (q ∷ ps) (suc n) k a l g =
    let m : n < length ks = omega arith in
    let h = place_at ks ps n k a.1 m g in (
      at (q ∷ h.0.before) h.0.here h.0.after,
      record
          { in_text = ap (λ (r : List Placed). q ∷ r) h.1.in_text; number = ap suc h.1.number; is = h.1.is },
    )

pub stands_at : (ks : List code.Placed) (ps : List Placed) (n : ℕ) (k : code.Placed) (p : Place90)
    → AreOf IsPlacedOf ks ps → n < length ks → get_or ks n k ≡ k
    → IsPlaceIn ps p → length p.before ≡ n → StandsAt ps n k p
stands_at ks ps n k p a l g i e =
    let h = place_at ks ps n k a l g in
    subst (λ (q : Place90). StandsAt ps n k q) (sym (same_place ps p h.0 i h.1.in_text (e ∙ sym h.1.number))) h.1

pub as_many : (ks : List code.Placed) (ps : List Placed) → AreOf IsPlacedOf ks ps → length ks ≡ length ps
as_many [] [] a = refl
as_many [] (p ∷ ps) a = absurd a
as_many (k ∷ ks) [] a = absurd a
as_many (k ∷ ks) (p ∷ ps) a = ap suc (as_many ks ps a.1)

within : (b : List Placed) (x : Placed) (c : List Placed) → length b < length (b ++ x ∷ c)
within [] x c = omega arith
within (y ∷ b) x c = let h = within b x c in omega arith

pub place_within : (ps : List Placed) (p : Place90) → IsPlaceIn ps p → length p.before < length ps
place_within ps p i = subst (λ (q : List Placed). length p.before < length q) (sym i) (within p.before p.here p.after)

-- ---- what was found so far

last_or_before : (m n : ℕ) → m < n + 1 → (m < n) ⊎ (m ≡ n)
last_or_before zero zero l = inr refl
last_or_before zero (suc n) l = inl (omega arith)
last_or_before (suc m) zero l = absurd (omega arith)
last_or_before (suc m) (suc n) l = by (last_or_before m n (omega arith))
  where
    by : (m < n) ⊎ (m ≡ n) → (suc m < suc n) ⊎ (suc m ≡ suc n)
    by (inl h) = inl (omega arith)
    by (inr e) = inr (ap suc e)

not_less : (m n : ℕ) → (m < n → ⊥) → n ≤ m
not_less zero zero h = omega arith
not_less zero (suc n) h = absurd (h (omega arith))
not_less (suc m) zero h = omega arith
not_less (suc m) (suc n) h = let k = not_less m n (λ l. h (omega arith)) in omega arith

pub differ : (b : Bool) → b ≡ true → b ≡ false → ⊥
differ b h g = cc

-- at the next neither, or there, or nowhere as these are all
pub begun : (ps : List Placed) (Holds : Place90 → Type 0) → HoldsAtNone ps Holds 0
begun ps Holds p i l h = omega arith

pub passed : (ks : List code.Placed) (ps : List Placed) (Holds : Place90 → Type 0) (n : ℕ) (k : code.Placed)
    → AreOf IsPlacedOf ks ps → n < length ks → get_or ks n k ≡ k
    → ((p : Place90) → StandsAt ps n k p → Holds p → ⊥) → HoldsAtNone ps Holds n → HoldsAtNone ps Holds (n + 1)
passed ks ps Holds n k a l g f none p i m h = by (last_or_before (length p.before) n m)
  where
    by : (length p.before < n) ⊎ (length p.before ≡ n) → ⊥
    by (inl b) = none p i b h
    by (inr e) = f p (stands_at ks ps n k p a l g i e) h

pub met : (ks : List code.Placed) (ps : List Placed) (Holds : Place90 → Type 0) (n : ℕ) (k : code.Placed)
    → AreOf IsPlacedOf ks ps → n < length ks → get_or ks n k ≡ k
    → ((p : Place90) → StandsAt ps n k p → Holds p) → HoldsAtNone ps Holds n → FindsFirst ps Holds (Some n)
met ks ps Holds n k a l g f none =
    let h = place_at ks ps n k a l g in
    record {
      place = h.0;
      in_text = h.1.in_text;
      holds = f h.0 h.1;
      number = sym h.1.number;
      first = λ other i o. not_less (length other.before) n (λ b. none other i b o);
    }

pub ended : (ks : List code.Placed) (ps : List Placed) (Holds : Place90 → Type 0) (n : ℕ) → AreOf IsPlacedOf ks ps
    → length ks ≤ n → HoldsAtNone ps Holds n → FindsFirst ps Holds None
ended ks ps Holds n a l none p i h =
    let e = as_many ks ps a in
    let w = place_within ps p i in
    none p i (omega arith) h

-- ---- lines

pub line_is : (ks : List code.Placed) (ps : List Placed) (n : ℕ) (k : code.Placed) (p : Place90) → AreOf IsPlacedOf ks ps
    → n < length ks → get_or ks n k ≡ k
    → IsPlaceIn ps p → length p.before ≡ n → k.line ≡ p.here.line
line_is ks ps n k p a l g i e = (stands_at ks ps n k p a l g i e).is.line

pub beyond : (ks : List code.Placed) (ps : List Placed) (n : ℕ) (p : Place90) → AreOf IsPlacedOf ks ps → length ks ≤ n
    → IsPlaceIn ps p → length p.before ≡ n → ⊥
beyond ks ps n p a l i e =
    let m = as_many ks ps a in
    let w = place_within ps p i in
    omega arith
