-- One statement after another is looked at: where all are good so far, all are, or the first that isn't is found.
use Rattle.std.proofs.Common.{arith, ◌≡◌, ◌⊎◌, inl, inr, ◌+◌, ◌<◌, ◌≤◌, ℕ, zero, suc, Bool, true, false, List, []}
use Rattle.std.proofs.Common.{◌∷◌, get_or, length, refl, ap, sym, Option, Some, None}
use Rattle.std.specs.List.{AllByRecursion}
use Rattle.f90_grammar.specs.Blocks.{Placed}
use Rattle.f90_grammar.specs.Forms.{Form90}
use Rattle.f90_grammar.specs.Order.{Place90, IsPlaceIn}
use Rattle.f90_blocks.specs.places.forms.Places.{IsPlacedOf}
use Rattle.f90_blocks.specs.declared.places.forms.placing.Placed as code
use Rattle.f90_statement.specs.Views.{AreOf}
use Rattle.f90_blocks.specs.places.First.{FindsFirst}
use Rattle.f90_blocks.proofs.places.Walks.{StandsAt, stands_at, as_many, place_within, met}
use Rattle.f90_read.specs.f90_suits.Ready.{HoldsOfAll}

-- the first `n` are good
abbrev pub AreGood : List Placed → (Form90 → Type 0) → ℕ → Type 0
AreGood ps Good n = (p : Place90) → IsPlaceIn ps p → length p.before < n → Good p.here.form

last_or_before : (m n : ℕ) → m < n + 1 → (m < n) ⊎ (m ≡ n)
last_or_before zero zero l = inr refl
last_or_before zero (suc n) l = inl (omega arith)
last_or_before (suc m) zero l = absurd (omega arith)
last_or_before (suc m) (suc n) l = by (last_or_before m n (omega arith))
  where
    by : (m < n) ⊎ (m ≡ n) → (suc m < suc n) ⊎ (suc m ≡ suc n)
    by (inl h) = inl (omega arith)
    by (inr e) = inr (ap suc e)

pub begun : (ps : List Placed) (Good : Form90 → Type 0) → AreGood ps Good 0
begun ps Good p i l = absurd (omega arith)

pub passed : (ks : List code.Placed) (ps : List Placed) (Good : Form90 → Type 0) (n : ℕ) (k : code.Placed)
    → AreOf IsPlacedOf ks ps → n < length ks → get_or ks n k ≡ k
    → ((p : Place90) → StandsAt ps n k p → Good p.here.form) → AreGood ps Good n → AreGood ps Good (n + 1)
passed ks ps Good n k a l g f good p i m = by (last_or_before (length p.before) n m)
  where
    by : (length p.before < n) ⊎ (length p.before ≡ n) → Good p.here.form
    by (inl b) = good p i b
    by (inr e) = f p (stands_at ks ps n k p a l g i e)

pub all_good : (ks : List code.Placed) (ps : List Placed) (Good : Form90 → Type 0) (n : ℕ) → AreOf IsPlacedOf ks ps
    → length ks ≤ n → AreGood ps Good n → HoldsOfAll Good ps
all_good ks ps Good n a l good p i =
    let e = as_many ks ps a in
    let w = place_within ps p i in
    good p i (omega arith)

pub none_bad : (ps : List Placed) (Good : Form90 → Type 0) → HoldsOfAll Good ps → FindsFirst ps
    (λ p. Good p.here.form → ⊥) None
none_bad ps Good good p i h = h (good p i)

pub first_bad : (ks : List code.Placed) (ps : List Placed) (Good : Form90 → Type 0) (n : ℕ) (k : code.Placed)
    → AreOf IsPlacedOf ks ps → n < length ks → get_or ks n k ≡ k
    → ((p : Place90) → StandsAt ps n k p → Good p.here.form → ⊥) → AreGood ps Good n → FindsFirst ps
    (λ p. Good p.here.form → ⊥) (Some n)
first_bad ks ps Good n k a l g f good =
    met ks ps (λ p. Good p.here.form → ⊥) n k a l g f (λ p i m h. h (good p i m))

pub differ : (b : Bool) → b ≡ true → b ≡ false → ⊥
differ b h g = cc

-- ---- what holds at each place holds of each statement

pub all_of_places : (Good : Placed → Type 0) (ps : List Placed) → ((p : Place90) → IsPlaceIn ps p → Good p.here)
    → AllByRecursion Good ps
all_of_places Good [] f = tt
all_of_places Good (q ∷ ps) f = (
  f (record { before = []; here = q; after = ps }) refl,
  all_of_places Good ps
      (λ p i. f (record { before = q ∷ p.before; here = p.here; after = p.after })
      (ap (λ (qs : List Placed). q ∷ qs) i)),
)
