-- No words are those of two lists of declared names.
use Rattle.std.proofs.Common.{◌≡◌, ℕ, Bool, true, false, List, [], ◌∷◌, ◌++◌, refl, sym, ap, ◌∙◌, append_assoc, Option, Some, None}
use mathlib.Core.Path.{ap₂}
use Rattle.std.specs.List.{AllByRecursion}
use Rattle.tree.specs.OperatorTable.{Sign, Plus, Minus, Negation}
use Rattle.f90_grammar.specs.Words.{Word90}
use Rattle.f90_grammar.specs.Words as words
use Rattle.f90_grammar.specs.Forms.{Bound90, IsBound90, Dimension, Upper, Both, Deferred, SuitsAllocatable, EntityForm90, IsEntity90, has_dimensions, separated90, written_sign, written_bound90, written_dimension, written_dimensions, written_entity90}
use Rattle.reading.specs.Characters.{IsList}
use Rattle.f90_laws.proofs.unique.Lists.{EndsItem, list_once}

pub record SameSign (s t : Option Sign) (c d : List ℕ) (r q : List Word90) : Type 0 where
  pub sign : s ≡ t
  pub digits : c ≡ d
  pub rest : r ≡ q

abbrev signed : Option Sign → List ℕ → List Word90 → List Word90
signed s c r = written_sign s ++ words.Digits c ∷ r

sign_once : (s t : Option Sign) (c d : List ℕ) (r q : List Word90) → (s ≡ Some Negation → ⊥) → (t ≡ Some Negation → ⊥)
    → signed s c r ≡ signed t d q → SameSign s t c d r q
sign_once (Some Negation) t c d r q h k e = absurd (h refl)
sign_once s (Some Negation) c d r q h k e = absurd (k refl)
sign_once None None c d r q h k e = record { sign = refl; digits = cc; rest = cc }
sign_once (Some Plus) (Some Plus) c d r q h k e = record { sign = refl; digits = cc; rest = cc }
sign_once (Some Minus) (Some Minus) c d r q h k e = record { sign = refl; digits = cc; rest = cc }
sign_once s t c d r q h k e = absurd (cc)

bound_rest : (b : Bound90) (r : List Word90) → written_bound90 b ++ r ≡ signed b.sign b.digits r
bound_rest b r = append_assoc (written_sign b.sign) (words.Digits b.digits ∷ []) r

abbrev bound_of : Option Sign → List ℕ → Bound90
bound_of s c = record { sign = s; digits = c }

bound_once : (a b : Bound90) (r s : List Word90) → IsBound90 a → IsBound90 b → written_bound90 a ++ r ≡ written_bound90 b ++ s → (a ≡ b) × (r ≡ s)
bound_once a b r s h k e =
    let t = sign_once a.sign b.sign a.digits b.digits r s h k (sym (bound_rest a r) ∙ (e ∙ bound_rest b s)) in
    (ap₂ (λ (x : Option Sign) (c : List ℕ). bound_of x c) t.sign t.digits, t.rest)

no_colon : (b : Bound90) (r s : List Word90) → written_bound90 b ++ r ≡ words.Colon ∷ s → ⊥
no_colon b r s e = by b.sign b.digits (sym (bound_rest b r) ∙ e)
  where
    by : (t : Option Sign) (c : List ℕ) → signed t c r ≡ words.Colon ∷ s → ⊥
    by None c e = cc
    by (Some Plus) c e = cc
    by (Some Minus) c e = cc
    by (Some Negation) c e = cc

not_colon : (r s : List Word90) → EndsItem r → r ≡ words.Colon ∷ s → ⊥
not_colon [] s h e = cc
not_colon (words.Colon ∷ r) s h e = h
not_colon (w ∷ r) s h e = cc

both_rest : (a b : Bound90) (r : List Word90) → written_dimension (Both a b) ++ r ≡ written_bound90 a ++ words.Colon ∷ (written_bound90 b ++ r)
both_rest a b r = append_assoc (written_bound90 a) (words.Colon ∷ written_bound90 b) r

dimension_once : (f : Bool) (c d : Dimension) (r s : List Word90) → SuitsAllocatable f c → SuitsAllocatable f d → EndsItem r → EndsItem s
    → written_dimension c ++ r ≡ written_dimension d ++ s → (c ≡ d) × (r ≡ s)
dimension_once true (Upper a) d r s h k p q e = absurd h
dimension_once true (Both a b) d r s h k p q e = absurd h
dimension_once true Deferred (Upper b) r s h k p q e = absurd k
dimension_once true Deferred (Both a b) r s h k p q e = absurd k
dimension_once true Deferred Deferred r s h k p q e = (refl, cc)
dimension_once false Deferred d r s h k p q e = absurd h
dimension_once false c Deferred r s h k p q e = absurd k
dimension_once false (Upper a) (Upper b) r s h k p q e = let t = bound_once a b r s h k e in (ap Upper t.0, t.1)
dimension_once false (Upper a) (Both b c) r s h k p q e =
    let t = bound_once a b r (words.Colon ∷ (written_bound90 c ++ s)) h k.0 (e ∙ both_rest b c s) in absurd (not_colon r _ p t.1)
dimension_once false (Both b c) (Upper a) r s h k p q e =
    let t = bound_once a b s (words.Colon ∷ (written_bound90 c ++ r)) k h.0 (sym e ∙ both_rest b c r) in absurd (not_colon s _ q t.1)
dimension_once false (Both a b) (Both c d) r s h k p q e =
    let t = bound_once a c (words.Colon ∷ (written_bound90 b ++ r)) (words.Colon ∷ (written_bound90 d ++ s)) h.0 k.0
    (sym (both_rest a b r) ∙ (e ∙ both_rest c d s)) in
    let w : written_bound90 b ++ r ≡ written_bound90 d ++ s = cc t.1 in
    let u = bound_once b d r s h.1 k.1 w in
    (ap₂ (λ (x y : Bound90). Both x y) t.0 u.0, u.1)

-- ---- entities

all_suit : (f : Bool) (ds : List Dimension) → has_dimensions f ds → AllByRecursion (SuitsAllocatable f) ds
all_suit true [] h = absurd h.0
all_suit true (d ∷ ds) h = h.0
all_suit false ds h = h.0

dimensions_rest : (x : List ℕ) (d : Dimension) (ds : List Dimension) (r : List Word90)
    → written_dimensions x (d ∷ ds) ++ r ≡ words.Head x ∷ (separated90 written_dimension (d ∷ ds) ++ words.Close ∷ r)
dimensions_rest x d ds r = ap (λ (ws : List Word90). words.Head x ∷ ws) (append_assoc (separated90 written_dimension (d ∷ ds)) (words.Close ∷ []) r)

pub record SameEntity (x y : List ℕ) (ds es : List Dimension) (r s : List Word90) : Type 0 where
  pub name : x ≡ y
  pub dimensions : ds ≡ es
  pub rest : r ≡ s

dimensions_once : (f : Bool) (x y : List ℕ) (ds es : List Dimension) (r s : List Word90) → AllByRecursion (SuitsAllocatable f) ds
    → AllByRecursion (SuitsAllocatable f) es → written_dimensions x ds ++ r ≡ written_dimensions y es ++ s → SameEntity x y ds es r s
dimensions_once f x y [] [] r s h k e = record { name = cc; dimensions = refl; rest = cc }
dimensions_once f x y [] (d ∷ ds) r s h k e = absurd (cc)
dimensions_once f x y (d ∷ ds) [] r s h k e = absurd (cc)
dimensions_once f x y (c ∷ cs) (d ∷ ds) r s h k e =
    let w : words.Head x ∷ (separated90 written_dimension (c ∷ cs) ++ words.Close ∷ r) ≡ words.Head y ∷ (separated90 written_dimension (d ∷ ds) ++ words.Close ∷ s)
    = sym (dimensions_rest x c cs r) ∙ (e ∙ dimensions_rest y d ds s) in
    let v : separated90 written_dimension (c ∷ cs) ++ words.Close ∷ r ≡ separated90 written_dimension (d ∷ ds) ++ words.Close ∷ s = cc w in
    let t = list_once written_dimension (SuitsAllocatable f) (c ∷ cs) (d ∷ ds) (words.Close ∷ r) (words.Close ∷ s)
    (λ a g b p q m i j z. dimension_once f a b p q g m i j z) h k tt tt (λ b p m i z. cc) (λ b p m i z. cc) v in
    record { name = cc w; dimensions = t.0; rest = cc t.1 }

abbrev entity_of : List ℕ → List Dimension → EntityForm90
entity_of x ds = record { name = x; dimensions = ds }

entity_once : (f : Bool) (c d : EntityForm90) (r s : List Word90) → IsEntity90 f c → IsEntity90 f d → written_entity90 c ++ r ≡ written_entity90 d ++ s → (c ≡ d) × (r ≡ s)
entity_once f c d r s h k e =
    let t = dimensions_once f c.name d.name c.dimensions d.dimensions r s (all_suit f c.dimensions h) (all_suit f d.dimensions k) e in
    (ap₂ (λ (x : List ℕ) (ds : List Dimension). entity_of x ds) t.name t.dimensions, t.rest)

pub entities_once : (f : Bool) (cs ds : List EntityForm90) → IsList (IsEntity90 f) cs → IsList (IsEntity90 f) ds
    → separated90 written_entity90 cs ≡ separated90 written_entity90 ds → cs ≡ ds
entities_once f cs ds h k e =
    (list_once written_entity90 (IsEntity90 f) cs ds [] [] (λ c g d p q m i j z. entity_once f c d p q g m z) h k tt tt
    (λ d p m i z. cc) (λ d p m i z. cc) (ap (λ (ws : List Word90). ws ++ []) e)).0
