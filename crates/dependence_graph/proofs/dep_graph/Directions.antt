-- Vectors as lists, and in seven places.
use Rattle.std.proofs.Common.{◌≡◌, ◌⊎◌, ◌↔◌, inl, inr, ℕ, zero, suc, ◌+◌, ◌-◌, ◌<◌, ◌≤◌, refl, sym, ap, ap₂, ◌∙◌, subst, arith, List, [], ◌∷◌, ◌++◌, length, map, take, get_or, replicate}
use Rattle.std.specs.Prelude.{IsTrue}
use Rattle.std.specs.List.{AllZip}
use Rattle.std.proofs.lemmas.Bool.{cases_lt}
use Rattle.std.proofs.lemmas.List.{ext_get_or, get_or-take, get_or_past, length-append, length-replicate, length-take}
use Rattle.components.specs.Lists.{Each}
use Rattle.subscripts.specs.declared.affine.Dir.{Dir}
use Rattle.subscripts.specs.declared.affine.Dir.TheVariants.{Lt, Eq, Gt, Any}
use Rattle.subscripts.specs.declared.affine.Dirs.{Dirs}
use Rattle.direction_vectors.specs.vector_tests.Refs.{IsVectorOf}
use Rattle.direction_vectors.specs.declared.vector_tests.refs.RefPair.{RefPair}
use Rattle.direction_vectors.specs.Candidates as old
use Rattle.direction_vectors.specs.Candidates.{IsEqualAlone, IsLedAt, dir_at}
use Rattle.dependence_graph.specs.nest_graph.Arcs.{in_places}
use Rattle.dependence_graph.specs.nest_graph.Vectors.{Allows, HoldsOnce, IsPlain, MayComeFirst, StandsFor}

-- ---- lists

pub each_from : {A : Type 0} (P : A → Type 0) (d : A) (xs : List A) → ((k : ℕ) → k < length xs → P (get_or xs k d)) → Each P xs
each_from P d [] h = tt
each_from P d (x ∷ xs) h = (h zero (omega arith), each_from P d xs (λ k l. h (suc k) (omega arith)))

pub each_at : {A : Type 0} (P : A → Type 0) (d : A) (xs : List A) (k : ℕ) → Each P xs → k < length xs → P (get_or xs k d)
each_at P d [] k h l = absurd (omega arith)
each_at P d (x ∷ xs) zero h l = h.0
each_at P d (x ∷ xs) (suc k) h l = each_at P d xs k h.1 (omega arith)

pub zip_from : {A B : Type 0} (R : A → B → Type 0) (d : A) (e : B) (xs : List A) (ys : List B) → length xs ≡ length ys
    → ((k : ℕ) → k < length ys → R (get_or xs k d) (get_or ys k e)) → AllZip R xs ys
zip_from R d e [] [] n h = tt
zip_from R d e [] (y ∷ ys) n h = absurd (omega arith)
zip_from R d e (x ∷ xs) [] n h = absurd (omega arith)
zip_from R d e (x ∷ xs) (y ∷ ys) n h = (h zero (omega arith), zip_from R d e xs ys (omega arith) (λ k l. h (suc k) (omega arith)))

pub zip_at : {A B : Type 0} (R : A → B → Type 0) (d : A) (e : B) (xs : List A) (ys : List B) (k : ℕ) → AllZip R xs ys → k < length ys
    → R (get_or xs k d) (get_or ys k e)
zip_at R d e [] [] k h l = absurd (omega arith)
zip_at R d e [] (y ∷ ys) k h l = absurd h
zip_at R d e (x ∷ xs) [] k h l = absurd h
zip_at R d e (x ∷ xs) (y ∷ ys) zero h l = h.0
zip_at R d e (x ∷ xs) (y ∷ ys) (suc k) h l = zip_at R d e xs ys k h.1 (omega arith)

pub zip_length : {A B : Type 0} (R : A → B → Type 0) (xs : List A) (ys : List B) → AllZip R xs ys → length xs ≡ length ys
zip_length R [] [] h = refl
zip_length R [] (y ∷ ys) h = absurd h
zip_length R (x ∷ xs) [] h = absurd h
zip_length R (x ∷ xs) (y ∷ ys) h = ap suc (zip_length R xs ys h.1)

-- ---- in seven places

anys : (m k : ℕ) → get_or (replicate m Any) k Any ≡ Any
anys zero k = refl
anys (suc m) zero = refl
anys (suc m) (suc k) = anys m k

pub with_anys : (v : List Dir) (m k : ℕ) → get_or (v ++ replicate m Any) k Any ≡ get_or v k Any
with_anys [] m k = anys m k
with_anys (d ∷ v) m zero = refl
with_anys (d ∷ v) m (suc k) = with_anys v m k

pub at_place_is : (v : List Dir) (k : ℕ) → dir_at (in_places v) k ≡ get_or v k Any
at_place_is v k = with_anys v (7 - length v) k

pub places_length : (v : List Dir) → length v ≤ 7 → length (in_places v).at ≡ 7
places_length v h =
    length-append v (replicate (7 - length v) Any) ∙ ap (λ (m : ℕ). length v + m) (length-replicate (7 - length v) Any) ∙ omega arith

-- the list in them
abbrev pub listed : Dirs → List Dir
listed d = take d.len d.at

take_front : (xs ys : List Dir) → take (length xs) (xs ++ ys) ≡ xs
take_front [] ys = refl
take_front (x ∷ xs) ys = ap (λ (zs : List Dir). x ∷ zs) (take_front xs ys)

pub listed_places : (v : List Dir) → listed (in_places v) ≡ v
listed_places v = take_front v (replicate (7 - length v) Any)

module _ (r : RefPair) (few : r.common ≤ 7) where
  pub is_vector : (v : List Dir) → length v ≡ r.common → IsVectorOf r (in_places v)
  is_vector v h = record {
    places = places_length v (omega arith);
    len = h;
    past_len = λ k l. at_place_is v k ∙ get_or_past v k Any (omega arith);
  }

  pub listed_length : (d : Dirs) → IsVectorOf r d → length (listed d) ≡ r.common
  listed_length d h = let p = h.places in let l = h.len in omega (arith, length-take d.len d.at)

  pub listed_at : (d : Dirs) (k : ℕ) → IsVectorOf r d → get_or (listed d) k Any ≡ dir_at d k
  listed_at d k h =
      let l = h.len in
      elim (cases_lt k d.len) [
        | inl x ↦ get_or-take d.len d.at k Any x
        | inr x ↦ get_or_past (listed d) k Any (omega (arith, length-take d.len d.at)) ∙ sym (h.past_len k (omega arith))
      ]

  pub places_are : (d : Dirs) → IsVectorOf r d → d ≡ in_places (listed d)
  places_are d h =
      let n = listed_length d h in
      let long = places_length (listed d) (omega arith) in
      let same : d.at ≡ (in_places (listed d)).at =
      ext_get_or Any d.at (in_places (listed d)).at (h.places ∙ sym long) (λ k l. sym (at_place_is (listed d) k ∙ listed_at d k h)) in
      ap₂ (λ (ds : List Dir) (m : ℕ). record { at = ds; len = m }) same (h.len ∙ sym n)

  -- ---- which vectors a vector stands for

  pub covered_of : (d : Dirs) (v : List Dir) → IsVectorOf r d → StandsFor (listed d) v → old.IsCovered r d (in_places v)
  covered_of d v h s =
      let n : length v ≡ r.common = sym (zip_length Allows (listed d) v s.allowed) ∙ listed_length d h in
      record {
        vector = is_vector v n;
        plain = λ m l e. each_at (λ (x : Dir). x ≡ Any → ⊥) Any v m s.plain (omega arith) (sym (at_place_is v m) ∙ e);
        covers = record {
          vector = h;
          at = λ m l.
              subst (λ (x : Dir). Allows x (dir_at (in_places v) m)) (listed_at d m h)
              (subst (λ (x : Dir). Allows (get_or (listed d) m Any) x) (sym (at_place_is v m))
              (zip_at Allows Any Any (listed d) v m s.allowed (omega arith)));
        };
      }

  pub stands_of : (d v : Dirs) → IsVectorOf r d → old.IsCovered r d v → StandsFor (listed d) (listed v)
  stands_of d v h c =
      let m = listed_length d h in let n = listed_length v c.vector in
      record {
        plain = each_from (λ (x : Dir). x ≡ Any → ⊥) Any (listed v) (λ k l e. c.plain k (omega arith) (sym (listed_at v k c.vector) ∙ e));
        allowed = zip_from Allows Any Any (listed d) (listed v) (omega arith) (λ k l.
            subst (λ (x : Dir). Allows x (get_or (listed v) k Any)) (sym (listed_at d k h))
            (subst (λ (x : Dir). Allows (dir_at d k) x) (sym (listed_at v k c.vector)) (c.covers.at k (omega arith))));
      }

-- ---- candidates

-- the first direction other than `=` is `<`, in this place
record IsLed (v : List Dir) (k : ℕ) : Type 0 where
  within : k < length v
  before : (m : ℕ) → m < k → get_or v m Any ≡ Eq
  less : get_or v k Any ≡ Lt

abbrev AreEqual : List Dir → Type 0
AreEqual v = (m : ℕ) → m < length v → get_or v m Any ≡ Eq

equal_too : (v : List Dir) (k : ℕ) → ((m : ℕ) → m < k → get_or v m Any ≡ Eq) → (m : ℕ) → m < suc k → get_or (Eq ∷ v) m Any ≡ Eq
equal_too v k h zero l = refl
equal_too v k h (suc m) l = h m (omega arith)

led_or_equal : (s t : ℕ) (v : List Dir) → MayComeFirst s t v → ((k : ℕ) × IsLed v k) ⊎ ((s < t) × AreEqual v)
led_or_equal s t [] h = inr (h, λ m l. absurd (omega arith))
led_or_equal s t (Lt ∷ v) h = inl (0, record { within = omega arith; before = λ m l. absurd (omega arith); less = refl })
led_or_equal s t (Eq ∷ v) h = further (led_or_equal s t v h)
  where
    further : ((k : ℕ) × IsLed v k) ⊎ ((s < t) × AreEqual v) → ((k : ℕ) × IsLed (Eq ∷ v) k) ⊎ ((s < t) × AreEqual (Eq ∷ v))
    further (inl l) =
        let w = l.1.within in
        inl (suc l.0, record { within = omega arith; before = equal_too v l.0 l.1.before; less = l.1.less })
    further (inr e) = inr (e.0, equal_too v (length v) e.1)
led_or_equal s t (Gt ∷ v) h = absurd h
led_or_equal s t (Any ∷ v) h = absurd h

led_first : (s t : ℕ) (v : List Dir) (k : ℕ) → IsLed v k → MayComeFirst s t v
led_first s t [] k h = let w = h.within in absurd (omega arith)
led_first s t (d ∷ v) zero h = subst (λ (x : Dir). MayComeFirst s t (x ∷ v)) (sym h.less) tt
led_first s t (d ∷ v) (suc k) h =
    let w = h.within in
    subst (λ (x : Dir). MayComeFirst s t (x ∷ v)) (sym (h.before 0 (omega arith)))
    (led_first s t v k (record { within = omega arith; before = λ m l. h.before (suc m) (omega arith); less = h.less }))

equal_first : (s t : ℕ) (v : List Dir) → s < t → AreEqual v → MayComeFirst s t v
equal_first s t [] l h = l
equal_first s t (d ∷ v) l h =
    subst (λ (x : Dir). MayComeFirst s t (x ∷ v)) (sym (h 0 (omega arith))) (equal_first s t v l (λ m n. h (suc m) (omega arith)))

-- what a candidate vector is
pub record IsForward (s t common : ℕ) (v : List Dir) : Type 0 where
  pub loops : length v ≡ common
  pub plain : IsPlain v
  pub forward : MayComeFirst s t v

module _ (r : RefPair) (few : r.common ≤ 7) (s t : ℕ) (turn : IsTrue r.same_turn ↔ (s < t)) where
  pub old_candidate : (v : List Dir) → IsForward s t r.common v → old.IsCandidate r (in_places v)
  old_candidate v h =
      let n = h.loops in
      record {
        vector = is_vector r few v n;
        plain = λ m l e. each_at (λ (x : Dir). x ≡ Any → ⊥) Any v m h.plain (omega arith) (sym (at_place_is v m) ∙ e);
        led = by (led_or_equal s t v h.forward);
      }
    where
      by : ((k : ℕ) × IsLed v k) ⊎ ((s < t) × AreEqual v) → ((k : ℕ) × IsLedAt r (in_places v) k) ⊎ (IsTrue r.same_turn × IsEqualAlone r (in_places v))
      by (inl l) =
          let n = h.loops in let w = l.1.within in
          inl (l.0, record { common = omega arith; before = λ m g. at_place_is v m ∙ l.1.before m g; less = at_place_is v l.0 ∙ l.1.less })
      by (inr e) = inr (turn.1 e.0, λ m l. let n = h.loops in at_place_is v m ∙ e.1 m (omega arith))

  pub new_candidate : (d : Dirs) → old.IsCandidate r d → IsForward s t r.common (listed d)
  new_candidate d h = record {
    loops = listed_length r few d h.vector;
    plain = each_from (λ (x : Dir). x ≡ Any → ⊥) Any (listed d)
        (λ k l e. h.plain k (let n = listed_length r few d h.vector in omega arith) (sym (listed_at r few d k h.vector) ∙ e));
    forward = by h.led;
  }
    where
      by : ((k : ℕ) × IsLedAt r d k) ⊎ (IsTrue r.same_turn × IsEqualAlone r d) → MayComeFirst s t (listed d)
      by (inl l) =
          let c = l.1.common in let n = listed_length r few d h.vector in
          led_first s t (listed d) l.0 (record {
            within = omega arith;
            before = λ m g. listed_at r few d m h.vector ∙ l.1.before m g;
            less = listed_at r few d l.0 h.vector ∙ l.1.less;
          })
      by (inr e) =
          equal_first s t (listed d) (turn.0 e.0)
          (λ m l. let n = listed_length r few d h.vector in listed_at r few d m h.vector ∙ e.1 m (omega arith))

-- ---- exactly one

module _ {B : Type 0} (f : old.Answer → B) (P : old.Answer → Type 0) (Q : B → Type 0) where
  abbrev AreAlike : old.Answer → Type 0
  AreAlike x = (P x → Q (f x)) × (Q (f x) → P x)

  never_of : (xs : List old.Answer) → Each AreAlike xs → old.HoldsNever P xs → Each (λ y. Q y → ⊥) (map f xs)
  never_of [] e h = tt
  never_of (x ∷ xs) e h = ((λ q. h.0 (e.0.1 q)), never_of xs e.1 h.1)

  pub once_of : (xs : List old.Answer) → Each AreAlike xs → old.HoldsOnce P xs → HoldsOnce Q (map f xs)
  once_of [] e h = absurd h
  once_of (x ∷ xs) e h =
      elim h [
        | inl a ↦ inl (e.0.0 a.0, never_of xs e.1 a.1)
        | inr a ↦ inr ((λ q. a.0 (e.0.1 q)), once_of xs e.1 a.1)
      ]
