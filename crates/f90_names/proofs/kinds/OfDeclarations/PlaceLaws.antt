-- Elements at their places, and the first place at which something holds.
use Rattle.std.proofs.Common.{arith, ◌≡◌, ◌+◌, ◌<◌, ◌≤◌, ◌⊎◌, ⊎_elim, ℕ, zero, suc, None, List, [], ◌∷◌, ◌++◌}
use Rattle.std.proofs.Common.{length, get_or, take, refl, ap, sym, subst, ◌∙◌}
use Rattle.std.proofs.lemmas.Bool.{cases_eq}
use Rattle.std.proofs.lemmas.List.{take_more, take_all, length-append}
use Rattle.f90_grammar.specs.Blocks as grammar
use Rattle.f90_grammar.specs.Order.{Place90, IsPlaceIn}
use Rattle.f90_blocks.specs.declared.places.forms.placing.Placed.{Placed}
use Rattle.f90_blocks.specs.places.forms.Places.{IsPlacedOf}
use Rattle.f90_blocks.specs.places.First.{IsFirstPlace, FindsFirst}
use Rattle.f90_statement.specs.Views.{AreOf}

-- ---- lists whose elements belong to each other

module _ {A B : Type 0} (is : A → B → Type 0) where
  -- what belongs to the element x at place i
  pub record IsAt (xs : List A) (ys : List B) (i : ℕ) (x : A) : Type 0 where
    pub before : List B
    pub here : B
    pub after : List B
    pub same : ys ≡ before ++ here ∷ after
    pub number : length before ≡ i
    pub of_before : AreOf is (take i xs) before
    pub of_here : is x here

  pub at : (xs : List A) (ys : List B) (i : ℕ) (x : A) → i < length xs → x ≡ get_or xs i x → AreOf is xs ys
      → IsAt xs ys i x
  at [] ys i x l e h = absurd (omega arith)
  at (a ∷ xs) [] i x l e h = absurd h
  at (a ∷ xs) (b ∷ ys) zero x l e h = record {
    before = [];
    here = b;
    after = ys;
    same = refl;
    number = refl;
    of_before = tt;
    of_here = subst (λ (y : A). is y b) (sym e) h.0;
  }
  at (a ∷ xs) (b ∷ ys) (suc i) x l e h =
      let rest = at xs ys i x (omega arith) e h.1 in
      record {
        before = b ∷ rest.before;
        here = rest.here;
        after = rest.after;
        same = ap (λ (zs : List B). b ∷ zs) rest.same;
        number = ap suc rest.number;
        of_before = (h.0, rest.of_before);
        of_here = rest.of_here;
      }

  -- what belongs to the last element x, and to those before it
  pub record IsLast (xs : List A) (x : A) (ys : List B) : Type 0 where
    pub before : List B
    pub here : B
    pub same : ys ≡ before ++ here ∷ []
    pub of_before : AreOf is xs before
    pub of_here : is x here

  last : (xs : List A) (x : A) (ys : List B) → AreOf is (xs ++ x ∷ []) ys → IsLast xs x ys
  last [] x [] h = absurd h
  last [] x (y ∷ []) h = record { before = []; here = y; same = refl; of_before = tt; of_here = h.0 }
  last [] x (y ∷ z ∷ zs) h = absurd h.1
  last (a ∷ xs) x [] h = absurd h
  last (a ∷ xs) x (y ∷ ys) h =
      let rest = last xs x ys h.1 in
      record {
        before = y ∷ rest.before;
        here = rest.here;
        same = ap (λ (zs : List B). y ∷ zs) rest.same;
        of_before = (h.0, rest.of_before);
        of_here = rest.of_here;
      }

  pub more : (xs : List A) (i : ℕ) (x : A) (ys : List B) → i < length xs → x ≡ get_or xs i x
      → AreOf is (take (i + 1) xs) ys → IsLast (take i xs) x ys
  more xs i x ys l e h =
      last (take i xs) x ys
      (subst (λ (zs : List A). AreOf is zs ys) (take_more xs i x l ∙ ap (λ (y : A). take i xs ++ y ∷ []) (sym e)) h)

  -- what holds of all that belongs to the elements up to a place, with one more
  pub step : (P Q : List B → Type 0) (xs : List A) (i : ℕ) (x : A) → i < length xs → x ≡ get_or xs i x
      → ((ys : List B) (y : B) → P ys → is x y → Q (ys ++ y ∷ []))
      → ((ys : List B) → AreOf is (take i xs) ys → P ys) → (ys : List B) → AreOf is (take (i + 1) xs) ys → Q ys
  step P Q xs i x l e on h ys a =
      let m = more xs i x ys l e a in
      subst Q (sym m.same) (on m.before m.here (h m.before m.of_before) m.of_here)

  nothing : (ys : List B) → AreOf is [] ys → ys ≡ []
  nothing [] h = refl
  nothing (y ∷ ys) h = absurd h

  pub start : (P : List B → Type 0) (ys : List B) → P [] → AreOf is [] ys → P ys
  start P ys p h = subst P (sym (nothing ys h)) p

  pub end : (P : List B → Type 0) (xs : List A) (i : ℕ) → length xs ≤ i
      → ((ys : List B) → AreOf is (take i xs) ys → P ys) → (ys : List B) → AreOf is xs ys → P ys
  end P xs i l h ys a = h ys (subst (λ (zs : List A). AreOf is zs ys) (sym (take_all i xs l)) a)

  pub same_length : (xs : List A) (ys : List B) → AreOf is xs ys → length xs ≡ length ys
  same_length [] [] h = refl
  same_length [] (y ∷ ys) h = absurd h
  same_length (x ∷ xs) [] h = absurd h
  same_length (x ∷ xs) (y ∷ ys) h = ap suc (same_length xs ys h.1)

-- ---- places

-- it holds at none of the first n places
abbrev pub Unmet : List grammar.Placed → (Place90 → Type 0) → ℕ → Type 0
Unmet ps Holds n = (p : Place90) → IsPlaceIn ps p → Holds p → n ≤ length p.before

pub unmet : (ps : List grammar.Placed) (Holds : Place90 → Type 0) → Unmet ps Holds 0
unmet ps Holds p i h = omega arith

abbrev place : List grammar.Placed → grammar.Placed → List grammar.Placed → Place90
place before here after = record { before = before; here = here; after = after }

record AreSame {A : Type 0} (xs ys : List A) (x y : A) (zs ws : List A) : Type 0 where
  before : xs ≡ ys
  here : x ≡ y
  after : zs ≡ ws

parts : {A : Type 0} (xs ys : List A) (x y : A) (zs ws : List A) → xs ++ x ∷ zs ≡ ys ++ y ∷ ws → length xs ≡ length ys
    → AreSame xs ys x y zs ws
parts [] [] x y zs ws e l = record { before = refl; here = cc; after = cc }
parts [] (b ∷ ys) x y zs ws e l = absurd (omega arith)
parts (a ∷ xs) [] x y zs ws e l = absurd (omega arith)
parts (a ∷ xs) (b ∷ ys) x y zs ws e l =
    let rest = parts xs ys x y zs ws (cc) (omega arith) in
    let first : a ≡ b = cc in
    record { before = ap (λ q. q ∷ xs) first ∙ ap (λ qs. b ∷ qs) rest.before; here = rest.here; after = rest.after }

same_place : (ps : List grammar.Placed) (Holds : Place90 → Type 0) (p q : Place90) → IsPlaceIn ps p → IsPlaceIn ps q
    → length p.before ≡ length q.before → Holds p → Holds q
same_place ps Holds p q i j l h =
    let s = parts p.before q.before p.here q.here p.after q.after (sym i ∙ j) l in
    subst (λ (before : List grammar.Placed). Holds (place before q.here q.after)) s.before
    (subst (λ (here : grammar.Placed). Holds (place p.before here q.after)) s.here
    (subst (λ (after : List grammar.Placed). Holds (place p.before p.here after)) s.after h))

unmet_more : (ps : List grammar.Placed) (Holds : Place90 → Type 0) (n : ℕ) (q : Place90) → IsPlaceIn ps q
    → length q.before ≡ n → (Holds q → ⊥) → Unmet ps Holds n → Unmet ps Holds (n + 1)
unmet_more ps Holds n q i e unheld u p j h = cases (cases_eq n (length p.before))
  where
    cases : (n ≡ length p.before) ⊎ (n ≡ length p.before → ⊥) → n + 1 ≤ length p.before
    cases s = ⊎_elim (λ (f : n ≡ length p.before). absurd (unheld (same_place ps Holds p q j i (sym f ∙ sym e) h)))
        (λ (f : n ≡ length p.before → ⊥). let l : n ≤ length p.before = u p j h in omega arith) s

-- ---- the places of statements that the code holds

module _ (ks : List Placed) (ps : List grammar.Placed) (i : ℕ) (k : Placed) where
  -- a place with what the code holds there
  pub record IsThere (q : Place90) : Type 0 where
    pub in_text : IsPlaceIn ps q
    pub of_before : AreOf IsPlacedOf (take i ks) q.before
    pub of_here : IsPlacedOf k q.here

  pub go_on : (Holds : Place90 → Type 0) → i < length ks → k ≡ get_or ks i k → AreOf IsPlacedOf ks ps
      → ((q : Place90) → IsThere q → Holds q → ⊥) → Unmet ps Holds i → Unmet ps Holds (i + 1)
  go_on Holds l e a unheld u =
      let f = at IsPlacedOf ks ps i k l e a in
      let q : Place90 = place f.before f.here f.after in
      unmet_more ps Holds i q f.same f.number
      (unheld q (record { in_text = f.same; of_before = f.of_before; of_here = f.of_here })) u

  pub stop_at : (Holds : Place90 → Type 0) → i < length ks → k ≡ get_or ks i k → AreOf IsPlacedOf ks ps
      → ((q : Place90) → IsThere q → Holds q) → Unmet ps Holds i → IsFirstPlace ps Holds i
  stop_at Holds l e a held u =
      let f = at IsPlacedOf ks ps i k l e a in
      let q : Place90 = place f.before f.here f.after in
      record {
        place = q;
        in_text = f.same;
        holds = held q (record { in_text = f.same; of_before = f.of_before; of_here = f.of_here });
        number = sym f.number;
        first = u;
      }

pub never : (ks : List Placed) (ps : List grammar.Placed) (Holds : Place90 → Type 0) (n : ℕ) → length ks ≤ n
    → AreOf IsPlacedOf ks ps → Unmet ps Holds n → FindsFirst ps Holds None
never ks ps Holds n l a u p i h =
    let m = same_length IsPlacedOf ks ps a in
    let k : n ≤ length p.before = u p i h in
    let t : length ps ≡ length p.before + suc (length p.after) =
    ap length i ∙ length-append p.before (p.here ∷ p.after) in
    absurd (omega arith)
