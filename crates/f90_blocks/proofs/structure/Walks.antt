-- Walks through the statements of a text, to the first place at which something holds.
use Rattle.std.proofs.Common.{◌≡◌, ⊎_elim, ℕ, zero, suc, ◌+◌, ◌<◌, ◌≤◌, ◌==◌, Bool, true, false, cond, IsTrue, Option}
use Rattle.std.proofs.Common.{Some, None, List, [], ◌∷◌, ◌++◌, take, drop, length, get_or, refl, sym, ap, subst, ◌∙◌}
use Rattle.std.proofs.Common.{add-one, arith}
use Rattle.std.proofs.lemmas.Bool.{cases_lt}
use Rattle.std.proofs.lemmas.Bool.Decides.{nat_tests}
use Rattle.std.proofs.lemmas.List.{drop_all, length-append}
use Rattle.f90_grammar.specs.Blocks.{Placed}
use Rattle.f90_grammar.specs.Order.{Place90, IsPlaceIn, is_nothing90}
use Rattle.f90_blocks.specs.places.forms.Places.{IsPlacedOf}
use Rattle.f90_blocks.specs.declared.places.forms.placing.Placed.{Placed as Made}
use Rattle.f90_blocks.specs.places.First.{FindsFirst}
use Rattle.f90_statement.specs.Views.{AreOf}

-- ---- the place of the i-th statement

same_length : (xs : List Made) (ps : List Placed) → AreOf IsPlacedOf xs ps → length xs ≡ length ps
same_length [] [] h = refl
same_length [] (p ∷ ps) h = absurd h
same_length (x ∷ xs) [] h = absurd h
same_length (x ∷ xs) (p ∷ ps) h = ap suc (same_length xs ps h.1)

record StandsAt (ps : List Placed) (i : ℕ) (x : Made) : Type 0 where
  here : Placed
  is : IsPlacedOf x here
  split : ps ≡ take i ps ++ here ∷ drop (suc i) ps
  number : length (take i ps) ≡ i
  taken : take (suc i) ps ≡ take i ps ++ here ∷ []
  left : drop i ps ≡ here ∷ drop (suc i) ps

stands_at : (xs : List Made) (ps : List Placed) (i : ℕ) (x : Made) → AreOf IsPlacedOf xs ps → i < length xs
    → get_or xs i x ≡ x → StandsAt ps i x
stands_at [] ps i x a l g = absurd (omega arith)
stands_at (y ∷ xs) [] i x a l g = absurd a
stands_at (y ∷ xs) (p ∷ ps) zero x a l g = record {
  here = p;
  is = subst (λ (z : Made). IsPlacedOf z p) g a.0;
  split = refl;
  number = refl;
  taken = refl;
  left = refl;
}
stands_at (y ∷ xs) (p ∷ ps) (suc i) x a l g =
    let s = stands_at xs ps i x a.1 (omega arith) g in
    record {
      here = s.here;
      is = s.is;
      split = ap (λ (qs : List Placed). p ∷ qs) s.split;
      number = ap suc s.number;
      taken = ap (λ (qs : List Placed). p ∷ qs) s.taken;
      left = s.left;
    }

abbrev placed_at : List Placed → Placed → List Placed → Place90
placed_at before here after = record { before = before; here = here; after = after }

abbrev at : (ps : List Placed) (i : ℕ) (x : Made) → StandsAt ps i x → Place90
at ps i x s = placed_at (take i ps) s.here (drop (suc i) ps)

-- two places with as many statements before them are one
same_split : (xs ys : List Placed) (p q : Placed) (us vs : List Placed) → length xs ≡ length ys
    → xs ++ p ∷ us ≡ ys ++ q ∷ vs
    → (xs ≡ ys) × (p ≡ q) × (us ≡ vs)
same_split [] [] p q us vs l e = let h : p ≡ q = cc in let t : us ≡ vs = cc in (refl, h, t)
same_split [] (y ∷ ys) p q us vs l e = absurd (omega arith)
same_split (x ∷ xs) [] p q us vs l e = absurd (omega arith)
same_split (x ∷ xs) (y ∷ ys) p q us vs l e =
    let t : xs ++ p ∷ us ≡ ys ++ q ∷ vs = cc in
    let h : x ≡ y = cc in
    let r = same_split xs ys p q us vs (omega arith) t in
    let s : xs ≡ ys = r.0 in
    let u : x ∷ xs ≡ y ∷ ys = cc in
    (u, r.1, r.2)

same_place : (ps : List Placed) (p q : Place90) → IsPlaceIn ps p → IsPlaceIn ps q → length p.before ≡ length q.before
    → p ≡ q
same_place ps p q a b l =
    let r = same_split p.before q.before p.here q.here p.after q.after l (sym a ∙ b) in
    let s : p.before ≡ q.before = r.0 in
    let t : p.here ≡ q.here = r.1 in
    let u : p.after ≡ q.after = r.2 in
    all_same p.before q.before p.here q.here p.after q.after s t u
  where
    all_same : (xs ys : List Placed) (x y : Placed) (us vs : List Placed) → xs ≡ ys → x ≡ y → us ≡ vs
        → placed_at xs x us ≡ placed_at ys y vs
    all_same xs ys x y us vs e f g =
        ap (λ (zs : List Placed). placed_at zs x us) e ∙
        (ap (λ (z : Placed). placed_at ys z us) f ∙ ap (λ (zs : List Placed). placed_at ys y zs) g)

-- where it doesn't hold at the i-th place, it holds further on or not at all
further : (test : Place90 → Bool) (ps : List Placed) (i : ℕ) (x : Made) (s : StandsAt ps i x) → test (at ps i x s) ≡ false
    → (q : Place90) → IsPlaceIn ps q → IsTrue (test q) → i ≤ length q.before → i + 1 ≤ length q.before
further test ps i x s wrong q here t l =
    ⊎_elim (λ (h : i < length q.before). omega arith) (λ (h : length q.before ≤ i). absurd (both (omega arith)))
    (cases_lt i (length q.before))
  where
    both : length q.before ≡ i → ⊥
    both e =
        let same : q ≡ at ps i x s = same_place ps q (at ps i x s) here s.split (e ∙ sym s.number) in
        let u : test q ≡ test (at ps i x s) = ap test same in
        cc

-- how many statements there are
counted : (xs : List Made) (ps : List Placed) (p : Place90) → AreOf IsPlacedOf xs ps → IsPlaceIn ps p
    → length xs ≡ length p.before + 1 + length p.after
counted xs ps p a h =
    let l : length xs ≡ length ps = same_length xs ps a in
    let e : length ps ≡ length (p.before ++ p.here ∷ p.after) = ap length h in
    let m : length (p.before ++ p.here ∷ p.after) ≡ length p.before + suc (length p.after) =
    length-append p.before (p.here ∷ p.after) in
    omega arith

-- the last statement is the one that has nothing behind it
nothing_is : (ps : List Placed) → is_nothing90 ps ≡ (length ps == 0)
nothing_is [] = refl
nothing_is (p ∷ ps) = grind (arith, nat_tests)

pub last_is : (xs : List Made) (ps : List Placed) (p : Place90) (i : ℕ) → AreOf IsPlacedOf xs ps → IsPlaceIn ps p
    → length p.before ≡ i → (i + 1 == length xs) ≡ is_nothing90 p.after
last_is xs ps p i a h n =
    let l : length xs ≡ length p.before + 1 + length p.after = counted xs ps p a h in
    let s : length xs ≡ i + 1 + length p.after = omega arith in
    ap (λ k. i + 1 == k) s ∙ (same i (length p.after) ∙ sym (nothing_is p.after))
  where
    same : (i k : ℕ) → (i + 1 == i + 1 + k) ≡ (k == 0)
    same i k = grind (arith, nat_tests)

-- ---- forwards

-- it holds at none of the first i places, and this of the statements there
pub record IsWalked (test : Place90 → Bool) (Behind : List Placed → Type 0) (ps : List Placed) (i : ℕ) : Type 0 where
  pub searched : (p : Place90) → IsPlaceIn ps p → IsTrue (test p) → i ≤ length p.before
  pub behind : Behind (take i ps)

-- where nothing has to be known of them
abbrev pub Anything : List Placed → Type 0
Anything before = Unit {0}

-- what is known of the i-th statement decides the test
abbrev pub Decides : (Place90 → Bool) → (List Placed → Type 0) → List Placed → ℕ → Made → Bool → Type 0
Decides test Behind ps i x b =
    (p : Place90) → IsPlaceIn ps p → length p.before ≡ i → IsPlacedOf x p.here → Behind p.before → b ≡ test p

module _ (test : Place90 → Bool) (Behind : List Placed → Type 0) (xs : List Made) (ps : List Placed) where
  pub begun : Behind [] → IsWalked test Behind ps 0
  begun h = record { searched = λ p here t. omega arith; behind = h }

  pub passed : (Then : List Placed → Type 0) (i : ℕ) (x : Made) → i < length xs → get_or xs i x ≡ x
      → AreOf IsPlacedOf xs ps → Decides test Behind ps i x false
      → ((before : List Placed) (p : Placed) → IsPlacedOf x p → Behind before → Then (before ++ p ∷ []))
      → IsWalked test Behind ps i → IsWalked test Then ps (i + 1)
  passed Then i x l g a d more w =
      let s = stands_at xs ps i x a l g in
      let wrong : test (at ps i x s) ≡ false = sym (d (at ps i x s) s.split s.number s.is w.behind) in
      record {
        searched = λ q here t. further test ps i x s wrong q here t (w.searched q here t);
        behind = rw add-one (subst Then (sym s.taken) (more (take i ps) s.here s.is w.behind));
      }

  pub stopped : (i : ℕ) (x : Made) → i < length xs → get_or xs i x ≡ x → AreOf IsPlacedOf xs ps
      → Decides test Behind ps i x true → IsWalked test Behind ps i
      → FindsFirst ps (λ p. IsTrue (test p)) (Some i)
  stopped i x l g a d w =
      let s = stands_at xs ps i x a l g in
      record {
        place = at ps i x s;
        in_text = s.split;
        holds = sym (d (at ps i x s) s.split s.number s.is w.behind);
        number = sym s.number;
        first = w.searched;
      }

  pub ended : (i : ℕ) → length xs ≤ i → AreOf IsPlacedOf xs ps → IsWalked test Behind ps i
      → FindsFirst ps (λ p. IsTrue (test p)) None
  ended i l a w p here t =
      let n : length xs ≡ length p.before + 1 + length p.after = counted xs ps p a here in
      let k : i ≤ length p.before = w.searched p here t in
      absurd (omega arith)

-- ---- backwards

-- the first of the places from the i-th on
pub record IsFirstFrom (test : Place90 → Bool) (ps : List Placed) (i n : ℕ) : Type 0 where
  pub place : Place90
  pub in_text : IsPlaceIn ps place
  pub holds : IsTrue (test place)
  pub number : n ≡ length place.before
  pub first : (other : Place90) → IsPlaceIn ps other → IsTrue (test other) → i ≤ length other.before
      → n ≤ length other.before

abbrev pub FindsFrom : (Place90 → Bool) → List Placed → ℕ → Option ℕ → Type 0
FindsFrom test ps i (Some n) = IsFirstFrom test ps i n
FindsFrom test ps i None = (p : Place90) → IsPlaceIn ps p → IsTrue (test p) → i ≤ length p.before → ⊥

pub record IsWalkedBack (test : Place90 → Bool) (Ahead : List Placed
    → Type 0) (ps : List Placed) (i : ℕ) (found : Option ℕ) : Type 0 where
  pub from : FindsFrom test ps i found
  pub ahead : Ahead (drop i ps)

module _ (test : Place90 → Bool) (Ahead : List Placed → Type 0) (xs : List Made) (ps : List Placed) where
  pub begun_back : (i : ℕ) → length xs ≤ i → AreOf IsPlacedOf xs ps → Ahead [] → IsWalkedBack test Ahead ps i None
  begun_back i l a h = record {
    from = λ p here t k.
        let n : length xs ≡ length p.before + 1 + length p.after = counted xs ps p a here in
        absurd (omega arith);
    ahead = let n : length xs ≡ length ps = same_length xs ps a in subst Ahead (sym (drop_all i ps (omega arith))) h;
  }

  -- what is known of the i-th statement, and behind it, decides the test
  abbrev pub DecidesBack : ℕ → Made → Bool → Type 0
  DecidesBack i x b =
      (p : Place90) → IsPlaceIn ps p → length p.before ≡ i → IsPlacedOf x p.here → Ahead p.after → b ≡ test p

  from_here : (i : ℕ) (x : Made) (b : Bool) (found : Option ℕ) (s : StandsAt ps i x) → b ≡ test (at ps i x s)
      → FindsFrom test ps (i + 1) found
      → FindsFrom test ps i (cond b (Some i) found)
  from_here i x true found s d f = record {
    place = at ps i x s;
    in_text = s.split;
    holds = sym d;
    number = sym s.number;
    first = λ q here t k. k;
  }
  from_here i x false None s d f = λ q here t k. f q here t (further test ps i x s (sym d) q here t k)
  from_here i x false (Some n) s d f = record {
    place = f.place;
    in_text = f.in_text;
    holds = f.holds;
    number = f.number;
    first = λ q here t k. f.first q here t (further test ps i x s (sym d) q here t k);
  }

  -- one statement further back
  pub stepped_back : (Then : List Placed → Type 0) (i j : ℕ) (x : Made) (b : Bool) (found now : Option ℕ)
      → i < length xs → get_or xs i x ≡ x → AreOf IsPlacedOf xs ps
      → j ≡ i + 1 → now ≡ cond b (Some i) found → DecidesBack i x b
      → ((after : List Placed) (p : Placed) → IsPlacedOf x p → Ahead after → Then (p ∷ after))
      → IsWalkedBack test Ahead ps j found → IsWalkedBack test Then ps i now
  stepped_back Then i j x b found now l g a e n d more w =
      let s = stands_at xs ps i x a l g in
      let h : Ahead (drop (suc i) ps) = subst (λ (k : ℕ). Ahead (drop k ps)) (e ∙ add-one i) w.ahead in
      let f : FindsFrom test ps (i + 1) found = subst (λ (k : ℕ). FindsFrom test ps k found) e w.from in
      record {
        from = subst (FindsFrom test ps i) (sym n)
            (from_here i x b found s (d (at ps i x s) s.split s.number s.is h) f);
        ahead = subst Then (sym s.left) (more (drop (suc i) ps) s.here s.is h);
      }

  pub ended_back : (i : ℕ) (found : Option ℕ) → i ≤ 0 → IsWalkedBack test Ahead ps i found
      → FindsFirst ps (λ p. IsTrue (test p)) found
  ended_back i None l w = λ p here t. w.from p here t (omega arith)
  ended_back i (Some n) l w = record {
    place = w.from.place;
    in_text = w.from.in_text;
    holds = w.from.holds;
    number = w.from.number;
    first = λ q here t. w.from.first q here t (omega arith);
  }
