-- The places of a text by their numbers, and the first at which something holds.
use Rattle.std.proofs.Common.{arith, zero, suc, ◌≡◌, ◌+◌, ◌<◌, ◌≤◌, ℕ, Option, Some, None, List, [], ◌∷◌, ◌++◌, take, drop, length, get_or, ap, refl, sym, subst, ◌∙◌, ◌⊎◌, inl, inr}
use Rattle.std.proofs.Math.Seq.{drop-append_seam, take-append_seam}
use Rattle.std.proofs.lemmas.Bool.{cases_lt, cases_eq}
use Rattle.std.proofs.lemmas.List.{take-append-drop, length-append, drop_all}
use Rattle.f90_grammar.specs.Blocks.{Placed}
use Rattle.f90_grammar.specs.Order.{Place90, IsPlaceIn}
use Rattle.f90_blocks.specs.places.First.{IsFirstPlace, FindsFirst}
use Rattle.f90_statement.specs.Views.{AreOf}

-- ---- one list of the other, by numbers

module _ {A B : Type 0} (is : A → B → Type 0) where
  pub of_drop : (xs : List A) (ys : List B) (i : ℕ) → AreOf is xs ys → AreOf is (drop i xs) (drop i ys)
  of_drop xs ys zero h = h
  of_drop [] [] (suc i) h = tt
  of_drop [] (y ∷ ys) (suc i) h = absurd h
  of_drop (x ∷ xs) [] (suc i) h = absurd h
  of_drop (x ∷ xs) (y ∷ ys) (suc i) h = of_drop xs ys i h.1

  pub of_length : (xs : List A) (ys : List B) → AreOf is xs ys → length xs ≡ length ys
  of_length [] [] h = refl
  of_length [] (y ∷ ys) h = absurd h
  of_length (x ∷ xs) [] h = absurd h
  of_length (x ∷ xs) (y ∷ ys) h = ap suc (of_length xs ys h.1)

  -- the one of number i
  abbrev pub Meets : A → List B → ℕ → Type 0
  Meets x ys i = (y : B) × (rest : List B) × (drop i ys ≡ y ∷ rest) × is x y

  pub meets : (xs : List A) (ys : List B) (i : ℕ) (x : A) → AreOf is xs ys → i < length xs → get_or xs i x ≡ x → Meets x ys i
  meets [] ys i x h l g = absurd (omega arith)
  meets (a ∷ xs) [] i x h l g = absurd h
  meets (a ∷ xs) (y ∷ ys) zero x h l g = (y, ys, refl, subst (λ (b : A). is b y) g h.0)
  meets (a ∷ xs) (y ∷ ys) (suc i) x h l g = meets xs ys i x h.1 (omega arith) g

-- ---- places

pub drop_next : {A : Type 0} (xs : List A) (i : ℕ) (x : A) (rest : List A) → drop i xs ≡ x ∷ rest → drop (suc i) xs ≡ rest
drop_next [] zero x rest e = absurd (cc)
drop_next [] (suc i) x rest e = absurd (cc)
drop_next (a ∷ xs) zero x rest e = cc
drop_next (a ∷ xs) (suc i) x rest e = drop_next xs i x rest e

abbrev pub place_at : List Placed → ℕ → Placed → List Placed → Place90
place_at ps i p rest = record { before = take i ps; here = p; after = rest }

pub is_in_text : (ps : List Placed) (i : ℕ) (p : Placed) (rest : List Placed) → drop i ps ≡ p ∷ rest → IsPlaceIn ps (place_at ps i p rest)
is_in_text ps i p rest e = sym (take-append-drop i ps) ∙ ap (λ (r : List Placed). take i ps ++ r) e

pub numbered : (ps : List Placed) (i : ℕ) (p : Placed) (rest : List Placed) → drop i ps ≡ p ∷ rest → length (take i ps) ≡ i
numbered [] zero p rest e = refl
numbered [] (suc i) p rest e = absurd (cc)
numbered (q ∷ ps) zero p rest e = refl
numbered (q ∷ ps) (suc i) p rest e = ap suc (numbered ps i p rest e)

abbrev placed : List Placed → Placed → List Placed → Place90
placed b h a = record { before = b; here = h; after = a }

pub same_place : (ps : List Placed) (i : ℕ) (p : Placed) (rest : List Placed) (q : Place90) → drop i ps ≡ p ∷ rest → IsPlaceIn ps q → length q.before ≡ i
    → q ≡ place_at ps i p rest
same_place ps i p rest q e o n =
    let d : drop i ps ≡ q.here ∷ q.after
    = ap (λ (k : ℕ). drop k ps) (sym n) ∙ (ap (drop (length q.before)) o ∙ drop-append_seam q.before (q.here ∷ q.after)) in
    let t : take i ps ≡ q.before = ap (λ (k : ℕ). take k ps) (sym n) ∙ (ap (take (length q.before)) o ∙ take-append_seam q.before (q.here ∷ q.after)) in
    by q.before q.here q.after (sym t) (sym d ∙ e)
  where
    by : (b : List Placed) (h : Placed) (a : List Placed) → b ≡ take i ps → h ∷ a ≡ p ∷ rest → placed b h a ≡ placed (take i ps) p rest
    by b h a t d = cc

pub within : (ps : List Placed) (q : Place90) → IsPlaceIn ps q → length q.before < length ps
within ps q o = omega (arith, ap length o ∙ length-append q.before (q.here ∷ q.after))

module _ (ps : List Placed) (H : Place90 → Type 0) where
  -- ---- from the front

  abbrev pub NoneBefore : ℕ → Type 0
  NoneBefore i = (q : Place90) → IsPlaceIn ps q → length q.before < i → H q → ⊥

  pub none_yet : NoneBefore 0
  none_yet q o l h = absurd (omega arith)

  pub found_first : (i : ℕ) (p : Placed) (rest : List Placed) → NoneBefore i → drop i ps ≡ p ∷ rest → H (place_at ps i p rest) → IsFirstPlace ps H i
  found_first i p rest none e h = record {
    place = place_at ps i p rest;
    in_text = is_in_text ps i p rest e;
    holds = h;
    number = sym (numbered ps i p rest e);
    first = λ other o k. elim (cases_lt (length other.before) i) [ inl l ↦ absurd (none other o l k) | inr l ↦ l ];
  }

  pub none_here : (i : ℕ) (p : Placed) (rest : List Placed) → NoneBefore i → drop i ps ≡ p ∷ rest → (H (place_at ps i p rest) → ⊥) → NoneBefore (i + 1)
  none_here i p rest none e n q o l h =
      elim (cases_eq (length q.before) i) [
        | inl k ↦ n (subst H (same_place ps i p rest q e o k) h)
        | inr k ↦ none q o (omega arith) h
      ]

  pub none_at_all : (i : ℕ) → length ps ≤ i → NoneBefore i → FindsFirst ps H None
  none_at_all i l none q o h = let w = within ps q o in none q o (omega (arith, w)) h

  -- ---- from the end

  pub record IsFirstFrom (i n : ℕ) : Type 0 where
    pub place : Place90
    pub in_text : IsPlaceIn ps place
    pub holds : H place
    pub number : n ≡ length place.before
    pub first : (other : Place90) → IsPlaceIn ps other → i ≤ length other.before → H other → n ≤ length other.before

  abbrev pub FindsFrom : ℕ → Option ℕ → Type 0
  FindsFrom i (Some n) = IsFirstFrom i n
  FindsFrom i None = (q : Place90) → IsPlaceIn ps q → i ≤ length q.before → H q → ⊥

  pub none_behind : (i : ℕ) → length ps ≤ i → FindsFrom i None
  none_behind i l q o k h = let w = within ps q o in absurd (omega (arith, w))

  pub found_here : (i : ℕ) (p : Placed) (rest : List Placed) → drop i ps ≡ p ∷ rest → H (place_at ps i p rest) → FindsFrom i (Some i)
  found_here i p rest e h = record {
    place = place_at ps i p rest;
    in_text = is_in_text ps i p rest e;
    holds = h;
    number = sym (numbered ps i p rest e);
    first = λ other o l k. l;
  }

  pub passed : (i : ℕ) (p : Placed) (rest : List Placed) (found : Option ℕ) → drop i ps ≡ p ∷ rest → (H (place_at ps i p rest) → ⊥) → FindsFrom (i + 1) found
      → FindsFrom i found
  passed i p rest None e n f = λ q o l h.
      elim (cases_eq (length q.before) i) [
        | inl k ↦ n (subst H (same_place ps i p rest q e o k) h)
        | inr k ↦ f q o (omega arith) h
      ]
  passed i p rest (Some m) e n f = record {
    place = f.place;
    in_text = f.in_text;
    holds = f.holds;
    number = f.number;
    first = λ other o l h. elim (cases_eq (length other.before) i) [
      | inl k ↦ absurd (n (subst H (same_place ps i p rest other e o k) h))
      | inr k ↦ f.first other o (omega arith) h
    ];
  }

  pub from_start : (found : Option ℕ) → FindsFrom 0 found → FindsFirst ps H found
  from_start None f = λ q o h. f q o (omega arith) h
  from_start (Some n) f = record {
    place = f.place;
    in_text = f.in_text;
    holds = f.holds;
    number = f.number;
    first = λ other o h. f.first other o (omega arith) h;
  }
