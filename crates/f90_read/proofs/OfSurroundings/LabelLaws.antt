-- The labels that are held are those ahead.
use Rattle.std.proofs.Common.{arith, zero, suc, ◌≡◌, ◌+◌, ◌<◌, ◌≤◌, ℕ, nat_eq, Bool, true, false, ◌||◌, Option, Some, None, List, [], ◌∷◌, ◌++◌, take, drop, length, ap, refl, sym, subst, ◌∙◌, ◌⊎◌, inl, inr, cond, get_or}
use Rattle.std.specs.Prelude.{reverse, slice_get, IsSomeAnd}
use Rattle.std.specs.List.{list_any}
use Rattle.std.proofs.Math.Seq.{take-length}
use Rattle.std.proofs.lemmas.Bool.{false_from_ne_true, eqb-true, eqb-false, true≢false, or_left, or_right}
use Rattle.std.proofs.lemmas.List.{reverse-append, take-append-le, length-append, length-take-le}
use Rattle.std.proofs.lemmas.List.Sorted.{list_any-IsPermutation, IsPermutation-reverse}
use Rattle.std.proofs.lemmas.Option.{slice_get_within}
use Rattle.f90_laws.specs.blocks.Places.{labels_ahead, opened_since, with_label_at}
use Rattle.f90_grammar.specs.Blocks.{Placed}
use Rattle.f90_grammar.specs.Forms as forms
use Rattle.f90_grammar.specs.Forms.{Form90}
use Rattle.f90_grammar.specs.Phrases.{value_of_digits}
use Rattle.f90_read.specs.surroundings.Jumps.{AreHeld, kept, AreStarts, is_there, with_first, entered, left, front, others}

-- ---- the levels

take_past : (s t : ℕ) (xs : List ℕ) → s ≤ length xs → take s (xs ++ t ∷ []) ≡ take s xs
take_past s t xs l = take-append-le s xs (t ∷ []) l

kept_with : (labels starts : List ℕ) (t n : ℕ) → AreStarts starts (length labels) → kept (labels ++ t ∷ []) (suc n) starts ≡ kept labels (suc n) starts
kept_with labels [] t n h = refl
kept_with labels (s ∷ starts) t n h = ap (λ (xs : List ℕ). kept xs n starts) (take_past s t labels h.0)

starts_up : (starts : List ℕ) (m n : ℕ) → m ≤ n → AreStarts starts m → AreStarts starts n
starts_up [] m n l h = tt
starts_up (s ∷ starts) m n l h = (omega (arith, h.0), h.1)

-- a label more
pub added : (labels starts : List ℕ) (t : ℕ) (at : ℕ → List ℕ) → AreStarts starts (length labels) → ((n : ℕ) → reverse (kept labels n starts) ≡ at n)
    → (n : ℕ) → reverse (kept (labels ++ t ∷ []) n starts) ≡ with_first t at n
added labels starts t at h k zero = reverse-append labels (t ∷ []) ∙ ap (λ (xs : List ℕ). t ∷ xs) (k 0)
added labels starts t at h k (suc n) = ap reverse (kept_with labels starts t n h) ∙ k (suc n)

pub starts_added : (labels starts : List ℕ) (t : ℕ) → AreStarts starts (length labels) → AreStarts starts (length (labels ++ t ∷ []))
starts_added labels starts t h = starts_up starts (length labels) _ (omega (arith, length-append labels (t ∷ []))) h

-- a block more
pub begun : (labels starts : List ℕ) (m : ℕ) (at : ℕ → List ℕ) → m ≡ length labels → ((n : ℕ) → reverse (kept labels n starts) ≡ at n)
    → (n : ℕ) → reverse (kept labels n (m ∷ starts)) ≡ entered at n
begun labels starts m at e k zero = k 0
begun labels starts m at e k (suc n) = ap (λ (xs : List ℕ). reverse (kept xs n starts)) (ap (λ (j : ℕ). take j labels) e ∙ take-length labels) ∙ k n

-- a block less
kept_none : (n : ℕ) → kept [] n [] ≡ []
kept_none zero = refl
kept_none (suc n) = refl

pub ended : (labels starts : List ℕ) (at : ℕ → List ℕ) → ((n : ℕ) → reverse (kept labels n starts) ≡ at n)
    → (n : ℕ) → reverse (kept (take (front starts) labels) n (others starts)) ≡ left at n
ended labels [] at k n = ap reverse (kept_none n) ∙ k (suc n)
ended labels (s ∷ starts) at k n = k (suc n)

pub starts_ended : (labels starts : List ℕ) → AreStarts starts (length labels) → AreStarts (others starts) (length (take (front starts) labels))
starts_ended labels [] h = tt
starts_ended labels (s ∷ starts) h = subst (λ (n : ℕ). AreStarts starts n) (sym (length-take-le s labels h.0)) h.1

-- ---- where labels stand first

abbrev pub AreFirsts : (ℕ → Option ℕ) → List ℕ → Type 0
AreFirsts firsts labels = (n j : ℕ) → slice_get labels j ≡ Some n → IsSomeAnd (firsts n) (λ i. (i ≤ j) × (slice_get labels i ≡ Some n))

got_front : (xs ys : List ℕ) (j n : ℕ) → slice_get xs j ≡ Some n → slice_get (xs ++ ys) j ≡ Some n
got_front [] ys j n e = absurd (cc)
got_front (x ∷ xs) ys zero n e = e
got_front (x ∷ xs) ys (suc j) n e = got_front xs ys j n e

got_more : (xs : List ℕ) (t j n : ℕ) → slice_get (xs ++ t ∷ []) j ≡ Some n → (slice_get xs j ≡ Some n) ⊎ ((j ≡ length xs) × (n ≡ t))
got_more [] t zero n e = inr (refl, cc)
got_more [] t (suc j) n e = absurd (cc)
got_more (x ∷ xs) t zero n e = inl e
got_more (x ∷ xs) t (suc j) n e = elim (got_more xs t j n e) [ inl h ↦ inl h | inr h ↦ inr (ap suc h.0, h.1) ]

got_last : (xs : List ℕ) (t : ℕ) → slice_get (xs ++ t ∷ []) (length xs) ≡ Some t
got_last [] t = refl
got_last (x ∷ xs) t = got_last xs t

got_taken : (xs : List ℕ) (s j n : ℕ) → slice_get (take s xs) j ≡ Some n → (slice_get xs j ≡ Some n) × (j < s)
got_taken xs zero j n e = absurd (cc)
got_taken [] (suc s) j n e = absurd (cc)
got_taken (x ∷ xs) (suc s) zero n e = (e, omega arith)
got_taken (x ∷ xs) (suc s) (suc j) n e = let h = got_taken xs s j n e in (h.0, omega (arith, h.1))

taken_got : (xs : List ℕ) (s i n : ℕ) → slice_get xs i ≡ Some n → i < s → slice_get (take s xs) i ≡ Some n
taken_got xs zero i n e l = absurd (omega arith)
taken_got [] (suc s) i n e l = absurd (cc)
taken_got (x ∷ xs) (suc s) zero n e l = e
taken_got (x ∷ xs) (suc s) (suc i) n e l = taken_got xs s i n e (omega arith)

abbrev IsFirst : Option ℕ → List ℕ → ℕ → ℕ → Type 0
IsFirst o labels j n = IsSomeAnd o (λ i. (i ≤ j) × (slice_get labels i ≡ Some n))

pub firsts_ended : (firsts : ℕ → Option ℕ) (labels : List ℕ) (s : ℕ) → AreFirsts firsts labels → AreFirsts firsts (take s labels)
firsts_ended firsts labels s h n j e = let g = got_taken labels s j n e in by (firsts n) g.1 (h n j g.0)
  where
    by : (o : Option ℕ) → j < s → IsFirst o labels j n → IsFirst o (take s labels) j n
    by None l f = absurd f
    by (Some i) l f = (f.0, taken_got labels s i n f.1 (omega (arith, f.0)))

-- whether a label is held
found_at : (p : ℕ → Bool) (xs : List ℕ) → list_any p xs ≡ true → (j : ℕ) × (n : ℕ) × (slice_get xs j ≡ Some n) × (p n ≡ true)
found_at p [] h = absurd (true≢false (sym h))
found_at p (x ∷ xs) h = by (p x) refl h (found_at p xs)
  where
    by : (b : Bool) → p x ≡ b → (b || list_any p xs) ≡ true → (list_any p xs ≡ true → (j : ℕ) × (n : ℕ) × (slice_get xs j ≡ Some n) × (p n ≡ true))
        → (j : ℕ) × (n : ℕ) × (slice_get (x ∷ xs) j ≡ Some n) × (p n ≡ true)
    by true e h f = (0, x, refl, e)
    by false e h f = let k = f h in (suc k.0, k.1, k.2, k.3)

any_at : (p : ℕ → Bool) (xs : List ℕ) (j n : ℕ) → slice_get xs j ≡ Some n → p n ≡ true → list_any p xs ≡ true
any_at p [] j n e h = absurd (cc)
any_at p (x ∷ xs) zero n e h = let k : x ≡ n = cc in or_left (p x) (list_any p xs) (ap p k ∙ h)
any_at p (x ∷ xs) (suc j) n e h = or_right (p x) (list_any p xs) (any_at p xs j n e h)

-- if it is, it stands where it stood first
there_since : (firsts : ℕ → Option ℕ) (labels : List ℕ) (n j : ℕ) (o : Option ℕ) → AreFirsts firsts labels → firsts n ≡ o → slice_get labels j ≡ Some n
    → IsFirst o labels j n
there_since firsts labels n j o h e g = subst (λ (q : Option ℕ). IsFirst q labels j n) e (h n j g)

pub held_nowhere : (firsts : ℕ → Option ℕ) (labels : List ℕ) (n : ℕ) → AreFirsts firsts labels → firsts n ≡ None → list_any (nat_eq n) labels ≡ false
held_nowhere firsts labels n h e = false_from_ne_true (list_any (nat_eq n) labels) (λ q. let k = found_at (nat_eq n) labels q in
    let m : n ≡ k.1 = eqb-true n k.1 k.3 in
    there_since firsts labels n k.0 None h e (k.2 ∙ ap Some (sym m)))

pub held_there : (firsts : ℕ → Option ℕ) (labels : List ℕ) (n i : ℕ) → AreFirsts firsts labels → firsts n ≡ Some i
    → is_there (slice_get labels i) n ≡ list_any (nat_eq n) labels
held_there firsts labels n i h e = by (slice_get labels i) refl
  where
    missed : (o : Option ℕ) → slice_get labels i ≡ o → (o ≡ Some n → ⊥) → false ≡ list_any (nat_eq n) labels
    missed o g m = sym (false_from_ne_true (list_any (nat_eq n) labels) (λ q. let k = found_at (nat_eq n) labels q in
        let s : n ≡ k.1 = eqb-true n k.1 k.3 in
        m (sym g ∙ (there_since firsts labels n k.0 (Some i) h e (k.2 ∙ ap Some (sym s))).1)))

    some : (m : ℕ) (b : Bool) → slice_get labels i ≡ Some m → nat_eq n m ≡ b → b ≡ list_any (nat_eq n) labels
    some m true g t = sym (any_at (nat_eq n) labels i m g t)
    some m false g t = missed (Some m) g (λ q. let k : m ≡ n = cc in eqb-false n m t (sym k))

    by : (o : Option ℕ) → slice_get labels i ≡ o → is_there o n ≡ list_any (nat_eq n) labels
    by None g = missed None g (λ q. absurd (cc))
    by (Some m) g = some m (nat_eq n m) g refl

pub same_labels : (labels ahead : List ℕ) (n : ℕ) → reverse labels ≡ ahead → list_any (nat_eq n) labels ≡ list_any (nat_eq n) ahead
same_labels labels ahead n e = list_any-IsPermutation (nat_eq n) labels (reverse labels) (IsPermutation-reverse labels) ∙ ap (list_any (nat_eq n)) e

-- a label more, which is held already, or is held from now on
pub firsts_kept : (firsts : ℕ → Option ℕ) (labels : List ℕ) (t : ℕ) → AreFirsts firsts labels → list_any (nat_eq t) labels ≡ true → AreFirsts firsts (labels ++ t ∷ [])
firsts_kept firsts labels t h q n j e =
    elim (got_more labels t j n e) [
      | inl g ↦ by (firsts n) j (h n j g)
      | inr g ↦ let k = found_at (nat_eq t) labels q in
          let m : n ≡ k.1 = g.1 ∙ eqb-true t k.1 k.3 in
          later (firsts n) k.0 (by (firsts n) k.0 (h n k.0 (k.2 ∙ ap Some (sym m)))) (omega (arith, g.0, slice_get_within labels k.0 k.1 k.2))
    ]
  where
    by : (o : Option ℕ) (i : ℕ) → IsFirst o labels i n → IsFirst o (labels ++ t ∷ []) i n
    by None i f = absurd f
    by (Some k) i f = (f.0, got_front labels (t ∷ []) k n f.1)

    later : (o : Option ℕ) (i : ℕ) → IsFirst o (labels ++ t ∷ []) i n → i ≤ j → IsFirst o (labels ++ t ∷ []) j n
    later None i f l = absurd f
    later (Some k) i f l = (omega (arith, f.0), f.1)

pub firsts_put : (firsts now : ℕ → Option ℕ) (labels : List ℕ) (t m : ℕ) → AreFirsts firsts labels → list_any (nat_eq t) labels ≡ false → m ≡ length labels
    → ((n : ℕ) → now n ≡ cond (nat_eq t n) (Some m) (firsts n)) → AreFirsts now (labels ++ t ∷ [])
firsts_put firsts now labels t m h q l u n j e = subst (λ (o : Option ℕ). IsFirst o (labels ++ t ∷ []) j n) (sym (u n)) (by (nat_eq t n) refl (got_more labels t j n e))
  where
    kept_first : (o : Option ℕ) → IsFirst o labels j n → IsFirst o (labels ++ t ∷ []) j n
    kept_first None f = absurd f
    kept_first (Some k) f = (f.0, got_front labels (t ∷ []) k n f.1)

    last : t ≡ n → slice_get (labels ++ t ∷ []) m ≡ Some n
    last s = ap (slice_get (labels ++ t ∷ [])) l ∙ (got_last labels t ∙ ap Some s)

    by : (b : Bool) → nat_eq t n ≡ b → (slice_get labels j ≡ Some n) ⊎ ((j ≡ length labels) × (n ≡ t)) → IsFirst (cond b (Some m) (firsts n)) (labels ++ t ∷ []) j n
    by true s (inl g) = absurd (true≢false (sym (any_at (nat_eq t) labels j n g s) ∙ q))
    by true s (inr g) = (omega (arith, g.0), last (eqb-true t n s))
    by false s (inl g) = kept_first (firsts n) (h n j g)
    by false s (inr g) = absurd (eqb-false t n s (sym g.1))

-- ---- all of it

module _ (labels starts : List ℕ) (firsts : ℕ → Option ℕ) (at : ℕ → List ℕ) (h : AreHeld labels starts firsts at) where
  pub not_held : (t : ℕ) → firsts t ≡ None → list_any (nat_eq t) (at 0) ≡ false
  not_held t e = sym (same_labels labels (at 0) t (h.same 0)) ∙ held_nowhere firsts labels t h.found e

  pub held_at : (t i : ℕ) → firsts t ≡ Some i → is_there (slice_get labels i) t ≡ list_any (nat_eq t) (at 0)
  held_at t i e = held_there firsts labels t i h.found e ∙ same_labels labels (at 0) t (h.same 0)

  -- a label more
  with_held : (t : ℕ) (now : ℕ → Option ℕ) → list_any (nat_eq t) (at 0) ≡ true → ((n : ℕ) → now n ≡ firsts n) → AreHeld (labels ++ t ∷ []) starts now (with_first t at)
  with_held t now e u = record {
    same = added labels starts t at h.are_starts h.same;
    are_starts = starts_added labels starts t h.are_starts;
    found = λ n j g. subst (λ (o : Option ℕ). IsFirst o (labels ++ t ∷ []) j n) (sym (u n)) (firsts_kept firsts labels t h.found (same_labels labels (at 0) t (h.same 0) ∙ e) n j g);
  }

  with_new : (t : ℕ) (now : ℕ → Option ℕ) → list_any (nat_eq t) (at 0) ≡ false
      → ((n : ℕ) → now n ≡ cond (nat_eq t n) (Some (length labels)) (firsts n)) → AreHeld (labels ++ t ∷ []) starts now (with_first t at)
  with_new t now e u = record {
    same = added labels starts t at h.are_starts h.same;
    are_starts = starts_added labels starts t h.are_starts;
    found = firsts_put firsts now labels t (length labels) h.found (same_labels labels (at 0) t (h.same 0) ∙ e) refl u;
  }

  pub label_added : (t : ℕ) (known : Bool) (more others_now : List ℕ) (now : ℕ → Option ℕ) → known ≡ list_any (nat_eq t) (at 0) → more ≡ labels ++ t ∷ [] → others_now ≡ starts
      → ((n : ℕ) → now n ≡ cond known (firsts n) (cond (nat_eq t n) (Some (length labels)) (firsts n))) → AreHeld more others_now now (with_first t at)
  label_added t known more others_now now e m o u =
      subst (λ (ls : List ℕ). AreHeld ls others_now now (with_first t at)) (sym m)
      (subst (λ (ss : List ℕ). AreHeld (labels ++ t ∷ []) ss now (with_first t at)) (sym o) (by known (sym e) u))
    where
      by : (b : Bool) → list_any (nat_eq t) (at 0) ≡ b → ((n : ℕ) → now n ≡ cond b (firsts n) (cond (nat_eq t n) (Some (length labels)) (firsts n)))
          → AreHeld (labels ++ t ∷ []) starts now (with_first t at)
      by true e u = with_held t now e u
      by false e u = with_new t now e u

  -- a block more, a block less
  pub held_in : (m : ℕ) → m ≡ length labels → AreHeld labels (m ∷ starts) firsts (entered at)
  held_in m e = record { same = begun labels starts m at e h.same; are_starts = (omega arith, subst (AreStarts starts) (sym e) h.are_starts); found = h.found }

  pub held_out : AreHeld (take (front starts) labels) (others starts) firsts (left at)
  held_out = record {
    same = ended labels starts at h.same;
    are_starts = starts_ended labels starts h.are_starts;
    found = firsts_ended firsts labels (front starts) h.found;
  }

  pub block_left : (start : ℕ) (fewer outer : List ℕ) → start ≡ front starts → fewer ≡ take start labels → outer ≡ others starts → AreHeld fewer outer firsts (left at)
  block_left start fewer outer e f o =
      subst (λ (ls : List ℕ). AreHeld ls outer firsts (left at)) (sym (f ∙ ap (λ (k : ℕ). take k labels) e))
      (subst (λ (ss : List ℕ). AreHeld (take (front starts) labels) ss firsts (left at)) (sym o) held_out)
