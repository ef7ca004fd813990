-- The marked statements of blocks, one by one, and their marks.
use Rattle.std.proofs.Common.{◌≡◌, ◌⊎◌, inl, inr, refl, sym, ap, ap₂, subst, ◌∙◌, ℕ, Option, List, [], ◌∷◌, ◌++◌}
use Rattle.std.proofs.Common.{map, flat_map, Contains}
use Rattle.std.proofs.lemmas.List.{map-append}
use Rattle.std.proofs.lemmas.List.Elements.{Contains-append_cases, Contains-append_left, Contains-append_right}
use Rattle.meaning_laws.proofs.arrays.Members.{in_map, of_map}
use Rattle.emission.specs.emission_marks.Marks.{Marked, Round}
use Rattle.tree.specs.Plain.{Block}
use Rattle.meaning_laws.proofs.profiles.Lists.{cases_of, nowhere}
use Rattle.translation.specs.program_marks.Marks.{mark_numbers_of, within}
use Rattle.translation.proofs.ProgramMarks.Placed.{AreOfBlocks, marks_at}

module _ (blocks : List (Option Block)) where
  -- a statement of one of the blocks, within some loops and conditions
  pub record IsOfBlock (x : Marked) : Type 0 where
    pub number : ℕ
    pub outer : List Round
    pub own : Marked
    pub stands : Contains (marks_at blocks number) own
    pub is : x ≡ within outer own

  pub one_of : (xs : List Marked) (ks : List ℕ) → AreOfBlocks blocks xs ks → (x : Marked) → Contains xs x → IsOfBlock x
  one_of xs [] h x c = absurd (nowhere x (subst (λ ys. Contains ys x) h c))
  one_of xs (k ∷ ks) h x c =
      by (Contains-append_cases (map (within h.0) (marks_at blocks k)) h.1 x (subst (λ ys. Contains ys x) h.2 c))
      (one_of h.1 ks h.3 x)
    where
      by : Contains (map (within h.0) (marks_at blocks k)) x ⊎ Contains h.1 x → (Contains h.1 x → IsOfBlock x)
          → IsOfBlock x
      by (inl d) more =
          let m = of_map (within h.0) (marks_at blocks k) x d in
          record { number = k; outer = h.0; own = m.0; stands = m.1; is = sym m.2 }
      by (inr d) more = more d

  abbrev StandsIn : List Marked → Marked → Type 0
  StandsIn xs own = (outer : List Round) × Contains xs (within outer own)

  pub stands_in : (xs : List Marked) (ks : List ℕ) → AreOfBlocks blocks xs ks → (k : ℕ) → Contains ks k
      → (own : Marked) → Contains (marks_at blocks k) own → StandsIn xs own
  stands_in xs [] h k i own c = absurd (nowhere k i)
  stands_in xs (j ∷ ks) h k i own c = by (cases_of j ks k i) (λ d. stands_in h.1 ks h.3 k d own c)
    where
      first : List Marked
      first = map (within h.0) (marks_at blocks j)

      back : (x : Marked) → Contains (first ++ h.1) x → Contains xs x
      back x d = subst (λ ys. Contains ys x) (sym h.2) d

      by : (j ≡ k) ⊎ Contains ks k → (Contains ks k → StandsIn h.1 own) → StandsIn xs own
      by (inl e) more =
          let here = subst (λ l. Contains (marks_at blocks l) own) (sym e) c in
          let d = in_map (within h.0) (marks_at blocks j) own here in
          (h.0, back (within h.0 own) (Contains-append_left first h.1 (within h.0 own) d))
      by (inr d) more =
          let r = more d in (r.0, back (within r.0 own) (Contains-append_right first h.1 (within r.0 own) r.1))

  abbrev pub keys_at : ℕ → List (ℕ × ℕ)
  keys_at k = map mark_numbers_of (marks_at blocks k)

  same_keys : (outer : List Round) (ys : List Marked) → map mark_numbers_of (map (within outer) ys) ≡ map mark_numbers_of ys
  same_keys outer [] = refl
  same_keys outer (y ∷ ys) = ap (λ ks. mark_numbers_of y ∷ ks) (same_keys outer ys)

  pub keys_are : (xs : List Marked) (ks : List ℕ) → AreOfBlocks blocks xs ks → map mark_numbers_of xs ≡ flat_map keys_at ks
  keys_are xs [] h = ap (map mark_numbers_of) h
  keys_are xs (k ∷ ks) h =
      ap (map mark_numbers_of) h.2
      ∙ (map-append mark_numbers_of (map (within h.0) (marks_at blocks k)) h.1
      ∙ ap₂ (λ (us vs : List (ℕ × ℕ)). us ++ vs) (same_keys h.0 (marks_at blocks k)) (keys_are h.1 ks h.3))
