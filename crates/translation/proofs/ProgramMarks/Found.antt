-- The nests among what is found, by the numbers of their loops.
use Rattle.std.proofs.Common.{◌≡◌, ◌⊎◌, inl, inr, refl, sym, ap, subst, ◌∙◌, ℕ, arith, Bool, true, false, not, ◌&&◌}
use Rattle.std.proofs.Common.{cond, Option, None, Some, List, [], ◌∷◌, map, Contains}
use Rattle.std.specs.Prelude.{is_some}
use Rattle.std.specs.List.{filter}
use Rattle.components.proofs.ListLaws.{Each-In}
use Rattle.components.specs.Lists.{IsMember, Pairwise}
use Rattle.find_nests.specs.Found.{Found, InNest, Kept, found_among, found_as, nests_with}
use Rattle.find_nests.specs.Loops.{Numbered, SurroundedLoop}
use Rattle.find_nests.specs.LookedAt.{is_in_no_nest, reason_of}
use Rattle.find_nests.specs.declared.reasons.Reason.{Reason}
use Rattle.tree.specs.Plain.{Program}
use Rattle.translation.specs.loop_numbers.Numbers.{ComesBefore, loop_number, nests_among}
use Rattle.find_nests.specs.nest_parts.Numbers.{next_loop_number}
use Rattle.nest.specs.Plain.{Nest}
use Rattle.meaning_laws.proofs.profiles.Lists.{cases_of, here, nowhere, there}
use Rattle.translation.proofs.ProgramMarks.Placed.{is_nest, nest_numbers, number_of}

-- ---- nests and loops

module _ (p : Program) where
  abbrev loops_of : List SurroundedLoop → List Numbered
  loops_of zs = map (λ (z : SurroundedLoop). z.loop) (filter (is_in_no_nest p.declarations) zs)

  -- the loops that are nests are those of the nests that are found, in their order
  pub numbers_are : (zs : List SurroundedLoop) (n : ℕ)
      → nest_numbers p.declarations zs ≡ map loop_number (nests_among (found_among p n (loops_of zs)))
  numbers_are [] n = refl
  numbers_are (z ∷ zs) n = by (is_in_no_nest p.declarations z) (numbers_are zs)
    where
      with_reason : (o : Option Reason)
          → ((m : ℕ) → nest_numbers p.declarations zs ≡ map loop_number (nests_among (found_among p m (loops_of zs))))
          → map number_of (cond (true && not (is_some o)) (z ∷ filter (is_nest p.declarations) zs)
          (filter (is_nest p.declarations) zs))
          ≡ map loop_number (nests_among (found_as p n z.loop o ∷ found_among p (nests_with n o) (loops_of zs)))
      with_reason None more = ap (λ ks. next_loop_number z.loop.before ∷ ks) (more (next_loop_number n))
      with_reason (Some r) more = more n

      by : (b : Bool)
          → ((m : ℕ) → nest_numbers p.declarations zs ≡ map loop_number (nests_among (found_among p m (loops_of zs))))
          → map number_of (cond (b && not (is_some (reason_of p.declarations z.loop.loop)))
          (z ∷ filter (is_nest p.declarations) zs) (filter (is_nest p.declarations) zs))
          ≡ map loop_number (nests_among (found_among p n (map (λ (y : SurroundedLoop). y.loop)
          (cond b (z ∷ filter (is_in_no_nest p.declarations) zs) (filter (is_in_no_nest p.declarations) zs)))))
      by true more = with_reason (reason_of p.declarations z.loop.loop) more
      by false more = more n

-- ---- nests among what is found

pub among_nests : (fs : List Found) (n : Nest) → Contains fs (InNest n) → IsMember n (nests_among fs)
among_nests [] n c = absurd (nowhere (InNest n) c)
among_nests (f ∷ fs) n c = by f (cases_of f fs (InNest n) c) (among_nests fs n)
  where
    by : (g : Found) → (g ≡ InNest n) ⊎ Contains fs (InNest n) → (Contains fs (InNest n) → IsMember n (nests_among fs))
        → IsMember n (nests_among (g ∷ fs))
    by (InNest m) (inl e) more = inl (let same : n ≡ m = cc in same)
    by (InNest m) (inr d) more = inr (more d)
    by (Kept line r) (inl e) more = let no : ⊥ = cc in absurd no
    by (Kept line r) (inr d) more = more d

pub of_found : (fs : List Found) (n : Nest) → IsMember n (nests_among fs) → Contains fs (InNest n)
of_found [] n i = absurd i
of_found (InNest m ∷ fs) n (inl e) =
    subst (λ (k : Nest). Contains (InNest m ∷ fs) (InNest k)) (sym e) (here (InNest m) fs)
of_found (InNest m ∷ fs) n (inr i) = there (InNest m) fs (InNest n) (of_found fs n i)
of_found (Kept line r ∷ fs) n i = there (Kept line r) fs (InNest n) (of_found fs n i)

pub among_numbers : (ns : List Nest) (n : Nest) → IsMember n ns → Contains (map loop_number ns) (loop_number n)
among_numbers [] n i = absurd i
among_numbers (m ∷ ns) n (inl e) =
    subst (λ k. Contains (map loop_number (m ∷ ns)) k) (ap loop_number (sym e))
    (here (loop_number m) (map loop_number ns))
among_numbers (m ∷ ns) n (inr i) = there (loop_number m) (map loop_number ns) (loop_number n) (among_numbers ns n i)

-- a nest is known by the number of its loop
pub same_nest : (ns : List Nest) → Pairwise ComesBefore ns → (n m : Nest) → IsMember n ns → IsMember m ns
    → loop_number n ≡ loop_number m → n ≡ m
same_nest [] h n m i j e = absurd i
same_nest (x ∷ ns) h n m (inl a) (inl b) e = a ∙ sym b
same_nest (x ∷ ns) h n m (inl a) (inr j) e =
    let less = (Each-In (ComesBefore x) ns h.0 m j).loops in
    let same = ap loop_number a in absurd (omega (arith, less, same, e))
same_nest (x ∷ ns) h n m (inr i) (inl b) e =
    let less = (Each-In (ComesBefore x) ns h.0 n i).loops in
    let same = ap loop_number b in absurd (omega (arith, less, same, e))
same_nest (x ∷ ns) h n m (inr i) (inr j) e = same_nest ns h.1 n m i j e
