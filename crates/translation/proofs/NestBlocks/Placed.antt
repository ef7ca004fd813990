-- What answers put in the places of loops.
use Rattle.std.proofs.Common.{◌≡◌, ◌≢◌, ◌⊎◌, inl, inr, refl, ◌∙◌, ap, subst, sym, ℕ, zero, suc, ◌-◌, ◌<◌, ◌≤◌, arith}
use Rattle.std.proofs.Common.{Option, Some, None, Result, Ok, Err, OnOk, List, [], ◌∷◌, ◌++◌, map, get_or, option_map}
use Rattle.std.proofs.Common.{Contains}
use Rattle.std.specs.Prelude.{⊤}
use Rattle.std.proofs.lemmas.Bool.{cases_eq}
use Rattle.std.proofs.lemmas.List.Elements.{Contains-append_left, Contains-push, Contains-push_cases}
use Rattle.meaning_laws.proofs.arrays.Members.{in_map}
use Rattle.find_nests.specs.Found.{Found, InNest, Kept}
use Rattle.find_nests.specs.View.{found_of}
use Rattle.find_nests.specs.declared.search.Found.{Found as Found'}
use Rattle.find_nests.specs.declared.search.Found.TheVariants.{Nest as InNest'}
use Rattle.tree.specs.Plain.{Block}
use Rattle.tree.specs.View.{block_of}
use Rattle.tree.specs.declared.stmts.Block.{Block as Tree}
use Rattle.translation.specs.loop_numbers.Numbers.{loop_number}
use Rattle.translation.specs.loop_placing.Placing.{block_at, blocks_of}
use Rattle.nest.specs.Plain.{Nest}
use Rattle.nest.specs.View.{nest_of}
use Rattle.nest.specs.declared.nests.Nest.{Nest as Nest'}
use Rattle.meaning_laws.proofs.profiles.Lists.{nowhere}
use Rattle.translation.specs.nest_blocks.Answers.{ArePlaced, Puts}
use Rattle.translation.specs.nest_blocks.Places.{IsPut, IsPutFor}
use Rattle.translation.specs.nest_blocks.LoopAnswers.{LoopAnswer, block_by, found_by}

-- ---- a block is put

at_plain : (bs : List (Option Tree)) (k : ℕ) → get_or (blocks_of bs) k None ≡ option_map block_of (get_or bs k None)
at_plain [] zero = refl
at_plain [] (suc k) = refl
at_plain (b ∷ bs) zero = refl
at_plain (b ∷ bs) (suc k) = at_plain bs k

put_plain : (place : ℕ) (x : Tree) (old new : List (Option Tree)) → IsPut place x old new
    → IsPut place (block_of x) (blocks_of old) (blocks_of new)
put_plain place x old new h = record {
  there = at_plain new place ∙ ap (option_map block_of) h.there;
  same = λ k other. at_plain new k ∙ ap (option_map block_of) (h.same k other) ∙ sym (at_plain old k);
}

abbrev GivesPut : {E : Type 0} → Result ⊤ E → List (Option Tree) → List (Option Tree) → Found → Option Block → Type 0
GivesPut r old new f b = OnOk r (IsPutFor f b (blocks_of old) (blocks_of new))

put_for_nest : {E : Type 0} (r : Result ⊤ E) (n : Nest) (number place : ℕ) (x : Tree) (old new : List (Option Tree))
    → number ≡ loop_number n → place ≡ number - 1 → OnOk r (IsPut place x old new)
    → GivesPut r old new (InNest n) (Some (block_of x))
put_for_nest (Err e) n number place x old new is at h = tt
put_for_nest (Ok u) n number place x old new is at h =
    subst (λ (k : ℕ). IsPut k (block_of x) (blocks_of old) (blocks_of new)) (at ∙ ap (λ (k : ℕ). k - 1) is)
    (put_plain place x old new h)

pub put_for_found : {E : Type 0} (r : Result ⊤ E) (f : Found') (o : Option Tree) (n : Nest') (number place : ℕ)
    (x : Tree) (old new : List (Option Tree)) → f ≡ InNest' n → o ≡ Some x → number ≡ loop_number (nest_of n)
    → place ≡ number - 1 → OnOk r (IsPut place x old new) → GivesPut r old new (found_of f) (option_map block_of o)
put_for_found r f o n number place x old new found block is at h =
    subst (λ (g : Found'). GivesPut r old new (found_of g) (option_map block_of o)) (sym found)
    (subst (λ (b : Option Tree). GivesPut r old new (InNest (nest_of n)) (option_map block_of b)) (sym block)
    (put_for_nest r (nest_of n) number place x old new is at h))

-- ---- one answer more

-- the number of the nest, if it is one, counts from 1 and is greater than those of the nests before it
pub record IsBehind (fs : List Found) (f : Found) : Type 0 where
  pub counts : (m : Nest) → f ≡ InNest m → 1 ≤ loop_number m
  pub from : (n : Nest) → Contains fs (InNest n) → 1 ≤ loop_number n
  pub later : (n m : Nest) → Contains fs (InNest n) → f ≡ InNest m → loop_number n < loop_number m

pub placed_none : ArePlaced [] []
placed_none = record { only = λ k b l e. absurd (cc); each = λ a k b c p. absurd (nowhere a c) }

same_nest : (n o : Nest) → InNest n ≡ InNest o → n ≡ o
same_nest n o e = cc

same_block : (b c : Block) → Some b ≡ Some c → b ≡ c
same_block b c e = cc

nothing_put : (answers : List LoopAnswer) (a : LoopAnswer) (old new : List (Option Block))
    → ((k : ℕ) (b : Block) → Puts a k b → ⊥) → new ≡ old → ArePlaced answers old → ArePlaced (answers ++ a ∷ []) new
nothing_put answers a old new never same placed = record {
  only = λ k b from e. earlier k b (placed.only k b from (sym (stays k) ∙ e));
  each = λ x k b c p. one x k b p (Contains-push_cases answers a x c);
}
  where
    stays : (k : ℕ) → block_at new k ≡ block_at old k
    stays k = ap (λ (bs : List (Option Block)). block_at bs k) same

    earlier : (k : ℕ) (b : Block) → (x : LoopAnswer) × Contains answers x × Puts x k b
        → (x : LoopAnswer) × Contains (answers ++ a ∷ []) x × Puts x k b
    earlier k b w = (w.0, Contains-append_left answers (a ∷ []) w.0 w.1, w.2)

    one : (x : LoopAnswer) (k : ℕ) (b : Block) → Puts x k b → Contains answers x ⊎ (a ≡ x) → block_at new k ≡ Some b
    one x k b p (inl c) = stays k ∙ placed.each x k b c p
    one x k b p (inr s) = absurd (never k b (subst (λ (y : LoopAnswer). Puts y k b) (sym s) p))

module _ (answers : List LoopAnswer) (a : LoopAnswer) (n : Nest) (b : Block) (old new : List (Option Block))
    (found : found_by a ≡ InNest n) (is : block_by a ≡ Some b) (behind : IsBehind (map found_by answers) (InNest n))
    (placed : ArePlaced answers old) (put : IsPut (loop_number n - 1) b old new) where
  only : (k : ℕ) (c : Block) → 1 ≤ k → block_at new k ≡ Some c
      → (x : LoopAnswer) × Contains (answers ++ a ∷ []) x × Puts x k c
  only k c from e = by (cases_eq (k - 1) (loop_number n - 1))
    where
      by : (k - 1 ≡ loop_number n - 1) ⊎ (k - 1 ≢ loop_number n - 1)
          → (x : LoopAnswer) × Contains (answers ++ a ∷ []) x × Puts x k c
      by (inl s) =
          let counts = behind.counts n refl in
          let number : loop_number n ≡ k = omega (arith, counts, s, from) in
          let there : get_or new (k - 1) None ≡ Some b = ap (λ i. get_or new i None) s ∙ put.there in
          let same : b ≡ c = same_block b c (sym there ∙ e) in
          let own : Puts a k c
          = record { nest = n; found = found; number = number; block = is ∙ ap Some same } in
          (a, Contains-push answers a, own)
      by (inr s) =
          let w = placed.only k c from (sym (put.same (k - 1) s) ∙ e) in
          (w.0, Contains-append_left answers (a ∷ []) w.0 w.1, w.2)

  each : (x : LoopAnswer) (k : ℕ) (c : Block) → Puts x k c → Contains answers x ⊎ (a ≡ x) → block_at new k ≡ Some c
  each x k c p (inl i) =
      let among : Contains (map found_by answers) (InNest p.nest)
      = subst (Contains (map found_by answers)) p.found (in_map found_by answers x i) in
      let from = behind.from p.nest among in
      let less = behind.later p.nest n among refl in
      let number = p.number in
      let apart : k - 1 ≢ loop_number n - 1 = λ s. omega (arith, from, less, number, s) in
      put.same (k - 1) apart ∙ placed.each x k c i p
  each x k c p (inr s) =
      let own = subst (λ (y : LoopAnswer). Puts y k c) (sym s) p in
      let same : n ≡ own.nest = same_nest n own.nest (sym found ∙ own.found) in
      let number : k ≡ loop_number n = sym own.number ∙ ap loop_number (sym same) in
      ap (λ i. block_at new i) number ∙ put.there ∙ sym is ∙ own.block

  one_put : ArePlaced (answers ++ a ∷ []) new
  one_put = record { only = only; each = λ x k c i p. each x k c p (Contains-push_cases answers a x i) }

pub placed_more : (answers : List LoopAnswer) (a : LoopAnswer) (f : Found) (block : Option Block)
    (old new : List (Option Block)) → found_by a ≡ f → block ≡ block_by a → IsBehind (map found_by answers) f
    → ArePlaced answers old → IsPutFor f block old new → ArePlaced (answers ++ a ∷ []) new
placed_more answers a (InNest n) (Some b) old new found is behind placed put =
    one_put answers a n b old new found (sym is) behind placed put
placed_more answers a (InNest n) None old new found is behind placed put =
    nothing_put answers a old new never put placed
  where
    never : (k : ℕ) (b : Block) → Puts a k b → ⊥
    never k b p = let no : None ≡ Some b = is ∙ p.block in cc
placed_more answers a (Kept line r) block old new found is behind placed put =
    nothing_put answers a old new never put placed
  where
    never : (k : ℕ) (b : Block) → Puts a k b → ⊥
    never k b p = let no : Kept line r ≡ InNest p.nest = sym found ∙ p.found in cc
