-- Texts of trips, and of last values of inductions, are numbers that symbols tell.
use Rattle.std.proofs.Common.{◌≡◌, int_eq, ◌⊎◌, inl, inr, refl, sym, subst, ℕ, zero, suc, ℤ, pos, negsuc, Bool, true, false, cond, List, [], ◌∷◌, ◌++◌, Option, Some, None}
use Rattle.std.specs.List.{AllByRecursion}
use Rattle.std.specs.Prelude.{◌==◌, slice_get}
use Rattle.tree.specs.Plain.{Binary, Block, Expression, Number, no_statements, statement}
use Rattle.tree.specs.declared.ops.Op.TheVariants.{Add, Div, Mul, Sub}
use Rattle.meaning.specs.Reads.{names_in}
use Rattle.linear_forms.specs.Expressed.{term, variable, variables, with_constant, with_term, with_terms}
use Rattle.linear_forms.specs.Texts.{places_behind, text_of, with_place, with_symbols}
use Rattle.nest.specs.Allocations.{block_then}
use Rattle.nest.specs.declared.parts.Trip.{Trip}
use Rattle.nest_order.proofs.orders.Lists.{In-append}
use Rattle.nest_order.specs.orders.Lists.{In}
use Rattle.last_values.specs.Endings.{assigned, only_where}
use Rattle.last_values.specs.normal_forms.NormalLoops.{is_positive}
use Rattle.last_values.specs.normal_forms.Texts.{at_least_one, trip_text}
use Rattle.statement_passes.specs.Symbols.{place_among, with_name_placed}
use Rattle.subscripts.specs.declared.affine.Affine.{Affine}
use Rattle.inductions.specs.Ends.{induction_end_text, induction_ending}
use Rattle.inductions.specs.declared.found.Induction.{Induction}
use Rattle.prepared_passes.proofs.SymbolsAnew.Names.{in_either}
use Rattle.prepared_passes.specs.expansion.Runs.{AreFree, IsFree, IsNumberBy}

got : {A : Type 0} (xs : List A) (k : ℕ) (x : A) → slice_get xs k ≡ Some x → In x xs
got [] k x e = cc
got (y ∷ ys) zero x e = inl (let same : y ≡ x = cc in sym same)
got (y ∷ ys) (suc k) x e = inr (got ys k x e)

module _ (S : List (List ℕ)) where
  -- a number, told by the symbols S
  pub record IsTold (e : Expression) : Type 0 where
    pub number : IsNumberBy S e
    pub names : (y : List ℕ) → In y (names_in e) → In y S

  abbrev IsToldSoFar : Option Expression → Type 0
  IsToldSoFar None = Unit {0}
  IsToldSoFar (Some e) = IsTold e

  either_in : (xs ys : List (List ℕ)) → ((y : List ℕ) → In y xs → In y S) → ((y : List ℕ) → In y ys → In y S) → (y : List ℕ) → In y (xs ++ ys) → In y S
  either_in xs ys f g y i = by (In-append y xs ys i)
    where
      by : In y xs ⊎ In y ys → In y S
      by (inl j) = f y j
      by (inr j) = g y j

  literal : (z : ℤ) → IsTold (Number z)
  literal z = record { number = tt; names = λ y i. absurd i }

  name_told : (x : List ℕ) → In x S → IsTold (variable x)
  name_told x i = record { number = i; names = λ y j. by y j }
    where
      by : (y : List ℕ) → (y ≡ x) ⊎ In y [] → In y S
      by y (inl e) = subst (λ z. In z S) (sym e) i
      by y (inr j) = absurd j

  times_told : (a b : Expression) → IsTold a → IsTold b → IsTold (Binary Mul a b)
  times_told a b h k = record { number = refl; names = either_in (names_in a) (names_in b) h.names k.names }

  plus_told : (a b : Expression) → IsTold a → IsTold b → IsTold (Binary Add a b)
  plus_told a b h k = record { number = refl; names = either_in (names_in a) (names_in b) h.names k.names }

  minus_told : (a b : Expression) → IsTold a → IsTold b → IsTold (Binary Sub a b)
  minus_told a b h k = record { number = refl; names = either_in (names_in a) (names_in b) h.names k.names }

  term_told : (n : ℕ) (t : Expression) → IsTold t → IsTold (term n t)
  term_told n t h = by (n == 1)
    where
      by : (b : Bool) → IsTold (cond b t (Binary Mul (Number (pos n)) t))
      by true = h
      by false = times_told (Number (pos n)) t (literal (pos n)) h

  with_term_told : (o : Option Expression) (c : ℤ) (t : Expression) → IsToldSoFar o → IsTold t → IsToldSoFar (with_term o c t)
  with_term_told o (pos zero) t h k = h
  with_term_told None (pos (suc n)) t h k = term_told (suc n) t k
  with_term_told (Some e) (pos (suc n)) t h k = plus_told e (term (suc n) t) h (term_told (suc n) t k)
  with_term_told None (negsuc n) t h k = record { number = refl; names = (term_told (suc n) t k).names }
  with_term_told (Some e) (negsuc n) t h k = minus_told e (term (suc n) t) h (term_told (suc n) t k)

  with_place_told : (o : Option Expression) (c : ℤ) (t : Option Expression) → IsToldSoFar o → ((e : Expression) → t ≡ Some e → IsTold e) → IsToldSoFar (with_place o c t)
  with_place_told o c None h f = h
  with_place_told o c (Some t) h f = with_term_told o c t h (f t refl)

  symbols_told : (o : Option Expression) (ts : List (ℕ × ℤ)) (terms : List Expression) → IsToldSoFar o → ((e : Expression) → In e terms → IsTold e) → IsToldSoFar (with_symbols o ts terms)
  symbols_told o [] terms h f = h
  symbols_told o (t ∷ ts) terms h f =
      symbols_told (with_place o t.1 (slice_get terms t.0)) ts terms (with_place_told o t.1 (slice_get terms t.0) h (λ e g. f e (got terms t.0 e g))) f

  constant_told : (o : Option Expression) (k : ℤ) → IsToldSoFar o → IsTold (with_constant o k)
  constant_told None (pos n) h = literal (pos n)
  constant_told None (negsuc n) h = record { number = refl; names = λ y i. absurd i }
  constant_told (Some e) (pos zero) h = h
  constant_told (Some e) (pos (suc n)) h = plus_told e (Number (pos (suc n))) h (literal (pos (suc n)))
  constant_told (Some e) (negsuc n) h = minus_told e (Number (pos (suc n))) h (literal (pos (suc n)))

  no_loops_told : (cs : List ℤ) → IsToldSoFar (with_terms None cs (variables []))
  no_loops_told [] = tt
  no_loops_told (c ∷ cs) = tt

  names_told : (xs : List (List ℕ)) → ((y : List ℕ) → In y xs → In y S) → (ts : List Expression) → ((e : Expression) → In e ts → IsTold e)
      → (e : Expression) → In e (places_behind xs ts) → IsTold e
  names_told [] f ts g e i = g e i
  names_told (x ∷ xs) f ts g e (inl q) = subst IsTold (sym q) (name_told x (f x (inl refl)))
  names_told (x ∷ xs) f ts g e (inr i) = names_told xs (λ y j. f y (inr j)) ts g e i

  pub text_told : (symbols : List (List ℕ)) (trips : List Expression) (a : Affine) → ((y : List ℕ) → In y symbols → In y S) → ((e : Expression) → In e trips → IsTold e)
      → IsTold (text_of [] symbols trips a)
  text_told symbols trips a f g =
      constant_told (with_symbols (with_terms None a.loops (variables [])) a.syms (places_behind symbols trips)) a.constant
      (symbols_told (with_terms None a.loops (variables [])) a.syms (places_behind symbols trips) (no_loops_told a.loops) (names_told symbols f trips g))

  module _ (symbols : List (List ℕ)) (among : (y : List ℕ) → In y symbols → In y S) (t : Trip) where
    none_further : (e : Expression) → In e [] → IsTold e
    none_further e i = absurd i

    trip_told : IsTold (trip_text [] symbols [] t)
    unfolding trip_text
    trip_told = by (int_eq t.by (pos 1))
      where
        top : IsTold (text_of [] symbols [] t.top)
        top = text_told symbols [] t.top among none_further

        by : (b : Bool) → IsTold (cond b (text_of [] symbols [] t.top) (Binary Div (text_of [] symbols [] t.top) (Number t.by)))
        by true = top
        by false = record { number = refl; names = either_in (names_in (text_of [] symbols [] t.top)) [] top.names (λ y i. absurd i) }

    module _ (d : Induction) (own : In d.name S) where
      in_more : (y : List ℕ) → In y (with_name_placed symbols d.name) → In y S
      in_more y i = by (in_either symbols (place_among symbols d.name) d.name y i)
        where
          by : (y ≡ d.name) ⊎ In y symbols → In y S
          by (inl e) = subst (λ z. In z S) (sym e) own
          by (inr j) = among y j

      one_trip : (e : Expression) → In e (trip_text [] symbols [] t ∷ []) → IsTold e
      one_trip e (inl q) = subst IsTold (sym q) trip_told
      one_trip e (inr i) = absurd i

      pub end_told : IsTold (induction_end_text symbols t d)
      end_told = text_told (with_name_placed symbols d.name) (trip_text [] symbols [] t ∷ []) d.end in_more one_trip

      each_name : (P : List ℕ → Type 0) → ((y : List ℕ) → In y S → P y) → (xs : List (List ℕ)) → ((y : List ℕ) → In y xs → In y S) → AllByRecursion P xs
      each_name P f [] g = tt
      each_name P f (x ∷ xs) g = (f x (g x (inl refl)), each_name P f xs (λ y i. g y (inr i)))

      -- the last value of an induction reads symbols, and gives the induction a number
      pub ending_free : (R : List ℕ → Type 0) (W : List ℕ → Expression → Type 0) (line : ℕ) → ((y : List ℕ) → In y S → R y) → W d.name (induction_end_text symbols t d) → IsFree R W (induction_ending symbols line t d)
      ending_free R W line f w = by (is_positive t)
        where
          right : AllByRecursion R (names_in (induction_end_text symbols t d))
          right = each_name R f (names_in (induction_end_text symbols t d)) end_told.names

          test : AllByRecursion R (names_in (at_least_one (trip_text [] symbols [] t)))
          test = each_name R f (names_in (at_least_one (trip_text [] symbols [] t))) (either_in (names_in (trip_text [] symbols [] t)) [] trip_told.names (λ y i. absurd i))

          by : (b : Bool) → IsFree R W
              (cond b (assigned line d.name (induction_end_text symbols t d))
              (only_where line (at_least_one (trip_text [] symbols [] t)) (assigned line d.name (induction_end_text symbols t d) ∷ [])))
          by true = (w, tt, right)
          by false = ((test, ((w, tt, right), tt), tt), tt)

-- ---- blocks

pub free_block_then : (R : List ℕ → Type 0) (W : List ℕ → Expression → Type 0) (a b : Block) → AreFree R W a → AreFree R W b → AreFree R W (block_then a b)
free_block_then R W no_statements b h k = k
free_block_then R W (statement c cs) b h k = (h.0, free_block_then R W cs b h.1 k)
