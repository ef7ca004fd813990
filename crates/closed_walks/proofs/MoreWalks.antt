-- Walks of more numbers.
use Rattle.std.proofs.Common.{◌≡◌, refl, sym, ap, ◌∙◌, subst, ◌⊎◌, inl, inr, ℕ, ◌+◌, ◌<◌, Some, None, Result, Ok, Err, List, [], ◌∷◌, ◌++◌, length, get_or, take, append_assoc, append-nil}
use Rattle.std.specs.Prelude.{OnOk}
use Rattle.std.specs.List.{concat}
use Rattle.std.proofs.lemmas.List.{take_more}
use Rattle.components.specs.Lists.{IsMember}
use Rattle.closed_walks.specs.Cycles.{Adds, AreCycles, AreLeastWalksOf, StandIn}
use Rattle.closed_walks.specs.Walks.{IsAnswer, IsClosedWalk}

-- where a call gives an answer
pub on_ok : {A E : Type 0} (r : Result A E) (P Q : Type 0) → (P → Q) → OnOk r P → OnOk r Q
on_ok (Ok a) P Q f h = f h
on_ok (Err e) P Q f h = h

stand_longer : (xs ys us vs : List ℕ) → StandIn xs ys → StandIn us vs → StandIn (xs ++ us) (ys ++ vs)
stand_longer xs [] us vs h g = subst (λ zs. StandIn (zs ++ us) vs) (sym h) g
stand_longer xs (y ∷ ys) us vs (inl h) g = inl (stand_longer xs ys us vs h g)
stand_longer xs (y ∷ ys) us vs (inr h) g = inr (h.0 ++ us, ap (λ zs. zs ++ us) h.1, stand_longer h.0 ys us vs h.2 g)

In_front : (a : ℕ) (xs ys : List ℕ) → IsMember a xs → IsMember a (xs ++ ys)
In_front a [] ys i = absurd i
In_front a (x ∷ xs) ys (inl e) = inl e
In_front a (x ∷ xs) ys (inr i) = inr (In_front a xs ys i)

In_back : (a : ℕ) (xs ys : List ℕ) → IsMember a ys → IsMember a (xs ++ ys)
In_back a [] ys i = i
In_back a (x ∷ xs) ys i = inr (In_back a xs ys i)

In_split : (a : ℕ) (xs ys : List ℕ) → IsMember a (xs ++ ys) → IsMember a xs ⊎ IsMember a ys
In_split a [] ys i = inr i
In_split a (x ∷ xs) ys (inl e) = inl (inl e)
In_split a (x ∷ xs) ys (inr i) = by (In_split a xs ys i)
  where
    by : IsMember a xs ⊎ IsMember a ys → ((a ≡ x) ⊎ IsMember a xs) ⊎ IsMember a ys
    by (inl j) = inl (inr j)
    by (inr j) = inr j

module _ (pairs : List (ℕ × ℕ)) where
  more_walks : (xs : List ℕ) (ws : List (List ℕ)) (ys : List ℕ) (vs : List (List ℕ)) → AreLeastWalksOf pairs xs ws → AreLeastWalksOf pairs ys vs → AreLeastWalksOf pairs (xs ++ ys) (ws ++ vs)
  more_walks [] [] ys vs h g = g
  more_walks [] (w ∷ ws) ys vs h g = absurd h
  more_walks (x ∷ xs) [] ys vs h g = absurd h
  more_walks (x ∷ xs) (w ∷ ws) ys vs h g = (h.0, more_walks xs ws ys vs h.1 g)

  both_cycles : (xs : List ℕ) (ws : List (List ℕ)) (ys : List ℕ) (vs : List (List ℕ)) → AreCycles pairs xs ws → AreCycles pairs ys vs → AreCycles pairs (xs ++ ys) (ws ++ vs)
  both_cycles xs ws ys vs h g = record {
    starts = h.starts ++ g.starts;
    among = stand_longer h.starts xs g.starts ys h.among g.among;
    all = λ s over i closed. by s over closed (In_split s xs ys i);
    each = more_walks h.starts ws g.starts vs h.each g.each;
  }
    where
      by : (s : ℕ) (over : List ℕ) → IsClosedWalk pairs s over → IsMember s xs ⊎ IsMember s ys → IsMember s (h.starts ++ g.starts)
      by s over closed (inl i) = In_front s h.starts g.starts (h.all s over i closed)
      by s over closed (inr i) = In_back s h.starts g.starts (g.all s over i closed)

  pub no_cycles : AreCycles pairs [] []
  no_cycles = record { starts = []; among = refl; all = λ s over i closed. absurd i; each = tt }

  pub adds_none : (walks : List (List ℕ)) → Adds pairs [] walks walks
  adds_none walks = record { more = []; are = sym (append-nil walks); cycles = no_cycles }

  pub adds_more : (xs ys : List ℕ) (a b c : List (List ℕ)) → Adds pairs xs a b → Adds pairs ys b c → Adds pairs (xs ++ ys) a c
  adds_more xs ys a b c h g = record {
    more = h.more ++ g.more;
    are = g.are ∙ (ap (λ zs. zs ++ g.more) h.are ∙ append_assoc a h.more g.more);
    cycles = both_cycles xs h.more ys g.more h.cycles g.cycles;
  }

  -- behind walks that are those of other numbers already
  pub cycles_more : (xs ys : List ℕ) (b c : List (List ℕ)) → AreCycles pairs xs b → Adds pairs ys b c → AreCycles pairs (xs ++ ys) c
  cycles_more xs ys b c h g = subst (AreCycles pairs (xs ++ ys)) (sym g.are) (both_cycles xs b ys g.more h g.cycles)

  -- ---- one number

  pub adds_walk : (s : ℕ) (over : List ℕ) (walk : List ℕ) (old new : List (List ℕ)) → IsAnswer pairs s (Some over) → walk ≡ s ∷ over → new ≡ old ++ walk ∷ [] → Adds pairs (s ∷ []) old new
  adds_walk s over walk old new h w e = record {
    more = (s ∷ over) ∷ [];
    are = e ∙ ap (λ z. old ++ z ∷ []) w;
    cycles = record {
      starts = s ∷ [];
      among = inr ([], refl, refl);
      all = λ r others i closed. i;
      each = ((refl, h), tt);
    };
  }

  pub adds_no_walk : (s : ℕ) (walks : List (List ℕ)) → IsAnswer pairs s None → Adds pairs (s ∷ []) walks walks
  adds_no_walk s walks h = record {
    more = [];
    are = sym (append-nil walks);
    cycles = record {
      starts = [];
      among = inl refl;
      all = λ r over i closed. by r over closed i;
      each = tt;
    };
  }
    where
      by : (r : ℕ) (over : List ℕ) → IsClosedWalk pairs r over → IsMember r (s ∷ []) → ⊥
      by r over closed (inl e) = h over (subst (λ z. IsClosedWalk pairs z over) e closed)
      by r over closed (inr none) = none

  -- ---- one more item of a list

  concat_more : (cs : List (List ℕ)) (c : List ℕ) → concat (cs ++ c ∷ []) ≡ concat cs ++ c
  concat_more [] c = append-nil c
  concat_more (d ∷ cs) c = ap (λ zs. d ++ zs) (concat_more cs c) ∙ sym (append_assoc d (concat cs) c)

  pub class_more : (list classes : List (List ℕ)) (i : ℕ) (class : List ℕ) (b c : List (List ℕ)) → list ≡ classes → i < length list → class ≡ get_or list i class
      → AreCycles pairs (concat (take i classes)) b → Adds pairs class b c → AreCycles pairs (concat (take (i + 1) classes)) c
  class_more list classes i class b c same inside is h g =
      subst (λ zs. AreCycles pairs (concat (take (i + 1) zs)) c) same
      (subst (λ zs. AreCycles pairs zs c) (sym (ap concat (take_more list i class inside ∙ ap (λ z. take i list ++ z ∷ []) (sym is)) ∙ concat_more (take i list) class))
      (cycles_more (concat (take i list)) class b c (subst (λ zs. AreCycles pairs (concat (take i zs)) b) (sym same) h) g))

  pub number_more : (list class : List ℕ) (i : ℕ) (a b c : List (List ℕ)) → list ≡ class → i < length list → Adds pairs (take i class) a b → Adds pairs (get_or list i 0 ∷ []) b c
      → Adds pairs (take (i + 1) class) a c
  number_more list class i a b c same inside h g =
      subst (λ zs. Adds pairs (take (i + 1) zs) a c) same
      (subst (λ zs. Adds pairs zs a c) (sym (take_more list i 0 inside)) (adds_more (take i list) (get_or list i 0 ∷ []) a b c (subst (λ zs. Adds pairs (take i zs) a b) (sym same) h) g))
