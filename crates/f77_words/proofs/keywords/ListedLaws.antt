-- The list of words that are left out: no word begins another, so a text begins with one at most.
use Rattle.std.proofs.Common.{◌≡◌, ℕ, Bool, true, false, List, [], ◌∷◌, ◌++◌, refl, ap, ◌∙◌, Contains, codes, subst}
use Rattle.std.specs.Prelude.{◌==◌, ◌&&◌, not, Option, Some, None, is_some, if◌then◌else◌}
use Rattle.std.specs.List.{AllByRecursion}
use Rattle.std.proofs.lemmas.List.Elements.{All-from_recursion, All-contains}
use Rattle.f77_grammar.specs.expressions.Squeezing.{Symbol77}
use Rattle.f77_grammar.specs.expressions.Spelling.{chars77}
use Rattle.f77_grammar.specs.statements.Recognition.{words_left_out}
use Rattle.meaning.proofs.Columns.{Contains-here, Contains-later}
use Rattle.f77_expressions.specs.Lexing.{strip}
use Rattle.f77_words.specs.keywords.Listed.{begins_with, listed, declarations, procedures, files_and_loops}
use Rattle.f77_words.proofs.keywords.PlainFronts.{both_true}
use Rattle.f77_words.proofs.keywords.Stripping.{strip_same, strip_front}

-- ---- the list in three parts

front_by : (b : Bool) (n : ℕ) (o p : Option ℕ) (m : ℕ) → (o ≡ Some m → p ≡ Some m) → (if b then Some n else o) ≡ Some m → (if b then Some n else p) ≡ Some m
front_by true n o p m f h = h
front_by false n o p m f h = f h

pub listed_front : (ws vs : List (List ℕ × ℕ)) (text : List Symbol77) (m : ℕ) → listed ws text ≡ Some m → listed (ws ++ vs) text ≡ Some m
listed_front [] vs text m h = cc
listed_front (w ∷ ws) vs text m h =
    front_by (begins_with w.0 text) w.1 (listed ws text) (listed (ws ++ vs) text) m (λ k. listed_front ws vs text m k) h

back_by : (b : Bool) (n : ℕ) (o p q : Option ℕ) → (o ≡ None → p ≡ q) → (if b then Some n else o) ≡ None → (if b then Some n else p) ≡ q
back_by true n o p q f h = let z : ⊥ = cc in absurd z
back_by false n o p q f h = f h

pub listed_back : (ws vs : List (List ℕ × ℕ)) (text : List Symbol77) → listed ws text ≡ None → listed (ws ++ vs) text ≡ listed vs text
listed_back [] vs text h = refl
listed_back (w ∷ ws) vs text h =
    back_by (begins_with w.0 text) w.1 (listed ws text) (listed (ws ++ vs) text) (listed vs text) (λ k. listed_back ws vs text k) h

pub in_parts : words_left_out ≡ declarations ++ (procedures ++ files_and_loops)
in_parts = refl

-- ---- what is found

pub record IsListed (ws : List (List ℕ × ℕ)) (text : List Symbol77) (number : ℕ) : Type 0 where
  pub word : List ℕ
  pub rest : List Symbol77
  pub contained : Contains ws (word, number)
  pub same : text ≡ chars77 word ++ rest

here_by : (o : Option (List Symbol77)) (w : List ℕ × ℕ) (ws : List (List ℕ × ℕ)) (text : List Symbol77) (p : Option ℕ) (m : ℕ) → strip w.0 text ≡ o → (p ≡ Some m → IsListed ws text m)
    → (if is_some o then Some w.1 else p) ≡ Some m → IsListed (w ∷ ws) text m
here_by (Some rest) w ws text p m s f h =
    let k : w.1 ≡ m = cc in
    let e : Contains (w ∷ ws) (w.0, w.1) = Contains-here w ws in
    record { word = w.0; rest = rest; contained = subst (λ (q : ℕ). Contains (w ∷ ws) (w.0, q)) k e; same = strip_same w.0 text rest s }
here_by None w ws text p m s f h =
    let k = f h in record { word = k.word; rest = k.rest; contained = Contains-later w ws (k.word, m) k.contained; same = k.same }

pub listed_found : (ws : List (List ℕ × ℕ)) (text : List Symbol77) (m : ℕ) → listed ws text ≡ Some m → IsListed ws text m
listed_found [] text m h = let z : ⊥ = cc in absurd z
listed_found (w ∷ ws) text m h = here_by (strip w.0 text) w ws text (listed ws text) m refl (λ k. listed_found ws text m k) h

-- ---- and nothing else

-- one of the words begins the other
comparable : List ℕ → List ℕ → Bool
comparable [] u = true
comparable (a ∷ v) [] = true
comparable (a ∷ v) (b ∷ u) = (a == b) && comparable v u

unlike_by : (t : Bool) (a b : ℕ) (v u : List ℕ) (o : Option (List Symbol77)) → (comparable v u ≡ false → o ≡ None) → (t && comparable v u) ≡ false → (if t then o else None) ≡ None
unlike_by true a b v u o f h = f h
unlike_by false a b v u o f h = refl

unlike : (v u : List ℕ) (rest : List Symbol77) → comparable v u ≡ false → strip v (chars77 u ++ rest) ≡ None
unfolding comparable
unlike [] u rest h = let z : ⊥ = cc in absurd z
unlike (a ∷ v) [] rest h = let z : ⊥ = cc in absurd z
unlike (a ∷ v) (b ∷ u) rest h = unlike_by (a == b) a b v u (strip v (chars77 u ++ rest)) (λ k. unlike v u rest k) h

none_like : List ℕ → List (List ℕ × ℕ) → Bool
none_like v [] = true
none_like v (u ∷ us) = not (comparable v u.0) && none_like v us

apart : List (List ℕ × ℕ) → Bool
apart [] = true
apart (v ∷ vs) = none_like v.0 vs && apart vs

not_true : (b : Bool) → not b ≡ true → b ≡ false
not_true true h = let z : ⊥ = cc in absurd z
not_true false h = refl

abbrev IsFirst : List (List ℕ × ℕ) → (List ℕ × ℕ) → Type 0
IsFirst ws u = ((rest : List Symbol77) → listed ws (chars77 u.0 ++ rest) ≡ Some u.1)

later : (v : List ℕ × ℕ) (ws us : List (List ℕ × ℕ)) → none_like v.0 us ≡ true → AllByRecursion (IsFirst ws) us → AllByRecursion (IsFirst (v ∷ ws)) us
unfolding none_like
later v ws [] h k = tt
later v ws (u ∷ us) h k =
    let b = both_true (not (comparable v.0 u.0)) (none_like v.0 us) h in
    (λ rest. rw (unlike v.0 u.0 rest (not_true (comparable v.0 u.0) b.0)) (k.0 rest), later v ws us b.1 k.1)

each_first : (ws : List (List ℕ × ℕ)) → apart ws ≡ true → AllByRecursion (IsFirst ws) ws
unfolding apart
each_first [] h = tt
each_first (v ∷ ws) h =
    let b = both_true (none_like v.0 ws) (apart ws) h in
    (λ rest. rw (strip_front v.0 rest) refl, later v ws ws b.0 (each_first ws b.1))

words_apart : apart words_left_out ≡ true
unfolding apart none_like comparable
words_apart = refl

pub listed_only : (text : List Symbol77) (m : ℕ) → IsListed words_left_out text m → listed words_left_out text ≡ Some m
listed_only text m h =
    let all = All-from_recursion (IsFirst words_left_out) words_left_out (each_first words_left_out words_apart) in
    ap (listed words_left_out) h.same ∙ All-contains (IsFirst words_left_out) words_left_out (h.word, m) all h.contained h.rest

-- ---- the forms that are left out begin with no word of the list

none_begins : List ℕ → List (List ℕ × ℕ) → Bool
none_begins u [] = true
none_begins u (v ∷ vs) = not (comparable v.0 u) && none_begins u vs

none_listed : (u : List ℕ) (ws : List (List ℕ × ℕ)) (rest : List Symbol77) → none_begins u ws ≡ true → listed ws (chars77 u ++ rest) ≡ None
unfolding none_begins
none_listed u [] rest h = refl
none_listed u (v ∷ vs) rest h =
    let b = both_true (not (comparable v.0 u)) (none_begins u vs) h in
    rw (unlike v.0 u rest (not_true (comparable v.0 u) b.0)) (none_listed u vs rest b.1)

pub no_if_listed : (text rest : List Symbol77) → text ≡ chars77 (codes "IF(") ++ rest → listed words_left_out text ≡ None
unfolding none_begins comparable
no_if_listed text rest e = ap (listed words_left_out) e ∙ none_listed (codes "IF(") words_left_out rest refl

pub no_go_to_listed : (text rest : List Symbol77) → text ≡ chars77 (codes "GOTO") ++ rest → listed words_left_out text ≡ None
unfolding none_begins comparable
no_go_to_listed text rest e = ap (listed words_left_out) e ∙ none_listed (codes "GOTO") words_left_out rest refl
