-- What holds at each place of the statements holds of each statement.
use Rattle.std.proofs.Common.{◌≡◌, ◌⊎◌, inl, inr, ℕ, ◌+◌, ◌<◌, ◌≤◌, nat_le, Bool, true, false, ◌&&◌, ◌||◌, IsTrue, List, [], ◌∷◌, ◌++◌, length, flat_map, refl, sym, ap, subst, ◌∙◌, arith, Contains, append_assoc, append-nil}
use mathlib.Core.Logic.{⊎_elim}
use Rattle.std.specs.Prelude.{◌==◌}
use Rattle.std.specs.List.{AllByRecursion, list_any}
use Rattle.std.proofs.lemmas.Bool.Decides.{Decides-eqb, leb_tells}
use Rattle.std.proofs.lemmas.List.Elements.{Contains-append_cases}
use Rattle.meaning.specs.Labels.{IsWithoutRepeats}
use Rattle.tree.specs.Limits as limits
use Rattle.f90_grammar.specs.Phrases.{value_of_digits}
use Rattle.f90_grammar.specs.Forms as forms
use Rattle.f90_grammar.specs.Forms.{Form90}
use Rattle.f90_grammar.specs.Blocks.{Placed}
use Rattle.f90_grammar.specs.Order.{Place90, IsPlaceIn, Opened, opened_by, opened_behind, blocks_round}
use Rattle.f90_grammar.specs.Surroundings.{label_digits_in, bears_label, is_wrong_label90}
use Rattle.f90_grammar.specs.Bounds.{opens_block90}
use Rattle.f90_laws.proofs.readings.Lists.{nowhere, cases_of}
use Rattle.f90_laws.proofs.readings.Counts.{OpensWithin, label_values, flat_labels}

abbrev pub at_place : List Placed → Placed → List Placed → Place90
at_place front p back = record { before = front; here = p; after = back }

-- what holds at each place behind the front holds of each statement there
each_behind : (P : Placed → Type 0) (front rest : List Placed) → ((p : Place90) → IsPlaceIn (front ++ rest) p → P p.here) → AllByRecursion P rest
each_behind P front [] h = tt
each_behind P front (x ∷ xs) h =
    (h (at_place front x xs) refl, each_behind P (front ++ x ∷ []) xs (λ p e. h p (sym (append_assoc front (x ∷ []) xs) ∙ e)))

pub each_place : (P : Placed → Type 0) (ps : List Placed) → ((p : Place90) → IsPlaceIn ps p → P p.here) → AllByRecursion P ps
each_place P ps h = each_behind P [] ps h

-- ---- blocks

behind_one : (os : List Opened) (front : List Placed) (x : Placed) → opened_behind os (front ++ x ∷ []) ≡ opened_by x.form (opened_behind os front)
behind_one os [] x = refl
behind_one os (y ∷ ys) x = behind_one (opened_by y.form os) ys x

abbrev IsRoomy : Place90 → Type 0
IsRoomy p = IsTrue (opens_block90 p.here.form && nat_le limits.block_depth90 (length (blocks_round p))) → ⊥

roomy : (b : Bool) (n m : ℕ) → (IsTrue (b && nat_le n m) → ⊥) → b ≡ true → m < n
roomy false n m h e = cc
roomy true n m h e = by (leb_tells n m)
  where
    by : ((nat_le n m ≡ true) × (n ≤ m)) ⊎ ((nat_le n m ≡ false) × (m < n)) → m < n
    by (inl t) = absurd (h t.0)
    by (inr t) = t.1

opens_behind : (front rest : List Placed) → ((p : Place90) → IsPlaceIn (front ++ rest) p → IsRoomy p) → OpensWithin limits.block_depth90 (opened_behind [] front) rest
opens_behind front [] h = tt
opens_behind front (x ∷ xs) h = (
  roomy (opens_block90 x.form) limits.block_depth90 (length (opened_behind [] front)) (h (at_place front x xs) refl),
  subst (λ o. OpensWithin limits.block_depth90 o xs) (behind_one [] front x) (opens_behind (front ++ x ∷ []) xs (λ p e. h p (sym (append_assoc front (x ∷ []) xs) ∙ e))),
)

pub opens_within : (ps : List Placed) → ((p : Place90) → IsPlaceIn ps p → IsRoomy p) → OpensWithin limits.block_depth90 [] ps
opens_within ps h = opens_behind [] ps h

-- ---- labels

pub record HasLabel (f : Form90) : Type 0 where
  pub first : ℕ
  pub digits : List ℕ
  pub label : label_digits_in f ≡ first ∷ digits
  pub values : label_values f ≡ value_of_digits (first ∷ digits) ∷ []

label_or_none : (f : Form90) → (label_values f ≡ []) ⊎ HasLabel f
label_or_none (forms.Continue []) = inl refl
label_or_none (forms.Continue (d ∷ ds)) = inr (record { first = d; digits = ds; label = refl; values = refl })
label_or_none (forms.Program x) = inl refl
label_or_none forms.ImplicitNone = inl refl
label_or_none (forms.Declare k a es) = inl refl
label_or_none (forms.Assign l r) = inl refl
label_or_none (forms.Where m l r) = inl refl
label_or_none (forms.Test p f) = inl refl
label_or_none (forms.If p) = inl refl
label_or_none (forms.ElseIf p) = inl refl
label_or_none forms.Else = inl refl
label_or_none forms.EndIf = inl refl
label_or_none (forms.Do x a b c) = inl refl
label_or_none forms.EndDo = inl refl
label_or_none (forms.Go l) = inl refl
label_or_none forms.Stop = inl refl
label_or_none (forms.Read is) = inl refl
label_or_none forms.ReadNothing = inl refl
label_or_none (forms.Print is) = inl refl
label_or_none forms.PrintNothing = inl refl
label_or_none (forms.Allocate x es) = inl refl
label_or_none (forms.Deallocate x) = inl refl
label_or_none forms.End = inl refl
label_or_none (forms.EndProgram x) = inl refl

abbrev bearing : ℕ → List Placed → Bool
bearing n ps = list_any (λ (p : Placed). bears_label n (label_digits_in p.form)) ps

bearing-append : (n : ℕ) (xs ys : List Placed) → (bearing n xs ≡ true) ⊎ (bearing n ys ≡ true) → bearing n (xs ++ ys) ≡ true
bearing-append n [] ys (inl h) = cc
bearing-append n [] ys (inr h) = h
bearing-append n (x ∷ xs) ys h = by (bears_label n (label_digits_in x.form)) h (λ k. bearing-append n xs ys k)
  where
    by : (b : Bool) → ((b || bearing n xs) ≡ true) ⊎ (bearing n ys ≡ true) → ((bearing n xs ≡ true) ⊎ (bearing n ys ≡ true) → bearing n (xs ++ ys) ≡ true) → (b || bearing n (xs ++ ys)) ≡ true
    by true h next = refl
    by false h next = next h

abbrev IsRightly : Place90 → Type 0
IsRightly p = IsTrue (is_wrong_label90 p.before (label_digits_in p.here.form)) → ⊥

or_right : (a b : Bool) → b ≡ true → (a || b) ≡ true
or_right true b h = refl
or_right false b h = h

-- a label that stands before stands nowhere behind
not_later : (n : ℕ) (before rest : List Placed) → bearing n before ≡ true → ((p : Place90) → IsPlaceIn (before ++ rest) p → IsRightly p) → Contains (flat_labels rest) n → ⊥
not_later n before [] b h c = nowhere n c
not_later n before (x ∷ xs) b h c =
    ⊎_elim (λ k. here_too (label_or_none x.form) k)
    (λ k. not_later n (before ++ x ∷ []) xs (bearing-append n before (x ∷ []) (inl b)) (λ p e. h p (sym (append_assoc before (x ∷ []) xs) ∙ e)) k)
    (Contains-append_cases (label_values x.form) (flat_labels xs) n c)
  where
    here_too : (label_values x.form ≡ []) ⊎ HasLabel x.form → Contains (label_values x.form) n → ⊥
    here_too (inl e) k = nowhere n (subst (λ ns. Contains ns n) e k)
    here_too (inr l) k =
        let v = value_of_digits (l.first ∷ l.digits) in
        let same : v ≡ n = ⊎_elim (λ e. e) (λ c. absurd (nowhere n c)) (cases_of v [] n (subst (λ ns. Contains ns n) l.values k)) in
        let wrong : is_wrong_label90 before (l.first ∷ l.digits) ≡ true = or_right (v == 0) (bearing v before) (ap (λ m. bearing m before) same ∙ b) in
        h (at_place before x xs) refl (ap (λ ds. is_wrong_label90 before ds) l.label ∙ wrong)

once_behind : (front rest : List Placed) → ((p : Place90) → IsPlaceIn (front ++ rest) p → IsRightly p) → IsWithoutRepeats (flat_labels rest)
once_behind front [] h = tt
once_behind front (x ∷ xs) h = by (label_or_none x.form) (once_behind (front ++ x ∷ []) xs (λ p e. h p (sym (append_assoc front (x ∷ []) xs) ∙ e)))
  where
    by : (label_values x.form ≡ []) ⊎ HasLabel x.form → IsWithoutRepeats (flat_labels xs) → IsWithoutRepeats (label_values x.form ++ flat_labels xs)
    by (inl e) more = subst (λ ns. IsWithoutRepeats (ns ++ flat_labels xs)) (sym e) more
    by (inr l) more =
        let v = value_of_digits (l.first ∷ l.digits) in
        let bears : bears_label v (label_digits_in x.form) ≡ true = ap (bears_label v) l.label ∙ (Decides-eqb v v).1 refl in
        let own : bearing v (x ∷ []) ≡ true = ap (λ b. b || false) bears in
        subst (λ ns. IsWithoutRepeats (ns ++ flat_labels xs)) (sym l.values)
        (λ c. not_later v (front ++ x ∷ []) xs (bearing-append v front (x ∷ []) (inr own)) (λ p e. h p (sym (append_assoc front (x ∷ []) xs) ∙ e)) c, more)

pub labels_once : (ps : List Placed) → ((p : Place90) → IsPlaceIn ps p → IsRightly p) → IsWithoutRepeats (flat_labels ps)
labels_once ps h = once_behind [] ps h
