-- The last stages of an array assignment, and what it stores at each position.
use Rattle.std.proofs.Common.{◌≡◌, refl, sym, ap, ◌∙◌, subst, ℕ, Bool, true, false, cond, List, [], ◌∷◌, map, Result, Ok, Err, Option, Some, None}
use Rattle.std.specs.List.{zip}
use mathlib.Core.Path.{ap₂}
use Rattle.tree.specs.Operators.{as_truth}
use Rattle.tree.specs.Steps.{◌>>=◌}
use Rattle.tree.specs.declared.ops.Fault.{Fault}
use Rattle.tree.specs.declared.ops.Value.{Value}
use Rattle.tree.specs.declared.ops.Value.TheVariants.{Int, Truth}
use Rattle.meaning.specs.ArrayStatements.{second, where_true, storable}
use Rattle.meaning.specs.ArrayValues.{Elements, each}
use Rattle.meaning.specs.Dialect.{Dialect}
use Rattle.meaning.specs.Store.{Cell}
use Rattle.meaning_laws.specs.arrays.Instances.{writes_in}

-- ---- answers without fault

pub bound : {A B : Type 0} (r : Result A Fault) (k : A → Result B Fault) (y : B) → (do x ← r; k x) ≡ Ok y → (x : A) × (r ≡ Ok x) × (k x ≡ Ok y)
bound (Ok x) k y e = (x, refl, e)
bound (Err f) k y e = absurd cc

pub same_answer : {A : Type 0} (x y : A) → ◌≡◌ {A = Result A Fault} (Ok x) (Ok y) → x ≡ y
same_answer x y e = cc

-- of each in a list that begins with x
pub record Split {A B : Type 0} (f : A → Result B Fault) (x : A) (xs : List A) (zs : List B) : Type 0 where
  pub one : B
  pub others : List B
  pub first : f x ≡ Ok one
  pub later : each f xs ≡ Ok others
  pub are : one ∷ others ≡ zs

pub split : {A B : Type 0} (f : A → Result B Fault) (x : A) (xs : List A) (zs : List B) → each f (x ∷ xs) ≡ Ok zs → Split f x xs zs
split {A} {B} f x xs zs e = by (f x) refl (each f xs) refl e
  where
    by : (r : Result B Fault) → f x ≡ r → (q : Result (List B) Fault) → each f xs ≡ q → (do y ← r; ys ← q; Ok (y ∷ ys)) ≡ Ok zs → Split f x xs zs
    by (Ok y) p (Ok ys) q e = record { one = y; others = ys; first = p; later = q; are = same_answer (y ∷ ys) zs e }
    by (Ok y) p (Err k) q e = absurd cc
    by (Err k) p r q e = absurd cc

pub joined : {A B : Type 0} (f : A → Result B Fault) (x : A) (xs : List A) (y : B) (ys : List B) → f x ≡ Ok y → each f xs ≡ Ok ys → each f (x ∷ xs) ≡ Ok (y ∷ ys)
joined f x xs y ys e h = ap₂ (λ r q. do y ← r; ys ← q; Ok (y ∷ ys)) e h

-- ---- where mask, cells and right side are known

module _ (d : Dialect) (m g : Elements Value) (cell : List ℕ → Cell) where
  abbrev pub chosen_by : Bool → List ℕ → Result (Option (Cell × Value)) Fault
  chosen_by false is = Ok None
  chosen_by true is = do
    x ← g.at is
    v ← storable d x
    Ok (Some (cell is, v))

  -- what is stored at one position
  abbrev pub stored_at : List ℕ → Result (Option (Cell × Value)) Fault
  stored_at is = do
    x ← m.at is
    b ← as_truth x
    chosen_by b is

  abbrev pub placed : List (List ℕ) → List (List ℕ × Cell)
  placed iss = map (λ is. (is, cell is)) iss

  abbrev right_at : List ℕ × Cell → Result Value Fault
  right_at p = g.at p.0

  -- what the last three stages give
  pub record Staged (iss : List (List ℕ)) (ws : List (Cell × Value)) : Type 0 where
    pub chosen : List (List ℕ × Cell)
    pub values : List Value
    pub stored : List Value
    pub mask : where_true m (placed iss) ≡ Ok chosen
    pub right : each right_at chosen ≡ Ok values
    pub range : each (storable d) values ≡ Ok stored
    pub are : zip (map second chosen) stored ≡ ws

  -- what all positions store
  pub record Stored (iss : List (List ℕ)) (ws : List (Cell × Value)) : Type 0 where
    pub effects : List (Option (Cell × Value))
    pub at : each stored_at iss ≡ Ok effects
    pub are : writes_in effects ≡ ws

  -- the first position, chosen or not
  record Front (is : List ℕ) (iss : List (List ℕ)) (chosen : List (List ℕ × Cell)) : Type 0 where
    truth : Bool
    others : List (List ℕ × Cell)
    first : m.at is ≡ Ok (Truth truth)
    later : where_true m (placed iss) ≡ Ok others
    are : cond truth ((is, cell is) ∷ others) others ≡ chosen

  front : (is : List ℕ) (iss : List (List ℕ)) (chosen : List (List ℕ × Cell)) → where_true m (placed (is ∷ iss)) ≡ Ok chosen → Front is iss chosen
  front is iss chosen e = by (m.at is) refl (where_true m (placed iss)) refl e
    where
      by : (r : Result Value Fault) → m.at is ≡ r → (q : Result (List (List ℕ × Cell)) Fault) → where_true m (placed iss) ≡ q
          → (do x ← r; b ← as_truth x; more ← q; Ok (cond b ((is, cell is) ∷ more) more)) ≡ Ok chosen → Front is iss chosen
      by (Ok (Truth b)) p (Ok more) q e = record { truth = b; others = more; first = p; later = q; are = same_answer (cond b ((is, cell is) ∷ more) more) chosen e }
      by (Ok (Truth b)) p (Err k) q e = absurd cc
      by (Ok (Int z)) p r q e = absurd cc
      by (Err k) p r q e = absurd cc

  -- ---- from the stages to the positions

  outside : (is : List ℕ) (iss : List (List ℕ)) (ws : List (Cell × Value)) → m.at is ≡ Ok (Truth false) → Stored iss ws → Stored (is ∷ iss) ws
  outside is iss ws e h = record {
    effects = None ∷ h.effects;
    at = joined stored_at is iss None h.effects (ap (λ (r : Result Value Fault). do x ← r; b ← as_truth x; chosen_by b is) e) h.at;
    are = h.are;
  }

  inside : (is : List ℕ) (iss : List (List ℕ)) (x v : Value) (ws : List (Cell × Value)) → m.at is ≡ Ok (Truth true) → g.at is ≡ Ok x → storable d x ≡ Ok v → Stored iss ws → Stored (is ∷ iss) ((cell is, v) ∷ ws)
  inside is iss x v ws e f k h = record {
    effects = Some (cell is, v) ∷ h.effects;
    at = joined stored_at is iss (Some (cell is, v)) h.effects
        (ap (λ (r : Result Value Fault). do x ← r; b ← as_truth x; chosen_by b is) e
        ∙ (ap (λ (r : Result Value Fault). do x ← r; v ← storable d x; Ok (Some (cell is, v))) f ∙ ap (λ (r : Result Value Fault). do v ← r; Ok (Some (cell is, v))) k)) h.at;
    are = ap (λ us. (cell is, v) ∷ us) h.are;
  }

  staged_front : (is : List ℕ) (iss : List (List ℕ)) (ws : List (Cell × Value)) (chosen : List (List ℕ × Cell)) (values stored : List Value) → Front is iss chosen
      → each right_at chosen ≡ Ok values → each (storable d) values ≡ Ok stored → zip (map second chosen) stored ≡ ws
      → ((us : List (Cell × Value)) → Staged iss us → Stored iss us) → Stored (is ∷ iss) ws
  staged_front is iss ws chosen values stored f right range are more = by f.truth f.first f.are
    where
      by : (b : Bool) → m.at is ≡ Ok (Truth b) → cond b ((is, cell is) ∷ f.others) f.others ≡ chosen → Stored (is ∷ iss) ws
      by false e c = outside is iss ws e (more ws (record {
        chosen = f.others;
        values = values;
        stored = stored;
        mask = f.later;
        right = subst (λ cs. each right_at cs ≡ Ok values) (sym c) right;
        range = range;
        are = ap (λ cs. zip (map second cs) stored) c ∙ are;
      }))
      by true e c =
          let r = split right_at (is, cell is) f.others values (subst (λ cs. each right_at cs ≡ Ok values) (sym c) right) in
          let s = split (storable d) r.one r.others stored (subst (λ vs. each (storable d) vs ≡ Ok stored) (sym r.are) range) in
          let us : List (Cell × Value) = zip (map second f.others) s.others in
          subst (Stored (is ∷ iss)) (ap₂ (λ cs vs. zip (map second cs) vs) c s.are ∙ are)
          (inside is iss r.one s.one us e r.first s.first (more us (record {
            chosen = f.others;
            values = r.others;
            stored = s.others;
            mask = f.later;
            right = r.later;
            range = s.later;
            are = refl;
          })))

  pub staged_stored : (iss : List (List ℕ)) (ws : List (Cell × Value)) → Staged iss ws → Stored iss ws
  staged_stored [] ws h = record { effects = []; at = refl; are = by h.chosen (same_answer [] h.chosen h.mask) ∙ h.are }
    where
      by : (cs : List (List ℕ × Cell)) → [] ≡ cs → [] ≡ zip (map second cs) h.stored
      by [] e = refl
      by (c ∷ cs) e = absurd cc
  staged_stored (is ∷ iss) ws h = staged_front is iss ws h.chosen h.values h.stored (front is iss h.chosen h.mask) h.right h.range h.are (staged_stored iss)

  -- ---- and back

  -- one position, where what it stores is known
  record There (is : List ℕ) (w : Option (Cell × Value)) (truth : Bool) : Type 0 where
    mask : m.at is ≡ Ok (Truth truth)
    effect : chosen_by truth is ≡ Ok w

  there_by : (is : List ℕ) (w : Option (Cell × Value)) → stored_at is ≡ Ok w → (b : Bool) × There is w b
  there_by is w e = by (m.at is) refl e
    where
      by : (r : Result Value Fault) → m.at is ≡ r → (do x ← r; b ← as_truth x; chosen_by b is) ≡ Ok w → (b : Bool) × There is w b
      by (Ok (Truth b)) p e = (b, record { mask = p; effect = e })
      by (Ok (Int z)) p e = absurd cc
      by (Err k) p e = absurd cc

  not_chosen : (is : List ℕ) (iss : List (List ℕ)) (ws : List (Cell × Value)) → m.at is ≡ Ok (Truth false) → Staged iss ws → Staged (is ∷ iss) ws
  not_chosen is iss ws e h = record {
    chosen = h.chosen;
    values = h.values;
    stored = h.stored;
    mask = ap₂ (λ (r : Result Value Fault) (q : Result (List (List ℕ × Cell)) Fault). do x ← r; b ← as_truth x; more ← q; Ok (cond b ((is, cell is) ∷ more) more)) e h.mask;
    right = h.right;
    range = h.range;
    are = h.are;
  }

  is_chosen : (is : List ℕ) (iss : List (List ℕ)) (x v : Value) (ws : List (Cell × Value)) → m.at is ≡ Ok (Truth true) → g.at is ≡ Ok x → storable d x ≡ Ok v → Staged iss ws → Staged (is ∷ iss) ((cell is, v) ∷ ws)
  is_chosen is iss x v ws e f k h = record {
    chosen = (is, cell is) ∷ h.chosen;
    values = x ∷ h.values;
    stored = v ∷ h.stored;
    mask = ap₂ (λ (r : Result Value Fault) (q : Result (List (List ℕ × Cell)) Fault). do x ← r; b ← as_truth x; more ← q; Ok (cond b ((is, cell is) ∷ more) more)) e h.mask;
    right = joined right_at (is, cell is) h.chosen x h.values f h.right;
    range = joined (storable d) x h.values v h.stored k h.range;
    are = ap (λ us. (cell is, v) ∷ us) h.are;
  }

  stored_front : (is : List ℕ) (iss : List (List ℕ)) (w : Option (Cell × Value)) (os : List (Option (Cell × Value))) (b : Bool) → There is w b → Staged iss (writes_in os) → Staged (is ∷ iss) (writes_in (w ∷ os))
  stored_front is iss w os false t h = subst (λ u. Staged (is ∷ iss) (writes_in (u ∷ os))) (same_answer None w t.effect) (not_chosen is iss (writes_in os) t.mask h)
  stored_front is iss w os true t h =
      let x = bound (g.at is) (λ x. do v ← storable d x; Ok (Some (cell is, v))) w t.effect in
      let v = bound (storable d x.0) (λ v. Ok (Some (cell is, v))) w x.2 in
      subst (λ u. Staged (is ∷ iss) (writes_in (u ∷ os))) (same_answer (Some (cell is, v.0)) w v.2) (is_chosen is iss x.0 v.0 (writes_in os) t.mask x.1 v.1 h)

  pub stored_staged : (iss : List (List ℕ)) (os : List (Option (Cell × Value))) → each stored_at iss ≡ Ok os → Staged iss (writes_in os)
  stored_staged [] os e = record { chosen = []; values = []; stored = []; mask = refl; right = refl; range = refl; are = ap writes_in (same_answer [] os e) }
  stored_staged (is ∷ iss) os e =
      let s = split stored_at is iss os e in
      let t = there_by is s.one s.first in
      subst (λ us. Staged (is ∷ iss) (writes_in us)) s.are (stored_front is iss s.one s.others t.0 t.1 (stored_staged iss s.others s.later))
