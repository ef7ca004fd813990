-- The lines of several things, written one after the other.
use Rattle.std.proofs.Common.{◌≡◌, sym, ap, ◌∙◌, subst, ℕ, ◌+◌, ◌<◌, ◌≤◌, List, [], ◌∷◌, ◌++◌, take, drop, get_or, length, Option, append-nil, append_assoc, arith}
use Rattle.std.specs.List.{flat_map, range_with_len}
use Rattle.std.specs.Map.{keys_of, values_of}
use Rattle.std.proofs.lemmas.Grind.{flat_map-append}
use Rattle.std.proofs.lemmas.List.Concat.{flat_map-cons}
use Rattle.std.proofs.lemmas.List.Folds.{flat_map-map}
use Rattle.std.proofs.lemmas.List.FromFn.{length-range_with_len, get_or-range_with_len}
use Rattle.std.proofs.lemmas.List.{take_all, take_more, take-append-drop, drop_more}
use Rattle.streams.specs.Streams.{Gives, GivesPart}
use Rattle.tree.specs.Plain.{Declaration}
use Rattle.tree.specs.View.{declaration_of}
use Rattle.machine.specs.declared.variables.Variable.{Variable}
use Rattle.machine.specs.Storage.{declared, own_names}
use Rattle.streams.proofs.Chained.{gives_none, gives_more, part_after, part_before}
use Rattle.machine.proofs.Telling.{nothing_in_front, nothing_behind}

module _ {X : Type 0} (f : X → List ℕ) (vs : List X) (i : ℕ) (v : X) (before mid now : Option (List ℕ)) where
  pub lines_more : i < length vs → v ≡ get_or vs i v → Gives before (flat_map f (take i vs)) mid → Gives mid (f v) now → Gives before (flat_map f (take (i + 1) vs)) now
  lines_more l e h k =
      subst (λ t. Gives before t now)
      (sym (ap (flat_map f) (take_more vs i v l ∙ ap (λ w. take i vs ++ w ∷ []) (sym e)) ∙ flat_map-append f (take i vs) (v ∷ []) ∙ ap (λ t. flat_map f (take i vs) ++ t) (append-nil (f v))))
      (gives_more before mid now (flat_map f (take i vs)) (f v) h k)

  pub lines_part : i < length vs → v ≡ get_or vs i v → Gives before (flat_map f (take i vs)) mid → GivesPart mid (f v) now → GivesPart before (flat_map f vs) now
  lines_part l e h k =
      let rest = drop (i + 1) vs in
      let split : vs ≡ take i vs ++ (v ∷ rest) = sym (take-append-drop i vs) ∙ ap (λ ws. take i vs ++ ws) (drop_more vs i v l ∙ ap (λ w. w ∷ rest) (sym e)) in
      subst (λ t. GivesPart before t now)
      (sym (ap (flat_map f) split ∙ flat_map-append f (take i vs) (v ∷ rest)))
      (part_after before mid now (flat_map f (take i vs)) (f v ++ flat_map f rest) h (part_before mid now (f v) (flat_map f rest) k))

-- a front of the text was written, and what comes after it are the lines of the things that are left
pub record HasLeft {X : Type 0} (f : X → List ℕ) (text : List ℕ) (left : List X) (before now : Option (List ℕ)) : Type 0 where
  pub front : List ℕ
  pub whole : text ≡ front ++ flat_map f left
  pub given : Gives before front now

module _ {X : Type 0} (f : X → List ℕ) (text : List ℕ) (before : Option (List ℕ)) where
  pub left_all : (xs : List X) → text ≡ flat_map f xs → HasLeft f text xs before before
  left_all xs e = record { front = []; whole = e; given = gives_none before }

  pub left_none : (now : Option (List ℕ)) → HasLeft f text [] before now → Gives before text now
  left_none now h = subst (λ t. Gives before t now) (sym (h.whole ∙ append-nil h.front)) h.given

  pub left_less : (x : X) (xs : List X) (mid now : Option (List ℕ)) → HasLeft f text (x ∷ xs) before mid → Gives mid (f x) now → HasLeft f text xs before now
  left_less x xs mid now h k = record {
    front = h.front ++ f x;
    whole = h.whole ∙ ap (λ t. h.front ++ t) (flat_map-cons f x xs) ∙ sym (append_assoc h.front (f x) (flat_map f xs));
    given = gives_more before mid now h.front (f x) h.given k;
  }

  pub left_part : (x : X) (xs : List X) (mid now : Option (List ℕ)) → HasLeft f text (x ∷ xs) before mid → GivesPart mid (f x) now → GivesPart before text now
  left_part x xs mid now h k =
      subst (λ t. GivesPart before t now)
      (sym (h.whole ∙ ap (λ t. h.front ++ t) (flat_map-cons f x xs)))
      (part_after before mid now h.front (f x ++ flat_map f xs) h.given (part_before mid now (f x) (flat_map f xs) k))

  -- without a text the next one has none
  pub left_nothing : (x : X) (xs : List X) (now : Option (List ℕ)) → HasLeft f text (x ∷ xs) before now → text ≡ [] → f x ≡ []
  left_nothing x xs now h e =
      nothing_in_front (f x) (flat_map f xs)
      (nothing_behind h.front (f x ++ flat_map f xs) (sym (h.whole ∙ ap (λ t. h.front ++ t) (flat_map-cons f x xs)) ∙ e))

-- the place is the number there
pub number_there : (n k : ℕ) → k < n → k ≡ get_or (range_with_len 0 n) k k
number_there n k l = sym (get_or-range_with_len 0 n k k l ∙ (let e : 0 + k ≡ k = omega arith in e))

module _ (f : ℕ → List ℕ) (n k : ℕ) (before mid now : Option (List ℕ)) (l : k < n) (h : Gives before (flat_map f (take k (range_with_len 0 n))) mid) where
  pub range_more : Gives mid (f k) now → Gives before (flat_map f (take (k + 1) (range_with_len 0 n))) now
  range_more = lines_more f (range_with_len 0 n) k k before mid now (omega (arith, length-range_with_len 0 n)) (number_there n k l) h

  pub range_part : GivesPart mid (f k) now → GivesPart before (flat_map f (range_with_len 0 n)) now
  range_part = lines_part f (range_with_len 0 n) k k before mid now (omega (arith, length-range_with_len 0 n)) (number_there n k l) h

pub lines_all : {X : Type 0} (f : X → List ℕ) (vs : List X) (i : ℕ) (before now : Option (List ℕ)) → length vs ≤ i → Gives before (flat_map f (take i vs)) now → Gives before (flat_map f vs) now
lines_all f vs i before now l h = subst (λ ws. Gives before (flat_map f ws) now) (take_all i vs l) h

-- the lines of the names in a table, which are those that are declared
pub table_lines : (f : List ℕ → List ℕ) (table : List (List ℕ × Variable)) → keys_of table ≡ own_names (values_of table) → flat_map f (keys_of table) ≡ flat_map (λ (d : Declaration). f d.name) (declared (values_of table))
table_lines f table e =
    ap (flat_map f) e ∙ flat_map-map f (λ (v : Variable). v.decl.name) (values_of table) ∙ sym (flat_map-map (λ (d : Declaration). f d.name) (λ (v : Variable). declaration_of v.decl) (values_of table))
