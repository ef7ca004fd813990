-- To take a loop out of an order and to put it in further out is to exchange it with each loop before it.
use Rattle.std.proofs.Common.{◌≡◌, refl, sym, ap, ◌∙◌, ℕ, zero, suc, ◌+◌, ◌-◌, ◌<◌, ◌≤◌, List, [], ◌∷◌, ◌++◌, length, take, drop, arith, append_assoc}
use Rattle.std.specs.Prelude.{slice_index, slice_range}
use Rattle.std.specs.List.{insert, remove}
use Rattle.interchange.specs.Orders.{moved}
use Rattle.interchange_laws.specs.orders.Moves.{move, rearranged, swapped}
use Rattle.interchange_laws.proofs.orders.Moving.{move_is_rearranged}
use Rattle.interchange.specs.Laws.{MovesAreExchanges}
use Rattle.interchange.specs.Moves.{exchanges, moves_to}

-- a list at a place
record Cut (xs : List ℕ) (q : ℕ) : Type 0 where
  front : List ℕ
  item : ℕ
  back : List ℕ
  is : xs ≡ front ++ item ∷ back
  long : length front ≡ q

cut : (xs : List ℕ) (q : ℕ) → q < length xs → Cut xs q
cut [] q h = absurd (omega arith)
cut (x ∷ xs) zero h = record { front = []; item = x; back = xs; is = refl; long = refl }
cut (x ∷ xs) (suc q) h =
    let c = cut xs q (omega arith) in
    record { front = x ∷ c.front; item = c.item; back = c.back; is = ap (λ zs. x ∷ zs) c.is; long = ap suc c.long }

record Halves (xs : List ℕ) (p : ℕ) : Type 0 where
  first : List ℕ
  second : List ℕ
  is : xs ≡ first ++ second
  long : length first ≡ p

halves : (xs : List ℕ) (p : ℕ) → p ≤ length xs → Halves xs p
halves xs zero h = record { first = []; second = xs; is = refl; long = refl }
halves [] (suc p) h = absurd (omega arith)
halves (x ∷ xs) (suc p) h =
    let d = halves xs p (omega arith) in
    record { first = x ∷ d.first; second = d.second; is = ap (λ zs. x ∷ zs) d.is; long = ap suc d.long }

remove_behind : (xs : List ℕ) (l : ℕ) (rest : List ℕ) → remove (xs ++ l ∷ rest) (length xs) ≡ xs ++ rest
remove_behind [] l rest = refl
remove_behind (x ∷ xs) l rest = ap (λ zs. x ∷ zs) (remove_behind xs l rest)

index_behind : (xs : List ℕ) (l : ℕ) (rest : List ℕ) → slice_index (xs ++ l ∷ rest) (length xs) ≡ l
index_behind [] l rest = refl
index_behind (x ∷ xs) l rest = index_behind xs l rest

insert_behind : (xs : List ℕ) (l : ℕ) (rest : List ℕ) → insert (xs ++ rest) (length xs) l ≡ xs ++ l ∷ rest
insert_behind [] l rest = refl
insert_behind (x ∷ xs) l rest = ap (λ zs. x ∷ zs) (insert_behind xs l rest)

append_length : (xs ys : List ℕ) → length (xs ++ ys) ≡ length xs + length ys
append_length [] ys = omega arith
append_length (x ∷ xs) ys = let h = append_length xs ys in omega (arith, h)

-- with the places as lengths
moved_behind : (outer over rest : List ℕ) (l : ℕ) → moved (length outer) (length (outer ++ over)) ((outer ++ over) ++ l ∷ rest) ≡ outer ++ (l ∷ (over ++ rest))
moved_behind outer over rest l =
    ap (λ zs. insert zs (length outer) (slice_index ((outer ++ over) ++ l ∷ rest) (length (outer ++ over)))) (remove_behind (outer ++ over) l rest ∙ append_assoc outer over rest)
    ∙ (ap (insert (outer ++ (over ++ rest)) (length outer)) (index_behind (outer ++ over) l rest) ∙ insert_behind outer l (over ++ rest))

-- the loop at the place q, and those that it passes on its way to the place p
pub record Parted (order : List ℕ) (p q : ℕ) : Type 0 where
  pub outer : List ℕ
  pub over : List ℕ
  pub item : ℕ
  pub back : List ℕ
  pub is : order ≡ outer ++ (over ++ item ∷ back)
  pub before : length outer ≡ p
  pub between : length over ≡ q - p

pub parted : (order : List ℕ) (p q : ℕ) → p ≤ q → q < length order → Parted order p q
parted order p q h inside =
    let c = cut order q inside in
    let d = halves c.front p (let e : length c.front ≡ q = c.long in omega arith) in
    let to : length d.first ≡ p = d.long in
    let all : length (d.first ++ d.second) ≡ q = ap length (sym d.is) ∙ c.long in
    let sum : length (d.first ++ d.second) ≡ length d.first + length d.second = append_length d.first d.second in
    record {
      outer = d.first;
      over = d.second;
      item = c.item;
      back = c.back;
      is = c.is ∙ (ap (λ zs. zs ++ c.item ∷ c.back) d.is ∙ append_assoc d.first d.second (c.item ∷ c.back));
      before = to;
      between = omega arith;
    }

module _ (p q : ℕ) (order : List ℕ) (h : p ≤ q) (inside : q < length order) where
  abbrev d : Parted order p q
  d = parted order p q h inside

  whole : order ≡ (d.outer ++ d.over) ++ d.item ∷ d.back
  whole = d.is ∙ sym (append_assoc d.outer d.over (d.item ∷ d.back))

  front : length (d.outer ++ d.over) ≡ q
  front = let a = d.before in let b = d.between in let c = append_length d.outer d.over in omega arith

  pub moved_parts : moved p q order ≡ d.outer ++ (d.item ∷ (d.over ++ d.back))
  moved_parts =
      ap (moved p q) whole
      ∙ (ap (λ k. moved k q ((d.outer ++ d.over) ++ d.item ∷ d.back)) (sym d.before)
      ∙ (ap (λ k. moved (length d.outer) k ((d.outer ++ d.over) ++ d.item ∷ d.back)) (sym front)
      ∙ moved_behind d.outer d.over d.back d.item))

  pub mover : slice_index order q ≡ d.item
  mover = ap (λ zs. slice_index zs q) whole ∙ (ap (slice_index ((d.outer ++ d.over) ++ d.item ∷ d.back)) (sym front) ∙ index_behind (d.outer ++ d.over) d.item d.back)

  -- what it passes
  pub passed : slice_range order p q ≡ d.over
  passed =
      ap (λ zs. take (q - p) (drop p zs)) d.is
      ∙ (ap (λ k. take (q - p) (drop k (d.outer ++ (d.over ++ d.item ∷ d.back)))) (sym d.before)
      ∙ (ap (take (q - p)) (drop_behind d.outer (d.over ++ d.item ∷ d.back))
      ∙ (ap (λ k. take k (d.over ++ d.item ∷ d.back)) (sym d.between) ∙ take_front d.over (d.item ∷ d.back))))
    where
      drop_behind : (xs ys : List ℕ) → drop (length xs) (xs ++ ys) ≡ ys
      drop_behind [] ys = refl
      drop_behind (x ∷ xs) ys = drop_behind xs ys

      take_front : (xs ys : List ℕ) → take (length xs) (xs ++ ys) ≡ xs
      take_front [] ys = refl
      take_front (x ∷ xs) ys = ap (λ zs. x ∷ zs) (take_front xs ys)

  -- the first of them is the one whose place is taken
  pub first_passed : (x : ℕ) (ys : List ℕ) → d.over ≡ x ∷ ys → slice_index order p ≡ x
  first_passed x ys e =
      ap (λ zs. slice_index zs p) (d.is ∙ ap (λ zs. d.outer ++ (zs ++ d.item ∷ d.back)) e)
      ∙ (ap (slice_index (d.outer ++ (x ∷ (ys ++ d.item ∷ d.back)))) (sym d.before) ∙ index_behind d.outer x (ys ++ d.item ∷ d.back))

  pub moved_is_rearranged : moved p q order ≡ rearranged (move p (q - p)) order
  moved_is_rearranged =
      moved_parts
      ∙ (sym (move_is_rearranged d.outer d.over d.back d.item)
      ∙ (ap (λ k. rearranged (move k (length d.over)) (d.outer ++ (d.over ++ d.item ∷ d.back))) d.before
      ∙ (ap (λ k. rearranged (move p k) (d.outer ++ (d.over ++ d.item ∷ d.back))) d.between
      ∙ ap (rearranged (move p (q - p))) (sym d.is))))

one_after : {X : Type 0} (ps qs : List ℕ) (xs : List X) → rearranged (ps ++ qs) xs ≡ rearranged qs (rearranged ps xs)
one_after [] qs xs = refl
one_after (p ∷ ps) qs xs = one_after ps qs (swapped p xs)

-- moves one after another are their exchanges
pub moves_are_exchanges : MovesAreExchanges
moves_are_exchanges trips spans [] order last h = sym h
moves_are_exchanges trips spans (m ∷ ms) order last h =
    moves_are_exchanges trips spans ms (moves_to m order) last h.1
    ∙ (ap (rearranged (exchanges ms)) (moved_is_rearranged m.to m.from order (let a : m.to < m.from = h.0.outwards in omega arith) h.0.inside)
    ∙ sym (one_after (move m.to (m.from - m.to)) (exchanges ms) order))
