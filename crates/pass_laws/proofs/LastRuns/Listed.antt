-- The loops of straight parts one after the other, and what they leave a variable with.
use mathlib.Core.Path.{ap₂}
use Rattle.std.proofs.Common.{◌≡◌, refl, sym, ap, ◌∙◌, subst, ℕ, suc, ◌+◌, ◌≤◌, ◌<◌, ℤ, Bool, true, false, cond, ◌&&◌}
use Rattle.std.proofs.Common.{List, [], ◌∷◌, ◌++◌, drop, length, Option, Some, None, arith}
use Rattle.std.specs.List.{list_all}
use Rattle.std.specs.Str.{bytes_eq}
use Rattle.std.proofs.lemmas.List.Folds.{list_all-append}
use Rattle.last_values.specs.Behind.{are_within, ends_behind, may_end_behind}
use Rattle.last_values.specs.declared.behind.NestedLoop.{NestedLoop}
use Rattle.linear_forms.proofs.Sizes.{both}
use Rattle.normal_loops.specs.Loops.{nested, nested_in_parts, nested_loops, with_loop}
use Rattle.nest_order.specs.orders.Lists.{Each}
use Rattle.nest.specs.Plain.{Part, Parts}
use Rattle.last_values.specs.normal_forms.LastValues.{has_plain_trip, have_plain_trips, last_forms}
use Rattle.last_values.specs.declared.normal_forms.loops.NormalLoop.{NormalLoop}
use Rattle.pass_laws.proofs.LastRuns.Pieces.{Piece, Pieces, assignment, turning, none, next, IsMade, IsRun, Ran, RanAll, after}
use Rattle.pass_laws.proofs.LastRuns.Pieces.{after_all, count, end, has_turn, if_so, in_last, none_yet, or_before}
use Rattle.pass_laws.proofs.LastRuns.Pieces.{ArePlainFor, IsPlainFor, plain}

-- ---- the last turns of loops round

module _ (n : ℕ) (values : ℕ → ℤ) where
  abbrev pub last_at : ℕ → (ℕ → ℤ) → List NormalLoop → ℕ → ℤ
  last_at d at [] = at
  last_at d at (r ∷ rs) = last_at (suc d) (in_last n values d at r) rs

  -- each has one
  abbrev pub all_turn : ℕ → (ℕ → ℤ) → List NormalLoop → Bool
  all_turn d at [] = true
  all_turn d at (r ∷ rs) = has_turn (count n values at r) && all_turn (suc d) (in_last n values d at r) rs

  abbrev pub are_few : ℕ → (ℕ → ℤ) → List NormalLoop → Type 0
  are_few d at [] = Unit {0}
  are_few d at (r ∷ rs) = (count n values at r ≤ 2147483646) × are_few (suc d) (in_last n values d at r) rs

  last_more : (rs : List NormalLoop) (r : NormalLoop) (d : ℕ) (at : ℕ → ℤ) → last_at d at (rs ++ r ∷ []) ≡ in_last n values (d + length rs) (last_at d at rs) r
  last_more [] r d at = ap (λ k. in_last n values k at r) (let e : d ≡ d + 0 = omega arith in e)
  last_more (q ∷ qs) r d at = last_more qs r (suc d) (in_last n values d at q) ∙ ap (λ k. in_last n values k (last_at (suc d) (in_last n values d at q) qs) r) (let e : suc d + length qs ≡ d + suc (length qs) = omega arith in e)

  and_one : (b : Bool) → (b && true) ≡ b
  and_one true = refl
  and_one false = refl

  and_grouped : (a b c : Bool) → (a && (b && c)) ≡ ((a && b) && c)
  and_grouped true b c = refl
  and_grouped false b c = refl

  turn_more : (rs : List NormalLoop) (r : NormalLoop) (d : ℕ) (at : ℕ → ℤ) → all_turn d at (rs ++ r ∷ []) ≡ (all_turn d at rs && has_turn (count n values (last_at d at rs) r))
  turn_more [] r d at = and_one (has_turn (count n values at r))
  turn_more (q ∷ qs) r d at = ap (λ b. has_turn (count n values at q) && b) (turn_more qs r (suc d) (in_last n values d at q))
      ∙ and_grouped (has_turn (count n values at q)) (all_turn (suc d) (in_last n values d at q) qs) (has_turn (count n values (last_at (suc d) (in_last n values d at q) qs) r))

  few_more : (rs : List NormalLoop) (r : NormalLoop) (d : ℕ) (at : ℕ → ℤ) → are_few d at rs → count n values (last_at d at rs) r ≤ 2147483646 → are_few d at (rs ++ r ∷ [])
  few_more [] r d at h k = (k, tt)
  few_more (q ∷ qs) r d at h k = (h.0, few_more qs r (suc d) (in_last n values d at q) h.1 k)

  made_more : (rs : List NormalLoop) (r : NormalLoop) → Each (IsMade n) rs → IsMade n r → Each (IsMade n) (rs ++ r ∷ [])
  made_more [] r h k = (k, tt)
  made_more (q ∷ qs) r h k = (h.0, made_more qs r h.1 k)

  -- in the last turns of the loops round it
  abbrev pub last_round : List NormalLoop → ℕ → ℤ
  last_round round = last_at 0 none_yet round

  abbrev pub round_turns : List NormalLoop → Bool
  round_turns round = all_turn 0 none_yet round

  last_round_more : (round : List NormalLoop) (r : NormalLoop) → last_round (round ++ r ∷ []) ≡ in_last n values (length round) (last_round round) r
  last_round_more round r = last_more round r 0 none_yet ∙ ap (λ k. in_last n values k (last_round round) r) (let e : 0 + length round ≡ length round = omega arith in e)

  -- ---- what a list of loops leaves x with

  module _ (x : List ℕ) where
    abbrev pub ending_of : NestedLoop → Option ℤ
    ending_of m = if_so (round_turns m.round) (cond (bytes_eq m.turns.variable x) (Some (end n values (last_round m.round) m.turns)) None)

    abbrev pub last_of : List NestedLoop → Option ℤ
    last_of [] = None
    last_of (m ∷ ms) = or_before (last_of ms) (ending_of m)

    or_none : (o : Option ℤ) → or_before o None ≡ o
    or_none (Some z) = refl
    or_none None = refl

    or_grouped : (o p q : Option ℤ) → or_before (or_before o p) q ≡ or_before o (or_before p q)
    or_grouped (Some z) p q = refl
    or_grouped None p q = refl

    last_joined : (ms ks : List NestedLoop) → last_of (ms ++ ks) ≡ or_before (last_of ks) (last_of ms)
    last_joined [] ks = sym (or_none (last_of ks))
    last_joined (m ∷ ms) ks = ap (λ o. or_before o (ending_of m)) (last_joined ms ks) ∙ or_grouped (last_of ks) (last_of ms) (ending_of m)

if_none : (b : Bool) → None ≡ if_so b None
if_none true = refl
if_none false = refl

if_each : (b : Bool) (o p : Option ℤ) → or_before (if_so b o) (if_so b p) ≡ if_so b (or_before o p)
if_each true o p = refl
if_each false o p = refl

if_both : (a b : Bool) (o p : Option ℤ) → or_before (if_so (a && b) o) (if_so a p) ≡ if_so a (or_before (if_so b o) p)
if_both true b o p = refl
if_both false b o p = refl

pub each_joined : {X : Type 0} (P : X → Type 0) (xs ys : List X) → Each P xs → Each P ys → Each P (xs ++ ys)
each_joined P [] ys h k = k
each_joined P (x ∷ xs) ys h k = (h.0, each_joined P xs ys h.1 k)

module _ (symbols : List (List ℕ)) (keeps : List ℕ → Bool) (values : ℕ → ℤ) where
  abbrev n : ℕ
  n = length symbols

  -- ---- the same by the parts

  module _ (x : List ℕ) where
    mutual
      pub listed : {round : List NormalLoop} {p : Part} → (e : Piece symbols keeps round p) → last_of n values x (nested_loops symbols round p) ≡ if_so (round_turns n values round) (after symbols keeps values x e (last_round n values round))
      listed (assignment {round} u f free) = if_none (round_turns n values round)
      listed (turning {round} {l} {ps} r h more) =
          let m : NestedLoop = record { round = round; turns = r } in
          let inner : List NestedLoop = nested_in_parts symbols (round ++ r ∷ []) ps in
          ap (λ o. last_of n values x (nested round o ++ nested_in_parts symbols (with_loop round o) ps)) h.is
          ∙ (ap (λ o. or_before o (ending_of n values x (record { round = round; turns = r })))
          (listed_all more
          ∙ ap₂ (λ b at. if_so b (after_all symbols keeps values x more at)) (turn_more n values round r 0 none_yet) (last_round_more n values round r))
          ∙ if_both (round_turns n values round) (has_turn (count n values (last_round n values round) r)) (after_all symbols keeps values x more (in_last n values (length round) (last_round n values round) r))
          (cond (bytes_eq r.variable x) (Some (end n values (last_round n values round) r)) None))

      pub listed_all : {round : List NormalLoop} {ps : Parts} → (e : Pieces symbols keeps round ps) → last_of n values x (nested_in_parts symbols round ps) ≡ if_so (round_turns n values round) (after_all symbols keeps values x e (last_round n values round))
      listed_all (none {round}) = if_none (round_turns n values round)
      listed_all (next {round} {p} {ps} e more) =
          last_joined n values x (nested_loops symbols round p) (nested_in_parts symbols round ps)
          ∙ (ap₂ (λ o p. or_before o p) (listed_all more) (listed e)
          ∙ if_each (round_turns n values round) (after_all symbols keeps values x more (last_round n values round)) (after symbols keeps values x e (last_round n values round)))

    -- ---- loops of x with plain trips round them

    may_be : (m : NestedLoop) → may_end_behind n x m ≡ true → bytes_eq m.turns.variable x ≡ true → plain symbols keeps values x m.round ≡ true
    unfolding have_plain_trips
    may_be m h e = (both (list_all has_plain_trip (drop 1 m.round)) (are_within (last_forms n m.round m.turns)) (sym (ap (λ b. cond b (ends_behind n m) true) e) ∙ h)).0

    mutual
      pub plain_listed : {round : List NormalLoop} {p : Part} → (e : Piece symbols keeps round p) → list_all (may_end_behind n x) (nested_loops symbols round p) ≡ true → IsPlainFor symbols keeps values x e
      plain_listed (assignment u f free) h = tt
      plain_listed (turning {round} {l} {ps} r q more) h =
          let whole : list_all (may_end_behind n x) (record { round = round; turns = r } ∷ nested_in_parts symbols (round ++ r ∷ []) ps) ≡ true
          = sym (ap (λ o. list_all (may_end_behind n x) (nested round o ++ nested_in_parts symbols (with_loop round o) ps)) q.is) ∙ h in
          let p = both (may_end_behind n x (record { round = round; turns = r })) (list_all (may_end_behind n x) (nested_in_parts symbols (round ++ r ∷ []) ps)) whole in
          (may_be (record { round = round; turns = r }) p.0, plain_all_listed more p.1)

      pub plain_all_listed : {round : List NormalLoop} {ps : Parts} → (e : Pieces symbols keeps round ps) → list_all (may_end_behind n x) (nested_in_parts symbols round ps) ≡ true → ArePlainFor symbols keeps values x e
      plain_all_listed none h = tt
      plain_all_listed (next {round} {p} {ps} e more) h =
          let q = both (list_all (may_end_behind n x) (nested_loops symbols round p)) (list_all (may_end_behind n x) (nested_in_parts symbols round ps))
          (sym (list_all-append (may_end_behind n x) (nested_loops symbols round p) (nested_in_parts symbols round ps)) ∙ h) in
          (plain_listed e q.0, plain_all_listed more q.1)

  -- ---- what a run has shown of each loop

  module _ (bits : ℕ) (bounds : List ℕ → Option (List (ℤ × ℤ))) where
    pub record HasRun (m : NestedLoop) : Type 0 where
      pub made : IsMade (length symbols) m.turns
      pub made_round : Each (IsMade (length symbols)) m.round
      pub deep : length m.round < 7
      pub ran : all_turn (length symbols) values 0 none_yet m.round ≡ true
          → IsRun symbols keeps values bits bounds (last_at (length symbols) values 0 none_yet m.round) m.turns × are_few (length symbols) values 0 none_yet m.round

    inside : (round : List NormalLoop) (r : NormalLoop) (R : (ℕ → ℤ) → Type 0)
        → (round_turns n values round ≡ true → (IsRun symbols keeps values bits bounds (last_round n values round) r × (has_turn (count n values (last_round n values round) r) ≡ true → R (in_last n values (length round) (last_round n values round) r))) × are_few n values 0 none_yet round)
        → round_turns n values (round ++ r ∷ []) ≡ true → R (last_round n values (round ++ r ∷ [])) × are_few n values 0 none_yet (round ++ r ∷ [])
    inside round r R h t =
        let p = both (round_turns n values round) (has_turn (count n values (last_round n values round) r)) (sym (turn_more n values round r 0 none_yet) ∙ t) in
        let q = h p.0 in
        (subst R (sym (last_round_more n values round r)) (q.0.1 p.1), few_more n values round r 0 none_yet q.1 q.0.0.few)

    mutual
      pub run_listed : {round : List NormalLoop} {p : Part} → (e : Piece symbols keeps round p) → Each (IsMade (length symbols)) round
          → (round_turns n values round ≡ true → Ran symbols keeps values bits bounds e (last_round n values round) × are_few n values 0 none_yet round) → Each HasRun (nested_loops symbols round p)
      run_listed (assignment u f free) made h = tt
      run_listed (turning {round} {l} {ps} r q more) made h =
          subst (λ o. Each HasRun (nested round o ++ nested_in_parts symbols (with_loop round o) ps)) (sym q.is) (
            record { made = q.made; made_round = made; deep = q.deep; ran = λ t. (let p = h t in (p.0.0, p.1)) },
            run_all_listed more (made_more n values round r made q.made) (inside round r (λ at. RanAll symbols keeps values bits bounds more at) h),
          )

      pub run_all_listed : {round : List NormalLoop} {ps : Parts} → (e : Pieces symbols keeps round ps) → Each (IsMade (length symbols)) round
          → (round_turns n values round ≡ true → RanAll symbols keeps values bits bounds e (last_round n values round) × are_few n values 0 none_yet round) → Each HasRun (nested_in_parts symbols round ps)
      run_all_listed none made h = tt
      run_all_listed (next {round} {p} {ps} e more) made h =
          each_joined HasRun (nested_loops symbols round p) (nested_in_parts symbols round ps)
          (run_listed e made (λ t. (let q = h t in (q.0.0, q.1)))) (run_all_listed more made (λ t. (let q = h t in (q.0.1, q.1))))
