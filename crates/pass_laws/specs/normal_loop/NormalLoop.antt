-- A DO loop, and the loop from 1 by 1 that stands for it (Allen and Kennedy, section 4.3; ISO/IEC 1539:1991, section
-- 8.1.4.4).
use Rattle.std.specs.Prelude.{◌≡◌, Ok, Some, ℕ, ◌+◌, ◌≤◌, ℤ, pos, ◌+ℤ◌, ◌-ℤ◌, ◌*ℤ◌, neg_ℤ, int_div, IsTrue, false}
use Rattle.std.specs.Prelude.{None, List, [], ◌∷◌, ◌++◌}
use Rattle.std.specs.Str.{bytes_eq}
use Rattle.tree.specs.Operators.{fits}
use Rattle.tree.specs.declared.ops.Value.TheVariants.{Int}
use Rattle.tree.specs.Plain.{Expression, Number, Statement, Do, Block}
use Rattle.meaning.specs.Names.{is_among}
use Rattle.meaning.specs.Run.{State, Going, does, does_all}
use Rattle.meaning.specs.Store.{Store, Cell}
use Rattle.meaning.specs.Value.{number_of, increment_of, trip_count}
use Rattle.rewrite.specs.Following.{sequential, IsSound, MomentsAlike}
use Rattle.rewrite.specs.MadeBlocks.{made_block}
use Rattle.rewrite.specs.Suits.{SuitsBlock}
use Rattle.rewrite.specs.Replacing.{Replacing, replacing, replacing_suits}
use Rattle.linear_forms.specs.Expressed.{expressed, variables}
use Rattle.linear_forms.specs.Laws.{AreSized}
use Rattle.linear_forms.specs.Linear.{Form, form_of, weighted, HaveValues, is_limited}

-- a loop; the counter of its normal form; the names, other than the counter, of the form that stands for the variable,
-- with their coefficients, and its constant; the increment; and the trip
pub record NormalForm : Type 0 where
  pub variable : List ℕ
  pub first : Expression
  pub last : Expression
  pub step : Expression
  pub body : Block
  pub counter : List ℕ
  pub others : List (List ℕ)
  pub coefficients : List ℤ
  pub constant : ℤ
  pub increment : ℤ
  pub trip : Expression

module _ (l : NormalForm) where
  -- the variable is the increment times the counter, and the other terms
  abbrev pub form : Form
  form = record { coefficients = l.increment ∷ l.coefficients; constant = l.constant }

  -- the form's text stands for the variable; the other names keep their values
  abbrev pub counted : Replacing
  counted = record {
    variable = l.variable;
    by = expressed (variables (l.counter ∷ l.others)) form;
    news = λ x. bytes_eq x l.counter;
    fixed = is_among l.others;
  }

  abbrev pub given_loop : ℕ → Statement
  given_loop line = Do line l.variable l.first l.last l.step l.body

  abbrev pub normal_loop : ℕ → Statement
  normal_loop line = Do line l.counter (Number (pos 1)) l.trip (Number (pos 1)) (made_block (replacing counted) l.body)

  -- a name other than the loop's variable and the counter
  abbrev pub IsOther : List ℕ → Type 0
  IsOther x = (bytes_eq x l.variable ≡ false) × (bytes_eq x l.counter ≡ false)

  -- the two stores have all other names in common
  pub record AgreeOnOthers (s u : Store) : Type 0 where
    pub bounds : (x : List ℕ) → IsOther x → s.bounds x ≡ u.bounds x
    pub held : (c : Cell) → IsOther c.name → s.held c ≡ u.held c

  module _ (bits : ℕ) where
    -- what the form and the trip are to be, in the stores before the two loops
    pub record IsNormalFormIn (s u : Store) (xs : List ℤ) : Type 0 where
      pub agree : AgreeOnOthers s u
      pub variable : s.bounds l.variable ≡ Some []
      pub counter : u.bounds l.counter ≡ Some []
      pub numbers : HaveValues l.others u xs
      pub sized : AreSized xs
      -- in the first turn the form is the first value
      pub first : (a : ℤ) → number_of (sequential bits) l.first s ≡ Ok a
          → weighted l.coefficients xs +ℤ (l.constant +ℤ l.increment) ≡ a
      pub step : (z : ℤ) → increment_of (sequential bits) l.step s ≡ Ok z → z ≡ l.increment
      -- the trip is the quotient, and can be counted down by one
      pub trip : (a b : ℤ) → number_of (sequential bits) l.first s ≡ Ok a → number_of (sequential bits) l.last s ≡ Ok b
          → let t = int_div ((b -ℤ a) +ℤ l.increment) l.increment in
          (number_of (sequential bits) l.trip u ≡ Ok t) × IsTrue (fits 127 (t -ℤ pos 1))

    -- no jump leaves the body, and it doesn't stop
    abbrev pub GoesOn : Type 0
    GoesOn = (s : State) → s.way ≡ Going → IsSound (does_all (sequential bits) None l.body s).way
        → (does_all (sequential bits) None l.body s).way ≡ Going

    -- After the loops: all but the two variables is alike, and the given loop's variable has gone on by the increment
    -- once for each turn
    pub record Ended (s : Store) (after beside : State) : Type 0 where
      pub agree : AgreeOnOthers after.store beside.store
      pub written : after.written ≡ beside.written
      pub input : after.input ≡ beside.input
      pub had_value : after.had_value ≡ beside.had_value
      pub going : (after.way ≡ Going) × (beside.way ≡ Going)
      pub first : ℤ
      pub last : ℤ
      pub turns : ℕ
      pub first_is : number_of (sequential bits) l.first s ≡ Ok first
      pub last_is : number_of (sequential bits) l.last s ≡ Ok last
      pub turns_are : trip_count first last l.increment ≡ Ok turns
      pub variable : after.store.held (record { name = l.variable; subscripts = [] })
          ≡ Int (l.increment *ℤ pos turns +ℤ first)
      pub counter : beside.store.held (record { name = l.counter; subscripts = [] }) ≡ Int (pos (1 + turns))

-- Where the given loop meets no fault, none does its normal form, and the two end alike
abbrev pub NormalLoopRuns : Type 0
NormalLoopRuns = (l : NormalForm) (bits loops line beside : ℕ) → 31 ≤ bits → bits ≤ 63
    → loops ≤ 7 → IsTrue (is_limited loops (form l)) → is_among l.others l.counter ≡ false
    → SuitsBlock (replacing (counted l)) (replacing_suits (counted l)) l.body → GoesOn l bits
    → (s t : State) (xs : List ℤ) → s.way ≡ Going → MomentsAlike (λ p u. IsNormalFormIn l bits p u xs) s t
    → IsSound (does (sequential bits) None (given_loop l line) s).way
    → Ended l bits s.store (does (sequential bits) None (given_loop l line) s)
    (does (sequential bits) None (normal_loop l beside) t)

-- where the first value has a linear form, the variable's is that form less the increment, and the increment times the
-- counter
abbrev pub FirstValueIsForm : Type 0
FirstValueIsForm = (bits : ℕ) (loops symbols : List (List ℕ)) (e : Expression) (f : Form) (s : Store) (xs : List ℤ)
    (a d : ℤ) → form_of loops symbols e ≡ Some f → HaveValues (loops ++ symbols) s xs → AreSized xs
    → number_of (sequential bits) e s ≡ Ok a → weighted f.coefficients xs +ℤ ((f.constant -ℤ d) +ℤ d) ≡ a

-- for a negative increment the trip is the quotient of what is turned round
abbrev pub TripIsTurned : Type 0
TripIsTurned = (a b d : ℤ) → int_div ((a -ℤ b) -ℤ d) (neg_ℤ d) ≡ int_div ((b -ℤ a) +ℤ d) d
