-- A run doesn't look at the numbers of lines: the tree without them has the same run, but for the line of a fault.
use Rattle.std.proofs.Common.{◌≡◌, refl, sym, ap, ◌∙◌, ℕ, zero, suc, ◌+◌, ℤ, Bool, true, false, List, [], ◌∷◌, Result, Ok, Err, Option, Some, None}
use Rattle.tree.specs.declared.ops.Fault.{Fault}
use Rattle.tree.specs.declared.ops.Fault.TheVariants.{InputEnd}
use Rattle.tree.specs.declared.ops.Value.{Value}
use Rattle.tree.specs.declared.ops.Value.TheVariants.{Int}
use Rattle.tree.specs.Plain.{Expression, Expressions, Logic, Named, Reference, Item, Single, Constant, ImpliedDo, Items, no_items, item, Statement, Assignment, Where, If, Do, Label, GoTo, Stop, Read, Print, Allocate, Deallocate, Arms, no_arms, arm, Block, no_statements, statement, Declaration, Program}
use Rattle.meaning.specs.Store.{Store, Cell}
use Rattle.meaning.specs.Texts.{from_value, first_word, after_word, output_text}
use Rattle.meaning.specs.Value.{is_in_range, is_array, named}
use Rattle.meaning.specs.Run.{State, Way, Going, Jumping, Stopped, Failed, Cut, Act, nothing, then, either, repeated, for_each, goes, on_way, while_going, answered, evaluates, writes, stores, is_empty, begins_line, takes_word, skips_line, is_allowed, first_blank, arrives, opening_state, counts_step, checks_range, assigns, array_assigns, stores_element, allocates, deallocates, sets_variable, increases, turn, loops, reads_into, reads_item, reads_items, prints_item, prints_items, does, chooses, does_all, run}
use Rattle.meaning.specs.Sequential.{EndsWell, end_of}
use Rattle.meaning.specs.declared.End.TheVariants.{Done}
use Rattle.meaning.specs.Relined.{without_lines, arms_without_lines, block_without_lines, SameButLines, way_without_line, AlikeButLine}
use Rattle.meaning.specs.Dialect.{Dialect}

abbrev unlined : State → State
unlined s = record s { way = way_without_line s.way }

-- g does from the moment without line what f does from the moment
record Commutes (f g : Act) : Type 0 where
  at : (s : State) → g (unlined s) ≡ unlined (f s)

Commutes-then : (f f' g g' : Act) → Commutes f f' → Commutes g g' → Commutes (then f g) (then f' g')
Commutes-then f f' g g' h k = record { at = λ s. ap g' (h.at s) ∙ k.at (f s) }

Commutes-while_going : (f g : Act) → Commutes f g → Commutes (while_going f) (while_going g)
unfolding while_going
Commutes-while_going f g h = record { at = λ s. by s.way s }
  where
    by : (w : Way) (s : State) → on_way (way_without_line w) g (unlined s) ≡ unlined (on_way w f s)
    by Going s = h.at s
    by (Jumping l) s = refl
    by Stopped s = refl
    by (Failed e l) s = refl
    by Cut s = refl

Commutes-either : (b : Bool) {f f' g g' : Act} → Commutes f f' → Commutes g g' → Commutes (either b f g) (either b f' g')
Commutes-either true h k = h
Commutes-either false h k = k

Commutes-answered : {A : Type 0} (line : ℕ) (r : Result A Fault) (k k' : A → Act) → ((x : A) → Commutes (k x) (k' x)) → Commutes (answered line r k) (answered 0 r k')
Commutes-answered line (Ok x) k k' h = h x
Commutes-answered line (Err e) k k' h = record { at = λ s. refl }

Commutes-evaluates : {A : Type 0} (line : ℕ) (f : Store → Result A Fault) (k k' : A → Act) → ((x : A) → Commutes (k x) (k' x)) → Commutes (evaluates line f k) (evaluates 0 f k')
unfolding evaluates
Commutes-evaluates line f k k' h = Commutes-while_going _ _ (record { at = λ s. (Commutes-answered line (f s.store) k k' h).at s })

Commutes-repeated : (n : ℕ) (f g : Act) → Commutes f g → Commutes (repeated n f) (repeated n g)
Commutes-repeated zero f g h = record { at = λ s. refl }
Commutes-repeated (suc n) f g h = Commutes-then f g (repeated n f) (repeated n g) h (Commutes-repeated n f g h)

Commutes-for_each : {A : Type 0} (xs : List A) (f g : A → Act) → ((x : A) → Commutes (f x) (g x)) → Commutes (for_each xs f) (for_each xs g)
Commutes-for_each [] f g h = record { at = λ s. refl }
Commutes-for_each (x ∷ xs) f g h = Commutes-then (f x) (g x) (for_each xs f) (for_each xs g) (h x) (Commutes-for_each xs f g h)

Commutes-writes : (t : List ℕ) → Commutes (writes t) (writes t)
unfolding writes
Commutes-writes t = Commutes-while_going _ _ (record { at = λ s. refl })

Commutes-stores : (c : Cell) (v : Value) → Commutes (stores c v) (stores c v)
unfolding stores
Commutes-stores c v = Commutes-while_going _ _ (record { at = λ s. refl })

Commutes-allocates : (x : List ℕ) (bs : List (ℤ × ℤ)) → Commutes (allocates x bs) (allocates x bs)
unfolding allocates
Commutes-allocates x bs = Commutes-while_going _ _ (record { at = λ s. refl })

Commutes-deallocates : (x : List ℕ) → Commutes (deallocates x) (deallocates x)
unfolding deallocates
Commutes-deallocates x = Commutes-while_going _ _ (record { at = λ s. refl })

Commutes-begins_line : (line : ℕ) → Commutes (begins_line line) (begins_line 0)
unfolding begins_line
Commutes-begins_line line = Commutes-while_going _ _ (record { at = λ s. by (is_empty s.input) s })
  where
    by : (b : Bool) (s : State) → either b (goes (Failed InputEnd 0)) (λ t. record t { had_value = false }) (unlined s) ≡ unlined (either b (goes (Failed InputEnd line)) (λ t. record t { had_value = false }) s)
    by true s = refl
    by false s = refl

Commutes-takes_word : (line : ℕ) (k k' : List ℕ → Act) → ((w : List ℕ) → Commutes (k w) (k' w)) → Commutes (takes_word line k) (takes_word 0 k')
unfolding takes_word
Commutes-takes_word line k k' h = Commutes-while_going _ _ (record { at = λ s. (Commutes-answered line (from_value s.had_value s.input) (gone k) (gone k') goes_on).at s })
  where
    gone : (List ℕ → Act) → List ℕ → Act
    gone k rest t = k (first_word rest) (record t { input = after_word rest; had_value = true })

    goes_on : (rest : List ℕ) → Commutes (gone k rest) (gone k' rest)
    goes_on rest = record { at = λ t. (h (first_word rest)).at (record t { input = after_word rest; had_value = true }) }

Commutes-skips_line : Commutes skips_line skips_line
unfolding skips_line
Commutes-skips_line = Commutes-while_going _ _ (record { at = λ s. refl })

module _ (lang : Dialect) (limit : Option ℕ) where
  Commutes-counts_step : (k k' : Act) → Commutes k k' → Commutes (counts_step lang limit k) (counts_step lang limit k')
  unfolding counts_step
  Commutes-counts_step k k' h = Commutes-while_going _ _ (record { at = λ s. by (is_allowed limit s.steps) s })
    where
      by : (b : Bool) (s : State) → either b (λ t. k' (record t { steps = t.steps + 1 })) (goes Cut) (unlined s) ≡ unlined (either b (λ t. k (record t { steps = t.steps + 1 })) (goes Cut) s)
      by true s = h.at (record s { steps = s.steps + 1 })
      by false s = refl

  Commutes-checks_range : (line : ℕ) (v : Value) (k k' : Act) → Commutes k k' → Commutes (checks_range lang limit line v k) (checks_range lang limit 0 v k')
  unfolding checks_range
  Commutes-checks_range line v k k' h = Commutes-while_going _ _ (Commutes-either (is_in_range lang.bits v) h (record { at = λ s. refl }))

  Commutes-sets_variable : (line : ℕ) (x : List ℕ) (z : ℤ) → Commutes (sets_variable lang limit line x z) (sets_variable lang limit 0 x z)
  Commutes-sets_variable line x z = Commutes-evaluates line _ _ _ (λ c. Commutes-checks_range line (Int z) _ _ (Commutes-stores c (Int z)))

  Commutes-increases : (line : ℕ) (x : List ℕ) (d : ℤ) → Commutes (increases lang limit line x d) (increases lang limit 0 x d)
  Commutes-increases line x d = Commutes-evaluates line _ _ _ (λ c. Commutes-evaluates line _ _ _ (λ z. Commutes-sets_variable line x z))

  Commutes-turn : (line : ℕ) (x : List ℕ) (d : ℤ) (f g : Act) → Commutes f g → Commutes (turn lang limit line x d f) (turn lang limit 0 x d g)
  Commutes-turn line x d f g h = Commutes-counts_step _ _ (Commutes-then f g _ _ h (Commutes-increases line x d))

  Commutes-loops : (line : ℕ) (x : List ℕ) (a b c : Expression) (f g : Act) → Commutes f g → Commutes (loops lang limit line x a b c f) (loops lang limit 0 x a b c g)
  Commutes-loops line x a b c f g h = Commutes-evaluates line _ _ _ (λ m1. Commutes-evaluates line _ _ _ (λ m2. Commutes-evaluates line _ _ _ (λ m3.
      Commutes-then _ _ _ _ (Commutes-sets_variable line x m1) (Commutes-evaluates line _ _ _ (λ n. Commutes-repeated n _ _ (Commutes-turn line x m3 f g h))))))

  Commutes-stored : (c : Cell) (v : Value) → Commutes (counts_step lang limit (stores c v)) (counts_step lang limit (stores c v))
  Commutes-stored c v = Commutes-counts_step _ _ (Commutes-stores c v)

  Commutes-reads_into : (line : ℕ) (c : Cell) → Commutes (reads_into lang limit line c) (reads_into lang limit 0 c)
  Commutes-reads_into line c = Commutes-takes_word line _ _ (λ w. Commutes-evaluates line _ _ _ (λ v. Commutes-checks_range line v _ _ (Commutes-stored c v)))

  mutual
    Commutes-reads_item : (i : Item) (line : ℕ) → Commutes (reads_item lang limit i line) (reads_item lang limit i 0)
    Commutes-reads_item (Single (Named x ps)) line = Commutes-evaluates line _ _ _ (λ cs. Commutes-for_each cs _ _ (Commutes-reads_into line))
    Commutes-reads_item (ImpliedDo is x a b c) line = Commutes-loops line x a b c _ _ (Commutes-reads_items is line)
    Commutes-reads_item _ line = record { at = λ s. refl }

    Commutes-reads_items : (is : Items) (line : ℕ) → Commutes (reads_items lang limit is line) (reads_items lang limit is 0)
    Commutes-reads_items no_items line = record { at = λ s. refl }
    Commutes-reads_items (item i is) line = Commutes-then _ _ _ _ (Commutes-reads_item i line) (Commutes-reads_items is line)

  mutual
    Commutes-prints_item : (i : Item) (line : ℕ) → Commutes (prints_item lang limit i line) (prints_item lang limit i 0)
    Commutes-prints_item (Single e) line = Commutes-evaluates line _ _ _ (λ vs. Commutes-writes (output_text vs))
    Commutes-prints_item (Constant t) line = Commutes-writes t
    Commutes-prints_item (ImpliedDo is x a b c) line = Commutes-loops line x a b c _ _ (Commutes-prints_items is line)

    Commutes-prints_items : (is : Items) (line : ℕ) → Commutes (prints_items lang limit is line) (prints_items lang limit is 0)
    Commutes-prints_items no_items line = record { at = λ s. refl }
    Commutes-prints_items (item i is) line = Commutes-then _ _ _ _ (Commutes-prints_item i line) (Commutes-prints_items is line)

  Commutes-assigns : (line : ℕ) (r : Reference) (e : Expression) → Commutes (assigns lang limit line r e) (assigns lang limit 0 r e)
  Commutes-assigns line r e = Commutes-evaluates line _ _ _ (λ v. Commutes-evaluates line _ _ _ (λ c. Commutes-checks_range line v _ _ (Commutes-stored c v)))

  Commutes-array_assigns : (line : ℕ) (m : Expression) (r : Reference) (e : Expression) → Commutes (array_assigns lang limit line m r e) (array_assigns lang limit 0 m r e)
  Commutes-array_assigns line m r e = Commutes-evaluates line _ _ _ (λ ws. Commutes-for_each ws _ _ (λ w. Commutes-stored w.0 w.1))

  Commutes-nothing : Commutes nothing nothing
  Commutes-nothing = record { at = λ s. refl }

  Commutes-label : (l : ℕ) → Commutes (does lang limit (Label l)) (does lang limit (Label l))
  Commutes-label l = record { at = λ s. at s.way s }
    where
      by : (b : Bool) (s : State) → either b (goes Going) nothing (unlined s) ≡ unlined (either b (goes Going) nothing s)
      by true s = refl
      by false s = refl

      at : (w : Way) (s : State) → either (arrives l (way_without_line w)) (goes Going) nothing (unlined s) ≡ unlined (either (arrives l w) (goes Going) nothing s)
      at Going s = refl
      at (Jumping m) s = by (arrives l (Jumping m)) s
      at Stopped s = refl
      at (Failed e m) s = refl
      at Cut s = refl

  mutual
    Commutes-does : (c : Statement) → Commutes (does lang limit c) (does lang limit (without_lines c))
    Commutes-does (Assignment line m r e) = Commutes-counts_step _ _ (record { at = λ s. (Commutes-either (is_array lang (named r) s.store) (Commutes-array_assigns line (Logic true) r e) (Commutes-assigns line r e)).at s })
    Commutes-does (Where line m k r e) = Commutes-either lang.arrays (Commutes-counts_step _ _ (Commutes-array_assigns line k r e)) Commutes-nothing
    Commutes-does (If line arms other) = Commutes-chooses line arms _ _ (Commutes-does_all other)
    Commutes-does (Do line x a b c body) = Commutes-loops line x a b c _ _ (Commutes-does_all body)
    Commutes-does (Label l) = Commutes-label l
    Commutes-does (GoTo line l) = Commutes-counts_step _ _ (record { at = λ s. refl })
    Commutes-does (Stop line) = Commutes-counts_step _ _ (record { at = λ s. refl })
    Commutes-does (Read line is) = Commutes-counts_step _ _ (Commutes-then _ _ _ _ (Commutes-begins_line line) (Commutes-then _ _ _ _ (Commutes-reads_items is line) Commutes-skips_line))
    Commutes-does (Print line is) = Commutes-counts_step _ _ (Commutes-then _ _ _ _ (Commutes-writes (first_blank is)) (Commutes-then _ _ _ _ (Commutes-prints_items is line) (Commutes-writes (10 ∷ []))))
    Commutes-does (Allocate line x es) = Commutes-either lang.arrays (Commutes-counts_step _ _ (Commutes-evaluates line _ _ _ (λ bs. Commutes-allocates x bs))) Commutes-nothing
    Commutes-does (Deallocate line x) = Commutes-either lang.arrays (Commutes-counts_step _ _ (Commutes-evaluates line _ _ _ (λ bs. Commutes-deallocates x))) Commutes-nothing

    Commutes-chooses : (line : ℕ) (arms : Arms) (f g : Act) → Commutes f g → Commutes (chooses lang limit line arms f) (chooses lang limit 0 (arms_without_lines arms) g)
    Commutes-chooses line no_arms f g h = h
    Commutes-chooses line (arm test body arms) f g h = Commutes-counts_step _ _ (Commutes-evaluates line _ _ _ (λ b. Commutes-either b (Commutes-does_all body) (Commutes-chooses line arms f g h)))

    Commutes-does_all : (cs : Block) → Commutes (does_all lang limit cs) (does_all lang limit (block_without_lines cs))
    Commutes-does_all no_statements = record { at = λ s. refl }
    Commutes-does_all (statement c cs) = Commutes-then _ _ _ _ (Commutes-does c) (Commutes-does_all cs)

  begins_alike : (p q : Program) (input : List ℕ) → p.declarations ≡ q.declarations → opening_state p input ≡ opening_state q input
  begins_alike p q input e = ap (λ (ds : List Declaration). let r : Program = record { name = None; declarations = ds; body = no_statements } in opening_state r input) e

  runs_alike : (p q : Program) (input : List ℕ) → SameButLines p q → unlined (run lang limit p input) ≡ unlined (run lang limit q input)
  runs_alike p q input h =
      sym ((Commutes-does_all p.body).at (opening_state p input))
      ∙ (ap (λ (b : Block). does_all lang limit b (opening_state p input)) h.body
      ∙ (ap (does_all lang limit (block_without_lines q.body)) (begins_alike p q input h.declarations)
      ∙ (Commutes-does_all q.body).at (opening_state q input)))

alike : {s t : State} → unlined s ≡ unlined t → AlikeButLine s t
alike e = record {
  store = ap (λ (u : State). u.store) e;
  written = ap (λ (u : State). u.written) e;
  input = ap (λ (u : State). u.input) e;
  steps = ap (λ (u : State). u.steps) e;
  way = ap (λ (u : State). u.way) e;
}

pub relined : (lang : Dialect) (limit : Option ℕ) (p q : Program) (input : List ℕ) → SameButLines p q → AlikeButLine (run lang limit p input) (run lang limit q input)
relined lang limit p q input h = alike (runs_alike lang limit p q input h)

well_at : (w : Way) → way_without_line w ≡ Going → end_of w ≡ Some Done
well_at Going e = refl
well_at (Jumping m) e = cc
well_at Stopped e = cc
well_at (Failed f m) e = cc
well_at Cut e = cc

stopped_at : (w : Way) → way_without_line w ≡ Stopped → end_of w ≡ Some Done
stopped_at Going e = cc
stopped_at (Jumping m) e = cc
stopped_at Stopped e = refl
stopped_at (Failed f m) e = cc
stopped_at Cut e = cc

ends_alike : (v w : Way) → way_without_line v ≡ way_without_line w → end_of v ≡ Some Done → end_of w ≡ Some Done
ends_alike Going w e h = well_at w (sym e)
ends_alike (Jumping m) w e h = cc
ends_alike Stopped w e h = stopped_at w (sym e)
ends_alike (Failed f m) w e h = cc
ends_alike Cut w e h = cc

pub relined_ends_well : (s t : State) → AlikeButLine s t → EndsWell s → EndsWell t
relined_ends_well s t a h = ends_alike s.way t.way a.way h
