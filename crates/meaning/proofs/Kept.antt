-- What each part of a statement keeps, a run keeps.
use Rattle.std.proofs.Common.{◌≡◌, ◌≢◌, refl, ℕ, zero, suc, ◌+◌, ℤ, Bool, true, false, cond, List, [], ◌∷◌, ◌++◌, Result, Ok, Err, Option, Some, None, ◌^◌}
use Rattle.std.proofs.lemmas.Nat.{pow_pos}
use Rattle.std.proofs.lemmas.Bool.Decides.{Decides-ltb}
use Rattle.std.specs.Str.{bytes_eq}
use Rattle.tree.specs.declared.ops.Fault.{Fault}
use Rattle.tree.specs.declared.ops.Fault.TheVariants.{InputEnd, Overflow}
use Rattle.tree.specs.declared.ops.Kind.{Kind}
use Rattle.tree.specs.declared.ops.Kind.TheVariants.{Integer, Logical}
use Rattle.tree.specs.declared.ops.Value.{Value}
use Rattle.tree.specs.declared.ops.Value.TheVariants.{Int, Truth}
use Rattle.tree.specs.Plain.{Expression, Expressions, Logic, Named, Reference, Item, Single, Constant, ImpliedDo, Items, no_items, item, Statement, Assignment, Where, If, Do, Label, GoTo, Stop, Read, Print, Allocate, Deallocate, Arms, no_arms, arm, Block, no_statements, statement, Declaration, Program}
use Rattle.meaning.specs.Store.{Store, Cell, put, allocated, with_bounds, nought_like, same_cell, nought, opening_value, opening_store}
use Rattle.meaning.specs.Texts.{from_value, first_word, after_word, after_line, output_text}
use Rattle.meaning.specs.Value.{is_in_range, is_array, named}
use Rattle.meaning.specs.Ranges.{HoldsInRange}
use Rattle.meaning.proofs.Writes.{writes-in_range}
use Rattle.std.specs.List.{AllByRecursion}
use Rattle.tree.specs.declared.stmts.Mark.{Mark}
use Rattle.meaning.specs.Run.{State, Way, Going, Jumping, Stopped, Failed, Cut, Act, nothing, then, either, repeated, for_each, goes, on_way, while_going, answered, evaluates, writes, stores, is_empty, begins_line, takes_word, skips_line, is_allowed, first_blank, arrives, opening_state, counts_step, checks_range, assigns, array_assigns, stores_element, allocates, deallocates, sets_variable, increases, loops, reads_into, reads_item, reads_items, prints_item, prints_items, does, chooses, does_all, run}
use Rattle.meaning.specs.Dialect.{Dialect}

-- P is kept by what statements are made of
pub record IsKeptByParts (lang : Dialect) (limit : Option ℕ) (P : State → Type 0) : Type 0 where
  pub failed : (f : Fault) (line : ℕ) (s : State) → P s → P (record s { way = Failed f line })
  pub cut : (s : State) → limit ≢ None → P s → P (record s { way = Cut })
  pub written : (t : List ℕ) (s : State) → P s → P (record s { written = s.written ++ t })
  pub stored : (c : Cell) (v : Value) (s : State) → is_in_range lang.bits v ≡ true → P s → P (record s { store = put c v s.store })
  pub allocated : (x : List ℕ) (bs : List (ℤ × ℤ)) (s : State) → lang.arrays ≡ true → P s → P (record s { store = allocated x bs s.store })
  pub deallocated : (x : List ℕ) (s : State) → lang.arrays ≡ true → P s → P (record s { store = with_bounds x None s.store })
  pub input : (rest : List ℕ) (b : Bool) (s : State) → P s → P (record s { input = rest; had_value = b })
  pub step : (s : State) → P s → P (record s { steps = s.steps + 1 })

-- and by what statements do to the way
pub record IsKeptByJumps (P : State → Type 0) : Type 0 where
  pub arrived : (s : State) → P s → P (record s { way = Going })
  pub jumping : (n : ℕ) (s : State) → P s → P (record s { way = Jumping n })
  pub stopped : (s : State) → P s → P (record s { way = Stopped })

pub record Keeps (P : State → Type 0) (f : Act) : Type 0 where
  pub at : (s : State) → P s → P (f s)

module _ (lang : Dialect) (limit : Option ℕ) (P : State → Type 0) (kept : IsKeptByParts lang limit P) where
  pub Keeps-nothing : Keeps P nothing
  Keeps-nothing = record { at = λ s h. h }

  pub Keeps-then : (f g : Act) → Keeps P f → Keeps P g → Keeps P (then f g)
  Keeps-then f g h k = record { at = λ s p. k.at (f s) (h.at s p) }

  Keeps-fails : (f : Fault) (line : ℕ) → Keeps P (goes (Failed f line))
  Keeps-fails f line = record { at = λ s h. kept.failed f line s h }

  Keeps-while_going : (f : Act) → Keeps P f → Keeps P (while_going f)
  unfolding while_going
  Keeps-while_going f h = record { at = λ s p. by s.way s p }
    where
      by : (w : Way) (s : State) → P s → P (on_way w f s)
      by Going s p = h.at s p
      by (Jumping l) s p = p
      by Stopped s p = p
      by (Failed e l) s p = p
      by Cut s p = p

  pub Keeps-either : (b : Bool) (f g : Act) → (b ≡ true → Keeps P f) → (b ≡ false → Keeps P g) → Keeps P (either b f g)
  Keeps-either true f g h k = h refl
  Keeps-either false f g h k = k refl

  Keeps-answered : {A : Type 0} (line : ℕ) (r : Result A Fault) (k : A → Act) → ((x : A) → Keeps P (k x)) → Keeps P (answered line r k)
  Keeps-answered line (Ok x) k h = h x
  Keeps-answered line (Err e) k h = Keeps-fails e line

  pub Keeps-evaluates : {A : Type 0} (line : ℕ) (f : Store → Result A Fault) (k : A → Act) → ((x : A) → Keeps P (k x)) → Keeps P (evaluates line f k)
  unfolding evaluates
  Keeps-evaluates line f k h = Keeps-while_going _ (record { at = λ s. (Keeps-answered line (f s.store) k h).at s })

  -- where what is known of the answer matters
  Keeps-answers : {A : Type 0} (line : ℕ) (f : Store → Result A Fault) (k : A → Act) → ((x : A) (s : Store) → f s ≡ Ok x → Keeps P (k x)) → Keeps P (evaluates line f k)
  unfolding evaluates
  Keeps-answers line f k h = Keeps-while_going _ (record { at = λ s. (by s (f s.store) refl).at s })
    where
      by : (s : State) (r : Result _ Fault) → f s.store ≡ r → Keeps P (answered line r k)
      by s (Ok x) e = h x s.store e
      by s (Err g) e = Keeps-fails g line

  Keeps-repeated : (n : ℕ) (f : Act) → Keeps P f → Keeps P (repeated n f)
  Keeps-repeated zero f h = Keeps-nothing
  Keeps-repeated (suc n) f h = Keeps-then f (repeated n f) h (Keeps-repeated n f h)

  Keeps-for_each : {A : Type 0} (xs : List A) (f : A → Act) → ((x : A) → Keeps P (f x)) → Keeps P (for_each xs f)
  Keeps-for_each [] f h = Keeps-nothing
  Keeps-for_each (x ∷ xs) f h = Keeps-then (f x) (for_each xs f) (h x) (Keeps-for_each xs f h)

  Keeps-writes : (t : List ℕ) → Keeps P (writes t)
  unfolding writes
  Keeps-writes t = Keeps-while_going _ (record { at = λ s h. kept.written t s h })

  Keeps-stores : (c : Cell) (v : Value) → is_in_range lang.bits v ≡ true → Keeps P (stores c v)
  unfolding stores
  Keeps-stores c v e = Keeps-while_going _ (record { at = λ s h. kept.stored c v s e h })

  Keeps-allocates : (x : List ℕ) (bs : List (ℤ × ℤ)) → lang.arrays ≡ true → Keeps P (allocates x bs)
  unfolding allocates
  Keeps-allocates x bs e = Keeps-while_going _ (record { at = λ s h. kept.allocated x bs s e h })

  Keeps-deallocates : (x : List ℕ) → lang.arrays ≡ true → Keeps P (deallocates x)
  unfolding deallocates
  Keeps-deallocates x e = Keeps-while_going _ (record { at = λ s h. kept.deallocated x s e h })

  Keeps-begins_line : (line : ℕ) → Keeps P (begins_line line)
  unfolding begins_line
  Keeps-begins_line line = Keeps-while_going _ (record {
    at = λ s. (Keeps-either (is_empty s.input) (goes (Failed InputEnd line)) (λ t. record t { had_value = false })
        (λ e. Keeps-fails InputEnd line) (λ e. record { at = λ t h. kept.input t.input false t h })).at s;
  })

  Keeps-takes_word : (line : ℕ) (k : List ℕ → Act) → ((w : List ℕ) → Keeps P (k w)) → Keeps P (takes_word line k)
  unfolding takes_word
  Keeps-takes_word line k h = Keeps-while_going _ (record { at = λ s. (Keeps-answered line (from_value s.had_value s.input) (λ rest t. k (first_word rest) (record t { input = after_word rest; had_value = true })) past).at s })
    where
      past : (rest : List ℕ) → Keeps P (λ t. k (first_word rest) (record t { input = after_word rest; had_value = true }))
      past rest = record { at = λ t p. (h (first_word rest)).at (record t { input = after_word rest; had_value = true }) (kept.input (after_word rest) true t p) }

  Keeps-skips_line : Keeps P skips_line
  unfolding skips_line
  Keeps-skips_line = Keeps-while_going _ (record { at = λ s h. kept.input (after_line s.input) s.had_value s h })

  pub Keeps-counts_step : (k : Act) → Keeps P k → Keeps P (counts_step lang limit k)
  unfolding counts_step
  Keeps-counts_step k h = Keeps-while_going _ (record { at = λ s p. by limit (is_allowed limit s.steps) s.steps refl refl s p })
    where
      by : (o : Option ℕ) (b : Bool) (n : ℕ) → limit ≡ o → is_allowed o n ≡ b → (s : State) → P s → P (either b (λ t. k (record t { steps = t.steps + 1 })) (goes Cut) s)
      by o true n e f s p = h.at (record s { steps = s.steps + 1 }) (kept.step s p)
      by None false n e f s p = cc
      by (Some m) false n e f s p = kept.cut s (λ q. cc) p

  Keeps-checks_range : (line : ℕ) (v : Value) (k : Act) → (is_in_range lang.bits v ≡ true → Keeps P k) → Keeps P (checks_range lang limit line v k)
  unfolding checks_range
  Keeps-checks_range line v k h = Keeps-while_going _ (Keeps-either (is_in_range lang.bits v) k (goes (Failed Overflow line)) h (λ e. Keeps-fails Overflow line))

  Keeps-sets_variable : (line : ℕ) (x : List ℕ) (z : ℤ) → Keeps P (sets_variable lang limit line x z)
  Keeps-sets_variable line x z = Keeps-evaluates line _ _ (λ c. Keeps-checks_range line (Int z) _ (λ e. Keeps-stores c (Int z) e))

  Keeps-increases : (line : ℕ) (x : List ℕ) (d : ℤ) → Keeps P (increases lang limit line x d)
  Keeps-increases line x d = Keeps-evaluates line _ _ (λ c. Keeps-evaluates line _ _ (λ z. Keeps-sets_variable line x z))

  pub Keeps-loops : (line : ℕ) (x : List ℕ) (a b c : Expression) (f : Act) → Keeps P f → Keeps P (loops lang limit line x a b c f)
  Keeps-loops line x a b c f h = Keeps-evaluates line _ _ (λ m1. Keeps-evaluates line _ _ (λ m2. Keeps-evaluates line _ _ (λ m3.
      Keeps-then _ _ (Keeps-sets_variable line x m1) (Keeps-evaluates line _ _ (λ n. Keeps-repeated n _
      (Keeps-counts_step _ (Keeps-then f _ h (Keeps-increases line x m3))))))))

  Keeps-reads_into : (line : ℕ) (c : Cell) → Keeps P (reads_into lang limit line c)
  Keeps-reads_into line c = Keeps-takes_word line _ (λ w. Keeps-evaluates line _ _ (λ v. Keeps-checks_range line v _ (λ e. Keeps-counts_step _ (Keeps-stores c v e))))

  mutual
    Keeps-reads_item : (i : Item) (line : ℕ) → Keeps P (reads_item lang limit i line)
    Keeps-reads_item (Single (Named x ps)) line = Keeps-evaluates line _ _ (λ cs. Keeps-for_each cs _ (Keeps-reads_into line))
    Keeps-reads_item (ImpliedDo is x a b c) line = Keeps-loops line x a b c _ (Keeps-reads_items is line)
    Keeps-reads_item _ line = Keeps-nothing

    Keeps-reads_items : (is : Items) (line : ℕ) → Keeps P (reads_items lang limit is line)
    Keeps-reads_items no_items line = Keeps-nothing
    Keeps-reads_items (item i is) line = Keeps-then _ _ (Keeps-reads_item i line) (Keeps-reads_items is line)

  mutual
    Keeps-prints_item : (i : Item) (line : ℕ) → Keeps P (prints_item lang limit i line)
    Keeps-prints_item (Single e) line = Keeps-evaluates line _ _ (λ vs. Keeps-writes (output_text vs))
    Keeps-prints_item (Constant t) line = Keeps-writes t
    Keeps-prints_item (ImpliedDo is x a b c) line = Keeps-loops line x a b c _ (Keeps-prints_items is line)

    Keeps-prints_items : (is : Items) (line : ℕ) → Keeps P (prints_items lang limit is line)
    Keeps-prints_items no_items line = Keeps-nothing
    Keeps-prints_items (item i is) line = Keeps-then _ _ (Keeps-prints_item i line) (Keeps-prints_items is line)

  pub Keeps-assigns : (line : ℕ) (r : Reference) (e : Expression) → Keeps P (assigns lang limit line r e)
  Keeps-assigns line r e = Keeps-evaluates line _ _ (λ v. Keeps-evaluates line _ _ (λ c. Keeps-checks_range line v _ (λ q. Keeps-counts_step _ (Keeps-stores c v q))))

  Keeps-elements : (ws : List (Cell × Value)) → AllByRecursion (λ (w : Cell × Value). is_in_range lang.bits w.1 ≡ true) ws → Keeps P (for_each ws (stores_element lang limit))
  Keeps-elements [] h = Keeps-nothing
  Keeps-elements (w ∷ ws) h = Keeps-then _ _ (Keeps-counts_step _ (Keeps-stores w.0 w.1 h.0)) (Keeps-elements ws h.1)

  pub Keeps-array_assigns : (line : ℕ) (m : Expression) (r : Reference) (e : Expression) → Keeps P (array_assigns lang limit line m r e)
  Keeps-array_assigns line m r e = Keeps-answers line _ _ (λ ws s g. Keeps-elements ws (writes-in_range lang m r e s ws g))

  pub Keeps-assignment : (line : ℕ) (mark : Option Mark) (r : Reference) (e : Expression) → Keeps P (does lang limit (Assignment line mark r e))
  Keeps-assignment line mark r e = Keeps-counts_step _ (record { at = λ s. (Keeps-either (is_array lang (named r) s.store) _ _ (λ q. Keeps-array_assigns line (Logic true) r e) (λ q. Keeps-assigns line r e)).at s })

  pub Keeps-where : (line : ℕ) (mark : Option Mark) (m : Expression) (r : Reference) (e : Expression) → Keeps P (does lang limit (Where line mark m r e))
  Keeps-where line mark m r e = Keeps-either lang.arrays _ _ (λ q. Keeps-counts_step _ (Keeps-array_assigns line m r e)) (λ q. Keeps-nothing)

  pub Keeps-allocate : (line : ℕ) (x : List ℕ) (es : Expressions) → Keeps P (does lang limit (Allocate line x es))
  Keeps-allocate line x es = Keeps-either lang.arrays _ _ (λ q. Keeps-counts_step _ (Keeps-evaluates line _ _ (λ bs. Keeps-allocates x bs q))) (λ q. Keeps-nothing)

  pub Keeps-deallocate : (line : ℕ) (x : List ℕ) → Keeps P (does lang limit (Deallocate line x))
  Keeps-deallocate line x = Keeps-either lang.arrays _ _ (λ q. Keeps-counts_step _ (Keeps-evaluates line _ _ (λ bs. Keeps-deallocates x q))) (λ q. Keeps-nothing)

  pub Keeps-read : (line : ℕ) (is : Items) → Keeps P (does lang limit (Read line is))
  Keeps-read line is = Keeps-counts_step _ (Keeps-then _ _ (Keeps-begins_line line) (Keeps-then _ _ (Keeps-reads_items is line) Keeps-skips_line))

  pub Keeps-print : (line : ℕ) (is : Items) → Keeps P (does lang limit (Print line is))
  Keeps-print line is = Keeps-counts_step _ (Keeps-then _ _ (Keeps-writes (first_blank is)) (Keeps-then _ _ (Keeps-prints_items is line) (Keeps-writes (10 ∷ []))))

module _ (lang : Dialect) (limit : Option ℕ) (P : State → Type 0) (kept : IsKeptByParts lang limit P) (jumps : IsKeptByJumps P) where
  mutual
    Keeps-does : (c : Statement) → Keeps P (does lang limit c)
    Keeps-does (Assignment line m r e) = Keeps-assignment lang limit P kept line m r e
    Keeps-does (Where line m k r e) = Keeps-where lang limit P kept line m k r e
    Keeps-does (If line arms other) = Keeps-chooses line arms _ (Keeps-does_all other)
    Keeps-does (Do line x a b c body) = Keeps-loops lang limit P kept line x a b c _ (Keeps-does_all body)
    Keeps-does (Label l) = record { at = λ s. (Keeps-either lang limit P kept (arrives l s.way) (goes Going) nothing (λ e. record { at = jumps.arrived }) (λ e. Keeps-nothing lang limit P kept)).at s }
    Keeps-does (GoTo line l) = Keeps-counts_step lang limit P kept _ (record { at = jumps.jumping l })
    Keeps-does (Stop line) = Keeps-counts_step lang limit P kept _ (record { at = jumps.stopped })
    Keeps-does (Read line is) = Keeps-read lang limit P kept line is
    Keeps-does (Print line is) = Keeps-print lang limit P kept line is
    Keeps-does (Allocate line x es) = Keeps-allocate lang limit P kept line x es
    Keeps-does (Deallocate line x) = Keeps-deallocate lang limit P kept line x

    Keeps-chooses : (line : ℕ) (arms : Arms) (f : Act) → Keeps P f → Keeps P (chooses lang limit line arms f)
    Keeps-chooses line no_arms f h = h
    Keeps-chooses line (arm test body arms) f h = Keeps-counts_step lang limit P kept _ (Keeps-evaluates lang limit P kept line _ _ (λ b.
        Keeps-either lang limit P kept b _ _ (λ e. Keeps-does_all body) (λ e. Keeps-chooses line arms f h)))

    Keeps-does_all : (cs : Block) → Keeps P (does_all lang limit cs)
    Keeps-does_all no_statements = Keeps-nothing lang limit P kept
    Keeps-does_all (statement c cs) = Keeps-then lang limit P kept _ _ (Keeps-does c) (Keeps-does_all cs)

  -- what the first moment has, the last one has
  pub kept_by_run : (p : Program) (input : List ℕ) → P (opening_state p input) → P (run lang limit p input)
  kept_by_run p input h = (Keeps-does_all p.body).at (opening_state p input) h

-- ---- a run without a limit is never cut

pub whole_run_is_not_cut : (lang : Dialect) (p : Program) (input : List ℕ) → (run lang None p input).way ≢ Cut
whole_run_is_not_cut lang p input = kept_by_run lang None (λ s. s.way ≢ Cut) (record {
  failed = λ f line s h q. cc;
  cut = λ s n h. absurd (n refl);
  written = λ t s h. h;
  stored = λ c v s e h. h;
  allocated = λ x bs s e h. h;
  deallocated = λ x s e h. h;
  input = λ rest b s h. h;
  step = λ s h. h;
}) (record { arrived = λ s h q. cc; jumping = λ n s h q. cc; stopped = λ s h q. cc }) p input (λ q. cc)

-- ---- the range of INTEGER

nought_in_range : (bits : ℕ) (k : Kind) → is_in_range bits (nought k) ≡ true
nought_in_range bits Integer = (Decides-ltb 0 (2 ^ bits)).1 (pow_pos bits)
nought_in_range bits Logical = refl

nought_like_in_range : (bits : ℕ) (v : Value) → is_in_range bits (nought_like v) ≡ true
nought_like_in_range bits (Int z) = (Decides-ltb 0 (2 ^ bits)).1 (pow_pos bits)
nought_like_in_range bits (Truth b) = refl

opening_in_range : (lang : Dialect) (ds : List Declaration) (x : List ℕ) → is_in_range lang.bits (opening_value ds x) ≡ true
opening_in_range lang [] x = nought_in_range lang.bits Integer
opening_in_range lang (d ∷ ds) x = by (bytes_eq d.name x) (opening_in_range lang ds x)
  where
    by : (b : Bool) → is_in_range lang.bits (opening_value ds x) ≡ true → is_in_range lang.bits (cond b (nought d.kind) (opening_value ds x)) ≡ true
    by true h = nought_in_range lang.bits d.kind
    by false h = h

pub run_keeps_range : (lang : Dialect) (limit : Option ℕ) (p : Program) (input : List ℕ) → HoldsInRange lang.bits (run lang limit p input).store
run_keeps_range lang limit p input = kept_by_run lang limit (λ s. HoldsInRange lang.bits s.store) (record {
  failed = λ f line s h. h;
  cut = λ s n h. h;
  written = λ t s h. h;
  stored = λ c v s e h d. by c v s.store d (same_cell c d) e (h d);
  allocated = λ x bs s e h d. blank s.store d (bytes_eq x d.name) (h d);
  deallocated = λ x s e h. h;
  input = λ rest b s h. h;
  step = λ s h. h;
}) (record { arrived = λ s h. h; jumping = λ n s h. h; stopped = λ s h. h }) p input (λ c. opening_in_range lang p.declarations c.name)
  where
    by : (c : Cell) (v : Value) (s : Store) (d : Cell) (b : Bool) → is_in_range lang.bits v ≡ true → is_in_range lang.bits (s.held d) ≡ true → is_in_range lang.bits (cond b v (s.held d)) ≡ true
    by c v s d true e h = e
    by c v s d false e h = h

    blank : (s : Store) (d : Cell) (b : Bool) → is_in_range lang.bits (s.held d) ≡ true → is_in_range lang.bits (cond b (nought_like (s.held d)) (s.held d)) ≡ true
    blank s d true h = nought_like_in_range lang.bits (s.held d)
    blank s d false h = h

-- ---- the cells

pub run_keeps_cells : (lang : Dialect) (limit : Option ℕ) (p : Program) (input : List ℕ) (x : List ℕ) → lang.arrays ≡ false → (run lang limit p input).store.bounds x ≡ (opening_store p).bounds x
run_keeps_cells lang limit p input x none = kept_by_run lang limit (λ s. s.store.bounds x ≡ (opening_store p).bounds x) (record {
  failed = λ f line s h. h;
  cut = λ s n h. h;
  written = λ t s h. h;
  stored = λ c v s e h. h;
  allocated = λ y bs s e h. cc;
  deallocated = λ y s e h. cc;
  input = λ rest b s h. h;
  step = λ s h. h;
}) (record { arrived = λ s h. h; jumping = λ n s h. h; stopped = λ s h. h }) p input refl
