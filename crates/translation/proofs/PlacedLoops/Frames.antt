-- A statement of FORTRAN 77 keeps the bounds of all names, also where arrays are values: none comes or goes.
use Rattle.std.proofs.Common.{◌≡◌, ◌∙◌, refl, sym, subst, ℕ, zero, suc, ◌+◌, ℤ, Bool, true, false, cond, List, [], ◌∷◌}
use Rattle.std.proofs.Common.{Option, Some, None, IfSome, Result, Ok, Err}
use Rattle.std.specs.Str.{bytes_eq}
use Rattle.meaning.specs.Blocks.{Surroundings}
use Rattle.meaning.specs.Dialect.{fortran90}
use Rattle.tree.specs.declared.width.Width.{Width}
use Rattle.meaning.specs.Profile77.{AreArms, IsBlock, IsStatement}
use Rattle.meaning.specs.Run.{Act, Cut, Failed, Going, Jumping, State, Stopped, Way, answered, array_assigns, arrives}
use Rattle.meaning.specs.Run.{assigns, begins_line, checks_range, chooses, counts_step, does, does_all, either, evaluates}
use Rattle.meaning.specs.Run.{first_blank, for_each, goes, increases, is_empty, loops, nothing, on_way, prints_item}
use Rattle.meaning.specs.Run.{prints_items, reads_into, reads_item, reads_items, repeated, sets_variable, skips_line}
use Rattle.meaning.specs.Run.{stores, stores_element, takes_word, then, turn, while_going, writes}
use Rattle.meaning.specs.Store.{Cell, Store, opening_bounds, opening_store}
use Rattle.meaning.specs.Texts.{after_word, first_word, from_value, output_text}
use Rattle.meaning.specs.Typed.{declared}
use Rattle.meaning.specs.Value.{is_array, is_in_range, named}
use Rattle.translation.specs.placed_loops.Beside.{AreUnallocated, IsUnallocated}
use Rattle.translation.specs.placed_loops.Placed.{one}
use Rattle.tree.specs.Plain.{Allocate, Arms, Assignment, Block, Constant, Deallocate, Declaration, Do, Expression, Extent}
use Rattle.tree.specs.Plain.{Given, GoTo, If, ImpliedDo, Item, Items, Label, Later, Logic, Named, Print, Program, Read, Reference}
use Rattle.tree.specs.Plain.{Single, Statement, Stop, Where, arm, item, no_arms, no_items, no_statements, statement}
use Rattle.tree.specs.declared.ops.Fault.{Fault}
use Rattle.tree.specs.declared.ops.Fault.TheVariants.{InputEnd, Overflow}
use Rattle.tree.specs.declared.ops.Value.{Value}
use Rattle.tree.specs.declared.ops.Value.TheVariants.{Int}
use Rattle.tree.specs.Widths.{bits_of}

-- ---- acts

record KeepsBounds (f : Act) : Type 0 where
  at : (s : State) (x : List ℕ) → (f s).store.bounds x ≡ s.store.bounds x

nothing_keeps : KeepsBounds nothing
nothing_keeps = record { at = λ s x. refl }

goes_keeps : (w : Way) → KeepsBounds (goes w)
goes_keeps w = record { at = λ s x. refl }

then_keeps : (f g : Act) → KeepsBounds f → KeepsBounds g → KeepsBounds (then f g)
then_keeps f g h k = record { at = λ s x. k.at (f s) x ∙ h.at s x }

either_keeps : (b : Bool) (f g : Act) → KeepsBounds f → KeepsBounds g → KeepsBounds (either b f g)
either_keeps true f g h k = h
either_keeps false f g h k = k

while_keeps : (f : Act) → KeepsBounds f → KeepsBounds (while_going f)
unfolding while_going
while_keeps f h = record { at = λ s x. by s.way s x }
  where
    by : (w : Way) (s : State) (x : List ℕ) → (on_way w f s).store.bounds x ≡ s.store.bounds x
    by Going s x = h.at s x
    by (Jumping l) s x = refl
    by Stopped s x = refl
    by (Failed e l) s x = refl
    by Cut s x = refl

answered_keeps : {A : Type 0} (line : ℕ) (r : Result A Fault) (k : A → Act) → ((a : A) → KeepsBounds (k a))
    → KeepsBounds (answered line r k)
answered_keeps line (Ok a) k h = h a
answered_keeps line (Err e) k h = goes_keeps (Failed e line)

evaluates_keeps : {A : Type 0} (line : ℕ) (f : Store → Result A Fault) (k : A → Act) → ((a : A) → KeepsBounds (k a))
    → KeepsBounds (evaluates line f k)
unfolding evaluates
evaluates_keeps line f k h = while_keeps _ (record { at = λ s x. (answered_keeps line (f s.store) k h).at s x })

counts_keeps : (width : Width) (k : Act) → KeepsBounds k → KeepsBounds (counts_step (fortran90 width) None k)
unfolding counts_step
counts_keeps width k h = while_keeps _ (record { at = λ s x. h.at (record s { steps = s.steps + 1 }) x })

stores_keeps : (c : Cell) (v : Value) → KeepsBounds (stores c v)
unfolding stores
stores_keeps c v = while_keeps _ (record { at = λ s x. refl })

writes_keeps : (t : List ℕ) → KeepsBounds (writes t)
unfolding writes
writes_keeps t = while_keeps _ (record { at = λ s x. refl })

begins_keeps : (line : ℕ) → KeepsBounds (begins_line line)
unfolding begins_line
begins_keeps line = while_keeps _ (record { at = λ s x. by (is_empty s.input) s x })
  where
    by : (b : Bool) (s : State) (x : List ℕ)
        → (either b (goes (Failed InputEnd line)) (λ t. record t { had_value = false }) s).store.bounds x ≡ s.store.bounds x
    by true s x = refl
    by false s x = refl

takes_keeps : (line : ℕ) (k : List ℕ → Act) → ((w : List ℕ) → KeepsBounds (k w)) → KeepsBounds (takes_word line k)
unfolding takes_word
takes_keeps line k h = while_keeps _ (record { at = λ s x. by (from_value s.had_value s.input) s x })
  where
    by : (r : Result (List ℕ) Fault) (s : State) (x : List ℕ)
        → (answered line r (λ rest t. k (first_word rest) (record t { input = after_word rest; had_value = true })) s).store.bounds x
        ≡ s.store.bounds x
    by (Ok rest) s x = (h (first_word rest)).at (record s { input = after_word rest; had_value = true }) x
    by (Err e) s x = refl

skips_keeps : KeepsBounds skips_line
unfolding skips_line
skips_keeps = while_keeps _ (record { at = λ s x. refl })

checks_keeps : (width : Width) (line : ℕ) (v : Value) (k : Act) → KeepsBounds k → KeepsBounds (checks_range (fortran90 width) None line v k)
unfolding checks_range
checks_keeps width line v k h = while_keeps _ (either_keeps (is_in_range (bits_of width) v) k (goes (Failed Overflow line)) h (goes_keeps (Failed Overflow line)))

repeated_keeps : (n : ℕ) (f : Act) → KeepsBounds f → KeepsBounds (repeated n f)
repeated_keeps zero f h = nothing_keeps
repeated_keeps (suc n) f h = record { at = λ s x. (repeated_keeps n f h).at (f s) x ∙ h.at s x }

each_keeps : {A : Type 0} (xs : List A) (f : A → Act) → ((a : A) → KeepsBounds (f a)) → KeepsBounds (for_each xs f)
each_keeps [] f h = nothing_keeps
each_keeps (a ∷ xs) f h = record { at = λ s x. (each_keeps xs f h).at (f a s) x ∙ (h a).at s x }

-- ---- parts of statements

assigns_keeps : (width : Width) (line : ℕ) (left : Reference) (right : Expression) → KeepsBounds (assigns (fortran90 width) None line left right)
assigns_keeps width line left right =
    evaluates_keeps line _ _ (λ v. evaluates_keeps line _ _ (λ c. checks_keeps width line v _ (counts_keeps width _ (stores_keeps c v))))

arrays_keep : (width : Width) (line : ℕ) (mask : Expression) (left : Reference) (right : Expression)
    → KeepsBounds (array_assigns (fortran90 width) None line mask left right)
arrays_keep width line mask left right =
    evaluates_keeps line _ _ (λ ws. each_keeps ws (stores_element (fortran90 width) None) (λ w. counts_keeps width _ (stores_keeps w.0 w.1)))

sets_keeps : (width : Width) (line : ℕ) (x : List ℕ) (z : ℤ) → KeepsBounds (sets_variable (fortran90 width) None line x z)
sets_keeps width line x z = evaluates_keeps line _ _ (λ c. checks_keeps width line (Int z) _ (stores_keeps c (Int z)))

increases_keeps : (width : Width) (line : ℕ) (x : List ℕ) (m3 : ℤ) → KeepsBounds (increases (fortran90 width) None line x m3)
increases_keeps width line x m3 = evaluates_keeps line _ _ (λ c. evaluates_keeps line _ _ (λ z. sets_keeps width line x z))

loops_keep : (width : Width) (line : ℕ) (x : List ℕ) (a b c : Expression) (f : Act) → KeepsBounds f → KeepsBounds (loops (fortran90 width) None line x a b c f)
loops_keep width line x a b c f h =
    evaluates_keeps line _ _ (λ m1. evaluates_keeps line _ _ (λ m2. evaluates_keeps line _ _ (λ m3.
    then_keeps (sets_variable (fortran90 width) None line x m1) _ (sets_keeps width line x m1)
    (evaluates_keeps line _ _ (λ n. repeated_keeps n (turn (fortran90 width) None line x m3 f)
    (counts_keeps width _ (then_keeps f (increases (fortran90 width) None line x m3) h (increases_keeps width line x m3))))))))

reads_keep : (width : Width) (line : ℕ) (c : Cell) → KeepsBounds (reads_into (fortran90 width) None line c)
reads_keep width line c =
    takes_keeps line _ (λ w. evaluates_keeps line _ _ (λ v. checks_keeps width line v _ (counts_keeps width _ (stores_keeps c v))))

mutual
  reads_item_keeps : (width : Width) (i : Item) (line : ℕ) → KeepsBounds (reads_item (fortran90 width) None i line)
  reads_item_keeps width (Single (Named x ps)) line = evaluates_keeps line _ _ (λ cs. each_keeps cs (reads_into (fortran90 width) None line) (reads_keep width line))
  reads_item_keeps width (ImpliedDo is x a b c) line = loops_keep width line x a b c _ (reads_items_keep width is line)
  reads_item_keeps width _ line = nothing_keeps

  reads_items_keep : (width : Width) (is : Items) (line : ℕ) → KeepsBounds (reads_items (fortran90 width) None is line)
  reads_items_keep width no_items line = nothing_keeps
  reads_items_keep width (item i is) line = then_keeps _ _ (reads_item_keeps width i line) (reads_items_keep width is line)

mutual
  prints_item_keeps : (width : Width) (i : Item) (line : ℕ) → KeepsBounds (prints_item (fortran90 width) None i line)
  prints_item_keeps width (Single e) line = evaluates_keeps line _ _ (λ vs. writes_keeps (output_text vs))
  prints_item_keeps width (Constant t) line = writes_keeps t
  prints_item_keeps width (ImpliedDo is x a b c) line = loops_keep width line x a b c _ (prints_items_keep width is line)

  prints_items_keep : (width : Width) (is : Items) (line : ℕ) → KeepsBounds (prints_items (fortran90 width) None is line)
  prints_items_keep width no_items line = nothing_keeps
  prints_items_keep width (item i is) line = then_keeps _ _ (prints_item_keeps width i line) (prints_items_keep width is line)

-- ---- statements of FORTRAN 77

module _ (width : Width) (ds : List Declaration) where
  mutual
    statement_keeps : (c : Statement) (w : Surroundings) → IsStatement ds c w → KeepsBounds (does (fortran90 width) None c)
    statement_keeps (Assignment line mark left right) w h =
        counts_keeps width _ (record {
          at = λ s x.
              (either_keeps (is_array (fortran90 width) (named left) s.store) (array_assigns (fortran90 width) None line (Logic true) left right)
              (assigns (fortran90 width) None line left right) (arrays_keep width line (Logic true) left right) (assigns_keeps width line left right)).at s x;
        })
    statement_keeps (If line arms other) w h = arms_keep line arms w (does_all (fortran90 width) None other) h.2 (block_keeps other w h.3)
    statement_keeps (Do line x a b c body) w h = loops_keep width line x a b c _ (block_keeps body _ h.5)
    statement_keeps (Label n) w h =
        record { at = λ s x. (either_keeps (arrives n s.way) (goes Going) nothing (goes_keeps Going) nothing_keeps).at s x }
    statement_keeps (GoTo line n) w h = counts_keeps width _ (goes_keeps (Jumping n))
    statement_keeps (Stop line) w h = counts_keeps width _ (goes_keeps Stopped)
    statement_keeps (Read line is) w h =
        counts_keeps width _ (then_keeps _ _ (begins_keeps line) (then_keeps _ _ (reads_items_keep width is line) skips_keeps))
    statement_keeps (Print line is) w h =
        counts_keeps width _ (then_keeps _ _ (writes_keeps (first_blank is)) (then_keeps _ _ (prints_items_keep width is line) (writes_keeps (10 ∷ []))))
    statement_keeps (Where line mark mask left right) w h = absurd h
    statement_keeps (Allocate line x es) w h = absurd h
    statement_keeps (Deallocate line x) w h = absurd h

    arms_keep : (line : ℕ) (arms : Arms) (w : Surroundings) (f : Act) → AreArms ds arms w → KeepsBounds f
        → KeepsBounds (chooses (fortran90 width) None line arms f)
    arms_keep line no_arms w f h k = k
    arms_keep line (arm test body more) w f h k =
        counts_keeps width _ (evaluates_keeps line _ _ (λ b. either_keeps b (does_all (fortran90 width) None body) (chooses (fortran90 width) None line more f)
        (block_keeps body w h.1) (arms_keep line more w f h.2 k)))

    block_keeps : (b : Block) (w : Surroundings) → IsBlock ds b w → KeepsBounds (does_all (fortran90 width) None b)
    block_keeps no_statements w h = nothing_keeps
    block_keeps (statement c cs) w h = then_keeps (does (fortran90 width) None c) (does_all (fortran90 width) None cs) (statement_keeps c _ h.0) (block_keeps cs w h.1)

pub source_keeps_free : (width : Width) (p q : Program) (c : Statement) (w : Surroundings) → IsBlock p.declarations (one c) w → (t : State)
    → AreUnallocated q t.store → AreUnallocated q (does (fortran90 width) None c t).store
source_keeps_free width p q c w h t free x =
    subst (λ (b : Option (List (ℤ × ℤ))). IfSome (declared q.declarations x) (λ (d : Declaration). IsUnallocated d.extent b))
    (sym ((block_keeps width p.declarations (one c) w h).at t x)) (free x)

-- ---- the opening store

pub opening_free : (q : Program) → AreUnallocated q (opening_store q)
opening_free q x = by q.declarations
  where
    extent : (e : Extent) → IsUnallocated e (elim e [ Given bs ↦ Some bs | Later n ↦ None ])
    extent (Given bs) = tt
    extent (Later n) = refl

    by : (ds : List Declaration) → IfSome (declared ds x) (λ (d : Declaration). IsUnallocated d.extent (opening_bounds ds x))
    by [] = tt
    by (d ∷ ds) = which (bytes_eq d.name x) (by ds)
      where
        which : (b : Bool) → IfSome (declared ds x) (λ (d : Declaration). IsUnallocated d.extent (opening_bounds ds x))
            → IfSome (cond b (Some d) (declared ds x)) (λ (e : Declaration). IsUnallocated e.extent
            (cond b (elim d.extent [ Given bs ↦ Some bs | Later n ↦ None ]) (opening_bounds ds x)))
        which true h = extent d.extent
        which false h = h
