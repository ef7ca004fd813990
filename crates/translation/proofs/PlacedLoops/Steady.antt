-- Without a limit, how many steps there were before changes nothing else of what a statement of FORTRAN 77 does.
use Rattle.std.proofs.Common.{◌≡◌, subst, ap, ℕ, ℤ, List, [], ◌∷◌, Result, Ok, Option, None}
use Rattle.tree.specs.declared.stmts.Mark.{Mark}
use Rattle.tree.specs.declared.ops.Fault.{Fault}
use Rattle.tree.specs.declared.ops.Value.{Value}
use Rattle.tree.specs.declared.ops.Value.TheVariants.{Int}
use Rattle.tree.specs.Plain.{Expression, Named, Reference, Item, Single, Constant, ImpliedDo, Items, no_items, item}
use Rattle.tree.specs.Plain.{Assignment, Read, Print}
use Rattle.meaning.specs.Dialect.{fortran77}
use Rattle.tree.specs.declared.width.Width.{Width}
use Rattle.meaning.specs.Store.{Store, Cell, put, cell_at}
use Rattle.meaning.specs.Texts.{output_text}
use Rattle.meaning.specs.Run.{Act, evaluates, writes, stores, checks_range, counts_step, first_blank, sets_variable}
use Rattle.meaning.specs.Run.{increases, turn, loops, reads_into, reads_item, reads_items, prints_item, prints_items}
use Rattle.meaning.specs.Run.{does}
use Rattle.rewrite.proofs.Acts.{Stays-then, Stays-evaluates, Stays-writes, Stays-skips_line, Stays-takes_word}
use Rattle.rewrite.proofs.Acts.{Stays-counts_step, Stays-reads_items, Stays-prints_items, Follows, Follows-nothing}
use Rattle.rewrite.proofs.Acts.{Follows-then, Follows-writes, Follows-stores, Follows-begins_line}
use Rattle.rewrite.proofs.Acts.{Follows-skips_line, Follows-takes_word, Follows-counts_step, Follows-checks_range}
use Rattle.rewrite.proofs.Acts.{Follows-asks, Follows-repeated, Follows-for_each}
use Rattle.meaning_laws.proofs.profiles.Answering.{AnyValue, all_any}

abbrev pub IsOne : Store → Store → Type 0
IsOne s u = s ≡ u

-- from one store the act comes to one store, whatever the number of steps
abbrev pub Steady : Act → Type 0
Steady f = Follows IsOne IsOne f f

id : (s u : Store) → IsOne s u → IsOne s u
id s u e = e

asks : {A : Type 0} (line : ℕ) (q : Store → Result A Fault) (k : A → Act) → ((x : A) → Steady (k x)) → Steady (evaluates line q k)
asks line q k h = Follows-asks IsOne IsOne id line q q k k (λ s u e x g. subst (λ (r : Store). q r ≡ Ok x) e g) h

steady_stores : (c : Cell) (v : Value) → Steady (stores c v)
steady_stores c v = Follows-stores IsOne IsOne id c c v (λ s u e. ap (put c v) e)

checked : (width : Width) (line : ℕ) (v : Value) (k : Act) → Steady k → Steady (checks_range (fortran77 width) None line v k)
checked width line v k h = Follows-checks_range IsOne IsOne id (fortran77 width) line v k k (λ e. h)

counted : (width : Width) (k : Act) → Steady k → Steady (counts_step (fortran77 width) None k)
counted width k h = Follows-counts_step IsOne IsOne id (fortran77 width) k k h

-- ---- loops

steady_sets_variable : (width : Width) (line : ℕ) (x : List ℕ) (z : ℤ) → Steady (sets_variable (fortran77 width) None line x z)
steady_sets_variable width line x z = asks line (cell_at x []) _ (λ c. checked width line (Int z) _ (steady_stores c (Int z)))

steady_increases : (width : Width) (line : ℕ) (x : List ℕ) (m3 : ℤ) → Steady (increases (fortran77 width) None line x m3)
steady_increases width line x m3 = asks line (cell_at x []) _ (λ c. asks line _ _ (λ z. steady_sets_variable width line x z))

steady_turn : (width : Width) (line : ℕ) (x : List ℕ) (m3 : ℤ) (f : Act) → Steady f → Steady (turn (fortran77 width) None line x m3 f)
steady_turn width line x m3 f h = counted width _ (Follows-then IsOne IsOne id f f _ _ h (Stays-evaluates line _ _) (steady_increases width line x m3))

steady_loops : (width : Width) (line : ℕ) (x : List ℕ) (a b c : Expression) (f : Act) → Steady f → Steady (loops (fortran77 width) None line x a b c f)
steady_loops width line x a b c f h =
    asks line _ _ (λ m1. asks line _ _ (λ m2. asks line _ _ (λ m3.
    Follows-then IsOne IsOne id _ _ _ _ (steady_sets_variable width line x m1) (Stays-evaluates line _ _)
    (asks line _ _ (λ n. Follows-repeated IsOne n _ _ (steady_turn width line x m3 f h) (Stays-counts_step (fortran77 width) None _))))))

-- ---- READ

steady_reads_into : (width : Width) (line : ℕ) (c : Cell) → Steady (reads_into (fortran77 width) None line c)
steady_reads_into width line c = Follows-takes_word IsOne IsOne id line _ _ (λ w. asks line _ _ (λ v. checked width line v _ (counted width _ (steady_stores c v))))

mutual
  steady_reads_item : (width : Width) (i : Item) (line : ℕ) → Steady (reads_item (fortran77 width) None i line)
  steady_reads_item width (Single (Named x ps)) line = asks line _ _ (λ cs. Follows-for_each IsOne AnyValue cs _ _ (all_any cs) (λ c. Stays-takes_word line _) (λ c h. steady_reads_into width line c))
  steady_reads_item width (ImpliedDo is x a b c) line = steady_loops width line x a b c _ (steady_reads_items width is line)
  steady_reads_item width _ line = Follows-nothing IsOne IsOne id

  steady_reads_items : (width : Width) (is : Items) (line : ℕ) → Steady (reads_items (fortran77 width) None is line)
  steady_reads_items width no_items line = Follows-nothing IsOne IsOne id
  steady_reads_items width (item i is) line = Follows-then IsOne IsOne id _ _ _ _ (steady_reads_item width i line) (Stays-reads_items (fortran77 width) None is line) (steady_reads_items width is line)

-- ---- PRINT

steady_writes : (t : List ℕ) → Steady (writes t)
steady_writes t = Follows-writes IsOne IsOne id t

mutual
  steady_prints_item : (width : Width) (i : Item) (line : ℕ) → Steady (prints_item (fortran77 width) None i line)
  steady_prints_item width (Single e) line = asks line _ _ (λ vs. steady_writes (output_text vs))
  steady_prints_item width (Constant t) line = steady_writes t
  steady_prints_item width (ImpliedDo is x a b c) line = steady_loops width line x a b c _ (steady_prints_items width is line)

  steady_prints_items : (width : Width) (is : Items) (line : ℕ) → Steady (prints_items (fortran77 width) None is line)
  steady_prints_items width no_items line = Follows-nothing IsOne IsOne id
  steady_prints_items width (item i is) line = Follows-then IsOne IsOne id _ _ _ _ (steady_prints_item width i line) (Stays-prints_items (fortran77 width) None is line) (steady_prints_items width is line)

-- ---- statements

pub steady_assignment : (width : Width) (line : ℕ) (m : Option Mark) (left : Reference) (right : Expression) → Steady (does (fortran77 width) None (Assignment line m left right))
steady_assignment width line m left right =
    counted width _ (asks line _ _ (λ v. asks line _ _ (λ c. checked width line v _ (counted width _ (steady_stores c v)))))

pub steady_read : (width : Width) (line : ℕ) (is : Items) → Steady (does (fortran77 width) None (Read line is))
steady_read width line is = counted width _ (Follows-then IsOne IsOne id _ _ _ _ (Follows-begins_line IsOne IsOne id line)
    (Stays-then _ _ (Stays-reads_items (fortran77 width) None is line) Stays-skips_line)
    (Follows-then IsOne IsOne id _ _ _ _ (steady_reads_items width is line) Stays-skips_line (Follows-skips_line IsOne IsOne id)))

pub steady_print : (width : Width) (line : ℕ) (is : Items) → Steady (does (fortran77 width) None (Print line is))
steady_print width line is = counted width _ (Follows-then IsOne IsOne id _ _ _ _ (steady_writes (first_blank is))
    (Stays-then _ _ (Stays-prints_items (fortran77 width) None is line) (Stays-writes (10 ∷ [])))
    (Follows-then IsOne IsOne id _ _ _ _ (steady_prints_items width is line) (Stays-writes (10 ∷ [])) (steady_writes (10 ∷ []))))
