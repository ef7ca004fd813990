-- The nest with all its symbols comes to the same moment as the nest.
use Rattle.std.proofs.Common.{◌≡◌, refl, sym, ap, ◌∙◌, subst, ℕ, ◌+◌, ◌≤◌, Bool, List, [], ◌∷◌, ◌++◌, map, Ok, Option, Some, None, arith}
use Rattle.tree.specs.Operators.{as_truth}
use Rattle.tree.specs.Plain.{Expression, Reference, Statement, Block, statement}
use Rattle.meaning.specs.Dialect.{fortran77}
use Rattle.tree.specs.declared.width.Width.{Width}
use Rattle.meaning.specs.Run.{State, assigns, does, does_all}
use Rattle.meaning.specs.Store.{Store, Cell, cell_at}
use Rattle.meaning.specs.Value.{cell_named, subscript_values, truth_of, value_of}
use Rattle.rewrite.specs.Following.{IsSound, sequential}
use Rattle.rewrite.specs.Making.{made, made_left, made_subscripts}
use Rattle.rewrite.proofs.Acts.{Stays-does_all, Stays-nothing}
use Rattle.rewrite.proofs.Values.{joined, parted}
use Rattle.linear_forms.specs.Canonical.{canonising}
use Rattle.linear_forms.specs.Laws.{HoldsSized}
use Rattle.nest.specs.Blocks.{block_of_parts, guarded_statement, numeral, statement_of_part}
use Rattle.nest.specs.Plain.{Guarded, Loop, Nest, Part, Run, Turns, Choice, Label, Jump, Parts, no_parts, part, parts}
use Rattle.nest_order.specs.shapes.Shapes.{ArePlain, IsPlain}
use Rattle.nest_rewrite.specs.Statements.{rewritten_statement}
use Rattle.nest_steps.specs.Mapped.{count_of, mapped_parts_of, mapped_in}
use Rattle.nest_steps.proofs.Mapped.{does_joined}
use Rattle.pass_laws.proofs.NormalValues.Replaced.{canonical_subscripts, canonical_value}
use Rattle.statement_passes.specs.Passes.{mapped_body}
use Rattle.statement_passes.specs.Shifted.{with_nest_symbol, with_nest_symbols}
use Rattle.statement_passes.specs.Symbols.{place_among}
use Rattle.statement_passes.proofs.Shifting.{shifted_runs_alike}
use Rattle.statement_passes.proofs.Standings.{symbol_leaves_nest}
use Rattle.symbols_anew.specs.Found.{new_symbols}
use Rattle.symbols_anew.specs.Nests.{each_canonised, with_new, with_symbols_found, with_texts}
use Rattle.prepared_passes.specs.symbols.Laws.{NestWithSymbolsRunsAlike}
use Rattle.prepared_passes.proofs.SymbolsAnew.Acts.{Alike, alike_checks, alike_counts, alike_either, alike_evaluates, alike_loops, alike_nothing, alike_stores, alike_then}
use Rattle.tree.specs.Widths.{bits_of}
use Rattle.meaning.proofs.Widths.{widest}

module _ (bits : ℕ) (few : bits ≤ 63) (symbols : List (List ℕ)) where
  -- ---- statements

  module _ (loops : List (List ℕ)) where
    abbrev settled : Expression → Expression
    settled = made (canonising loops symbols)

    cell_kept : (r : Reference) (s : Store) → HoldsSized s → (c : Cell) → cell_named (sequential bits) r s ≡ Ok c
        → cell_named (sequential bits) (made_left (canonising loops symbols) r) s ≡ Ok c
    cell_kept r s h c e =
        let p = parted (subscript_values (sequential bits) r.subscripts s) (λ is. cell_at r.name is s) c e in
        joined (subscript_values (sequential bits) (made_subscripts (canonising loops symbols) r.subscripts) s)
        (λ is. cell_at r.name is s) p.part c (canonical_subscripts bits loops symbols s h r.subscripts p.part p.first) p.second

    truth_kept : (e : Expression) (s : Store) → HoldsSized s → (b : Bool) → truth_of (sequential bits) e s ≡ Ok b
        → truth_of (sequential bits) (settled e) s ≡ Ok b
    truth_kept e s h b g =
        let p = parted (value_of (sequential bits) e s) as_truth b g in
        joined (value_of (sequential bits) (settled e) s) as_truth p.part b
        (canonical_value bits loops symbols s h e p.part p.first) p.second

    alike_assigns : (line : ℕ) (r : Reference) (e : Expression)
        → Alike (assigns (sequential bits) None line r e)
        (assigns (sequential bits) None line (made_left (canonising loops symbols) r) (settled e))
    alike_assigns line r e =
        alike_evaluates line _ _ _ _ (λ s h v g. canonical_value bits loops symbols s h e v g)
        (λ v. alike_evaluates line _ _ _ _ (λ s h c g. cell_kept r s h c g)
        (λ c. alike_checks (sequential bits) line v _ _
        (λ q. alike_counts (sequential bits) _ _ (alike_stores bits few c v q))))

    alike_statement : (g : Guarded)
        → Alike (does (sequential bits) None (guarded_statement g))
        (does (sequential bits) None (guarded_statement (rewritten_statement (canonising loops symbols) g)))
    alike_statement g = by g.guard
      where
        by : (o : Option Expression)
            → Alike (does (sequential bits) None (guarded_statement (record g { guard = o })))
            (does (sequential bits) None
            (guarded_statement (rewritten_statement (canonising loops symbols) (record g { guard = o }))))
        by None = alike_counts (sequential bits) _ _ (alike_assigns g.line g.left g.right)
        by (Some e) =
            alike_counts (sequential bits) _ _
            (alike_evaluates g.line _ _ _ _ (λ s h b k. truth_kept e s h b k)
            (λ b. alike_either b _ _ _ _
            (alike_then _ _ _ _ (alike_counts (sequential bits) _ _ (alike_assigns g.line g.left g.right))
            Stays-nothing alike_nothing)
            alike_nothing))

  -- ---- parts

  module _ (line : ℕ) where
    abbrev each : List Loop → ℕ → Guarded → List Guarded
    each = each_canonised symbols

    mutual
      alike_part : (ls : List Loop) (k : ℕ) (p : Part) → IsPlain p
          → Alike (does (sequential bits) None (statement_of_part line p))
          (does_all (sequential bits) None (block_of_parts line (parts (mapped_parts_of each ls k p))))
      alike_part ls k (Run g) h = alike_statement (map (λ (l : Loop). l.variable) ls) g
      alike_part ls k (Turns l ps) h =
          alike_loops bits few line l.variable l.first l.last (numeral l.step) _ _ (alike_parts (ls ++ l ∷ []) k ps h.1)
      alike_part ls k (Choice bs ps) h = absurd h
      alike_part ls k (Label n) h = absurd h
      alike_part ls k (Jump n) h = absurd h

      alike_parts : (ls : List Loop) (k : ℕ) (ps : Parts) → ArePlain ps
          → Alike (does_all (sequential bits) None (block_of_parts line ps))
          (does_all (sequential bits) None (block_of_parts line (parts (mapped_in each ls k ps))))
      alike_parts ls k no_parts h = alike_nothing
      alike_parts ls k (part p ps) h =
          let both =
          alike_then _ _ _ _ (alike_part ls k p h.0) (Stays-does_all (sequential bits) None (block_of_parts line ps))
          (alike_parts ls (k + count_of p) ps h.1) in
          record {
            at = λ s z e.
                let m = both.at s z e in
                (does_joined bits line (mapped_parts_of each ls k p) (mapped_in each ls (k + count_of p) ps) s ∙ m.0, m.1);
          }

    -- the loops themselves
    alike_body : (p : Part) → IsPlain p → (s : State) → HoldsSized s.store
        → IsSound (does (sequential bits) None (statement_of_part line p) s).way
        → does (sequential bits) None (statement_of_part line (mapped_body each p)) s
        ≡ does (sequential bits) None (statement_of_part line p) s
    alike_body (Run g) h s z e = refl
    alike_body (Turns l ps) h s z e = ((alike_part [] 0 (Turns l ps) h).at s z e).0
    alike_body (Choice bs ps) h s z e = absurd h
    alike_body (Label n) h s z e = absurd h
    alike_body (Jump n) h s z e = absurd h

-- ---- symbols that come in

record IsAsBefore (n m : Nest) : Type 0 where
  line : m.line ≡ n.line
  after : m.after ≡ n.after
  plain : IsPlain m.body
  runs : (line : ℕ) → statement_of_part line m.body ≡ statement_of_part line n.body

with_symbol_before : (n : Nest) (x : List ℕ) → IsPlain n.body → IsAsBefore n (with_nest_symbol n x)
with_symbol_before n x h = record {
  line = refl;
  after = refl;
  plain = (symbol_leaves_nest n x h).plain;
  runs = λ line. shifted_runs_alike line (place_among n.symbols x) n.body;
}

with_symbols_before : (n : Nest) (xs : List (List ℕ)) → IsPlain n.body → IsAsBefore n (with_nest_symbols n xs)
with_symbols_before n [] h = record { line = refl; after = refl; plain = h; runs = λ line. refl }
with_symbols_before n (x ∷ xs) h =
    let one = with_symbol_before n x h in
    let more = with_symbols_before (with_nest_symbol n x) xs one.plain in
    record {
      line = more.line ∙ one.line;
      after = more.after ∙ one.after;
      plain = more.plain;
      runs = λ line. more.runs line ∙ one.runs line;
    }

-- ---- the nest

abbrev run_of : (width : Width) → ℕ → Part → Block → State → State
run_of width line p after s = does_all (fortran77 width) None (statement (statement_of_part line p) after) s

same_runs : (width : Width) (n m : Nest) → IsAsBefore n m → (s : State) → run_of width m.line m.body m.after s ≡ run_of width n.line n.body n.after s
same_runs width n m b s =
    ap (λ l. run_of width l m.body m.after s) b.line
    ∙ (ap (λ (c : Block). run_of width n.line m.body c s) b.after
    ∙ ap (λ (c : Statement). does_all (fortran77 width) None (statement c n.after) s) (b.runs n.line))

pub texts_run_alike : (width : Width) (m : Nest) (s : State) → IsPlain m.body → HoldsSized s.store
    → IsSound (run_of width m.line m.body m.after s).way
    → run_of width (with_texts m).line (with_texts m).body (with_texts m).after s ≡ run_of width m.line m.body m.after s
texts_run_alike width m s h z e =
    ap (λ (t : State). does_all (fortran77 width) None m.after t)
    (alike_body (bits_of width) (widest width) m.symbols m.line m.body h s z
    ((Stays-does_all (fortran77 width) None m.after).at (does (fortran77 width) None (statement_of_part m.line m.body) s) e))

new_runs_alike : (width : Width) (n : Nest) (xs : List (List ℕ)) (s : State) → IsPlain n.body → HoldsSized s.store
    → IsSound (run_of width n.line n.body n.after s).way
    → run_of width (with_new n xs).line (with_new n xs).body (with_new n xs).after s ≡ run_of width n.line n.body n.after s
new_runs_alike width n [] s h z e = refl
new_runs_alike width n (x ∷ xs) s h z e =
    let m = with_nest_symbols n (x ∷ xs) in
    let b = with_symbols_before n (x ∷ xs) h in
    let same = same_runs width n m b s in
    texts_run_alike width m s b.plain z (subst (λ (t : State). IsSound t.way) (sym same) e) ∙ same

pub nest_with_symbols_runs_alike : (width : Width) → NestWithSymbolsRunsAlike width
unfolding with_symbols_found
nest_with_symbols_runs_alike width before n s h z e = new_runs_alike width n (new_symbols before n) s h z e
