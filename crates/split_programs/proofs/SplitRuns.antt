-- The statements of a split program do what those of its source do.
use Rattle.std.proofs.Common.{◌≡◌, refl, sym, ap, ◌∙◌, subst, inl, inr, ℕ, ◌≤◌, false, List, [], ◌∷◌, ◌++◌, Option, None, arith}
use Rattle.find_nests.specs.Found.{InNest, nest_of_loop}
use Rattle.find_nests.specs.Loops.{Numbered, SourceLoop, as_statement}
use Rattle.index_split.specs.Answers.{IsAnswerTo}
use Rattle.index_split.specs.Filled.{filled_in}
use Rattle.index_split.specs.Split.{IsSplitTo}
use Rattle.index_split.specs.declared.answers.Answer.{Answer}
use Rattle.index_split.specs.declared.answers.Answer.TheVariants.{Cut, Outer, Whole}
use Rattle.meaning.proofs.Kept.{Keeps}
use Rattle.meaning.proofs.Widths.{widest}
use Rattle.meaning.specs.Blocks.{Surroundings, before_labels, labels_of, outermost, within_loop}
use Rattle.meaning.specs.Array.{array_run}
use Rattle.meaning.specs.Dialect.{Dialect, fortran77}
use Rattle.meaning.specs.Profile77.{AreArms, AreDeclarations, IsBlock, IsStatement}
use Rattle.meaning.specs.Run.{Act, State, chooses, does, does_all, opening_state, run}
use Rattle.meaning.specs.Sequential.{EndsWell, sequential_run}
use Rattle.tree.specs.declared.width.Width.{Width}
use Rattle.meaning.specs.Store.{Agree, Store}
use Rattle.meaning.specs.Value.{truth_of}
use Rattle.meaning_laws.proofs.dialects.Runs.{source_has_one_run}
use Rattle.meaning_laws.proofs.profiles.Answering.{AnyFault}
use Rattle.meaning_laws.proofs.profiles.Parts.{Good}
use Rattle.meaning_laws.proofs.profiles.Programs.{as_it_stands}
use Rattle.meaning_laws.proofs.profiles.Stores.{opening_holds}
use Rattle.meaning_laws.proofs.profiles.TargetRuns.{any_rest, block_fine}
use Rattle.meaning_laws.proofs.profiles.Targets.{block_is}
use Rattle.meaning_laws.proofs.profiles.Walks.{ArmsAreFine, BlockIsFine, IsFine, keeps_does_all}
use Rattle.nest.specs.Plain.{Nest}
use Rattle.split_laws.proofs.LoopAnswers.{split_program_is_split}
use Rattle.split_laws.specs.Split.{AreArmsSplit, IsAnswered, IsBlockSplit, IsInstead, IsSplit}
use Rattle.split_programs.proofs.Cuts.{cut_runs}
use Rattle.split_programs.proofs.SplitProfiles.{split_program_is_of_profile}
use Rattle.split_programs.proofs.Same.{Same, Same-refl, Same-counts_step, Same-either, Same-evaluates, Same-loops, Same-then}
use Rattle.split_programs.specs.Runs.{MeaningIsHandedOn, SplitProgramRunsAsSource}
use Rattle.tree.specs.Plain.{Allocate, Arms, Assignment, Block, Deallocate, Do, GoTo, If, Label, Print, Program, Read, Statement, Stop, Where, arm, block, no_arms, no_statements, statement}

module _ (lang own : Dialect) (limit : Option ℕ) (plain : lang.arrays ≡ false) (few : lang.bits ≤ 63) (p : Program) (are : AreDeclarations own p.declarations) where
  abbrev AreSame : Act → Act → Type 0
  AreSame f g = Same lang limit p f g

  -- one statement in the place of another
  alone : (c d : Statement) (cs : List Statement) → cs ≡ d ∷ [] → AreSame (does lang limit c) (does lang limit d) → AreSame (does lang limit c) (does_all lang limit (block cs))
  alone c d cs e h = subst (λ (ds : List Statement). AreSame (does lang limit c) (does_all lang limit (block ds))) (sym e) (record { at = λ s q. h.at s q })

  unchanged : (c : Statement) (cs : List Statement) → cs ≡ c ∷ [] → AreSame (does lang limit c) (does_all lang limit (block cs))
  unchanged c cs e = alone c c cs e (Same-refl lang limit p (does lang limit c))

  all-append : (cs ds : List Statement) (s : State) → does_all lang limit (block (cs ++ ds)) s ≡ does_all lang limit (block ds) (does_all lang limit (block cs) s)
  all-append [] ds s = refl
  all-append (c ∷ cs) ds s = all-append cs ds (does lang limit c s)

  -- ---- a loop of a nest

  answered : (number : ℕ) (place : Numbered) (w : Surroundings) (cs : List Statement) (a : Answer) → IsStatement p.declarations (as_statement place.loop) w
      → IsAnswerTo (InNest (nest_of_loop p number place)) a → IsInstead place.loop a cs → AreSame (does lang limit (as_statement place.loop)) (does_all lang limit (block cs))
  answered number place w cs Outer h right e = absurd e
  answered number place w cs Whole h right e = unchanged (as_statement place.loop) cs e
  answered number place w cs (Cut ps) h right (inl e) =
      subst (λ (ds : List Statement). AreSame (does lang limit (as_statement place.loop)) (does_all lang limit (block ds))) (sym e.1)
      (record { at = λ s q. cut_runs lang own limit plain few p are number place w h e.0 ps right s q.store })
  answered number place w cs (Cut ps) h right (inr e) = unchanged (as_statement place.loop) cs e.1

  in_nest : (l : SourceLoop) (w : Surroundings) (cs : List Statement) → IsStatement p.declarations (as_statement l) w → IsAnswered p l cs → AreSame (does lang limit (as_statement l)) (does_all lang limit (block cs))
  in_nest l w cs h a =
      subst (λ (k : SourceLoop). AreSame (does lang limit (as_statement k)) (does_all lang limit (block cs))) a.loop
      (answered a.nest.number a.place w cs a.answer
      (subst (λ (k : SourceLoop). IsStatement p.declarations (as_statement k) w) (sym a.loop) h)
      (subst (λ (n : Nest). IsAnswerTo (InNest n) a.answer) a.is a.right)
      (subst (λ (k : SourceLoop). IsInstead k a.answer cs) (sym a.loop) a.instead))

  -- ---- statements

  abbrev StatementIsFine : Statement → Type 0
  StatementIsFine c = IsFine lang limit p AnyFault any_rest c

  keeps : (c : Statement) → StatementIsFine c → Keeps (Good lang limit p AnyFault any_rest) (does lang limit c)
  keeps c f = record { at = λ s q. (keeps_does_all lang limit p AnyFault any_rest (statement c no_statements) (f, tt)).at s q }

  mutual
    does_same : (c : Statement) (cs : List Statement) (w : Surroundings) → IsStatement p.declarations c w → IsFine lang limit p AnyFault any_rest c → IsSplit p c cs
        → AreSame (does lang limit c) (does_all lang limit (block cs))
    does_same (Assignment line mark left right) cs w h f e = unchanged (Assignment line mark left right) cs e
    does_same (Where line mark mask left right) cs w h f e = unchanged (Where line mark mask left right) cs e
    does_same (If line arms other) cs w h f e =
        alone (If line arms other) (If line e.0 (block e.1)) cs e.2
        (chooses_same line arms e.0 w (does_all lang limit other) (does_all lang limit (block e.1)) h.2 f.0 e.3 (all_same other e.1 w h.3 f.1 e.4))
    does_same (Do line x a b c body) cs w h f (inl e) =
        alone (Do line x a b c body) (Do line x a b c (block e.1.0)) cs e.1.1
        (Same-loops lang limit p line x f.0.0 a b c (does_all lang limit body) (does_all lang limit (block e.1.0)) (all_same body e.1.0 (within_loop x w) h.5 f.1 e.1.2)
        (keeps_does_all lang limit p AnyFault any_rest body f.1))
    does_same (Do line x a b c body) cs w h f (inr e) = in_nest (record { line = line; variable = x; first = a; last = b; step = c; body = body }) w cs h e.1
    does_same (Label n) cs w h f e = unchanged (Label n) cs e
    does_same (GoTo line n) cs w h f e = unchanged (GoTo line n) cs e
    does_same (Stop line) cs w h f e = unchanged (Stop line) cs e
    does_same (Read line is) cs w h f e = unchanged (Read line is) cs e
    does_same (Print line is) cs w h f e = unchanged (Print line is) cs e
    does_same (Allocate line x es) cs w h f e = unchanged (Allocate line x es) cs e
    does_same (Deallocate line x) cs w h f e = unchanged (Deallocate line x) cs e

    chooses_same : (line : ℕ) (arms ms : Arms) (w : Surroundings) (f g : Act) → AreArms p.declarations arms w → ArmsAreFine lang limit p AnyFault any_rest arms → AreArmsSplit p arms ms → AreSame f g
        → AreSame (chooses lang limit line arms f) (chooses lang limit line ms g)
    chooses_same line no_arms ms w f g h k e same = subst (λ (ns : Arms). AreSame f (chooses lang limit line ns g)) (sym e) same
    chooses_same line (arm test body arms) ms w f g h k e same =
        subst (λ (ns : Arms). AreSame (chooses lang limit line (arm test body arms) f) (chooses lang limit line ns g)) (sym e.2)
        (Same-counts_step lang limit p _ _ (Same-evaluates lang limit p line (truth_of lang test) _ _ (λ b.
        Same-either lang limit p b _ _ _ _ (all_same body e.0 w h.1 k.1 e.3) (chooses_same line arms e.1 w f g h.2 k.2 e.4 same))))

    all_same : (b : Block) (cs : List Statement) (w : Surroundings) → IsBlock p.declarations b w → BlockIsFine lang limit p AnyFault any_rest b → IsBlockSplit p b cs
        → AreSame (does_all lang limit b) (does_all lang limit (block cs))
    all_same no_statements cs w h f e = subst (λ (ds : List Statement). AreSame (does_all lang limit no_statements) (does_all lang limit (block ds))) (sym e) (record { at = λ s q. refl })
    all_same (statement c b) cs w h f e =
        let first = does_same c e.0 (before_labels (labels_of b) w) h.0 f.0 e.3 in
        let rest = all_same b e.1 w h.1 f.1 e.4 in
        let both = Same-then lang limit p (does lang limit c) (does_all lang limit (block e.0)) (does_all lang limit b) (does_all lang limit (block e.1)) first (keeps c f.0) rest in
        subst (λ (ds : List Statement). AreSame (does_all lang limit (statement c b)) (does_all lang limit (block ds))) (sym e.2)
        (record { at = λ s q. all-append e.0 e.1 s ∙ both.at s q })

-- ---- programs

pub split_program_runs_as_source : SplitProgramRunsAsSource
split_program_runs_as_source lang own limit p q input few is split =
    let other : Dialect = record { bits = lang.bits; arrays = false } in
    let parts = split_program_is_split p q split in
    let fine = block_fine other p limit p.body outermost (block_is p.declarations p.declarations (as_it_stands own p is) p.body outermost is.statements) in
    let same = (all_same other own limit refl few p is.declarations p.body parts.0 outermost is.statements fine parts.2).at (opening_state p input) (record { store = opening_holds other p; way = tt }) in
    source_has_one_run lang other own limit q input refl (split_program_is_of_profile own p q is split)
    ∙ (ap (λ (r : Program). run other limit r input) parts.1
    ∙ (same ∙ sym (source_has_one_run lang other own limit p input refl is)))

-- ---- meanings

other_body : (p : Program) (b : Block) (x y : Store) → Agree (record p { body = b }) x y → Agree p x y
other_body p b x y a = record { bounds = a.bounds; held = a.held; kinds = a.kinds }

same_names : (p s : Program) (x y : Store) → IsSplitTo p s → Agree s x y → Agree p x y
same_names p s x y split a = other_body p (block (filled_in split.answers 0 p.body)) x y (subst (λ (r : Program). Agree r x y) split.is a)

pub meaning_is_handed_on : (width : Width) → MeaningIsHandedOn width
meaning_is_handed_on width p s q input is split k =
    let e : sequential_run width s input ≡ sequential_run width p input = split_program_runs_as_source (fortran77 width) (fortran77 width) None p s input (widest width) is split in
    record {
      ends = λ w. k.ends (subst EndsWell (sym e) w);
      output = λ w. ap (λ (u : State). u.written) (sym e) ∙ k.output (subst EndsWell (sym e) w);
      store = λ w.
          subst (λ (u : State). Agree p u.store (array_run width q input).store) e
          (same_names p s (sequential_run width s input).store (array_run width q input).store split (k.store (subst EndsWell (sym e) w)));
    }
