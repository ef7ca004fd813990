-- A translated program is marked as its listing has it.
use Rattle.std.proofs.Common.{◌≡◌, refl, sym, ap, ap₂, subst, ◌∙◌, ℕ, zero, suc, ◌≤◌, ◌<◌, arith, true, not, ◌&&◌}
use Rattle.std.proofs.Common.{Option, None, Some, Bool, List, [], map, length, Contains}
use Rattle.std.specs.Prelude.{is_some}
use Rattle.meaning_laws.proofs.arrays.Members.{in_map}
use Rattle.components.proofs.ListLaws.{Each-from}
use Rattle.components.specs.Lists.{Distinct, IsMember}
use Rattle.dependence_graph.specs.declared.graphs.Graph.{Graph}
use Rattle.emission.proofs.EmissionMarks.Pieces.{emission_is_marked}
use Rattle.emission.proofs.EmissionMarks.Together.{emission_keeps_together}
use Rattle.emission.specs.emission_marks.Marks.{Marked, Round, marked_at, marked_in}
use Rattle.emission.specs.emission_pieces.Pieces.{Pieces, translation}
use Rattle.find_nests.proofs.FoundLaws.{found_nest_is_loop}
use Rattle.find_nests.specs.Found.{Found, InNest, found_in}
use Rattle.find_nests.specs.Loops.{SurroundedLoop, loops_in_block}
use Rattle.find_nests.specs.declared.reasons.Reason.{Reason}
use Rattle.meaning.specs.Blocks.{outermost}
use Rattle.meaning.specs.Dialect.{fortran77}
use Rattle.tree.specs.declared.width.Width.{Width}
use Rattle.meaning.specs.Profile77.{IsProgram77}
use Rattle.tree.specs.Plain.{Block, Declaration, Program, block}
use Rattle.translation.proofs.LoopNumbers.Behind.{next_from_one}
use Rattle.translation.proofs.LoopNumbers.Nests.{loops_are_numbered, nests_are_numbered}
use Rattle.translation.specs.loop_numbers.Numbers.{loop_number, nests_among}
use Rattle.translation.specs.loop_placing.Placing.{block_at, placed_in}
use Rattle.translation.proofs.NestBlocks.Blocks.{each_right}
use Rattle.translation.specs.nest_blocks.Answers.{AreAnswers, ArePlaced, Puts, nests_by}
use Rattle.find_nests.specs.nest_parts.Numbers.{next_loop_number}
use Rattle.nest.specs.Bodies.{nest_statements}
use Rattle.nest.specs.Plain.{Nest}
use Rattle.listing.specs.programs.Listing.{ListedNest, no_counts}
use Rattle.meaning_laws.proofs.profiles.Lists.{nowhere}
use Rattle.translation.specs.nest_blocks.LoopAnswers.{LoopAnswer, Kept, Translated, found_by}
use Rattle.translation.specs.program_translation.Translated.{IsPlacedBy}
use Rattle.translation.specs.program_marks.Laws.{TranslationIsMarked}
use Rattle.translation.specs.program_marks.Marks.{AreBlocksOf, AreOfNests, HasBlock, IsMarkedAsListed, IsMarkedByGraph}
use Rattle.translation.specs.program_marks.Marks.{IsNumbered, IsOfNests, StandsMarked, mark_numbers_of, within, without_line}
use Rattle.translation.proofs.ProgramMarks.Answers.{among_listed, by_answer}
use Rattle.translation.proofs.ProgramMarks.Found.{among_nests, among_numbers, numbers_are, of_found, same_nest}
use Rattle.translation.proofs.ProgramMarks.Members.{IsOfBlock, keys_are, one_of, stands_in}
use Rattle.translation.proofs.ProgramMarks.Nests.{marked_by_graph}
use Rattle.translation.proofs.ProgramMarks.Once.{AreKeysOf, HasOwnKeys, keys_of_nest, keys_once}
use Rattle.translation.proofs.ProgramMarks.Placed.{AreNests, AreOfBlocks, block_marks, is_nest, marks_of}

module _ (width : Width) (p : Program) (answers : List LoopAnswer) (blocks : List (Option Block)) (program : IsProgram77 (fortran77 width) p)
    (are : AreAnswers p answers) (placed : ArePlaced answers blocks) where
  -- ---- one nest

  found : (n m : Nest) (g : Graph) (ps : Pieces) → Contains answers (Translated n m g ps)
      → Contains (found_in p) (InNest n)
  found n m g ps c =
      subst (λ (fs : List Found). Contains fs (InNest n)) are.found (in_map found_by answers (Translated n m g ps) c)

  marked_nest : (n m : Nest) (g : Graph) (ps : Pieces) → Contains answers (Translated n m g ps)
      → IsMarkedByGraph (record { found = n; normal = m; graph = g }) (translation m ps)
  marked_nest n m g ps c =
      let right = each_right no_counts answers (Translated n m g ps) are.right c in
      marked_by_graph width p right.0 n m g ps program (found n m g ps c) right.1 emission_is_marked emission_keeps_together

  -- what stands in the place of the loop with this number
  record HasNest (k : ℕ) (t : Block) : Type 0 where
    nest : Nest
    normal : Nest
    graph : Graph
    pieces : Pieces
    among : Contains answers (Translated nest normal graph pieces)
    number : loop_number nest ≡ k
    is : t ≡ translation normal pieces

  nest_at : (k : ℕ) (t : Block) → 1 ≤ k → block_at blocks k ≡ Some t → HasNest k t
  nest_at k t from e = let w = placed.only k t from e in by w.0 w.1 w.2
    where
      by : (a : LoopAnswer) → Contains answers a → Puts a k t → HasNest k t
      by (Translated n m g ps) c puts = record {
        nest = n;
        normal = m;
        graph = g;
        pieces = ps;
        among = c;
        number = (let h = puts.found in let same : n ≡ puts.nest = cc in ap loop_number same ∙ puts.number);
        is = (let h = puts.block in let same : t ≡ translation m ps = cc in same);
      }
      by (Kept line r) c puts = let h = puts.block in let no : ⊥ = cc in absurd no

  -- the block at 0 is that at 1
  some_nest : (k : ℕ) (t : Block) → block_at blocks k ≡ Some t → (j : ℕ) × HasNest j t
  some_nest zero t e = (1, nest_at 1 t (omega arith) e)
  some_nest (suc k) t e = (suc k, nest_at (suc k) t (omega arith) e)

  -- ---- all of them

  abbrev loops : List SurroundedLoop
  loops = loops_in_block 0 [] p.body

  abbrev nests : List Nest
  nests = nests_among (found_in p)

  are_nests : AreNests blocks p.declarations loops
  are_nests z t c e =
      let w = nest_at (next_loop_number z.loop.before) t (next_from_one z.loop.before) e in
      let f = found_nest_is_loop p w.nest (found w.nest w.normal w.graph w.pieces w.among) in
      let same : f.loop ≡ z =
      loops_are_numbered width p f.loop z program f.stands c (sym (ap loop_number f.is) ∙ w.number) in
      subst (λ (y : SurroundedLoop). is_nest p.declarations y ≡ true) same
      (ap₂ (λ (b : Bool) (o : Option Reason). b && not (is_some o)) f.outermost f.no_reason)

  abbrev body : Block
  body = block (placed_in blocks 0 p.body)

  all_marks : AreOfBlocks blocks (marked_in [] body) (map loop_number nests)
  all_marks =
      subst (AreOfBlocks blocks (marked_in [] body)) (numbers_are p loops 0)
      (block_marks blocks p.declarations p.body 0 [] outermost [] program.statements are_nests)

  -- a marked statement of what stands in the place of a nest, within what stands round that
  record IsOfNest (x : Marked) : Type 0 where
    nest : Nest
    normal : Nest
    graph : Graph
    pieces : Pieces
    among : Contains answers (Translated nest normal graph pieces)
    outer : List Round
    own : Marked
    stands : Contains (marked_in [] (translation normal pieces)) own
    is : x ≡ within outer own

  record StandsWithin (own : Marked) : Type 0 where
    outer : List Round
    stands : Contains (marked_in [] body) (within outer own)

  of_nest : (x : Marked) → Contains (marked_in [] body) x → IsOfNest x
  of_nest x c =
      let s = one_of blocks (marked_in [] body) (map loop_number nests) all_marks x c in
      by s (block_at blocks s.number) refl s.stands
    where
      by : (s : IsOfBlock blocks x) (o : Option Block) → block_at blocks s.number ≡ o → Contains (marks_of o) s.own
          → IsOfNest x
      by s None e i = absurd (nowhere s.own i)
      by s (Some t) e i =
          let w = (some_nest s.number t e).1 in
          record {
            nest = w.nest;
            normal = w.normal;
            graph = w.graph;
            pieces = w.pieces;
            among = w.among;
            outer = s.outer;
            own = s.own;
            stands = subst (λ b. Contains (marked_in [] b) s.own) w.is i;
            is = s.is;
          }

  stands_within : (n m : Nest) (g : Graph) (ps : Pieces) (x : Marked) → Contains answers (Translated n m g ps)
      → Contains (marked_in [] (translation m ps)) x → StandsWithin x
  stands_within n m g ps x c i =
      let e = placed.each (Translated n m g ps) (loop_number n) (translation m ps) c
      (record { nest = n; found = refl; number = refl; block = refl }) in
      let s = stands_in blocks (marked_in [] body) (map loop_number nests) all_marks (loop_number n)
      (among_numbers nests n (among_nests (found_in p) n (found n m g ps c))) x
      (subst (λ o. Contains (marks_of o) x) (sym e) i) in
      record { outer = s.0; stands = s.1 }

  only : (x : Marked) → Contains (marked_in [] body) x → IsOfNests (nests_by answers) x
  only x c =
      let o = of_nest x c in
      let h = (marked_nest o.nest o.normal o.graph o.pieces o.among).marked.only o.own o.stands in
      record {
        nest = record { found = o.nest; normal = o.normal; graph = o.graph };
        among = among_listed answers o.nest o.normal o.graph o.pieces o.among;
        statement = h.0;
        there = h.2;
        at = record {
          level = h.1;
          is_level = h.3;
          outer = o.outer;
          is = ap without_line (o.is ∙ ap (within o.outer) h.4);
        };
      }

  each : (t : ListedNest) (s : ℕ) → Contains (nests_by answers) t → s < length (nest_statements t.normal)
      → StandsMarked body t s
  each t s c lt =
      let a = by_answer answers t c in
      let h = (marked_nest t.found t.normal t.graph a.pieces a.among).marked.each s lt in
      let w = stands_within t.found t.normal t.graph a.pieces (marked_at t.normal s h.0) a.among h.2 in
      record {
        it = within w.outer (marked_at t.normal s h.0);
        stands = w.stands;
        at = record { level = h.0; is_level = h.1; outer = w.outer; is = refl };
      }

  -- ---- what stands in their place

  blocks_of_nests : AreBlocksOf (nests_by answers) blocks
  blocks_of_nests = record { only = numbered; each = has_block }
    where
      numbered : (k : ℕ) (b : Block) → 1 ≤ k → block_at blocks k ≡ Some b → IsNumbered (nests_by answers) k
      numbered k b from e =
          let w = nest_at k b from e in
          record {
            nest = record { found = w.nest; normal = w.normal; graph = w.graph };
            among = among_listed answers w.nest w.normal w.graph w.pieces w.among;
            number = w.number;
          }

      has_block : (t : ListedNest) → Contains (nests_by answers) t → HasBlock blocks t
      has_block t c =
          let a = by_answer answers t c in
          record {
            block = translation t.normal a.pieces;
            there =
                placed.each (Translated t.found t.normal t.graph a.pieces) (loop_number t.found)
                (translation t.normal a.pieces) a.among
                (record { nest = t.found; found = refl; number = refl; block = refl });
            marked = marked_nest t.found t.normal t.graph a.pieces a.among;
          }

  -- ---- no mark stands twice

  own_keys : (n : Nest) → IsMember n nests → HasOwnKeys blocks n
  own_keys n i = by (block_at blocks (loop_number n)) refl
    where
      from : 1 ≤ loop_number n
      from =
          let f = found_nest_is_loop p n (of_found (found_in p) n i) in
          subst (λ k. 1 ≤ k) (sym (ap loop_number f.is)) (next_from_one f.loop.loop.before)

      of_block : (t : Block) → HasNest (loop_number n) t → AreKeysOf n.number (map mark_numbers_of (marked_in [] t))
      of_block t w =
          let among = among_nests (found_in p) w.nest (found w.nest w.normal w.graph w.pieces w.among) in
          let same = same_nest nests (nests_are_numbered width p program) w.nest n among i w.number in
          let is = marked_nest w.nest w.normal w.graph w.pieces w.among in
          subst (λ k. AreKeysOf k (map mark_numbers_of (marked_in [] t))) (is.number ∙ ap (λ (m : Nest). m.number) same)
          (subst (λ b. AreKeysOf w.normal.number (map mark_numbers_of (marked_in [] b))) (sym w.is)
          (keys_of_nest w.normal w.graph.edges _ (marked_in [] (translation w.normal w.pieces)) is.marked))

      by : (o : Option Block) → block_at blocks (loop_number n) ≡ o → HasOwnKeys blocks n
      by None e = subst (λ o. AreKeysOf n.number (map mark_numbers_of (marks_of o))) (sym e) (record { once = tt; own = tt })
      by (Some t) e =
          subst (λ o. AreKeysOf n.number (map mark_numbers_of (marks_of o))) (sym e)
          (of_block t (nest_at (loop_number n) t from e))

  once : Distinct (map mark_numbers_of (marked_in [] body))
  once =
      subst Distinct (sym (keys_are blocks (marked_in [] body) (map loop_number nests) all_marks))
      (keys_once blocks nests (nests_are_numbered width p program) (Each-from (HasOwnKeys blocks) nests own_keys))

  marks : AreOfNests (nests_by answers) body
  marks = record { only = only; each = each; once = once }

  pub marked_as_listed : (q : Program) (made : List Declaration) → IsPlacedBy p blocks made q
      → IsMarkedAsListed (nests_by answers) blocks q.body
  marked_as_listed q made t = record {
    in_place = blocks_of_nests;
    marks = subst (AreOfNests (nests_by answers)) (sym t.body) marks;
  }

pub translation_is_marked : (width : Width) → TranslationIsMarked width
translation_is_marked width p q answers blocks made program are placed t =
    marked_as_listed width p answers blocks program are placed q made t
