-- Pieces of blocks, as the plain ones.
use Rattle.std.specs.Prelude.{ℕ, List, [], ◌∷◌, ◌++◌, map, reverse}
use Rattle.std.specs.List.{flat_map}
use Rattle.tree.specs.Plain as plain
use Rattle.tree.specs.View.{expression_of, statement_of, tested_of, block_of, arms}
use Rattle.f77_grammar.specs.Statement77.{Labelled}
use Rattle.meaning.specs.Store.{Store}
use Rattle.f77_grammar.specs.program.Uses.{Use77}
use Rattle.f77_grammar.specs.program.Tree as tree
use Rattle.f77_laws.specs.trees.Steps as steps
use Rattle.f77_tree.specs.declared.rests.Piece.{Piece}
use Rattle.f77_tree.specs.declared.rests.OpenIf.{OpenIf}
use Rattle.f77_tree.specs.declared.rests.Rest.{Rest}
use Rattle.f77_tree.specs.declared.rests.Heading.{Heading}

abbrev pub piece_of : Piece → steps.Piece
piece_of p = record { ends = p.ends; made = map statement_of p.made.items }

-- pieces of which the last one stands first
abbrev pub pieces_in : List Piece → List steps.Piece
pieces_in ps = reverse (map piece_of ps)

-- what pieces have become
abbrev pub made_by : List steps.Piece → List plain.Statement
made_by ps = flat_map (λ (p : steps.Piece). p.made) ps

-- the arms of a block IF behind its first line, which are held with the last one first
abbrev pub later_arms : OpenIf → plain.Arms
later_arms f = arms (reverse (map tested_of f.later.items))

-- the pieces of a block, and the block IFs round it, the innermost first
abbrev pub rest_with : List steps.Piece → List OpenIf → steps.Rest
rest_with ps [] = steps.Outermost ps
rest_with ps (f ∷ fs) =
    steps.InArm ps (later_arms f) (block_of f.other) (rest_with (pieces_in f.after.items) fs)

abbrev pub rest_of : Rest → steps.Rest
rest_of r = rest_with (pieces_in r.pieces.items) (reverse r.ifs.items)

-- the loop of a block
abbrev pub heading_of : Heading → plain.Block → plain.Statement
heading_of h body = plain.Do h.line h.var (expression_of h.first) (expression_of h.last) (expression_of h.step) body

-- what a statement that opens and closes nothing becomes
abbrev pub ordinary : List Use77 → Store → List ℕ → Labelled → steps.Piece
ordinary us s named x =
    record {
      ends = x.label;
      made = tree.label_before named x.label ++ tree.simple us s x.line x.statement;
    }
