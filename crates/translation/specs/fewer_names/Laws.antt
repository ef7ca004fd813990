-- Blocks with fewer declarations.
use Rattle.std.specs.Prelude.{All, List, map, Contains}
use Rattle.tree.specs.Plain.{Block, Declaration}
use Rattle.meaning.specs.Reads.{names_in_block}
use Rattle.meaning.specs.Blocks.{Surroundings}
use Rattle.meaning.specs.Profile90.{AreDeclarations, IsBlock}

-- ds are some of the declarations es, and declare all names of the block
abbrev pub BlockWithFewerNames : Type 0
BlockWithFewerNames = (ds es : List Declaration) (b : Block) (w : Surroundings)
    → AreDeclarations ds → AreDeclarations es → ((e : Declaration) → Contains ds e → Contains es e)
    → All (Contains (map (λ (e : Declaration). e.name) ds)) (names_in_block b)
    → IsBlock es b w → IsBlock ds b w
