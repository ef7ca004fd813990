-- Which statements, one after another, form which block (ANSI X3.9-1978, sections 11.5 to 11.10), and which program.
--
--        DO 10 I = 1, N       Do I             a block of one DO loop, whose range is the next DO with its own
--        DO 10 J = 1, I         Do J           range: both end with the statement that bears 10
--     10 A(I,J) = 0               A(I,J) = 0   a block of one statement; no Label 10, where no GO TO names it
--
--        DO 20 I = 1, N       Do I             a block of one DO loop, whose range is the block up to its END DO
--        K = K + I              K = K + I
--     20 END DO                                END DO gives nothing, and ends no other loop
use Rattle.std.specs.Prelude.{◌≡◌, ℕ, Bool, true, false, Some, List, [], ◌∷◌, ◌++◌, map}
use Rattle.tree.specs.Plain as tree
use Rattle.tree.specs.Plain.{Expression, Program}
use Rattle.meaning.specs.Dialect.{Dialect}
use Rattle.meaning.specs.Store.{Store}
use Rattle.f77_grammar.specs.Statement77.{Labelled, Statement77, If, ElseIf, Else, EndIf, Do, EndDo}
use Rattle.f77_grammar.specs.program.Text.{bears, label_stands_in, is_end_do}
use Rattle.f77_grammar.specs.program.Nesting.{is_no_loop_end}
use Rattle.f77_grammar.specs.program.Uses.{Use77, uses_in_text, is_title_role, names_that}
use Rattle.f77_grammar.specs.program.Limits.{constants_of}
use Rattle.f77_grammar.specs.program.Tree.{resolved, simple, label_before, targets, program_variables_of}
use Rattle.f77_grammar.specs.program.Tree.{declaration_of_name, first_of_names}

-- neither a line of a block IF nor DO or END DO
abbrev pub stands_alone : Statement77 → Bool
stands_alone (If c) = false
stands_alone (ElseIf c) = false
stands_alone Else = false
stands_alone EndIf = false
stands_alone (Do label v a b c) = false
stands_alone EndDo = false
stands_alone s = true

-- Statements up to and with the first that bears the label, on which a loop may end, and others with it
-- (sections 11.10.1 and 11.10.2)
abbrev pub IsRange : ℕ → List Labelled → Type 0
IsRange n [] = ⊥
IsRange n (x ∷ []) =
    (bears n x ≡ true) × (is_no_loop_end x.statement ≡ false) × (is_end_do x.statement ≡ false)
IsRange n (x ∷ y ∷ ys) = (bears n x ≡ false) × IsRange n (y ∷ ys)

-- by all uses `us` of names in the program, the values `s` of its symbolic constants, and the labels that a GO TO names
module _ (us : List Use77) (s : Store) (named : List ℕ) where
  mutual
    -- A statement alone, of which a declaration and CONTINUE give nothing and a logical IF a block IF of one arm; a
    -- block IF with all up to its END IF; a DO with its range; a DO with a block and its END DO, the first statement
    -- that bears its label. A label stands before what its statement gives, that of END DO behind the block
    pub data IsUnit : List Labelled → List tree.Statement → Type 0 where
      alone : (x : Labelled) → stands_alone x.statement ≡ true
          → IsUnit (x ∷ []) (label_before named x.label ++ simple us s x.line x.statement)
      block_if : (x : Labelled) (c : Expression) (first later : List Labelled) (body : List tree.Statement)
          (arms : tree.Arms) (other : tree.Block)
          → x.statement ≡ If c → AreBlock77 first body → AreArms77 later arms other
          → IsUnit (x ∷ (first ++ later)) (label_before named x.label
          ++ tree.If x.line (tree.arm (resolved us s c) (tree.block body) arms) other ∷ [])
      loop : (x : Labelled) (n : ℕ) (v : List ℕ) (a b c : Expression) (range : List Labelled)
          (body : List tree.Statement)
          → x.statement ≡ Do (Some n) v a b c → IsRange n range → AreBlock77 range body
          → IsUnit (x ∷ range) (label_before named x.label
          ++ tree.Do x.line v (resolved us s a) (resolved us s b) (resolved us s c) (tree.block body) ∷ [])
      end_do : (x end : Labelled) (n : ℕ) (v : List ℕ) (a b c : Expression) (range : List Labelled)
          (body : List tree.Statement)
          → x.statement ≡ Do (Some n) v a b c → AreBlock77 range body → end.statement ≡ EndDo
          → label_stands_in range n ≡ false → bears n end ≡ true
          → IsUnit (x ∷ (range ++ end ∷ [])) (label_before named x.label
          ++ tree.Do x.line v (resolved us s a) (resolved us s b) (resolved us s c)
          (tree.block (body ++ label_before named end.label)) ∷ [])

    -- one unit after another
    pub data AreBlock77 : List Labelled → List tree.Statement → Type 0 where
      nothing : AreBlock77 [] []
      unit : (first rest : List Labelled) (cs ds : List tree.Statement) → IsUnit first cs → AreBlock77 rest ds
          → AreBlock77 (first ++ rest) (cs ++ ds)

    -- What follows the first arm of a block IF: END IF; ELSE with the ELSE part and END IF; or ELSE IF with its arm and
    -- what follows that
    pub data AreArms77 : List Labelled → tree.Arms → tree.Block → Type 0 where
      end_if : (x : Labelled) → x.statement ≡ EndIf → AreArms77 (x ∷ []) tree.no_arms tree.no_statements
      else_part : (x end : Labelled) (part : List Labelled) (body : List tree.Statement)
          → x.statement ≡ Else → AreBlock77 part body → end.statement ≡ EndIf
          → AreArms77 (x ∷ (part ++ end ∷ [])) tree.no_arms (tree.block body)
      else_if : (x : Labelled) (c : Expression) (next later : List Labelled) (body : List tree.Statement)
          (arms : tree.Arms) (other : tree.Block)
          → x.statement ≡ ElseIf c → AreBlock77 next body → AreArms77 later arms other
          → AreArms77 (x ∷ (next ++ later)) (tree.arm (resolved us s c) (tree.block body) arms) other

-- The program has the name that PROGRAM gives, declares its variables in byte order, and its body is the block that
-- the statements form
pub record IsTreeOf (d : Dialect) (text : List Labelled) (p : Program) : Type 0 where
  pub name : p.name ≡ first_of_names (names_that is_title_role (uses_in_text text))
  pub declarations : p.declarations
      ≡ map (declaration_of_name d (uses_in_text text) (constants_of d text) text)
      (program_variables_of (uses_in_text text))
  pub body : List tree.Statement
  pub formed : AreBlock77 (uses_in_text text) (constants_of d text) (targets text) text body
  pub is_body : p.body ≡ tree.block body
