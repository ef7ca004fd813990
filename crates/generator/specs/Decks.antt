-- The deck of so many nests.
use Rattle.std.specs.Prelude.{ℕ, zero, suc, ◌+◌, ◌*◌, List, [], ◌++◌, codes, decimal, nat_lt, if◌then◌else◌}
use Rattle.generator.specs.declared.draws.DrawnStatement.{DrawnStatement}
use Rattle.generator.specs.Draws.{state_after}
use Rattle.generator.specs.Statements.{drawn_statement, statement_text}

-- how many nests a deck may have
abbrev pub most_nests : ℕ
most_nests = 500

-- ---- a nest

-- a label of two or three digits ends in the fifth column
abbrev pub blanks_before : ℕ → List ℕ
blanks_before label = if nat_lt label 100 then codes "   " else codes "  "

-- `DO l I = 1, 100`, two statements and `l CONTINUE`
unfoldable pub nest_text : ℕ → DrawnStatement → DrawnStatement → List ℕ
nest_text label first second =
    codes "      DO " ++ decimal label ++ codes " I = 1, 100\n" ++ statement_text first ++ statement_text second
    ++ blanks_before label ++ decimal label ++ codes " CONTINUE\n"

-- with what is drawn behind the state x
unfoldable pub nest_at : ℕ → ℕ → List ℕ
nest_at label x = nest_text label (drawn_statement x) (drawn_statement (state_after 5 x))

-- ---- the deck

-- The first q nests of a deck of n. Before a nest ten draws were made for each nest before it, from the state n on; the
-- first label is 11
unfoldable pub nests_of : ℕ → ℕ → List ℕ
nests_of n zero = []
nests_of n (suc q) = nests_of n q ++ nest_at (11 + q) (state_after (10 * q) n)

unfoldable pub deck_of : ℕ → List ℕ
deck_of n =
    codes "      INTEGER A(200), B(200), C(200)\n" ++ nests_of n n
    ++ codes "      PRINT *, A(100), B(100), C(100)\n      END\n"
