-- What may stand before an operand, and the words that it is: a minus sign is the operator Sub, wherever it stands.
use Rattle.std.specs.Prelude.{ℕ, Bool, true, false, Option, Some, None, []}
use Rattle.tree.specs.Plain.{Expression, Reference, Named, Unary, Subscript, Only, Section, no_subscripts}
use Rattle.tree.specs.OperatorTable as table
use Rattle.tree.specs.declared.ops.Op.{Op}
use Rattle.tree.specs.declared.ops.Op.TheVariants.{Neg, Add, Sub, Not}
use Rattle.reading.specs.declared.signs.Sign.{Sign}
use Rattle.reading.specs.declared.signs.Sign.TheVariants.{Plus, Minus, Negation}

abbrev pub sign_view : Sign → table.Sign
sign_view Plus = table.Plus
sign_view Minus = table.Minus
sign_view Negation = table.Negation

abbrev pub sign_view_option : Option Sign → Option table.Sign
sign_view_option None = None
sign_view_option (Some s) = Some (sign_view s)

abbrev pub sign_of : Op → Option table.Sign
sign_of Add = Some table.Plus
sign_of Sub = Some table.Minus
sign_of Not = Some table.Negation
sign_of o = None

abbrev pub sign_word : table.Sign → Op
sign_word table.Plus = Add
sign_word table.Minus = Sub
sign_word table.Negation = Not

-- an operand that it stands before begins with a plus or minus sign
abbrev pub sign_leads : table.Sign → Bool
sign_leads table.Negation = false
sign_leads s = true

-- a plus sign counts nothing
abbrev pub sign_depth : table.Sign → ℕ
sign_depth table.Plus = 0
sign_depth s = 1

-- ---- what is written so stands for

abbrev pub signed : table.Sign → Expression → Expression
signed table.Plus e = e
signed table.Minus e = Unary Neg e
signed table.Negation e = Unary Not e

-- what stands in parentheses behind a name, as an argument: no section is one
abbrev pub argument_of : Subscript → Expression
argument_of (Only e) = e
argument_of (Section a b c) = a

-- a left side is a name, or a name with a list
abbrev pub reference_in : Expression → Reference
reference_in (Named x ps) = record { name = x; subscripts = ps }
reference_in e = record { name = []; subscripts = no_subscripts }
