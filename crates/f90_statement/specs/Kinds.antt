-- Groups of forms.
use Rattle.std.specs.Prelude.{Bool, true, false, ◌||◌, [], ◌∷◌}
use Rattle.f90_grammar.specs.Forms as forms
use Rattle.f90_grammar.specs.Forms.{Form90}

abbrev pub is_program : Form90 → Bool
is_program (forms.Program x) = true
is_program f = false

abbrev pub is_declaration : Form90 → Bool
is_declaration (forms.Declare k a es) = true
is_declaration f = false

abbrev pub is_assignment : Form90 → Bool
is_assignment (forms.Assign l r) = true
is_assignment f = false

abbrev pub is_where : Form90 → Bool
is_where (forms.Where m l r) = true
is_where f = false

-- a block IF or a logical IF
abbrev pub is_if : Form90 → Bool
is_if (forms.Test p f) = true
is_if (forms.If p) = true
is_if f = false

abbrev pub is_else_if : Form90 → Bool
is_else_if (forms.ElseIf p) = true
is_else_if f = false

abbrev pub is_do : Form90 → Bool
is_do (forms.Do x a b c) = true
is_do f = false

-- a CONTINUE with a label
abbrev pub is_label : Form90 → Bool
is_label (forms.Continue (d ∷ ds)) = true
is_label f = false

abbrev pub is_go : Form90 → Bool
is_go (forms.Go label) = true
is_go f = false

-- with a list
abbrev pub is_read : Form90 → Bool
is_read (forms.Read is) = true
is_read f = false

abbrev pub is_print : Form90 → Bool
is_print (forms.Print is) = true
is_print f = false

abbrev pub is_allocate : Form90 → Bool
is_allocate (forms.Allocate x es) = true
is_allocate f = false

abbrev pub is_deallocate : Form90 → Bool
is_deallocate (forms.Deallocate x) = true
is_deallocate f = false

abbrev pub is_end_program : Form90 → Bool
is_end_program (forms.EndProgram x) = true
is_end_program f = false

-- words alone
abbrev pub is_bare : Form90 → Bool
is_bare forms.ImplicitNone = true
is_bare forms.Else = true
is_bare forms.EndIf = true
is_bare forms.EndDo = true
is_bare forms.End = true
is_bare f = false

-- words alone that may stand in a logical IF
abbrev pub is_bare_action : Form90 → Bool
is_bare_action (forms.Continue []) = true
is_bare_action forms.Stop = true
is_bare_action forms.ReadNothing = true
is_bare_action forms.PrintNothing = true
is_bare_action f = false

-- one of two groups
abbrev pub either : (Form90 → Bool) → (Form90 → Bool) → Form90 → Bool
either k l f = k f || l f

abbrev pub is_action : Form90 → Bool
is_action = either is_go (either is_read (either is_print (either is_bare_action is_assignment)))

abbrev pub is_block : Form90 → Bool
is_block = either is_if (either is_else_if (either is_do is_label))

abbrev pub is_outer : Form90 → Bool
is_outer = either is_program (either is_declaration (either is_bare is_end_program))

abbrev pub is_array_statement : Form90 → Bool
is_array_statement = either is_where (either is_allocate is_deallocate)

abbrev pub is_any : Form90 → Bool
is_any = either is_outer (either is_block (either is_array_statement is_action))
