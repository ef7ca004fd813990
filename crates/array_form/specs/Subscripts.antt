-- Array forms of references and subscripts by themselves.
use Rattle.std.specs.Prelude.{Option, Some, None, List}
use Rattle.tree.specs.Plain.{Expression, Named, Reference, Subscript, Only, Section}
use Rattle.tree.specs.View.{subscript_of}
use Rattle.tree.specs.declared.exprs.Sub.{Sub}
use Rattle.meaning.specs.Reads.{names_in}
use Rattle.array_form.specs.forms.Forms.{constructed, form, name_form, placed_expression, subscript_form}
use Rattle.array_form.specs.forms.Forms.{subscript_forms}
use Rattle.array_form.specs.forms.Loops.{FormLoop, FormSurroundings, loops_among, form_names_of}

-- what a subscript becomes, or its form of rank one
abbrev pub section_or : Option Sub → Expression → Subscript
section_or (Some p) formed = subscript_of p
section_or None formed = Only formed

abbrev pub form_of_subscript : FormSurroundings → List FormLoop → Subscript → Subscript
form_of_subscript a D (Only e) =
    subscript_form a (loops_among D (names_in e)) e (form a (loops_among D (names_in e)) e)
form_of_subscript a D (Section b c d) = Section b c d

-- a reference with the loops `here` of D
abbrev pub item_form : FormSurroundings → List FormLoop → List FormLoop → Reference → Expression
item_form a D here r = name_form a D here r.name r.subscripts (subscript_forms a D r.subscripts)

-- a variable, which is that of a loop
abbrev pub variable_form : FormSurroundings → List FormLoop → List FormLoop → Reference → Expression
variable_form a D here r =
    placed_expression a D here (constructed (form_names_of a) here (Named r.name r.subscripts))
    (Named r.name r.subscripts)
