-- Uses of names, as the plain uses.
use Rattle.std.specs.Prelude.{List, map}
use Rattle.f77_grammar.specs.program.Uses as plain
use Rattle.f77_names.specs.declared.uses.Role.{Role}
use Rattle.f77_names.specs.declared.uses.Role.TheVariants.{Title, Typed, Bounded, Defined, Valued, Target, Counter}
use Rattle.f77_names.specs.declared.uses.Use.{Use}
use Rattle.f77_names.specs.declared.uses.Uses.{Uses}

abbrev pub role_of : Role → plain.Role
role_of Title = plain.Title
role_of (Typed k) = plain.Typed k
role_of (Bounded n) = plain.Bounded n
role_of Defined = plain.Defined
role_of (Valued n) = plain.Valued n
role_of (Target n) = plain.Target n
role_of Counter = plain.Counter

abbrev pub plain_use : Use → plain.Use77
plain_use u = record { name = u.name; role = role_of u.role }

abbrev pub listed : Uses → List plain.Use77
listed uses = map plain_use uses.items.items
