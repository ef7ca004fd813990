-- Names of a program of FORTRAN 77 are too short for masks.
use Rattle.std.proofs.Common.{All, List, [], ◌∷◌, map}
use Rattle.std.specs.List.{AllByRecursion}
use Rattle.std.proofs.lemmas.List.Elements.{All-cons, All-contains, All-nil}
use Rattle.tree.specs.Names.{IsSourceName}
use Rattle.tree.specs.Plain.{Declaration}
use Rattle.meaning.specs.Dialect.{fortran77}
use Rattle.tree.specs.declared.width.Width.{Width}
use Rattle.meaning.specs.Profile77.{IsDeclaration}
use Rattle.meaning.specs.Store.{names_of}
use Rattle.pass_laws.proofs.PreparedNests.Normal.SourceNames.{source_name}
use Rattle.if_convert.specs.Masks.{mask_name}
use Rattle.prepared_passes.specs.conversion.Found.{ProgramHasNoMasks}
use Rattle.prepared_passes.proofs.ConvertedNests.Walk.{mask_long}

source_names : (width : Width) (ds : List Declaration) → AllByRecursion (IsDeclaration (fortran77 width)) ds → All IsSourceName (map (λ (d : Declaration). d.name) ds)
source_names width [] h = All-nil IsSourceName
source_names width (d ∷ ds) h = All-cons IsSourceName d.name (map (λ (d : Declaration). d.name) ds) (source_name d.name h.0.name) (source_names width ds h.1)

pub program_has_no_masks : (width : Width) → ProgramHasNoMasks width
program_has_no_masks width p i is c = mask_long i (All-contains IsSourceName (names_of p) (mask_name i) (source_names width p.declarations is.declarations.each) c)
