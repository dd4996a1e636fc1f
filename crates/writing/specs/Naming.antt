-- The two texts as they are named.
use Rattle.std.specs.Prelude.{ℕ, List, codes}
use Rattle.texts.specs.declared.place.Text.{Text}
use Rattle.texts.specs.declared.place.Text.TheVariants.{Resources, Tasks}

abbrev pub text_name : Text → List ℕ
text_name Resources = codes "resources"
text_name Tasks = codes "tasks"
