use Rattle.std.proofs.Common.{◌≡◌, ℕ, List, Some, None, Option, refl, ap, ◌∙◌, rules}
use Rattle.std.specs.Option.{option_map}
use Rattle.names.specs.Names.{encoded}
use Rattle.names.specs.Spelled.{spelled}
use Rattle.writing.specs.Lines.{or_dash}
use Rattle.reports.proofs.listing.push_guard.Goals as goal

-- what is written of each is what is written of what it stands for
or_dash-map : {X Y : Type 0} (f : Y → List ℕ) (g : X → Y) (o : Option X) → or_dash (λ x. f (g x)) o ≡ or_dash f (option_map g o)
or_dash-map f g None = refl
or_dash-map f g (Some x) = refl

pub returns : goal.returns
returns c =
    let named = or_dash-map encoded (λ n. spelled n.now) c.guard.result ∙ ap (or_dash encoded) c.guard.ensures in
    search (rules, named)
