-- The relations of the supplied disciplines.
use Rattle.std.specs.Prelude.{true, nat_le}
use Rattle.disciplines.specs.Rules.{Relation}

-- every section may hold against every section
abbrev pub always : Relation
always x y = true

-- a section may hold against those whose rank is no better than its ceiling
abbrev pub under_ceiling : Relation
under_ceiling x y = nat_le x.ceiling y.rank
