-- A decoded name by its bytes.
use Rattle.std.specs.Prelude.{ℕ, List, Ok, Err, vec_items, Result}
use Rattle.names.specs.declared.fault.NameFault.{NameFault}
use Rattle.names.specs.declared.name.Name.{Name}

abbrev pub spelled : Name → List ℕ
spelled n = vec_items n.bytes

-- an answer's name as its bytes
abbrev pub spelling : Result Name NameFault → Result (List ℕ) NameFault
spelling (Ok n) = Ok (spelled n)
spelling (Err e) = Err e
