-- What the code's values say, with their names as bytes.
--
--   result_map  an answer, with its value seen through `f`
--   entered     what an entry says
use Rattle.std.specs.Prelude.{Ok, Err, Result}
use Rattle.std.specs.Option.{option_map}
use Rattle.names.specs.Spelled.{spelled}
use Rattle.entries.specs.declared.entry.Entry.{Entry}
use Rattle.entries.specs.Entries as specified

abbrev pub result_map : {X Y E : Type 0} → (X → Y) → Result X E → Result Y E
result_map f (Ok x) = Ok (f x)
result_map f (Err e) = Err e

abbrev pub entered : Entry → specified.Entry
entered e =
    record {
      name = spelled e.name;
      before = e.before;
      critical = e.critical;
      after = e.after;
      period = e.period;
      resource = option_map spelled e.resource;
    }
