-- The number of each refusal, and the place that it tells. No other place gives a refusal its number.
use Rattle.std.specs.Prelude.{ℕ, Some, None, Option}
use Rattle.names.specs.Faults.{fault_byte}
use Rattle.texts.specs.declared.place.Place.{Place}
use Rattle.entries.specs.declared.fault.LineError.{LineError}
use Rattle.entries.specs.declared.fault.LineError.TheVariants.{Fault, Memory as Wanting}
use Rattle.entries.specs.declared.fault.LineFault.TheVariants.{Form, Figure, Name, Full, Twice, Unknown, Unmatched, Overfull}
use Rattle.tables.specs.declared.fault.LinePlace.{LinePlace}
use Rattle.tables.specs.declared.fault.Notice.{Notice}
use Rattle.tables.specs.declared.fault.ReadFault.{ReadFault}
use Rattle.tables.specs.declared.fault.ReadFault.TheVariants.{Refused, Memory}
use Rattle.tables.specs.declared.fault.Refusal.{Refusal}
use Rattle.tables.specs.declared.fault.Refusal.TheVariants.{Long, Line}

-- the number of a refusal
abbrev pub number_of : Refusal → ℕ
number_of (Long text) = 1
number_of (Line text k Form) = 2
number_of (Line text k (Figure field)) = 3
number_of (Line text k (Name field fault)) = 4
number_of (Line text k Twice) = 5
number_of (Line text k Unknown) = 6
number_of (Line text k Full) = 7
number_of (Line text k Unmatched) = 8
number_of (Line text k Overfull) = 9

-- where what is refused stands: of a line its text and its number, of a figure its field too, of a name its field and
-- the byte; 0 where there is none to tell
abbrev pub refused_at : Refusal → Place
refused_at (Long text) = record { text = text; line = 0; field = 0; byte = 0 }
refused_at (Line text k (Figure field)) = record { text = text; line = k; field = field; byte = 0 }
refused_at (Line text k (Name field fault)) = record { text = text; line = k; field = field; byte = fault_byte fault }
refused_at (Line text k _) = record { text = text; line = k; field = 0; byte = 0 }

-- what is told of a refusal
abbrev pub notice_of : Refusal → Notice
notice_of refusal = record { number = number_of refusal; place = refused_at refusal }

-- why no table was read, where a line gave nothing
abbrev pub fault_at : LinePlace → LineError → ReadFault
fault_at place (Fault fault) = Refused (Line place.text place.line fault)
fault_at place Wanting = Memory

-- want of memory refuses nothing
abbrev pub refusal_of : ReadFault → Option Refusal
refusal_of (Refused refusal) = Some refusal
refusal_of Memory = None
