use Rattle.std.proofs.Common.{◌≡◌, Ok, Result, subst}
use Rattle.std.proofs.lemmas.Result.{IfOk-weaker}
use Rattle.tables.specs.declared.fault.ReadFault.{ReadFault}
use Rattle.tables.specs.declared.table.Table.{Table}
use Rattle.tables.specs.Listed.{listed}
use Rattle.tables.specs.Reading.{read_of}
use Rattle.tables.specs.Told.{Told}
use Rattle.rereading.proofs.Reading.{reads-back}
use Rattle.inventories.proofs.render.Goals as goal

pub returns-in-Ok-clause-reads_back : goal.returns-in-Ok-clause-reads_back
returns-in-Ok-clause-reads_back c =
    let resources = c.args.texts.resources.now in
    let tasks = c.args.texts.tasks.now in
    let P : Result Table ReadFault → Type 0 = λ a. Told a listed (read_of resources tasks) in
    let read : read_of resources tasks ≡ Ok (listed c.in-Ok.table) = subst P c.in-Ok.is c.requires in
    IfOk-weaker c.table_text.result _ _
    (λ text e t h.
    let same : listed c.in-Ok.table ≡ t = cc in
    let again = reads-back resources tasks t h in
    (cc, again))
    c.table_text.ensures
