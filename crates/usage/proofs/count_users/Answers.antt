use Rattle.std.proofs.Common.{rules}
use Rattle.usage.proofs.ByTask.{count-of}
use Rattle.usage.proofs.count_users.Goals as goal

pub returns : goal.returns
returns c = search (rules, count-of)
