use Rattle.e3_disk.proofs.Tearing.{outside_stays, at_least, at_most}
use Rattle.e3_disk.proofs.law.torn_writes_keep_the_rest.Goals as goal

pub returns-clause-outside : goal.returns-clause-outside
returns-clause-outside c = λ ws old new i torn lt out. outside_stays ws old new i torn lt out

pub returns-clause-least : goal.returns-clause-least
returns-clause-least c = λ ws old new torn. at_least ws old new torn

pub returns-clause-greatest : goal.returns-clause-greatest
returns-clause-greatest c = λ ws old new torn. at_most ws old new torn
