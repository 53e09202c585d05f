-- the operation that is answered was issued, and its answer is what the step tells
use Rattle.std.proofs.Common.{◌≡◌, ◌++◌, ◌∷◌, [], true, sym, subst}
use Rattle.e3_types.specs.declared.entries.Told.TheVariants as told
use Rattle.e3_client.specs.Clients.{Kept, is_awaited_from}
use Rattle.e3_client.specs.Rule.{IsKept, and_told}
use Rattle.e3_client.proofs.Answering.{answers}
use Rattle.e3_client.proofs.Awaited.{awaited_within}
use Rattle.e3_client.proofs.client.Client.answer.Goals as goal

pub put-requires-clause-low : goal.put-requires-clause-low
put-requires-clause-low c =
    let due : is_awaited_from c.args.from c.args.n c.args.self.now.ops ≡ true = cc in
    (awaited_within c.args.from c.args.n c.args.self.now.ops due).0

pub put-requires-clause-high : goal.put-requires-clause-high
put-requires-clause-high c =
    let due : is_awaited_from c.args.from c.args.n c.args.self.now.ops ≡ true = cc in
    (awaited_within c.args.from c.args.n c.args.self.now.ops due).1

pub returns-clause-rule : goal.returns-clause-rule
returns-clause-rule c = λ coordinator steps m x taken kept on.
    let due : is_awaited_from c.args.from c.args.n c.args.self.now.ops ≡ true = cc in
    subst (λ (k : Kept). IsKept coordinator (steps ++ and_told m (told.Op c.args.self.now.txn c.args.n x) ∷ []) k) (sym c.put.ensures)
    (answers coordinator c.args.from c.args.n c.args.inc steps c.args.self.now m x kept due on)
