use Rattle.std.proofs.Common.{◌++◌, ◌+◌, ◌≤◌, ◌∙◌, ap, subst, sym, List, length, vec_capacity}
use Rattle.e3_types.specs.declared.transactions.Txn.{Txn}
use Rattle.e3_site.specs.past.Opening.{undecided_among}
use Rattle.e3_site.proofs.past.Undecided.{opens_behind}
use Rattle.e3_site.proofs.past.opening.apply_opens.Goals as goal

pub add_all-requires : goal.add_all-requires
add_all-requires c =
    subst (λ (l : List Txn). length c.args.opens.now.logged.items + length l ≤ vec_capacity c.args.opens.now.logged) (sym c.as_slice.ensures.value) c.requires.logged

pub add_all-requires-2 : goal.add_all-requires-2
add_all-requires-2 c =
    subst (λ (l : List Txn). length c.args.opens.now.arrived.items + length l ≤ vec_capacity c.args.opens.now.arrived) (sym c.as_slice-2.ensures.value) c.requires.arrived

pub add_all-requires-3 : goal.add_all-requires-3
add_all-requires-3 c =
    subst (λ (l : List Txn). length c.args.opens.now.begun.items + length l ≤ vec_capacity c.args.opens.now.begun) (sym c.as_slice-3.ensures.value) c.requires.begun

pub returns : goal.returns
returns c = λ site life stand more.
    opens_behind site life c.args.step.now c.as_slice-records.result.now c.args.opens.now c.args.more
    (record { logged = c.add_all.new.txns; arrived = c.add_all-2.new.txns; begun = c.add_all-3.new.txns }) c.as_slice-records.ensures stand more
    (c.add_all.ensures ∙ ap (λ (l : List Txn). undecided_among c.as_slice-records.result.now (c.args.opens.now.logged.items ++ l)) c.as_slice.ensures.value)
    (c.add_all-2.ensures ∙ ap (λ (l : List Txn). undecided_among c.as_slice-records.result.now (c.args.opens.now.arrived.items ++ l)) c.as_slice-2.ensures.value)
    (c.add_all-3.ensures ∙ ap (λ (l : List Txn). undecided_among c.as_slice-records.result.now (c.args.opens.now.begun.items ++ l)) c.as_slice-3.ensures.value)
