use Rattle.std.proofs.Common.{◌≡◌, ◌+◌, ◌≤◌, ◌++◌, ◌∙◌, ap, arith, rules, length, vec_capacity, vec_len}
use Rattle.std.specs.Prelude.{IsOk}
use Rattle.e3_site.specs.past.Opening.{undecided_among}
use Rattle.e3_site.proofs.past.opening.add_all.Goals as goal

pub returns : goal.returns
returns c =
    let count : vec_len c.args.txns.now ≡ length c.args.txns.now.items = search rules in
    let room : vec_len c.args.txns.now + length c.args.more.now ≤ vec_capacity c.args.txns.now = omega (arith, count, c.requires) in
    let ok : IsOk c.extend_from_slice.result = c.extend_from_slice.ensures.succeeds room in
    let put : c.extend_from_slice.new.self.items ≡ c.args.txns.now.items ++ c.args.more.now = search rules in
    c.sift.ensures ∙ ap (undecided_among c.args.records.now) put
