use Rattle.std.proofs.Common.{◌≡◌, ◌<◌, arith, sym, ◌∙◌, subst, get_or}
use Rattle.std.specs.Prelude.{string_bytes, ℕ, List}
use Rattle.e3_top.proofs.Numbers.{begins_above, spells_parsed, parses_spelled, one_number}
use Rattle.e3_top.proofs.commands.number.Goals as goal

pub returns-then-not-begins_above_zero-clause-none :
    goal.returns-then-not-begins_above_zero-clause-none
returns-then-not-begins_above_zero-clause-none c = λ e n is same.
    let t = c.begins_above_zero.ensures.1 (begins_above (string_bytes c.args.word.now) n is same) in
    let f = c.if-not-begins_above_zero.true in cc

pub returns-in-Ok-clause-some : goal.returns-in-Ok-clause-some
returns-in-Ok-clause-some c = (
  record { least = c.if-n-ge1.true; most = c.if-n-le-MOST.true },
  sym c.as_str.ensures.value ∙ spells_parsed c.as_str.result.now c.in-Ok.n c.parse.result
      (subst (λ (w : List ℕ). 48 < get_or w 0 0) (sym c.as_str.ensures.value) (c.begins_above_zero.ensures.0 c.if-not-begins_above_zero.false))
      c.in-Ok.is (let most = c.if-n-le-MOST.true in omega (arith, most)) c.parse.ensures.value.0,
)

pub returns-in_default-clause-none : goal.returns-in_default-clause-none
returns-in_default-clause-none c = λ e n is same.
    let found = parses_spelled c.as_str.result.now n c.parse.result is (c.as_str.ensures.value ∙ same) c.parse.ensures.value.0 in
    let one : c.in-Ok.n ≡ n = one_number c.parse.result c.in-Ok.n n c.in-Ok.is found in
    let most = is.most in let more = c.if-n-le-MOST.false in omega (arith, one, most, more)

pub returns-in_default-2-clause-none : goal.returns-in_default-2-clause-none
returns-in_default-2-clause-none c = λ e n is same.
    let found = parses_spelled c.as_str.result.now n c.parse.result is (c.as_str.ensures.value ∙ same) c.parse.ensures.value.0 in
    let one : c.in-Ok.n ≡ n = one_number c.parse.result c.in-Ok.n n c.in-Ok.is found in
    let least = is.least in let less = c.if-n-ge1.false in omega (arith, one, least, less)

pub returns-in_default-3-clause-none : goal.returns-in_default-3-clause-none
returns-in_default-3-clause-none c = λ e n is same.
    let found = parses_spelled c.as_str.result.now n c.parse.result is (c.as_str.ensures.value ∙ same) c.parse.ensures.value.0 in
    let fault = c.in_default.is in cc
