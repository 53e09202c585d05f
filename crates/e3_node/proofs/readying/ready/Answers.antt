use Rattle.std.proofs.Common.{◌≡◌, ◌<◌, ◌^◌, ◌++◌, ◌∙◌, ap, sym, subst, suc, List, arith}
use Rattle.std.specs.Prelude.{nat_lt}
use Rattle.e3_codec.specs.Fields.{AllCanBeReadBack}
use Rattle.e3_node.specs.Rising.{records_by}
use Rattle.e3_site.specs.Rebuilt.{IsRebuilt, StandsForEach}
use Rattle.e3_types.specs.Spelling.{spelling}
use Rattle.e3_types.specs.declared.records.Record.{Record}
use Rattle.e3_world.specs.Logs.{logged_inc}
use Rattle.std.specs.List.{AllByRecursion as Each}
use Rattle.e3_node.specs.Telling.{IsOfSite}
use Rattle.e3_node.proofs.Owning.{rise_own}
use Rattle.e3_node.proofs.readying.ready.Goals as goal

pub next_inc-inc-requires : goal.next_inc-inc-requires
next_inc-inc-requires c =
    subst (λ (l : List Record). suc (logged_inc l) < 2 ^ 32) (sym c.as_slice.ensures) (c.requires c.in_ok-log.log c.in_ok-log.ensures.back c.in_ok-log.ensures.read)

pub returns-clause-ready : goal.returns-clause-ready
returns-clause-ready c =
    let site = c.args.wish.now.site in
    let read = c.in_ok-log.log in
    let all : c.add_copies.new.self ≡ read ++ c.in_ok-records.records =
    c.in_ok-add_copies.ensures.ok ∙ ap (λ (l : List Record). read ++ l) c.as_slice-4.ensures in
    let made : c.in_ok-records.records ≡ records_by c.args.wish.now c.next_inc-inc.result read =
    c.in_ok-records.ensures ∙ ap (λ (l : List Record). records_by c.args.wish.now c.next_inc-inc.result l) c.as_slice-2.ensures in
    record {
      read = read;
      back = c.in_ok-log.ensures.back;
      spelled = c.in_ok-log.ensures.read;
      few = omega (arith, c.len-read.type_inv, c.len-read.ensures);
      kept_is = ap (nat_lt c.args.logged) c.len-read.ensures;
      inc_is = c.next_inc-inc.ensures ∙ ap (λ (l : List Record). suc (logged_inc l)) c.as_slice.ensures;
      records_are = made;
      body_is = c.in_ok-body.ensures.bytes ∙ ap spelling c.as_slice-3.ensures;
      fits =
          subst (λ (l : List Record). AllCanBeReadBack site l) c.as_slice-3.ensures
          (c.in_ok-body.ensures.back site (subst (λ (l : List Record). Each (IsOfSite site) l) (sym (c.as_slice-3.ensures ∙ made)) (rise_own c.args.wish.now c.next_inc-inc.result read)));
      rose_is = all;
      read_is = c.len-read.ensures;
      risen = subst (λ (l : List Record). IsRebuilt site l c.in_ok-up.up) (c.as_slice-5.ensures ∙ all) c.in_ok-up.ensures.risen;
      stands = subst (λ (l : List Record). StandsForEach l c.in_ok-up.up) (c.as_slice-5.ensures ∙ all) c.in_ok-up.ensures.stands;
    }
