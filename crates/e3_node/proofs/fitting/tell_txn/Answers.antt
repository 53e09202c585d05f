use Rattle.std.proofs.Common.{ap, sym, ◌∙◌, arith}
use Rattle.e3_types.specs.Sites.{sites_of}
use Rattle.e3_types.specs.declared.transactions.Txn.{Txn}
use Rattle.e3_node.proofs.fitting.tell_txn.Goals as goal

pub returns : goal.returns
returns c = record {
  site = omega (arith, c.oldest-txn.type_inv.1.1.1.0, ap (λ (x : Txn). x.site) c.oldest-txn.ensures);
  inc = omega (arith, c.oldest-txn.type_inv.1.1.1.1.0, ap (λ (x : Txn). x.inc) c.oldest-txn.ensures);
  seq = omega (arith, c.oldest-txn.type_inv.1.1.1.1.1.0, ap (λ (x : Txn). x.seq) c.oldest-txn.ensures);
  sites = (
    c.bits-bits.result,
    c.bits-bits.type_inv,
    sym c.found_by_bits.ensures ∙ ap sites_of (sym c.bits-bits.ensures),
  );
}
