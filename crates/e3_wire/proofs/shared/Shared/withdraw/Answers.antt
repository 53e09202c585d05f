use Rattle.std.proofs.Common.{◌-◌, ℕ, ap, length}
use Rattle.std.specs.Prelude.{vec_capacity}
use Rattle.e3_wire.proofs.Withdrawing.{front_marks, withdraws}
use Rattle.e3_wire.proofs.shared.Shared.withdraw.Goals as goal

pub unnote_claim-requires : goal.unnote_claim-requires
unnote_claim-requires c =
    let s = c.self.inside in
    (withdraws s.scenario s.most s.store.history.entries s.store.stored.items c.truncate.new.self.items s.net.traffic s.notes.items s.places s.room s.store.spare s.store.history.room
    (vec_capacity s.store.stored) s.net.room c.args.owner c.args.outs c.requires.0 c.args.self.now (length c.as_slice.result.now - 1) c.self.invariant c.self.view_is c.requires.1.exists c.requires.1.is
    c.truncate.ensures.items (ap (λ (n : ℕ). n - 1) (ap length c.as_slice.ensures.value))).note

pub overflow_sub-self : goal.overflow_sub-self
overflow_sub-self c =
    let s = c.self.inside in
    (withdraws s.scenario s.most s.store.history.entries s.store.stored.items c.truncate.new.self.items s.net.traffic s.notes.items s.places s.room s.store.spare s.store.history.room
    (vec_capacity s.store.stored) s.net.room c.args.owner c.args.outs c.requires.0 c.args.self.now (length c.as_slice.result.now - 1) c.self.invariant c.self.view_is c.requires.1.exists c.requires.1.is
    c.truncate.ensures.items (ap (λ (n : ℕ). n - 1) (ap length c.as_slice.ensures.value))).some

pub overflow_sub-self-2 : goal.overflow_sub-self-2
overflow_sub-self-2 c =
    let s = c.self.inside in
    let few = (withdraws s.scenario s.most s.store.history.entries s.store.stored.items c.truncate.new.self.items s.net.traffic s.notes.items s.places s.room s.store.spare s.store.history.room
    (vec_capacity s.store.stored) s.net.room c.args.owner c.args.outs c.requires.0 c.args.self.now (length c.as_slice.result.now - 1) c.self.invariant c.self.view_is c.requires.1.exists c.requires.1.is
    c.truncate.ensures.items (ap (λ (n : ℕ). n - 1) (ap length c.as_slice.ensures.value))).enough in
    rw c.from.ensures few

pub invariant_of-self : goal.invariant_of-self
invariant_of-self c =
    let s = c.self.inside in
    rw (c.from.ensures, c.truncate.ensures.capacity, c.unnote_claim.ensures)
    (withdraws s.scenario s.most s.store.history.entries s.store.stored.items c.truncate.new.self.items s.net.traffic s.notes.items s.places s.room s.store.spare s.store.history.room
    (vec_capacity s.store.stored) s.net.room c.args.owner c.args.outs c.requires.0 c.args.self.now (length c.as_slice.result.now - 1) c.self.invariant c.self.view_is c.requires.1.exists c.requires.1.is
    c.truncate.ensures.items (ap (λ (n : ℕ). n - 1) (ap length c.as_slice.ensures.value))).kept

pub returns : goal.returns
returns c = λ before is.
    let s = c.self.inside in
    front_marks s.scenario s.most s.store.history.entries s.store.stored.items c.truncate.new.self.items c.args.owner c.args.outs before c.args.self.now (length c.as_slice.result.now - 1)
    c.self.invariant.whole c.self.view_is is c.truncate.ensures.items (ap (λ (n : ℕ). n - 1) (ap length c.as_slice.ensures.value))
