use Rattle.std.proofs.Common.{◌≡◌, ◌≢◌, ◌==◌, ◌+◌, ◌⊎◌, inl, inr, ◌≤◌, ◌∷◌, [], ℕ, suc, Bool, true, false, List, Option, Some, ap, arith, length, length-append, refl, sym, subst, eqb-true, eq-eqb, ◌∙◌}
use Rattle.e3_disk.specs.Memory.{memory_meaning}
use Rattle.e3_disk.specs.declared.memory.MemDisk.{MemDisk}
use Rattle.e3_fleet.specs.MemoryDisks.{AreMade, fails_at}
use Rattle.e3_fleet.specs.Over.{AreBlank}
use Rattle.e3_fleet.proofs.Seats.{blank_more, made_more, next_fails}
use Rattle.e3_fleet.proofs.in_memory.memory_disks.Goals as goal
use Rattle.e3_world.proofs.Turns.{true_not_false}

-- where the next site is the one, its calls are not taken yet
its_turn : (at next the_one : ℕ) (fails : List ℕ) (was : Option (List ℕ)) → next ≡ suc at → ((k : ℕ) → at ≤ k → suc k ≡ the_one → was ≡ Some fails) →
    (was ≡ Some fails) ⊎ (next ≢ the_one)
its_turn at next the_one fails was one listed = by (next == the_one) refl
  where
    by : (b : Bool) → (next == the_one) ≡ b → (was ≡ Some fails) ⊎ (next ≢ the_one)
    by true is = inl (listed at (omega arith) (let same = eqb-true next the_one is in omega (arith, same, one)))
    by false is = inr (λ e. true_not_false (sym (eq-eqb next the_one e) ∙ is))

pub loop-at-preserved : goal.loop-at-preserved
loop-at-preserved c = record {
  number = let grown = ap length c.in_ok-push.ensures.ok in
      let more = length-append c.loop-at.disks (c.in_ok-blank_disk.field-0 ∷ []) in
      let was = c.loop-at.invariant.number in omega (arith, grown, more, was);
  blank = subst (λ (ds : List MemDisk). AreBlank memory_meaning ds)
      (sym c.in_ok-push.ensures.ok)
      (blank_more memory_meaning c.loop-at.disks c.in_ok-blank_disk.field-0
      c.loop-at.invariant.blank c.in_ok-blank_disk.ensures.fresh);
  made = subst (λ (ds : List MemDisk). AreMade c.args.capacity c.args.site c.args.fails ds) (sym c.in_ok-push.ensures.ok)
      (made_more c.args.capacity c.args.site c.loop-at.at c.args.fails c.fails_at-listed.result c.loop-at.disks c.in_ok-blank_disk.field-0
      c.loop-at.invariant.made c.loop-at.invariant.number c.in_ok-blank_disk.ensures.state
      (subst (λ (n : ℕ). c.fails_at-listed.result ≡ fails_at c.args.site c.args.fails n) (let one : c.loop-at.at + 1 ≡ suc c.loop-at.at = omega arith in one)
      (next_fails (c.loop-at.at + 1) c.args.site c.args.fails c.fails_at-listed.result c.fails_at-listed.new.fails c.loop-at.fails
      (its_turn c.loop-at.at (c.loop-at.at + 1) c.args.site c.args.fails c.loop-at.fails (omega arith) c.loop-at.invariant.listed)
      c.fails_at-listed.ensures.its c.fails_at-listed.ensures.other)));
  listed = λ k low is. (c.fails_at-listed.ensures.other (λ e. omega (arith, low, is, e))).1
      ∙ c.loop-at.invariant.listed k (omega (arith, low)) is;
}
