-- What a refusal is not.
use Rattle.std.proofs.Common.{◌≡◌, ◌≤◌, ◌∙◌, ℕ, Bool, false, leb, sym, arith}
use Rattle.std.proofs.lemmas.Bool.{leb-false}
use Rattle.std.specs.Prelude.{Err, Ok, Result}
use Rattle.e3_node.specs.Batched.{OnlyForMemory}
use Rattle.e3_node.specs.declared.fault.InputFault.{InputFault}
use Rattle.e3_node.specs.declared.fault.InputFault.TheVariants as input_fault

-- a history that is not full has a place left
pub not_full : (full : Bool) (most n : ℕ) → full ≡ leb most n → full ≡ false → most ≤ n → ⊥
not_full full most n is not_so all = let less = leb-false most n (sym is ∙ not_so) in omega (arith, less, all)

-- the fault is want of memory
pub for_memory : {A : Type 0} (r : Result A InputFault) (fault : InputFault) → OnlyForMemory r → r ≡ Err fault → fault ≡ input_fault.NoMemory
for_memory (Ok done) fault never is = absurd cc
for_memory (Err input_fault.NoMemory) fault never is = cc
for_memory (Err input_fault.HistoryFull) fault never is = absurd never
for_memory (Err input_fault.Down) fault never is = absurd never
for_memory (Err (input_fault.Fell why)) fault never is = absurd never

-- and so it is no other
pub same_memory : {A : Type 0} (r : Result A InputFault) (fault other : InputFault) → fault ≡ input_fault.NoMemory → r ≡ Err fault → r ≡ Err other → other ≡ input_fault.NoMemory
same_memory r fault other memory is told = cc
