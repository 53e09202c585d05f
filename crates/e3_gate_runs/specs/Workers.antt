-- What workers have and do.
use Rattle.std.specs.Prelude.{◌≡◌, ℕ, zero, suc, ◌<◌, ◌≤◌, true, List, [], ◌∷◌, ◌++◌, length, Option, Some, None, slice_index_or}
use Rattle.atomic_table.specs.Seated.{TableId}
use Rattle.e3_turn.specs.Chronicles.{down_from, without}
use Rattle.e3_turn.specs.Passes.{PassOf, IsIdle, owners_of, last_of, seen_by}
use Rattle.e3_gate_runs.specs.declared.turns.journal.Mark.{Mark}
use Rattle.e3_gate_runs.specs.declared.turns.worker.Worker.{Worker}
use Rattle.e3_gate_runs.specs.Marks.{marks_of, numbered}

-- a pass of this lock, for one owner
pub record IsPassFor (lock : TableId) (owner : ℕ) (p : PassOf (List Mark) Mark) : Type 0 where
  pub idle : IsIdle lock p
  pub owner_is : owners_of p ≡ owner ∷ []
  pub below : owner ≤ last_of p

abbrev pub HasPass : TableId → Worker → Type 0
HasPass lock w = (p : PassOf (List Mark) Mark) × (w.pass ≡ Some p) × IsPassFor lock w.owner p

abbrev pub seen_in : Option (PassOf (List Mark) Mark) → List Mark
seen_in None = []
seen_in (Some p) = seen_by p

-- what the worker's pass has seen
abbrev pub seen_of : Worker → List Mark
seen_of w = seen_in w.pass

-- a worker that has put nothing yet
abbrev pub CanWork : TableId → Worker → Type 0
CanWork lock w = HasPass lock w × (marks_of w.owner (seen_of w) ≡ [])

-- the worker has put its marks, all of them where it is done
abbrev pub Worked : TableId → Worker → Worker → Type 0
Worked lock before after = HasPass lock after × (after.owner ≡ before.owner) × (after.count ≡ before.count)
    × ((n : ℕ) × (marks_of before.owner (seen_of after) ≡ numbered before.owner 0 n) × (after.done ≡ true → n ≡ before.count))

abbrev pub AllWorked : TableId → List Worker → List Worker → Type 0
AllWorked lock xs ys = (i : ℕ) (d : Worker) → i < length xs → Worked lock (slice_index_or xs i d) (slice_index_or ys i d)

-- the owners that are left of 0 to n, once 1 to i have passes of their own
abbrev pub left_after : ℕ → ℕ → List ℕ
left_after n zero = down_from n
left_after n (suc i) = without (suc i) (left_after n i)

-- the owners of the first pass, once the passes of 1 to i are joined into it
abbrev pub gathered : ℕ → ℕ → List ℕ
gathered n zero = left_after n n
gathered n (suc i) = gathered n i ++ suc i ∷ []

-- a worker with a pass that has seen an empty journal
pub record Dealt (lock : TableId) (before after : Worker) : Type 0 where
  pub pass : HasPass lock after
  pub none : seen_of after ≡ []
  pub owner : after.owner ≡ before.owner
  pub count : after.count ≡ before.count
