-- Owners, marks, and how a chronicle may go on. Owners are the numbers from 0 to last.
use Rattle.std.specs.Prelude.{◌≡◌, ℕ, zero, suc, ◌+◌, ◌<◌, ◌≤◌, Bool, true, cond, eqb, ltb, List, [], ◌∷◌, ◌++◌, length, All, MatchBool}

-- how often o stands in the list
abbrev pub count_of : ℕ → List ℕ → ℕ
count_of o [] = 0
count_of o (p ∷ ps) = cond (eqb p o) 1 0 + count_of o ps

-- the list without the first o in it
abbrev pub without : ℕ → List ℕ → List ℕ
without o [] = []
without o (p ∷ ps) = cond (eqb p o) ps (p ∷ without o ps)

-- the numbers from n down to 0
abbrev pub down_from : ℕ → List ℕ
down_from zero = 0 ∷ []
down_from (suc n) = suc n ∷ down_from n

module _ {M : Type 0} where
  -- the longer of two lists, the first where they are as long
  abbrev pub longer : List M → List M → List M
  longer xs ys = cond (ltb (length xs) (length ys)) ys xs

module _ {M : Type 0} (belongs : M → ℕ → Bool) where
  -- the mark belongs to some owner, and to none of these
  abbrev pub IsForeign : ℕ → List ℕ → M → Type 0
  IsForeign last owners m = ((o : ℕ) × (o ≤ last) × (belongs m o ≡ true)) × ((o : ℕ) → belongs m o ≡ true → count_of o owners ≡ 0)

  -- the mark belongs to one of these owners, and to no other
  abbrev pub IsOwn : ℕ → List ℕ → M → Type 0
  IsOwn last owners m = ((o : ℕ) × (0 < count_of o owners) × (belongs m o ≡ true)) × ((o : ℕ) → o ≤ last → belongs m o ≡ true → 0 < count_of o owners)

  -- the chronicle begins with what was seen, and no mark behind that belongs to one of the owners
  abbrev pub ExtendsByOthers : ℕ → List ℕ → List M → List M → Type 0
  ExtendsByOthers last owners seen chronicle = (more : List M) × (chronicle ≡ seen ++ more) × All (IsForeign last owners) more

  -- the chronicle is what was seen, and behind that marks of the owners alone
  abbrev pub ExtendsByOwners : ℕ → List ℕ → List M → List M → Type 0
  ExtendsByOwners last owners seen chronicle = (more : List M) × (chronicle ≡ seen ++ more) × All (IsOwn last owners) more

  -- of two chronicles that were seen the longer begins with the shorter, and no mark behind that belongs to one of the owners that had seen the shorter
  abbrev pub LongerExtends : ℕ → List ℕ → List M → List ℕ → List M → Type 0
  LongerExtends last owners seen owners2 seen2 = MatchBool (ltb (length seen) (length seen2)) (ExtendsByOthers last owners seen seen2) (ExtendsByOthers last owners2 seen2 seen)
